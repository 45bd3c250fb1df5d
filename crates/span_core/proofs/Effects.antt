-- What a step does to the spans, in four cases: they stay, one is changed, one is made, or a holder is released.
use Rattle.std.proofs.Common.{◌≡◌, ℕ, ◌<◌, ◌≤◌, true, false, cond, List, [], ◌∷◌, length, get_or, Option, Some, None, refl, sym, ap, ◌∙◌, inl, inr, arith}
use Rattle.std.specs.Prelude.{◌⊎◌, is_some}
use Rattle.std.proofs.lemmas.Bool.{cases_Bool, cases_lt, false≢true}
use Rattle.std.proofs.lemmas.List.{get_or_past}
use Rattle.std.proofs.lemmas.List.Sums.{get_or-le-sum_by}
use Rattle.span_id.specs.Meta.{KeyValue}
use Rattle.span_id.specs.Ids.{has}
use Rattle.span_layers.specs.Filter.{Filter, admission_set}
use Rattle.span_forest.specs.declared.span.Holder.{Holder}
use Rattle.span_forest.specs.declared.span.Holder.TheVariants.{Handle, Entry}
use Rattle.span_forest.specs.Node.{Node, with_fields}
use Rattle.span_forest.specs.Spans.{Spans, find, IsOpen, with_entry, with_change}
use Rattle.span_forest.specs.Count.{holders}
use Rattle.span_forest.specs.Holders.{held_in, with_more}
use Rattle.span_forest.specs.Release.{without_holder, closing_list, spans_left}
use Rattle.span_core.specs.World.{World, IsWorld, stack_of, workers_inside}
use Rattle.span_outlet.specs.Request.{Request, new_span, clone_span, enter, exit, try_close, record_fields, event, Answer, made, cloned, entered, exited, released, recorded, told}
use Rattle.span_core.specs.Step.{Changes, is_open_parent, stays_inside}
use Rattle.span_core.specs.History.{id_issued}
use Rattle.span_core.specs.ClosedSpans.{closed_by, spans_before_closing, gives_back}
use Rattle.span_core.proofs.Deciding.{held_from}
use Rattle.span_core.proofs.Steps.{answered, exit_closes, release_closes}

-- a change of a span that takes no holder and leaves its parent, its admission set and what decides that
pub record IsMild (f : Node → Node) : Type 0 where
  pub parent : (node : Node) → (f node).parent ≡ node.parent
  pub holders : (node : Node) → holders node ≤ holders (f node)
  pub bits : (node : Node) → (f node).bits ≡ node.bits
  pub target : (node : Node) → (f node).target ≡ node.target
  pub level : (node : Node) → (f node).level ≡ node.level

-- a call that closes no span and issues no id
pub record IsQuiet (old : World) (request : Request) (answer : Answer) : Type 0 where
  pub closed : closed_by answer ≡ []
  pub left : spans_before_closing old request ≡ old.spans
  pub issued : id_issued answer ≡ []

pub record Makes (rules : List Filter) (ids : List ℕ) (old : World) (request : Request) (answer : Answer) (new : World) : Type 0 where
  pub id : ℕ
  pub node : Node
  pub fresh : has ids id ≡ false
  pub parent : (p : ℕ) → node.parent ≡ Some p → IsOpen old.spans p
  pub held : 0 < holders node
  pub bits : node.bits ≡ admission_set rules node.target node.level
  pub other : gives_back request ≡ false
  pub spans : new.spans ≡ with_entry old.spans id node
  pub closed : closed_by answer ≡ []
  pub left : spans_before_closing old request ≡ old.spans
  pub issued : id_issued answer ≡ id ∷ []

pub record Frees (old : World) (request : Request) (answer : Answer) (new : World) : Type 0 where
  pub id : ℕ
  pub holder : Holder
  pub there : IsWorld old → IsOpen old.spans id
  pub known : IsOpen old.spans id ⊎ ((worker : ℕ) × (has (stack_of old worker) id ≡ true))
  pub spans : new.spans ≡ spans_left old.spans id holder
  pub closed : closed_by answer ≡ closing_list old.spans id holder
  pub left : spans_before_closing old request ≡ without_holder old.spans id holder
  pub issued : id_issued answer ≡ []

pub data Effect (rules : List Filter) (ids : List ℕ) (old : World) (request : Request) (answer : Answer) (new : World) : Type 0 where
  stays : new.spans ≡ old.spans → IsQuiet old request answer → Effect rules ids old request answer new
  changes : (f : Node → Node) (id : ℕ) → IsMild f → gives_back request ≡ false → new.spans ≡ with_change f old.spans id → IsQuiet old request answer → Effect rules ids old request answer new
  makes : Makes rules ids old request answer new → Effect rules ids old request answer new
  frees : Frees old request answer new → Effect rules ids old request answer new

one_handle_more : IsMild (with_more Handle)
one_handle_more = record { parent = λ n. refl; holders = λ n. omega arith; bits = λ n. refl; target = λ n. refl; level = λ n. refl }

one_entry_more : IsMild (with_more Entry)
one_entry_more = record { parent = λ n. refl; holders = λ n. omega arith; bits = λ n. refl; target = λ n. refl; level = λ n. refl }

fields_more : (fields : List KeyValue) → IsMild (with_fields fields)
fields_more fields = record { parent = λ n. refl; holders = λ n. omega arith; bits = λ n. refl; target = λ n. refl; level = λ n. refl }

pub open_held : (spans : Spans) (id : ℕ) (holder : Holder) → 0 < held_in holder (find spans id) → IsOpen spans id
open_held spans id holder held = by_case (find spans id) held where
  by_case : (o : Option Node) → 0 < held_in holder o → is_some o ≡ true
  by_case None h = absurd (omega arith)
  by_case (Some node) h = refl

-- a worker whose stack has the id is one of the workers that are inside it
inside_one : (stacks : List (List ℕ)) (worker id : ℕ) → has (get_or stacks worker []) id ≡ true → 0 < workers_inside stacks id
inside_one stacks worker id there =
    elim (cases_lt worker (length stacks)) [
      | inl t ↦ (let some = get_or-le-sum_by (λ stack. cond (has stack id) 1 0) stacks worker [] t in let some' = rw there at some in omega (arith, some'))
      | inr t ↦ absurd (false≢true (ap (λ stack. has stack id) (sym (get_or_past stacks worker [] t)) ∙ there))
    ]

-- a span that stands in a worker's stack is open
pub stands_open : (world : World) (worker id : ℕ) → IsWorld world → has (stack_of world worker) id ≡ true → IsOpen world.spans id
stands_open world worker id whole stands =
    open_held world.spans id Entry (let inside = inside_one world.stacks worker id stands in let entries = whole.entered id in omega (arith, inside, entries))

parent_open : (spans : Spans) (o : Option ℕ) → is_open_parent spans o ≡ true → (p : ℕ) → o ≡ Some p → IsOpen spans p
parent_open spans None h p e = cc
parent_open spans (Some q) h p e = (let same : q ≡ p = cc in rw (← same) h)

pub effect : (rules : List Filter) (ids : List ℕ) (old : World) (request : Request) (answer : Answer) (new : World) → Changes rules ids old request answer new → Effect rules ids old request answer new
effect rules ids old (new_span worker meta fields parent) (made id) new h =
    makes (record {
      id = id;
      node = _;
      fresh = h.id_is_new.1;
      parent = parent_open old.spans parent h.known;
      held = omega arith;
      bits = refl;
      other = refl;
      spans = ap (λ (w : World). w.spans) h.after;
      closed = refl;
      left = refl;
      issued = refl;
    })
effect rules ids old (clone_span worker id) cloned new h =
    changes (with_more Handle) id one_handle_more refl (ap (λ (w : World). w.spans) h.after) (record { closed = refl; left = refl; issued = refl })
effect rules ids old (enter worker id) (entered true) new h =
    changes (with_more Entry) id one_entry_more refl (ap (λ (w : World). w.spans) h.after) (record { closed = refl; left = refl; issued = refl })
effect rules ids old (enter worker id) (entered false) new h =
    stays (ap (λ (w : World). w.spans) h.after) (record { closed = refl; left = refl; issued = refl })
effect rules ids old (exit worker id) (exited closed) new h =
    elim (cases_Bool (stays_inside old worker id)) [
      | inl t ↦ stays
          (ap (λ (w : World). w.spans) h.after ∙ rw t refl)
          (record { closed = exit_closes h ∙ rw t refl; left = rw t refl; issued = refl })
      | inr t ↦ frees (record {
        id = id;
        holder = Entry;
        there = λ whole. stands_open old worker id whole h.inside;
        known = inr (worker, h.inside);
        spans = ap (λ (w : World). w.spans) h.after ∙ rw t refl;
        closed = exit_closes h ∙ rw t refl;
        left = rw t refl;
        issued = refl;
      })
    ]
effect rules ids old (try_close worker id) (released closed) new h =
    frees (record {
      id = id;
      holder = Handle;
      there = λ whole. open_held old.spans id Handle (held_from old.spans id h.known);
      known = inl (open_held old.spans id Handle (held_from old.spans id h.known));
      spans = ap (λ (w : World). w.spans) h.after;
      closed = release_closes h;
      left = refl;
      issued = refl;
    })
effect rules ids old (record_fields worker id fields) recorded new h =
    changes (with_fields fields) id (fields_more fields) refl (ap (λ (w : World). w.spans) h.after) (record { closed = refl; left = refl; issued = refl })
effect rules ids old (event worker meta message fields parent) told new h =
    stays (ap (λ (w : World). w.spans) h.after) (record { closed = refl; left = refl; issued = refl })
effect rules ids old _ _ new h = absurd (false≢true (answered h))
