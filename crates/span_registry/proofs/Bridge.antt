-- What the seats ask of the core, from what the core's calls promise.
use Rattle.std.proofs.Common.{◌≡◌, ◌≢◌, ℕ, ◌+◌, ◌<◌, Bool, true, false, cond, not, ◌&&◌, ◌||◌, List, [], ◌∷◌, Option, Some, None, refl, sym, ap, ◌∙◌, subst, inl, inr, arith}
use Rattle.std.specs.Prelude.{if◌then◌else◌, ◌==◌, is_some, IsSome}
use Rattle.std.specs.Option.{option_map}
use Rattle.std.proofs.lemmas.Bool.{cases_Bool, false≢true}
use Rattle.std.proofs.lemmas.Bool.Decides.{eqb_tells}
use Rattle.span_id.specs.Id.{slot_of, IsId}
use Rattle.span_id.specs.Meta.{KeyValue, PlainMeta}
use Rattle.span_id.specs.Ids.{has}
use Rattle.span_layers.specs.Filter.{admission_set}
use Rattle.span_forest.specs.declared.span.Holder.{Holder}
use Rattle.span_forest.specs.declared.span.Holder.TheVariants.{Handle, Entry}
use Rattle.span_forest.specs.Node.{Node, new_node}
use Rattle.span_forest.specs.Spans.{Spans, find, IsOpen, with_change, with_entry}
use Rattle.span_forest.specs.Live.{is_live}
use Rattle.span_forest.specs.Holders.{IsHeld, held_in, with_more, with_less}
use Rattle.span_forest.specs.Keep.{with_holder}
use Rattle.span_forest.specs.Release.{without_holder, closing_list, spans_left}
use Rattle.span_forest.proofs.Nodes.{held_open, find-changed_same, find-changed_other, IsOpen-changed}
use Rattle.span_forest.proofs.Adds.{find-with_same, find-with_other}
use Rattle.span_forest.proofs.Spared.{kept_passes, passing_kept, not_some, none_open, gone_exactly, listed_open}
use Rattle.span_forest.proofs.Upheld.{IsUpheld}
use Rattle.span_outlet.specs.Request.{clone_span, cloned, new_span, made}
use Rattle.span_core.specs.World.{World}
use Rattle.span_core.specs.Step.{is_open}
use Rattle.span_core.specs.History.{IsLegal}
use Rattle.span_core.specs.Core.{CoreView, IsAccepted}
use Rattle.span_core.proofs.Deciding.{held_from}
use Rattle.span_core.proofs.Legal.{whole}
use Rattle.span_core.proofs.Holds.{handles-released_same, handles-released_other, handles-left}
use Rattle.span_seats.specs.OpenSpans.{IsSound, IsAdded, IsCloned, IsReleased}
use Rattle.span_registry.specs.inside.Seated.{spans_seen}

-- no two open ids have one slot, and each is in the layout
pub sound_of : (spans : Spans) → ((id other : ℕ) → IsOpen spans id → IsOpen spans other → slot_of id ≡ slot_of other → id ≡ other) → ((id : ℕ) → IsOpen spans id → IsId id) → IsSound (spans_seen spans)
sound_of spans one layout = record {
  held = λ id h. held_open spans id Handle h;
  positive = λ id o. (layout id o).0;
  alone = λ a b p q e. one a b p q e;
}

-- ---- one handle more

pub open-changed : (f : Node → Node) (spans : Spans) (id x : ℕ) → is_open (with_change f spans id) x ≡ is_open spans x
open-changed f spans id x =
    elim (eqb_tells x id) [
      | inl t ↦ subst (λ (k : ℕ). is_open (with_change f spans id) k ≡ is_open spans k) (sym t.1) (ap is_some (find-changed_same f spans id) ∙ mapped (find spans id))
      | inr t ↦ ap is_some (find-changed_other f spans id x t.1)
    ]
  where
    mapped : (o : Option Node) → is_some (option_map f o) ≡ is_some o
    mapped None = refl
    mapped (Some node) = refl

handles-more : (spans : Spans) (id x : ℕ) → IsHeld spans id Handle → held_in Handle (find (with_holder spans id Handle) x) ≡ (if id == x then 1 else 0) + held_in Handle (find spans x)
handles-more spans id x held =
    elim (eqb_tells id x) [
      | inl t ↦ rw t.0 (subst (λ (k : ℕ). held_in Handle (find (with_holder spans id Handle) k) ≡ 1 + held_in Handle (find spans k)) t.1 (ap (held_in Handle) (find-changed_same (with_more Handle) spans id) ∙ more (find spans id) held))
      | inr t ↦ rw t.0 (let q = ap (held_in Handle) (find-changed_other (with_more Handle) spans id x (λ e. t.1 (sym e))) in omega (arith, q))
    ]
  where
    more : (o : Option Node) → 0 < held_in Handle o → held_in Handle (option_map (with_more Handle) o) ≡ 1 + held_in Handle o
    more None h = absurd (omega (arith, h))
    more (Some node) h = omega arith

pub cloned_of : (core new : CoreView) (worker id : ℕ) → IsAccepted core (clone_span worker id) cloned new
    → IsCloned id (spans_seen core.world.spans) (spans_seen new.world.spans)
cloned_of core new worker id accepted =
    let after : new.world.spans ≡ with_holder core.world.spans id Handle = ap (λ (v : World). v.spans) accepted.step.changes.after in
    record {
      rest = λ x. ap (λ (s : Spans). is_open s x) after ∙ open-changed (with_more Handle) core.world.spans id x;
      one_more = λ x. ap (λ (s : Spans). held_in Handle (find s x)) after ∙ handles-more core.world.spans id x (held_from core.world.spans id accepted.step.changes.known);
    }

-- ---- a holder given back

is_false : (b : Bool) → (b ≡ true → ⊥) → b ≡ false
is_false true h = absurd (h refl)
is_false false h = refl

left_open : (spans : Spans) (id : ℕ) (holder : Holder) (x : ℕ) → IsOpen (spans_left spans id holder) x → IsOpen spans x
left_open spans id holder x o =
    let less = without_holder spans id holder in
    IsOpen-changed (with_less holder) spans id x (subst IsSome (passing_kept (is_live less) less x (kept_passes (is_live less) less x o)) o)

open-left : (spans : Spans) → IsUpheld spans → (id : ℕ) (holder : Holder) (x : ℕ) → is_open (spans_left spans id holder) x ≡ (is_open spans x && not (has (closing_list spans id holder) x))
open-left spans up id holder x =
    elim (cases_Bool (is_open spans x)) [
      | inl o ↦ rw o (let exact = gone_exactly spans up.forest up.positive id holder x o in elim (cases_Bool (has (closing_list spans id holder) x)) [
        | inl t ↦ rw t (ap is_some (exact.0 t))
        | inr t ↦ rw t (still (find (spans_left spans id holder) x) (λ none. false≢true (sym t ∙ exact.1 none)))
      ])
      | inr o ↦ rw o (is_false (is_open (spans_left spans id holder) x) (λ p. false≢true (sym o ∙ left_open spans id holder x p)))
    ]
  where
    still : (o : Option Node) → (o ≡ None → ⊥) → is_some o ≡ true
    still None h = absurd (h refl)
    still (Some node) h = refl

handles-fewer : (spans : Spans) (id x : ℕ) → IsHeld spans id Handle → held_in Handle (find spans x) ≡ (if id == x then 1 else 0) + held_in Handle (find (spans_left spans id Handle) x)
handles-fewer spans id x held =
    elim (eqb_tells id x) [
      | inl t ↦ rw t.0 (subst (λ (k : ℕ). held_in Handle (find spans k) ≡ 1 + held_in Handle (find (spans_left spans id Handle) k)) t.1 (let less = handles-released_same spans id in omega (arith, less, held)))
      | inr t ↦ rw t.0 (let q = handles-released_other spans id x (λ e. t.1 (sym e)) in omega (arith, q))
    ]

-- where spans close, no two that are left have one slot
pub sound_left : (spans : Spans) (id : ℕ) (holder : Holder) → IsSound (spans_seen spans) → IsSound (spans_seen (spans_left spans id holder))
sound_left spans id holder before = record {
  held = λ x h. held_open (spans_left spans id holder) x Handle h;
  positive = λ x o. before.positive x (left_open spans id holder x o);
  alone = λ x y p q e. before.alone x y (left_open spans id holder x p) (left_open spans id holder y q) e;
}

pub released_of : (spans : Spans) (id : ℕ) → IsUpheld spans → IsHeld spans id Handle
    → IsReleased true id (closing_list spans id Handle) (spans_seen spans) (spans_seen (spans_left spans id Handle))
released_of spans id up held =
    let closed = closing_list spans id Handle in
    record {
      fewer = λ x. handles-fewer spans id x held;
      rest = λ x. open-left spans up id Handle x;
      were = λ x t. listed_open spans up.forest up.positive id Handle (held_open spans id Handle held) x t;
    }

and_all : (b : Bool) → b ≡ (b && not false)
and_all true = refl
and_all false = refl

-- the spans after an exit, which may leave the entry
abbrev pub spans_exited : Spans → ℕ → Bool → Spans
spans_exited spans id stays = cond stays spans (spans_left spans id Entry)

pub sound_exited : (spans : Spans) (id : ℕ) (stays : Bool) → IsSound (spans_seen spans) → IsSound (spans_seen (spans_exited spans id stays))
sound_exited spans id true before = before
sound_exited spans id false before = sound_left spans id Entry before

pub exited_of : (spans : Spans) (id : ℕ) → IsUpheld spans → IsOpen spans id → (stays : Bool)
    → IsReleased false id (cond stays [] (closing_list spans id Entry)) (spans_seen spans) (spans_seen (spans_exited spans id stays))
exited_of spans id up there true = record {
  fewer = λ x. omega arith;
  rest = λ x. and_all (is_open spans x);
  were = λ x t. absurd (false≢true t);
}
exited_of spans id up there false = record {
  fewer = λ x. let q = handles-left spans id x in omega (arith, q);
  rest = λ x. open-left spans up id Entry x;
  were = λ x t. listed_open spans up.forest up.positive id Entry there x t;
}

-- ---- a new span

pub added_of : (core new : CoreView) (worker : ℕ) (meta : PlainMeta) (fields : List KeyValue) (parent : Option ℕ) (id : ℕ)
    → IsLegal core.rules core.limits.workers core.sent core.world
    → ((id other : ℕ) → IsOpen new.world.spans id → IsOpen new.world.spans other → slot_of id ≡ slot_of other → id ≡ other)
    → ((id : ℕ) → IsOpen new.world.spans id → slot_of id < new.limits.slots)
    → IsAccepted core (new_span worker meta fields parent) (made id) new
    → IsAdded id core.limits.slots (spans_seen core.world.spans) (spans_seen new.world.spans)
added_of core new worker meta fields parent id legal one range accepted =
    let w = (whole _ _ _ _ legal).settled in
    let spans = core.world.spans in
    let node = new_node meta fields parent (admission_set core.rules meta.target meta.level) in
    let step = accepted.step.changes in
    let after : new.world.spans ≡ with_entry spans id node = ap (λ (v : World). v.spans) step.after in
    let absent : find spans id ≡ None = not_some (find spans id) (λ o. false≢true (sym step.id_is_new.1 ∙ w.open_issued id o)) in
    let here : find new.world.spans id ≡ Some node = ap (λ (s : Spans). find s id) after ∙ find-with_same spans id node absent in
    let other : (x : ℕ) → x ≢ id → find new.world.spans x ≡ find spans x = λ x ne. ap (λ (s : Spans). find s x) after ∙ find-with_other spans id x node ne in
    let apart : (x : ℕ) → IsOpen spans x → x ≢ id = λ x o e. none_open (find spans id) absent (subst (λ (k : ℕ). IsOpen spans k) e o) in
    record {
      positive = step.id_is_new.0.0;
      slot_in = subst (λ k. slot_of id < k) (ap (λ l. l.slots) accepted.limits) (range id (ap is_some here));
      free = λ x o e. apart x o (one x id (ap is_some (other x (apart x o)) ∙ o) (ap is_some here) e);
      rest = λ x. elim (eqb_tells id x) [
        | inl t ↦ rw t.0 (subst (λ (k : ℕ). is_open new.world.spans k ≡ true) t.1 (ap is_some here))
        | inr t ↦ rw t.0 (ap is_some (other x (λ e. t.1 (sym e))))
      ];
      one_more = λ x. elim (eqb_tells id x) [
        | inl t ↦ rw t.0 (subst (λ (k : ℕ). held_in Handle (find new.world.spans k) ≡ 1 + held_in Handle (find spans k)) t.1 (ap (held_in Handle) here ∙ ap (λ o. 1 + held_in Handle o) (sym absent)))
        | inr t ↦ rw t.0 (let q = ap (held_in Handle) (other x (λ e. t.1 (sym e))) in omega (arith, q))
      ];
    }
