use Rattle.std.proofs.Common.{◌≡◌, ◌∙◌, ◌<◌, Bool, ◌&&◌, ◌||◌, false, true≢false, List, [], ◌∷◌, true, not, length, get_or, map, sym, ap, refl, subst, arith}
use Rattle.std.proofs.lemmas.Bool.{leb-false, lt-ltb}
use Rattle.span_id.specs.Ids.{has}
use Rattle.span_id.specs.declared.limits.Limits.{Limits}
use Rattle.span_layers.specs.declared.note.Kind.TheVariants.{OnEnter}
use Rattle.span_layers.specs.Note.{plain_note}
use Rattle.span_forest.specs.declared.span.Holder.TheVariants.{Handle}
use Rattle.span_forest.specs.Count.{reference_count}
use Rattle.span_forest.specs.Holders.{IsHeld}
use Rattle.span_stack.specs.Stack.{Stack, ids_of_each}
use Rattle.span_outlet.specs.Request.{enter, entered}
use Rattle.span_core.specs.World.{stack_of}
use Rattle.span_core.specs.Step.{has_handle}
use Rattle.span_core.specs.Core.{CoreView, IsDue, is_below_max, may_count, may_send}
use Rattle.span_core.specs.Happening.{at_span, notes_of, notes_of_all}
use Rattle.span_core.proofs.Made.{none_made}
use Rattle.span_core.proofs.Judging.{due_from}
use Rattle.span_core.proofs.Soundness.{IsOneMore, put_on, sound_kept}
use Rattle.span_core.proofs.Accepting.{step_enter, none_inside}
use Rattle.span_core.proofs.Telling.{one_happening}
use Rattle.span_core.proofs.Clauses.{accepted_by}
use Rattle.span_core.proofs.Remembering.{remembers_entered}
use Rattle.span_core.proofs.KeptSummaries.{summary_entered}
use Rattle.span_core.proofs.Core.enter.Given as given
use Rattle.span_core.proofs.Core.enter.Goals as goal
use Rattle.span_core.proofs.Core.enter.Goals.{After-put, then-first, else-first}

within : (g : given.Over) (c : After-put g) → c.args.worker < length (ids_of_each c.self.inside.stacks.items)
within g c = omega (arith, c.requires, ap (λ (v : CoreView). v.limits.workers) c.self.view_is, c.self.invariant.0.stacks_are)

held : (g : given.Over) (c : After-put g) → IsHeld c.self.inside.forest.spans c.args.id Handle
held g c = c.in-Some.ensures.held

first : (g : given.Over) (c : After-put g) → c.is_outside-first.result ≡ not (has (get_or (ids_of_each c.self.inside.stacks.items) c.args.worker []) c.args.id)
first g c =
    c.is_outside-first.ensures ∙ ap (λ (ss : List Stack). not (has (get_or (ids_of_each ss) c.args.worker []) c.args.id)) c.as_slice.ensures.value

or_first : (a b : Bool) → a ≡ true → (a || b) ≡ true
or_first a b h = rw h refl

or_second : (a b : Bool) → b ≡ true → (a || b) ≡ true
or_second true b h = refl
or_second false b h = h

not_false : (b : Bool) → not b ≡ false → b ≡ true
not_false true h = refl
not_false false h = absurd (true≢false h)

counts : (g : given.Over) (c : After-put g) → (may_count c.args.self.now (enter c.args.worker c.args.id) && may_send c.args.self.now) ≡ true
counts g c =
    let send : may_send c.args.self.now ≡ true = lt-ltb _ _ (omega (arith, c.self.invariant.0.calls_are, ap (λ (v : CoreView). length v.sent) c.self.view_is)) in
    let may : (has (get_or (ids_of_each c.self.inside.stacks.items) c.args.worker []) c.args.id || is_below_max c.self.inside.limits.max_count c.self.inside.forest.spans c.args.id) ≡ true =
    elim c.if-first.branch [
      | then-first w ↦
          (let below = leb-false _ _ (sym w.full-is ∙ c.if-full.false) in
          or_second _ _ (lt-ltb (reference_count c.self.inside.forest.spans c.args.id) c.self.inside.limits.max_count (omega (arith, below, c.in-Some.ensures.count, ap (λ (limits : Limits). limits.max_count) w.limits.ensures.value))))
      | else-first w ↦ or_first _ _ (not_false _ (sym (first g c) ∙ w.if-first.false))
    ] in
    subst (λ (v : CoreView). ((has (stack_of v.world c.args.worker) c.args.id || is_below_max v.limits.max_count v.world.spans c.args.id) && may_send c.args.self.now) ≡ true) c.self.view_is (rw (may, send) refl)

due : (g : given.Over) (c : After-put g) → IsDue c.args.self.now (enter c.args.worker c.args.id)
due g c = due_from c.args.self.now (enter c.args.worker c.args.id) (record {
  named = refl;
  wanted = refl;
  known = subst (λ (v : CoreView). has_handle v.world.spans c.args.id ≡ true) c.self.view_is c.in-Some.ensures.known;
  counts = counts g c;
  slot = refl;
  inside = refl;
})

told : (g : given.Over) (c : After-put g) → map plain_note c.in_ok-notes.notes.items
    ≡ notes_of_all c.self.inside.rules c.args.worker (at_span c.self.inside.forest.spans OnEnter c.args.id [] ∷ [])
told g c =
    one_happening c.self.inside.rules c.args.worker (at_span c.self.inside.forest.spans OnEnter c.args.id []) [] _ refl
    (c.in_ok-notes.ensures.notes
    ∙ ap (λ fields. notes_of c.self.inside.rules c.args.worker (at_span c.self.inside.forest.spans OnEnter c.args.id fields)) c.none.ensures)

call : (g : given.Over) (c : After-put g) → IsOneMore c.self.inside.rules (g.O.Outlet.sent c.self.inside.outlet) (record { spans = c.self.inside.forest.spans; stacks = ids_of_each c.self.inside.stacks.items })
    (record { request = enter c.args.worker c.args.id; answer = entered c.is_outside-first.result; notes = map plain_note c.in_ok-notes.notes.items })
    (record { spans = c.keep_first.new.forest.spans; stacks = ids_of_each c.push_at.new.stacks.items }) (g.O.Outlet.sent c.put.new.self)
call g c = record {
  step = step_enter _ _ _ _ _ _ c.args.worker c.args.id _ _ (within g c) (held g c) (first g c)
      (ap (λ f. f.spans) c.keep_first.ensures) c.in_ok-push_at.ensures.pushed (told g c);
  sent = put_on _ _ _ _ c.in_ok-ask.ensures.sent c.put.ensures.sent;
}

pub invariant_of-self-2 : goal.invariant_of-self-2
invariant_of-self-2 g c = (
  sound_kept _ _ _ _ _ _ _ _ _ _ _ [] c.self.invariant.0 (call g c) refl refl c.keep_first.ensures,
  none_made _ _ _ _ c.self.invariant.1 refl (call g c).sent,
  remembers_entered _ _ c.is_outside-first.result c.args.id _ c.keep_first.ensures c.in_ok-notes.ensures.remembers,
  summary_entered _ _ _ _ _ c.is_outside-first.result c.args.worker c.args.id (ap (λ f. f.spans) c.keep_first.ensures) (within g c) c.in_ok-push_at.ensures.pushed c.self.invariant.3,
)

pub returns-clause-accepted : goal.returns-clause-accepted
returns-clause-accepted g c =
    accepted_by _ _ _ _ _ _ c.self.view_is (due g c) (call g c)
    (record {
      limits = refl;
      rules = refl;
      times_full = c.put.ensures.times_full ∙ c.in_ok-ask.ensures.times_full;
      forms = c.put.ensures.forms ∙ c.in_ok-ask.ensures.forms;
      name = c.put.ensures.name ∙ c.in_ok-ask.ensures.name;
    })

pub is_outside-first-requires-clause-none : goal.is_outside-first-requires-clause-none
is_outside-first-requires-clause-none g c none =
    let within : c.args.worker < length (ids_of_each c.self.inside.stacks.items) = omega (arith, c.requires, ap (λ (v : CoreView). v.limits.workers) c.self.view_is, c.self.invariant.0.stacks_are) in
    ap (λ (ss : List Stack). has (get_or (ids_of_each ss) c.args.worker []) c.args.id) c.as_slice.ensures.value
    ∙ none_inside _ _ c.args.worker c.args.id c.self.invariant.0.world within (sym c.in-Some.ensures.entries ∙ none)
