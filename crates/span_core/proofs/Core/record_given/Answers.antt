use Rattle.std.proofs.Common.{◌≡◌, ◌∙◌, ◌<◌, List, [], true, length, map, sym, ap, refl, subst, arith}
use Rattle.std.specs.Prelude.{◌∷◌, ◌++◌}
use Rattle.std.proofs.lemmas.Bool.{lt-ltb}
use Rattle.span_layers.specs.declared.note.Kind.TheVariants.{OnRecord}
use Rattle.span_id.specs.Meta.{KeyValue}
use Rattle.span_layers.specs.Note.{plain_note}
use Rattle.span_forest.specs.declared.span.Holder.TheVariants.{Handle}
use Rattle.span_forest.specs.Node.{with_fields}
use Rattle.span_forest.specs.Spans.{with_change}
use Rattle.span_forest.specs.Holders.{IsHeld}
use Rattle.span_stack.specs.Stack.{ids_of_each}
use Rattle.span_outlet.specs.Request.{record_fields, recorded}
use Rattle.span_core.specs.Step.{has_handle}
use Rattle.span_core.specs.Core.{CoreView, IsDue, are_keys}
use Rattle.span_core.specs.Happening.{at_span, notes_of, notes_of_all}
use Rattle.span_core.specs.inside.Given.{fields_given}
use Rattle.span_core.proofs.Made.{none_made}
use Rattle.span_core.proofs.Judging.{due_from}
use Rattle.span_core.proofs.Soundness.{IsOneMore, sound_kept}
use Rattle.span_core.proofs.Accepting.{step_record}
use Rattle.span_core.proofs.Telling.{one_happening}
use Rattle.span_core.proofs.Clauses.{accepted_by}
use Rattle.span_core.proofs.KeptSummaries.{summary_changed}
use Rattle.span_core.proofs.Remembering.{more_fields, remembers_changed}
use Rattle.span_core.proofs.Core.record_given.Given as given
use Rattle.span_core.proofs.Core.record_given.Goals as goal
use Rattle.span_core.proofs.Core.record_given.Goals.{After-put}

within : (g : given.Over) (c : After-put g) → c.args.worker < length (ids_of_each c.self.inside.stacks.items)
within g c = omega (arith, c.requires, ap (λ (v : CoreView). v.limits.workers) c.self.view_is, c.self.invariant.0.stacks_are)

held : (g : given.Over) (c : After-put g) → IsHeld c.self.inside.forest.spans c.args.id Handle
held g c = c.in-Some.ensures.held

named : (g : given.Over) (c : After-put g) → are_keys (fields_given c.args.fields) ≡ true
named g c = subst (λ (fields : List KeyValue). are_keys fields ≡ true) c.read.ensures (sym c.are_keys.ensures ∙ c.if-not-are_keys.false)

due : (g : given.Over) (c : After-put g) → IsDue c.args.self.now (record_fields c.args.worker c.args.id (fields_given c.args.fields))
due g c = due_from c.args.self.now (record_fields c.args.worker c.args.id (fields_given c.args.fields)) (record {
  named = named g c;
  wanted = refl;
  known = subst (λ (v : CoreView). has_handle v.world.spans c.args.id ≡ true) c.self.view_is c.in-Some.ensures.known;
  counts = lt-ltb _ _ (omega (arith, c.self.invariant.0.calls_are, ap (λ (v : CoreView). length v.sent) c.self.view_is));
  slot = refl;
  inside = refl;
})

told : (g : given.Over) (c : After-put g) → map plain_note c.in_ok-recorded.recorded.notes.items
    ≡ notes_of_all c.self.inside.rules c.args.worker (at_span c.self.inside.forest.spans OnRecord c.args.id (fields_given c.args.fields) ∷ [])
told g c =
    one_happening c.self.inside.rules c.args.worker (at_span c.self.inside.forest.spans OnRecord c.args.id (fields_given c.args.fields)) [] _ refl
    (c.in_ok-recorded.ensures.notes
    ∙ ap (λ fields. notes_of c.self.inside.rules c.args.worker (at_span c.self.inside.forest.spans OnRecord c.args.id fields)) c.in_ok-kept.ensures.fields)

-- the forest has the caller's fields
forest_is : (g : given.Over) (c : After-put g) → c.append_fields.new.forest
    ≡ record c.self.inside.forest { spans = with_change (with_fields (fields_given c.args.fields)) c.self.inside.forest.spans c.args.id }
forest_is g c =
    c.in_ok-append_fields.ensures.forest
    ∙ ap (λ fields. record c.self.inside.forest { spans = with_change (with_fields fields) c.self.inside.forest.spans c.args.id }) c.in_ok-kept.ensures.fields

call : (g : given.Over) (c : After-put g) → IsOneMore c.self.inside.rules (g.O.Outlet.sent c.self.inside.outlet) (record { spans = c.self.inside.forest.spans; stacks = ids_of_each c.self.inside.stacks.items })
    (record { request = record_fields c.args.worker c.args.id (fields_given c.args.fields); answer = recorded; notes = map plain_note c.in_ok-recorded.recorded.notes.items })
    (record { spans = c.append_fields.new.forest.spans; stacks = ids_of_each c.self.inside.stacks.items }) (g.O.Outlet.sent c.put.new.self)
call g c = record {
  step = step_record _ _ _ _ _ c.args.worker c.args.id (fields_given c.args.fields) _ (within g c) (held g c) (ap (λ f. f.spans) (forest_is g c)) (told g c);
  sent = c.put.ensures.sent ∙ (λ j. c.in_ok-ask.ensures.sent j ++ (record { request = (c.in_ok-recorded.ensures.call ∙ ap (λ fields. record_fields c.args.worker c.args.id fields) c.in_ok-kept.ensures.fields) j; answer = recorded; notes = map plain_note c.in_ok-recorded.recorded.notes.items }) ∷ []);
}

pub invariant_of-self-2 : goal.invariant_of-self-2
invariant_of-self-2 g joined =
    let c = (goal.at.invariant_of-self-2 g joined).After-put in (
      sound_kept _ _ _ _ _ _ _ _ _ _ _ [] c.self.invariant.0 (call g c) refl refl (forest_is g c),
      none_made _ _ _ _ c.self.invariant.1 refl (call g c).sent,
      remembers_changed _ _ _ c.args.id _ (more_fields (fields_given c.args.fields)) (forest_is g c) c.in_ok-recorded.ensures.remembers,
      summary_changed _ _ _ _ _ c.args.id (more_fields (fields_given c.args.fields)) (ap (λ f. f.spans) (forest_is g c)) c.self.invariant.3,
    )

pub returns-clause-accepted : goal.returns-clause-accepted
returns-clause-accepted g joined =
    let c = (goal.at.returns-clause-accepted g joined).After-put in
    accepted_by _ _ _ _ _ _ c.self.view_is (due g c) (call g c)
    (record {
      limits = refl;
      rules = refl;
      times_full = c.put.ensures.times_full ∙ c.in_ok-ask.ensures.times_full;
      forms = c.put.ensures.forms ∙ c.in_ok-ask.ensures.forms;
      name = c.put.ensures.name ∙ c.in_ok-ask.ensures.name;
    })
