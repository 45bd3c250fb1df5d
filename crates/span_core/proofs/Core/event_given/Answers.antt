use Rattle.std.proofs.Common.{◌≡◌, ◌∙◌, ◌<◌, true, List, [], ◌∷◌, ◌++◌, length, get_or, sym, ap, map, refl, subst, arith}
use Rattle.span_id.specs.Meta.{PlainMeta}
use Rattle.span_layers.specs.Note.{plain_note}
use Rattle.span_layers.specs.Filter.{admission_set}
use Rattle.span_stack.specs.Stack.{Stack, ids_of_each}
use Rattle.span_core.specs.Parent.{parent_named, spans_around}
use Rattle.span_core.specs.Happening.{event_told, notes_of_all}
use Rattle.span_core.specs.Step.{is_open_parent}
use Rattle.span_core.specs.inside.Given.{meta_given, text_given, fields_given}
use Rattle.span_core.specs.inside.Lent.{given_event}
use Rattle.span_outlet.specs.Request.{told}
use Rattle.span_outlet.specs.Batch.{PlainBatch}
use Rattle.span_core.specs.World.{World}
use Rattle.span_core.specs.History.{issued}
use Rattle.span_core.specs.inside.Sound.{IsSound}
use Rattle.span_core.specs.inside.Summary.{IsSummary}
use Rattle.span_core.specs.Core.{CoreView}
use Rattle.span_core.proofs.Made.{none_made}
use Rattle.span_core.proofs.Soundness.{IsOneMore, put_on, sound_kept}
use Rattle.span_core.proofs.Telling.{event_notes}
use Rattle.span_core.proofs.Clauses.{accepted_by}
use Rattle.span_core.proofs.Judging.{tests_of}
use Rattle.span_core.proofs.Core.event_given.Given as given
use Rattle.span_core.proofs.Core.event_given.Goals as goal
use Rattle.span_core.proofs.Core.event_given.Goals.{After-self-1}

notes_told : (g : given.Over) (c : After-self-1 g) → map plain_note c.in_ok-told.told.notes.items ≡ notes_of_all c.self.inside.rules c.args.worker (event_told c.self.inside.rules (record { spans = c.self.inside.forest.spans; stacks = ids_of_each c.self.inside.stacks.items }) c.args.worker (meta_given c.args.given.now.meta) (text_given c.args.given.now.message) (fields_given c.args.given.now.fields) c.args.given.now.parent ∷ [])
notes_told g c =
    event_notes c.self.inside.rules c.args.worker c.self.inside.forest.spans _ _ _ _ (meta_given c.args.given.now.meta) (text_given c.args.given.now.message) (fields_given c.args.given.now.fields) _
    (ap (λ (ss : List Stack). spans_around (get_or (ids_of_each ss) c.args.worker []) c.args.given.now.parent) c.as_slice-stacks.ensures.value) (c.bits.ensures.value ∙ ap (λ (meta : PlainMeta). admission_set c.self.inside.rules meta.target meta.level) c.read.ensures) c.in_ok-told.ensures.notes

parent_open : (g : given.Over) (c : After-self-1 g) → is_open_parent c.self.inside.forest.spans (parent_named c.args.given.now.parent) ≡ true
parent_open g c =
    subst (λ (v : CoreView). is_open_parent v.world.spans (parent_named c.args.given.now.parent) ≡ true) (sym c.self.view_is) (tests_of c.args.self.now (given_event c.args.worker c.args.given.now) c.in_ok-telling.ensures.due).known

within : (g : given.Over) (c : After-self-1 g) → c.args.worker < length (ids_of_each c.self.inside.stacks.items)
within g c = omega (arith, c.requires, ap (λ (v : CoreView). v.limits.workers) c.self.view_is, c.self.invariant.0.stacks_are)

-- where the outlet is refused memory, the summary may have grown, and else nothing changes
pub invariant_of-self-in_err-put_told : goal.invariant_of-self-in_err-put_told
invariant_of-self-in_err-put_told g c =
    let sent_is = c.in_err-put_told.ensures.unsent ∙ c.in_ok-ask.ensures.sent in (
      subst (λ (sent : List PlainBatch). IsSound c.self.inside.limits c.self.inside.forest (ids_of_each c.self.inside.stacks.items) c.self.inside.rules c.self.inside.calls sent)
          (sym sent_is) c.self.invariant.0,
      c.self.invariant.1 ∙ ap (λ (sent : List PlainBatch). length (issued sent)) (sym sent_is),
      rw c.in_err-put_told.ensures.paths c.in_ok-told.ensures.remembers,
      subst (λ (ss : List Stack). IsSummary c.self.inside.forest.spans (ids_of_each ss) c.event_told.new.summary) c.as_slice-stacks.ensures.value c.in_ok-told.ensures.summary,
    )

abbrev batch : (g : given.Over) (c : After-self-1 g) → PlainBatch
batch g c = record { request = given_event c.args.worker c.args.given.now; answer = told; notes = map plain_note c.in_ok-told.told.notes.items }

abbrev world : (g : given.Over) (c : After-self-1 g) → World
world g c = record { spans = c.self.inside.forest.spans; stacks = ids_of_each c.self.inside.stacks.items }

-- the call as a step, once its batch is in a longer history
call : (g : given.Over) (c : After-self-1 g) (mid longer : List PlainBatch) → mid ≡ g.O.Outlet.sent c.self.inside.outlet → longer ≡ mid ++ batch g c ∷ []
    → IsOneMore c.self.inside.rules (g.O.Outlet.sent c.self.inside.outlet) (world g c) (batch g c) (world g c) longer
call g c mid longer same sent = record {
  step = record {
    within = within g c;
    changes = record {
      wanted = refl;
      known = parent_open g c;
      inside = refl;
      id = 0;
      answer_is = refl;
      id_is_new = tt;
      after = refl;
    };
    notes_are = notes_told g c;
  };
  sent = put_on _ mid longer (batch g c) same sent;
}

pub invariant_of-self-2 : goal.invariant_of-self-2
invariant_of-self-2 g c =
    let one_more = call g c _ _ c.in_ok-ask.ensures.sent c.in_ok-put_told.ensures.sent in (
      sound_kept _ _ _ _ _ _ _ _ _ _ _ [] c.self.invariant.0 one_more refl refl refl,
      none_made _ _ _ (batch g c) c.self.invariant.1 refl one_more.sent,
      rw c.in_ok-put_told.ensures.paths c.in_ok-told.ensures.remembers,
      subst (λ (ss : List Stack). IsSummary c.self.inside.forest.spans (ids_of_each ss) c.event_told.new.summary) c.as_slice-stacks.ensures.value c.in_ok-told.ensures.summary,
    )

pub returns-clause-accepted : goal.returns-clause-accepted
returns-clause-accepted g c =
    accepted_by _ _ _ _ _ _ c.self.view_is c.in_ok-telling.ensures.due (call g c _ _ c.in_ok-ask.ensures.sent c.in_ok-put_told.ensures.sent)
    (record {
      limits = refl;
      rules = refl;
      times_full = c.in_ok-put_told.ensures.times_full ∙ c.in_ok-ask.ensures.times_full;
      forms = c.in_ok-put_told.ensures.forms ∙ c.in_ok-ask.ensures.forms;
      name = c.in_ok-put_told.ensures.name ∙ c.in_ok-ask.ensures.name;
    })
