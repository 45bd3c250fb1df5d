use Rattle.std.proofs.Common.{◌≡◌, ◌∙◌, ◌<◌, ℕ, List, true, length, map, ap, refl, subst, sym, arith}
use Rattle.std.proofs.lemmas.Bool.{lt-ltb}
use Rattle.span_layers.specs.Note.{plain_note}
use Rattle.span_forest.specs.declared.span.Holder.TheVariants.{Handle}
use Rattle.span_forest.specs.Release.{closing_list}
use Rattle.span_stack.specs.Stack.{ids_of_each}
use Rattle.span_outlet.specs.Request.{try_close, released}
use Rattle.span_core.specs.Step.{has_handle}
use Rattle.span_core.specs.Core.{CoreView, IsDue}
use Rattle.span_core.specs.inside.Remembering.{Remembers}
use Rattle.span_core.proofs.Judging.{due_from}
use Rattle.span_core.proofs.Made.{none_made}
use Rattle.span_core.proofs.Soundness.{IsOneMore, put_on, sound_kept}
use Rattle.span_core.proofs.Accepting.{step_close}
use Rattle.span_core.proofs.Clauses.{accepted_as, accepted_by}
use Rattle.span_core.proofs.KeptSummaries.{summary_released}
use Rattle.span_core.proofs.Core.try_close_with.Given as given
use Rattle.span_core.proofs.Core.try_close_with.Goals as goal
use Rattle.span_core.proofs.Core.try_close_with.Goals.{After-put_release}

within : (g : given.Over) (c : After-put_release g) → c.args.worker < length (ids_of_each c.self.inside.stacks.items)
within g c = omega (arith, c.requires.worker, ap (λ (v : CoreView). v.limits.workers) c.self.view_is, c.self.invariant.0.stacks_are)

due : (g : given.Over) (c : After-put_release g) → IsDue c.args.self.now (try_close c.args.worker c.args.id)
due g c = due_from c.args.self.now (try_close c.args.worker c.args.id) (record {
  named = refl;
  wanted = refl;
  known = subst (λ (v : CoreView). has_handle v.world.spans c.args.id ≡ true) c.self.view_is c.in-Some.ensures.known;
  counts = lt-ltb _ _ (omega (arith, c.self.invariant.0.calls_are, ap (λ (v : CoreView). length v.sent) c.self.view_is));
  slot = refl;
  inside = refl;
})

list_is : (g : given.Over) (c : After-put_release g) → c.in_ok-closes.closes.ids.items ≡ closing_list c.args.self.now.world.spans c.args.id Handle
list_is g c = c.in_ok-closes.ensures.ids ∙ ap (λ (v : CoreView). closing_list v.world.spans c.args.id Handle) c.self.view_is

call : (g : given.Over) (c : After-put_release g) → IsOneMore c.self.inside.rules (g.O.Outlet.sent c.self.inside.outlet) (record { spans = c.self.inside.forest.spans; stacks = ids_of_each c.self.inside.stacks.items })
    (record { request = try_close c.args.worker c.args.id; answer = released c.in_ok-closes.closes.ids.items; notes = map plain_note c.in_ok-closes.closes.notes.items })
    (record { spans = c.give_back.new.forest.spans; stacks = ids_of_each c.self.inside.stacks.items }) (g.O.Outlet.sent c.put_release.new.outlet)
call g c = record {
  step = step_close _ _ _ _ _ c.args.worker c.args.id _ _ (within g c) c.in-Some.ensures.held
      c.in_ok-closes.ensures.ids (ap (λ f. f.spans) c.give_back.ensures.forest) c.in_ok-closes.ensures.notes;
  sent = put_on _ _ _ _ c.in_ok-ask.ensures.sent c.put_release.ensures.sent;
}

pub invariant_of-self-2 : goal.invariant_of-self-2
invariant_of-self-2 g c = (
  sound_kept _ _ _ _ _ _ _ _ _ _ _ _ c.self.invariant.0 (call g c) refl c.in_ok-closes.ensures.ids c.give_back.ensures.forest,
  none_made _ _ _ _ c.self.invariant.1 refl (call g c).sent,
  subst (Remembers c.give_back.new.forest) (sym c.put_release.ensures.paths) c.give_back.ensures.remembers,
  summary_released _ _ _ _ c.args.id Handle (ap (λ f. f.spans) c.give_back.ensures.forest) c.self.invariant.3,
)

pub returns-clause-accepted : goal.returns-clause-accepted
returns-clause-accepted g c =
    accepted_as _ _ _ _ _ (ap (λ (ids : List ℕ). released ids) (list_is g c))
    (accepted_by _ _ _ _ _ _ c.self.view_is (due g c) (call g c)
    (record {
      limits = refl;
      rules = refl;
      times_full = c.put_release.ensures.times_full ∙ c.in_ok-ask.ensures.times_full;
      forms = c.put_release.ensures.forms ∙ c.in_ok-ask.ensures.forms;
      name = c.put_release.ensures.name ∙ c.in_ok-ask.ensures.name;
    }))

pub returns-clause-shown : goal.returns-clause-shown
returns-clause-shown g c = record {
  lent = _;
  list = c.as_slice-ids.result;
  answer = _;
  left = _;
  lent_is = refl;
  list_is = c.as_slice-ids.ensures.value ∙ list_is g c;
  called = c.see.ensures;
  left_is = refl;
}
