use Rattle.std.proofs.Common.{◌≡◌, ◌∙◌, ◌<◌, true, [], length, map, sym, ap, refl, subst, arith, rules}
use Rattle.span_layers.specs.Note.{plain_note}
use Rattle.span_forest.specs.declared.span.Holder.TheVariants.{Handle}
use Rattle.span_forest.specs.Holders.{IsHeld, with_more}
use Rattle.span_stack.specs.Stack.{ids_of_each}
use Rattle.span_outlet.specs.Request.{clone_span, cloned}
use Rattle.span_core.specs.Step.{has_handle}
use Rattle.span_core.specs.Core.{CoreView}
use Rattle.span_core.proofs.Made.{none_made}
use Rattle.span_core.proofs.Deciding.{held_from}
use Rattle.span_core.proofs.Judging.{tests_of}
use Rattle.span_core.proofs.Soundness.{IsOneMore, put_on, sound_kept}
use Rattle.span_core.proofs.Accepting.{step_clone}
use Rattle.span_core.proofs.Clauses.{accepted_by}
use Rattle.span_core.proofs.Remembering.{one_more, remembers_changed}
use Rattle.span_core.proofs.KeptSummaries.{summary_changed}
use Rattle.span_core.proofs.Core.clone_span.Given as given
use Rattle.span_core.proofs.Core.clone_span.Goals as goal
use Rattle.span_core.proofs.Core.clone_span.Goals.{After-put}

within : (g : given.Over) (c : After-put g) → c.args.worker < length (ids_of_each c.self.inside.stacks.items)
within g c = omega (arith, c.requires, ap (λ (v : CoreView). v.limits.workers) c.self.view_is, c.self.invariant.0.stacks_are)

held : (g : given.Over) (c : After-put g) → IsHeld c.self.inside.forest.spans c.args.id Handle
held g c =
    held_from c.self.inside.forest.spans c.args.id (subst (λ (v : CoreView). has_handle v.world.spans c.args.id ≡ true) (sym c.self.view_is) (tests_of c.args.self.now (clone_span c.args.worker c.args.id) c.in_ok-cloning.ensures.due).known)

call : (g : given.Over) (c : After-put g) → IsOneMore c.self.inside.rules (g.O.Outlet.sent c.self.inside.outlet) (record { spans = c.self.inside.forest.spans; stacks = ids_of_each c.self.inside.stacks.items })
    (record { request = clone_span c.args.worker c.args.id; answer = cloned; notes = map plain_note c.new.result.items })
    (record { spans = c.add_holder.new.self.spans; stacks = ids_of_each c.self.inside.stacks.items }) (g.O.Outlet.sent c.put.new.self)
call g c = record {
  step = step_clone _ _ _ _ _ c.args.worker c.args.id _ (within g c) (held g c) (ap (λ f. f.spans) c.add_holder.ensures) (search rules);
  sent = put_on _ _ _ _ c.in_ok-ask.ensures.sent c.put.ensures.sent;
}

pub invariant_of-self-2 : goal.invariant_of-self-2
invariant_of-self-2 g c = (
  sound_kept _ _ _ _ _ _ _ _ _ _ _ [] c.self.invariant.0 (call g c) refl refl c.add_holder.ensures,
  none_made _ _ _ _ c.self.invariant.1 refl (call g c).sent,
  remembers_changed _ _ (with_more Handle) c.args.id _ (one_more Handle) c.add_holder.ensures c.self.invariant.2,
  summary_changed _ _ _ _ (with_more Handle) c.args.id (one_more Handle) (ap (λ f. f.spans) c.add_holder.ensures) c.self.invariant.3,
)

pub returns-clause-accepted : goal.returns-clause-accepted
returns-clause-accepted g c =
    accepted_by _ _ _ _ _ _ c.self.view_is c.in_ok-cloning.ensures.due (call g c)
    (record {
      limits = refl;
      rules = refl;
      times_full = c.put.ensures.times_full ∙ c.in_ok-ask.ensures.times_full;
      forms = c.put.ensures.forms ∙ c.in_ok-ask.ensures.forms;
      name = c.put.ensures.name ∙ c.in_ok-ask.ensures.name;
    })
