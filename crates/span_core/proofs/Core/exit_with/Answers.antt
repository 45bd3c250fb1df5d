use Rattle.std.proofs.Common.{◌≡◌, ◌∙◌, ◌<◌, ℕ, cond, List, [], true, length, map, get_or, set, sym, ap, refl, subst, arith}
use Rattle.std.proofs.lemmas.Bool.{lt-ltb}
use Rattle.span_id.specs.Ids.{has}
use Rattle.span_layers.specs.Note.{plain_note}
use Rattle.span_forest.specs.declared.span.Holder.TheVariants.{Entry}
use Rattle.span_forest.specs.Release.{closing_list}
use Rattle.span_stack.specs.Stack.{without_last, ids_of_each}
use Rattle.span_outlet.specs.Request.{exit, exited}
use Rattle.span_outlet.specs.Batch.{PlainBatch}
use Rattle.span_core.specs.World.{stack_of}
use Rattle.span_core.specs.History.{issued}
use Rattle.span_core.specs.inside.Sound.{IsSound}
use Rattle.span_core.specs.inside.Summary.{IsSummary}
use Rattle.span_core.specs.Core.{CoreView, IsDue}
use Rattle.span_core.specs.Step.{is_open, closed_by_exit}
use Rattle.span_core.proofs.Judging.{due_from}
use Rattle.span_core.proofs.Made.{none_made}
use Rattle.span_core.proofs.Soundness.{IsOneMore, put_on, sound_kept}
use Rattle.span_core.proofs.Accepting.{step_exit}
use Rattle.span_core.proofs.Clauses.{accepted_as, accepted_by}
use Rattle.span_core.proofs.KeptSummaries.{summary_exited}
use Rattle.span_core.proofs.Core.exit_with.Given as given
use Rattle.span_core.proofs.Core.exit_with.Goals as goal
use Rattle.span_core.proofs.Core.exit_with.Goals.{After-put}

within : (g : given.Over) (c : After-put g) → c.args.worker < length (ids_of_each c.self.inside.stacks.items)
within g c = omega (arith, c.requires.worker, ap (λ (v : CoreView). v.limits.workers) c.self.view_is, c.self.invariant.0.stacks_are)

abbrev stack_before : (g : given.Over) (c : After-put g) → List ℕ
stack_before g c = get_or (ids_of_each c.self.inside.stacks.items) c.args.worker []

stands : (g : given.Over) (c : After-put g) → has (stack_before g c) c.args.id ≡ true
stands g c =
    sym (c.in-Some-stays_inside.ensures.inside ∙ ap (λ (all : List (List ℕ)). has (get_or all c.args.worker []) c.args.id) (ap ids_of_each c.as_slice.ensures.value))

stays : (g : given.Over) (c : After-put g) → c.in-Some-stays_inside.stays ≡ has (without_last (stack_before g c) c.args.id) c.args.id
stays g c =
    c.in-Some-stays_inside.ensures.stays
    ∙ ap (λ (all : List (List ℕ)). has (without_last (get_or all c.args.worker []) c.args.id) c.args.id) (ap ids_of_each c.as_slice.ensures.value)

due : (g : given.Over) (c : After-put g) → IsDue c.args.self.now (exit c.args.worker c.args.id)
due g c = due_from c.args.self.now (exit c.args.worker c.args.id) (record {
  named = refl;
  wanted = refl;
  known = subst (λ (v : CoreView). is_open v.world.spans c.args.id ≡ true) c.self.view_is c.in-Some.ensures.open;
  counts = lt-ltb _ _ (omega (arith, c.self.invariant.0.calls_are, ap (λ (v : CoreView). length v.sent) c.self.view_is));
  slot = refl;
  inside = subst (λ (v : CoreView). has (stack_of v.world c.args.worker) c.args.id ≡ true) c.self.view_is (stands g c);
})

list_is : (g : given.Over) (c : After-put g) → c.in_ok-closes.closes.ids.items ≡ closed_by_exit c.args.self.now.world c.args.worker c.args.id
list_is g c =
    c.in_ok-closes.ensures.ids
    ∙ ap (λ b. cond b [] (closing_list c.self.inside.forest.spans c.args.id Entry)) (stays g c)
    ∙ ap (λ (v : CoreView). closed_by_exit v.world c.args.worker c.args.id) c.self.view_is

-- the summary was cut before the entry was taken out
cut_after : (g : given.Over) (c : After-put g) → IsSummary c.self.inside.forest.spans (set (ids_of_each c.self.inside.stacks.items) c.args.worker (without_last (stack_before g c) c.args.id)) c.cut.new.self
cut_after g c =
    let ids_are = ap ids_of_each c.as_slice-2.ensures.value in
    subst (λ (all : List (List ℕ)). IsSummary c.self.inside.forest.spans (set all c.args.worker (without_last (get_or all c.args.worker []) c.args.id)) c.cut.new.self) ids_are
    (c.cut.ensures.after _ (subst (λ (all : List (List ℕ)). IsSummary c.self.inside.forest.spans all c.self.inside.summary) (sym ids_are) c.self.invariant.3))

-- where memory is refused it is cut, and else nothing changes
pub invariant_of-self-in_err-closes : goal.invariant_of-self-in_err-closes
invariant_of-self-in_err-closes g c =
    let ids_are = ap ids_of_each c.as_slice-2.ensures.value in
    let sent_is = c.in_ok-ask.ensures.sent in (
      subst (λ (sent : List PlainBatch). IsSound c.self.inside.limits c.self.inside.forest (ids_of_each c.self.inside.stacks.items) c.self.inside.rules c.self.inside.calls sent) (sym sent_is) c.self.invariant.0,
      c.self.invariant.1 ∙ ap (λ (sent : List PlainBatch). length (issued sent)) (sym sent_is),
      c.in_err-closes.ensures.remembers,
      subst (λ (all : List (List ℕ)). IsSummary c.self.inside.forest.spans all c.cut.new.self) ids_are
          (c.cut.ensures.before _ (subst (λ (all : List (List ℕ)). IsSummary c.self.inside.forest.spans all c.self.inside.summary) (sym ids_are) c.self.invariant.3)),
    )

call : (g : given.Over) (c : After-put g) → IsOneMore c.self.inside.rules (g.O.Outlet.sent c.self.inside.outlet) (record { spans = c.self.inside.forest.spans; stacks = ids_of_each c.self.inside.stacks.items })
    (record { request = exit c.args.worker c.args.id; answer = exited c.in_ok-closes.closes.ids.items; notes = map plain_note c.in_ok-closes.closes.notes.items })
    (record { spans = c.leave.new.forest.spans; stacks = ids_of_each c.pop_at.new.stacks.items }) (g.O.Outlet.sent c.put.new.self)
call g c = record {
  step = step_exit _ _ _ _ _ _ c.args.worker c.args.id c.in-Some-stays_inside.stays _ _ (within g c) c.in-Some.ensures.open (stands g c) (stays g c)
      c.in_ok-closes.ensures.ids (ap (λ f. f.spans) c.leave.ensures.forest) c.pop_at.ensures c.in_ok-closes.ensures.notes;
  sent = put_on _ _ _ _ c.in_ok-ask.ensures.sent c.put.ensures.sent;
}

pub invariant_of-self-2 : goal.invariant_of-self-2
invariant_of-self-2 g c = (
  sound_kept _ _ _ _ _ _ _ _ _ _ _ _ c.self.invariant.0 (call g c) refl c.in_ok-closes.ensures.ids c.leave.ensures.forest,
  none_made _ _ _ _ c.self.invariant.1 refl (call g c).sent,
  c.leave.ensures.remembers,
  summary_exited _ _ _ _ _ c.in-Some-stays_inside.stays c.args.id (ap (λ f. f.spans) c.leave.ensures.forest) c.pop_at.ensures (cut_after g c),
)

pub returns-clause-accepted : goal.returns-clause-accepted
returns-clause-accepted g c =
    accepted_as _ _ _ _ _ (ap (λ (ids : List ℕ). exited ids) (list_is g c))
    (accepted_by _ _ _ _ _ _ c.self.view_is (due g c) (call g c)
    (record {
      limits = refl;
      rules = refl;
      times_full = c.put.ensures.times_full ∙ c.in_ok-ask.ensures.times_full;
      forms = c.put.ensures.forms ∙ c.in_ok-ask.ensures.forms;
      name = c.put.ensures.name ∙ c.in_ok-ask.ensures.name;
    }))

pub returns-clause-shown : goal.returns-clause-shown
returns-clause-shown g c = record {
  lent = _;
  list = c.as_slice-4.result;
  answer = _;
  left = _;
  lent_is = refl;
  list_is = c.as_slice-4.ensures.value ∙ list_is g c;
  called = c.see.ensures;
  left_is = refl;
}
