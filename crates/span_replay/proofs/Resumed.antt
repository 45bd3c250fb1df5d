-- A line after the set-up does the same at each stage.
use Rattle.std.proofs.Common.{◌≡◌, ℕ, false, refl, sym, ◌∙◌, Result, Ok, Err}
use Rattle.serde_json.specs.Data.{Data}
use Rattle.span_replay.specs.Faults.{id_of_key, parent_of_key, free_label}
use Rattle.span_stack.specs.Stack as stack
use Rattle.span_core.specs.World.{stack_of}
use Rattle.span_replay.specs.Meaning.{Turn, at_stage, stage_after, turn_of, new_turn, value_turn}
use Rattle.span_script.specs.Operation.{NewSpan, Operation, set_limits, add_layer, make, on_span, record_fields, tell, find, Stage, running, is_setup, operation_of}
use Rattle.span_script.specs.Reason.{◌>>=◌}
use Rattle.span_replay.specs.State.{State}
use Rattle.span_script.specs.declared.reason.Reason.{Reason}
use Rattle.span_replay.proofs.Callings.{Calls, line_calls}
use Rattle.span_replay.proofs.Setups.{value_does, value_faults}
use Rattle.span_replay.proofs.Stages.{same_at_each_stage}

abbrev pub staged : State → Stage → State
staged state stage = record state { stage = stage }

bind_same : {A : Type 0} → (s : Stage) (r : Result A Reason) (f g : A → Result Turn Reason) → ((a : A) → at_stage s (f a) ≡ at_stage s (g a)) → at_stage s (r >>= f) ≡ at_stage s (r >>= g)
bind_same s (Ok a) f g h = h a
bind_same s (Err r) f g h = refl

new_same : (s : Stage) (state : State) (a b : Stage) (new : NewSpan) → at_stage s (new_turn (staged state a) new) ≡ at_stage s (new_turn (staged state b) new)
unfolding new_turn
new_same s state a b new =
    bind_same s (parent_of_key state.labels (stack.current (stack_of state.core.world new.worker)) new.parent) _ _ (λ parent.
    bind_same s (free_label state.core.world.spans state.labels new.label) _ _ (λ u. refl))

turn_same : (hooks : ℕ) (s : Stage) (state : State) (a b : Stage) (op : Operation) → Calls op → at_stage s (turn_of hooks (staged state a) op) ≡ at_stage s (turn_of hooks (staged state b) op)
turn_same hooks s state a b (set_limits limits) h = absurd h
turn_same hooks s state a b (add_layer layer) h = absurd h
turn_same hooks s state a b (make new) h = new_same s state a b new
turn_same hooks s state a b (on_span call key worker) h = bind_same s (id_of_key state.labels key) _ _ (λ id. refl)
turn_same hooks s state a b (record_fields key fields worker) h = bind_same s (id_of_key state.labels key) _ _ (λ id. refl)
turn_same hooks s state a b (tell event) h = refl
turn_same hooks s state a b (find key) h = bind_same s (id_of_key state.labels key) _ _ (λ id. refl)

by_meant : (hooks : ℕ) (state : State) (a b : Stage) (line : Data) (meant : Result Operation Reason) → is_setup line ≡ false → operation_of state.core.limits.workers running line ≡ meant
    → value_turn hooks (staged state a) line ≡ value_turn hooks (staged state b) line
by_meant hooks state a b line (Ok op) h e =
    value_does hooks (staged state a) line op (same_at_each_stage state.core.limits.workers a running line h ∙ e)
    ∙ turn_same hooks (stage_after op) state a b op (line_calls state.core.limits.workers line op e)
    ∙ sym (value_does hooks (staged state b) line op (same_at_each_stage state.core.limits.workers b running line h ∙ e))
by_meant hooks state a b line (Err reason) h e =
    value_faults hooks (staged state a) line reason (same_at_each_stage state.core.limits.workers a running line h ∙ e)
    ∙ sym (value_faults hooks (staged state b) line reason (same_at_each_stage state.core.limits.workers b running line h ∙ e))

pub value_same : (hooks : ℕ) (state : State) (a b : Stage) (line : Data) → is_setup line ≡ false → value_turn hooks (staged state a) line ≡ value_turn hooks (staged state b) line
value_same hooks state a b line h = by_meant hooks state a b line (operation_of state.core.limits.workers running line) h refl
