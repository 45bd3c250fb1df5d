-- On what the meaning of a line doesn't rest.
use Rattle.std.proofs.Common.{◌≡◌, ℕ, true, false, Option, Some, None, Result, refl, ap}
use Rattle.std.specs.Option.{option_map_or}
use Rattle.serde_json.specs.Data.{Data}
use Rattle.serde_json.specs.Find.{as_object}
use Rattle.span_script.specs.Operation.{Operation, Op, limits_op, layer_op, new_op, span_op, record_op, event_op, find_op, Stage, op_at, op_of, sets_up, is_setup, keys_of, operation_of}
use Rattle.span_script.specs.Reason.{◌>>=◌, or_fault}
use Rattle.span_script.specs.declared.reason.Reason.{Reason}
use Rattle.span_script.specs.declared.reason.Reason.TheVariants.{NotObject, NoSuchOp}

abbrev in_object : (line : Data) → Result Operation Reason → Result Operation Reason
in_object line meant = or_fault (as_object line) NotObject >>= (λ _. meant)

by_other_op : (workers : ℕ) (stage stage' : Stage) (line : Data) (op : Option Op) → option_map_or sets_up op false ≡ false
    → (or_fault op NoSuchOp >>= keys_of workers stage line) ≡ (or_fault op NoSuchOp >>= keys_of workers stage' line)
by_other_op workers stage stage' line None h = refl
by_other_op workers stage stage' line (Some limits_op) h = let bad : ⊥ = cc in absurd bad
by_other_op workers stage stage' line (Some layer_op) h = let bad : ⊥ = cc in absurd bad
by_other_op workers stage stage' line (Some new_op) h = refl
by_other_op workers stage stage' line (Some (span_op call)) h = refl
by_other_op workers stage stage' line (Some record_op) h = refl
by_other_op workers stage stage' line (Some event_op) h = refl
by_other_op workers stage stage' line (Some find_op) h = refl

-- but of `limits` and `layer`, a line means the same at each stage
pub same_at_each_stage : (workers : ℕ) (stage stage' : Stage) (line : Data) → is_setup line ≡ false → operation_of workers stage line ≡ operation_of workers stage' line
unfolding operation_of op_of is_setup
same_at_each_stage workers stage stage' line h = ap (in_object line) (by_other_op workers stage stage' line (op_at line) h)

by_setup_op : (workers workers' : ℕ) (stage : Stage) (line : Data) (op : Option Op) → option_map_or sets_up op false ≡ true
    → (or_fault op NoSuchOp >>= keys_of workers stage line) ≡ (or_fault op NoSuchOp >>= keys_of workers' stage line)
by_setup_op workers workers' stage line None h = let bad : ⊥ = cc in absurd bad
by_setup_op workers workers' stage line (Some limits_op) h = refl
by_setup_op workers workers' stage line (Some layer_op) h = refl
by_setup_op workers workers' stage line (Some new_op) h = let bad : ⊥ = cc in absurd bad
by_setup_op workers workers' stage line (Some (span_op call)) h = let bad : ⊥ = cc in absurd bad
by_setup_op workers workers' stage line (Some record_op) h = let bad : ⊥ = cc in absurd bad
by_setup_op workers workers' stage line (Some event_op) h = let bad : ⊥ = cc in absurd bad
by_setup_op workers workers' stage line (Some find_op) h = let bad : ⊥ = cc in absurd bad

-- a line of `limits` or `layer` means the same for each number of workers
pub same_for_all_workers : (workers workers' : ℕ) (stage : Stage) (line : Data) → is_setup line ≡ true → operation_of workers stage line ≡ operation_of workers' stage line
unfolding operation_of op_of is_setup
same_for_all_workers workers workers' stage line h = ap (in_object line) (by_setup_op workers workers' stage line (op_at line) h)
