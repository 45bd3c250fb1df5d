use Rattle.std.specs.Vec.{vec_capacity}
use Rattle.std.proofs.Common.{◌≡◌, ℕ, [], ◌+◌, ◌≤◌, ◌*◌, ◌^◌, ◌-◌, ◌<◌, vec_len}
use Rattle.std.specs.Prelude.{sum_by, slice_index_or}
use Rattle.span_registry.specs.Worker.{IsNew}
use Rattle.span_registry.proofs.registry.new_workers.Given as goal

abbrev pub invariant-loop-number : goal.invariant-loop-number
invariant-loop-number g l =
    (l.handles.parts + l.number * 2 ^ 47 ≡ 2 ^ 64 - 1)
    × (l.handles.amount ≡ 0)
    × (l.calls.parts + l.number ≡ l.workers)
    × (l.calls.amount ≡ 0)
    × (vec_len l.all ≡ l.number)
    × (l.keeper ≡ record { history = []; next = l.number })
    × ((i : ℕ) (d : _) → i < l.number → IsNew i (slice_index_or l.all.items i d))
    × (sum_by (λ worker. worker.spare) l.all.items ≡ l.number * 2 ^ 47)
    × (l.workers ≤ vec_capacity l.all)
