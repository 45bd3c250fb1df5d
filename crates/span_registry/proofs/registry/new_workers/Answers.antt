use Rattle.std.proofs.Common.{ℕ, ◌+◌, ◌≤◌, refl, sym, ap, ◌∙◌, subst, arith}
use Rattle.span_registry.specs.Worker.{WorkerView, IsNew}
use Rattle.span_registry.proofs.Workers.{one_more_new, parts_left, calls_left, one_more_spare, spare_given}
use Rattle.span_registry.proofs.registry.new_workers.Goals as goal

pub loop-number-preserved : goal.loop-number-preserved
loop-number-preserved g c =
    let before = c.loop-number.invariant in
    let made = c.in_ok-worker.ensures in
    let worker = made.worker in
    let items = c.push_reserved.ensures.items in
    let new : IsNew c.loop-number.number c.in_ok-worker.worker = subst (λ (w : WorkerView). IsNew c.loop-number.number w) (sym worker) (record { number_is = refl; accepted_is = refl; spare_low = omega arith; seen_is = refl }) in (
      parts_left _ _ c.loop-number.number made.handles.0 before.0,
      made.handles.1,
      calls_left _ _ c.loop-number.number _ made.calls.0 before.2,
      made.calls.1,
      c.push_reserved.ensures.len ∙ ap (λ n. n + 1) before.4,
      made.keeper,
      rw items (one_more_new c.loop-number.number c.loop-number.all.items c.in_ok-worker.worker (sym c.loop-number.all.ok.0 ∙ before.4) new before.6),
      spare_given _ _ _ c.loop-number.number (one_more_spare c.loop-number.all.items c.push_reserved.new.self.items c.in_ok-worker.worker items) (ap (λ (w : WorkerView). w.spare) worker) before.7,
      subst (λ (k : ℕ). c.args.workers ≤ k) (sym c.push_reserved.ensures.capacity) before.8,
    )

pub returns-clause-each : goal.returns-clause-each
returns-clause-each g c i d below =
    let before = c.loop-number.invariant in
    let worker = c.new-2.ensures in
    let new : IsNew c.loop-number.number c.new-2.result = subst (λ (w : WorkerView). IsNew c.loop-number.number w) (sym worker) (record { number_is = omega arith; accepted_is = refl; spare_low = omega arith; seen_is = refl }) in
    rw c.push_reserved-2.ensures.items (one_more_new c.loop-number.number c.loop-number.all.items c.new-2.result (sym c.loop-number.all.ok.0 ∙ before.4) new before.6 i d (omega (arith, below)))
