use Rattle.std.proofs.Common.{subst, sym}
use Rattle.std.proofs.lemmas.Result.{IfOk-weaker}
use Rattle.call_loops.proofs.Planned.{all_with_last}
use Rattle.call_loops.specs.Back.{HasAll}
use Rattle.call_loops.proofs.soak.threads.+run_workers.Goals as goal

pub returns : goal.returns
returns g t c =
    let of_last = all_with_last _ _ _ _ _ _ _ _ c.in-Some.ensures.items c.in_ok-running.ensures.plan c.in_ok-running.ensures.worker c.in_ok-whole.ensures c.in_ok-returned.ensures in
    IfOk-weaker c.join-2.result _ _ (λ whole same. subst (λ share. HasAll c.args.plan c.args.workers.items share) (sym same) of_last) c.join-2.ensures
