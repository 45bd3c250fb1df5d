use mir.Syntax.{of_param}
use denote.Exit.{unseen}
use denote.Param.Send.{Quiet-if}
use Rattle.span_storm.proofs.threads.in_threads.Goals as goal

pub scoped-requires : goal.scoped-requires
scoped-requires g c =
    let bounds = c.type_bounds in
    record {
      at = λ _. (
        c.requires,
        (
          record { owned = bounds.send-H.owned; leaving = λ k. Quiet-if (k (of_param 0)) unseen unseen (λ x w. tt) (λ x w. tt) },
          record { owned = bounds.send-C.owned; leaving = λ k. Quiet-if (k (of_param 1)) unseen unseen (λ x w. tt) (λ x w. tt) },
          record { owned = bounds.send-S.owned; leaving = λ k. Quiet-if (k (of_param 2)) unseen unseen (λ x w. tt) (λ x w. tt) },
          record { owned = bounds.send-V.owned; leaving = λ k. Quiet-if (k (of_param 3)) unseen unseen (λ x w. tt) (λ x w. tt) },
          record { owned = bounds.send-A.owned; leaving = λ k. Quiet-if (k (of_param 5)) unseen unseen (λ x w. tt) (λ x w. tt) },
          search (bounds.sync-H),
          search (bounds.sync-C),
          search (bounds.sync-S),
          search (bounds.sync-G),
          search (bounds.sync-R),
        ),
      );
    }
