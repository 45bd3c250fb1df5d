use Rattle.std.proofs.Common.{ap}
use Rattle.span_forest.specs.declared.span.Holder.TheVariants.{Entry}
use Rattle.span_core.proofs.Remembering.{remembers_released}
use Rattle.span_core.proofs.calls.closes.release_on_exit.Goals as goal

pub returns-then-not-stays-clause-remembers : goal.returns-then-not-stays-clause-remembers
returns-then-not-stays-clause-remembers c = λ known before.
    remembers_released _ _ c.args.id Entry known (ap (λ f. f.spans) c.release_closing.ensures) (ap (λ f. f.given) c.release_closing.ensures)
    c.open_spans_are_counted.ensures.parent c.walks_end.ensures c.walks_end-then-not-stays.ensures before
