use Rattle.std.proofs.Common.{ap, sym, subst}
use Rattle.span_forest.specs.declared.span.Holder.TheVariants.{Handle}
use Rattle.span_core.specs.inside.Remembering.{Remembers}
use Rattle.span_core.proofs.Remembering.{remembers_released}
use Rattle.span_core.proofs.calls.closes.give_back.Goals as goal

pub returns-clause-remembers : goal.returns-clause-remembers
returns-clause-remembers c =
    subst (Remembers c.release_for_fields-fields.new.self) (sym c.keep_fields.ensures)
    (c.forget.ensures _
    (remembers_released _ _ c.args.id Handle _ (ap (λ f. f.spans) c.release_for_fields-fields.ensures.forest) (ap (λ f. f.given) c.release_for_fields-fields.ensures.forest)
    c.open_spans_are_counted.ensures.parent c.walks_end.ensures c.walks_end-2.ensures c.requires.remembers))
