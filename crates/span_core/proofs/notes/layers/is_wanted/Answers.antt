use Rattle.std.proofs.Common.{sym, ◌∙◌}
use Rattle.std.proofs.lemmas.Bool.{eqb-true, not-false}
use Rattle.span_core.proofs.Telling.{has_bit-none}
use Rattle.span_core.proofs.notes.layers.is_wanted.Goals as goal

pub returns : goal.returns
returns c = λ none layer within. sym (c.wanting.ensures layer) ∙ has_bit-none c.wanting.result.0 layer (eqb-true c.wanting.result.0 0 (not-false _ none))
