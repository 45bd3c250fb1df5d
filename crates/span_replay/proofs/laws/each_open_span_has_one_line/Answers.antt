use Rattle.span_replay.proofs.OneLine.{one_line, no_line}
use Rattle.span_replay.proofs.laws.each_open_span_has_one_line.Goals as goal

pub returns-clause-open : goal.returns-clause-open
returns-clause-open g c = λ reached same id stands. one_line reached _ same c.open_spans_are_a_live_forest.ensures.forest id stands

pub returns-clause-closed : goal.returns-clause-closed
returns-clause-closed g c = λ reached same id closed. no_line reached _ same id closed
