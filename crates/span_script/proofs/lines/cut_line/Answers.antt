use Rattle.span_script.proofs.Cuts.{cut_at, cut_last}
use Rattle.span_script.proofs.lines.cut_line.Goals as goal

pub returns-in-Some-clause-line : goal.returns-in-Some-clause-line
returns-in-Some-clause-line c = cut_at c.args.script.now c.in-Some.end c.in-Some.ensures

pub returns-in-None-clause-line : goal.returns-in-None-clause-line
returns-in-None-clause-line c = cut_last c.args.script.now c.requires c.in-None.ensures
