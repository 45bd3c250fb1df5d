use Rattle.std.proofs.Common.{◌-◌, length}
use Rattle.json.specs.Run.{is_plain}
use Rattle.span_json.specs.inside.Plain.{HasPassed}
use Rattle.span_json.proofs.runs.plain_end.Given as goal

abbrev pub invariant-loop-at : goal.invariant-loop-at
invariant-loop-at l = HasPassed is_plain l.text l.from l.at

abbrev pub decreases-loop-at : goal.decreases-loop-at
decreases-loop-at l = length l.text - l.at
