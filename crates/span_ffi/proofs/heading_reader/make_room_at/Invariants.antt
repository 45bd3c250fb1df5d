use Rattle.std.proofs.Common.{◌+◌, ◌-◌}
use Rattle.span_ffi.specs.inside.HeadingsKept.{HaveSame}
use Rattle.span_ffi.proofs.heading_reader.make_room_at.Given as goal

abbrev pub invariant-loop-spans : goal.invariant-loop-spans
invariant-loop-spans l = HaveSame l.fn.spans.items l.spans.items

abbrev pub decreases-loop-spans : goal.decreases-loop-spans
decreases-loop-spans l = l.slot + 1 - l.spans.len
