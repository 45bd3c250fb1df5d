use Rattle.std.proofs.Common.{◌≡◌, length}
use Rattle.std.specs.List.{list_all}
use Rattle.span_id.specs.Name.{is_name_byte}
use Rattle.span_id.proofs.name_bytes.are_name_bytes.Given as goal

-- the bytes that were looked at are fit
abbrev pub invariant-loop-rest : goal.invariant-loop-rest
invariant-loop-rest l = list_all is_name_byte l.bytes ≡ list_all is_name_byte l.rest

abbrev pub decreases-loop-rest : goal.decreases-loop-rest
decreases-loop-rest l = length l.rest
