use Rattle.std.proofs.Common.{◌≡◌, take}
use Rattle.std.specs.List.{list_all}
use Rattle.span_id.specs.Name.{is_name_byte}
use Rattle.span_id.proofs.name_bytes.are_all_name_bytes.Given as goal

-- of the bytes that were looked at
abbrev pub invariant-loop-byte : goal.invariant-loop-byte
invariant-loop-byte l = l.all ≡ list_all is_name_byte (take l.byte-index l.bytes)
