use Rattle.std.proofs.Common.{◌≡◌, ◌++◌, drop}
use Rattle.span_layers.specs.Text.{escaped}
use Rattle.span_why.proofs.line.write_escaped.Given as goal

-- what is written, with the bytes that are left, is the text of all
abbrev pub invariant-loop-byte : goal.invariant-loop-byte
invariant-loop-byte l = l.text.items ++ escaped (drop l.byte-index l.bytes) ≡ l.initial.text.items ++ escaped l.bytes
