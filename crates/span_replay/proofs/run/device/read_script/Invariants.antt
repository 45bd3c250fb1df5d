use Rattle.std.proofs.Common.{◌≡◌, ◌+◌, ◌-◌, ◌≤◌, vec_len}
use Rattle.std.specs.Io.KnownBytes.{Consumes}
use Rattle.span_run.specs.Counted.{inner_of, calls_of, failed_of}
use Rattle.span_script.specs.Script.{most_bytes}
use Rattle.span_replay.proofs.run.device.read_script.Given as goal

abbrev pub invariant-loop-block : goal.invariant-loop-block
invariant-loop-block g l = record {
  taken : Consumes (g.R.Read.remaining (inner_of l.initial.input)) (g.R.Read.remaining (inner_of l.input)) l.bytes.items;
  calls : calls_of l.input ≤ calls_of l.initial.input + vec_len l.bytes;
  fits : vec_len l.bytes ≤ most_bytes + 1;
  failed : failed_of l.input ≡ failed_of l.initial.input;
}

abbrev pub decreases-loop-block : goal.decreases-loop-block
decreases-loop-block g l = most_bytes + 1 - vec_len l.bytes
