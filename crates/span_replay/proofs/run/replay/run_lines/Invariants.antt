use Rattle.std.proofs.Common.{◌≡◌, ◌+◌, ◌≤◌, ℕ, length}
use Rattle.span_run.specs.Counted.{inner_of, failed_of, flushes_of}
use Rattle.span_replay.specs.Meaning.{run}
use Rattle.span_replay.specs.inside.Progress.{HasHooks, MayGoOn, state_of}
use Rattle.span_script.specs.Script.{script_lines, most_bytes}
use Rattle.span_replay.specs.inside.Turns.{Sent}
use Rattle.span_replay.proofs.run.replay.run_lines.Given as goal

-- what is meant as a whole is what was written, before what is meant for the lines that are left
abbrev pub invariant-loop-lines : goal.invariant-loop-lines
invariant-loop-lines g l = record {
  sent : (hooks : ℕ) → HasHooks hooks l.initial.progress → Sent (g.W.Write.contents (inner_of l.initial.output)) (g.W.Write.contents (inner_of l.output))
      (run hooks 1 (state_of l.initial.progress) (script_lines l.script))
      (run hooks l.number (state_of l.progress) (script_lines l.lines));
  ready : MayGoOn l.progress;
  hooks : (hooks : ℕ) → HasHooks hooks l.initial.progress → HasHooks hooks l.progress;
  failed : failed_of l.output ≡ failed_of l.initial.output;
  flushes : flushes_of l.output ≡ flushes_of l.initial.output;
  place : l.number + length l.lines ≤ most_bytes + 1;
}

abbrev pub decreases-loop-lines : goal.decreases-loop-lines
decreases-loop-lines g l = length l.lines
