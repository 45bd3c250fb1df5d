use Rattle.std.proofs.Common.{◌≡◌, ◌+◌, ◌≤◌, ℕ, List, Option, length}
use Rattle.span_replay.specs.Explained.{why_run}
use Rattle.span_replay.specs.inside.Reaching.{reached_at}
use Rattle.span_replay.specs.inside.Running.{IsWritten}
use Rattle.span_script.specs.Operation.{running}
use Rattle.span_script.specs.Script.{script_lines, most_bytes}
use Rattle.span_replay.proofs.run.reaching.run_lines.Given as goal

-- what is meant as a whole is what is meant for the lines that are left
abbrev pub invariant-loop-rest : goal.invariant-loop-rest
invariant-loop-rest g l = record {
  meant : (hooks : ℕ) (about : Option (List ℕ)) →
      why_run hooks about l.first (reached_at l.initial.reaching running) (script_lines l.lines)
      ≡ why_run hooks about l.number (reached_at l.reaching running) (script_lines l.rest);
  written : IsWritten l.reaching.script;
  place : l.number + length l.rest ≤ most_bytes + 2;
}

abbrev pub decreases-loop-rest : goal.decreases-loop-rest
decreases-loop-rest g l = length l.rest
