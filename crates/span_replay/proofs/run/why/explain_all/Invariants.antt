use Rattle.std.proofs.Common.{◌≡◌, ◌+◌, ◌≤◌, length}
use Rattle.std.specs.Prelude.{option_copied}
use Rattle.span_replay.specs.Explained.{why_run}
use Rattle.span_script.specs.Script.{script_lines}
use Rattle.span_replay.specs.inside.Reaching.{set_up_at}
use Rattle.span_replay.specs.inside.Setup.{hooks_in}
use Rattle.span_replay.proofs.run.why.explain_all.Given as goal

-- what is meant as a whole is what is meant for the lines that are left
abbrev pub invariant-loop-lines : goal.invariant-loop-lines
invariant-loop-lines g l = record {
  meant : why_run (hooks_in l.initial.setup) (option_copied l.fn.about) 1 (set_up_at l.initial.setup) (script_lines l.script)
      ≡ why_run (hooks_in l.initial.setup) (option_copied l.fn.about) l.number (set_up_at l.setup) (script_lines l.lines);
  hooks : hooks_in l.setup ≡ hooks_in l.initial.setup;
  count : l.number + length l.lines ≤ length l.script + 1;
}

abbrev pub decreases-loop-lines : goal.decreases-loop-lines
decreases-loop-lines g l = length l.lines
