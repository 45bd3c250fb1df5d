use Rattle.std.proofs.Common.{◌≡◌, ◌++◌, drop, flat_map}
use Rattle.span_why.specs.Why.{worker_text}
use Rattle.span_why.proofs.line.write_workers.Given as goal

-- what is written, with the workers that are left, is the text of all
abbrev pub invariant-loop-inside : goal.invariant-loop-inside
invariant-loop-inside l =
    l.text.items ++ flat_map worker_text (drop l.inside-index l.workers) ≡ l.initial.text.items ++ flat_map worker_text l.workers
