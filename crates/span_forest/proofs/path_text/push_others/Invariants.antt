use Rattle.std.proofs.Common.{◌≡◌, ◌++◌, drop, map, string_bytes}
use Rattle.span_forest.proofs.Texts.{following}
use Rattle.span_forest.proofs.path_text.push_others.Given as goal

-- what is written, with the names that are left, is all that is to stand there
abbrev pub invariant-loop-name : goal.invariant-loop-name
invariant-loop-name l = string_bytes l.text ++ following (map (λ name. name.now) (drop l.name-index l.others)) ≡ string_bytes l.fn.text ++ following (map (λ name. name.now) l.others)
