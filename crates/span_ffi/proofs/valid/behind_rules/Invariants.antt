use Rattle.std.proofs.Common.{◌≡◌, drop}
use Rattle.std.specs.Prelude.{◌↔◌}
use Rattle.span_ffi.specs.Opening.{AreRules, behind_rules}
use Rattle.span_ffi.proofs.valid.behind_rules.Given as goal

abbrev pub invariant-loop-rule : goal.invariant-loop-rule
invariant-loop-rule l = record {
  good : AreRules l.rules l.bytes ↔ AreRules (drop l.rule-index l.rules) l.left;
  behind : behind_rules l.rules l.bytes ≡ behind_rules (drop l.rule-index l.rules) l.left;
}
