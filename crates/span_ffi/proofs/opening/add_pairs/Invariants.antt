use Rattle.std.proofs.Common.{◌≡◌, ◌++◌, drop, map}
use Rattle.span_layers.specs.Rule.{pair_of}
use Rattle.span_ffi.specs.Opening.{AreRules, said_pairs, behind_rules}
use Rattle.span_ffi.proofs.opening.add_pairs.Given as goal

abbrev pub invariant-loop-rule : goal.invariant-loop-rule
invariant-loop-rule l = record {
  said : map pair_of l.pairs.items ++ said_pairs (drop l.rule-index l.rules) l.left
      ≡ map pair_of l.initial.pairs.items ++ said_pairs l.rules l.bytes;
  good : AreRules (drop l.rule-index l.rules) l.left → AreRules l.rules l.bytes;
  behind : behind_rules l.rules l.bytes ≡ behind_rules (drop l.rule-index l.rules) l.left;
}
