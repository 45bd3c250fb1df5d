use Rattle.std.proofs.Common.{◌≡◌, map, drop}
use Rattle.std.specs.Prelude.{Some}
use Rattle.span_why.specs.Why.{plain_open_span, span_at}
use Rattle.span_why.proofs.tree.find.Given as goal

-- none before has the id
abbrev pub invariant-loop-span : goal.invariant-loop-span
invariant-loop-span l = span_at (map plain_open_span (drop l.span-index l.spans)) (Some l.id) ≡ span_at (map plain_open_span l.spans) (Some l.id)
