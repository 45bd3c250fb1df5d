use Rattle.std.proofs.Common.{◌≡◌, length, map, take, drop}
use Rattle.span_border.proofs.buffers.copy_in_c.Given as goal

abbrev pub invariant-loop-place : goal.invariant-loop-place
invariant-loop-place g l = record {
  head : take l.place l.into ≡ map g.T.InC.in_c (take l.place l.things);
  tail : drop l.place l.into ≡ drop l.place l.initial.into;
  len : length l.into ≡ length l.initial.into;
}
