use Rattle.std.proofs.Common.{rules, length, ap, arith, refl}
use Rattle.span_ffi.proofs.HeadingsKept.{takes_none, takes_more}
use Rattle.span_ffi.proofs.heading_reader.HeadingReader.take_before.Goals as goal

pub loop-init : goal.loop-init
loop-init c = record {
  kept = search rules;
  standing = search rules;
  takes = rw (← c.self.view_is) (takes_none _ _ _ (search rules) (search rules) (search rules));
}

pub loop-preserved : goal.loop-preserved
loop-preserved c =
    let taken = c.in_ok-take_next.ensures.taken in
    let name = c.in_ok-take_next.ensures.name in
    let before = c.loop.invariant in
    record {
      kept = search rules;
      standing = omega (arith, ap length taken.stood, before.standing);
      takes = takes_more _ _ _ _ _ _ _ before.takes name refl c.peek_known.ensures (omega arith) taken;
    }
