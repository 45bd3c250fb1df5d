use Rattle.std.proofs.Common.{ap, map}
use Rattle.span_outlet.specs.Lines.{plain_line}
use Rattle.span_outlet.proofs.Keeping.{as_shown}
use Rattle.span_outlet.proofs.Latests.{latest}
use Rattle.span_outlet.proofs.latest.Latest.tell.Goals as goal

pub invariant_of-self : goal.invariant_of-self
invariant_of-self g c =
    latest _ _ _ _ _ _ _ _ _ _ c.tell_all.ensures.forms c.self.invariant.0 c.add.ensures (ap (map plain_line) c.recycle.ensures.empty) (as_shown _ _ _ _ _ _ _ _ c.as_slice.ensures.value c.tell_all.ensures.told)
