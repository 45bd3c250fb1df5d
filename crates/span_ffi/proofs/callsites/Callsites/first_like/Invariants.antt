use Rattle.std.proofs.Common.{take}
use Rattle.span_id.specs.Meta.{plain_meta}
use Rattle.span_ffi.specs.CallsiteOf.{LacksMeta}
use Rattle.span_ffi.proofs.callsites.Callsites.first_like.Given as goal

abbrev pub invariant-loop-number : goal.invariant-loop-number
invariant-loop-number l = LacksMeta (plain_meta l.meta) (take l.number l.self)
