-- And any thread may read it.
use denote.RattleType.{RattleType}
use denote.Param.Send.{IsSync, part_keyless}
use Rattle.span_known.specs.contracts.KnownValue.{the_row}
use Rattle.span_known.proofs.KnownValue.TheSendSync.Send.{send}

pub sync : (T : RattleType) → IsSync (the_row T)
sync T = record { shared = λ known block offset lifetime share. part_keyless (the_row T) (send T) share known block offset }
