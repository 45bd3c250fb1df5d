-- A known value owns only facts, so it may go to any thread, whatever it is of.
use denote.RattleType.{RattleType}
use denote.Param.Send.{IsSend, Pure-keyless}
use Rattle.span_known.specs.contracts.KnownValue.{the_row}

pub send : (T : RattleType) → IsSend (the_row T)
send T = record {
  owned = λ known stored. Pure-keyless ((the_row T).own_val known stored) ((λ fields. (tt, ((λ inside. (tt, tt)), tt))), tt);
  leaving = λ kept known last. tt;
}
