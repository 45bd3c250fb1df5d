-- With which status the program ends.
use Rattle.std.specs.Prelude.{ℕ, Result, Ok, Err}
use Rattle.span_run.specs.Status.{failed_status}
use Rattle.span_replay.specs.ReplayFault.{status_of}
use Rattle.tracerun.specs.declared.failure.Failure.{Failure}
use Rattle.tracerun.specs.declared.failure.Failure.TheVariants.{Memory, Replay, Storm, Write}

-- after a failure: a script's run tells it by its fault, and any other failure has one status
abbrev pub failure_status : Failure → ℕ
failure_status Memory = failed_status
failure_status (Replay fault) = status_of fault
failure_status (Storm fault) = failed_status
failure_status (Write failed) = failed_status

-- 0 where nothing failed, else that of the failure
abbrev pub ended_status : {T : Type 0} → Result T Failure → ℕ
ended_status (Ok done) = 0
ended_status (Err failure) = failure_status failure
