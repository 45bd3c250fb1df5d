-- Why a script's run ended early, and the failed calls of a device that this tells of.
use Rattle.std.specs.Prelude.{◌≡◌, ℕ, Result, MatchResult}
use Rattle.span_run.specs.Counted.{next_count}
use Rattle.span_run.specs.Status.{script_status, failed_status}
use Rattle.span_replay.specs.declared.run.fault.ReplayFault.{ReplayFault}
use Rattle.span_replay.specs.declared.run.fault.ReplayFault.TheVariants.{Script, Memory, Read, Write}

-- the program's status after a fault
abbrev pub status_of : ReplayFault → ℕ
status_of (Script line reason) = script_status
status_of Memory = failed_status
status_of Read = failed_status
status_of Write = failed_status

-- the numbers of failed reads before and after, then of failed writes before and after: after `Read` and `Write` one
-- call of that side has failed, after any other fault none
abbrev pub FailsAsCounted : ℕ → ℕ → ℕ → ℕ → ReplayFault → Type 0
FailsAsCounted reads reads' writes writes' (Script line reason) = (reads' ≡ reads) × (writes' ≡ writes)
FailsAsCounted reads reads' writes writes' Memory = (reads' ≡ reads) × (writes' ≡ writes)
FailsAsCounted reads reads' writes writes' Read = (reads' ≡ next_count reads) × (writes' ≡ writes)
FailsAsCounted reads reads' writes writes' Write = (reads' ≡ reads) × (writes' ≡ next_count writes)

-- the same, and where there is no fault no call has failed
abbrev pub EndsAsCounted : {T : Type 0} → ℕ → ℕ → ℕ → ℕ → Result T ReplayFault → Type 0
EndsAsCounted reads reads' writes writes' result =
    MatchResult result (λ _. (reads' ≡ reads) × (writes' ≡ writes)) (FailsAsCounted reads reads' writes writes')
