-- How a run ends: no public clause cites it.
use Rattle.std.specs.Prelude.{ℕ, Bool, true, false, Result, Ok, Err}
use Rattle.span_replay.specs.declared.run.fault.ReplayFault.{ReplayFault}
use Rattle.span_replay.specs.declared.run.fault.ReplayFault.TheVariants.{Script, Memory, Read, Write}
use Rattle.span_script.specs.declared.stop.Stop.{Stop}
use Rattle.span_script.specs.declared.stop.Stop.TheVariants as stop

-- the fault where the line of this number has no answer
abbrev pub fault_at : ℕ → Stop → ReplayFault
fault_at number stop.Memory = Memory
fault_at number (stop.Refused reason) = Script number reason

-- a script ends well, or at a fault of its own
abbrev pub has_end : Result ℕ ReplayFault → Bool
has_end (Ok left) = true
has_end (Err (Script number reason)) = true
has_end (Err Memory) = false
has_end (Err Read) = false
has_end (Err Write) = false
