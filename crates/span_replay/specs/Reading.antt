-- Why a script is not read to its end.
use Rattle.std.specs.Prelude.{◌≡◌, ℕ, ◌+◌, List, length, Option}
use Rattle.std.specs.Io.KnownBytes.{Consumes}
use Rattle.span_script.specs.Script.{most_bytes}
use Rattle.span_script.specs.declared.reason.Reason.TheVariants.{TooLong}
use Rattle.span_replay.specs.declared.run.fault.ReplayFault.{ReplayFault}
use Rattle.span_replay.specs.declared.run.fault.ReplayFault.TheVariants.{Script, Memory, Read, Write}

-- the only fault of a script that reading finds is that it is too long
abbrev pub ReadFails : Option (List ℕ) → Option (List ℕ) → ReplayFault → Type 0
ReadFails old new (Script line reason) =
    (line ≡ 0) × (reason ≡ TooLong) × ((bytes : List ℕ) × Consumes old new bytes × (length bytes ≡ most_bytes + 1))
ReadFails old new Memory = Unit {0}
ReadFails old new Read = Unit {0}
ReadFails old new Write = ⊥
