-- What a run leaves in the writer, and what it answers.
use Rattle.std.specs.Prelude.{◌≡◌, ℕ, true, ◌⊎◌, List, Option, Result, Ok, Err, IfSome, MatchResult}
use Rattle.std.specs.Io.KnownBytes.{Appends, Keeps}
use Rattle.span_run.specs.Counted.{flushed_of, flushes_of, next_count}
use Rattle.span_run.specs.declared.counted.Counted.{Counted}
use Rattle.span_run.specs.Device.{AppendsFront}
use Rattle.span_replay.specs.Meaning.{Transcript, finished, faulty, meaning}
use Rattle.span_replay.specs.declared.run.fault.ReplayFault.{ReplayFault}
use Rattle.span_replay.specs.declared.run.fault.ReplayFault.TheVariants.{Script, Memory, Read, Write}

-- After a fault of the script the text that is meant stands, and the fault is the one that is meant. Where
-- memory was refused or a device failed, a front of the text stands. A script has no other end.
abbrev pub Fails : Transcript → Option (List ℕ) → Option (List ℕ) → ReplayFault → Type 0
Fails meant old new (Script number reason) = (meant.ending ≡ faulty number reason) × Appends old new meant.text
Fails meant old new Memory = AppendsFront old new meant.text
Fails meant old new Read = AppendsFront old new meant.text
Fails meant old new Write = AppendsFront old new meant.text

-- the text that is meant was written and nothing else, and the answer is how many spans are left open; or a fault
abbrev pub Runs : Transcript → Option (List ℕ) → Option (List ℕ) → Result ℕ ReplayFault → Type 0
Runs meant old new result =
    MatchResult result (λ left. (meant.ending ≡ finished left) × Appends old new meant.text) (Fails meant old new)

-- a run of these bytes with so many hooks
abbrev pub IsReplayed : ℕ → List ℕ → Option (List ℕ) → Option (List ℕ) → Result ℕ ReplayFault → Type 0
IsReplayed hooks bytes old new result = Runs (meaning hooks bytes) old new result

-- where the reader failed nothing was written, since a script is read to its end before its first line is run
abbrev pub KeepsUnread : Option (List ℕ) → Option (List ℕ) → ReplayFault → Type 0
KeepsUnread old new (Script number reason) = Unit {0}
KeepsUnread old new Memory = Unit {0}
KeepsUnread old new Read = Keeps old new
KeepsUnread old new Write = Unit {0}

-- the whole text that is meant was written, where the script's bytes are known
abbrev pub IsWrittenWhole : ℕ → Option (List ℕ) → Option (List ℕ) → Option (List ℕ) → Type 0
IsWrittenWhole hooks script old new = IfSome script (λ bytes. Appends old new (meaning hooks bytes).text)

-- the whole text was written, and then the writer was flushed by one call, which is the last
pub record IsFlushed {W : Type 0} (Whole : Type 0) (old new : Counted W) : Type 0 where
  pub whole : Whole
  pub once : flushes_of new ≡ next_count (flushes_of old)
  pub last : flushed_of new ≡ true

-- The one flush. A run flushes its writer by one call, once the whole text is written, and ends with it: well, or by
-- the fault of the script, or because the flush fails. Where memory is refused or a device fails before, it never does.
abbrev pub FlushesOnce : {W : Type 0} → Type 0 → Counted W → Counted W → Result ℕ ReplayFault → Type 0
FlushesOnce Whole old new (Ok left) = IsFlushed Whole old new
FlushesOnce Whole old new (Err (Script number reason)) = IsFlushed Whole old new
FlushesOnce Whole old new (Err Memory) = flushes_of new ≡ flushes_of old
FlushesOnce Whole old new (Err Read) = flushes_of new ≡ flushes_of old
FlushesOnce Whole old new (Err Write) =
    (flushes_of new ≡ flushes_of old) ⊎ (Whole × (flushes_of new ≡ next_count (flushes_of old)))
