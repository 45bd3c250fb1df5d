-- The calls of a writer that is written to and never flushed: no public clause cites it.
use Rattle.std.specs.Prelude.{◌≡◌, Result}
use Rattle.span_run.specs.Counted.{failed_of, flushes_of}
use Rattle.span_run.specs.declared.counted.Counted.{Counted}
use Rattle.span_replay.specs.ReplayFault.{EndsAsCounted}
use Rattle.span_replay.specs.declared.run.fault.ReplayFault.{ReplayFault}

-- no call flushes, and one has failed where the fault is `Write`
abbrev pub OnlyWrites : {W T : Type 0} → Counted W → Counted W → Result T ReplayFault → Type 0
OnlyWrites old new result =
    EndsAsCounted 0 0 (failed_of old) (failed_of new) result × (flushes_of new ≡ flushes_of old)
