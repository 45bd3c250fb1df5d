-- What a clause reads of a counted reader or writer.
use Rattle.std.specs.Prelude.{Bool, ℕ, ◌+◌, ◌-◌, ◌^◌, min}
use Rattle.span_run.specs.declared.counted.Counted.{Counted}

-- the reader or writer that is counted
abbrev pub inner_of : {T : Type 0} → Counted T → T
inner_of c = c.inner

-- how often it was called
abbrev pub calls_of : {T : Type 0} → Counted T → ℕ
calls_of c = c.calls

-- how many of those calls failed
abbrev pub failed_of : {T : Type 0} → Counted T → ℕ
failed_of c = c.failed

-- how many of those calls flushed, or tried to
abbrev pub flushes_of : {T : Type 0} → Counted T → ℕ
flushes_of c = c.flushes

-- whether a flush that succeeded came after the last write
abbrev pub flushed_of : {T : Type 0} → Counted T → Bool
flushed_of c = c.flushed

-- one more, at most the greatest value of a count
abbrev pub next_count : ℕ → ℕ
next_count n = min (n + 1) (2 ^ 64 - 1)
