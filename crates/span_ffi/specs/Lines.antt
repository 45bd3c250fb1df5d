-- What the calls on a drain do, by their status, and how a text goes into a buffer.
use Rattle.std.specs.Prelude.{◌≡◌, ℕ, ◌<◌, List, [], ◌∷◌, ◌++◌, length, slice_get, Option, Some, None, IsSomeAnd}
use Rattle.span_outlet.specs.Lines.{PlainLine}
use Rattle.span_outlet.specs.LineReader.{LineReaderView, TakesBatches, AreOfLast, looks_of_fill}
use Rattle.span_border.specs.declared.status.Status.{Status}
use Rattle.span_border.specs.declared.status.Status.TheVariants.{Done, BadData, NoLine, ShortBuffer}
use Rattle.span_border.specs.Buffers.{WritesAll}

-- a text goes into a buffer, and where there is none the status says that the data say nothing
abbrev pub WritesIfSome : Option (List ℕ) → List ℕ → Option Status → List ℕ → ℕ → Type 0
WritesIfSome text old None new len = ⊥
WritesIfSome None old (Some status) new len = (status ≡ BadData) × (new ≡ old)
WritesIfSome (Some text) old (Some status) new len = WritesAll text old status new len

-- batches were taken, perhaps none, and none where a line waited already; where none waited, batches were asked for; no
-- line was given out
pub record Fills (old new : LineReaderView) : Type 0 where
  pub taken : TakesBatches old new
  pub given : new.given ≡ old.given
  pub waited : 0 < length old.waiting → new ≡ old
  pub looked : new.looks ≡ looks_of_fill old.waiting old.looks
  pub name : new.name ≡ old.name
  pub forms : new.forms ≡ old.forms

-- The first line that waits is given out, behind those before it: it waits no longer, its layer is told, and its text goes
-- into the buffer.
-- Where it is longer than the buffer, it stays the first one. Where no line waits, no batch that was taken has one.
abbrev pub GivesLine : ℕ → List ℕ → List ℕ → ℕ → LineReaderView → Status → LineReaderView → Type 0
GivesLine layer into into' len old Done new =
    (line : PlainLine) × Fills old (record new { given = old.given; waiting = line ∷ new.waiting })
    × (new.given ≡ old.given ++ line ∷ []) × (layer ≡ line.layer) × WritesAll line.text into Done into' len
GivesLine layer into into' len old ShortBuffer new =
    Fills old new × IsSomeAnd (slice_get new.waiting 0) (λ line. WritesAll line.text into ShortBuffer into' len)
GivesLine layer into into' len old NoLine new = Fills old new × (new.waiting ≡ [])
GivesLine layer into into' len old _ new = ⊥

-- The lines that wait are given up, all of one batch, and how many they are is told: they are given out behind those
-- before them, and nobody sees them. Where no line waits, no batch that was taken has one.
abbrev pub SkipsBatch : ℕ → LineReaderView → Status → LineReaderView → Type 0
SkipsBatch skipped old Done new =
    (lines : List PlainLine) × Fills old (record new { given = old.given; waiting = lines })
    × (0 < length lines) × AreOfLast (record new { waiting = lines })
    × (new.given ≡ old.given ++ lines) × (new.waiting ≡ []) × (skipped ≡ length lines)
SkipsBatch skipped old NoLine new = Fills old new × (new.waiting ≡ [])
SkipsBatch skipped old _ new = ⊥

-- how many batches were taken, and how many notes were missed
abbrev pub CountsLines : ℕ → ℕ → LineReaderView → Status → LineReaderView → Type 0
CountsLines batches missed old Done new = (batches ≡ length old.taken) × (missed ≡ old.missed) × (new ≡ old)
CountsLines batches missed old _ new = ⊥
