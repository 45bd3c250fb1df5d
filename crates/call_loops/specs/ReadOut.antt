-- What a reader gave out, and how a run ended whose lines were read to the last one.
use Rattle.std.specs.Prelude.{◌≡◌, ℕ, ◌-◌, ◌^◌, List, ◌++◌, length, min}
use Rattle.span_id.specs.declared.limits.Limits.{Limits}
use Rattle.span_layers.specs.declared.form.Form.{Form}
use Rattle.span_layers.specs.Filter.{Filter}
use Rattle.span_outlet.specs.Lines.{PlainLine}
use Rattle.span_outlet.specs.LineReader.{LineReaderView, HasGiven}
use Rattle.span_core.specs.Core.{CoreView}
use Rattle.span_registry.specs.declared.report.Counts.{Counts}
use Rattle.span_registry.specs.Share.{ShareView}
use Rattle.span_registry.specs.Report.{HasEnded, AreCounts}
use Rattle.call_loops.specs.declared.ended.Ended.{Ended}

-- lines more were given out, behind those before them, and they were counted; the number stays at 2^64 - 1
pub record GivesLines (old new : LineReaderView) (lines : ℕ) : Type 0 where
  pub more : List PlainLine
  pub given : new.given ≡ old.given ++ more
  pub counted : lines ≡ min (2 ^ 64 - 1) (length more)

-- a reader of the same ring, which writes in the same forms, has given out so many lines more
pub record HasReadOn (old new : LineReaderView) (lines : ℕ) : Type 0 where
  pub name : new.name ≡ old.name
  pub forms : new.forms ≡ old.forms
  pub gives : GivesLines old new lines

-- A registry which was made with these limits and rules ended with this share, and this is what it counts. All the lines
-- that its reader gave out, from the first one on, are the lines of its whole history, but for the notes that were missed.
pub record IsReadOut
    (limits : Limits) (rules : List Filter) (share : ShareView) (counts : Counts) (reader : LineReaderView)
    : Type 0 where
  pub core : CoreView
  pub ended : HasEnded limits rules share core
  pub counted : AreCounts core counts
  pub given : HasGiven core.sent reader

-- A run on such a registry ended so: it tells how many lines those were, written in these forms, and how many notes were
-- missed.
pub record EndsReadOut (limits : Limits) (rules : List Filter) (forms : List Form) (ended : Ended) : Type 0 where
  pub share : ShareView
  pub reader : LineReaderView
  pub read : IsReadOut limits rules share ended.counts reader
  pub forms_are : reader.forms ≡ forms
  pub lines : ended.lines ≡ min (2 ^ 64 - 1) (length reader.given)
  pub missed : ended.missed ≡ reader.missed
