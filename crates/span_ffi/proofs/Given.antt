-- A line that is given out after a fill, or its note in its place, and lines that are given up.
use Rattle.std.proofs.Common.{◌≡◌, ℕ, ◌<◌, List, [], ◌∷◌, ◌++◌, length, sym, ap, ◌∙◌, subst}
use Rattle.span_outlet.specs.Lines.{PlainLine}
use Rattle.span_outlet.specs.LineReader.{LineReaderView, AreOfLast}
use Rattle.span_border.specs.declared.status.Status.{Status}
use Rattle.span_border.specs.declared.status.Status.TheVariants.{Done, Refused, BadData, EmptyHandle, HandleInUse, NoSuchWorker, NoLine, ShortBuffer, NoSuchCallsite}
use Rattle.span_ffi.specs.declared.data.SpanNote.{SpanNote}
use Rattle.span_ffi.specs.declared.data.SpanField.{SpanField}
use Rattle.span_ffi.specs.Details.{Filling}
use Rattle.span_ffi.specs.Lines.{Fills, GivesLine, SkipsBatch}
use Rattle.span_ffi.specs.Notes.{GivesNote}
use Rattle.span_ffi.specs.inside.Giving.{GivesFirst, GivesFirstNote}

pub filled_gives : (layer : ℕ) (into into' : List ℕ) (len : ℕ) (status : Status) (old full new : LineReaderView)
    → Fills old full → GivesFirst layer into into' len full status new → GivesLine layer into into' len old status new
filled_gives layer into into' len Done old full new fills gives =
    let line : PlainLine = gives.0 in
    let same : full ≡ record new { given = old.given; waiting = line ∷ new.waiting } =
    gives.1 ∙ ap (λ (ls : List PlainLine). record new { given = ls; waiting = line ∷ new.waiting }) fills.given in
    (line, subst (Fills old) same fills, gives.2 ∙ ap (λ ls. ls ++ line ∷ []) fills.given, gives.3, gives.4)
filled_gives layer into into' len ShortBuffer old full new fills gives = (subst (Fills old) (sym gives.0) fills, gives.1)
filled_gives layer into into' len NoLine old full new fills gives = (subst (Fills old) (sym gives.0) fills, gives.1)
filled_gives layer into into' len (Refused fault) old full new fills gives = gives
filled_gives layer into into' len BadData old full new fills gives = gives
filled_gives layer into into' len EmptyHandle old full new fills gives = gives
filled_gives layer into into' len HandleInUse old full new fills gives = gives
filled_gives layer into into' len NoSuchWorker old full new fills gives = gives
filled_gives layer into into' len NoSuchCallsite old full new fills gives = gives

pub filled_skips : (skipped : ℕ) (old full new : LineReaderView) → Fills old full → 0 < length full.waiting → AreOfLast full
    → skipped ≡ length full.waiting → new ≡ record full { given = full.given ++ full.waiting; waiting = [] } → SkipsBatch skipped old Done new
filled_skips skipped old full new fills some last count is =
    let same : full ≡ record new { given = old.given; waiting = full.waiting } =
    sym (ap (λ (view : LineReaderView). record view { given = old.given; waiting = full.waiting }) is
    ∙ ap (λ (ls : List PlainLine). record full { given = ls; waiting = full.waiting }) (sym fills.given)) in (
      full.waiting,
      subst (Fills old) same fills,
      some,
      subst AreOfLast (sym (ap (λ (view : LineReaderView). record view { waiting = full.waiting }) is)) last,
      ap (λ (view : LineReaderView). view.given) is ∙ ap (λ ls. ls ++ full.waiting) fills.given,
      ap (λ (view : LineReaderView). view.waiting) is,
      count,
    )

pub filled_gives_note : (told : SpanNote) (fields : Filling SpanField) (bytes : Filling ℕ) (status : Status) (old full new : LineReaderView)
    → Fills old full → GivesFirstNote told fields bytes full status new → GivesNote told fields bytes old status new
filled_gives_note told fields bytes Done old full new fills gives =
    let line : PlainLine = gives.0 in
    let same : full ≡ record new { given = old.given; waiting = line ∷ new.waiting } =
    gives.1 ∙ ap (λ (ls : List PlainLine). record new { given = ls; waiting = line ∷ new.waiting }) fills.given in
    (line, subst (Fills old) same fills, gives.2 ∙ ap (λ ls. ls ++ line ∷ []) fills.given, gives.3)
filled_gives_note told fields bytes ShortBuffer old full new fills gives = (subst (Fills old) (sym gives.0) fills, gives.1)
filled_gives_note told fields bytes NoLine old full new fills gives = (subst (Fills old) (sym gives.0) fills, gives.1)
filled_gives_note told fields bytes (Refused fault) old full new fills gives = (subst (Fills old) (sym gives.0) fills, gives.1)
filled_gives_note told fields bytes BadData old full new fills gives = (subst (Fills old) (sym gives.0) fills, gives.1)
filled_gives_note told fields bytes EmptyHandle old full new fills gives = (subst (Fills old) (sym gives.0) fills, gives.1)
filled_gives_note told fields bytes HandleInUse old full new fills gives = (subst (Fills old) (sym gives.0) fills, gives.1)
filled_gives_note told fields bytes NoSuchWorker old full new fills gives = (subst (Fills old) (sym gives.0) fills, gives.1)
filled_gives_note told fields bytes NoSuchCallsite old full new fills gives = (subst (Fills old) (sym gives.0) fills, gives.1)
