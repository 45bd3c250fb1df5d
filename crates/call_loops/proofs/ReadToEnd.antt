-- A reader that reads to the end of its ring.
use Rattle.std.proofs.Common.{◌≡◌, ℕ, ◌+◌, ◌-◌, ◌^◌, ◌<◌, ◌≤◌, List, [], ◌∷◌, ◌++◌, length, length-append, append_assoc, min, refl, sym, ap, ◌∙◌, subst, arith}
use Rattle.std.proofs.lemmas.List.{append-nil}
use Rattle.std.specs.Prelude.{take}
use Rattle.std.proofs.Math.Seq.{take-length}
use Rattle.span_outlet.specs.LineReader.{LineReaderView, TakesBatches, HasGiven}
use Rattle.span_outlet.specs.Batch.{PlainBatch}
use Rattle.span_outlet.specs.Lines.{PlainLine}
use Rattle.span_outlet.specs.Kept.{AreTold, NumberedNote, numbered_from}
use Rattle.span_outlet.specs.Kept.AreTold.{none, told, missed}
use Rattle.span_layers.specs.declared.form.Form.{Form}
use Rattle.span_id.specs.declared.limits.Limits.{Limits}
use Rattle.span_layers.specs.Filter.{Filter}
use Rattle.span_registry.specs.Share.{ShareView}
use Rattle.call_loops.specs.declared.ended.Ended.{Ended}
use Rattle.call_loops.specs.ReadOut.{GivesLines, HasReadOn, IsReadOut, EndsReadOut}

-- no more lines than notes
no_more_lines : (forms : List Form) {notes : List NumberedNote} {lines : List PlainLine} {xs : List NumberedNote} → AreTold forms notes lines xs → length lines ≤ length notes
no_more_lines forms none = omega arith
no_more_lines forms (told note line says rest) = (let fewer = no_more_lines forms rest in omega (arith, fewer))
no_more_lines forms (missed note why rest) = (let fewer = no_more_lines forms rest in omega (arith, fewer))

a_batch : (forms : List Form) (first : ℕ) (batches : List PlainBatch) (lines : List PlainLine) (xs : List NumberedNote)
    → AreTold forms (numbered_from first batches) lines xs → 0 < length lines → 0 < length batches
a_batch forms first [] lines xs each some = absurd (let fewer : length lines ≤ 0 = no_more_lines forms each in omega (arith, fewer, some))
a_batch forms first (batch ∷ batches) lines xs each some = omega arith

-- where a line waits now and none did, a batch was taken
pub more_taken : (old new : LineReaderView) → old.waiting ≡ [] → TakesBatches old new → 0 < length new.waiting → length old.taken < length new.taken
more_taken old new nothing takes some =
    let gains = takes.gains in
    let lines : length new.waiting ≡ length gains.added = ap length (gains.lines_are ∙ ap (λ ls. ls ++ gains.added) nothing) in
    let batches = a_batch old.forms (length old.taken) takes.batches gains.added gains.missed_notes gains.each (omega (arith, lines, some)) in
    let longer : length new.taken ≡ length old.taken + length takes.batches = ap length takes.taken ∙ length-append old.taken takes.batches in
    omega (arith, longer, batches)

-- where batches are left in the ring and no line waits, a fill takes some
pub gets_on : (old full : LineReaderView) (sent : List PlainBatch) (left : ℕ) (waiting : List PlainLine) → waiting ≡ full.waiting → old.waiting ≡ []
    → TakesBatches old full → (full.waiting ≡ [] → full.taken ≡ sent) → length old.taken + left ≡ length sent → 0 < left → length old.taken < length full.taken
gets_on old full sent left [] waits nothing takes all long some =
    let same : length full.taken ≡ length sent = ap length (all (sym waits)) in omega (arith, same, long, some)
gets_on old full sent left (line ∷ lines) waits nothing takes all long some =
    more_taken old full nothing takes (let many : length full.waiting ≡ length (line ∷ lines) = ap length (sym waits) in omega (arith, many))

-- where nothing is left in the ring, all was taken
pub all_read : {X : Type 0} (taken sent : List X) (left : ℕ) → taken ≡ take (length taken) sent → length taken + left ≡ length sent → left ≡ 0 → taken ≡ sent
all_read taken sent left first long empty =
    let same : length taken ≡ length sent = omega (arith, long, empty) in
    first ∙ ap (λ n. take n sent) same ∙ take-length sent

-- ---- lines are given out and counted

pub gives_none : (old new : LineReaderView) → new.given ≡ old.given → GivesLines old new 0
gives_none old new same = record { more = []; given = same ∙ sym (append-nil old.given); counted = omega arith }

gives_more : (old mid new : LineReaderView) (lines some all : ℕ) → GivesLines old mid lines → GivesLines mid new some → all ≡ min (lines + some) (2 ^ 64 - 1)
    → GivesLines old new all
gives_more old mid new lines some all first later sum = record {
  more = first.more ++ later.more;
  given = later.given ∙ ap (λ ls. ls ++ later.more) first.given ∙ append_assoc old.given first.more later.more;
  counted = (let one = first.counted in let two = later.counted in let len = length-append first.more later.more in omega (arith, one, two, len, sum));
}

pub gives_one : (old mid new : LineReaderView) (line : PlainLine) (lines all : ℕ) → GivesLines old mid lines → new.given ≡ mid.given ++ line ∷ []
    → all ≡ min (lines + 1) (2 ^ 64 - 1) → GivesLines old new all
gives_one old mid new line lines all first given sum =
    gives_more old mid new lines 1 all first (record { more = line ∷ []; given = given; counted = omega arith }) sum

-- ---- a loop over the lines that wait

pub still : (old mid new : LineReaderView) → mid ≡ record old { given = mid.given; waiting = mid.waiting } → new ≡ record mid { given = new.given; waiting = new.waiting }
    → new ≡ record old { given = new.given; waiting = new.waiting }
still old mid new first later = later ∙ ap (λ (r : LineReaderView). record r { given = new.given; waiting = new.waiting }) first

-- the line that waited first stands behind those that were given out before
pub moved_out : (mid new : LineReaderView) (line : PlainLine) → mid.waiting ≡ line ∷ new.waiting → new.given ≡ mid.given ++ line ∷ []
    → new.given ++ new.waiting ≡ mid.given ++ mid.waiting
moved_out mid new line first given =
    ap (λ ls. ls ++ new.waiting) given ∙ append_assoc mid.given (line ∷ []) new.waiting ∙ ap (λ ls. mid.given ++ ls) (sym first)

pub all_out : (old new : LineReaderView) → new ≡ record old { given = new.given; waiting = new.waiting } → new.given ++ new.waiting ≡ old.given ++ old.waiting → new.waiting ≡ []
    → new ≡ record old { given = old.given ++ old.waiting; waiting = [] }
all_out old new same read nothing =
    let given : new.given ≡ old.given ++ old.waiting = sym (append-nil new.given) ∙ ap (λ ls. new.given ++ ls) (sym nothing) ∙ read in
    same ∙ (λ j. record old { given = given j; waiting = nothing j })

-- ---- a reader that reads on

pub reads_none : (reader : LineReaderView) → HasReadOn reader reader 0
reads_none reader = record { name = refl; forms = refl; gives = gives_none reader reader refl }

pub same_start : (old start new : LineReaderView) (lines : ℕ) → start ≡ old → HasReadOn start new lines → HasReadOn old new lines
same_start old start new lines same on = subst (λ r. HasReadOn r new lines) same on

pub filled : (old mid new : LineReaderView) (lines : ℕ) → HasReadOn old mid lines → new.name ≡ mid.name → new.forms ≡ mid.forms → new.given ≡ mid.given → HasReadOn old new lines
filled old mid new lines on name forms given = record {
  name = name ∙ on.name;
  forms = forms ∙ on.forms;
  gives = record { more = on.gives.more; given = given ∙ on.gives.given; counted = on.gives.counted };
}

-- so many lines waited, and all were given out
pub waiting_read : (mid new : LineReaderView) (lines : ℕ) → new ≡ record mid { given = mid.given ++ mid.waiting; waiting = [] } → GivesLines mid new lines → HasReadOn mid new lines
waiting_read mid new lines read gives = record {
  name = ap (λ (r : LineReaderView). r.name) read;
  forms = ap (λ (r : LineReaderView). r.forms) read;
  gives = gives;
}

pub read_on : (old mid new : LineReaderView) (lines some all : ℕ) → HasReadOn old mid lines → HasReadOn mid new some → all ≡ min (lines + some) (2 ^ 64 - 1) → HasReadOn old new all
read_on old mid new lines some all first later sum = record {
  name = later.name ∙ first.name;
  forms = later.forms ∙ first.forms;
  gives = gives_more old mid new lines some all first.gives later.gives sum;
}

pub filled_and_read : (old mid full new : LineReaderView) (lines some all : ℕ) → HasReadOn old mid lines → full.name ≡ mid.name → full.forms ≡ mid.forms → full.given ≡ mid.given
    → new ≡ record full { given = full.given ++ full.waiting; waiting = [] } → GivesLines full new some → all ≡ min (lines + some) (2 ^ 64 - 1) → HasReadOn old new all
filled_and_read old mid full new lines some all on name forms given read gives sum =
    read_on old full new lines some all (filled old mid full lines on name forms given) (waiting_read full new some read gives) sum

-- ---- the end

pub same_end : (history : List PlainBatch) (old new : LineReaderView) → new ≡ old → HasGiven history old → HasGiven history new
same_end history old new same has = subst (λ reader. HasGiven history reader) (sym same) has

pub of_history : (sent history : List PlainBatch) (reader : LineReaderView) → sent ≡ history → HasGiven sent reader → HasGiven history reader
of_history sent history reader is has = subst (λ bs. HasGiven bs reader) is has

pub ends_read_out : (limits : Limits) (rules : List Filter) (share : ShareView) (first back last : LineReaderView) (ended : Ended) (lines rest : ℕ) → first.given ≡ []
    → HasReadOn first back lines → HasReadOn back last rest → IsReadOut limits rules share ended.counts last → ended.lines ≡ min (lines + rest) (2 ^ 64 - 1) → ended.missed ≡ last.missed
    → EndsReadOut limits rules first.forms ended
ends_read_out limits rules share first back last ended lines rest empty on further read sum misses =
    let all = read_on first back last lines rest ended.lines on further sum in
    record {
      share = share;
      reader = last;
      read = read;
      forms_are = all.forms;
      lines = all.gives.counted ∙ ap (λ (ls : List PlainLine). min (2 ^ 64 - 1) (length ls)) (sym (all.gives.given ∙ ap (λ ls. ls ++ all.gives.more) empty));
      missed = misses;
    }
