-- Batches that are taken until a line waits, and lines that are given out.
use Rattle.std.proofs.Common.{◌≡◌, ℕ, ◌+◌, ◌-◌, ◌^◌, ◌≤◌, List, [], ◌∷◌, ◌++◌, length, map, refl, sym, ap, ◌∙◌, subst, arith, append_assoc}
use mathlib.Core.List.{reverse}
use Rattle.std.specs.Prelude.{All, flat_map}
use Rattle.std.specs.List.{enumerate_from}
use Rattle.std.proofs.lemmas.List.{append-nil, length-append, length-map, map-append, reverse-append, reverse-reverse, nil_from_length}
use Rattle.std.proofs.lemmas.List.Concat.{flat_map-append}
use Rattle.std.proofs.lemmas.List.Elements.{All-nil, All-tail, All-weaker}
use Rattle.span_layers.specs.declared.form.Form.{Form}
use Rattle.span_outlet.specs.declared.posted.Posted.{Posted}
use Rattle.span_outlet.specs.declared.line.Line.{Line}
use Rattle.span_outlet.specs.Batch.{PlainBatch}
use Rattle.span_outlet.specs.Outlet.{RingName}
use Rattle.span_outlet.specs.Lines.{PlainLine, plain_line, lines_of}
use Rattle.span_outlet.specs.Kept.{numbered_in, numbered_from, numbered, AreKept, GainsLines}
use Rattle.span_outlet.specs.Kept.AreTold.{none}
use Rattle.span_outlet.specs.LineReader.{LineReaderView, TakesBatches, AreLeft, HasGiven}
use Rattle.span_outlet.specs.Posted.{plain_posted}
use Rattle.span_outlet.specs.inside.Reading.{reader_view}
use Rattle.span_outlet.proofs.Keeping.{numbered_pair, gains_none, gains_more, kept_more, whole}
use Rattle.span_outlet.proofs.Apart.{of_one_batch}

-- ---- the notes of batches

enumerated_append : {X : Type 0} (n : ℕ) (xs ys : List X) → enumerate_from n (xs ++ ys) ≡ enumerate_from n xs ++ enumerate_from (n + length xs) ys
enumerated_append {X} n [] ys = ap (λ k. enumerate_from k ys) (omega arith)
enumerated_append {X} n (x ∷ xs) ys =
    ap {B = List (ℕ × X)} (λ l. (n, x) ∷ l) (enumerated_append (n + 1) xs ys ∙ ap {B = List (ℕ × X)} (λ k. enumerate_from (n + 1) xs ++ enumerate_from k ys) (omega arith))

numbered_append : (first : ℕ) (xs ys : List PlainBatch) → numbered_from first (xs ++ ys) ≡ numbered_from first xs ++ numbered_from (first + length xs) ys
numbered_append first xs ys =
    ap (flat_map numbered_pair) (enumerated_append first xs ys) ∙ flat_map-append numbered_pair (enumerate_from first xs) (enumerate_from (first + length xs) ys)

-- ---- batches more

-- no batch was taken
pub takes_none : (view : LineReaderView) → view.missed ≤ 2 ^ 64 - 1 → TakesBatches view view
takes_none view low = record { batches = []; taken = sym (append-nil view.taken); gains = gains_none view.forms view.waiting view.missed low }

-- the ring was looked at, and no batch was taken
pub takes_nothing : (name same : RingName) (forms : List Form) (old new : List Posted) (lines : List Line) (misses : ℕ) → new ≡ old → lines ≡ [] → misses ≤ 2 ^ 64 - 1
    → TakesBatches (reader_view name 0 forms old [] [] misses) (reader_view same 0 forms new [] lines misses)
takes_nothing name same forms old new lines misses is nothing low = record {
  batches = [];
  taken = ap (map plain_posted) is ∙ sym (append-nil (map plain_posted old));
  gains = subst (λ ls. GainsLines forms [] [] misses (map plain_line ls) misses) (sym nothing) (gains_none forms [] misses low);
}

-- some batches were taken, and then one more
pub takes_more : (name same other : RingName) (forms kept still : List Form) (old mid new : List Posted) (batch : Posted) (number : ℕ)
    (lines after : List Line) (misses some more : ℕ)
    → kept ≡ forms → number ≡ length mid → new ≡ mid ++ batch ∷ []
    → TakesBatches (reader_view name 0 forms old [] [] misses) (reader_view same 0 kept mid [] lines some)
    → GainsLines kept (numbered_in number (plain_posted batch)) (map plain_line lines) some (map plain_line after) more
    → TakesBatches (reader_view name 0 forms old [] [] misses) (reader_view other 0 still new [] after more)
takes_more name same other forms kept still old mid new batch number lines after misses some more kept_is number_is is takes gains =
    let first = length (map plain_posted old) in
    let count : length mid ≡ first + length takes.batches = sym (length-map mid plain_posted) ∙ ap length takes.taken ∙ length-append (map plain_posted old) takes.batches in
    let here : number ≡ first + length takes.batches = number_is ∙ count in
    let notes : numbered_from first takes.batches ++ numbered_in number (plain_posted batch) ≡ numbered_from first (takes.batches ++ plain_posted batch ∷ []) =
    (ap (λ n. numbered_from first takes.batches ++ numbered_in n (plain_posted batch)) here
    ∙ ap (λ ns. numbered_from first takes.batches ++ ns) (sym (append-nil (numbered_in (first + length takes.batches) (plain_posted batch))))
    ∙ sym (numbered_append first takes.batches (plain_posted batch ∷ []))) in
    let gained : GainsLines forms (numbered_in number (plain_posted batch)) (map plain_line lines) some (map plain_line after) more =
    subst (λ fs. GainsLines fs (numbered_in number (plain_posted batch)) (map plain_line lines) some (map plain_line after) more) kept_is gains in
    record {
      batches = takes.batches ++ plain_posted batch ∷ [];
      taken = ap (map plain_posted) is ∙ map-append plain_posted mid (batch ∷ []) ∙ ap (λ bs. bs ++ plain_posted batch ∷ []) takes.taken ∙ append_assoc (map plain_posted old) takes.batches (plain_posted batch ∷ []);
      gains = subst (λ ns. GainsLines forms ns [] misses (map plain_line after) more) notes
          (gains_more forms _ _ [] (map plain_line lines) (map plain_line after) misses some more takes.gains gained);
    }

-- ---- the lines are of the last batch

abbrev pub OfLast : List Posted → List Line → Type 0
OfLast taken lines = All (λ line. line.batch + 1 ≡ length (map plain_posted taken)) (map plain_line lines)

-- where no line waited
pub of_batch : (forms : List Form) (old new : List Posted) (batch : Posted) (number : ℕ) (lines after : List Line) (some more : ℕ)
    → lines ≡ [] → number ≡ length old → new ≡ old ++ batch ∷ []
    → GainsLines forms (numbered_in number (plain_posted batch)) (map plain_line lines) some (map plain_line after) more
    → OfLast new after
of_batch forms old new batch number lines after some more nothing number_is is gains =
    let count : number + 1 ≡ length (map plain_posted new) =
    (let len = ap length is ∙ length-append old (batch ∷ []) in let plain = length-map new plain_posted in omega (arith, len, plain, number_is)) in
    let all : map plain_line after ≡ gains.added = gains.lines_are ∙ ap (λ ls. map plain_line ls ++ gains.added) nothing in
    subst (All (λ line. line.batch + 1 ≡ length (map plain_posted new))) (sym all)
    (All-weaker (λ line. line.batch ≡ number) (λ line. line.batch + 1 ≡ length (map plain_posted new)) (λ line at. ap (λ n. n + 1) at ∙ count) gains.added (of_one_batch forms number (plain_posted batch) gains.each))

pub none_of_last : (taken : List Posted) (lines : List Line) → lines ≡ [] → OfLast taken lines
none_of_last taken lines nothing = subst (OfLast taken) (sym nothing) (All-nil (λ line. line.batch + 1 ≡ length (map plain_posted taken)))

-- ---- the lines are those that are left

-- nothing was taken yet
pub nothing_left : (name : RingName) (looks : ℕ) (forms : List Form) (taken : List Posted) (given : List PlainLine) (lines : List Line) → taken ≡ [] → given ≡ [] → lines ≡ []
    → AreLeft (reader_view name looks forms taken given lines 0)
nothing_left name looks forms taken given lines none_taken none_given no_lines =
    rw (none_taken, none_given, no_lines) (record { kept = record { missed_notes = []; each = none; counted = refl } })

-- batches more were taken where no line waited
pub more_left : (old new : LineReaderView) → old.waiting ≡ [] → new.forms ≡ old.forms → new.given ≡ old.given → AreLeft old → TakesBatches old new → AreLeft new
more_left old new nothing same none_given left takes =
    let gains = takes.gains in
    let before : AreKept old.forms (numbered old.taken) old.given old.missed =
    subst (λ ls. AreKept old.forms (numbered old.taken) ls old.missed) (ap (λ ls. old.given ++ ls) nothing ∙ append-nil old.given) left.kept in
    let waits : new.waiting ≡ gains.added = gains.lines_are ∙ ap (λ ls. ls ++ gains.added) nothing in
    let further : GainsLines old.forms (numbered_from (length old.taken) takes.batches) old.given old.missed (new.given ++ new.waiting) new.missed =
    record {
      added = gains.added;
      missed_notes = gains.missed_notes;
      each = gains.each;
      lines_are = ap (λ ls. ls ++ new.waiting) none_given ∙ ap (λ ls. old.given ++ ls) waits;
      counted = gains.counted;
    } in
    let notes : numbered old.taken ++ numbered_from (length old.taken) takes.batches ≡ numbered new.taken =
    sym (ap numbered takes.taken ∙ numbered_append 0 old.taken takes.batches ∙ ap (λ n. numbered old.taken ++ numbered_from n takes.batches) (omega arith)) in
    record {
      kept = subst (λ fs. AreKept fs (numbered new.taken) (new.given ++ new.waiting) new.missed) (sym same)
          (subst (λ ns. AreKept old.forms ns (new.given ++ new.waiting) new.missed) notes
          (kept_more old.forms _ _ old.given (new.given ++ new.waiting) old.missed new.missed before further));
    }

-- The lines as they are kept, the last one first, are those that were told. Before, there were none.
pub as_told : (lines kept : List Line) → kept ≡ reverse lines → reverse kept ≡ lines
as_told lines kept is = ap reverse is ∙ reverse-reverse lines

pub filled_takes : (name seen same : RingName) (times counted : ℕ) (forms kept : List Form) (old looked new : List Posted) (given : List PlainLine) (before lines waiting : List Line) (misses more : ℕ)
    → before ≡ [] → looked ≡ old → waiting ≡ lines → TakesBatches (reader_view seen 0 forms looked [] [] misses) (reader_view same 0 kept new [] lines more)
    → TakesBatches (reader_view name times forms old given before misses) (reader_view same counted kept new given waiting more)
filled_takes name seen same times counted forms kept old looked new given before lines waiting misses more nothing looks is takes =
    let from_old : TakesBatches (reader_view seen 0 forms old [] before misses) (reader_view same 0 kept new [] lines more) =
    subst (λ bs. TakesBatches (reader_view seen 0 forms bs [] before misses) (reader_view same 0 kept new [] lines more)) looks
    (subst (λ ls. TakesBatches (reader_view seen 0 forms looked [] ls misses) (reader_view same 0 kept new [] lines more)) (sym nothing) takes) in
    let to_new : TakesBatches (reader_view seen 0 forms old [] before misses) (reader_view same 0 kept new [] waiting more) =
    subst (λ ls. TakesBatches (reader_view seen 0 forms old [] before misses) (reader_view same 0 kept new [] ls more)) (sym is) from_old in
    record { batches = to_new.batches; taken = to_new.taken; gains = to_new.gains }

pub filled_left : (name seen same : RingName) (times counted : ℕ) (forms kept : List Form) (old looked new : List Posted) (given : List PlainLine) (before lines waiting : List Line) (misses more : ℕ)
    → before ≡ [] → kept ≡ forms → looked ≡ old → waiting ≡ lines
    → AreLeft (reader_view name times forms old given before misses) → TakesBatches (reader_view seen 0 forms looked [] [] misses) (reader_view same 0 kept new [] lines more)
    → AreLeft (reader_view same counted kept new given waiting more)
filled_left name seen same times counted forms kept old looked new given before lines waiting misses more nothing kept_is looks is left takes =
    more_left (reader_view name times forms old given before misses) (reader_view same counted kept new given waiting more) (ap (map plain_line) nothing) kept_is refl left
    (filled_takes name seen same times counted forms kept old looked new given before lines waiting misses more nothing looks is takes)

-- where nothing is left in the ring
pub all_taken : (taken standing : List Posted) (lines waiting : List Line) (sent : List PlainBatch) → waiting ≡ lines → (lines ≡ [] → standing ≡ []) → map plain_posted (taken ++ standing) ≡ sent
    → map plain_line waiting ≡ [] → map plain_posted taken ≡ sent
all_taken taken standing lines waiting sent is rest fifo nothing =
    let no_lines : lines ≡ [] = nil_from_length lines (sym (length-map lines plain_line) ∙ ap length (ap (map plain_line) (sym is) ∙ nothing)) in
    ap (map plain_posted) (sym (ap (λ l. taken ++ l) (rest no_lines) ∙ append-nil taken)) ∙ fifo

-- then what was given out is all that there is
pub all_given : (view : LineReaderView) (sent : List PlainBatch) → AreLeft view → view.taken ≡ sent → view.waiting ≡ [] → HasGiven sent view
all_given view sent left all nothing =
    let given : AreKept view.forms (numbered view.taken) view.given view.missed =
    subst (λ ls. AreKept view.forms (numbered view.taken) ls view.missed) (ap (λ ls. view.given ++ ls) nothing ∙ append-nil view.given) left.kept in
    record { kept = subst (λ bs. AreKept view.forms (numbered bs) view.given view.missed) all given }

pub all_whole : (view : LineReaderView) (sent : List PlainBatch) → HasGiven sent view → view.missed ≡ 0 → view.given ≡ lines_of view.forms sent
all_whole view sent has none_missed = whole view.forms sent view.given view.missed has.kept none_missed

-- ---- a line is given out

-- it was the last of the lines as they are kept
pub first_out : (old new : List Line) (line : Line) → old ≡ new ++ line ∷ [] → reverse old ≡ line ∷ reverse new
first_out old new line is = ap reverse is ∙ reverse-append new (line ∷ [])

pub rest_left : (name : RingName) (looks : ℕ) (forms : List Form) (taken : List Posted) (given after : List PlainLine) (lines rest : List Line) (line : Line) (misses : ℕ)
    → lines ≡ line ∷ rest → after ≡ given ++ plain_line line ∷ []
    → AreLeft (reader_view name looks forms taken given lines misses) → AreLeft (reader_view name looks forms taken after rest misses)
rest_left name looks forms taken given after lines rest line misses is one_more left =
    let all : given ++ map plain_line lines ≡ after ++ map plain_line rest =
    (ap (λ ls. given ++ map plain_line ls) is ∙ sym (append_assoc given (plain_line line ∷ []) (map plain_line rest)) ∙ ap (λ ls. ls ++ map plain_line rest) (sym one_more)) in
    record { kept = subst (λ ls. AreKept forms (numbered (map plain_posted taken)) ls misses) all left.kept }

pub rest_of_last : (taken : List Posted) (lines rest : List Line) (line : Line) → lines ≡ line ∷ rest → OfLast taken lines → OfLast taken rest
rest_of_last taken lines rest line is each =
    All-tail (λ line. line.batch + 1 ≡ length (map plain_posted taken)) (plain_line line) (map plain_line rest) (subst (OfLast taken) is each)

-- ---- lines are given up

pub one_more_given : (first before after : LineReaderView) (line : PlainLine) → before.given ++ before.waiting ≡ first.given ++ first.waiting
    → before.waiting ≡ line ∷ after.waiting → after.given ≡ before.given ++ line ∷ [] → after.given ++ after.waiting ≡ first.given ++ first.waiting
one_more_given first before after line all out more =
    ap (λ ls. ls ++ after.waiting) more ∙ append_assoc before.given (line ∷ []) after.waiting ∙ ap (λ ls. before.given ++ ls) (sym out) ∙ all

pub none_left : (first last : LineReaderView) → last.given ++ last.waiting ≡ first.given ++ first.waiting
    → last ≡ record first { given = last.given; waiting = last.waiting } → last.waiting ≡ []
    → last ≡ record first { given = first.given ++ first.waiting; waiting = [] }
none_left first last all rest nothing =
    let given : last.given ≡ first.given ++ first.waiting = sym (append-nil last.given) ∙ ap (λ ls. last.given ++ ls) (sym nothing) ∙ all in
    rest ∙ ap (λ (ls : List PlainLine). record first { given = ls; waiting = last.waiting }) given
    ∙ ap (λ (ls : List PlainLine). record first { given = first.given ++ first.waiting; waiting = ls }) nothing
