-- Why spans are open: from the bytes that are read to those that are written.
use Rattle.std.proofs.Common.{◌≡◌, ℕ, ◌+◌, ◌<◌, ◌≤◌, true, List, [], ◌++◌, length, refl, ap, sym, ◌∙◌, subst, Option, Some, None, Result, Ok, Err, IfSome, IfErr, IfOk, OnOk, IsOk, IsTrue, arith, length-append, append-nil, inl}
use Rattle.std.specs.Io.KnownBytes.{Appends, Consumes, IsAtEnd, Keeps}
use Rattle.std.specs.Prelude.{nat_le}
use Rattle.std.proofs.KnownBytes.{Appends-kept}
use Rattle.std.proofs.lemmas.Bool.{lt-leb}
use Rattle.span_run.proofs.Fronts.{Known}
use Rattle.span_run.specs.Device.{AppendsFront}
use Rattle.span_replay.specs.Reading.{ReadFails}
use Rattle.span_run.specs.Counted.{flushed_of, flushes_of, next_count}
use Rattle.span_run.specs.declared.counted.Counted.{Counted}
use Rattle.span_replay.specs.ReplayFault.{EndsAsCounted, FailsAsCounted}
use Rattle.span_replay.specs.declared.run.fault.ReplayFault.{ReplayFault}
use Rattle.span_replay.specs.declared.run.fault.ReplayFault.TheVariants.{Script, Memory, Read, Write}
use Rattle.span_replay.specs.Explained.{IsWholeWhy, first_reached, why_run, why_meaning}
use Rattle.span_replay.specs.Meaning.{Ending, Transcript, faulty}
use Rattle.span_replay.specs.Replayed.{FlushesOnce, Runs}
use Rattle.span_replay.specs.declared.run.explained.Explained.{Explained}
use Rattle.span_replay.specs.inside.Reaching.{EndsAs, IsExplained, IsOfReading}
use Rattle.span_replay.specs.inside.Ended.{has_end}
use Rattle.span_replay.proofs.Flushes.{ended_counts, ended_once, flush_once, once_for, whole_front}
use Rattle.span_replay.proofs.Written.{empty_front}
use Rattle.span_script.specs.Script.{script_lines, most_bytes}
use Rattle.span_script.specs.declared.reason.Reason.{Reason}
use Rattle.span_script.specs.declared.reason.Reason.TheVariants.{TooLong}

-- ---- what was read

why_short : (hooks : ℕ) (about : Option (List ℕ)) (bytes : List ℕ) → length bytes ≤ most_bytes → why_meaning hooks about bytes ≡ why_run hooks about 1 first_reached (script_lines bytes)
why_short hooks about bytes h = let fits : nat_le (length bytes) most_bytes ≡ true = grind arith in rw fits refl

why_long : (hooks : ℕ) (about : Option (List ℕ)) (bytes : List ℕ) → most_bytes < length bytes → why_meaning hooks about bytes ≡ record { text = []; ending = faulty 0 TooLong }
why_long hooks about bytes h = rw (lt-leb (length bytes) most_bytes h) refl

-- all of the script was read
pub read_explained : (r : Result Explained ReplayFault) (hooks : ℕ) (about : Option (List ℕ)) (i j : Known) (bytes shown : List ℕ) → Consumes i j bytes → IsAtEnd j → length bytes ≤ most_bytes → shown ≡ bytes
    → IfOk r (IsExplained (why_run hooks about 1 first_reached (script_lines shown))) → IfOk r (λ e. IfSome i (λ xs. IsExplained (why_meaning hooks about xs) e))
read_explained (Err fault) hooks about i j bytes shown all end fits is p = tt
read_explained (Ok e) hooks about None j bytes shown all end fits is p = tt
read_explained (Ok e) hooks about (Some xs) None bytes shown all end fits is p = absurd all
read_explained (Ok e) hooks about (Some xs) (Some ys) bytes shown all end fits is p =
    let same : bytes ≡ xs = sym (all ∙ ap (λ l. bytes ++ l) end ∙ append-nil bytes) in
    let read : IsExplained (why_run hooks about 1 first_reached (script_lines bytes)) e = subst (λ l. IsExplained (why_run hooks about 1 first_reached (script_lines l)) e) is p in
    subst (λ l. IsExplained (why_meaning hooks about l) e) same (subst (λ meant. IsExplained meant e) (sym (why_short hooks about bytes fits)) read)

-- it is too long
pub long_explained : (hooks : ℕ) (about : Option (List ℕ)) (i j : Known) (fault : ReplayFault) (number : ℕ) (reason : Reason) (e : Explained) → fault ≡ Script number reason → ReadFails i j fault → e.text.items ≡ [] → e.ended ≡ Err (Script number reason)
    → IfSome i (λ xs. IsExplained (why_meaning hooks about xs) e)
long_explained hooks about i j fault number reason e is fails none ended = by_bytes i j (subst (ReadFails i j) is fails)
  where
    by_bytes : (i j : Known) → ReadFails i j (Script number reason) → IfSome i (λ xs. IsExplained (why_meaning hooks about xs) e)
    by_bytes None j p = tt
    by_bytes (Some xs) None (at, why, (bytes, all, long)) = absurd all
    by_bytes (Some xs) (Some ys) (at, why, (bytes, all, long)) =
        let size : length xs ≡ length bytes + length ys = ap length all ∙ length-append bytes ys in
        let meant = why_long hooks about xs (omega (arith, size, long)) in
        record {
          text_is = none ∙ sym (ap (λ (t : Transcript). t.text) meant);
          ending_is = subst (EndsAs (why_meaning hooks about xs).ending) (sym ended) (ap (λ (t : Transcript). t.ending) meant ∙ ap (λ n. faulty n TooLong) (sym at) ∙ ap (faulty number) (sym why));
        }

-- what was read ends as is meant
ends_as : (meant : Ending) (ended : Result ℕ ReplayFault) → EndsAs meant ended → IsTrue (has_end ended)
ends_as meant (Ok left) is = refl
ends_as meant (Err (Script number reason)) is = refl
ends_as meant (Err Memory) is = absurd is
ends_as meant (Err Read) is = absurd is
ends_as meant (Err Write) is = absurd is

pub explained_ends : (r : Result Explained ReplayFault) (meant : Transcript) → IfOk r (IsExplained meant) → IfOk r (λ e. IsTrue (has_end e.ended))
explained_ends (Ok e) meant p = ends_as meant.ending e.ended p.ending_is
explained_ends (Err fault) meant p = tt

where_ok : {P : Type 0} (ended : Result ℕ ReplayFault) → P → OnOk ended P
where_ok (Ok left) p = p
where_ok (Err fault) p = tt

pub explained_at_end : {P : Type 0} (r : Result Explained ReplayFault) → P → IfOk r (λ e. OnOk e.ended P)
explained_at_end (Ok e) p = where_ok e.ended p
explained_at_end (Err fault) p = tt

pub explained_counts : (r : Result Explained ReplayFault) (reads reads' : ℕ) → reads' ≡ reads → IfErr r (λ fault. fault ≡ Memory) → EndsAsCounted reads reads' 0 0 r
explained_counts (Ok e) reads reads' same p = (same, refl)
explained_counts (Err fault) reads reads' same p = subst (FailsAsCounted reads reads' 0 0) (sym p) (same, refl)

pub explained_fails : (r : Result Explained ReplayFault) → IfErr r (λ fault. fault ≡ Memory) → IfErr r IsOfReading
explained_fails (Ok e) p = tt
explained_fails (Err fault) p = subst IsOfReading (sym p) tt

-- the script was not read
pub unread_explained : (hooks : ℕ) (about : Option (List ℕ)) (i a : Known) (fault : ReplayFault) → IsOfReading fault → IfSome i (λ xs. Runs (why_meaning hooks about xs) a a (Err fault))
unread_explained hooks about None a fault p = tt
unread_explained hooks about (Some xs) a (Script number reason) p = absurd p
unread_explained hooks about (Some xs) a Memory p = empty_front a _
unread_explained hooks about (Some xs) a Read p = empty_front a _
unread_explained hooks about (Some xs) a Write p = empty_front a _

-- ---- what was written

told_as : (meant : Transcript) (a c : Known) (ended : Result ℕ ReplayFault) → EndsAs meant.ending ended → Appends a c meant.text → Runs meant a c ended
told_as meant a c (Ok left) is p = (is, p)
told_as meant a c (Err (Script number reason)) is p = (is, p)
told_as meant a c (Err Memory) is p = absurd is
told_as meant a c (Err Read) is p = absurd is
told_as meant a c (Err Write) is p = absurd is

-- all of it
pub told_whole : (meant : Transcript) (e : Explained) (a b c : Known) (text : List ℕ) → IsExplained meant e → text ≡ e.text.items → Appends a b text → Keeps b c → Runs meant a c e.ended
told_whole meant e a b c text is same p k = told_as meant a c e.ended is.ending_is (Appends-kept a b c meant.text (subst (Appends a b) (same ∙ is.text_is) p) k)

device_front : (meant : Transcript) (a b : Known) (fault : ReplayFault) → fault ≡ Write → AppendsFront a b meant.text → Runs meant a b (Err fault)
device_front meant a b fault d p = subst (λ f. Runs meant a b (Err f)) (sym d) p

-- a front of it
pub told_front : (meant : Transcript) (e : Explained) (a b : Known) (text : List ℕ) (fault : ReplayFault) → IsExplained meant e → text ≡ e.text.items → fault ≡ Write → AppendsFront a b text → Runs meant a b (Err fault)
told_front meant e a b text fault is same d p = device_front meant a b fault d (subst (AppendsFront a b) (same ∙ is.text_is) p)

pub told_unflushed : (meant : Transcript) (e : Explained) (a b c : Known) (text : List ℕ) (fault : ReplayFault) → IsExplained meant e → text ≡ e.text.items → Appends a b text → Keeps b c → fault ≡ Write → Runs meant a c (Err fault)
told_unflushed meant e a b c text fault is same p k d =
    device_front meant a c fault d (whole_front a c meant.text (Appends-kept a b c meant.text (subst (Appends a b) (same ∙ is.text_is) p) k))

-- no call of a device has failed
pub told_counts : (ended : Result ℕ ReplayFault) (f f' f'' : ℕ) → IsTrue (has_end ended) → f' ≡ f → f'' ≡ f' → EndsAsCounted 0 0 f f'' ended
told_counts ended f f' f'' h p q = ended_counts ended 0 0 f f'' h refl (q ∙ p)

pub told_ok : (ended : Result ℕ ReplayFault) → OnOk ended (IsOk ended)
told_ok (Ok left) = refl
told_ok (Err fault) = tt

-- where the bytes that are read are known
pub explained_runs : (i a b : Known) (hooks : ℕ) (about : Option (List ℕ)) (e : Explained) (r : Result ℕ ReplayFault) → IfSome i (λ xs. IsExplained (why_meaning hooks about xs) e) → ((meant : Transcript) → IsExplained meant e → Runs meant a b r)
    → IfSome i (λ xs. Runs (why_meaning hooks about xs) a b r)
explained_runs None a b hooks about e r p q = tt
explained_runs (Some xs) a b hooks about e r p q = q (why_meaning hooks about xs) p

-- ---- the one flush

-- the script was not read
pub unread_once : {W : Type 0} (Whole : Type 0) (writer : Counted W) (fault : ReplayFault) → IsOfReading fault → FlushesOnce Whole writer writer (Err fault)
unread_once Whole writer (Script number reason) p = absurd p
unread_once Whole writer Memory p = refl
unread_once Whole writer Read p = refl
unread_once Whole writer Write p = absurd p

-- a front of the text was written
pub front_once : {W : Type 0} (Whole : Type 0) (old new : Counted W) (fault : ReplayFault) → flushes_of new ≡ flushes_of old → fault ≡ Write → FlushesOnce Whole old new (Err fault)
front_once Whole old new fault same d = subst (λ f. FlushesOnce Whole old new (Err f)) (sym d) (inl same)

text_kept : (e : Explained) (a b c : Known) (text : List ℕ) → text ≡ e.text.items → Appends a b text → Keeps b c → Appends a c e.text.items
text_kept e a b c text same p k = Appends-kept a b c e.text.items (subst (Appends a b) same p) k

-- all of it was written and flushed
pub told_once : {W : Type 0} (e : Explained) (a b c : Known) (text : List ℕ) (old new : Counted W) (flushes : ℕ) → IsTrue (has_end e.ended) → text ≡ e.text.items → Appends a b text → Keeps b c → flushes ≡ flushes_of old → flushes_of new ≡ next_count flushes → flushed_of new ≡ true
    → FlushesOnce (Appends a c e.text.items) old new e.ended
told_once e a b c text old new flushes h is p k same once done = ended_once e.ended old new h (record { whole = text_kept e a b c text is p k; once = once ∙ ap next_count same; last = done })

-- all of it was written, and the flush failed
pub unflushed_once : {W : Type 0} (e : Explained) (a b c : Known) (text : List ℕ) (old new : Counted W) (flushes : ℕ) (fault : ReplayFault) → text ≡ e.text.items → Appends a b text → Keeps b c → flushes ≡ flushes_of old → flushes_of new ≡ next_count flushes → fault ≡ Write
    → FlushesOnce (Appends a c e.text.items) old new (Err fault)
unflushed_once e a b c text old new flushes fault is p k same once d = flush_once old new fault (text_kept e a b c text is p k) (once ∙ ap next_count same) d

whole_why : (i a b : Known) (hooks : ℕ) (about : Option (List ℕ)) (e : Explained) → IfSome i (λ xs. IsExplained (why_meaning hooks about xs) e) → Appends a b e.text.items → IsWholeWhy hooks about i a b
whole_why None a b hooks about e is p = tt
whole_why (Some xs) a b hooks about e is p = subst (Appends a b) is.text_is p

pub explained_once : {W : Type 0} (i a b : Known) (hooks : ℕ) (about : Option (List ℕ)) (e : Explained) (old new : Counted W) (r : Result ℕ ReplayFault) → IfSome i (λ xs. IsExplained (why_meaning hooks about xs) e)
    → FlushesOnce (Appends a b e.text.items) old new r → FlushesOnce (IsWholeWhy hooks about i a b) old new r
explained_once i a b hooks about e old new r is p = once_for (whole_why i a b hooks about e is) old new r p
