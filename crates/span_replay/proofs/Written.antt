-- What goes out in a run, piece after piece.
use Rattle.std.proofs.Common.{◌≡◌, ℕ, ◌+◌, ◌<◌, List, [], ◌∷◌, ◌++◌, length, refl, ap, sym, ◌∙◌, subst, append_assoc, Some, None, Result, Ok, Err, IfSome, IfErr, arith, length-append}
use Rattle.std.specs.Io.KnownBytes.{Appends, Consumes}
use Rattle.std.proofs.KnownBytes.{Appends-nil, Appends-trans, Appends-kept, Keeps-refl}
use Rattle.std.proofs.lemmas.Bool.{lt-leb}
use Rattle.span_run.specs.Device.{AppendsFront}
use Rattle.span_replay.specs.Reading.{ReadFails}
use Rattle.span_run.proofs.Fronts.{Known, front_none, front_after, front_more}
use Rattle.span_replay.specs.Meaning.{Turn, Transcript, faulty, transcript_after, turn_then, run, meaning, line_turn, last_part}
use Rattle.span_replay.specs.Replayed.{Fails, Runs, KeepsUnread}
use Rattle.span_script.specs.Script.{script_lines, most_bytes}
use Rattle.span_replay.specs.State.{State}
use Rattle.span_replay.specs.inside.Turns.{HasBegun, HasTurned, TurnFails, Sent}
use Rattle.span_replay.specs.declared.run.fault.ReplayFault.{ReplayFault}
use Rattle.span_replay.specs.declared.run.fault.ReplayFault.TheVariants.{Script, Memory, Read, Write}
use Rattle.span_script.specs.declared.reason.Reason.{Reason}
use Rattle.span_script.specs.declared.reason.Reason.TheVariants.{TooLong}
use Rattle.span_replay.specs.ReplayFault.{EndsAsCounted}

-- ---- what went out before the rest

pub sent_none : (a : Known) (t : Transcript) → Sent a a t t
sent_none a t = record { text = []; taken = Appends-nil a; is = refl }

pub sent_more : (a b c : Known) (whole more rest : Transcript) (text : List ℕ) → Sent a b whole more → more ≡ transcript_after text rest → Appends b c text → Sent a c whole rest
sent_more a b c whole more rest text s e p = record {
  text = s.text ++ text;
  taken = Appends-trans a b c s.text text s.taken p;
  is = s.is ∙ ap (transcript_after s.text) e ∙ ap (λ x. record { text = x; ending = rest.ending }) (sym (append_assoc s.text text rest.text));
}

pub sent_trans : (a b c : Known) (whole more rest : Transcript) → Sent a b whole more → Sent b c more rest → Sent a c whole rest
sent_trans a b c whole more rest s t = sent_more a b c whole more rest t.text s t.is t.taken

-- the text so far and what came of the rest are what came of the whole
sent_text : (a b c : Known) (whole more : Transcript) → Sent a b whole more → Appends b c more.text → Appends a c whole.text
sent_text a b c whole more s p = subst (Appends a c) (sym (ap (λ t. t.text) s.is)) (Appends-trans a b c s.text more.text s.taken p)

pub sent_front : (a b c : Known) (whole more : Transcript) → Sent a b whole more → AppendsFront b c more.text → AppendsFront a c whole.text
sent_front a b c whole more s p = subst (AppendsFront a c) (sym (ap (λ t. t.text) s.is)) (front_after a b c s.text more.text s.taken p)

pub fails_after : (a b c : Known) (whole more : Transcript) (e : ReplayFault) → Sent a b whole more → Fails more b c e → Fails whole a c e
fails_after a b c whole more (Script number reason) s p = (ap (λ t. t.ending) s.is ∙ p.0, sent_text a b c whole more s p.1)
fails_after a b c whole more Memory s p = sent_front a b c whole more s p
fails_after a b c whole more Read s p = sent_front a b c whole more s p
fails_after a b c whole more Write s p = sent_front a b c whole more s p

-- what the rest of a run leaves is what the whole run leaves
pub runs_after : (a b c : Known) (whole more : Transcript) (r : Result ℕ ReplayFault) → Sent a b whole more → Runs more b c r → Runs whole a c r
runs_after a b c whole more (Ok n) s p = (ap (λ t. t.ending) s.is ∙ p.0, sent_text a b c whole more s p.1)
runs_after a b c whole more (Err e) s p = fails_after a b c whole more e s p

-- ---- one line

-- a line that did what is meant
pub turned_more : (a b : Known) (number : ℕ) (meant : Result Turn Reason) (state : State) (more : State → Transcript) → HasTurned meant state a b → Sent a b (turn_then number meant more) (more state)
turned_more a b number meant state more p = record { text = p.text; taken = p.written; is = ap (λ m. turn_then number m more) p.is }

-- a line whose text could not be written to its end
begun_fails : (a b : Known) (number : ℕ) (meant : Result Turn Reason) (more : State → Transcript) → HasBegun meant a b → AppendsFront a b (turn_then number meant more).text
begun_fails a b number meant more p =
    let is = ap (λ m. turn_then number m more) p.is in
    subst (AppendsFront a b) (sym (ap (λ t. t.text) is)) (front_more a b p.turn.text (more p.turn.state).text p.front)

-- a line that could not be run to its end ends the run
pub turned_fails : (a b : Known) (number : ℕ) (meant : Result Turn Reason) (more : State → Transcript) (e : ReplayFault) → TurnFails meant number a b e → Fails (turn_then number meant more) a b e
turned_fails a b number meant more (Script line reason) p =
    let is = ap (λ m. turn_then number m more) p.1 in (
      ap (λ t. t.ending) is ∙ ap (λ n. faulty n reason) (sym p.0),
      subst (Appends a b) (sym (ap (λ t. t.text) is)) (Appends-kept a a b [] (Appends-nil a) p.2),
    )
turned_fails a b number meant more Memory p = front_none a b _ p
turned_fails a b number meant more Read p = begun_fails a b number meant more p
turned_fails a b number meant more Write p = begun_fails a b number meant more p

-- ---- a turn of a loop over lines: `rest` is what is left, `line` its first line, `tail` what follows

run_cons : (hooks number : ℕ) (state : State) (rest line tail : List ℕ) → script_lines rest ≡ line ∷ script_lines tail
    → run hooks number state (script_lines rest) ≡ turn_then number (line_turn hooks state line) (λ new. run hooks (number + 1) new (script_lines tail))
unfolding run
run_cons hooks number state rest line tail cut = ap (run hooks number state) cut

pub loop_more : (hooks number : ℕ) (a b c : Known) (whole : Transcript) (state new : State) (rest line tail : List ℕ) → Sent a b whole (run hooks number state (script_lines rest)) → script_lines rest ≡ line ∷ script_lines tail
    → HasTurned (line_turn hooks state line) new b c → Sent a c whole (run hooks (number + 1) new (script_lines tail))
loop_more hooks number a b c whole state new rest line tail s cut p =
    sent_trans a b c whole _ _ s (subst (λ t. Sent b c t (run hooks (number + 1) new (script_lines tail))) (sym (run_cons hooks number state rest line tail cut)) (turned_more b c number _ new _ p))

pub loop_fails : (hooks number : ℕ) (a b c : Known) (whole : Transcript) (state : State) (rest line tail : List ℕ) (e : ReplayFault) → Sent a b whole (run hooks number state (script_lines rest)) → script_lines rest ≡ line ∷ script_lines tail
    → TurnFails (line_turn hooks state line) number b c e → Fails whole a c e
loop_fails hooks number a b c whole state rest line tail e s cut p =
    fails_after a b c whole _ e s (subst (λ t. Fails t b c e) (sym (run_cons hooks number state rest line tail cut)) (turned_fails b c number _ _ e p))

-- after the last line
pub loop_ends : (hooks number : ℕ) (a b : Known) (whole : Transcript) (state : State) (rest : List ℕ) → Sent a b whole (run hooks number state (script_lines rest)) → rest ≡ [] → Sent a b whole (last_part state)
unfolding script_lines run
loop_ends hooks number a b whole state rest s none = subst (λ xs. Sent a b whole (run hooks number state (script_lines xs))) none s

-- ---- the whole script

meaning_long : (hooks : ℕ) (bytes : List ℕ) → most_bytes < length bytes → meaning hooks bytes ≡ record { text = []; ending = faulty 0 TooLong }
meaning_long hooks bytes h = rw (lt-leb (length bytes) most_bytes h) refl

long_runs : (hooks : ℕ) (i j a : Known) (bytes : List ℕ) → Consumes i j bytes → most_bytes < length bytes → IfSome i (λ xs. ((meaning hooks xs).ending ≡ faulty 0 TooLong) × Appends a a (meaning hooks xs).text)
long_runs hooks None j a bytes all long = tt
long_runs hooks (Some xs) None a bytes all long = absurd all
long_runs hooks (Some xs) (Some ys) a bytes all long =
    let size : length xs ≡ length bytes + length ys = ap length all ∙ length-append bytes ys in
    let is = meaning_long hooks xs (omega (arith, size, long)) in
    (ap (λ t. t.ending) is, subst (Appends a a) (sym (ap (λ t. t.text) is)) (Appends-nil a))

if_some : {P Q : List ℕ → Type 0} (i : Known) → ((xs : List ℕ) → P xs → Q xs) → IfSome i P → IfSome i Q
if_some None f p = tt
if_some (Some xs) f p = f xs p

always : {P : List ℕ → Type 0} (i : Known) → ((xs : List ℕ) → P xs) → IfSome i P
always None f = tt
always (Some xs) f = f xs

pub empty_front : (a : Known) (text : List ℕ) → AppendsFront a a text
empty_front a text = record { front = []; rest = text; whole = refl; taken = Appends-nil a }

-- the reading failed, and nothing was written
pub unread_runs : (hooks : ℕ) (i j a : Known) (e : ReplayFault) → ReadFails i j e → IfSome i (λ xs. Fails (meaning hooks xs) a a e)
unread_runs hooks i j a (Script number reason) (at, is, (bytes, all, long)) =
    if_some i (λ xs p. (p.0 ∙ ap (λ k. faulty k TooLong) (sym at) ∙ ap (faulty number) (sym is), p.1)) (long_runs hooks i j a bytes all (omega (arith, long)))
unread_runs hooks i j a Memory p = always i (λ xs. empty_front a (meaning hooks xs).text)
unread_runs hooks i j a Read p = always i (λ xs. empty_front a (meaning hooks xs).text)
unread_runs hooks i j a Write p = always i (λ xs. empty_front a (meaning hooks xs).text)

-- a run that ends with a fault answers no number
pub none_told : (i : Known) → IfSome i (λ xs. Unit {0})
none_told None = tt
none_told (Some xs) = tt

-- ---- where the reader failed

pub unread_kept : (a : Known) (e : ReplayFault) → KeepsUnread a a e
unread_kept a (Script number reason) = tt
unread_kept a Memory = tt
unread_kept a Read = Keeps-refl a
unread_kept a Write = tt

-- a script that was read isn't ended by the reader
pub read_kept : (writes writes' : ℕ) (a b : Known) (r : Result ℕ ReplayFault) → EndsAsCounted 0 0 writes writes' r → IfErr r (KeepsUnread a b)
read_kept writes writes' a b (Ok left) c = tt
read_kept writes writes' a b (Err (Script number reason)) c = tt
read_kept writes writes' a b (Err Memory) c = tt
read_kept writes writes' a b (Err Read) c = let none = c.0 in absurd (omega (arith, none))
read_kept writes writes' a b (Err Write) c = tt
