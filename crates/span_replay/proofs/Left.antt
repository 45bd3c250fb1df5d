-- The tidying leaves nothing: a run that ends at no fault ends with no open span.
-- Between two lines something holds each open span, the entries of a span are those of the stacks, and a label
-- names each span that has a handle (modules Turns and Tracked). So once the workers have left their stacks
-- (Exits), and each span that a label names is closed as often as it has handles (ClosedLabels), nothing is held, and a
-- forest in which nothing is held is empty. Each of these calls is accepted: what it needs is there, and the calls
-- so far are too few for `CountFull`.
use Rattle.std.proofs.Common.{◌≡◌, ℕ, ◌+◌, ◌-◌, ◌*◌, ◌^◌, ◌<◌, ◌≤◌, Bool, true, false, if◌then◌else◌, List, [], ◌∷◌, length, Result, Ok, Err, refl, sym, ap, ◌∙◌, inl, inr, arith, Option, Some, None, IfSome, IfOk}
use Rattle.std.specs.Prelude.{nat_le, ◌==◌}
use Rattle.std.proofs.lemmas.Bool.{cases_Bool, leb-true}
use Rattle.span_core.proofs.Weights.{weight}
use Rattle.span_replay.specs.State.{State, first_state}
use Rattle.span_script.specs.Script.{onto_line, script_lines, most_bytes}
use Rattle.span_replay.specs.Replayed.{Runs}
use Rattle.span_replay.specs.declared.run.fault.ReplayFault.{ReplayFault}
use Rattle.span_replay.specs.Meaning.{Turn, Ending, finished, faulty, Transcript, line_turn, turn_then, run, meaning}
use Rattle.span_script.specs.declared.reason.Reason.{Reason}
use Rattle.span_script.specs.declared.reason.Reason.TheVariants.{TooLong}
use Rattle.span_replay.proofs.ClosedLabels.{nothing_open}
use Rattle.span_script.proofs.Fits.{WhereOk}
use Rattle.span_replay.proofs.Turns.{IsGood, Next, line_next, good_start, light_start}

-- a script has at most as many lines as bytes
length-onto_line : (x : ℕ) (lines : List (List ℕ)) → length (onto_line x lines) ≤ length lines + 1
length-onto_line x [] = omega arith
length-onto_line x (line ∷ lines) = omega arith

pub length-script_lines : (bytes : List ℕ) → length (script_lines bytes) ≤ length bytes
unfolding script_lines
length-script_lines [] = omega arith
length-script_lines (x ∷ xs) =
    let rest = length-script_lines xs in
    let longer = length-onto_line x (script_lines xs) in
    elim (cases_Bool (x == 10)) [ inl t ↦ rw t (omega (arith, rest)) | inr t ↦ rw t (omega (arith, rest, longer)) ]

-- how many spans a run left
abbrev ended : Ending → ℕ
ended (finished n) = n
ended (faulty number reason) = 0

-- after a line the run goes on, or ends at its fault
turned_left : (number n : ℕ) (state : State) (turn : Result Turn Reason) (more : State → Transcript) → WhereOk turn (λ (t : Turn). Next state t.state)
    → ((new : State) → Next state new → (more new).ending ≡ finished n → n ≡ 0) → (turn_then number turn more).ending ≡ finished n → n ≡ 0
turned_left number n state (Ok turn) more next rest is = rest turn.state next.is is
turned_left number n state (Err reason) more next rest is = cc

-- the calls so far, the holders and the entries of stacks grow by at most three a line
run_left : (lines : List (List ℕ)) (hooks number : ℕ) (state : State) (n : ℕ) → IsGood state → weight state.core + 3 * length lines < 2 ^ 64 - 1 → (run hooks number state lines).ending ≡ finished n → n ≡ 0
unfolding run
run_left [] hooks number state n good light is =
    sym (ap ended is) ∙ ap length (nothing_open state good.tracked good.some_worker (omega (arith, light)))
run_left (line ∷ lines) hooks number state n good light is =
    turned_left number n state (line_turn hooks state line) (λ new. run hooks (number + 1) new lines) (line_next hooks state line good)
    (λ new next ends. run_left lines hooks (number + 1) new n next.good (let heavier = next.weight in omega (arith, light, heavier)) ends)
    is

-- a run that ends at no fault ends with no open span
pub left_nothing : (hooks : ℕ) (bytes : List ℕ) (n : ℕ) → (meaning hooks bytes).ending ≡ finished n → n ≡ 0
left_nothing hooks bytes n is = by_case (nat_le (length bytes) most_bytes) refl is
  where
    by_case : (b : Bool) → nat_le (length bytes) most_bytes ≡ b
        → (if b then run hooks 1 first_state (script_lines bytes) else record { text = []; ending = faulty 0 TooLong }).ending ≡ finished n → n ≡ 0
    by_case true fits ends =
        let few = leb-true (length bytes) most_bytes fits in
        let lines = length-script_lines bytes in
        run_left (script_lines bytes) hooks 1 first_state n good_start (omega (arith, few, lines, light_start)) ends
    by_case false fits ends = cc

-- where the bytes that are read are known
pub nothing_left : (hooks : ℕ) (i a b : Option (List ℕ)) (ended : Result ℕ ReplayFault) → IfSome i (λ bytes. Runs (meaning hooks bytes) a b ended) → IfSome i (λ bytes. IfOk ended (λ left. left ≡ 0))
nothing_left hooks None a b ended p = tt
nothing_left hooks (Some bytes) a b (Ok left) p = left_nothing hooks bytes left p.0
nothing_left hooks (Some bytes) a b (Err fault) p = tt
