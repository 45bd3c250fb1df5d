-- From a line's JSON value to what the line does, and to what was written.
use Rattle.std.proofs.Common.{◌≡◌, ℕ, List, [], ◌∷◌, true, false, refl, sym, ◌∙◌, subst, Result, Ok, Err}
use Rattle.std.specs.Io.KnownBytes.{Appends}
use Rattle.std.proofs.KnownBytes.{Appends-nil, Keeps-refl}
use Rattle.serde_json.specs.Data.{Data}
use Rattle.span_run.specs.Device.{AppendsFront}
use Rattle.span_replay.specs.inside.Ended.{fault_at}
use Rattle.span_replay.specs.Meaning.{Turn, line_turn, read_turn, value_turn}
use Rattle.span_script.specs.Operation.{json_of}
use Rattle.span_script.specs.Reason.{StopsFor}
use Rattle.span_script.specs.Script.{is_skipped, script_lines}
use Rattle.span_replay.specs.State.{State}
use Rattle.span_replay.specs.inside.Turns.{HasTurned, TurnFails}
use Rattle.span_script.specs.declared.reason.Reason.{Reason}
use Rattle.span_replay.specs.declared.run.fault.ReplayFault.{ReplayFault}
use Rattle.span_replay.specs.declared.run.fault.ReplayFault.TheVariants.{Write}
use Rattle.span_script.specs.declared.stop.Stop.{Stop}
use Rattle.span_script.specs.declared.stop.Stop.TheVariants.{Memory, Refused}
use Rattle.span_run.proofs.Fronts.{Known}

pub empty_line : (script tail : List ℕ) → script ≡ 10 ∷ tail → script_lines script ≡ [] ∷ script_lines tail
unfolding script_lines
empty_line script tail first = rw first refl

pub skipped_line : (hooks : ℕ) (state : State) (line : List ℕ) (a : Known) → is_skipped line ≡ true → HasTurned (line_turn hooks state line) state a a
skipped_line hooks state line a k = record { text = []; is = rw k refl; written = Appends-nil a }

pub read_line : (hooks : ℕ) (state : State) (line : List ℕ) (value : Data) → is_skipped line ≡ false → json_of line ≡ Ok value → line_turn hooks state line ≡ value_turn hooks state value
unfolding read_turn
read_line hooks state line value k e = rw (k, e) refl

bad_line : (hooks : ℕ) (state : State) (line : List ℕ) (reason : Reason) → is_skipped line ≡ false → json_of line ≡ Err reason → line_turn hooks state line ≡ Err reason
unfolding read_turn
bad_line hooks state line reason k e = rw (k, e) refl

pub json_stops : (hooks : ℕ) (state : State) (line : List ℕ) (stop : Stop) → is_skipped line ≡ false → StopsFor (json_of line) stop → StopsFor (line_turn hooks state line) stop
json_stops hooks state line Memory k p = tt
json_stops hooks state line (Refused reason) k p = bad_line hooks state line reason k p

at_fault : (meant : Result Turn Reason) (number : ℕ) (a : Known) (stop : Stop) → StopsFor meant stop → TurnFails meant number a a (fault_at number stop)
at_fault meant number a Memory p = Keeps-refl a
at_fault meant number a (Refused reason) p = (refl, p, Keeps-refl a)

-- nothing was written
pub stop_fails : (meant : Result Turn Reason) (number : ℕ) (a : Known) (stop : Stop) (fault : ReplayFault) → StopsFor meant stop → fault ≡ fault_at number stop → TurnFails meant number a a fault
stop_fails meant number a stop fault p e = subst (TurnFails meant number a a) (sym e) (at_fault meant number a stop p)

pub turn_written : (meant meant' : Result Turn Reason) (state : State) (text shown : List ℕ) (a b : Known) → meant ≡ meant' → meant' ≡ Ok (record { text = text; state = state }) → shown ≡ text → Appends a b shown
    → HasTurned meant state a b
turn_written meant meant' state text shown a b e is same p = record { text = text; is = e ∙ is; written = subst (Appends a b) same p }

pub turn_begun : (meant meant' : Result Turn Reason) (number : ℕ) (state : State) (text shown : List ℕ) (a b : Known) (fault : ReplayFault) → meant ≡ meant' → meant' ≡ Ok (record { text = text; state = state }) → shown ≡ text
    → fault ≡ Write → AppendsFront a b shown → TurnFails meant number a b fault
turn_begun meant meant' number state text shown a b fault e is same d p =
    subst (TurnFails meant number a b) (sym d) (record { turn = record { text = text; state = state }; is = e ∙ is; front = subst (AppendsFront a b) same p })
