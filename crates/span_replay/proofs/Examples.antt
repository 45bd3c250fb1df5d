-- Worked cases of the definitions.
use Rattle.std.proofs.Common.{◌≡◌, [], codes, false, refl}
use Rattle.std.specs.Fmt.{digits}
use Rattle.span_id.specs.declared.fault.Fault.TheVariants.{CountFull}
use Rattle.span_script.specs.Script.{script_lines}
use Rattle.span_replay.specs.Answer.{answer_text, left_text}
use Rattle.span_replay.specs.Meaning.{meaning, finished, run}
use Rattle.span_replay.specs.Written.{calls_written, each_written}
use Rattle.span_replay.specs.declared.run.answer.Answer.TheVariants.{Made, Closed, Refused}

-- ---- whole scripts

an_empty_script_leaves_nothing : meaning 64 [] ≡ record { text = codes "left 0\n"; ending = finished 0 }
unfolding script_lines run each_written calls_written digits
an_empty_script_leaves_nothing = refl

a_skipped_line_has_no_answer : meaning 64 (codes " \t\r\n\n") ≡ record { text = codes "left 0\n"; ending = finished 0 }
unfolding script_lines run each_written calls_written digits
a_skipped_line_has_no_answer = refl

-- ---- answers

a_span_was_made : answer_text (Made 16777217) ≡ codes "= 16777217\n"
unfolding digits
a_span_was_made = refl

a_span_stays_open : answer_text (Closed false) ≡ codes "= open\n"
a_span_stays_open = refl

a_refusal : answer_text (Refused CountFull) ≡ codes "! count full\n"
a_refusal = refl

nothing_is_left : left_text 0 ≡ codes "left 0\n"
unfolding digits
nothing_is_left = refl
