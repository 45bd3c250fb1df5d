-- Whole scripts as worked cases of their meaning, computed from the definitions alone.
use Rattle.std.proofs.Common.{◌≡◌, [], codes, refl}
use Rattle.std.specs.Prelude.{⊤}
use Rattle.std.specs.Fmt.{digits}
use Rattle.std.specs.Str.{is_utf8, chars}
use Rattle.serde_json.proofs.OnLiterals.{serde_json_on_literals}
use Rattle.span_layers.specs.Rule.{is_admitted}
use Rattle.span_layers.specs.Text.{text_of}
use Rattle.span_replay.specs.Meaning.{meaning, finished, faulty, run, read_turn, value_turn, new_turn}
use Rattle.span_script.specs.Operation.{json_of, operation_of, op_of, limits_of, layer_of, new_of, on_span_of, record_of, event_of, find_of, all_of}
use Rattle.span_script.specs.Script.{script_lines}
use Rattle.span_replay.specs.Written.{calls_written, each_written}
use Rattle.span_script.specs.declared.key.Key.TheVariants as key
use Rattle.span_script.specs.declared.reason.Reason.TheVariants.{BadKey, LabelTaken, LateLine, NoSuchLabel, NotJson}

-- what a worked case unfolds to compute the meaning of a script
unfoldable on_scripts : ⊤
unfolding script_lines run read_turn value_turn new_turn json_of operation_of op_of limits_of layer_of new_of on_span_of record_of event_of find_of all_of each_written calls_written text_of is_admitted digits is_utf8 chars serde_json_on_literals
on_scripts = tt

-- one span, which the tidying closes
a_span_is_closed_at_the_end : meaning 64 (codes "{\"op\":\"new\",\"name\":\"a\"}\n") ≡ record { text = codes "= 1\n= closed\nleft 0\n"; ending = finished 0 }
unfolding on_scripts
a_span_is_closed_at_the_end = refl

-- a script ends at its first fault; no tidying, no last line
a_taken_label_ends_the_run : meaning 64 (codes "{\"op\":\"new\",\"name\":\"a\"}\n{\"op\":\"new\",\"name\":\"a\"}\n{\"op\":\"new\",\"name\":\"b\"}\n") ≡ record { text = codes "= 1\n"; ending = faulty 2 LabelTaken }
unfolding on_scripts
a_taken_label_ends_the_run = refl

-- a skipped line is numbered
a_skipped_line_is_numbered : meaning 64 (codes " \n{\"op\":\"close\",\"span\":\"a\"}\n") ≡ record { text = []; ending = faulty 2 NoSuchLabel }
unfolding on_scripts
a_skipped_line_is_numbered = refl

-- a last line without a newline counts
a_line_that_was_cut_off_is_no_json : meaning 64 (codes "{\"op\":\"new\",\"name\":\"a\"}\n{\"op\":\"cl") ≡ record { text = codes "= 1\n"; ending = faulty 2 NotJson }
unfolding on_scripts
a_line_that_was_cut_off_is_no_json = refl

-- layers come before all calls
a_layer_after_a_call_is_late : meaning 64 (codes "{\"op\":\"new\",\"name\":\"a\"}\n{\"op\":\"layer\"}\n") ≡ record { text = codes "= 1\n"; ending = faulty 2 LateLine }
unfolding on_scripts
a_layer_after_a_call_is_late = refl

-- a worker that is not there
a_worker_that_is_not_there : meaning 64 (codes "{\"op\":\"limits\",\"workers\":1}\n{\"op\":\"new\",\"name\":\"a\",\"w\":1}\n") ≡ record { text = codes "= limits\n"; ending = faulty 2 (BadKey key.Worker) }
unfolding on_scripts
a_worker_that_is_not_there = refl

-- a call's notes stand before its answer
a_layer_is_told_of_new_and_close : meaning 64 (codes "{\"op\":\"layer\"}\n{\"op\":\"new\",\"name\":\"a\"}\n{\"op\":\"close\",\"span\":\"a\"}\n") ≡ record { text = codes "= layer 0\nL0 new 1 w0 a\n= 1\nL0 close 1 w0 a\n= closed\nleft 0\n"; ending = finished 0 }
unfolding on_scripts
a_layer_is_told_of_new_and_close = refl

-- a chain closes child first, once nothing holds it
a_chain_closes_child_first : meaning 64 (codes "{\"op\":\"layer\",\"spans\":8}\n{\"op\":\"new\",\"name\":\"a\"}\n{\"op\":\"new\",\"name\":\"b\",\"parent\":\"a\"}\n{\"op\":\"close\",\"span\":\"a\"}\n{\"op\":\"close\",\"span\":\"b\"}\n") ≡ record { text = codes "= layer 0\n= 1\n= 2\n= open\nL0 close 2 w0 a:b\nL0 close 1 w0 a\n= closed\nleft 0\n"; ending = finished 0 }
unfolding on_scripts
a_chain_closes_child_first = refl

-- an exit that closes a span is told before the close
an_exit_is_told_before_the_close : meaning 64 (codes "{\"op\":\"layer\"}\n{\"op\":\"new\",\"name\":\"a\"}\n{\"op\":\"enter\",\"span\":\"a\"}\n{\"op\":\"close\",\"span\":\"a\"}\n{\"op\":\"exit\",\"span\":\"a\"}\n") ≡ record { text = codes "= layer 0\nL0 new 1 w0 a\n= 1\nL0 enter 1 w0 a\n= entered\n= open\nL0 exit 1 w0 a\nL0 close 1 w0 a\n= closed\nleft 0\n"; ending = finished 0 }
unfolding on_scripts
an_exit_is_told_before_the_close = refl

-- the workers leave first, the topmost entry first, and then the labels close what they name
the_tidying_leaves_and_then_closes : meaning 64 (codes "{\"op\":\"new\",\"name\":\"a\"}\n{\"op\":\"enter\",\"span\":\"a\"}\n{\"op\":\"enter\",\"span\":\"a\"}\n") ≡ record { text = codes "= 1\n= entered\n= again\n= open\n= open\n= closed\nleft 0\n"; ending = finished 0 }
unfolding on_scripts
the_tidying_leaves_and_then_closes = refl

-- a span that no layer admits isn't made
a_span_that_no_layer_admits_is_not_made : meaning 64 (codes "{\"op\":\"layer\",\"rule\":[]}\n{\"op\":\"new\",\"name\":\"a\"}\n") ≡ record { text = codes "= layer 0\n= not wanted\nleft 0\n"; ending = finished 0 }
unfolding on_scripts
a_span_that_no_layer_admits_is_not_made = refl

-- the JSON form has its keys in the order of their bytes
a_layer_of_the_json_form : meaning 64 (codes "{\"op\":\"layer\",\"form\":\"json\",\"spans\":1}\n{\"op\":\"new\",\"name\":\"a\",\"fields\":[[\"k\",\"1\"]]}\n") ≡ record { text = codes "= layer 0\nL0 {\"fields\":[[\"k\",\"1\"]],\"id\":1,\"kind\":\"new\",\"path\":\"a\",\"worker\":0}\n= 1\n= closed\nleft 0\n"; ending = finished 0 }
unfolding on_scripts
a_layer_of_the_json_form = refl

-- closed ids find nothing
a_closed_id_finds_nothing : meaning 64 (codes "{\"op\":\"new\",\"name\":\"a\"}\n{\"op\":\"close\",\"span\":\"a\"}\n{\"op\":\"find\",\"span\":\"a\"}\n") ≡ record { text = codes "= 1\n= closed\n! unknown\nleft 0\n"; ending = finished 0 }
unfolding on_scripts
a_closed_id_finds_nothing = refl
