-- The last part of a script: the workers' exits, the labels' closes, and the last line.
use Rattle.std.proofs.Common.{◌≡◌, ℕ, List, [], ◌++◌, length, map, refl, ap, sym, ◌∙◌, subst, append-nil, Result, Ok, Err, IfOk, IfErr}
use Rattle.std.specs.Io.KnownBytes.{Appends}
use Rattle.std.specs.List.{range_with_len}
use Rattle.span_core.specs.Core.{CoreView}
use Rattle.span_replay.specs.Answer.{left_text}
use Rattle.span_replay.specs.Labels.{Bound}
use Rattle.span_replay.specs.Meaning.{Transcript, finished, left_by_workers, last_part}
use Rattle.span_replay.specs.Replayed.{Fails, Runs}
use Rattle.span_replay.specs.State.{State}
use Rattle.span_replay.specs.inside.Turns.{AreMade, Sent, TextFails}
use Rattle.span_replay.specs.Written.{Written, closes, each_written, exits}
use Rattle.span_replay.specs.declared.run.fault.ReplayFault.{ReplayFault}
use Rattle.span_replay.specs.declared.run.fault.ReplayFault.TheVariants.{Script, Memory, Read, Write}
use Rattle.span_run.proofs.Fronts.{Known, front_more}
use Rattle.span_replay.proofs.Written.{fails_after, runs_after}

-- where a text fails that the whole begins with, the whole fails
text_fails : (a b : Known) (t : Transcript) (text more : List ℕ) (e : ReplayFault) → t.text ≡ text ++ more → TextFails text a b e → Fails t a b e
text_fails a b t text more (Script line reason) is p = absurd p
text_fails a b t text more Memory is p = rw is (front_more a b text more p)
text_fails a b t text more Read is p = rw is (front_more a b text more p)
text_fails a b t text more Write is p = rw is (front_more a b text more p)

-- the exits of all workers, of which there are as many as the limits say
abbrev left_by : CoreView → ℕ → Written
left_by core workers = each_written exits core (range_with_len 0 workers)

-- the closes of the labels that a core had
abbrev closed_labels : CoreView → Bound → Written
closed_labels core labels = each_written closes core (map (λ entry. entry.1) labels)

-- what is meant from the core on that the workers have left
abbrev from_labels : CoreView → Bound → Transcript
from_labels core labels = record {
  text = (closed_labels core labels).text ++ left_text (length (closed_labels core labels).core.world.spans);
  ending = finished (length (closed_labels core labels).core.world.spans);
}

abbrev last_line : CoreView → Transcript
last_line core = record { text = left_text (length core.world.spans); ending = finished (length core.world.spans) }

pub exits_fail : (a b : Known) (state : State) (workers : ℕ) (e : ReplayFault) → workers ≡ state.core.limits.workers → TextFails (left_by state.core workers).text a b e → Fails (last_part state) a b e
exits_fail a b state workers e all p =
    text_fails a b (last_part state) _ _ e refl (subst (λ n. TextFails (left_by state.core n).text a b e) all p)

all_exits : (a b : Known) (state : State) (workers : ℕ) (core : CoreView) → workers ≡ state.core.limits.workers → AreMade (left_by state.core workers) core a b → AreMade (left_by_workers state) core a b
all_exits a b state workers core all made = subst (λ n. AreMade (left_by state.core n) core a b) all made

exits_sent : (a b : Known) (state : State) (core : CoreView) (labels : Bound) → AreMade (left_by_workers state) core a b → labels ≡ state.labels → Sent a b (last_part state) (from_labels core labels)
exits_sent a b state core labels made same = record {
  text = (left_by_workers state).text;
  taken = made.taken;
  is = λ i. record {
    text = (left_by_workers state).text ++ (from_labels (sym made.core_is i) (sym same i)).text;
    ending = (from_labels (sym made.core_is i) (sym same i)).ending;
  };
}

pub closes_fail : (a b c : Known) (state : State) (workers : ℕ) (core core' : CoreView) (labels : Bound) (e : ReplayFault) → workers ≡ state.core.limits.workers → AreMade (left_by state.core workers) core a b
    → labels ≡ state.labels → core' ≡ core → TextFails (closed_labels core' labels).text b c e → Fails (last_part state) a c e
closes_fail a b c state workers core core' labels e all made same kept p =
    fails_after a b c (last_part state) (from_labels core labels) e (exits_sent a b state core labels (all_exits a b state workers core all made) same)
    (text_fails b c (from_labels core labels) _ _ e refl (subst (λ x. TextFails (closed_labels x labels).text b c e) kept p))

closes_sent : (b c : Known) (core new : CoreView) (labels : Bound) → AreMade (closed_labels core labels) new b c → Sent b c (from_labels core labels) (last_line new)
closes_sent b c core new labels made = record {
  text = (closed_labels core labels).text;
  taken = made.taken;
  is = λ i. record {
    text = (closed_labels core labels).text ++ (last_line (sym made.core_is i)).text;
    ending = (last_line (sym made.core_is i)).ending;
  };
}

line_runs : (c d : Known) (core : CoreView) (left : ℕ) (r : Result ℕ ReplayFault) → left ≡ length core.world.spans → IfOk r (λ n. (n ≡ left) × Appends c d (left_text left)) → IfErr r (TextFails (left_text left) c d)
    → Runs (last_line core) c d r
line_runs c d core left (Ok n) is ok err = (sym (ap finished (ok.0 ∙ is)), subst (λ k. Appends c d (left_text k)) is ok.1)
line_runs c d core left (Err e) is ok err =
    text_fails c d (last_line core) (left_text left) [] e (ap left_text (sym is) ∙ sym (append-nil (left_text left))) err

-- all of it was written, or the last line was not written to its end
pub tidied_runs : (a b c d : Known) (state : State) (workers : ℕ) (core core' new : CoreView) (labels : Bound) (left : ℕ) (r : Result ℕ ReplayFault) → workers ≡ state.core.limits.workers
    → AreMade (left_by state.core workers) core a b → labels ≡ state.labels → core' ≡ core → AreMade (closed_labels core' labels) new b c → left ≡ length new.world.spans
    → IfOk r (λ n. (n ≡ left) × Appends c d (left_text left)) → IfErr r (TextFails (left_text left) c d) → Runs (last_part state) a d r
tidied_runs a b c d state workers core core' new labels left r all made same kept closed is ok err =
    runs_after a b d (last_part state) (from_labels core labels) r (exits_sent a b state core labels (all_exits a b state workers core all made) same)
    (runs_after b c d (from_labels core labels) (last_line new) r (closes_sent b c core new labels (subst (λ x. AreMade (closed_labels x labels) new b c) kept closed)) (line_runs c d new left r is ok err))

-- the labels may be named otherwise
pub with_labels : (state : State) (labels : Bound) (a b : Known) (r : Result ℕ ReplayFault) → labels ≡ state.labels → Runs (last_part (record state { labels = labels })) a b r → Runs (last_part state) a b r
with_labels state labels a b r same p = subst (λ names. Runs (last_part (record state { labels = names })) a b r) same p
