use Rattle.std.proofs.Common.{◌≡◌, ◌+◌, ◌∙◌, take, drop, arith, sym, List, ℕ, rules, take-append-drop, append-nil, [], ◌≤◌}
use Rattle.std.specs.Io.KnownBytes.{Appends, Keeps}
use Rattle.std.specs.Prelude.{Option}
use Rattle.std.proofs.KnownBytes.{Appends-trans, Appends-kept}
use Rattle.std.proofs.lemmas.List.{take-take}
use Rattle.std.proofs.Math.Seq.{take-add}
use Rattle.span_run.specs.Device.{AppendsFront}
use Rattle.span_run.proofs.transfer.write_text.Goals as goal

-- a front was taken, then n more of a piece of the rest
more_taken : (a b c : Option (List ℕ)) (text : List ℕ) (done n most : ℕ) → n ≤ most → Appends a b (take done text) → Appends b c (take n (take most (drop done text))) → Appends a c (take (done + n) text)
more_taken a b c text done n most fits p q =
    let q' = rw (take-take n most (drop done text) fits) at q in
    rw take-add (Appends-trans a b c _ _ p q')

pub loop-done-preserved : goal.loop-done-preserved
loop-done-preserved g c =
    let e = c.in-Ok.ensures in
    record {
      in_range = omega (arith, e.bound);
      taken = more_taken _ _ _ c.args.text.now c.loop-done.done c.in-Ok.n _ (omega (arith, e.bound)) c.loop-done.invariant.taken e.bytes;
      failed = search (rules, e.ok, c.loop-done.invariant.failed);
      flushes = e.flushes ∙ c.loop-done.invariant.flushes;
    }

failed_front : (a b c : Option (List ℕ)) (text : List ℕ) (done : ℕ) → Appends a b (take done text) → Keeps b c → AppendsFront a c text
failed_front a b c text done p q = record {
  front = take done text;
  rest = drop done text;
  whole = sym (take-append-drop done text);
  taken = Appends-kept a b c _ p q;
}

none_taken : (a b c : Option (List ℕ)) (text more : List ℕ) (done n : ℕ) → n ≡ 0 → Appends a b (take done text) → Appends b c (take n more) → AppendsFront a c text
none_taken a b c text more done n z p q0 = let q : Appends b c [] = rw z at q0 in record {
  front = take done text;
  rest = drop done text;
  whole = sym (take-append-drop done text);
  taken = rw append-nil at (Appends-trans a b c _ _ p q);
}

pub returns-in-Ok-eq0-clause-front : goal.returns-in-Ok-eq0-clause-front
returns-in-Ok-eq0-clause-front g c = none_taken _ _ _ _ _ _ _ (search rules) c.loop-done.invariant.taken c.in-Ok-eq0.ensures.bytes

pub returns-in-Err-clause-front : goal.returns-in-Err-clause-front
returns-in-Err-clause-front g c = failed_front _ _ _ _ _ c.loop-done.invariant.taken c.in-Err.ensures.bytes
