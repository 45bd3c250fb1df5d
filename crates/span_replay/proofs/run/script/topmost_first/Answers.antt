use Rattle.std.proofs.Common.{◌≡◌, ◌+◌, ◌-◌, ◌<◌, ◌≤◌, ◌++◌, ◌∙◌, ℕ, zero, suc, List, [], ◌∷◌, length, take, reverse, Some, None, ap, sym, arith, append_assoc, append-nil}
use Rattle.std.specs.List.{slice_get}
use Rattle.std.proofs.lemmas.List.{take_more, take_all, reverse-append}
use Rattle.std.proofs.lemmas.Option.{get_or_from_slice_get, slice_get-get_or}
use Rattle.span_replay.proofs.run.script.topmost_first.Goals as goal

begins : (none stack : List ℕ) (n : ℕ) → none ≡ [] → n ≡ length stack → none ++ reverse (take n stack) ≡ reverse stack
begins none stack n e l = ap (λ x. x ++ reverse (take n stack)) e ∙ ap reverse (take_all n stack (omega (arith, l)))

there : (stack : List ℕ) (k : ℕ) → k < length stack → slice_get stack k ≡ None → ⊥
there stack k h e = let found = slice_get-get_or stack k 0 h in cc

one_more : (ids stack : List ℕ) (n id : ℕ) → 0 < n → n ≤ length stack → slice_get stack (n - 1) ≡ Some id → ids ++ reverse (take n stack) ≡ reverse stack
    → (ids ++ id ∷ []) ++ reverse (take (n - 1) stack) ≡ reverse stack
one_more ids stack n id low high e so_far =
    let same : n - 1 + 1 ≡ n = omega (arith, low) in
    let more : take n stack ≡ take (n - 1) stack ++ id ∷ [] =
    ap (λ m. take m stack) (sym same) ∙ take_more stack (n - 1) id (omega (arith, low, high)) ∙ ap (λ x. take (n - 1) stack ++ x ∷ []) (get_or_from_slice_get stack (n - 1) id id e) in
    append_assoc ids (id ∷ []) (reverse (take (n - 1) stack))
    ∙ ap (λ x. ids ++ x) (sym (reverse-append (take (n - 1) stack) (id ∷ [])) ∙ ap reverse (sym more))
    ∙ so_far

ends : (ids stack : List ℕ) (n : ℕ) → n ≤ 0 → ids ++ reverse (take n stack) ≡ reverse stack → ids ≡ reverse stack
ends ids stack zero h e = sym (append-nil ids) ∙ e
ends ids stack (suc n) h e = absurd (omega (arith, h))

pub loop-below-init : goal.loop-below-init
loop-below-init c = record {
  ids = begins _ _ _ c.new-ids.ensures.items c.len-below.ensures;
  in_range = omega (arith, c.len-below.ensures);
}

pub unreachable-requires : goal.unreachable-requires
unreachable-requires c =
    there c.args.stack.now.ids (c.loop-below.below - 1) (omega (arith, c.loop-below-test.true, c.loop-below.invariant.in_range)) (sym c.get.ensures ∙ c.in_default.is)

pub loop-below-preserved : goal.loop-below-preserved
loop-below-preserved c = record {
  ids = ap (λ x. x ++ reverse (take (c.loop-below.below - 1) c.args.stack.now.ids)) c.in_ok-push.ensures.items
      ∙ one_more _ _ _ _ c.loop-below-test.true c.loop-below.invariant.in_range (sym c.get.ensures ∙ c.in-Some.is) c.loop-below.invariant.ids;
  in_range = omega (arith, c.loop-below.invariant.in_range);
}

pub returns-clause-ids : goal.returns-clause-ids
returns-clause-ids c = ends _ _ _ c.loop-below-test.false c.loop-below.invariant.ids
