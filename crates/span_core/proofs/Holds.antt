-- What a change of the spans does to the holders of each span, and to how many there are.
use Rattle.std.proofs.Common.{◌≡◌, ◌≢◌, ℕ, zero, suc, ◌+◌, ◌-◌, ◌<◌, ◌≤◌, true, false, [], ◌∷◌, filter, Option, Some, None, refl, sym, ap, ◌∙◌, subst, inl, inr, arith}
use Rattle.std.specs.Prelude.{is_some}
use Rattle.std.specs.Option.{option_map}
use Rattle.std.proofs.lemmas.Bool.{cases_Bool, false≢true, eq-eqb}
use Rattle.std.proofs.lemmas.Bool.Decides.{eqb_tells, nat_tests}
use Rattle.span_forest.specs.declared.span.Holder.{Holder}
use Rattle.span_forest.specs.declared.span.Holder.TheVariants.{Handle, Entry}
use Rattle.span_forest.specs.Node.{Node}
use Rattle.span_forest.specs.Spans.{Spans, find, AreApart, with_change}
use Rattle.span_forest.specs.Count.{holders, is_held, total_held}
use Rattle.span_forest.specs.Live.{is_live, live_part}
use Rattle.span_forest.specs.Holders.{held_by, held_in, IsHeld, with_more, with_less}
use Rattle.span_forest.specs.Keep.{with_holder}
use Rattle.span_forest.specs.Release.{without_holder, spans_left}
use Rattle.span_forest.proofs.Nodes.{find-changed_same, find-changed_other}
use Rattle.span_forest.proofs.Spared.{kept_passes, passing_kept}
use Rattle.span_forest.proofs.Totals.{total-changed}
use Rattle.span_core.proofs.Worlds.{live_of_held}
use Rattle.span_core.proofs.Accepting.{held_open}

held_by_held : (holder : Holder) (node : Node) → 0 < held_by holder node → is_held node ≡ true
held_by_held Handle node h = grind (arith, nat_tests)
held_by_held Entry node h = grind (arith, nat_tests)

-- the spans that are live have all holders
pub held-live : (holder : Holder) (spans : Spans) (j : ℕ) → held_in holder (find (live_part spans) j) ≡ held_in holder (find spans j)
held-live holder spans j =
    elim (cases_Bool (is_live spans j)) [
      | inl t ↦ ap (held_in holder) (passing_kept (is_live spans) spans j t)
      | inr t ↦ gone (find (live_part spans) j) refl t ∙ sym (none (find spans j) refl t)
    ]
  where
    gone : (o : Option Node) → find (live_part spans) j ≡ o → is_live spans j ≡ false → held_in holder (find (live_part spans) j) ≡ 0
    gone None is dead = ap (held_in holder) is
    gone (Some node) is dead = absurd (false≢true (sym dead ∙ kept_passes (is_live spans) spans j (ap is_some is)))

    none : (o : Option Node) → find spans j ≡ o → is_live spans j ≡ false → held_in holder (find spans j) ≡ 0
    none None is dead = ap (held_in holder) is
    none (Some node) is dead = ap (held_in holder) is ∙ at (held_by holder node) refl
      where
        at : (n : ℕ) → held_by holder node ≡ n → held_by holder node ≡ 0
        at zero e = e
        at (suc n) e = absurd (false≢true (sym dead ∙ live_of_held spans j node is (held_by_held holder node (omega (arith, e)))))

-- a change that leaves the holders of a kind leaves them everywhere
pub held-changed : (holder : Holder) (f : Node → Node) → ((node : Node) → held_by holder (f node) ≡ held_by holder node) → (spans : Spans) (id j : ℕ) → held_in holder (find (with_change f spans id) j) ≡ held_in holder (find spans j)
held-changed holder f same spans id j =
    elim (eqb_tells j id) [
      | inl t ↦ subst (λ (k : ℕ). held_in holder (find (with_change f spans id) k) ≡ held_in holder (find spans k)) (sym t.1) (ap (held_in holder) (find-changed_same f spans id) ∙ by_case (find spans id))
      | inr t ↦ ap (held_in holder) (find-changed_other f spans id j t.1)
    ]
  where
    by_case : (o : Option Node) → held_in holder (option_map f o) ≡ held_in holder o
    by_case None = refl
    by_case (Some node) = same node

-- a release takes one holder of the span, and none of any other
pub handles-released_same : (spans : Spans) (id : ℕ) → held_in Handle (find (spans_left spans id Handle) id) ≡ held_in Handle (find spans id) - 1
handles-released_same spans id = held-live Handle (without_holder spans id Handle) id ∙ ap (held_in Handle) (find-changed_same (with_less Handle) spans id) ∙ by_case (find spans id)
  where
    by_case : (o : Option Node) → held_in Handle (option_map (with_less Handle) o) ≡ held_in Handle o - 1
    by_case None = omega arith
    by_case (Some node) = refl

pub handles-released_other : (spans : Spans) (id j : ℕ) → j ≢ id → held_in Handle (find (spans_left spans id Handle) j) ≡ held_in Handle (find spans j)
handles-released_other spans id j other = held-live Handle (without_holder spans id Handle) j ∙ ap (held_in Handle) (find-changed_other (with_less Handle) spans id j other)

pub handles-released : (spans : Spans) (id j : ℕ) → held_in Handle (find (spans_left spans id Handle) j) ≤ held_in Handle (find spans j)
handles-released spans id j =
    elim (eqb_tells j id) [
      | inl t ↦ subst (λ (k : ℕ). held_in Handle (find (spans_left spans id Handle) k) ≤ held_in Handle (find spans k)) (sym t.1) (let less = handles-released_same spans id in omega (arith, less))
      | inr t ↦ (let same = handles-released_other spans id j t.1 in omega (arith, same))
    ]

pub handles-left : (spans : Spans) (id j : ℕ) → held_in Handle (find (spans_left spans id Entry) j) ≡ held_in Handle (find spans j)
handles-left spans id j = held-live Handle (without_holder spans id Entry) j ∙ held-changed Handle (with_less Entry) (λ node. refl) spans id j

pub handles-kept_other : (spans : Spans) (id j : ℕ) → j ≢ id → held_in Handle (find (with_holder spans id Handle) j) ≡ held_in Handle (find spans j)
handles-kept_other spans id j other = ap (held_in Handle) (find-changed_other (with_more Handle) spans id j other)

-- ---- how many holders there are

one_less : (holder : Holder) (node : Node) → 0 < held_by holder node → holders (with_less holder node) + 1 ≡ holders node
one_less Handle node h = omega (arith, h)
one_less Entry node h = omega (arith, h)

one_more : (holder : Holder) (node : Node) → holders (with_more holder node) ≡ holders node + 1
one_more Handle node = omega arith
one_more Entry node = omega arith

total-live : (spans all : Spans) → total_held (filter (λ e. is_live all e.0) spans) ≤ total_held spans
total-live [] all = omega arith
total-live (e ∷ es) all = let rest = total-live es all in elim (cases_Bool (is_live all e.0)) [ inl t ↦ rw t (omega (arith, rest)) | inr t ↦ rw t (omega (arith, rest)) ]

-- a release takes out at least one
pub total-released : (spans : Spans) (id : ℕ) (holder : Holder) → AreApart spans → IsHeld spans id holder → total_held (spans_left spans id holder) + 1 ≤ total_held spans
total-released spans id holder apart held =
    let there = held_open spans id holder held in
    let changed_is = total-changed (with_less holder) spans id there.0 apart there.1 in
    let some : 0 < held_by holder there.0 = (let is = ap (held_in holder) there.1 in omega (arith, held, is)) in
    let less = one_less holder there.0 some in
    let fewer = total-live (without_holder spans id holder) (without_holder spans id holder) in
    omega (arith, changed_is, less, fewer)

pub total-kept : (spans : Spans) (id : ℕ) (holder : Holder) (node : Node) → AreApart spans → find spans id ≡ Some node → total_held (with_holder spans id holder) ≡ total_held spans + 1
total-kept spans id holder node apart there =
    let changed_is = total-changed (with_more holder) spans id node apart there in
    let more = one_more holder node in
    omega (arith, changed_is, more)

pub total-same : (f : Node → Node) → ((node : Node) → holders (f node) ≡ holders node) → (spans : Spans) (id : ℕ) → total_held (with_change f spans id) ≡ total_held spans
total-same f same [] id = refl
total-same f same (e ∷ es) id =
    let rest = total-same f same es id in
    elim (eqb_tells e.0 id) [
      | inl t ↦ (let here = same e.1 in rw t.0 (omega (arith, rest, here)))
      | inr t ↦ rw t.0 (omega (arith, rest))
    ]

-- where no span has a holder, there is none
pub total-none : (spans : Spans) → AreApart spans → ((holder : Holder) (id : ℕ) → held_in holder (find spans id) ≡ 0) → total_held spans ≡ 0
total-none [] apart none = refl
total-none (e ∷ es) apart none =
    let rest = total-none es apart.1 (λ holder id. later holder id) in
    let handles : e.1.handles ≡ 0 = rw (eq-eqb e.0 e.0 refl) at (none Handle e.0) in
    let entries : e.1.entries ≡ 0 = rw (eq-eqb e.0 e.0 refl) at (none Entry e.0) in
    omega (arith, rest, handles, entries)
  where
    later : (holder : Holder) (id : ℕ) → held_in holder (find es id) ≡ 0
    later holder id =
        elim (eqb_tells e.0 id) [
          | inl t ↦ subst (λ (k : ℕ). held_in holder (find es k) ≡ 0) t.1 (ap (held_in holder) apart.0)
          | inr t ↦ (rw t.0 at (none holder id))
        ]
