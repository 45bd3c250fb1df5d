-- How many holders and how many handles all spans have.
use Rattle.std.proofs.Common.{◌≡◌, ℕ, ◌+◌, ◌*◌, ◌<◌, ◌≤◌, ◌⊎◌, Bool, true, false, List, [], ◌∷◌, length, filter, Option, Some, None, refl, sym, ap, ◌∙◌, inl, inr, arith}
use Rattle.span_forest.specs.declared.span.Span.{Span}
use Rattle.std.proofs.lemmas.Bool.Decides.{eqb_tells}
use Rattle.std.proofs.lemmas.Bool.{cases_Bool, cases_lt, false≢true, eq-eqb}
use Rattle.span_id.specs.Id.{slot_of}
use Rattle.span_forest.specs.Node.{Node}
use Rattle.span_slots.specs.Table.{without_entry, find, with_entry, AreApart}
use Rattle.span_forest.specs.Spans.{Spans, nodes_of, with_change}
use Rattle.span_forest.specs.Count.{holders, holders_in, total_held, total_handles}
use Rattle.std.proofs.Common.{ltb}

-- ---- a number that all spans have together

-- what the weight gives of each span, together
abbrev pub weighed : (Node → ℕ) → Spans → ℕ
weighed weight [] = 0
weighed weight (e ∷ es) = weight e.1 + weighed weight es

pub held_weighed : (spans : Spans) → weighed holders spans ≡ total_held spans
held_weighed [] = refl
held_weighed (e ∷ es) = let r = held_weighed es in omega (arith, r)

pub handles_weighed : (spans : Spans) → weighed (λ node. node.handles) spans ≡ total_handles spans
handles_weighed [] = refl
handles_weighed (e ∷ es) = let r = handles_weighed es in omega (arith, r)

module _ (weight : Node → ℕ) where
  weighed-absent : (f : Node → Node) (spans : Spans) (id : ℕ) → find spans id ≡ None → weighed weight (with_change f spans id) ≡ weighed weight spans
  weighed-absent f [] id h = refl
  weighed-absent f (e ∷ es) id h =
      elim (eqb_tells e.0 id) [
        | inl t ↦ (let h2 = rw t.0 at h in cc)
        | inr t ↦ (let r = weighed-absent f es id (rw t.0 at h) in rw t.0 (omega arith))
      ]

  -- a change of one span's node changes the number by what it changes of that span
  pub weighed-changed : (f : Node → Node) (spans : Spans) (id : ℕ) (node : Node) → AreApart spans → find spans id ≡ Some node → weighed weight (with_change f spans id) + weight node ≡ weighed weight spans + weight (f node)
  weighed-changed f [] id node a h = cc
  weighed-changed f (e ∷ es) id node a h =
      elim (eqb_tells e.0 id) [
        | inl t ↦ (let r = weighed-absent f es id (rw t.1 at a.0) in
            let h2 = rw t.0 at h in
            let same : e.1 ≡ node = cc in
            let p = ap weight same in
            let q = ap (λ n. weight (f n)) same in
            rw t.0 (omega arith))
        | inr t ↦ (let r = weighed-changed f es id node a.1 (rw t.0 at h) in rw t.0 (omega arith))
      ]

  -- a change that leaves each span's part leaves the number
  pub weighed-same : (f : Node → Node) → ((node : Node) → weight (f node) ≡ weight node) → (spans : Spans) (id : ℕ) → weighed weight (with_change f spans id) ≡ weighed weight spans
  weighed-same f same [] id = refl
  weighed-same f same (e ∷ es) id =
      let r = weighed-same f same es id in
      elim (eqb_tells e.0 id) [
        | inl t ↦ (let here = same e.1 in rw t.0 (omega (arith, r, here)))
        | inr t ↦ rw t.0 (omega (arith, r))
      ]

  pub weighed-with : (spans : Spans) (id : ℕ) (node : Node) → weighed weight (with_entry spans id node) ≡ weighed weight spans + weight node
  weighed-with [] id node = omega arith
  weighed-with (e ∷ es) id node =
      let r = weighed-with es id node in
      elim (cases_Bool (ltb (slot_of id) (slot_of e.0))) [ inl t ↦ rw t (omega arith) | inr t ↦ rw t (omega arith) ]

  -- spans that have no part in the number may go
  pub weighed-filter : (f : ℕ → Bool) (spans : Spans) → AreApart spans → ((id : ℕ) (node : Node) → find spans id ≡ Some node → 0 < weight node → f id ≡ true) → weighed weight (filter (λ e. f e.0) spans) ≡ weighed weight spans
  weighed-filter f [] a keeps = refl
  weighed-filter f (e ∷ es) a keeps =
      let r = weighed-filter f es a.1 (λ id node h. keeps id node (elim (eqb_tells e.0 id) [
        | inl t ↦ (let absent = rw t.1 at a.0 in cc)
        | inr t ↦ rw t.0 h
      ])) in
      elim (cases_Bool (f e.0)) [
        | inl t ↦ rw t (omega (arith, r))
        | inr t ↦ (let none = gone (cases_lt 0 (weight e.1)) t in rw t (omega (arith, r, none)))
      ]
    where
      gone : (0 < weight e.1) ⊎ (weight e.1 ≤ 0) → f e.0 ≡ false → weight e.1 ≡ 0
      gone (inl some) dead = absurd (false≢true (sym dead ∙ keeps e.0 e.1 (rw (eq-eqb e.0 e.0 refl) refl) some))
      gone (inr none) dead = omega (arith, none)

-- ---- the number of all holders

pub total-changed : (f : Node → Node) (spans : Spans) (id : ℕ) (node : Node) → AreApart spans → find spans id ≡ Some node → total_held (with_change f spans id) + holders node ≡ total_held spans + holders (f node)
total-changed f spans id node a h =
    let is = weighed-changed holders f spans id node a h in
    omega (arith, is, held_weighed spans, held_weighed (with_change f spans id))

pub total-with : (spans : Spans) (id : ℕ) (node : Node) → total_held (with_entry spans id node) ≡ total_held spans + holders node
total-with spans id node =
    let is = weighed-with holders spans id node in
    omega (arith, is, held_weighed spans, held_weighed (with_entry spans id node))

without_absent_total : (spans : Spans) (id : ℕ) → find spans id ≡ None → total_held (without_entry spans id) ≡ total_held spans
without_absent_total [] id h = refl
without_absent_total (e ∷ es) id h =
    elim (eqb_tells e.0 id) [
      | inl t ↦ (let h2 = rw t.0 at h in cc)
      | inr t ↦ (let r = without_absent_total es id (rw t.0 at h) in rw t.0 (omega arith))
    ]

pub total-without : (spans : Spans) (id : ℕ) → AreApart spans → holders_in (find spans id) ≡ 0 → total_held (without_entry spans id) ≡ total_held spans
total-without [] id a z = refl
total-without (e ∷ es) id a z =
    elim (eqb_tells e.0 id) [
      | inl t ↦ (let r = without_absent_total es id (rw t.1 at a.0) in
          let z2 = rw t.0 at z in
          rw t.0 (omega arith))
      | inr t ↦ (let r = total-without es id a.1 (rw t.0 at z) in rw t.0 (omega arith))
    ]

first_le : (e : ℕ × Node) (es : Spans) (max : ℕ) → holders_in (find (e ∷ es) e.0) ≤ max → holders e.1 ≤ max
first_le e es max h = rw (eq-eqb e.0 e.0 refl) at h

none_le : (o : Option Node) (max : ℕ) → o ≡ None → holders_in o ≤ max
none_le None max h = omega arith
none_le (Some node) max h = cc

rest_le : (e : ℕ × Node) (es : Spans) (max id : ℕ) → find es e.0 ≡ None → holders_in (find (e ∷ es) id) ≤ max → holders_in (find es id) ≤ max
rest_le e es max id a h =
    elim (eqb_tells e.0 id) [
      | inl t ↦ none_le (find es id) max (rw t.1 at a)
      | inr t ↦ (rw t.0 at h)
    ]

-- where no span has more than 4294967295 holders, all have at most that times their number
pub total_le : (spans : Spans) → AreApart spans → ((id : ℕ) → holders_in (find spans id) ≤ 4294967295) → total_held spans ≤ length spans * 4294967295
total_le [] a h = omega arith
total_le (e ∷ es) a h =
    let first = first_le e es 4294967295 (h e.0) in
    let rest = total_le es a.1 (λ id. rest_le e es 4294967295 id a.0 (h id)) in
    omega arith

pub length-nodes : (es : List (ℕ × Span)) → length (nodes_of es) ≡ length es
length-nodes [] = refl
length-nodes (e ∷ es) = let r = length-nodes es in omega arith

pub length-changed : (f : Node → Node) (spans : Spans) (id : ℕ) → length (with_change f spans id) ≡ length spans
length-changed f [] id = refl
length-changed f (e ∷ es) id = let r = length-changed f es id in omega arith
