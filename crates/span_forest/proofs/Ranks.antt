-- Walks that end give each open span a rank, the length of its walk, which falls along each walk.
use Rattle.std.proofs.Common.{◌≡◌, ℕ, zero, suc, ◌<◌, ◌≤◌, ◌∷◌, length, Option, Some, None, refl, ap, subst, arith}
use Rattle.span_slots.specs.Table.{AreApart}
use Rattle.span_forest.specs.Spans.{Spans, IsOpen, parent_of}
use Rattle.span_forest.specs.Walk.{walk_within, walk, Ends}
use Rattle.span_forest.specs.Forest.{IsForest}
use Rattle.span_forest.proofs.Finds.{child_open}

-- ids have ranks below a bound that fall along each walk, ids stand once, and each parent is open
pub record IsRanked (spans : Spans) : Type 0 where
  pub apart : AreApart spans
  pub parents_open : (c p : ℕ) → parent_of spans c ≡ Some p → IsOpen spans p
  pub rank : ℕ → ℕ
  pub top : ℕ
  pub falls : (c p : ℕ) → parent_of spans c ≡ Some p → rank p < rank c
  pub bounded : (c : ℕ) → IsOpen spans c → rank c < top

pub Ends_up : (spans : Spans) (u p n : ℕ) → parent_of spans u ≡ Some p → Ends (suc n) spans (Some u) → Ends n spans (Some p)
Ends_up spans u p n e h = subst (λ x. Ends n spans x) e h

-- one step more adds nothing to a walk that ends
pub walk_more : (n : ℕ) (spans : Spans) (o : Option ℕ) → Ends n spans o → walk_within (suc n) spans o ≡ walk_within n spans o
walk_more n spans None h = refl
walk_more zero spans (Some id) h = absurd h
walk_more (suc n) spans (Some id) h = ap (λ v. id ∷ v) (walk_more n spans (parent_of spans id) h)

walk_le : (n : ℕ) (spans : Spans) (o : Option ℕ) → length (walk_within n spans o) ≤ n
walk_le n spans None = omega arith
walk_le zero spans (Some id) = omega arith
walk_le (suc n) spans (Some id) = let r = walk_le n spans (parent_of spans id) in omega arith

walk_falls : (n : ℕ) (spans : Spans) (c p : ℕ) → parent_of spans c ≡ Some p → Ends n spans (Some c) → length (walk_within n spans (Some p)) < length (walk_within n spans (Some c))
walk_falls zero spans c p e h = absurd h
walk_falls (suc n) spans c p e h =
    let q = ap length (walk_more n spans (Some p) (Ends_up spans c p n e h)) in
    let k = ap (λ o. length (walk_within n spans o)) e in
    omega arith

pub ranked : (spans : Spans) → IsForest spans → IsRanked spans
ranked spans w = record {
  apart = w.ids_apart;
  parents_open = w.parents_open;
  rank = λ id. length (walk spans id);
  top = suc (length spans);
  falls = λ c p e. walk_falls (length spans) spans c p e (w.walks_end c (child_open spans c p e));
  bounded = λ c o. (let k = walk_le (length spans) spans (Some c) in omega arith);
}
