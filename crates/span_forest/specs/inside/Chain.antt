-- How a release goes up along the parents, for the functions inside this crate: no public clause cites it.
use Rattle.std.specs.Prelude.{ℕ, ◌<◌, ◌≡◌, List, [], ◌∷◌, Option, Some, None}
use Rattle.span_slots.specs.Table.{without_entry}
use Rattle.span_forest.specs.Spans.{Spans, IsOpen, parent_of}
use Rattle.span_forest.specs.Count.{reference_count}
use Rattle.span_forest.specs.Forest.{IsForest}

-- the spans but those of the list
abbrev pub without_all : Spans → List ℕ → Spans
without_all spans [] = spans
without_all spans (x ∷ xs) = without_all (without_entry spans x) xs

-- from here on the list closes: each of its spans is the parent of the one before and has nothing
-- left when its turn comes, and where the list ends a span has something left
abbrev pub Chain : Spans → Option ℕ → List ℕ → Type 0
Chain spans None [] = Unit {0}
Chain spans (Some i) [] = 0 < reference_count spans i
Chain spans o (x ∷ xs) = (o ≡ Some x) × (reference_count spans x ≡ 0) × Chain (without_entry spans x) (parent_of spans x) xs

-- each open span but this one has a holder or a child, and this one is open
pub record IsPending (spans : Spans) (o : Option ℕ) : Type 0 where
  pub forest : IsForest spans
  pub here : (i : ℕ) → o ≡ Some i → IsOpen spans i
  pub others : (j : ℕ) → IsOpen spans j → (o ≡ Some j → ⊥) → 0 < reference_count spans j
