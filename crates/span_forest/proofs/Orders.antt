-- The order of a walk: its ranks fall, so no id stands in it twice, and no span stands after its parent.
use Rattle.std.proofs.Common.{◌≡◌, ◌≢◌, ℕ, zero, suc, ◌<◌, List, [], length, not, Option, Some, None, refl, ap, ◌∙◌, arith}
use Rattle.std.specs.Prelude.{All, AllPairs}
use Rattle.std.proofs.lemmas.List.Elements.{All-nil, All-cons}
use Rattle.std.proofs.lemmas.List.Kept.{AllPairs-cons, AllPairs-filter}
use Rattle.span_forest.specs.declared.span.Holder.{Holder}
use Rattle.span_forest.specs.Spans.{Spans, parent_of}
use Rattle.span_forest.specs.Walk.{walk_within, walk}
use Rattle.span_forest.specs.Forest.{IsForest}
use Rattle.span_forest.specs.Live.{is_live}
use Rattle.span_forest.specs.Holders.{with_less}
use Rattle.span_forest.specs.Release.{without_holder, closing_list}
use Rattle.span_forest.proofs.Ranks.{IsRanked, ranked}
use Rattle.span_forest.proofs.Nodes.{with_less-parent, parent_of-changed, IsForest-changed}

AllPairs-nil : (R : ℕ → ℕ → Type 0) → AllPairs R []
AllPairs-nil R i j d h k = absurd (omega arith)

AllPairs-weaker : (R S : ℕ → ℕ → Type 0) → ((x y : ℕ) → R x y → S x y) → (xs : List ℕ) → AllPairs R xs → AllPairs S xs
AllPairs-weaker R S weaker xs h i j d low high = weaker _ _ (h i j d low high)

ranks_below : (spans : Spans) (w : IsRanked spans) (top n : ℕ) (o : Option ℕ) → ((i : ℕ) → o ≡ Some i → w.rank i < top) → All (λ s. w.rank s < top) (walk_within n spans o)
ranks_below spans w top n None h = All-nil (λ s. w.rank s < top)
ranks_below spans w top zero (Some i) h = All-nil (λ s. w.rank s < top)
ranks_below spans w top (suc n) (Some i) h =
    All-cons (λ s. w.rank s < top) i (walk_within n spans (parent_of spans i)) (h i refl)
    (ranks_below spans w top n (parent_of spans i) (λ p e. (let lower = w.falls i p e in let here = h i refl in omega arith)))

-- the ranks fall along a walk
walk_falls : (spans : Spans) (w : IsRanked spans) (n : ℕ) (o : Option ℕ) → AllPairs (λ first later. w.rank later < w.rank first) (walk_within n spans o)
walk_falls spans w n None = AllPairs-nil (λ first later. w.rank later < w.rank first)
walk_falls spans w zero (Some i) = AllPairs-nil (λ first later. w.rank later < w.rank first)
walk_falls spans w (suc n) (Some i) =
    AllPairs-cons (λ first later. w.rank later < w.rank first) i (walk_within n spans (parent_of spans i))
    (ranks_below spans w (w.rank i) n (parent_of spans i) (λ p e. w.falls i p e))
    (walk_falls spans w n (parent_of spans i))

apart_by_rank : (rank : ℕ → ℕ) (first later : ℕ) → rank later < rank first → first ≢ later
apart_by_rank rank first later lower same = let e = ap rank same in omega arith

pub walk_once : (spans : Spans) → IsForest spans → (id : ℕ) → AllPairs (λ first later. first ≢ later) (walk spans id)
walk_once spans forest id =
    let w = ranked spans forest in
    AllPairs-weaker _ (λ first later. first ≢ later) (apart_by_rank w.rank) (walk spans id) (walk_falls spans w (length spans) (Some id))

module _ (spans : Spans) (forest : IsForest spans) (id : ℕ) (holder : Holder) where
  left : IsRanked (without_holder spans id holder)
  left = ranked (without_holder spans id holder) (IsForest-changed (with_less holder) (with_less-parent holder) spans id forest)

  list_falls : AllPairs (λ first later. left.rank later < left.rank first) (closing_list spans id holder)
  list_falls =
      AllPairs-filter (λ first later. left.rank later < left.rank first) (λ s. not (is_live (without_holder spans id holder) s)) (walk (without_holder spans id holder) id)
      (walk_falls (without_holder spans id holder) left (length (without_holder spans id holder)) (Some id))

  pub list_once : AllPairs (λ first later. first ≢ later) (closing_list spans id holder)
  list_once = AllPairs-weaker _ (λ first later. first ≢ later) (apart_by_rank left.rank) (closing_list spans id holder) list_falls

  -- no later span has an earlier one as its child
  pub list_child_first : AllPairs (λ first later. parent_of spans later ≢ Some first) (closing_list spans id holder)
  list_child_first =
      AllPairs-weaker (λ first later. left.rank later < left.rank first) (λ first later. parent_of spans later ≢ Some first)
      (λ first later lower e. (let up = left.falls later first (parent_of-changed (with_less holder) (with_less-parent holder) spans id later ∙ e) in omega arith))
      (closing_list spans id holder) list_falls
