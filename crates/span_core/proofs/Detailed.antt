-- What is told of the open spans, one after the other.
use Rattle.std.proofs.Common.{◌≡◌, ℕ, ◌+◌, ◌++◌, List, [], ◌∷◌, map, take, length, ◌≤◌, sym, ap, subst, ◌∙◌, arith}
use Rattle.std.specs.Prelude.{IsSomeAnd}
use Rattle.std.proofs.lemmas.List.{map-append, length-map, take_all}
use Rattle.span_forest.specs.Node.{Node}
use Rattle.span_forest.specs.Spans.{find, AreApart}
use Rattle.span_forest.specs.Holding.{all_ids}
use Rattle.span_forest.proofs.OpenIds.{Place, place_next}
use Rattle.span_core.specs.World.{World}
use Rattle.span_core.specs.declared.details.SpanDetails.{SpanDetails}
use Rattle.span_core.specs.Details.{plain_details, details_of}

pub details_more : (world : World) (list : List SpanDetails) (one : SpanDetails) (i at : ℕ) → AreApart world.spans → Place world.spans i at → IsSomeAnd (find world.spans at) (λ node. plain_details one ≡ details_of world (at, node)) → map plain_details list ≡ map (details_of world) (take i world.spans) → map plain_details (list ++ one ∷ []) ≡ map (details_of world) (take (i + 1) world.spans)
details_more world list one i at apart place told so_far =
    let n = place_next world.spans i at apart place in
    let here : plain_details one ≡ details_of world (at, n.node) = subst (λ o. IsSomeAnd o (λ node. plain_details one ≡ details_of world (at, node))) n.found told in
    map-append plain_details list (one ∷ [])
    ∙ (ap (λ v. v ++ plain_details one ∷ []) so_far
    ∙ (ap (λ v. map (details_of world) (take i world.spans) ++ v ∷ []) here
    ∙ sym (ap (map (details_of world)) n.first ∙ map-append (details_of world) (take i world.spans) ((at, n.node) ∷ []))))

pub details_all : (world : World) (i : ℕ) (ids : List ℕ) → ids ≡ all_ids world.spans → length ids ≤ i → map (details_of world) (take i world.spans) ≡ map (details_of world) world.spans
details_all world i ids same past =
    let len : length (all_ids world.spans) ≡ length world.spans = length-map world.spans (λ (e : ℕ × Node). e.0) in
    let all = ap length same in
    ap (map (details_of world)) (take_all i world.spans (omega (arith, len, all, past)))
