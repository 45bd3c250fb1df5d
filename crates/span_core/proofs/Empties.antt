-- Where nothing is held, no span is open.
use Rattle.std.proofs.Common.{◌≡◌, ℕ, false, cond, List, [], ◌∷◌, refl, sym, ap, ◌∙◌, arith}
use Rattle.std.specs.Prelude.{All}
use Rattle.std.specs.List.{AllByRecursion}
use Rattle.std.proofs.lemmas.List.Elements.{recursion_from_All}
use Rattle.std.proofs.lemmas.List.Sums.{sum_by-cons}
use Rattle.span_id.specs.Ids.{has}
use Rattle.span_forest.specs.declared.span.Holder.TheVariants.{Handle, Entry}
use Rattle.span_forest.specs.Spans.{find}
use Rattle.span_forest.specs.Holders.{held_in}
use Rattle.span_forest.proofs.Upheld.{IsUpheld, empty_from_none_held}
use Rattle.span_core.specs.World.{World, IsWorld, workers_inside}

nobody_inside : (stacks : List (List ℕ)) (id : ℕ) → AllByRecursion (λ stack. stack ≡ []) stacks → workers_inside stacks id ≡ 0
nobody_inside [] id empty = refl
nobody_inside (stack ∷ stacks) id empty =
    sum_by-cons (λ s. cond (has s id) 1 0) stack stacks
    ∙ (let rest = nobody_inside stacks id empty.1 in let none : has stack id ≡ false = ap (λ s. has s id) empty.0 in rw none (omega (arith, rest)))

-- where no span has a handle and no stack an entry, no span is open
pub empty_from_no_entry : (world : World) → IsUpheld world.spans → IsWorld world → ((id : ℕ) → held_in Handle (find world.spans id) ≡ 0) → All (λ stack. stack ≡ []) world.stacks → world.spans ≡ []
empty_from_no_entry world w agree handles stacks =
    empty_from_none_held world.spans w (λ id node found.
    (let handle = ap (held_in Handle) (sym found) ∙ handles id in
    let nobody = nobody_inside world.stacks id (recursion_from_All (λ stack. stack ≡ []) world.stacks stacks) in
    let entry = ap (held_in Entry) (sym found) ∙ agree.entered id ∙ nobody in
    omega (arith, handle, entry)))
