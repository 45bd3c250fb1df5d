-- A history leaves one world.
use Rattle.std.proofs.Common.{◌≡◌, ℕ, List, [], ◌∷◌, ◌++◌, refl, sym, ◌∙◌}
use Rattle.span_layers.specs.Filter.{Filter}
use Rattle.span_outlet.specs.Batch.{PlainBatch}
use Rattle.span_core.specs.World.{World}
use Rattle.span_core.specs.Step.{IsStep}
use Rattle.span_core.specs.History.{issued, IsLegal}
use Rattle.span_core.specs.History.IsLegal.{none, more}
use Rattle.span_core.proofs.Outcomes.{one_step}

some_more : (xs : List PlainBatch) (x : PlainBatch) → [] ≡ xs ++ x ∷ [] → ⊥
some_more [] x h = cc
some_more (y ∷ ys) x h = cc

-- equal histories end in equal batches
pub last_same : (xs ys : List PlainBatch) (x y : PlainBatch) → xs ++ x ∷ [] ≡ ys ++ y ∷ [] → (xs ≡ ys) × (x ≡ y)
last_same [] [] x y h = (refl, cc)
last_same [] (b ∷ bs) x y h = absurd (some_more bs y (let q : [] ≡ bs ++ y ∷ [] = cc in q))
last_same (a ∷ rest) [] x y h = absurd (some_more rest x (let q : [] ≡ rest ++ x ∷ [] = cc in q))
last_same (a ∷ rest) (b ∷ bs) x y h =
    let first : a ≡ b = cc in
    let later : rest ++ x ∷ [] ≡ bs ++ y ∷ [] = cc in
    let r = last_same rest bs x y later in
    (rw (first, r.0) refl, r.1)

step_as : (rules : List Filter) (before others : List PlainBatch) (old other : World) (batch batch' : PlainBatch) (next : World) → before ≡ others → old ≡ other → batch ≡ batch' → IsStep rules (issued others) other batch'.request batch'.answer batch'.notes next → IsStep rules (issued before) old batch.request batch.answer batch.notes next
step_as rules before others old other batch batch' next b o q step = rw (b, o, q) step

pub one_world : (rules : List Filter) (workers : ℕ) (history others : List PlainBatch) (world other : World) → IsLegal rules workers history world → IsLegal rules workers others other → history ≡ others → world ≡ other
one_world rules workers [] [] world other none none same = refl
one_world rules workers [] others world other none (more {before} {old} batch legal step sent) same = absurd (some_more before batch (same ∙ sent))
one_world rules workers history [] world other (more {before} {old} batch legal step sent) none same = absurd (some_more before batch (sym same ∙ sent))
one_world rules workers history others world other (more {before} {old} batch legal step sent) (more batch' legal' step' sent') same =
    let parts = last_same _ _ batch batch' (sym sent ∙ (same ∙ sent')) in
    let olds = one_world rules workers _ _ _ _ legal legal' parts.0 in
    (one_step rules (issued before) old batch.request batch.answer batch.answer batch.notes batch.notes world other step (step_as rules _ _ _ _ batch batch' other parts.0 olds parts.1 step') refl).2
