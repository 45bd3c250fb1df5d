-- What the labels that were bound lately name after one more is bound.
use Rattle.std.proofs.Common.{◌≡◌, ℕ, false, List, Option, None, Some, IfSome, sym, ap, ◌∙◌, subst}
use Rattle.std.specs.Str.{bytes_eq}
use Rattle.span_replay.specs.Labels.{Bound, with_label}
use Rattle.span_replay.specs.inside.Lately.{IsBound}
use Rattle.span_replay.proofs.Bindings.{bound_other, bound_same, same_bytes}

-- the label that was bound, where it is kept
pub newest_bound : (labels : Bound) (label : List ℕ) (id : ℕ) (newest : Option (List ℕ × ℕ)) → IfSome newest (λ kept. kept ≡ (label, id)) → IfSome newest (IsBound (with_label labels label id))
newest_bound labels label id None is = tt
newest_bound labels label id (Some kept) is = subst (IsBound (with_label labels label id)) (sym is) (bound_same labels label id)

-- another label that was kept
pub other_bound : (labels : Bound) (label : List ℕ) (id : ℕ) (kept : List ℕ × ℕ) → bytes_eq label kept.0 ≡ false → IsBound labels kept → IsBound (with_label labels label id) kept
other_bound labels label id kept other bound =
    bound_other labels label kept.0 id (λ same. (let here = ap (bytes_eq label) same ∙ same_bytes label in let both = sym other ∙ here in cc)) ∙ bound
