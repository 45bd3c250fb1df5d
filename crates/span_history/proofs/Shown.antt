-- What holds of the fronts of all places.
use Rattle.std.proofs.Common.{List, [], ◌∷◌, ◌++◌, Option, Some, None, All, sym, ◌∙◌, subst}
use Rattle.std.specs.Prelude.{IfSome, option_to_list}
use Rattle.std.proofs.lemmas.List.{append-nil}
use Rattle.std.proofs.lemmas.List.Elements.{All-push}
use Rattle.std.proofs.lemmas.Grind.{flat_map-append}
use Rattle.span_history.specs.Own.{FrontView}
use Rattle.span_history.specs.inside.Places.{fronts_at}

-- one place more, with a front of which it holds or with none
pub one_more_shown : (P : FrontView → Type 0) (places : List (Option FrontView)) (place : Option FrontView) → All P (fronts_at places) → IfSome place P → All P (fronts_at (places ++ place ∷ []))
one_more_shown P places None before holds =
    subst (λ (fronts : List FrontView). All P fronts) (sym (flat_map-append option_to_list places (None ∷ []) ∙ append-nil (fronts_at places))) before
one_more_shown P places (Some front) before holds =
    subst (λ (fronts : List FrontView). All P fronts) (sym (flat_map-append option_to_list places (Some front ∷ []))) (All-push P (fronts_at places) front before holds)
