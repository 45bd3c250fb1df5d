-- What keeps a span open, and the calls that close it.
use Rattle.std.proofs.Common.{◌≡◌, ◌≢◌, ℕ, List, [], ◌∷◌, None, length, refl, ap}
use Rattle.std.specs.Prelude.{◌↔◌}
use Rattle.span_forest.specs.Spans.{Spans, find}
use Rattle.span_forest.specs.Holding.{held_spans, what_holds}
use Rattle.span_forest.proofs.Spared.{not_some, none_open}
use Rattle.span_forest.proofs.Upheld.{IsUpheld}
use Rattle.span_forest.proofs.KeptOpen.{kept_open, held_empty}

none_left : {X : Type 0} (xs : List X) → (xs ≢ [] → ⊥) → xs ≡ []
none_left [] h = refl
none_left (x ∷ xs) h = absurd (h (λ e. cc))

-- a span is closed exactly where nothing keeps it open
pub closed_exactly : (spans : Spans) (id : ℕ) → IsUpheld spans → (find spans id ≡ None) ↔ (what_holds spans id ≡ [])
closed_exactly spans id w =
    let k = kept_open spans id w in (
      λ gone. none_left (what_holds spans id) (λ some. none_open (find spans id) gone (k.1 some)),
      λ none. not_some (find spans id) (λ o. k.0 o none),
    )

no_length : (spans : Spans) → length spans ≡ 0 → spans ≡ []
no_length [] h = refl
no_length (e ∷ es) h = cc

-- no span has a holder exactly where there is none
pub none_held_left : (spans : Spans) → IsUpheld spans → (held_spans spans ≡ []) ↔ (length spans ≡ 0)
none_held_left spans w =
    let k = held_empty spans w in (
      λ none. ap length (k.0 none),
      λ none. k.1 (no_length spans none),
    )
