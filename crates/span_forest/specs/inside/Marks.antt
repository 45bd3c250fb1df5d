-- The marks of the spans at an id or below it, for the functions inside this crate: no public clause cites it.
use Rattle.std.specs.Prelude.{ℕ, ◌≡◌, ◌≢◌, ◌<◌, ◌==◌, ◌⊎◌, Bool, true, cond, is_some, IsTrue, List, [], ◌∷◌, length, get_or, Option, Some, None}
use Rattle.span_id.specs.Id.{slot_of}
use Rattle.span_id.specs.Ids.{has}
use Rattle.span_forest.specs.Spans.{Spans, IsOpen, parent_of}
use Rattle.span_forest.specs.Node.{Node}
use Rattle.span_forest.specs.Count.{is_held}
use Rattle.span_forest.specs.Holding.{held_of}
use Rattle.span_forest.specs.declared.holding.Held.{Held}
use Rattle.span_forest.specs.Walk.{walk}

-- the span is the id, or below it
abbrev pub is_below : Spans → ℕ → ℕ → Bool
is_below spans id x = has (walk spans x) id

-- what is known of a span: of the id itself that it is there
abbrev pub known_of : List (Option Bool) → ℕ → ℕ → Option Bool
known_of marks id x = cond (x == id) (Some true) (get_or marks (slot_of x) None)

-- something is known of the span
abbrev pub is_known : List (Option Bool) → ℕ → ℕ → Bool
is_known marks id x = is_some (known_of marks id x)

-- something is known of the span, or it is the next one of which something is written down
abbrev pub WillBeKnown : List (Option Bool) → ℕ → Option ℕ → ℕ → Type 0
WillBeKnown marks id next x = IsTrue (is_known marks id x) ⊎ (next ≡ Some x)

-- Each open span has a place among the marks, and what is known of it is so. Where something is known of a span it is
-- known of the whole walk up to the id, but for the span that is next.
pub record AreMarks (spans : Spans) (id : ℕ) (next : Option ℕ) (marks : List (Option Bool)) : Type 0 where
  pub places : (x : ℕ) → IsOpen spans x → slot_of x < length marks
  pub right : (x : ℕ) (below : Bool) → IsOpen spans x → known_of marks id x ≡ Some below → is_below spans id x ≡ below
  pub up : (x p : ℕ) → parent_of spans x ≡ Some p → x ≢ id → IsTrue (is_known marks id x) → WillBeKnown marks id next p

-- the handles and entries of a span, if it is there and has some
abbrev pub held_one : ℕ → Option Node → List Held
held_one id None = []
held_one id (Some node) = cond (is_held node) (held_of (id, node) ∷ []) []
