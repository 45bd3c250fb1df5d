-- Paths are read at open spans.
use Rattle.std.proofs.Common.{◌≡◌, ℕ, true, List, [], ◌∷◌, Option, Some, None, IsSome, refl, sym, ◌∙◌, inl, inr}
use Rattle.std.specs.Prelude.{IfSome}
use Rattle.std.specs.List.{find as first_that}
use Rattle.std.specs.Option.{option_map_or}
use Rattle.std.proofs.lemmas.Bool.{cases_Bool, false≢true}
use Rattle.span_id.specs.Bits.{has_bit}
use Rattle.span_forest.specs.Node.{Node}
use Rattle.span_forest.specs.Spans.{Spans, find, IsOpen}
use Rattle.span_stack.specs.Stack.{distinct_from_top}
use Rattle.span_core.specs.declared.notes.Subject.{Subject}
use Rattle.span_core.specs.declared.notes.Subject.TheVariants.{Span, NewSpan, Event}
use Rattle.span_core.specs.Happening.{bits_in}
use Rattle.span_core.specs.inside.Telling.{ids_around, place_told, IsThere, IsReadable}
use Rattle.span_core.proofs.Telling.{has_bit-none}

-- a span that a layer admits is there
admitted_in : (o : Option Node) (layer : ℕ) → has_bit (option_map_or (λ node. node.bits) o 0) layer ≡ true → IsSome o
admitted_in None layer admits = absurd (false≢true (sym (has_bit-none 0 layer refl) ∙ admits))
admitted_in (Some node) layer admits = refl

-- a layer sees an event in an open span
seen_open : (spans : Spans) (layer : ℕ) (ids : List ℕ) → IfSome (first_that (λ id. has_bit (bits_in spans id) layer) ids) (IsOpen spans)
seen_open spans layer [] = tt
seen_open spans layer (id ∷ ids) =
    elim (cases_Bool (has_bit (bits_in spans id) layer)) [
      | inl admits ↦ rw admits (admitted_in (find spans id) layer admits)
      | inr refuses ↦ rw refuses (seen_open spans layer ids)
    ]

pub place_readable : (spans : Spans) (subject : Subject) (layer : ℕ) → IsThere spans subject → IsReadable spans subject (place_told spans subject layer)
place_readable spans (Span id span) layer there = there
place_readable spans (NewSpan id parent name) layer there = tt
place_readable spans (Event around level message) layer there = seen_open spans layer (distinct_from_top (ids_around around))
