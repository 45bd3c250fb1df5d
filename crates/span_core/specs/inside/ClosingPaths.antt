-- Chains of spans that close, and the paths that the notes so far tell, for the functions inside this
-- crate: no public clause cites it.
use Rattle.std.specs.Prelude.{◌≡◌, ℕ, ◌+◌, ◌<◌, ◌≤◌, ◌==◌, ◌++◌, Bool, true, false, if◌then◌else◌, List, [], ◌∷◌, length, Option, Some, None, slice_get, slice_index_or}
use Rattle.std.specs.List.{list_any}
use Rattle.span_layers.specs.declared.note.Kind.TheVariants.{OnClose}
use Rattle.span_layers.specs.Note.{PlainNote}
use Rattle.span_layers.specs.Filter.{Filter, layer_wants}
use Rattle.span_forest.specs.Spans.{Spans, IsOpen, parent_of}
use Rattle.span_forest.specs.Path.{path_text}
use Rattle.span_core.specs.declared.notes.closing.Place.{Place}
use Rattle.span_core.specs.Happening.{close_of, is_told, path_at}

-- the list ends, or goes on with this span
abbrev pub GoesOn : Option ℕ → List ℕ → Type 0
GoesOn next [] = Unit {0}
GoesOn next (id ∷ ids) = next ≡ Some id

-- a chain: each of the spans is open, and the next one is its parent
abbrev pub IsChain : Spans → List ℕ → Type 0
IsChain spans [] = Unit {0}
IsChain spans (id ∷ ids) = IsOpen spans id × GoesOn (parent_of spans id) ids × IsChain spans ids

-- the note tells this path and one name more, which has so many bytes
abbrev pub TellsBelow : List (List ℕ) → ℕ → PlainNote → Type 0
TellsBelow path bytes note = (name : List ℕ) × (length name ≡ bytes) × (note.path ≡ path_text (path ++ name ∷ []))

-- the place, if there is one, is that of a note that tells the layer's path at this span and one name more
abbrev pub IsBelow : Spans → List PlainNote → ℕ → Option ℕ → Option Place → Type 0
IsBelow spans notes layer next None = Unit {0}
IsBelow spans notes layer next (Some place) =
    (note : PlainNote) × (slice_get notes place.at ≡ Some note)
    × TellsBelow (path_at layer spans next) place.name note

-- the place of a layer
abbrev pub place_in : List (Option Place) → ℕ → Option Place
place_in places layer = slice_index_or places layer None

-- each layer's place is such a one, where `next` says for each layer at which span; a layer that wants no closes has
-- none
pub record AreBelow
    (rules : List Filter) (spans : Spans) (notes : List PlainNote) (next : ℕ → Option ℕ)
    (places : List (Option Place))
    : Type 0 where
  pub below : (layer : ℕ) → IsBelow spans notes layer (next layer) (place_in places layer)
  pub wanted : (layer : ℕ) → layer_wants rules layer OnClose ≡ false → place_in places layer ≡ None

-- the same at the first span of a list, if it has one
abbrev pub AreBelowFirst : List Filter → Spans → List PlainNote → List ℕ → List (Option Place) → Type 0
AreBelowFirst rules spans notes [] places = Unit {0}
AreBelowFirst rules spans notes (id ∷ ids) places = AreBelow rules spans notes (λ layer. Some id) places

-- these numbers ascend, from the first bound on and below the second, and pass a test
abbrev pub AreAscending : (ℕ → Bool) → ℕ → ℕ → List ℕ → Type 0
AreAscending test from end [] = Unit {0}
AreAscending test from end (n ∷ ns) =
    (from ≤ n) × (n < end) × (test n ≡ true) × AreAscending test (n + 1) end ns

-- where each layer stands while a span is told of: the layers that are left to be told are at the span, the others at
-- its parent already
abbrev pub with_left : Spans → ℕ → List ℕ → ℕ → Option ℕ
with_left spans id left layer = if list_any (λ other. other == layer) left then Some id else parent_of spans id

-- while a span is told of, layer by layer: the layers that are left ascend, there are as many places as layers, and the
-- places of the layers that are left are at the span, those of the others at its parent
pub record AreInTurn
    (rules : List Filter) (spans : Spans) (id : ℕ) (left : List ℕ) (notes : List PlainNote)
    (places : List (Option Place))
    : Type 0 where
  pub ascending : AreAscending (is_told rules (close_of spans id)) 0 (length rules) left
  pub count : length places ≡ length rules
  pub below : AreBelow rules spans notes (with_left spans id left) places
