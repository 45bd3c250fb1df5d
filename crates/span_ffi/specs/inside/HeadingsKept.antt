-- What a reader keeps of the headings that came out: no public clause cites it.
use Rattle.std.specs.Prelude.{◌≡◌, ⊤, ℕ, ◌<◌, cond, List, [], ◌∷◌, ◌++◌, length, slice_get, Option, Some, None}
use Rattle.span_id.specs.Id.{slot_of}
use Rattle.span_ffi.specs.declared.headings.About.{About}
use Rattle.span_ffi.specs.declared.headings.About.TheVariants.{Span}
use Rattle.span_ffi.specs.declared.headings.Heading.{Heading}
use Rattle.span_ffi.specs.HeadingReader.{makes_in, last_in_slot}

-- the heading at a place, none behind the end
abbrev pub heading_at : Option (Option Heading) → Option Heading
heading_at None = None
heading_at (Some kept) = kept

-- each slot has the heading that it had: a new place has none
abbrev pub HaveSame : List (Option Heading) → List (Option Heading) → Type 0
HaveSame old new = (slot : ℕ) → heading_at (slice_get new slot) ≡ heading_at (slice_get old slot)

-- the last one as a list
abbrev pub as_list : Option Heading → List Heading
as_list None = []
as_list (Some heading) = heading ∷ []

-- The last heading that came out is kept, and of those before it the last one that made a span in each slot. None is
-- kept as the last one only where none came out.
pub record AreKept (received : List Heading) (last : Option Heading) (spans : List (Option Heading)) : Type 0 where
  pub before : List Heading
  pub all : received ≡ before ++ as_list last
  pub none : last ≡ None → before ≡ []
  pub by_slot : (slot : ℕ) → heading_at (slice_get spans slot) ≡ last_in_slot slot before

-- there is a place for the slot of the span that the heading's call made
abbrev pub HasPlaceFor : About → List (Option Heading) → Type 0
HasPlaceFor (Span id parent meta) spans = slot_of id < length spans
HasPlaceFor _ spans = ⊤

-- the same where there is a heading
abbrev pub HasRoomFor : Option Heading → List (Option Heading) → Type 0
HasRoomFor None spans = ⊤
HasRoomFor (Some heading) spans = HasPlaceFor heading.about spans

-- the heading, where its call made a span in this slot, else the other one
abbrev pub newer : ℕ → Option Heading → Option Heading → Option Heading
newer slot None older = older
newer slot (Some heading) older = cond (makes_in slot heading.about) (Some heading) older

-- the first of those that stand in the ring came out
pub record TakesFirst (old standing new left : List Heading) : Type 0 where
  pub next : Heading
  pub received : new ≡ old ++ next ∷ []
  pub stood : standing ≡ next ∷ left
