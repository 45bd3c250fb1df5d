-- What contracts see of the end that gives headings out, and what it knows of a batch and of a span.
use Rattle.std.specs.Prelude.{◌≡◌, ◌⊎◌, ℕ, ◌<◌, ◌≤◌, ◌==◌, Bool, true, false, cond, List, ◌++◌, reverse, slice_get, All, Option, Some, None, IfSome, IsSomeAnd}
use Rattle.std.specs.List.{find as first_that}
use Rattle.span_id.specs.Id.{slot_of}
use Rattle.span_outlet.specs.Outlet.{RingName, one_more}
use Rattle.span_ffi.specs.declared.headings.About.{About}
use Rattle.span_ffi.specs.declared.headings.About.TheVariants.{Span}
use Rattle.span_ffi.specs.declared.headings.Heading.{Heading}

-- the name of its ring, how often that was looked into, the headings that came out of it, in order, and those that are
-- known to stand in it
pub record HeadingReaderView : Type 0 where
  pub name : RingName
  pub looks : ℕ
  pub received : List Heading
  pub standing : List Heading

-- the call made a span
abbrev pub made_a_span : About → Bool
made_a_span (Span id parent meta) = true
made_a_span _ = false

-- the last heading that came out is of a call that made a span
abbrev pub EndsWithSpan : List Heading → Type 0
EndsWithSpan headings = IsSomeAnd (slice_get (reverse headings) 0) (λ last. made_a_span last.about ≡ true)

-- headings of batches before this number came out, perhaps none, after one look into the ring; the number of looks stays
-- at 2^64 - 1
pub record TakesHeadings (before : ℕ) (old new : HeadingReaderView) : Type 0 where
  pub more : List Heading
  pub received : new.received ≡ old.received ++ more
  pub early : All (λ heading. heading.batch < before) more
  pub looked : new.looks ≡ one_more old.looks
  pub name : new.name ≡ old.name

-- the first heading that is known to stand in the ring is of no batch before this number; or the last one that came out is
-- of a call that made a span: for that memory may be refused
abbrev pub LeavesNone : ℕ → HeadingReaderView → Type 0
LeavesNone before view =
    IfSome (slice_get view.standing 0) (λ next. (before ≤ next.batch) ⊎ EndsWithSpan view.received)

-- the heading, where it is of the batch of this number
abbrev pub if_of : ℕ → Option Heading → Option Heading
if_of batch None = None
if_of batch (Some heading) = cond (heading.batch == batch) (Some heading) None

-- the heading of a batch, where it is the last one that came out
abbrev pub heading_of : ℕ → List Heading → Option Heading
heading_of batch headings = if_of batch (slice_get (reverse headings) 0)

-- the call made a span in this slot
abbrev pub makes_in : ℕ → About → Bool
makes_in slot (Span id parent meta) = slot_of id == slot
makes_in slot _ = false

-- the call made the span of this id
abbrev pub makes : ℕ → About → Bool
makes made (Span id parent meta) = id == made
makes made _ = false

-- the heading of the last call that made a span in this slot
abbrev pub last_in_slot : ℕ → List Heading → Option Heading
last_in_slot slot headings = first_that (λ heading. makes_in slot heading.about) (reverse headings)

-- the heading, where its call made the span of this id
abbrev pub if_makes : ℕ → Option Heading → Option Heading
if_makes id None = None
if_makes id (Some heading) = cond (makes id heading.about) (Some heading) None

-- the heading of the call that made this span, where it is the last one of its slot
abbrev pub made_by : ℕ → List Heading → Option Heading
made_by id headings = if_makes id (last_in_slot (slot_of id) headings)
