-- What contracts see of the registry behind a handle, and which part of it a call may change.
use Rattle.std.specs.Prelude.{◌≡◌, ◌≢◌, ℕ, List, length, slice_get, Option, Some, None, IfSome, IsSomeAnd}
use Rattle.std.specs.Option.{option_map}
use Rattle.span_id.specs.Meta.{PlainMeta}
use Rattle.span_forest.specs.Spans.{find}
use Rattle.span_core.specs.Core.{CoreView}
use Rattle.span_core.specs.Details.{meta_of}
use Rattle.span_border.specs.declared.status.Status.{Status}
use Rattle.span_border.specs.declared.status.Status.TheVariants.{Done}
use Rattle.span_ffi.specs.declared.headings.About.{About}
use Rattle.span_ffi.specs.declared.headings.About.TheVariants.{Span, Event, Other}
use Rattle.span_ffi.specs.Headings.{HeadingsView, SendsHeading}

-- the core, the metas of the callsites by their numbers from 0 on, and where headings are kept the end that puts them in
pub record RegistryView : Type 0 where
  pub core : CoreView
  pub callsites : List PlainMeta
  pub headings : Option HeadingsView

-- a call on the core for which callsites may be looked up: these stay as they were
abbrev pub WithCallsites : (List PlainMeta → CoreView → Status → CoreView → Type 0)
    → RegistryView → Status → RegistryView → Type 0
WithCallsites Does old status new =
    Does old.callsites old.core status new.core × (new.callsites ≡ old.callsites)

-- a call on the core alone
abbrev pub OnCore : (CoreView → Status → CoreView → Type 0) → RegistryView → Status → RegistryView → Type 0
OnCore Does = WithCallsites (λ _. Does)

-- a question to the core, for which callsites may be looked up
abbrev pub AsksWithCallsites : (List PlainMeta → CoreView → Status → CoreView → Type 0)
    → RegistryView → Status → RegistryView → Type 0
AsksWithCallsites Does old status new = WithCallsites Does old status new × (new.headings ≡ old.headings)

-- a question to the core alone
abbrev pub AsksCore : (CoreView → Status → CoreView → Type 0) → RegistryView → Status → RegistryView → Type 0
AsksCore Does = AsksWithCallsites (λ _. Does)

-- a call on the callsites alone
abbrev pub OnCallsites : (List PlainMeta → Status → List PlainMeta → Type 0)
    → RegistryView → Status → RegistryView → Type 0
OnCallsites Does old status new =
    Does old.callsites status new.callsites × (new.core ≡ old.core) × (new.headings ≡ old.headings)

-- a call on the headings alone
abbrev pub OnHeadings : (Option HeadingsView → Status → Option HeadingsView → Type 0)
    → RegistryView → Status → RegistryView → Type 0
OnHeadings Does old status new =
    Does old.headings status new.headings × (new.core ≡ old.core) × (new.callsites ≡ old.callsites)

-- ---- the heading of a call

-- where headings are kept, the heading of the batch of this number is sent or lost; `IsAbout` says what the call was
-- about, or that memory was refused to it
abbrev pub KeepsHeading : ℕ → Option ℕ → (Option About → Type 0) → Option HeadingsView → Option HeadingsView → Type 0
KeepsHeading batch callsite IsAbout None new = new ≡ None
KeepsHeading batch callsite IsAbout (Some old) new = IsSomeAnd new (λ after.
    (about : Option About) × IsAbout about × SendsHeading batch callsite about old after)

-- the same of a call that was done; where it wasn't, the headings stay as they were
abbrev pub KeepsIfDone
    : Status → ℕ → Option ℕ → (Option About → Type 0) → Option HeadingsView → Option HeadingsView → Type 0
KeepsIfDone Done batch callsite IsAbout old new = KeepsHeading batch callsite IsAbout old new
KeepsIfDone _ batch callsite IsAbout old new = new ≡ old

-- A call that was done has a heading, whose number is that of its batch: how many calls were accepted before it.
abbrev pub HasHeading : Option ℕ → (CoreView → Option About → Type 0) → RegistryView → Status → RegistryView → Type 0
HasHeading callsite IsAbout old status new =
    KeepsIfDone status (length old.core.sent) callsite (IsAbout new.core) old.headings new.headings

-- the heading of a call on a span that was there
abbrev pub HasPlainHeading : RegistryView → Status → RegistryView → Type 0
HasPlainHeading = HasHeading None (λ core about. about ≡ Some Other)

-- the span of this id, as the registry has it
abbrev pub IsAboutSpan : ℕ → CoreView → About → Type 0
IsAboutSpan id core about =
    IsSomeAnd (find core.world.spans id) (λ node. about ≡ Span id node.parent (meta_of node))

-- the heading of a new span; its id is 0 where no layer wants it, and then it has none
abbrev pub HasSpanHeading : Option ℕ → ℕ → RegistryView → Status → RegistryView → Type 0
HasSpanHeading callsite id old status new =
    (id ≡ 0 → new.headings ≡ old.headings)
    × (id ≢ 0 → HasHeading callsite (λ core about. IfSome about (IsAboutSpan id core)) old status new)

-- the heading of an event of this meta
abbrev pub HasEventHeading : PlainMeta → RegistryView → Status → RegistryView → Type 0
HasEventHeading meta = HasHeading None (λ core about. IfSome about (λ told. told ≡ Event meta))

-- the heading of an event at a callsite
abbrev pub HasEventHeadingAt : ℕ → RegistryView → Status → RegistryView → Type 0
HasEventHeadingAt callsite old = HasHeading (Some callsite)
    (λ core about. IfSome about (λ told. option_map Event (slice_get old.callsites callsite) ≡ Some told)) old
