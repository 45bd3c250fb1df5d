-- What the call does that tells which callsite an open span has.
use Rattle.std.specs.Prelude.{◌≡◌, ◌≢◌, ℕ, List, take, slice_get, All, Some, None, IsSomeAnd}
use Rattle.span_id.specs.declared.fault.Fault.TheVariants.{Unknown}
use Rattle.span_id.specs.Meta.{PlainMeta}
use Rattle.span_forest.specs.Spans.{find}
use Rattle.span_core.specs.Core.{CoreView}
use Rattle.span_core.specs.Details.{meta_of}
use Rattle.span_border.specs.declared.status.Status.{Status}
use Rattle.span_border.specs.declared.status.Status.TheVariants.{Done, Refused, NoSuchCallsite}

-- none of these is the meta
abbrev pub LacksMeta : PlainMeta → List PlainMeta → Type 0
LacksMeta meta callsites = All (λ other. other ≢ meta) callsites

-- the callsite of this number has the meta, and none before it has
abbrev pub IsFirstWith : PlainMeta → ℕ → List PlainMeta → Type 0
IsFirstWith meta number callsites =
    (slice_get callsites number ≡ Some meta) × LacksMeta meta (take number callsites)

-- Which callsite an open span has is told: the first one whose meta is the span's; or that none has it.
abbrev pub AnswersCallsiteOf : ℕ → ℕ → List PlainMeta → CoreView → Status → CoreView → Type 0
AnswersCallsiteOf id callsite callsites old Done new =
    IsSomeAnd (find old.world.spans id) (λ node. IsFirstWith (meta_of node) callsite callsites) × (new ≡ old)
AnswersCallsiteOf id callsite callsites old NoSuchCallsite new =
    IsSomeAnd (find old.world.spans id) (λ node. LacksMeta (meta_of node) callsites) × (new ≡ old)
AnswersCallsiteOf id callsite callsites old (Refused Unknown) new = (find old.world.spans id ≡ None) × (new ≡ old)
AnswersCallsiteOf id callsite callsites old _ new = ⊥
