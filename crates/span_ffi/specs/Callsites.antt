-- What the calls with callsites do, by their status.
use Rattle.std.specs.Prelude.{◌≡◌, ℕ, ◌≤◌, ◌^◌, true, false, List, [], ◌∷◌, ◌++◌, length, take, drop, slice_get, Option, None, IsSomeAnd}
use Rattle.span_id.specs.declared.fault.Fault.TheVariants.{CountFull, BadName, Memory}
use Rattle.span_id.specs.Name.{is_name}
use Rattle.span_id.specs.Meta.{PlainMeta}
use Rattle.span_outlet.specs.Request.{event, told}
use Rattle.span_core.specs.Core.{CoreView}
use Rattle.span_ffi.specs.declared.data.SpanMeta.{SpanMeta}
use Rattle.span_border.specs.declared.status.Status.{Status}
use Rattle.span_border.specs.declared.status.Status.TheVariants.{Done, Refused, BadData, NoSuchWorker, NoSuchCallsite}
use Rattle.span_ffi.specs.Data.{IsCallsite, IsSpanAt, IsEventAt, said_meta, said_fields, said_parent}
use Rattle.span_ffi.specs.Said.{SaidSpanAt, SaidEventAt}
use Rattle.span_ffi.specs.Calls.{HasWorker, LacksWorker, AnswersData, MakesAsked, span_asked}

-- A callsite is added: it has the meta that the data say, and the next number is told. It is refused, and nothing
-- changes, where the data say nothing, where no span and no event may have the name, where each number is taken, and
-- for want of memory.
abbrev pub AddsCallsite : SpanMeta → List ℕ → ℕ → List PlainMeta → Status → List PlainMeta → Type 0
AddsCallsite meta bytes number old Done new =
    IsCallsite meta bytes × (is_name (said_meta meta bytes).name ≡ true)
    × (number ≡ length old) × (new ≡ old ++ said_meta meta bytes ∷ [])
AddsCallsite meta bytes number old BadData new = (IsCallsite meta bytes → ⊥) × (new ≡ old)
AddsCallsite meta bytes number old (Refused BadName) new =
    IsCallsite meta bytes × (is_name (said_meta meta bytes).name ≡ false) × (new ≡ old)
AddsCallsite meta bytes number old (Refused CountFull) new =
    IsCallsite meta bytes × (is_name (said_meta meta bytes).name ≡ true) × (2 ^ 32 ≤ length old) × (new ≡ old)
AddsCallsite meta bytes number old (Refused Memory) new = IsCallsite meta bytes × (new ≡ old)
AddsCallsite meta bytes number old _ new = ⊥

-- A call of a worker at a callsite does what `Does` says of its meta. Where there is no such worker, or else no such
-- callsite, the status says so, and nothing changes.
abbrev pub AtCallsite : ℕ → Option PlainMeta → (PlainMeta → CoreView → Status → CoreView → Type 0)
    → CoreView → Status → CoreView → Type 0
AtCallsite worker found Does old NoSuchWorker new = LacksWorker old worker new
AtCallsite worker found Does old NoSuchCallsite new = HasWorker old worker × (found ≡ None) × (new ≡ old)
AtCallsite worker found Does old status new = IsSomeAnd found (λ meta. Does meta old status new)

-- a worker makes a span with the meta of a callsite, as `MakesSaid` says of a meta
abbrev pub MakesSpanAt : SaidSpanAt → ℕ → List PlainMeta → CoreView → Status → CoreView → Type 0
MakesSpanAt said id callsites =
    AtCallsite said.worker (slice_get callsites said.callsite) (λ meta old.
    MakesAsked said.worker (IsSpanAt said.parent_kind said.fields said.texts)
    (span_asked said.worker said.parent_kind said.parent meta (said_fields said.fields said.texts) old) id old)

-- an event is told with the meta of a callsite, as `TellsEvent` says of a meta
abbrev pub TellsAt : SaidEventAt → List PlainMeta → CoreView → Status → CoreView → Type 0
TellsAt said callsites =
    AtCallsite said.worker (slice_get callsites said.callsite) (λ meta.
    AnswersData said.worker ((said.parent_kind ≤ 2) × IsEventAt said.message_len said.fields said.texts)
    (event said.worker meta (take said.message_len said.texts)
    (said_fields said.fields (drop said.message_len said.texts)) (said_parent said.parent_kind said.parent)) told)
