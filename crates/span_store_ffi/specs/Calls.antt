-- What the calls on a store do, by their status.
use Rattle.std.specs.Prelude.{◌≡◌, ◌≢◌, ◌⊎◌, ℕ, ◌+◌, ◌==◌, cond, [], length, Option, Some, None, IsSomeAnd}
use Rattle.span_id.specs.Id.{IsId, slot_of}
use Rattle.span_id.specs.declared.fault.Fault.{Fault}
use Rattle.span_id.specs.declared.fault.Fault.TheVariants.{Unknown, BadLimits, Memory}
use Rattle.span_id.specs.declared.limits.Limits.{Limits}
use Rattle.span_id.specs.Limits.{AreInRange}
use Rattle.span_slots.specs.Table.{find, id_from, next_id}
use Rattle.span_store.specs.StoredSpan.{StoredSpan}
use Rattle.span_store.specs.StoredSpans.{children_there, is_closing, all_handles}
use Rattle.span_store.specs.Store.{StoreView}
use Rattle.span_store.specs.Calls.{Call, Add, Keep, Release, Ended, refusal, store_after, told}
use Rattle.span_border.specs.declared.status.Status.{Status}
use Rattle.span_border.specs.declared.status.Status.TheVariants.{Done, Refused, HandleInUse}
use Rattle.span_border.specs.Ends.{IfDone}
use Rattle.span_border.specs.Numbers.{flag, id_number}
use Rattle.span_store_ffi.specs.declared.data.SpanStoreFound.{SpanStoreFound}
use Rattle.span_store_ffi.specs.declared.data.SpanStoreCounts.{SpanStoreCounts}

-- the version of the interface
abbrev pub store_abi_version : ℕ
store_abi_version = 2

-- A call was accepted, and the store is as it is after it; or it was refused with this fault, and nothing changed.
abbrev pub Makes : Call → StoreView → Status → StoreView → Type 0
Makes call old Done new = (refusal old call ≡ None) × (new ≡ store_after old call)
Makes call old (Refused fault) new = (refusal old call ≡ Some fault) × (new ≡ old)
Makes call old _ new = ⊥

-- the parent that a number means: 0 none
abbrev pub parent_numbered : ℕ → Option ℕ
parent_numbered number = cond (number == 0) None (Some number)

-- a new span, whose id is told
abbrev pub Adds : ℕ → ℕ → ℕ → ℕ → StoreView → Status → StoreView → Type 0
Adds parent bits word id old status new =
    Makes (Add (parent_numbered parent) bits word) old status new × IfDone status (next_id old.table ≡ Some id)

-- one more handle
abbrev pub KeepsSpan : ℕ → StoreView → Status → StoreView → Type 0
KeepsSpan id = Makes (Keep id)

-- a handle is given back; 1 is told where the span is closing now, else 0
abbrev pub ReleasesSpan : ℕ → ℕ → StoreView → Status → StoreView → Type 0
ReleasesSpan id closing old status new =
    Makes (Release id) old status new × IfDone status (closing ≡ flag (is_closing new.table.entries id))

-- a closing span ends; its parent is told where that is closing now, else 0
abbrev pub EndsSpan : ℕ → ℕ → StoreView → Status → StoreView → Type 0
EndsSpan id parent old status new =
    Makes (Ended id) old status new × IfDone status (parent ≡ id_number (told old (Ended id)))

-- what is told of a span that is there
abbrev pub found_there : StoreView → ℕ → StoredSpan → SpanStoreFound
found_there store id span = record {
  parent = id_number span.parent;
  bits = span.bits;
  word = span.word;
  handles = span.handles;
  children = children_there store.table.entries id;
}

-- what is told of a span where it is there, and else that it is unknown; nothing changes
abbrev pub AnswersSpan : ℕ → SpanStoreFound → StoreView → Status → StoreView → Type 0
AnswersSpan id found old Done new =
    IsSomeAnd (find old.table.entries id) (λ span. found ≡ found_there old id span) × (new ≡ old)
AnswersSpan id found old (Refused Unknown) new = (find old.table.entries id ≡ None) × (new ≡ old)
AnswersSpan id found old _ new = ⊥

-- the slot at which a walk goes on after an id; after 0 it begins
abbrev pub slot_past : ℕ → ℕ
slot_past number = cond (number == 0) 0 (slot_of number + 1)

-- the next id that is there, by slots, or 0 where none is; a number that is no id is refused
abbrev pub AnswersNext : ℕ → ℕ → StoreView → Status → StoreView → Type 0
AnswersNext previous id old Done new =
    ((previous ≡ 0) ⊎ IsId previous) × (id ≡ id_number (id_from old.table.entries (slot_past previous))) × (new ≡ old)
AnswersNext previous id old (Refused Unknown) new = (previous ≢ 0) × (IsId previous → ⊥) × (new ≡ old)
AnswersNext previous id old _ new = ⊥

-- how many handles and how many spans there are
abbrev pub AnswersCounts : SpanStoreCounts → StoreView → Status → StoreView → Type 0
AnswersCounts counts old Done new =
    (counts ≡ record { handles = all_handles old.table.entries; spans = length old.table.entries }) × (new ≡ old)
AnswersCounts counts old _ new = ⊥

-- the limits of a store
abbrev pub store_limits : ℕ → ℕ → ℕ → Limits
store_limits slots last_generation max_count = record {
  slots = slots;
  last_generation = last_generation;
  max_count = max_count;
  workers = 1;
  ring = 1;
}

-- a store with no span
abbrev pub empty_store : Limits → StoreView
empty_store limits = record {
  table = record {
    slots = limits.slots;
    last_generation = limits.last_generation;
    entries = [];
    given = [];
    freed = [];
  };
  max_count = limits.max_count;
}

-- why no store is made: a limit is out of its range, else there was no memory
abbrev pub WhyNotOpened : Limits → Fault → Type 0
WhyNotOpened limits BadLimits = AreInRange limits → ⊥
WhyNotOpened limits Memory = AreInRange limits
WhyNotOpened limits _ = ⊥

-- an empty handle is filled with a new store; or why it isn't
abbrev pub OpensStore : Limits → Option StoreView → Option Status → Option StoreView → Type 0
OpensStore limits (Some old) (Some HandleInUse) new = new ≡ Some old
OpensStore limits None (Some Done) new = new ≡ Some (empty_store limits)
OpensStore limits None (Some (Refused fault)) new = WhyNotOpened limits fault × (new ≡ None)
OpensStore limits _ _ new = ⊥
