-- The calls that change a store: why each is refused, what it leaves, and which span it tells to be closing now.
use Rattle.std.specs.Prelude.{ℕ, ◌≢◌, ◌+◌, ◌-◌, Bool, true, false, ◌&&◌, cond, nat_eq, nat_lt, List, [], ◌∷◌, Option, Some, None, is_some, is_none}
use Rattle.std.specs.Option.{option_eq, option_or}
use Rattle.span_id.specs.declared.fault.Fault.{Fault}
use Rattle.span_id.specs.declared.fault.Fault.TheVariants.{Unknown, CountFull, Full}
use Rattle.span_slots.specs.Table.{next_id, find}
use Rattle.span_slots.specs.Change.{Insert, Remove, Write, after}
use Rattle.span_store.specs.StoredSpan.{StoredSpan, added_span, with_handles}
use Rattle.span_store.specs.StoredSpans.{StoredSpans, parent_there, handles_of, count, is_still_held, is_closing}
use Rattle.span_store.specs.Store.{StoreView}

-- `add` with its parent, bits and word, and the three calls that take an id
pub data Call : Type 0 where
  Add : Option ℕ → ℕ → ℕ → Call
  Keep : ℕ → Call
  Release : ℕ → Call
  Ended : ℕ → Call

-- why one more handle or child of a span is refused: it isn't there or is closing, else its count is at the greatest
abbrev pub no_more : StoreView → ℕ → Option Fault
no_more store id =
    cond (is_still_held store.table.entries id)
    (cond (nat_lt (count store.table.entries id) store.max_count) None (Some CountFull))
    (Some Unknown)

-- why a new span is refused for its parent, as `no_more` says of the parent; a root never is
abbrev pub no_child : StoreView → Option ℕ → Option Fault
no_child store None = None
no_child store (Some parent) = no_more store parent

-- why a call is refused, by the first reason that there is: None where it is accepted
abbrev pub refusal : StoreView → Call → Option Fault
refusal store (Add parent bits word) =
    option_or (no_child store parent) (cond (is_some (next_id store.table)) None (Some Full))
refusal store (Keep id) = no_more store id
refusal store (Release id) = cond (nat_lt 0 (handles_of store.table.entries id)) None (Some Unknown)
refusal store (Ended id) = cond (is_closing store.table.entries id) None (Some Unknown)

-- the store with so many handles of a span
abbrev pub handles_set : StoreView → ℕ → (ℕ → ℕ) → Option StoredSpan → StoreView
handles_set store id change None = store
handles_set store id change (Some span) =
    record store { table = after store.table (Write id (with_handles (change span.handles) span)) }

-- the store after a call that is accepted
abbrev pub store_then : StoreView → Call → StoreView
store_then store (Add parent bits word) =
    record store { table = after store.table (Insert (added_span parent bits word)) }
store_then store (Keep id) = handles_set store id (λ handles. handles + 1) (find store.table.entries id)
store_then store (Release id) = handles_set store id (λ handles. handles - 1) (find store.table.entries id)
store_then store (Ended id) = record store { table = after store.table (Remove id) }

-- the store after a call: where it is refused, nothing changes
abbrev pub store_after : StoreView → Call → StoreView
store_after store call = cond (is_none (refusal store call)) (store_then store call) store

-- the span that a call lets go of: `ended` gives back the hold of the parent
abbrev pub let_go : StoreView → Call → Option ℕ
let_go store (Release id) = Some id
let_go store (Ended id) = parent_there store.table.entries id
let_go store _ = None

-- the id, if its span is closing
abbrev pub if_closing : StoredSpans → Option ℕ → Option ℕ
if_closing spans None = None
if_closing spans (Some id) = cond (is_closing spans id) (Some id) None

-- the span that a call tells to be closing now: the one that it lets go of, where nothing holds that any longer
abbrev pub told : StoreView → Call → Option ℕ
told store call =
    cond (is_none (refusal store call)) (if_closing (store_after store call).table.entries (let_go store call)) None

-- the store after any number of calls, in their order
abbrev pub store_after_all : StoreView → List Call → StoreView
store_after_all store [] = store
store_after_all store (call ∷ calls) = store_after_all (store_after store call) calls

-- none of the calls ends the span
abbrev pub NeverEnds : ℕ → List Call → Type 0
NeverEnds id [] = Unit {0}
NeverEnds id (call ∷ calls) = (call ≢ Ended id) × NeverEnds id calls

-- how often the calls, made one after the other, tell that the span is closing
abbrev pub times_told : ℕ → StoreView → List Call → ℕ
times_told id store [] = 0
times_told id store (call ∷ calls) =
    cond (option_eq nat_eq (told store call) (Some id)) 1 0 + times_told id (store_after store call) calls

-- the call adds a span
abbrev pub is_add : Call → Bool
is_add (Add parent bits word) = true
is_add _ = false

-- the call makes one more handle of a span
abbrev pub is_keep : Call → Bool
is_keep (Keep id) = true
is_keep _ = false

-- the call gives a handle back
abbrev pub is_release : Call → Bool
is_release (Release id) = true
is_release _ = false

-- the call ends a span
abbrev pub is_ended : Call → Bool
is_ended (Ended id) = true
is_ended _ = false

-- how many of the calls, made one after the other, are such ones and are accepted
abbrev pub times_accepted : (Call → Bool) → StoreView → List Call → ℕ
times_accepted is_such store [] = 0
times_accepted is_such store (call ∷ calls) =
    cond (is_none (refusal store call) && is_such call) 1 0 + times_accepted is_such (store_after store call) calls

-- how many handles there are after a call that is accepted, where there were so many before
abbrev pub handles_then : ℕ → Call → ℕ
handles_then handles (Add parent bits word) = handles + 1
handles_then handles (Keep id) = handles + 1
handles_then handles (Release id) = handles - 1
handles_then handles (Ended id) = handles

-- how many spans there are after a call that is accepted, where there were so many before
abbrev pub spans_then : ℕ → Call → ℕ
spans_then spans (Add parent bits word) = spans + 1
spans_then spans (Ended id) = spans - 1
spans_then spans _ = spans
