-- Why a call is refused, as the code's entries tell it: no public clause cites it.
use Rattle.std.specs.Prelude.{ℕ, ◌+◌, ◌<◌, cond, nat_lt, List, Option, Some, None, IsSomeAnd, MatchOption}
use Rattle.span_id.specs.declared.fault.Fault.{Fault}
use Rattle.span_id.specs.declared.fault.Fault.TheVariants.{Unknown, CountFull}
use Rattle.span_slots.specs.Table.{find}
use Rattle.span_store.specs.declared.entry.Entry.{Entry}

abbrev pub no_more_at : ℕ → Option Entry → Option Fault
no_more_at max_count None = Some Unknown
no_more_at max_count (Some entry) =
    cond (nat_lt 0 (entry.handles + entry.children))
    (cond (nat_lt (entry.handles + entry.children) max_count) None (Some CountFull))
    (Some Unknown)

abbrev pub no_child_at : ℕ → List (ℕ × Entry) → Option ℕ → Option Fault
no_child_at max_count entries None = None
no_child_at max_count entries (Some parent) = no_more_at max_count (find entries parent)

-- the span is there and open, and its count may rise
abbrev pub HasRoom : ℕ → Option Entry → Type 0
HasRoom max_count found =
    IsSomeAnd found (λ entry. (0 < entry.handles + entry.children) × (entry.handles + entry.children < max_count))

abbrev pub HasRoomAbove : ℕ → List (ℕ × Entry) → Option ℕ → Type 0
HasRoomAbove max_count entries parent = MatchOption parent (Unit {0}) (λ p. HasRoom max_count (find entries p))
