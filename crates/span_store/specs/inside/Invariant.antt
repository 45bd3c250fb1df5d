-- What is always true of a store and of the counts that its entries keep: no public clause cites it.
use Rattle.std.specs.Prelude.{ℕ, ◌+◌, ◌<◌, ◌≤◌, ◌≡◌, List, map, length, Some}
use Rattle.span_slots.specs.Table.{Table, find, AreApart}
use Rattle.span_slots.proofs.Issued.{IsKept}
use Rattle.span_store.specs.declared.entry.Entry.{Entry}
use Rattle.span_store.specs.StoredSpan.{StoredSpan, plain_entry}
use Rattle.span_store.specs.StoredSpans.{StoredSpans, IsThere, parent_there, children_there, all_handles}

-- what the code's entries stand for
abbrev pub spans_of : List (ℕ × Entry) → StoredSpans
spans_of entries = map (λ e. (e.0, plain_entry e.1)) entries

-- the same of the table
abbrev pub span_table : Table Entry → Table StoredSpan
span_table t = record {
  slots = t.slots;
  last_generation = t.last_generation;
  entries = spans_of t.entries;
  given = t.given;
  freed = t.freed;
}

-- the child counts in the code are the numbers of children
abbrev pub AreCounted : List (ℕ × Entry) → Type 0
AreCounted entries =
    (id : ℕ) (entry : Entry) → find entries id ≡ Some entry → entry.children ≡ children_there (spans_of entries) id

-- no count is above the greatest one
abbrev pub AreBounded : List (ℕ × Entry) → ℕ → Type 0
AreBounded entries max_count =
    (id : ℕ) (entry : Entry) → find entries id ≡ Some entry → entry.handles + entry.children ≤ max_count

-- each parent is there, and by some ranks of the ids below its children
pub record IsForest (spans : StoredSpans) : Type 0 where
  pub parents_there : (child parent : ℕ) → parent_there spans child ≡ Some parent → IsThere spans parent
  pub rank : ℕ → ℕ
  pub rises : (child parent : ℕ) → parent_there spans child ≡ Some parent → rank parent < rank child

-- what is true of every store
pub record IsConsistent (t : Table Entry) (max_count handles : ℕ) : Type 0 where
  pub kept : IsKept t
  pub apart : AreApart t.entries
  pub counted : AreCounted t.entries
  pub bounded : AreBounded t.entries max_count
  pub forest : IsForest (spans_of t.entries)
  pub handles_is : handles ≡ all_handles (spans_of t.entries)
  pub few : length t.entries ≤ 4294967295
  pub max_low : 1 ≤ max_count
  pub max_high : max_count ≤ 4294967295
