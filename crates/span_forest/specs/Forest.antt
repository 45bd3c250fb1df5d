-- A forest of spans.
use Rattle.std.specs.Prelude.{ℕ, ◌≡◌, List, length, Option, Some}
use Rattle.span_slots.specs.Table.{Table, next_id, AreApart}
use Rattle.span_forest.specs.Node.{Node}
use Rattle.span_forest.specs.Spans.{Spans, IsOpen, parent_of}
use Rattle.span_forest.specs.Walk.{Ends}

-- a forest: a finite map from ids to spans in which each parent is, and whose walks all end at a root
-- after at most as many steps as the map has ids
pub record IsForest (spans : Spans) : Type 0 where
  pub ids_apart : AreApart spans
  pub parents_open : (child parent : ℕ) → parent_of spans child ≡ Some parent → IsOpen spans parent
  pub walks_end : (id : ℕ) → IsOpen spans id → Ends (length spans) spans (Some id)

-- what contracts see of a forest: the open spans, the greatest count, and what decides the next id
-- (how many slots there are, their last generation, how many ids each slot gave, and the slots
-- that are free again, the one freed last first)
pub record ForestView : Type 0 where
  pub spans : Spans
  pub max_count : ℕ
  pub slots : ℕ
  pub last_generation : ℕ
  pub given : List ℕ
  pub freed : List ℕ

-- the forest as a slot table of spans
abbrev pub table_of : ForestView → Table Node
table_of forest = record {
  slots = forest.slots;
  last_generation = forest.last_generation;
  entries = forest.spans;
  given = forest.given;
  freed = forest.freed;
}

-- the id that the next span gets: of the slot that was freed last, else of the lowest that was never used,
-- at the slot's next generation; none where no slot is free
abbrev pub next_span_id : ForestView → Option ℕ
next_span_id forest = next_id (table_of forest)
