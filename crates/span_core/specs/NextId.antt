-- Which id a new span gets after a history.
use Rattle.std.specs.Prelude.{ℕ, Bool, ◌||◌, ◌==◌, List, [], fold, length, drop, Option, slice_index}
use Rattle.std.specs.List.{list_any}
use Rattle.std.specs.Option.{option_map}
use Rattle.span_id.specs.Id.{id_of, slot_of}
use Rattle.span_id.specs.Ids.{has}
use Rattle.span_slots.specs.Table.{issue, next_slot_of}
use Rattle.span_forest.specs.Spans.{Spans}
use Rattle.span_forest.specs.Release.{freed_after}
use Rattle.span_outlet.specs.Request.{Answer, made, cloned, entered, exited, released, recorded, told}
use Rattle.span_outlet.specs.Batch.{PlainBatch}
use Rattle.span_core.specs.History.{issued}

-- how many ids each slot has given, and the slots that were freed and may be given again, the one freed last first
pub record SlotsUsed : Type 0 where
  pub given : List ℕ
  pub freed : List ℕ

-- after spans closed, in this order: each slot is freed, unless it has given its last id
abbrev pub with_closed : ℕ → SlotsUsed → List ℕ → SlotsUsed
with_closed last_generation slots closed =
    record slots { freed = freed_after last_generation slots.given slots.freed closed }

-- after an answer: a new span takes the slot freed last, if there is one, and closed spans free theirs
abbrev pub with_answer : ℕ → SlotsUsed → Answer → SlotsUsed
with_answer last_generation slots (made id) =
    record { given = issue slots.given (slot_of id); freed = drop 1 slots.freed }
with_answer last_generation slots (exited closed) = with_closed last_generation slots closed
with_answer last_generation slots (released closed) = with_closed last_generation slots closed
with_answer last_generation slots cloned = slots
with_answer last_generation slots (entered first) = slots
with_answer last_generation slots recorded = slots
with_answer last_generation slots told = slots

-- after a history
abbrev pub slots_after : ℕ → List PlainBatch → SlotsUsed
slots_after last_generation history =
    fold (λ slots batch. with_answer last_generation slots batch.answer) (record { given = []; freed = [] }) history

-- The id of the next new span: the slot that was freed last, else the lowest never used, at the number
-- of ids that it has given. There is none where no slot is free.
abbrev pub next_id_from : ℕ → SlotsUsed → Option ℕ
next_id_from slots used =
    option_map (λ slot. id_of slot (slice_index used.given slot)) (next_slot_of slots (length used.given) used.freed)

-- the id of the next new span after this history
abbrev pub next_id_after : ℕ → ℕ → List PlainBatch → Option ℕ
next_id_after slots last_generation history = next_id_from slots (slots_after last_generation history)

-- an open span has the slot
abbrev pub has_open_span : Spans → ℕ → Bool
has_open_span spans slot = list_any (λ e. slot_of e.0 == slot) spans

-- the slot can give no id: an open span has it, or the history issued its id of the last generation
abbrev pub is_used_up : ℕ → Spans → List PlainBatch → ℕ → Bool
is_used_up last_generation spans history slot =
    has_open_span spans slot || has (issued history) (id_of slot last_generation)
