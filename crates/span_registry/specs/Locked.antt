-- What holds whenever the lock is free.
use Rattle.std.specs.Prelude.{◌≡◌, ◌≢◌, ℕ, ◌+◌, ◌^◌, ◌<◌, List, length, Option, Some, None, slice_index}
use Rattle.span_id.specs.Id.{slot_of, generation_of}
use Rattle.span_id.specs.declared.limits.Limits.{Limits}
use Rattle.span_layers.specs.Filter.{Filter}
use Rattle.span_layers.specs.declared.form.Form.{Form}
use Rattle.span_forest.specs.Node.{Node}
use Rattle.span_forest.specs.Spans.{find, IsOpen}
use Rattle.span_forest.specs.Count.{total_handles}
use Rattle.span_seats.specs.declared.view.RootView.{RootView}
use Rattle.span_seats.specs.RootView.{handle_count}
use Rattle.span_outlet.specs.Outlet.{RingName}
use Rattle.span_outlet.specs.Batch.{PlainBatch}
use Rattle.span_core.specs.History.{IsLegal}
use Rattle.span_core.specs.Core.{CoreView}

-- What holds of a registry that was made with these limits, rules, forms and ring, and whose two ledgers are cut into so many
-- parts: of its book of handles and its book of calls, of the history that its keeper knows, of the root of its handles'
-- seats, and of its core. Beside this
-- every core knows: each open span's count is its handles, the workers inside it and its open children, is positive, and
-- its parent is open; an id that isn't open finds nothing.
pub record HoldsWhenFree
    (limits : Limits) (rules : List Filter) (forms : List Form) (ring : Option RingName) (handle_parts call_parts : ℕ)
    (handles calls : ℕ) (history : List PlainBatch) (root : RootView) (core : CoreView)
    : Type 0 where
  -- the registry's limits, rules, forms and ring are those that it was made with
  pub limits_are : core.limits ≡ limits
  pub rules_are : core.rules ≡ rules
  pub forms_are : core.forms ≡ forms
  pub ring_is : core.name ≡ ring
  -- the batches sent are a legal history, which leaves this world
  pub legal : IsLegal core.rules core.limits.workers core.sent core.world
  -- the history that the keeper has is that of the batches sent
  pub history_is : history ≡ core.sent
  -- the book of calls is as long as the history
  pub calls_are : calls ≡ length core.sent
  -- the book of handles is the sum of the handles of all open spans
  pub handles_are : handles ≡ total_handles core.world.spans
  -- as many numbers are given out for an open span as it has handles ..
  pub numbers_of_open : (id : ℕ) (node : Node) → find core.world.spans id ≡ Some node →
      handle_count id root.handles ≡ node.handles
  -- .. and none for an id that isn't open
  pub no_other_numbers : (id : ℕ) → find core.world.spans id ≡ None → handle_count id root.handles ≡ 0
  -- there is a word for each slot
  pub words : length root.words ≡ core.limits.slots
  -- an open span is in one of the slots, whose word is the span's generation plus 1 ..
  pub word_of_open : (id : ℕ) → IsOpen core.world.spans id →
      (slot_of id < core.limits.slots) × (slice_index root.words (slot_of id) ≡ generation_of id + 1)
  -- .. and the word of a slot in which no span is open is 0
  pub free_slots_are_0 : (slot : ℕ) → ((id : ℕ) → IsOpen core.world.spans id → slot_of id ≢ slot) →
      slice_index root.words slot ≡ 0
  -- the ledger of handles has fewer than 2^64 parts, and the ledger of calls one for each worker
  pub handle_parts_fit : handle_parts < 2 ^ 64
  pub call_parts_are : call_parts ≡ core.limits.workers
