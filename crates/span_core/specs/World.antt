-- The world: the open spans with their holders, and the stacks of the workers.
use Rattle.std.specs.Prelude.{◌≡◌, ℕ, ◌+◌, ◌<◌, List, [], filter, MatchOption, replicate, length, sum_by, count_by, slice_index_or, slice_set}
use Rattle.std.specs.List.{range_with_len}
use Rattle.span_id.specs.Ids.{has}
use Rattle.span_forest.specs.declared.span.Span.{Span}
use Rattle.span_forest.specs.declared.span.Holder.TheVariants.{Entry}
use Rattle.span_forest.specs.Spans.{Spans, find, IsOpen}
use Rattle.span_forest.specs.Count.{children}
use Rattle.span_forest.specs.Holders.{held_in}
use Rattle.span_stack.specs.Stack.{first_places}

-- the open spans, each with its handles and its entries, and for each worker, by its number, the ids
-- of the spans that it has entered, the topmost last
pub record World : Type 0 where
  pub spans : Spans
  pub stacks : List (List ℕ)

-- before any call: no span is open, and no worker has entered one
abbrev pub empty_world : ℕ → World
empty_world workers = record { spans = []; stacks = replicate workers [] }

-- the stack of a worker
abbrev pub stack_of : World → ℕ → List ℕ
stack_of world worker = slice_index_or world.stacks worker []

-- the stacks, that of one worker replaced
abbrev pub with_stack : World → ℕ → List ℕ → List (List ℕ)
with_stack world worker stack = slice_set world.stacks worker stack

-- how many workers have the span in their stack
abbrev pub workers_inside : List (List ℕ) → ℕ → ℕ
workers_inside stacks id = count_by (λ stack. has stack id) stacks

-- the workers that have the span in their stack, by their numbers
abbrev pub workers_with : List (List ℕ) → ℕ → List ℕ
workers_with stacks id = filter (λ worker. has (slice_index_or stacks worker []) id) (range_with_len 0 (length stacks))

-- how many entries all stacks have that are no duplicates: of each stack those at the first places of their ids
abbrev pub entries_in : List (List ℕ) → ℕ
entries_in stacks = sum_by (λ stack. length (first_places stack)) stacks

-- what holds together in every world: the entries of a span are the workers that have it in their
-- stack, each counted once, however often the id stands there
pub record IsWorld (world : World) : Type 0 where
  pub entered : (id : ℕ) → held_in Entry (find world.spans id) ≡ workers_inside world.stacks id

-- the count of an open span is its handles, the workers that are inside it, and its open children; it is
-- positive, and the parent, if there is one, is open
pub record IsCounted (world : World) (id : ℕ) (span : Span) : Type 0 where
  pub count : span.count ≡ span.handles + workers_inside world.stacks id + children world.spans id
  pub positive : 0 < span.count
  pub parent_open : MatchOption span.parent (Unit {0}) (λ parent. IsOpen world.spans parent)
