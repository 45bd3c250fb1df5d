-- What a core knows of the lower parts of a worker's stack, for the functions inside this crate: no public clause cites
-- it.
--
-- A stack that is cut into blocks of 64 entries, the lowest block first, has for some of the lowest blocks a set of
-- layers that admit none of the block's entries, duplicates apart. So a layer in that set sees nothing there. The set may
-- leave layers out, and blocks may have no set: then the entries themselves are looked at.
--
-- It stays true whatever a call does: an id in a stack is of an open span, which keeps its layers until it closes; of a
-- span that closed no layer is left. An entry on top leaves those below where they are.
use Rattle.std.specs.Prelude.{◌≡◌, ℕ, ◌+◌, ◌*◌, ◌≤◌, true, false, List, [], length, take, slice_get, slice_index_or, Some}
use Rattle.span_id.specs.declared.bits.Bits.{Bits}
use Rattle.span_id.specs.Bits.{has_bit}
use Rattle.span_id.specs.Ids.{has}
use Rattle.span_forest.specs.Spans.{Spans}
use Rattle.span_core.specs.declared.summary.Summary.{Summary}
use Rattle.span_core.specs.Happening.{bits_in}

-- the layers of this mask admit none of the spans that stand in a stack first from a place to below another
pub record AdmitNone (spans : Spans) (ids : List ℕ) (from to mask : ℕ) : Type 0 where
  pub none : (id layer : ℕ) → has (take from ids) id ≡ false → has (take to ids) id ≡ true → has_bit mask layer ≡ true
      → has_bit (bits_in spans id) layer ≡ false

-- the blocks stand whole in the stack, and each has such layers
pub record Summarises (spans : Spans) (ids : List ℕ) (blocks : List Bits) : Type 0 where
  pub within : length blocks * 64 ≤ length ids
  pub each : (nth : ℕ) (block : Bits) → slice_get blocks nth ≡ Some block
      → AdmitNone spans ids (nth * 64) (nth * 64 + 64) block.0

-- so it is with the stack of the summary's worker
pub record IsSummary (spans : Spans) (stacks : List (List ℕ)) (summary : Summary) : Type 0 where
  pub blocks : Summarises spans (slice_index_or stacks summary.worker []) summary.blocks.items
