-- What a call that gives a holder back does, said of the core before it and the core after it.
use Rattle.std.specs.Prelude.{◌≡◌, ◌≢◌, ◌↔◌, ℕ, ◌&&◌, if◌then◌else◌, [], ◌∷◌, ◌++◌, Some, None, IsTrue, AllPairs, count_by}
use Rattle.span_id.specs.Ids.{has}
use Rattle.span_forest.specs.Spans.{Spans, find, IsOpen, parent_of}
use Rattle.span_forest.specs.Count.{holders_in}
use Rattle.span_outlet.specs.Request.{Request}
use Rattle.span_outlet.specs.Batch.{PlainBatch}
use Rattle.span_core.specs.Core.{CoreView}
use Rattle.span_core.specs.ClosedSpans.{closed_by, spans_before_closing, tells_close, hears_close}

-- nothing holds the span any longer: no handle and no entry of it is left where a holder was given back, and no
-- span that is still open has it as its parent
pub record NothingHolds (given_back still_open : Spans) (id : ℕ) : Type 0 where
  pub no_holder : holders_in (find given_back id) ≡ 0
  pub no_child : (child : ℕ) → parent_of still_open child ≢ Some id

-- The call closed exactly the spans that nothing holds any longer, child first, and announced each once to every layer
-- that admits it and wants closes.
pub record ClosesWhatNothingHolds (old : CoreView) (request : Request) (new : CoreView) : Type 0 where
  -- one batch was sent, for this call
  pub batch : PlainBatch
  pub sent : new.sent ≡ old.sent ++ batch ∷ []
  pub asked : batch.request ≡ request
  -- an open span is gone exactly where nothing holds it any longer
  pub gone : (id : ℕ) → IsOpen old.world.spans id → ((find new.world.spans id ≡ None)
      ↔ NothingHolds (spans_before_closing old.world request) new.world.spans id)
  -- each span that is left is as it was, but for the holder
  pub others : (id : ℕ) → IsOpen new.world.spans id →
      find new.world.spans id ≡ find (spans_before_closing old.world request) id
  -- the answer lists the spans that are gone: each once, and none after its parent
  pub listed : (id : ℕ) → (IsTrue (has (closed_by batch.answer) id)
      ↔ (IsOpen old.world.spans id × (find new.world.spans id ≡ None)))
  pub child_first : AllPairs (λ first later. (first ≢ later) × (parent_of old.world.spans later ≢ Some first))
      (closed_by batch.answer)
  -- each of them is announced once to every layer that admits it and wants closes, and to no other layer
  pub announced : (layer id : ℕ) → count_by (tells_close layer id) batch.notes
      ≡ (if has (closed_by batch.answer) id && hears_close old.rules old.world.spans layer id then 1 else 0)
