-- What a contract sees of a drain, and what its step does.
use Rattle.std.specs.Prelude.{◌≡◌, ℕ, ◌+◌, List, [], ◌∷◌, ◌++◌, length}
use Rattle.span_layers.specs.declared.form.Form.{Form}
use Rattle.span_outlet.specs.declared.drain.Step.{Step}
use Rattle.span_outlet.specs.Batch.{PlainBatch}
use Rattle.span_outlet.specs.Outlet.{RingName}
use Rattle.span_outlet.specs.Lines.{PlainLine}
use Rattle.span_outlet.specs.Kept.{GainsLines, numbered_in}

-- the name of its ring, the forms in which it writes, the batches that it took, the lines that it has of their notes,
-- and how many notes were missed
pub record DrainView : Type 0 where
  pub name : RingName
  pub forms : List Form
  pub taken : List PlainBatch
  pub lines : List PlainLine
  pub missed : ℕ

-- One batch more was taken, and its notes were told or missed: the step has how many were told, each with a line
-- more, and how many were missed.
pub record TakesBatch (old new : DrainView) (step : Step) : Type 0 where
  pub batch : PlainBatch
  pub taken : new.taken ≡ old.taken ++ batch ∷ []
  pub gains : GainsLines old.forms (numbered_in (length old.taken) batch) old.lines old.missed new.lines new.missed
  pub told : length old.lines + step.told ≡ length new.lines
  pub missed : step.told + step.missed ≡ length batch.notes
