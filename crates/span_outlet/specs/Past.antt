-- The history that went into an outlet.
use Rattle.std.specs.Prelude.{List, [], ◌∷◌, ◌++◌}
use Rattle.span_outlet.specs.Batch.{PlainBatch}
use Rattle.span_outlet.specs.declared.past.Past.{Past, Nothing, After'}
use Rattle.span_outlet.specs.Posted.{plain_posted}

-- the batches that were sent, in order
abbrev pub batches_of : Past → List PlainBatch
batches_of Nothing = []
batches_of (After' p before batch) = batches_of before ++ plain_posted batch.value ∷ []
