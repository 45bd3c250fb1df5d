-- What comes back of a visit.
use Rattle.std.specs.Prelude.{◌≡◌, ◌≤◌, ◌+◌}
use Rattle.span_registry.specs.Worker.{WorkerView}

-- the worker that went, with all its parts, and at most three calls more
pub record IsBack (went back : WorkerView) : Type 0 where
  pub accepted : back.accepted ≤ went.accepted + 3
  pub spare : back.spare ≡ went.spare
