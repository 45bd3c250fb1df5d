-- What the calls do that give a holder of a span back and tell which spans closed.
use Rattle.std.specs.Prelude.{◌≡◌, ℕ, List, ◌++◌, length, take, drop, nat_lt, is_none}
use Rattle.span_forest.specs.declared.span.Holder.TheVariants.{Handle}
use Rattle.span_forest.specs.Spans.{find}
use Rattle.span_forest.specs.Release.{closing_list}
use Rattle.span_outlet.specs.Request.{exit, try_close, exited, released}
use Rattle.span_core.specs.Step.{closed_by_exit}
use Rattle.span_core.specs.Core.{CoreView}
use Rattle.span_border.specs.declared.status.Status.{Status}
use Rattle.span_border.specs.Ends.{IfDone}
use Rattle.span_ffi.specs.Calls.{AnswersWorker}

-- The first of some things go into a buffer, as many as it has room for: they stand at its beginning, and the rest of
-- it stays. How many things there are is told, also where they are more than that.
abbrev pub WritesFirst : {X : Type 0} → List X → List X → List X → ℕ → Type 0
WritesFirst things old new len =
    (new ≡ take (length old) things ++ drop (length things) old) × (len ≡ length things)

-- the ids of the spans that closed are told, and there are some exactly where the named span is no longer found
abbrev pub AnswersClosed : ℕ → List ℕ → List ℕ → List ℕ → ℕ → CoreView → Type 0
AnswersClosed id closing into into' len new =
    WritesFirst closing into into' len × (nat_lt 0 len ≡ is_none (find new.world.spans id))

-- a worker leaves a span, and the ids of the spans that closed are told, child first
abbrev pub ExitsClosing : ℕ → ℕ → List ℕ → List ℕ → ℕ → CoreView → Status → CoreView → Type 0
ExitsClosing worker id into into' len old status new =
    let closing = closed_by_exit old.world worker id in
    AnswersWorker (exit worker id) (exited closing) old status new
    × IfDone status (AnswersClosed id closing into into' len new)

-- a handle of a span is given back, and the ids of the spans that closed are told, child first
abbrev pub ReleasesClosing : ℕ → ℕ → List ℕ → List ℕ → ℕ → CoreView → Status → CoreView → Type 0
ReleasesClosing worker id into into' len old status new =
    let closing = closing_list old.world.spans id Handle in
    AnswersWorker (try_close worker id) (released closing) old status new
    × IfDone status (AnswersClosed id closing into into' len new)
