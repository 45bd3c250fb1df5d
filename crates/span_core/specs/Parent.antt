-- The parent that a caller means for a new span or an event.
use Rattle.std.specs.Prelude.{ℕ, List, [], ◌∷◌, Option, Some, None}
use Rattle.span_stack.specs.Stack.{current}
use Rattle.span_outlet.specs.declared.batch.ParentOf.{ParentOf}
use Rattle.span_outlet.specs.declared.batch.ParentOf.TheVariants.{Root, Current, Of}
use Rattle.span_core.specs.World.{World, stack_of}

-- of a new span: none, the caller's current span if there is one, or the named span
abbrev pub parent_found : World → ℕ → ParentOf → Option ℕ
parent_found world worker Root = None
parent_found world worker Current = current (stack_of world worker)
parent_found world worker (Of id) = Some id

-- the span that is named, if one is
abbrev pub parent_named : ParentOf → Option ℕ
parent_named (Of id) = Some id
parent_named _ = None

-- The spans among which layers look for that of an event: those that the caller is inside, the topmost last, where it
-- means its current span; else the named span alone, or none.
abbrev pub spans_around : List ℕ → ParentOf → List ℕ
spans_around stack Root = []
spans_around stack Current = stack
spans_around stack (Of id) = id ∷ []
