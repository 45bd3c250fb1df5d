-- What an accepted call closes, and which notes tell of it: the words of the laws.
use Rattle.std.specs.Prelude.{ℕ, Bool, true, false, ◌&&◌, ◌==◌, cond, List, [], flat_map}
use Rattle.span_id.specs.Bits.{has_bit}
use Rattle.span_layers.specs.declared.note.Kind.{Kind}
use Rattle.span_layers.specs.declared.note.Kind.TheVariants.{OnClose}
use Rattle.span_layers.specs.Note.{PlainNote}
use Rattle.span_layers.specs.Filter.{Filter, layer_wants}
use Rattle.span_forest.specs.declared.span.Holder.TheVariants.{Handle, Entry}
use Rattle.span_forest.specs.Spans.{Spans}
use Rattle.span_forest.specs.Release.{without_holder}
use Rattle.span_core.specs.World.{World}
use Rattle.span_outlet.specs.Request.{Request, exit, try_close, Answer, exited, released}
use Rattle.span_core.specs.Happening.{bits_in}
use Rattle.span_outlet.specs.Batch.{PlainBatch}
use Rattle.span_core.specs.Step.{stays_inside}

-- the spans that a call has closed, by its answer: only an exit and a release close spans
abbrev pub closed_by : Answer → List ℕ
closed_by (exited closed) = closed
closed_by (released closed) = closed
closed_by _ = []

-- all spans that closed in a history
abbrev pub closed_in : List PlainBatch → List ℕ
closed_in history = flat_map (λ batch. closed_by batch.answer) history

-- The spans once the call has given its holder back, and before any of them closes: a worker that leaves a
-- span gives an entry back, `try_close` a handle, and no other call gives a holder back.
abbrev pub spans_before_closing : World → Request → Spans
spans_before_closing old (exit worker id) =
    cond (stays_inside old worker id) old.spans (without_holder old.spans id Entry)
spans_before_closing old (try_close worker id) = without_holder old.spans id Handle
spans_before_closing old _ = old.spans

-- an exit and `try_close` give a holder back
abbrev pub gives_back : Request → Bool
gives_back (exit worker id) = true
gives_back (try_close worker id) = true
gives_back _ = false

-- the kind of the notes that announce a close
abbrev pub is_close : Kind → Bool
is_close OnClose = true
is_close _ = false

-- the note tells this layer that this span closed
abbrev pub tells_close : ℕ → ℕ → PlainNote → Bool
tells_close layer id note = is_close note.kind && (note.layer == layer && note.id == id)

-- the layer is there, admits the span and wants to be told of closes
abbrev pub hears_close : List Filter → Spans → ℕ → ℕ → Bool
hears_close rules spans layer id = has_bit (bits_in spans id) layer && layer_wants rules layer OnClose

-- all notes of a history
abbrev pub notes_in : List PlainBatch → List PlainNote
notes_in history = flat_map (λ batch. batch.notes) history
