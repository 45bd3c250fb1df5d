-- Over a whole history, no layer is told twice that a span closed.
use Rattle.std.proofs.Common.{◌≡◌, ℕ, ◌+◌, ◌/◌, ◌^◌, ◌≤◌, ◌==◌, Bool, true, false, ◌&&◌, ◌||◌, List, [], ◌∷◌, ◌++◌, Option, None, refl, ap, ◌∙◌, arith}
use Rattle.std.specs.Prelude.{nat_lt}
use Rattle.std.specs.Option.{option_map_or}
use Rattle.std.proofs.Math.Nat.{zero-div}
use Rattle.std.proofs.lemmas.List.Folds.{list_any-append}
use Rattle.std.proofs.lemmas.List.Concat.{flat_map-append}
use Rattle.span_id.specs.Ids.{has}
use Rattle.span_layers.specs.declared.note.Kind.TheVariants.{OnClose}
use Rattle.span_layers.specs.Note.{PlainNote}
use Rattle.span_layers.specs.Filter.{Filter, layer_wants}
use Rattle.span_forest.specs.Node.{Node}
use Rattle.span_forest.specs.Spans.{Spans, find}
use Rattle.span_core.specs.World.{World}
use Rattle.span_outlet.specs.Request.{worker_of}
use Rattle.span_outlet.specs.Batch.{PlainBatch}
use Rattle.span_core.specs.Happening.{bits_in}
use Rattle.span_core.specs.History.{issued, IsLegal}
use Rattle.span_core.specs.History.IsLegal.{none, more}
use Rattle.span_core.specs.ClosedSpans.{closed_by, closed_in, tells_close, hears_close, notes_in}
use Rattle.span_core.proofs.Legal.{whole, closed_more}
use Rattle.span_core.proofs.Released.{closes_once}
use Rattle.span_core.proofs.Announcing.{one, tally, append_count, and_false, closes_counted, call_counted}

-- a span that isn't open is announced to no layer
not_open_unheard : (rules : List Filter) (spans : Spans) (layer id : ℕ) → find spans id ≡ None → hears_close rules spans layer id ≡ false
not_open_unheard rules spans layer id gone =
    let empty : bits_in spans id ≡ 0 = ap (λ (o : Option Node). option_map_or (λ node. node.bits) o 0) gone in
    let z : 0 / 2 ^ layer ≡ 0 = zero-div (2 ^ layer) in
    rw (empty, z) (by_case (nat_lt layer 64))
  where
    by_case : (b : Bool) → ((b && false) && layer_wants rules layer OnClose) ≡ false
    by_case true = refl
    by_case false = refl

at_most : (earlier now : ℕ) (before closes hears : Bool) → earlier ≤ one before → now ≡ one (closes && hears) → (before ≡ true → hears ≡ false) → earlier + now ≤ one (before || closes)
at_most earlier now true closes hears few is quiet = (let q = quiet refl in let is' = rw (q, and_false closes) at is in omega (arith, few, is'))
at_most earlier now false true true few is quiet = omega (arith, few, is)
at_most earlier now false true false few is quiet = omega (arith, few, is)
at_most earlier now false false hears few is quiet = omega (arith, few, is)

notes_more : (history : List PlainBatch) (batch : PlainBatch) → notes_in (history ++ batch ∷ []) ≡ notes_in history ++ batch.notes
notes_more history batch =
    flat_map-append (λ (b : PlainBatch). b.notes) history (batch ∷ []) ∙ ap (λ notes. notes_in history ++ notes) (append_nil batch.notes)
  where
    append_nil : (xs : List PlainNote) → xs ++ [] ≡ xs
    append_nil [] = refl
    append_nil (x ∷ xs) = ap (λ ys. x ∷ ys) (append_nil xs)

-- over a legal history no layer is told twice that a span closed, nor of one that didn't
pub told_at_most_once : (rules : List Filter) (workers : ℕ) (history : List PlainBatch) (world : World) → IsLegal rules workers history world → (layer id : ℕ) → tally (tells_close layer id) (notes_in history) ≤ one (has (closed_in history) id)
told_at_most_once rules workers [] world none layer id = omega arith
told_at_most_once rules workers history new (more {before} {old} batch legal step sent) layer id =
    let w = whole rules workers before old legal in
    let few = told_at_most_once rules workers before old legal layer id in
    let now : tally (tells_close layer id) batch.notes ≡ one (has (closed_by batch.answer) id && hears_close rules old.spans layer id) =
    ap (tally (tells_close layer id)) step.notes_are
    ∙ call_counted rules (issued before) (worker_of batch.request) layer id old batch.request batch.answer new step.changes
    ∙ closes_counted rules (worker_of batch.request) layer id old.spans (closed_by batch.answer) (closes_once rules (issued before) (closed_in before) old batch.request batch.answer new step.changes w.settled) in
    let sum : tally (tells_close layer id) (notes_in history) ≡ tally (tells_close layer id) (notes_in before) + tally (tells_close layer id) batch.notes =
    ap (λ h. tally (tells_close layer id) (notes_in h)) sent ∙ ap (tally (tells_close layer id)) (notes_more before batch) ∙ append_count layer id (notes_in before) batch.notes in
    let closed : has (closed_in history) id ≡ (has (closed_in before) id || has (closed_by batch.answer) id) =
    ap (λ h. has (closed_in h) id) sent ∙ ap (λ ids. has ids id) (closed_more before batch) ∙ list_any-append (λ x. x == id) (closed_in before) (closed_by batch.answer) in
    rw (sum, closed) (at_most _ _ (has (closed_in before) id) (has (closed_by batch.answer) id) (hears_close rules old.spans layer id) few now
    (λ gone. not_open_unheard rules old.spans layer id (w.settled.closed_gone id gone)))
