-- How many spans a history made and closed.
use Rattle.std.proofs.Common.{◌≡◌, ℕ, ◌+◌, ◌≤◌, List, [], ◌∷◌, ◌++◌, length, Option, Some, refl, sym, ap, subst, ◌∙◌, arith, length-append}
use Rattle.span_layers.specs.Filter.{Filter}
use Rattle.span_forest.specs.declared.span.Holder.{Holder}
use Rattle.span_forest.specs.Spans.{Spans, IsOpen, parent_of}
use Rattle.span_forest.specs.Holders.{with_less}
use Rattle.span_forest.specs.Release.{without_holder, closing_list, spans_left}
use Rattle.span_slots.specs.Table.{without_entry}
use Rattle.span_forest.specs.inside.Chain.{without_all, Chain, IsPending}
use Rattle.span_slots.proofs.Apart.{length-without_entry}
use Rattle.span_forest.proofs.Nodes.{with_less-parent, IsForest-changed, changed_open, IsOpen-changed, written-taken_other}
use Rattle.span_forest.proofs.Totals.{length-changed}
use Rattle.span_forest.proofs.Chains.{IsPending-without, IsReleased-from_Chain, Chain-from_walk}
use Rattle.span_forest.proofs.Upheld.{IsUpheld}
use Rattle.span_core.specs.World.{World, IsWorld}
use Rattle.span_outlet.specs.Request.{Request, Answer, made, cloned, entered, exited, released, recorded, told}
use Rattle.span_outlet.specs.Batch.{PlainBatch}
use Rattle.span_core.specs.Step.{Changes}
use Rattle.span_core.specs.History.{issued, id_issued, IsLegal}
use Rattle.span_core.specs.History.IsLegal.{none, more}
use Rattle.span_core.specs.ClosedSpans.{closed_by, closed_in}
use Rattle.span_core.proofs.Effects.{effect}
use Rattle.span_core.proofs.Effects.Effect.{stays, changes, makes, frees}
use Rattle.span_core.proofs.NewSpans.{length-with_entry}
use Rattle.span_core.proofs.Legal.{whole, issued_more, closed_more}
use Rattle.span_core.proofs.LegalWorlds.{legal_world}

issued_length : (old new : List PlainBatch) (batch : PlainBatch) → new ≡ old ++ batch ∷ [] → length (issued new) ≡ length (issued old) + length (id_issued batch.answer)
issued_length old new batch sent =
    ap (λ history. length (issued history)) sent
    ∙ ap length (issued_more old batch)
    ∙ length-append (issued old) (id_issued batch.answer)

-- a call that makes no span
pub none_made : (count : ℕ) (old new : List PlainBatch) (batch : PlainBatch) → count ≡ length (issued old) → id_issued batch.answer ≡ [] → new ≡ old ++ batch ∷ [] → count ≡ length (issued new)
none_made count old new batch counted quiet sent =
    let more = issued_length old new batch sent in
    let nothing = ap length quiet in
    omega (arith, counted, more, nothing)

-- a call that makes one
pub one_made : (count : ℕ) (old new : List PlainBatch) (batch : PlainBatch) (id : ℕ) → count ≡ length (issued old) → id_issued batch.answer ≡ id ∷ [] → new ≡ old ++ batch ∷ [] → count + 1 ≡ length (issued new)
one_made count old new batch id counted one sent =
    let more = issued_length old new batch sent in
    let single = ap length one in
    omega (arith, counted, more, single)

one_at_most : (answer : Answer) → length (id_issued answer) ≤ 1
one_at_most (made id) = omega arith
one_at_most cloned = omega arith
one_at_most (entered first) = omega arith
one_at_most (exited closed) = omega arith
one_at_most (released closed) = omega arith
one_at_most recorded = omega arith
one_at_most told = omega arith

-- no call makes more than one
pub few_made : (rules : List Filter) (workers : ℕ) (history : List PlainBatch) (world : World) → IsLegal rules workers history world → length (issued history) ≤ length history
few_made rules workers [] world none = omega arith
few_made rules workers history new (more {before} {old} batch legal step sent) =
    let rest = few_made rules workers before old legal in
    let ids = issued_length before history batch sent in
    let batches = ap length sent ∙ length-append before (batch ∷ []) in
    omega (arith, rest, ids, batches, one_at_most batch.answer)

-- ---- a release takes as many spans away as it lists

length_chain : (xs : List ℕ) (spans : Spans) (o : Option ℕ) → IsPending spans o → Chain spans o xs → length (without_all spans xs) + length xs ≡ length spans
length_chain [] spans o h c = omega arith
length_chain (x ∷ xs) spans o h c =
    let here : IsPending spans (Some x) = subst (λ v. IsPending spans v) c.0 h in
    let less = length-without_entry spans x h.forest.ids_apart (h.here x c.0) in
    let rest = length_chain xs (without_entry spans x) (parent_of spans x) (IsPending-without spans x here c.1) c.2 in
    omega (arith, less, rest)

length_freed : (spans : Spans) (id : ℕ) (holder : Holder) → IsUpheld spans → IsOpen spans id → length (spans_left spans id holder) + length (closing_list spans id holder) ≡ length spans
length_freed spans id holder w there =
    let f = with_less holder in
    let left = without_holder spans id holder in
    let pending : IsPending left (Some id) = record {
      forest = IsForest-changed f (with_less-parent holder) spans id w.forest;
      here = λ i e. (let same : id ≡ i = cc in rw (← same) (changed_open f spans id id there));
      others = λ j o other.
          (let positive = w.positive j (IsOpen-changed f spans id j o) in
          let same = written-taken_other spans id j holder (λ e. other (ap (λ v. Some v) (sym e))) in
          omega (arith, positive, same));
    } in
    let chain = Chain-from_walk left (Some id) pending in
    let goes = ap length (IsReleased-from_Chain (closing_list spans id holder) left (Some id) pending chain).left in
    let all = length_chain (closing_list spans id holder) left (Some id) pending chain in
    omega (arith, goes, all, length-changed f spans id)

-- what a step makes and closes is what the number of open spans changes by
balanced : (rules : List Filter) (ids : List ℕ) (old : World) (request : Request) (answer : Answer) (new : World) → Changes rules ids old request answer new → IsUpheld old.spans → IsWorld old
    → length old.spans + length (id_issued answer) ≡ length (closed_by answer) + length new.spans
balanced rules ids old request answer new change w world =
    elim (effect rules ids old request answer new change) [
      | stays same quiet ↦ rw (quiet.issued, quiet.closed, same) (omega arith)
      | changes f id mild other same quiet ↦ rw (quiet.issued, quiet.closed, same) (let kept = length-changed f old.spans id in omega (arith, kept))
      | makes m ↦ rw (m.issued, m.closed, m.spans) (let one = length-with_entry old.spans m.id m.node in omega (arith, one))
      | frees m ↦ rw (m.issued, m.closed, m.spans) (let less = length_freed old.spans m.id m.holder w (m.there world) in omega (arith, less))
    ]

-- each span that was made is open or has closed
pub made_or_closed : (rules : List Filter) (workers : ℕ) (history : List PlainBatch) (world : World) → IsLegal rules workers history world → length (issued history) ≡ length (closed_in history) + length world.spans
made_or_closed rules workers [] world none = refl
made_or_closed rules workers history new (more {before} {old} batch legal step sent) =
    let rest = made_or_closed rules workers before old legal in
    let step_is = balanced rules (issued before) old batch.request batch.answer new step.changes (whole rules workers before old legal).settled.upheld (legal_world rules workers before old legal) in
    let ids = issued_length before history batch sent in
    let gone = ap (λ h. length (closed_in h)) sent ∙ ap length (closed_more before batch) ∙ length-append (closed_in before) (closed_by batch.answer) in
    omega (arith, rest, step_is, ids, gone)
