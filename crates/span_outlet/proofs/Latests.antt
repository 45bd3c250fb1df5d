-- The lines of the last batch of a history.
use Rattle.std.proofs.Common.{◌≡◌, ℕ, ◌+◌, List, [], ◌∷◌, ◌++◌, length, drop, refl, sym, ap, ◌∙◌, subst, arith, append-nil, length-append}
use Rattle.std.specs.Prelude.{flat_map}
use Rattle.std.specs.List.{enumerate_from}
use Rattle.span_layers.specs.declared.form.Form.{Form}
use Rattle.span_outlet.specs.Batch.{PlainBatch}
use Rattle.span_outlet.specs.Lines.{PlainLine, lines_of_batch}
use Rattle.span_outlet.specs.Kept.{GainsLines, numbered_in}
use Rattle.span_outlet.specs.Latest.{last_lines, lines_from}
use Rattle.span_outlet.proofs.Keeping.{batch_whole}

dropped : {A : Type 0} (xs ys : List A) → drop (length xs) (xs ++ ys) ≡ ys
dropped [] ys = refl
dropped (x ∷ xs) ys = dropped xs ys

-- a batch more
last_more : (forms : List Form) (sent : List PlainBatch) (batch : PlainBatch) → last_lines forms (sent ++ batch ∷ []) ≡ lines_of_batch forms (length sent, batch)
last_more forms sent batch =
    let more : length (sent ++ batch ∷ []) ≡ length sent + 1 = length-append sent (batch ∷ []) in
    ap (λ n. lines_from forms n (sent ++ batch ∷ [])) (omega (arith, more))
    ∙ ap (λ batches. flat_map (lines_of_batch forms) (enumerate_from (length sent) batches)) (dropped sent (batch ∷ []))
    ∙ append-nil (lines_of_batch forms (length sent, batch))

-- what is known once the lines of a batch are there
pub latest : (forms same : List Form) (sent new : List PlainBatch) (batch : PlainBatch) (count : ℕ) (lines after : List PlainLine) (misses more : ℕ)
    → same ≡ forms → count ≡ length sent → new ≡ sent ++ batch ∷ [] → lines ≡ []
    → GainsLines forms (numbered_in count batch) lines misses after more
    → (count + 1 ≡ length new) × (more ≡ 0 → after ≡ last_lines same new)
latest forms same sent new batch count lines after misses more is number more_sent no_lines gains =
    let longer : length new ≡ length sent + 1 = ap length more_sent ∙ length-append sent (batch ∷ []) in
    let from_none : GainsLines forms (numbered_in count batch) [] misses after more = subst (λ ls. GainsLines forms (numbered_in count batch) ls misses after more) no_lines gains in (
      omega (arith, number, longer),
      λ none_missed. batch_whole forms count batch after misses more from_none none_missed
          ∙ ap {B = List PlainLine} (λ n. lines_of_batch forms (n, batch)) number
          ∙ sym (last_more forms sent batch)
          ∙ (λ i. last_lines (sym is i) (sym more_sent i)),
    )
