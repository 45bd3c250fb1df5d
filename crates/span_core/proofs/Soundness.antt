-- The parts of a core agree at the start, and after each accepted call.
use Rattle.std.proofs.Common.{◌≡◌, ℕ, ◌+◌, ◌==◌, Bool, true, false, ◌||◌, List, [], ◌∷◌, ◌++◌, replicate, refl, sym, ap, subst, ◌∙◌, inl, inr, arith, length-append}
use Rattle.std.specs.Prelude.{◌⊎◌, ◌↔◌}
use Rattle.std.proofs.lemmas.List.{length-replicate, get_or_past}
use Rattle.std.proofs.lemmas.List.Folds.{list_any-append}
use Rattle.std.proofs.lemmas.List.Sums.{fold-append}
use Rattle.span_id.specs.declared.limits.Limits.{Limits}
use Rattle.span_id.specs.Id.{slot_of, generation_of, IsId}
use Rattle.span_id.specs.Ids.{has}
use Rattle.span_slots.specs.Table.{issue, IsIssued}
use Rattle.span_layers.specs.Note.{PlainNote}
use Rattle.span_layers.specs.Filter.{Filter}
use Rattle.span_forest.specs.Node.{Node}
use Rattle.span_forest.specs.Spans.{Spans}
use Rattle.span_forest.specs.Forest.{ForestView, table_of}
use Rattle.span_forest.specs.Add.{with_span}
use Rattle.span_forest.specs.Release.{freed_after}
use Rattle.span_forest.proofs.Slotted.{issue_more}
use Rattle.span_core.specs.World.{World}
use Rattle.span_outlet.specs.Request.{Request, Answer, made, cloned, entered, exited, released, recorded, told}
use Rattle.span_outlet.specs.Batch.{PlainBatch}
use Rattle.span_core.specs.Step.{IsStep}
use Rattle.span_core.specs.History.{issued, id_issued, IsLegal}
use Rattle.span_core.specs.History.IsLegal.{none, more}
use Rattle.span_core.specs.NextId.{SlotsUsed, with_answer, with_closed, slots_after}
use Rattle.span_core.specs.ClosedSpans.{closed_by}
use Rattle.span_core.specs.inside.Sound.{forest_with, IsSound}
use Rattle.span_core.proofs.Worlds.{nobody_inside}
use Rattle.span_core.proofs.Legal.{issued_more, stands_itself, stands_single}
use Rattle.span_core.proofs.LegalWorlds.{stacks_are, legal_world}

pub sound_start : (limits : Limits) (rules : List Filter) (forest : ForestView) (stacks : List (List ℕ)) (sent : List PlainBatch)
    → sent ≡ [] → forest ≡ forest_with limits [] (record { given = []; freed = [] }) → stacks ≡ replicate limits.workers [] → IsSound limits forest stacks rules 0 sent
sound_start limits rules forest stacks sent nothing empty alone =
    rw (nothing, empty, alone) (record {
      calls_are = refl;
      forest_is = refl;
      counted = λ id there. cc;
      given = λ id fits low. absurd (let none = get_or_past {X = ℕ} [] (slot_of id) 0 (omega arith) in omega (arith, low, none));
      stacks_are = length-replicate limits.workers [];
      world = record { entered = λ id. sym (nobody_inside limits.workers id) };
      legal = none;
    })

-- one batch more
pub slots_more : (last : ℕ) (history : List PlainBatch) (batch : PlainBatch) → slots_after last (history ++ batch ∷ []) ≡ with_answer last (slots_after last history) batch.answer
slots_more last history batch = fold-append (λ (slots : SlotsUsed) (b : PlainBatch). with_answer last slots b.answer) (record { given = []; freed = [] }) history (batch ∷ [])

either : (a b : Bool) (P : Type 0) → (a || b) ≡ true → (a ≡ true → P) → (b ≡ true → P) → P
either true b P h left right = left refl
either false b P h left right = right h

or_left : (a b : Bool) → a ≡ true → (a || b) ≡ true
or_left a b h = rw h refl

or_right : (a b : Bool) → b ≡ true → (a || b) ≡ true
or_right true b h = refl
or_right false b h = h

-- one more batch of a history: it is a step from one world to another, and stands at the end
pub record IsOneMore (rules : List Filter) (history : List PlainBatch) (old : World) (batch : PlainBatch) (new : World) (longer : List PlainBatch) : Type 0 where
  pub step : IsStep rules (issued history) old batch.request batch.answer batch.notes new
  pub sent : longer ≡ history ++ batch ∷ []

-- a batch that was put once a place for it was found
pub put_on : (old mid new : List PlainBatch) (batch : PlainBatch) → mid ≡ old → new ≡ mid ++ batch ∷ [] → new ≡ old ++ batch ∷ []
put_on old mid new batch same sent = sent ∙ ap (λ history. history ++ batch ∷ []) same

-- a forest follows on another as a call with this answer follows on the history: its slots are those of the longer
-- history, each id that was given stays given, that of the answer is given too, and no other
pub record FollowsOn (limits : Limits) (history : List PlainBatch) (old : ForestView) (answer : Answer) (new : ForestView) : Type 0 where
  pub slots : new ≡ forest_with limits new.spans (with_answer limits.last_generation (slots_after limits.last_generation history) answer)
  pub gives : (id : ℕ) → has (id_issued answer) id ≡ true → IsIssued (table_of new) id
  pub keeps : (id : ℕ) → IsIssued (table_of old) id → IsIssued (table_of new) id
  pub no_other : (id : ℕ) → IsId id → IsIssued (table_of new) id → IsIssued (table_of old) id ⊎ (has (id_issued answer) id ≡ true)

-- after a call that was accepted
sound_more : (limits : Limits) (rules : List Filter) (forest new_forest : ForestView) (stacks new_stacks : List (List ℕ)) (calls : ℕ) (old new : List PlainBatch) (batch : PlainBatch)
    → IsSound limits forest stacks rules calls old
    → IsOneMore rules old (record { spans = forest.spans; stacks = stacks }) batch (record { spans = new_forest.spans; stacks = new_stacks }) new
    → FollowsOn limits old forest batch.answer new_forest
    → IsSound limits new_forest new_stacks rules (calls + 1) new
sound_more limits rules forest new_forest stacks new_stacks calls old new batch sound call follows =
    let legal : IsLegal rules limits.workers new (record { spans = new_forest.spans; stacks = new_stacks }) = more batch sound.legal call.step call.sent in
    let stands : (id : ℕ) → has (issued new) id ≡ (has (issued old) id || has (id_issued batch.answer) id) =
    λ id. ap (λ history. has (issued history) id) call.sent ∙ ap (λ ids. has ids id) (issued_more old batch) ∙ list_any-append (λ x. x == id) (issued old) (id_issued batch.answer) in
    record {
      calls_are = rw call.sent (omega (arith, sound.calls_are, length-append old (batch ∷ [])));
      forest_is = follows.slots ∙ ap (λ used. forest_with limits new_forest.spans used) (sym (ap (slots_after limits.last_generation) call.sent ∙ slots_more limits.last_generation old batch));
      counted = λ id there.
          either (has (issued old) id) (has (id_issued batch.answer) id) (IsIssued (table_of new_forest) id) (sym (stands id) ∙ there)
          (λ before. follows.keeps id (sound.counted id before))
          (follows.gives id);
      given = λ id fits low.
          stands id
          ∙ elim (follows.no_other id fits low) [
            | inl before ↦ or_left (has (issued old) id) (has (id_issued batch.answer) id) (sound.given id fits before)
            | inr now ↦ or_right (has (issued old) id) (has (id_issued batch.answer) id) now
          ];
      stacks_are = stacks_are rules limits.workers new _ legal;
      world = legal_world rules limits.workers new _ legal;
      legal = legal;
    }

-- an answer that gives no id frees the slots of the spans that it closes
answer_closes : (last : ℕ) (used : SlotsUsed) (answer : Answer) → id_issued answer ≡ [] → with_answer last used answer ≡ with_closed last used (closed_by answer)
answer_closes last used (made id) nothing = absurd (let no = nothing in cc)
answer_closes last used cloned nothing = refl
answer_closes last used (entered first) nothing = refl
answer_closes last used (exited closed) nothing = refl
answer_closes last used (released closed) nothing = refl
answer_closes last used recorded nothing = refl
answer_closes last used told nothing = refl

-- after a call that gives no id: of the forest its spans changed, and the slots of those that closed are free
pub sound_kept : (limits : Limits) (rules : List Filter) (forest new_forest : ForestView) (stacks new_stacks : List (List ℕ)) (calls : ℕ) (old new : List PlainBatch) (batch : PlainBatch) (spans : Spans) (closed : List ℕ)
    → IsSound limits forest stacks rules calls old
    → IsOneMore rules old (record { spans = forest.spans; stacks = stacks }) batch (record { spans = new_forest.spans; stacks = new_stacks }) new
    → id_issued batch.answer ≡ [] → closed_by batch.answer ≡ closed
    → new_forest ≡ record forest { spans = spans; freed = freed_after forest.last_generation forest.given forest.freed closed }
    → IsSound limits new_forest new_stacks rules (calls + 1) new
sound_kept limits rules forest new_forest stacks new_stacks calls old new batch spans closed sound call nothing closes forest_is =
    let last = limits.last_generation in
    let used = slots_after last old in
    let given_is : new_forest.given ≡ forest.given = ap (λ f. f.given) forest_is in
    sound_more limits rules forest new_forest stacks new_stacks calls old new batch sound call (record {
      slots = forest_is
          ∙ ap (λ (f : ForestView). record f { spans = spans; freed = freed_after f.last_generation f.given f.freed closed }) sound.forest_is
          ∙ (λ j. forest_with limits (sym (ap (λ f. f.spans) forest_is) j) ((ap (with_closed last used) (sym closes) ∙ sym (answer_closes last used batch.answer nothing)) j));
      gives = λ id there. absurd (let t = rw nothing at there in cc);
      keeps = λ id before. rw given_is before;
      no_other = λ id fits low. inl (rw given_is at low);
    })

-- after a new span: its id is given, and no other
pub sound_made : (limits : Limits) (rules : List Filter) (forest new_forest : ForestView) (stacks : List (List ℕ)) (calls : ℕ) (old new : List PlainBatch) (request : Request) (notes : List PlainNote) (id : ℕ) (node : Node)
    → IsSound limits forest stacks rules calls old
    → IsOneMore rules old (record { spans = forest.spans; stacks = stacks }) (record { request = request; answer = made id; notes = notes }) (record { spans = new_forest.spans; stacks = stacks }) new
    → IsId id
    → new_forest ≡ with_span forest id node
    → ((other : ℕ) → IsId other → (IsIssued (table_of new_forest) other ↔ (IsIssued (table_of forest) other ⊎ (id ≡ other))))
    → IsSound limits new_forest stacks rules (calls + 1) new
sound_made limits rules forest new_forest stacks calls old new request notes id node sound call in_layout forest_is ids =
    let given_is : new_forest.given ≡ issue forest.given (slot_of id) = ap (λ f. f.given) forest_is in
    sound_more limits rules forest new_forest stacks stacks calls old new (record { request = request; answer = made id; notes = notes }) sound call (record {
      slots = forest_is
          ∙ ap (λ (f : ForestView). with_span f id node) sound.forest_is
          ∙ ap (λ s. forest_with limits s (with_answer limits.last_generation (slots_after limits.last_generation old) (made id))) (sym (ap (λ f. f.spans) forest_is));
      gives = λ x there. subst (λ (y : ℕ). IsIssued (table_of new_forest) y) (stands_single x id there) ((ids id in_layout).1 (inr refl));
      keeps = λ x before. rw given_is (issue_more forest.given (slot_of id) (slot_of x) (generation_of x) before);
      no_other = λ x fits low. elim ((ids x fits).0 low) [
        | inl before ↦ inl before
        | inr same ↦ inr (subst (λ (j : ℕ). has (j ∷ []) x ≡ true) (sym same) (stands_itself x))
      ];
    })
