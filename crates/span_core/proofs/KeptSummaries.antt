-- What a core knows of the lower parts of a stack stays true where the forest changes: a span that is open keeps its
-- layers, and of one that closed none is left.
use Rattle.std.proofs.Common.{◌≡◌, ◌≢◌, ℕ, ◌+◌, ◌*◌, ◌<◌, Bool, true, false, ◌||◌, cond, List, [], ◌∷◌, ◌++◌, length, take, drop, get_or, set, Option, Some, None, refl, sym, ap, ◌∙◌, subst, inl, inr}
use Rattle.std.specs.Prelude.{◌⊎◌, is_some}
use Rattle.std.specs.Option.{option_map, option_map_or}
use Rattle.std.proofs.lemmas.Bool.{cases_Bool, cases_lt, false≢true}
use Rattle.std.proofs.lemmas.Bool.Decides.{eqb_tells}
use Rattle.std.proofs.lemmas.List.{get_or_past, take-append-drop}
use Rattle.span_id.specs.Bits.{has_bit}
use Rattle.span_id.specs.Ids.{has}
use Rattle.span_forest.specs.declared.span.Holder.{Holder}
use Rattle.span_forest.specs.declared.span.Holder.TheVariants.{Entry}
use Rattle.span_forest.specs.Node.{Node}
use Rattle.span_forest.specs.Spans.{Spans, find, with_entry, with_change}
use Rattle.span_forest.specs.Holders.{held_in, with_more, with_less}
use Rattle.span_forest.specs.Keep.{with_holder}
use Rattle.span_forest.specs.Release.{spans_left}
use Rattle.span_slots.proofs.Entries.{find-with_other}
use Rattle.span_forest.proofs.Nodes.{find-changed_same, find-changed_other}
use Rattle.span_stack.proofs.Entries.{has-append}
use Rattle.span_core.specs.declared.summary.Summary.{Summary}
use Rattle.span_core.specs.World.{IsWorld}
use Rattle.span_core.specs.Happening.{bits_in}
use Rattle.span_core.specs.inside.Summary.{Summarises, IsSummary}
use Rattle.span_core.proofs.Accepting.{none_inside}
use Rattle.span_core.proofs.Telling.{has_bit-none}
use Rattle.span_core.proofs.Remembering.{KeepsPaths, one_more, one_less, find-left}
use Rattle.span_core.proofs.Summaries.{summarises_more, summary_set, summary_other}

-- what stands below a place stands in the stack
has_below : (ids : List ℕ) (place id : ℕ) → has (take place ids) id ≡ true → has ids id ≡ true
has_below ids place id is =
    ap (λ xs. has xs id) (sym (take-append-drop place ids)) ∙ has-append (take place ids) (drop place ids) id
    ∙ ap (λ b. b || has (drop place ids) id) is

-- no span in the stack is admitted by more layers
summary_on : (old new : Spans) (stacks : List (List ℕ)) (summary : Summary)
    → ((id layer : ℕ) → has (get_or stacks summary.worker []) id ≡ true → has_bit (bits_in old id) layer ≡ false → has_bit (bits_in new id) layer ≡ false)
    → IsSummary old stacks summary → IsSummary new stacks summary
summary_on old new stacks summary fewer before = record {
  blocks = record {
    within = before.blocks.within;
    each = λ nth block at. record {
      none = λ id layer outside inside isnt.
          fewer id layer (has_below (get_or stacks summary.worker []) (nth * 64 + 64) id inside)
          ((before.blocks.each nth block at).none id layer outside inside isnt);
    };
  };
}

-- a change of a span that keeps its layers
bits_mapped : (f : Node → Node) → KeepsPaths f → (o : Option Node) → option_map_or (λ node. node.bits) (option_map f o) 0 ≡ option_map_or (λ node. node.bits) o 0
bits_mapped f k None = refl
bits_mapped f k (Some node) = k.bits node

bits-changed : (f : Node → Node) → KeepsPaths f → (spans : Spans) (id j : ℕ) → bits_in (with_change f spans id) j ≡ bits_in spans j
bits-changed f k spans id j =
    elim (eqb_tells j id) [
      | inl t ↦ rw t.1 (ap (λ o. option_map_or (λ node. node.bits) o 0) (find-changed_same f spans id) ∙ bits_mapped f k (find spans id))
      | inr t ↦ ap (λ o. option_map_or (λ node. node.bits) o 0) (find-changed_other f spans id j t.1)
    ]

pub summary_changed : (old new : Spans) (stacks : List (List ℕ)) (summary : Summary) (f : Node → Node) (id : ℕ) → KeepsPaths f → new ≡ with_change f old id
    → IsSummary old stacks summary → IsSummary new stacks summary
summary_changed old new stacks summary f id k is before =
    summary_on old new stacks summary
    (λ j layer there isnt. ap (λ b. has_bit b layer) (ap (λ spans. bits_in spans j) is ∙ bits-changed f k old id j) ∙ isnt) before

-- an entry, where it is a worker's first
pub summary_entered : (old new : Spans) (stacks after : List (List ℕ)) (summary : Summary) (first : Bool) (w id : ℕ) → new ≡ cond first (with_holder old id Entry) old
    → w < length stacks → after ≡ set stacks w (get_or stacks w [] ++ id ∷ []) → IsSummary old stacks summary → IsSummary new after summary
summary_entered old new stacks after summary first w id is within pushed before =
    let kept : IsSummary new stacks summary =
    elim (cases_Bool first) [
      | inl t ↦ summary_changed old new stacks summary (with_more Entry) id (one_more Entry) (is ∙ ap (λ b. cond b (with_holder old id Entry) old) t) before
      | inr t ↦ subst (λ (spans : Spans). IsSummary spans stacks summary) (sym (is ∙ ap (λ b. cond b (with_holder old id Entry) old) t)) before
    ] in
    subst (λ (all : List (List ℕ)). IsSummary new all summary) (sym pushed)
    (elim (eqb_tells summary.worker w) [
      | inl t ↦ summary_set new stacks w _ summary within t.1
          (summarises_more new (get_or stacks w []) (id ∷ []) summary.blocks.items
          (subst (λ (v : ℕ). Summarises new (get_or stacks v []) summary.blocks.items) t.1 kept.blocks))
      | inr t ↦ summary_other new stacks w _ summary t.1 kept
    ])

-- a holder less, and the spans that it leaves
pub summary_released : (old new : Spans) (stacks : List (List ℕ)) (summary : Summary) (id : ℕ) (holder : Holder) → new ≡ spans_left old id holder
    → IsSummary old stacks summary → IsSummary new stacks summary
summary_released old new stacks summary id holder is before =
    summary_on old new stacks summary (λ j layer there isnt. fewer j layer isnt (cases_Bool (is_some (find new j)))) before
  where
    fewer : (j layer : ℕ) → has_bit (bits_in old j) layer ≡ false → (is_some (find new j) ≡ true) ⊎ (is_some (find new j) ≡ false) → has_bit (bits_in new j) layer ≡ false
    fewer j layer isnt (inl there) =
        ap (λ b. has_bit b layer)
        (ap (λ o. option_map_or (λ node. node.bits) o 0) (find-left old new id holder j is there)
        ∙ bits-changed (with_less holder) (one_less holder) old id j) ∙ isnt
    fewer j layer isnt (inr closed) = has_bit-none _ layer (gone (find new j) closed)
      where
        gone : (o : Option Node) → is_some o ≡ false → option_map_or (λ node. node.bits) o 0 ≡ 0
        gone None h = refl
        gone (Some node) h = cc

-- an exit, once the summary is cut
pub summary_exited : (old new : Spans) (stacks after : List (List ℕ)) (summary : Summary) (stays : Bool) (id : ℕ) → new ≡ cond stays old (spans_left old id Entry)
    → after ≡ stacks → IsSummary old stacks summary → IsSummary new after summary
summary_exited old new stacks after summary stays id is left before =
    subst (λ (all : List (List ℕ)). IsSummary new all summary) (sym left)
    (elim (cases_Bool stays) [
      | inl t ↦ subst (λ (spans : Spans). IsSummary spans stacks summary) (sym (is ∙ ap (λ b. cond b old (spans_left old id Entry)) t)) before
      | inr t ↦ summary_released old new stacks summary id Entry (is ∙ ap (λ b. cond b old (spans_left old id Entry)) t) before
    ])

-- a span more, which stood in no stack
pub summary_new : (old new : Spans) (stacks : List (List ℕ)) (summary : Summary) (id : ℕ) (node : Node) → new ≡ with_entry old id node → find old id ≡ None
    → IsWorld (record { spans = old; stacks = stacks }) → IsSummary old stacks summary → IsSummary new stacks summary
summary_new old new stacks summary id node is gone whole before =
    summary_on old new stacks summary
    (λ j layer there isnt. ap (λ b. has_bit b layer)
    (ap (λ o. option_map_or (λ (n : Node). n.bits) o 0) (ap (λ spans. find spans j) is ∙ find-with_other old id j node (other j there))) ∙ isnt) before
  where
    outside : has (get_or stacks summary.worker []) id ≡ false
    outside =
        elim (cases_lt summary.worker (length stacks)) [
          | inl inside ↦ none_inside old stacks summary.worker id whole inside (ap (held_in Entry) gone)
          | inr past ↦ ap (λ ids. has ids id) (get_or_past stacks summary.worker [] past)
        ]

    other : (j : ℕ) → has (get_or stacks summary.worker []) j ≡ true → j ≢ id
    other j there same = false≢true (sym outside ∙ ap (has (get_or stacks summary.worker [])) (sym same) ∙ there)
