-- What is true after each step of a legal history.
use Rattle.std.proofs.Common.{◌≡◌, ◌≢◌, ℕ, zero, suc, ◌<◌, ◌==◌, Bool, true, false, ◌||◌, List, [], ◌∷◌, ◌++◌, length, replicate, get_or, set, Option, Some, None, refl, sym, ap, subst, ◌∙◌, inl, inr, arith}
use Rattle.std.specs.Prelude.{◌⊎◌, ◌↔◌, IsSome, is_some, AllPairs}
use Rattle.std.specs.Option.{option_map}
use Rattle.std.proofs.lemmas.Bool.{cases_Bool, cases_lt, eqb-true, eq-eqb, false≢true}
use Rattle.std.proofs.lemmas.Bool.Decides.{eqb_tells}
use Rattle.std.proofs.lemmas.List.{get_or-set_same, get_or-set_other, get_or_past, get_or-replicate, length-set, length-replicate}
use Rattle.std.proofs.lemmas.List.Folds.{list_any-append}
use Rattle.std.proofs.lemmas.List.Quantifiers.{all_pairs_push}
use Rattle.std.proofs.lemmas.List.Concat.{flat_map-append}
use Rattle.span_id.specs.Ids.{has}
use Rattle.span_layers.specs.Filter.{Filter, admission_set}
use Rattle.span_forest.specs.declared.span.Holder.{Holder}
use Rattle.span_forest.specs.declared.span.Holder.TheVariants.{Handle, Entry}
use Rattle.span_forest.specs.Node.{Node}
use Rattle.span_forest.specs.Spans.{Spans, find, IsOpen, with_entry, with_change}
use Rattle.span_forest.specs.Count.{holders}
use Rattle.span_forest.specs.Live.{is_live}
use Rattle.span_forest.specs.Holders.{with_less}
use Rattle.span_forest.specs.Release.{without_holder, closing_list, spans_left}
use Rattle.span_forest.proofs.Nodes.{find-changed_same, find-changed_other, IsOpen-changed, changed_open}
use Rattle.span_slots.proofs.Entries.{find-with_same, find-with_other}
use Rattle.span_forest.proofs.Adds.{open_back}
use Rattle.span_forest.proofs.Spared.{kept_passes, passing_kept, not_some, none_open, gone_exactly, others_stay}
use Rattle.span_forest.proofs.Upheld.{IsUpheld, upheld_empty, upheld_with, upheld_changed, upheld_released, listed_known}
use Rattle.span_stack.specs.Stack.{without_last}
use Rattle.span_core.specs.World.{World, empty_world, stack_of}
use Rattle.span_outlet.specs.Request.{Request, new_span, clone_span, enter, exit, try_close, record_fields, event, Answer, made, cloned, entered, exited, released, recorded, told}
use Rattle.span_outlet.specs.Batch.{PlainBatch}
use Rattle.span_core.specs.Step.{Changes}
use Rattle.span_core.specs.History.{issued, id_issued, IsLegal}
use Rattle.span_core.specs.History.IsLegal.{none, more}
use Rattle.span_core.specs.ClosedSpans.{closed_by, closed_in}
use Rattle.span_core.proofs.Deciding.{held_from}
use Rattle.span_core.proofs.Steps.{answered}
use Rattle.span_core.proofs.Worlds.{has-push, has-without_last}
use Rattle.span_core.proofs.Effects.{IsMild, effect, open_held}
use Rattle.span_core.proofs.Effects.Effect.{stays, changes, makes, frees}

-- the spans that are open after these ids were issued and these closed
pub record IsSettled (rules : List Filter) (ids closed : List ℕ) (spans : Spans) : Type 0 where
  pub upheld : IsUpheld spans
  pub open_issued : (id : ℕ) → IsOpen spans id → has ids id ≡ true
  pub closed_issued : (id : ℕ) → has closed id ≡ true → has ids id ≡ true
  pub closed_gone : (id : ℕ) → has closed id ≡ true → find spans id ≡ None
  pub rest_open : (id : ℕ) → has ids id ≡ true → has closed id ≡ false → IsOpen spans id
  pub once : AllPairs (λ first later. first ≢ later) ids
  pub bits : (id : ℕ) (node : Node) → find spans id ≡ Some node → node.bits ≡ admission_set rules node.target node.level

pub AllPairs-nil : (R : ℕ → ℕ → Type 0) → AllPairs R []
AllPairs-nil R i j d h k = absurd (omega arith)

settled_empty : (rules : List Filter) → IsSettled rules [] [] []
settled_empty rules = record {
  upheld = upheld_empty;
  open_issued = λ id o. absurd (none_open None refl o);
  closed_issued = λ id h. absurd (false≢true h);
  closed_gone = λ id h. refl;
  rest_open = λ id h k. absurd (false≢true h);
  once = AllPairs-nil (λ first later. first ≢ later);
  bits = λ id node h. cc;
}

append_nil : (xs : List ℕ) → xs ++ [] ≡ xs
append_nil [] = refl
append_nil (x ∷ xs) = ap (λ ys. x ∷ ys) (append_nil xs)

mapped : (f : Node → Node) (o : Option Node) (node : Node) → option_map f o ≡ Some node → (before : Node) × (o ≡ Some before) × (f before ≡ node)
mapped f None node h = cc
mapped f (Some before) node h = (before, refl, (let same : f before ≡ node = cc in same))

-- what is known of each span's set stays known, where the set and what decides it stay
bits-changed : (rules : List Filter) (f : Node → Node) → ((node : Node) → (f node).bits ≡ node.bits) → ((node : Node) → (f node).target ≡ node.target) → ((node : Node) → (f node).level ≡ node.level) → (spans : Spans) (id : ℕ)
    → ((j : ℕ) (node : Node) → find spans j ≡ Some node → node.bits ≡ admission_set rules node.target node.level)
    → (j : ℕ) (node : Node) → find (with_change f spans id) j ≡ Some node → node.bits ≡ admission_set rules node.target node.level
bits-changed rules f same_bits same_target same_level spans id before j node h =
    elim (eqb_tells j id) [
      | inl t ↦ (let h2 : find (with_change f spans id) id ≡ Some node = rw t.1 at h in
          let old = mapped f (find spans id) node (sym (find-changed_same f spans id) ∙ h2) in
          rw (← old.2) (same_bits old.0 ∙ before id old.0 old.1 ∙ (λ k. admission_set rules (sym (same_target old.0) k) (sym (same_level old.0) k))))
      | inr t ↦ before j node (sym (find-changed_other f spans id j t.1) ∙ h)
    ]

with_less-bits : (holder : Holder) (node : Node) → (with_less holder node).bits ≡ node.bits
with_less-bits Handle node = refl
with_less-bits Entry node = refl

with_less-target : (holder : Holder) (node : Node) → (with_less holder node).target ≡ node.target
with_less-target Handle node = refl
with_less-target Entry node = refl

with_less-level : (holder : Holder) (node : Node) → (with_less holder node).level ≡ node.level
with_less-level Handle node = refl
with_less-level Entry node = refl

open_of : (spans : Spans) (id : ℕ) (node : Node) → find spans id ≡ Some node → IsOpen spans id
open_of spans id node h = ap is_some h

settled_changed : (rules : List Filter) (ids closed : List ℕ) (spans : Spans) (f : Node → Node) (id : ℕ) → IsMild f → IsSettled rules ids closed spans → IsSettled rules ids closed (with_change f spans id)
settled_changed rules ids closed spans f id mild w = record {
  upheld = upheld_changed f mild.parent mild.holders spans id w.upheld;
  open_issued = λ j o. w.open_issued j (IsOpen-changed f spans id j o);
  closed_issued = w.closed_issued;
  closed_gone = λ j h. not_some (find (with_change f spans id) j) (λ o. none_open (find spans j) (w.closed_gone j h) (IsOpen-changed f spans id j o));
  rest_open = λ j h k. changed_open f spans id j (w.rest_open j h k);
  once = w.once;
  bits = bits-changed rules f mild.bits mild.target mild.level spans id w.bits;
}

either : (a b : Bool) (P : Type 0) → (a || b) ≡ true → (a ≡ true → P) → (b ≡ true → P) → P
either true b P h left right = left refl
either false b P h left right = right h

neither : (a b : Bool) → (a || b) ≡ false → (a ≡ false) × (b ≡ false)
neither true b h = cc
neither false b h = (refl, h)

or_left : (a b : Bool) → a ≡ true → (a || b) ≡ true
or_left a b h = rw h refl

or_right : (a b : Bool) → b ≡ true → (a || b) ≡ true
or_right true b h = refl
or_right false b h = h

-- an id of the longer list stands in one of its parts
stands-append : (id : ℕ) (xs ys : List ℕ) → has (xs ++ ys) id ≡ (has xs id || has ys id)
stands-append id xs ys = list_any-append (λ x. x == id) xs ys

pub stands_before : (id : ℕ) (xs ys : List ℕ) → has xs id ≡ true → has (xs ++ ys) id ≡ true
stands_before id xs ys h = stands-append id xs ys ∙ or_left (has xs id) (has ys id) h

pub stands_after : (id : ℕ) (xs ys : List ℕ) → has ys id ≡ true → has (xs ++ ys) id ≡ true
stands_after id xs ys h = stands-append id xs ys ∙ or_right (has xs id) (has ys id) h

pub stands_either : (id : ℕ) (xs ys : List ℕ) (P : Type 0) → has (xs ++ ys) id ≡ true → (has xs id ≡ true → P) → (has ys id ≡ true → P) → P
stands_either id xs ys P h left right = either (has xs id) (has ys id) P (sym (stands-append id xs ys) ∙ h) left right

pub stands_single : (id x : ℕ) → has (x ∷ []) id ≡ true → x ≡ id
stands_single id x h = elim (eqb_tells x id) [ inl t ↦ t.1 | inr t ↦ absurd (let h2 = rw t.0 at h in false≢true h2) ]

pub stands_itself : (id : ℕ) → has (id ∷ []) id ≡ true
stands_itself id = elim (eqb_tells id id) [ inl t ↦ rw t.0 refl | inr t ↦ absurd (t.1 refl) ]

stands_at : (xs : List ℕ) (k d : ℕ) → k < length xs → has xs (get_or xs k d) ≡ true
stands_at [] k d h = absurd (omega arith)
stands_at (x ∷ xs) zero d h = or_left (x == x) (has xs x) (eq-eqb x x refl)
stands_at (x ∷ xs) (suc k) d h = or_right (x == get_or xs k d) (has xs (get_or xs k d)) (stands_at xs k d (omega arith))

settled_made : (rules : List Filter) (ids closed : List ℕ) (spans : Spans) (id : ℕ) (node : Node) → has ids id ≡ false → ((p : ℕ) → node.parent ≡ Some p → IsOpen spans p) → 0 < holders node → node.bits ≡ admission_set rules node.target node.level
    → IsSettled rules ids closed spans → IsSettled rules (ids ++ id ∷ []) closed (with_entry spans id node)
settled_made rules ids closed spans id node fresh parent held bits w =
    let absent : find spans id ≡ None = not_some (find spans id) (λ o. false≢true (sym fresh ∙ w.open_issued id o)) in
    let apart : (j : ℕ) → has ids j ≡ true → j ≢ id = λ j there e. false≢true (sym fresh ∙ (ap (λ k. has ids k) (sym e) ∙ there)) in
    let new_open : IsOpen (with_entry spans id node) id = open_of (with_entry spans id node) id node (find-with_same spans id node absent) in
    let still : (j : ℕ) → j ≢ id → IsOpen spans j → IsOpen (with_entry spans id node) j = λ j ne o. subst IsSome (sym (find-with_other spans id j node ne)) o in
    record {
      upheld = upheld_with spans id node w.upheld absent parent held;
      open_issued = λ j o. elim (eqb_tells j id) [
        | inl t ↦ rw t.1 (stands_after id ids (id ∷ []) (stands_itself id))
        | inr t ↦ stands_before j ids (id ∷ []) (w.open_issued j (open_back spans id j node t.1 o))
      ];
      closed_issued = λ j h. stands_before j ids (id ∷ []) (w.closed_issued j h);
      closed_gone = λ j h. find-with_other spans id j node (apart j (w.closed_issued j h)) ∙ w.closed_gone j h;
      rest_open = λ j h k. stands_either j ids (id ∷ []) (IsOpen (with_entry spans id node) j) h
          (λ before. still j (apart j before) (w.rest_open j before k))
          (λ new. subst (λ i. IsOpen (with_entry spans id node) i) (stands_single j id new) new_open);
      once = all_pairs_push (λ first later. first ≢ later) ids id w.once (λ k d low. apart (get_or ids k d) (stands_at ids k d low));
      bits = λ j other h. elim (eqb_tells j id) [
        | inl t ↦ (let same : Some node ≡ Some other = sym (find-with_same spans id node absent) ∙ (rw t.1 at h) in let here : node ≡ other = cc in rw (← here) bits)
        | inr t ↦ w.bits j other (sym (find-with_other spans id j node t.1) ∙ h)
      ];
    }

settled_freed : (rules : List Filter) (ids closed : List ℕ) (spans : Spans) (id : ℕ) (holder : Holder) → has ids id ≡ true
    → IsSettled rules ids closed spans → IsSettled rules ids (closed ++ closing_list spans id holder) (spans_left spans id holder)
settled_freed rules ids closed spans id holder known w =
    let m = without_holder spans id holder in
    let live : (j : ℕ) → IsOpen (spans_left spans id holder) j → is_live m j ≡ true = λ j o. kept_passes (is_live m) m j o in
    let back : (j : ℕ) → IsOpen (spans_left spans id holder) j → IsOpen spans j = λ j o. IsOpen-changed (with_less holder) spans id j (subst IsSome (passing_kept (is_live m) m j (live j o)) o) in
    record {
      upheld = upheld_released spans id holder w.upheld.forest;
      open_issued = λ j o. w.open_issued j (back j o);
      closed_issued = λ j h. stands_either j closed (closing_list spans id holder) (has ids j ≡ true) h
          (λ before. w.closed_issued j before)
          (λ now. elim (listed_known spans id holder w.upheld.forest j now) [ inl e ↦ rw (← e) known | inr o ↦ w.open_issued j o ]);
      closed_gone = λ j h. stands_either j closed (closing_list spans id holder) (find (spans_left spans id holder) j ≡ None) h
          (λ before. not_some (find (spans_left spans id holder) j) (λ o. none_open (find spans j) (w.closed_gone j before) (back j o)))
          (λ now. not_some (find (spans_left spans id holder) j) (λ o. none_open (find (spans_left spans id holder) j) ((gone_exactly spans w.upheld.forest w.upheld.positive id holder j (back j o)).0 now) o));
      rest_open = λ j h k.
          (let both = neither (has closed j) (has (closing_list spans id holder) j) (sym (stands-append j closed (closing_list spans id holder)) ∙ k) in
          subst IsSome (sym (others_stay spans w.upheld.forest w.upheld.positive id holder j (λ t. false≢true (sym both.1 ∙ t)))) (changed_open (with_less holder) spans id j (w.rest_open j h both.0)));
      once = w.once;
      bits = λ j node h.
          bits-changed rules (with_less holder) (with_less-bits holder) (with_less-target holder) (with_less-level holder) spans id w.bits j node
          (sym (passing_kept (is_live m) m j (live j (open_of (spans_left spans id holder) j node h))) ∙ h);
    }

-- ---- the stacks: an id that stands in one was open when it was entered

stack_set : (stacks : List (List ℕ)) (worker w j : ℕ) (stack : List ℕ) → has (get_or (set stacks worker stack) w []) j ≡ true → (has (get_or stacks w []) j ≡ true) ⊎ ((w ≡ worker) × (has stack j ≡ true))
stack_set stacks worker w j stack h =
    elim (eqb_tells w worker) [
      | inl t ↦ elim (cases_lt worker (length stacks)) [
        | inl low ↦ inr (t.1, ap (λ s. has s j) (sym (get_or-set_same stacks worker stack [] low) ∙ ap (λ k. get_or (set stacks worker stack) k []) (sym t.1)) ∙ h)
        | inr past ↦ (let none : get_or (set stacks worker stack) w [] ≡ [] = get_or_past (set stacks worker stack) w [] (let n = length-set stacks worker stack in let e = t.1 in omega (arith, n, e, past)) in
            absurd (false≢true (ap (λ s. has s j) (sym none) ∙ h)))
      ]
      | inr t ↦ inl (ap (λ s. has s j) (sym (get_or-set_other stacks worker w stack [] t.1)) ∙ h)
    ]

stack_step : (rules : List Filter) (ids : List ℕ) (old : World) (request : Request) (answer : Answer) (new : World) → Changes rules ids old request answer new
    → (w j : ℕ) → has (stack_of new w) j ≡ true → (has (stack_of old w) j ≡ true) ⊎ IsOpen old.spans j
stack_step rules ids old (new_span worker meta fields parent) (made id) new h w j there = inl (ap (λ (v : World). has (stack_of v w) j) (sym h.after) ∙ there)
stack_step rules ids old (clone_span worker id) cloned new h w j there = inl (ap (λ (v : World). has (stack_of v w) j) (sym h.after) ∙ there)
stack_step rules ids old (enter worker id) (entered first) new h w j there =
    elim (stack_set old.stacks worker w j (stack_of old worker ++ id ∷ []) (ap (λ (v : World). has (stack_of v w) j) (sym h.after) ∙ there)) [
      | inl before ↦ inl before
      | inr pushed ↦ either (has (stack_of old worker) j) (id == j) ((has (stack_of old w) j ≡ true) ⊎ IsOpen old.spans j) (sym (has-push (stack_of old worker) id j) ∙ pushed.1)
          (λ before. inl (ap (λ k. has (stack_of old k) j) pushed.0 ∙ before))
          (λ same. inr (subst (λ k. IsOpen old.spans k) (eqb-true id j same) (open_held old.spans id Handle (held_from old.spans id h.known))))
    ]
stack_step rules ids old (exit worker id) (exited closed) new h w j there =
    elim (stack_set old.stacks worker w j (without_last (stack_of old worker) id) (ap (λ (v : World). has (stack_of v w) j) (sym h.after) ∙ there)) [
      | inl before ↦ inl before
      | inr popped ↦ inl (ap (λ k. has (stack_of old k) j) popped.0 ∙ elim (cases_Bool (id == j)) [
        | inl same ↦ ap (λ k. has (stack_of old worker) k) (sym (eqb-true id j same)) ∙ h.inside
        | inr other ↦ sym (has-without_last (stack_of old worker) id j other) ∙ popped.1
      ])
    ]
stack_step rules ids old (try_close worker id) (released closed) new h w j there = inl (ap (λ (v : World). has (stack_of v w) j) (sym h.after) ∙ there)
stack_step rules ids old (record_fields worker id fields) recorded new h w j there = inl (ap (λ (v : World). has (stack_of v w) j) (sym h.after) ∙ there)
stack_step rules ids old (event worker meta message fields parent) told new h w j there = inl (ap (λ (v : World). has (stack_of v w) j) (sym h.after) ∙ there)
stack_step rules ids old _ _ new h w j there = absurd (false≢true (answered h))

-- ---- a history

-- what is true of the world that a legal history leaves
pub record IsWhole (rules : List Filter) (history : List PlainBatch) (world : World) : Type 0 where
  pub settled : IsSettled rules (issued history) (closed_in history) world.spans
  pub entered_issued : (worker id : ℕ) → has (stack_of world worker) id ≡ true → has (issued history) id ≡ true

settled_same : (rules : List Filter) (ids more_ids closed more_closed : List ℕ) (spans new_spans : Spans) → more_ids ≡ ids → more_closed ≡ closed → new_spans ≡ spans → IsSettled rules ids closed spans → IsSettled rules more_ids more_closed new_spans
settled_same rules ids more_ids closed more_closed spans new_spans a b c w = rw (a, b, c) w

pub settled_step : (rules : List Filter) (ids closed : List ℕ) (old : World) (request : Request) (answer : Answer) (new : World) → Changes rules ids old request answer new → IsSettled rules ids closed old.spans
    → ((worker id : ℕ) → has (stack_of old worker) id ≡ true → has ids id ≡ true)
    → IsSettled rules (ids ++ id_issued answer) (closed ++ closed_by answer) new.spans
settled_step rules ids closed old request answer new change w inside =
    elim (effect rules ids old request answer new change) [
      | stays same quiet ↦ settled_same rules ids _ closed _ old.spans _ (rw quiet.issued (append_nil ids)) (rw quiet.closed (append_nil closed)) same w
      | changes f id mild other same quiet ↦ settled_same rules ids _ closed _ (with_change f old.spans id) _ (rw quiet.issued (append_nil ids)) (rw quiet.closed (append_nil closed)) same (settled_changed rules ids closed old.spans f id mild w)
      | makes m ↦ settled_same rules (ids ++ m.id ∷ []) _ closed _ (with_entry old.spans m.id m.node) _ (rw m.issued refl) (rw m.closed (append_nil closed)) m.spans (settled_made rules ids closed old.spans m.id m.node m.fresh m.parent m.held m.bits w)
      | frees m ↦ (let known : has ids m.id ≡ true = elim m.known [ inl o ↦ w.open_issued m.id o | inr k ↦ inside k.0 m.id k.1 ] in
          settled_same rules ids _ (closed ++ closing_list old.spans m.id m.holder) _ (spans_left old.spans m.id m.holder) _ (rw m.issued (append_nil ids)) (rw m.closed refl) m.spans (settled_freed rules ids closed old.spans m.id m.holder known w))
    ]

pub issued_more : (history : List PlainBatch) (batch : PlainBatch) → issued (history ++ batch ∷ []) ≡ issued history ++ id_issued batch.answer
issued_more history batch =
    flat_map-append (λ (b : PlainBatch). id_issued b.answer) history (batch ∷ []) ∙ ap (λ ids. issued history ++ ids) (append_nil (id_issued batch.answer))

pub closed_more : (history : List PlainBatch) (batch : PlainBatch) → closed_in (history ++ batch ∷ []) ≡ closed_in history ++ closed_by batch.answer
closed_more history batch =
    flat_map-append (λ (b : PlainBatch). closed_by b.answer) history (batch ∷ []) ∙ ap (λ ids. closed_in history ++ ids) (append_nil (closed_by batch.answer))

nobody_inside : (workers worker id : ℕ) → has (stack_of (empty_world workers) worker) id ≡ true → ⊥
nobody_inside workers worker id h =
    elim (cases_lt worker workers) [
      | inl t ↦ false≢true (ap (λ stack. has stack id) (sym (get_or-replicate workers worker [] [] t)) ∙ h)
      | inr t ↦ false≢true (ap (λ stack. has stack id) (sym (get_or_past (replicate workers []) worker [] (let n = length-replicate {A = List ℕ} workers [] in omega (arith, n, t)))) ∙ h)
    ]

pub whole : (rules : List Filter) (workers : ℕ) (history : List PlainBatch) (world : World) → IsLegal rules workers history world → IsWhole rules history world
whole rules workers [] world none = record {
  settled = settled_empty rules;
  entered_issued = λ worker id h. absurd (nobody_inside workers worker id h);
}
whole rules workers history new (more {before} {old} batch legal step sent) =
    let w = whole rules workers before old legal in
    let ids : issued history ≡ issued before ++ id_issued batch.answer = ap issued sent ∙ issued_more before batch in
    record {
      settled = settled_same rules (issued before ++ id_issued batch.answer) _ (closed_in before ++ closed_by batch.answer) _ new.spans _ ids (ap closed_in sent ∙ closed_more before batch) refl
          (settled_step rules (issued before) (closed_in before) old batch.request batch.answer new step.changes w.settled w.entered_issued);
      entered_issued = λ worker id h.
          ap (λ ids. has ids id) ids
          ∙ stands_before id (issued before) (id_issued batch.answer)
          (elim (stack_step rules (issued before) old batch.request batch.answer new step.changes worker id h) [
            | inl there ↦ w.entered_issued worker id there
            | inr o ↦ w.settled.open_issued id o
          ]);
    }

-- the open spans are those that were issued and didn't close
pub open_exactly : (rules : List Filter) (ids closed : List ℕ) (spans : Spans) → IsSettled rules ids closed spans → (id : ℕ)
    → IsOpen spans id ↔ ((has ids id ≡ true) × (has closed id ≡ true → ⊥))
open_exactly rules ids closed spans w id = (
  λ o. (w.open_issued id o, λ gone. none_open (find spans id) (w.closed_gone id gone) o),
  λ both. elim (cases_Bool (has closed id)) [ inl t ↦ absurd (both.1 t) | inr t ↦ w.rest_open id both.0 t ],
)
