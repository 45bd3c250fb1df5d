-- A new span: its path and its notes, as they can be said before it is there.
use Rattle.std.proofs.Common.{◌≡◌, ◌≢◌, ℕ, zero, suc, ◌<◌, Bool, true, false, cond, ◌&&◌, List, [], ◌∷◌, ◌++◌, length, map, filter, reverse, Option, Some, None, refl, sym, ap, ◌∙◌, subst, inl, inr}
use Rattle.std.specs.Prelude.{is_some, IfSome, slice_index, nat_lt}
use Rattle.std.specs.Option.{option_map_or}
use Rattle.std.specs.List.{range_with_len}
use Rattle.std.proofs.lemmas.Bool.{cases_Bool, false≢true}
use Rattle.std.proofs.lemmas.Bool.Decides.{eqb_tells}
use Rattle.std.proofs.lemmas.List.{reverse-append}
use Rattle.span_id.specs.Bits.{has_bit}
use Rattle.span_id.specs.Id.{slot_of, generation_of, IsId}
use Rattle.span_id.specs.declared.limits.Limits.{Limits}
use Rattle.span_slots.specs.Table.{IsIssued}
use Rattle.span_layers.specs.declared.note.Kind.TheVariants.{OnNew}
use Rattle.span_id.specs.Meta.{KeyValue, PlainMeta}
use Rattle.span_id.specs.Ids.{has}
use Rattle.span_layers.specs.Note.{PlainNote}
use Rattle.span_layers.specs.Filter.{Filter, layer_wants, admission_set}
use Rattle.span_forest.specs.Node.{Node, new_node}
use Rattle.span_forest.specs.Spans.{Spans, find, IsOpen, with_entry, parent_in, parent_of}
use Rattle.span_forest.specs.declared.span.Holder.TheVariants.{Entry}
use Rattle.span_forest.specs.Holders.{held_in}
use Rattle.span_forest.specs.Forest.{ForestView, table_of, next_span_id}
use Rattle.span_forest.specs.Walk.{walk_within}
use Rattle.span_forest.specs.Path.{path, path_text, names_for, name_for}
use Rattle.span_slots.proofs.Entries.{find-with_same, find-with_other}
use Rattle.span_core.specs.World.{IsWorld}
use Rattle.span_outlet.specs.Request.{new_span, made}
use Rattle.span_outlet.specs.Batch.{PlainBatch}
use Rattle.span_core.specs.Step.{is_open_parent, IsStep, is_wanted_meta}
use Rattle.span_core.specs.History.{issued}
use Rattle.span_core.specs.NextId.{next_id_after}
use Rattle.span_core.specs.Happening.{at_span, is_told, note_of, notes_of, notes_of_all, path_at}
use Rattle.span_core.specs.inside.Sound.{first_note, hears, IsSound}
use Rattle.span_core.proofs.Telling.{one_happening}

abbrev pub ParentsOpen : Spans → Type 0
ParentsOpen spans = (id parent : ℕ) → parent_of spans id ≡ Some parent → IsOpen spans parent

pub length-with_entry : (spans : Spans) (id : ℕ) (node : Node) → length (with_entry spans id node) ≡ suc (length spans)
length-with_entry [] id node = refl
length-with_entry (e ∷ es) id node =
    elim (cases_Bool (nat_lt (slot_of id) (slot_of e.0))) [ inl t ↦ rw t refl | inr t ↦ rw t (ap suc (length-with_entry es id node)) ]

apart : (spans : Spans) (id j : ℕ) → find spans id ≡ None → IsOpen spans j → j ≢ id
apart spans id j gone there same = absurd (false≢true (sym (ap is_some gone) ∙ subst (λ k. IsOpen spans k) same there))

pub parent_is_open : (spans : Spans) (j : ℕ) → ParentsOpen spans → is_open_parent spans (parent_of spans j) ≡ true
parent_is_open spans j whole = by_case (parent_of spans j) refl
  where
    by_case : (o : Option ℕ) → parent_of spans j ≡ o → is_open_parent spans o ≡ true
    by_case None is = refl
    by_case (Some p) is = whole j p is

-- what stands above a span that was there before is as before
names_before : (n : ℕ) (spans : Spans) (id : ℕ) (node : Node) (layer : ℕ) → find spans id ≡ None → ParentsOpen spans → (o : Option ℕ) → is_open_parent spans o ≡ true
    → names_for layer (with_entry spans id node) (walk_within n (with_entry spans id node) o) ≡ names_for layer spans (walk_within n spans o)
names_before n spans id node layer gone whole None there = refl
names_before zero spans id node layer gone whole (Some j) there = refl
names_before (suc n) spans id node layer gone whole (Some j) there =
    let same : find (with_entry spans id node) j ≡ find spans j = find-with_other spans id j node (apart spans id j gone there) in
    ap (λ o. name_for layer o ++ names_for layer (with_entry spans id node) (walk_within n (with_entry spans id node) (parent_in o))) same
    ∙ ap (λ ns. name_for layer (find spans j) ++ ns) (names_before n spans id node layer gone whole (parent_of spans j) (parent_is_open spans j whole))

pub path_is : (spans : Spans) (layer : ℕ) (o : Option ℕ) → reverse (names_for layer spans (walk_within (length spans) spans o)) ≡ path_at layer spans o
path_is spans layer None = refl
path_is spans layer (Some p) = refl

-- the path of a new span is that of its parent, and its own name
pub new_path : (spans : Spans) (id : ℕ) (node : Node) (layer : ℕ) → find spans id ≡ None → ParentsOpen spans → is_open_parent spans node.parent ≡ true → has_bit node.bits layer ≡ true
    → path layer (with_entry spans id node) id ≡ path_at layer spans node.parent ++ node.name ∷ []
new_path spans id node layer gone whole there admitted =
    let here : find (with_entry spans id node) id ≡ Some node = find-with_same spans id node gone in
    let new = with_entry spans id node in
    ap (λ n. reverse (names_for layer new (walk_within n new (Some id)))) (length-with_entry spans id node)
    ∙ ap (λ o. reverse (name_for layer o ++ names_for layer new (walk_within (length spans) new (parent_in o)))) here
    ∙ ap (λ b. reverse (cond b (node.name ∷ []) [] ++ names_for layer new (walk_within (length spans) new node.parent))) admitted
    ∙ ap (λ ns. reverse (node.name ∷ ns)) (names_before (length spans) spans id node layer gone whole node.parent there)
    ∙ reverse_first node.name (names_for layer spans (walk_within (length spans) spans node.parent))
    ∙ ap (λ p. p ++ node.name ∷ []) (path_is spans layer node.parent)
  where
    reverse_first : (x : List ℕ) (xs : List (List ℕ)) → reverse (x ∷ xs) ≡ reverse xs ++ x ∷ []
    reverse_first x xs = reverse-append (x ∷ []) xs

map-filter-same : {X : Type 0} (f g : ℕ → X) (p q : ℕ → Bool) → ((k : ℕ) → p k ≡ q k) → ((k : ℕ) → p k ≡ true → f k ≡ g k) → (ks : List ℕ) → map f (filter p ks) ≡ map g (filter q ks)
map-filter-same f g p q tests same [] = refl
map-filter-same f g p q tests same (k ∷ ks) =
    let rest = map-filter-same f g p q tests same ks in
    elim (cases_Bool (p k)) [
      | inl t ↦ (let u : q k ≡ true = sym (tests k) ∙ t in let e : f k ≡ g k = same k t in rw (t, u) (λ j. e j ∷ rest j))
      | inr t ↦ (let u : q k ≡ false = sym (tests k) ∙ t in rw (t, u) rest)
    ]

pub and_first : (a b : Bool) → (a && b) ≡ true → a ≡ true
and_first true b h = refl
and_first false b h = h

-- the notes of a new span
pub new_notes : (rules : List Filter) (worker id : ℕ) (spans new_spans : Spans) (node : Node) (fields : List KeyValue) (notes : List PlainNote)
    → find spans id ≡ None → ParentsOpen spans → is_open_parent spans node.parent ≡ true → new_spans ≡ with_entry spans id node
    → notes ≡ map (first_note spans worker id node.parent node.name fields) (filter (hears rules node.bits OnNew) (range_with_len 0 (length rules)))
    → notes ≡ notes_of_all rules worker (at_span new_spans OnNew id fields ∷ [])
new_notes rules worker id spans new_spans node fields notes gone whole there are told =
    one_happening rules worker (at_span new_spans OnNew id fields) [] notes refl
    (told ∙ all ∙ ap (λ s. notes_of rules worker (at_span s OnNew id fields)) (sym are))
  where
    here : find (with_entry spans id node) id ≡ Some node
    here = find-with_same spans id node gone

    bits_are : option_map_or (λ (n : Node). n.bits) (find (with_entry spans id node) id) 0 ≡ node.bits
    bits_are = ap (λ (o : Option Node). option_map_or (λ n. n.bits) o 0) here

    all : map (first_note spans worker id node.parent node.name fields) (filter (hears rules node.bits OnNew) (range_with_len 0 (length rules))) ≡ notes_of rules worker (at_span (with_entry spans id node) OnNew id fields)
    all =
        map-filter-same (first_note spans worker id node.parent node.name fields) (note_of worker (at_span (with_entry spans id node) OnNew id fields)) (hears rules node.bits OnNew) (is_told rules (at_span (with_entry spans id node) OnNew id fields))
        (λ k. ap (λ b. has_bit b k && layer_wants rules k OnNew) (sym bits_are))
        (λ k told_k. let admitted = and_first (has_bit node.bits k) (layer_wants rules k OnNew) told_k in
        let p = ap path_text (sym (new_path spans id node k gone whole there admitted)) in
        λ j. record { layer = k; kind = OnNew; worker = worker; id = id; path = p j; fields = fields; event = None })
        (range_with_len 0 (length rules))

-- an id of a slot that is free isn't open
pub not_open : (spans : Spans) (id : ℕ) (Issued : Type 0) → (IsOpen spans id → Issued) → (Issued → ⊥) → find spans id ≡ None
not_open spans id Issued issued never = by_case (find spans id) refl
  where
    by_case : (o : Option Node) → find spans id ≡ o → o ≡ None
    by_case None is = refl
    by_case (Some node) is = absurd (never (issued (ap is_some is)))

pub world_new : (spans : Spans) (id : ℕ) (node : Node) (stacks : List (List ℕ)) → find spans id ≡ None → node.entries ≡ 0 → IsWorld (record { spans = spans; stacks = stacks }) → IsWorld (record { spans = with_entry spans id node; stacks = stacks })
world_new spans id node stacks gone none whole = record { entered = λ j. same j ∙ whole.entered j }
  where
    same : (j : ℕ) → held_in Entry (find (with_entry spans id node) j) ≡ held_in Entry (find spans j)
    same j =
        elim (eqb_tells j id) [
          | inl t ↦ subst (λ (k : ℕ). held_in Entry (find (with_entry spans id node) k) ≡ held_in Entry (find spans k)) (sym t.1)
              (ap (held_in Entry) (find-with_same spans id node gone) ∙ none ∙ sym (ap (held_in Entry) gone))
          | inr t ↦ ap (held_in Entry) (find-with_other spans id j node t.1)
        ]

pub step_new : (rules : List Filter) (ids : List ℕ) (spans new_spans : Spans) (stacks : List (List ℕ)) (worker id : ℕ) (meta : PlainMeta) (fields : List KeyValue) (parent : Option ℕ) (notes : List PlainNote)
    → worker < length stacks → IsId id → has ids id ≡ false → is_wanted_meta rules meta ≡ true → is_open_parent spans parent ≡ true
    → new_spans ≡ with_entry spans id (new_node meta fields parent (admission_set rules meta.target meta.level))
    → notes ≡ notes_of_all rules worker (at_span new_spans OnNew id fields ∷ [])
    → IsStep rules ids (record { spans = spans; stacks = stacks }) (new_span worker meta fields parent) (made id) notes (record { spans = new_spans; stacks = stacks })
step_new rules ids spans new_spans stacks worker id meta fields parent notes within in_layout not_issued wanted there spans_are notes_are =
    record {
      within = within;
      changes = record {
        wanted = wanted;
        known = there;
        inside = refl;
        id = id;
        answer_is = refl;
        id_is_new = (in_layout, not_issued);
        after = λ j. record { spans = spans_are j; stacks = stacks };
      };
      notes_are = notes_are;
    }

-- an id that no slot has given was not issued by the history
pub not_in_history : (limits : Limits) (rules : List Filter) (forest : ForestView) (stacks : List (List ℕ)) (calls : ℕ) (sent : List PlainBatch) (id : ℕ) → IsSound limits forest stacks rules calls sent
    → (generation_of id < slice_index forest.given (slot_of id) → ⊥) → has (issued sent) id ≡ false
not_in_history limits rules forest stacks calls sent id sound never =
    elim (cases_Bool (has (issued sent) id)) [ inl t ↦ absurd (never (sound.counted id t)) | inr t ↦ t ]

-- the next id of sound parts is new: it is the forest's, of which that is known
pub next_is_new : (limits : Limits) (rules : List Filter) (forest : ForestView) (stacks : List (List ℕ)) (calls : ℕ) (sent : List PlainBatch) → IsSound limits forest stacks rules calls sent
    → IfSome (next_span_id forest) IsId → IfSome (next_span_id forest) (λ id. IsIssued (table_of forest) id → ⊥)
    → IfSome (next_id_after limits.slots limits.last_generation sent) (λ id. IsId id × (has (issued sent) id ≡ false))
next_is_new limits rules forest stacks calls sent sound in_layout never =
    subst (λ (o : Option ℕ). IfSome o (λ id. IsId id × (has (issued sent) id ≡ false))) (ap next_span_id sound.forest_is) (by_case (next_span_id forest) in_layout never)
  where
    by_case : (o : Option ℕ) → IfSome o IsId → IfSome o (λ id. IsIssued (table_of forest) id → ⊥) → IfSome o (λ id. IsId id × (has (issued sent) id ≡ false))
    by_case None there unissued = tt
    by_case (Some id) there unissued = (there, not_in_history limits rules forest stacks calls sent id sound unissued)
