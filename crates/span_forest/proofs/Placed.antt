-- A forest with a new span.
use Rattle.std.proofs.Common.{subst, ◌⊎◌, slice_index, ◌≡◌, ◌≢◌, ℕ, ◌+◌, ◌<◌, ◌≤◌, Bool, false, cond, List, length, drop, Option, Some, None, refl, sym, ap, ◌∙◌, inl, inr, arith}
use Rattle.std.specs.Option.{option_map, IsSomeAnd}
use Rattle.std.proofs.lemmas.Bool.Decides.{eqb_tells}
use Rattle.std.proofs.lemmas.Bool.{ne_eqb, cases_Bool}
use Rattle.span_id.specs.Id.{slot_of, generation_of}
use Rattle.span_id.specs.declared.fault.Fault.{Fault}
use Rattle.span_id.specs.declared.fault.Fault.TheVariants.{Unknown, CountFull, Full, NotEntered, TooManyLayers, BadName, Backlog, BadLimits, Memory}
use Rattle.span_slots.specs.Table.{Table, find, with_value, with_entry, issue, id_at, table_inserted, next_id, next_slot, IsIssued, AreApart}
use Rattle.span_slots.specs.Change.{Insert, after, inserted_in}
use Rattle.span_forest.specs.declared.span.Span.{Span}
use Rattle.span_forest.specs.Node.{node_of}
use Rattle.span_forest.specs.Spans.{IsOpen, nodes_of}
use Rattle.span_forest.specs.Count.{holders, is_parent, reference_count}
use Rattle.span_forest.specs.Forest.{IsForest, ForestView}
use Rattle.span_forest.specs.Add.{WhyNotAdded}
use Rattle.span_forest.specs.inside.Adding.{WhyNoChild, HasRoomAbove, IsNew}
use Rattle.span_forest.specs.inside.Invariant.{IsSettled, IsConsistent, counts_more}
use Rattle.span_forest.proofs.Ranks.{ranked}
use Rattle.span_forest.proofs.Walks.{forest_from}
use Rattle.span_forest.proofs.Finds.{is_parent_true}
use Rattle.span_forest.proofs.Counts.{nodes_kept}
use Rattle.span_forest.proofs.Totals.{total-with}
use Rattle.span_forest.proofs.Handles.{handles-with}
use Rattle.span_slots.proofs.Entries.{find-with_other}
use Rattle.span_slots.proofs.Apart.{AreApart-with_entry}
use Rattle.span_forest.proofs.Adds.{nodes-with, IsRanked-with, not_found, found_open, written_new, written_old, counted_new_root, counted_new_child, open_back}

no_id : (id : ℕ) → None ≡ Some id → ⊥
no_id id h = cc

same_id : (t : Table Span) (id other : ℕ) → next_id t ≡ Some id → next_id t ≡ Some other → id ≡ other
same_id t id other h k = let e : Some id ≡ Some other = sym h ∙ k in cc

-- the table with the span, before its parent counts it
abbrev pub stored : Table Span → ℕ → Span → Table Span
stored t id span = record t { entries = with_entry t.entries id span; given = issue t.given (slot_of id); freed = drop 1 t.freed }

entry_in : (t mid : Table Span) (id : ℕ) (span : Span) (o : Option ℕ) → option_map (id_at t) o ≡ Some id → mid ≡ inserted_in t span o → mid.entries ≡ with_entry t.entries id span
entry_in t mid id span None h e = absurd (no_id id h)
entry_in t mid id span (Some slot) h e =
    let same : id_at t slot ≡ id = cc in
    ap (λ (x : Table Span). x.entries) e ∙ ap (λ i. with_entry t.entries i span) same

pub stored_is : (t mid : Table Span) (id : ℕ) (span : Span) → next_id t ≡ Some id → mid ≡ table_inserted t (slot_of id) span → mid ≡ after t (Insert span) → mid ≡ stored t id span
stored_is t mid id span h e a =
    let entries = entry_in t mid id span (next_slot t) h a in
    e ∙ ap (λ es. record t { entries = es; given = issue t.given (slot_of id); freed = drop 1 t.freed }) (sym (ap (λ (x : Table Span). x.entries) e) ∙ entries)

-- the new id alone is issued
pub issued_alone : (t mid new : Table Span) (id other : ℕ) (span : Span) → next_id t ≡ Some id → mid ≡ after t (Insert span) → mid ≡ stored t id span → new.given ≡ issue t.given (slot_of id) → (IsIssued (after t (Insert span)) other → IsIssued t other ⊎ (next_id t ≡ Some other)) × (IsIssued t other ⊎ (next_id t ≡ Some other) → IsIssued (after t (Insert span)) other) → (IsIssued new other → IsIssued t other ⊎ (id ≡ other)) × (IsIssued t other ⊎ (id ≡ other) → IsIssued new other)
issued_alone t mid new id other span n a s g law =
    let same : (after t (Insert span)).given ≡ new.given = sym (ap (λ (x : Table Span). x.given) a) ∙ (ap (λ (x : Table Span). x.given) s ∙ sym g) in
    let step : (v : List ℕ) → v ≡ new.given → generation_of other < slice_index v (slot_of other) → generation_of other < slice_index new.given (slot_of other) = λ v e h. subst (λ x. generation_of other < slice_index x (slot_of other)) e h in
    let back : (v : List ℕ) → v ≡ new.given → generation_of other < slice_index new.given (slot_of other) → generation_of other < slice_index v (slot_of other) = λ v e h. subst (λ x. generation_of other < slice_index x (slot_of other)) (sym e) h in (
      λ h. elim (law.0 (back (after t (Insert span)).given same h)) [ inl x ↦ inl x | inr y ↦ inr (same_id t id other n y) ],
      λ h. step (after t (Insert span)).given same (law.1 (elim h [ inl x ↦ inl x | inr y ↦ inr (n ∙ ap (λ v. Some v) y) ])),
    )

-- what a new span leaves of a table
pub record Placed (t new : Table Span) (id : ℕ) (span : Span) : Type 0 where
  pub settled : IsSettled new.entries
  pub nodes : nodes_of new.entries ≡ with_entry (nodes_of t.entries) id (node_of span)
  pub table : new ≡ record t { entries = new.entries; given = issue t.given (slot_of id); freed = drop 1 t.freed }

one_count : (span : Span) → IsNew span → span.count ≡ holders (node_of span)
one_count span w = let a = w.handles in let b = w.entries in let c = w.count in omega arith

open_above : (es : List (ℕ × Span)) (max : ℕ) (o : Option ℕ) → HasRoomAbove es max o → (p : ℕ) → o ≡ Some p → IsSomeAnd (find es p) (λ above. above.count < max)
open_above es max None h p e = cc
open_above es max (Some q) h p e = let same : q ≡ p = cc in rw (← same) h

the_above : (o : Option Span) (max : ℕ) → IsSomeAnd o (λ above. above.count < max) → (up : Span) × (o ≡ Some up) × (up.count < max)
the_above None max h = absurd h
the_above (Some up) max h = (up, refl, h)

some_other : (p : ℕ) → None ≡ Some p → ⊥
some_other p h = cc

some_none : {up : Span} → Some up ≡ None → ⊥
some_none h = cc

above_below : (o : Option Span) (max high : ℕ) → max ≤ high → IsSomeAnd o (λ above. above.count < max) → IsSomeAnd o (λ above. above.count < high)
above_below None max high le h = absurd h
above_below (Some up) max high le h = omega arith

module _ (t : Table Span) (id : ℕ) (span : Span) (w : IsSettled t.entries) (absent : find t.entries id ≡ None) (fresh : IsNew span) where
  absent_node : find (nodes_of t.entries) id ≡ None
  absent_node = not_found t.entries id absent

  forest_with : ((p : ℕ) → span.parent ≡ Some p → IsOpen (nodes_of t.entries) p) → IsForest (with_entry (nodes_of t.entries) id (node_of span))
  forest_with par = forest_from (with_entry (nodes_of t.entries) id (node_of span)) (IsRanked-with (nodes_of t.entries) id (node_of span) (ranked (nodes_of t.entries) w.forest) absent_node par)

  positive_with : is_parent span.parent id ≡ false → (j : ℕ) → IsOpen (with_entry (nodes_of t.entries) id (node_of span)) j → 0 < reference_count (with_entry (nodes_of t.entries) id (node_of span)) j
  positive_with own j o =
      elim (eqb_tells j id) [
        | inl q ↦ (let n = written_new t.entries id span w absent (one_count span fresh) own in let c = fresh.count in rw q.1 (omega arith))
        | inr q ↦ (let n = written_old t.entries id span w absent (one_count span fresh) j q.1 in
            let b = w.positive j (open_back (nodes_of t.entries) id j (node_of span) q.1 o) in omega arith)
      ]

  pub placed_root : (mid : Table Span) → mid ≡ stored t id span → span.parent ≡ None → Placed t mid id span
  placed_root mid e root =
      let nodes = nodes-with t.entries id span in
      rw e (record {
        settled = record {
          forest = rw nodes (forest_with (λ p q. absurd (some_other p (sym root ∙ q))));
          counted = counted_new_root t.entries id span w absent (one_count span fresh) root;
          positive = λ j o. rw nodes (positive_with (rw root refl) j (rw nodes at o));
        };
        nodes = nodes;
        table = refl;
      })

  -- the parent is there, and may count the child
  pub parent_there : (mid : Table Span) (p max : ℕ) → mid ≡ stored t id span → span.parent ≡ Some p → HasRoomAbove t.entries max span.parent → (up : Span) × (find t.entries p ≡ Some up) × (up.count < max) × (find mid.entries p ≡ Some up) × (p ≢ id)
  parent_there mid p max e q room =
      let up = the_above (find t.entries p) max (open_above t.entries max span.parent room p q) in
      let np : p ≢ id = λ s. some_none (sym up.1 ∙ (ap (find t.entries) s ∙ absent)) in
      (up.0, up.1, up.2, ap (λ (x : Table Span). find x.entries p) e ∙ (find-with_other t.entries id p span np ∙ up.1), np)

  pub placed_child : (mid new : Table Span) (p max : ℕ) → mid ≡ stored t id span → span.parent ≡ Some p → HasRoomAbove t.entries max span.parent → ((up : Span) → find mid.entries p ≡ Some up → new ≡ record mid { entries = with_value mid.entries p (counts_more up) }) → Placed t new id span
  placed_child mid new p max e q room raised =
      let up = parent_there mid p max e q room in
      let es = with_entry t.entries id span in
      let nodes = nodes-with t.entries id span in
      let apart : AreApart (nodes_of es) = rw nodes (AreApart-with_entry (nodes_of t.entries) id (node_of span) absent_node w.forest.ids_apart) in
      let at : find es p ≡ Some up.0 = find-with_other t.entries id p span up.4 ∙ up.1 in
      let step : new ≡ record t { entries = with_value es p (counts_more up.0); given = issue t.given (slot_of id); freed = drop 1 t.freed } =
      raised up.0 up.3 ∙ ap (λ (x : Table Span). record x { entries = with_value x.entries p (counts_more up.0) }) e in
      let whole : nodes_of (with_value es p (counts_more up.0)) ≡ with_entry (nodes_of t.entries) id (node_of span) = nodes_kept es p up.0 (counts_more up.0) apart at refl ∙ nodes in
      let own : is_parent span.parent id ≡ false = rw q (ne_eqb p id up.4) in
      rw step (record {
        settled = record {
          forest = rw whole (forest_with (λ r k. (let same : p ≡ r = cc in rw (← same) (found_open t.entries p up.0 up.1))));
          counted = counted_new_child t.entries id span w absent (one_count span fresh) p up.0 apart q up.1;
          positive = λ j o. rw whole (positive_with own j (rw whole at o));
        };
        nodes = whole;
        table = refl;
      })

as_one : Bool → ℕ
as_one b = cond b 1 0

own_parent : (es : List (ℕ × Span)) (max id : ℕ) (o : Option ℕ) → find es id ≡ None → HasRoomAbove es max o → is_parent o id ≡ false
own_parent es max id None absent room = refl
own_parent es max id (Some p) absent room =
    let up = the_above (find es p) max room in
    ne_eqb p id (λ s. some_none (sym up.1 ∙ (ap (find es) s ∙ absent)))

-- what every forest keeps holds with a new span too
pub IsConsistent-added : (es new : List (ℕ × Span)) (max total handles id : ℕ) (span : Span) → IsConsistent es max total handles → find es id ≡ None → IsNew span → HasRoomAbove es max span.parent → IsSettled new → nodes_of new ≡ with_entry (nodes_of es) id (node_of span) → length new ≤ 4294967295 → IsConsistent new max (total + 1) (handles + 1)
unfolding as_one
IsConsistent-added es new max total handles id span w absent fresh room s n few =
    let one = one_count span fresh in
    record {
      settled = s;
      bounded = λ j. rw n (elim (eqb_tells j id) [
        | inl q ↦ (let k = written_new es id span w.settled absent one (own_parent es max id span.parent absent room) in
            let c = fresh.count in let low = w.max_low in rw q.1 (omega arith))
        | inr q ↦ (let k = written_old es id span w.settled absent one j q.1 in
            let b = w.bounded j in
            elim (cases_Bool (is_parent span.parent j)) [
              | inl t ↦ (let up = the_above (find es j) max (open_above es max span.parent room j (is_parent_true span.parent j t)) in
                  let c = w.settled.counted j up.0 up.1 in
                  let z : as_one (is_parent span.parent j) ≡ 1 = ap as_one t in
                  let low = up.2 in omega arith)
              | inr t ↦ (let z : as_one (is_parent span.parent j) ≡ 0 = ap as_one t in omega arith)
            ])
      ]);
      total_is = rw n (let k = total-with (nodes_of es) id (node_of span) in let b = w.total_is in let c = fresh.count in omega arith);
      handles_is = rw n (let k = handles-with (nodes_of es) id (node_of span) in omega (arith, k, w.handles_is, fresh.handles));
      few = few;
      max_low = w.max_low;
      max_high = w.max_high;
    }

-- a bound on counts may be raised
pub room_below : (es : List (ℕ × Span)) (max high : ℕ) (o : Option ℕ) → max ≤ high → HasRoomAbove es max o → HasRoomAbove es high o
room_below es max high None le room = room
room_below es max high (Some p) le room = above_below (find es p) max high le room

-- why a parent may have no child is why no span is added under it
pub why_added : (forest : ForestView) (parent : Option ℕ) (fault : Fault) → WhyNoChild forest.spans forest.max_count parent fault → WhyNotAdded forest parent fault
why_added forest parent Unknown h = h
why_added forest parent CountFull h = h
why_added forest parent Full h = absurd h
why_added forest parent NotEntered h = absurd h
why_added forest parent TooManyLayers h = absurd h
why_added forest parent BadName h = absurd h
why_added forest parent Backlog h = absurd h
why_added forest parent BadLimits h = absurd h
why_added forest parent Memory h = absurd h
