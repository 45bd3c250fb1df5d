-- The slots that a history used agree with the spans that are open: each open id was issued, and the next one wasn't.
use Rattle.std.proofs.Common.{◌≡◌, ℕ, ◌<◌, ◌≤◌, Bool, true, false, cond, leb, List, [], ◌∷◌, length, drop, Option, Some, None, refl, sym, ap, subst, inl, inr, arith, length-append, length-set}
use Rattle.std.specs.Prelude.{is_some, slice_index, unwrap_or}
use Rattle.std.specs.Option.{option_map}
use Rattle.std.proofs.lemmas.Bool.{cases_lt, lt-ltb, le-ltb, true≢false}
use Rattle.std.proofs.lemmas.Bool.Decides.{eqb_tells}
use Rattle.span_id.specs.Id.{id_of, slot_of, generation_of}
use Rattle.span_id.specs.Ids.{has}
use Rattle.span_slots.specs.Table.{issue, next_slot_of}
use Rattle.span_slots.proofs.Ids.{slot_of_id, generation_of_id}
use Rattle.span_slots.proofs.Issued.{AreBelow, AreBelow-more, AreBelow-drop, used_since, get_or-issue_same, length-issue}
use Rattle.span_forest.specs.Node.{Node}
use Rattle.span_forest.specs.Spans.{Spans, find, IsOpen, with_entry}
use Rattle.span_forest.specs.Release.{freed_after}
use Rattle.span_forest.proofs.Adds.{open_back}
use Rattle.span_forest.proofs.Slotted.{issue_more}
use Rattle.span_outlet.specs.Request.{made}
use Rattle.span_core.specs.NextId.{SlotsUsed, with_closed, with_answer, next_id_from}

-- no more slots were used than there are, each freed one was used, and each open id was issued
pub record Agrees (slots : ℕ) (spans : Spans) (used : SlotsUsed) : Type 0 where
  pub in_layout : slots ≤ 16777216
  pub few : length used.given ≤ slots
  pub freed_used : AreBelow (length used.given) used.freed
  pub issued : (id : ℕ) → IsOpen spans id → generation_of id < slice_index used.given (slot_of id)

-- where nothing was used
pub agrees_empty : (slots : ℕ) → slots ≤ 16777216 → Agrees slots [] (record { given = []; freed = [] })
agrees_empty slots high = record { in_layout = high; few = omega arith; freed_used = tt; issued = λ id there. cc }

-- where no span was opened
pub agrees_fewer : (slots : ℕ) (spans new : Spans) (used : SlotsUsed) → ((id : ℕ) → IsOpen new id → IsOpen spans id) → Agrees slots spans used → Agrees slots new used
agrees_fewer slots spans new used back agrees = record {
  in_layout = agrees.in_layout;
  few = agrees.few;
  freed_used = agrees.freed_used;
  issued = λ id there. agrees.issued id (back id there);
}

-- the ids that a list has
all_below : (last : ℕ) (given freed closed : List ℕ) → AreBelow (length given) freed → ((id : ℕ) → has closed id ≡ true → slot_of id < length given) → AreBelow (length given) (freed_after last given freed closed)
all_below last given freed [] below used = below
all_below last given freed (id ∷ ids) below used =
    all_below last given (cond (leb (slice_index given (slot_of id)) last) (slot_of id ∷ freed) freed) ids (by_case (leb (slice_index given (slot_of id)) last)) (λ j there. used j (later j there))
  where
    by_case : (b : Bool) → AreBelow (length given) (cond b (slot_of id ∷ freed) freed)
    by_case true = (used id (first id ids), below)
      where
        first : (id : ℕ) (ids : List ℕ) → has (id ∷ ids) id ≡ true
        first id ids = elim (eqb_tells id id) [ inl t ↦ rw t.0 refl | inr t ↦ absurd (t.1 refl) ]
    by_case false = below

    later : (j : ℕ) → has ids j ≡ true → has (id ∷ ids) j ≡ true
    later j there = elim (eqb_tells id j) [ inl t ↦ rw t.0 refl | inr t ↦ rw t.0 there ]

-- after open spans closed
pub agrees_closed : (slots last : ℕ) (spans new : Spans) (used : SlotsUsed) (closed : List ℕ) → ((id : ℕ) → IsOpen new id → IsOpen spans id) → ((id : ℕ) → has closed id ≡ true → IsOpen spans id)
    → Agrees slots spans used → Agrees slots new (with_closed last used closed)
agrees_closed slots last spans new used closed back were_open agrees = record {
  in_layout = agrees.in_layout;
  few = agrees.few;
  freed_used = all_below last used.given used.freed closed agrees.freed_used (λ id there. used_since used.given (slot_of id) (generation_of id) (agrees.issued id (were_open id there)));
  issued = λ id there. agrees.issued id (back id there);
}

-- the next slot
next_slot_low : (slots used s : ℕ) (freed : List ℕ) → used ≤ slots → AreBelow used freed → next_slot_of slots used freed ≡ Some s → (s < slots) × (s ≤ used)
next_slot_low slots used s [] h a e =
    elim (cases_lt used slots) [
      | inl t ↦ (let q : Some used ≡ Some s = rw (lt-ltb used slots t) at e in let same : used ≡ s = cc in (omega arith, omega arith))
      | inr t ↦ (let q : None ≡ Some s = rw (le-ltb used slots t) at e in cc)
    ]
next_slot_low slots used s (x ∷ xs) h a e = let same : x ≡ s = cc in (omega (arith, a.0), omega (arith, a.0))

-- a new span under the next id of a slot
module _ (slots last : ℕ) (spans : Spans) (used : SlotsUsed) (agrees : Agrees slots spans used) (s : ℕ) (low : (s < slots) × (s ≤ length used.given)) where
  abbrev next : ℕ
  next = id_of s (slice_index used.given s)

  in_layout : s < 16777216
  in_layout = omega (arith, low.0, agrees.in_layout)

  its_slot : slot_of next ≡ s
  its_slot = slot_of_id s (slice_index used.given s) in_layout

  its_generation : generation_of next ≡ slice_index used.given s
  its_generation = generation_of_id s (slice_index used.given s) in_layout

  next_absent : find spans next ≡ None
  next_absent = by_case (find spans next) refl
    where
      by_case : (o : Option Node) → find spans next ≡ o → find spans next ≡ None
      by_case None is = is
      by_case (Some node) is =
          let issued = agrees.issued next (ap is_some is) in
          let slot_is = ap (λ k. slice_index used.given k) its_slot in
          absurd (omega (arith, issued, its_generation, slot_is))

  agrees_next : (node : Node) → Agrees slots (with_entry spans next node) (with_answer last used (made next))
  agrees_next node = record {
    in_layout = agrees.in_layout;
    few = few;
    freed_used = AreBelow-more (length used.given) (length (issue used.given (slot_of next))) (drop 1 used.freed) (length-issue used.given (slot_of next)) (AreBelow-drop (length used.given) used.freed agrees.freed_used);
    issued = λ id there. elim (eqb_tells id next) [
      | inl t ↦ subst (λ (j : ℕ). generation_of j < slice_index (issue used.given (slot_of next)) (slot_of j)) (sym t.1) now
      | inr t ↦ issue_more used.given (slot_of next) (slot_of id) (generation_of id) (agrees.issued id (open_back spans next id node t.1 there))
    ];
  }
    where
      few : length (issue used.given (slot_of next)) ≤ slots
      few =
          rw its_slot (elim (cases_lt s (length used.given)) [
            | inl u ↦ rw (lt-ltb s (length used.given) u, length-set) agrees.few
            | inr u ↦ rw (le-ltb s (length used.given) u) (let a = length-append used.given (1 ∷ []) in omega (arith, low.0, low.1, a))
          ])

      now : generation_of next < slice_index (issue used.given (slot_of next)) (slot_of next)
      now = let more = get_or-issue_same used.given s low.1 in rw its_slot (omega (arith, more, its_generation))

-- the next id, where there is one, isn't open, and a new span under it keeps the slots in agreement
pub agrees_made : (slots last : ℕ) (spans : Spans) (used : SlotsUsed) → Agrees slots spans used → is_some (next_id_from slots used) ≡ true
    → (find spans (unwrap_or (next_id_from slots used) 0) ≡ None)
    × ((node : Node) → Agrees slots (with_entry spans (unwrap_or (next_id_from slots used) 0) node) (with_answer last used (made (unwrap_or (next_id_from slots used) 0))))
agrees_made slots last spans used agrees there = by_case (next_slot_of slots (length used.given) used.freed) refl there
  where
    from : Option ℕ → Option ℕ
    from slot = option_map (λ s. id_of s (slice_index used.given s)) slot

    by_case : (o : Option ℕ) → next_slot_of slots (length used.given) used.freed ≡ o → is_some (from o) ≡ true
        → (find spans (unwrap_or (from o) 0) ≡ None) × ((node : Node) → Agrees slots (with_entry spans (unwrap_or (from o) 0) node) (with_answer last used (made (unwrap_or (from o) 0))))
    by_case None is some = absurd (true≢false (sym some))
    by_case (Some s) is some =
        let low = next_slot_low slots (length used.given) s used.freed agrees.few agrees.freed_used is in
        (next_absent slots last spans used agrees s low, agrees_next slots last spans used agrees s low)
