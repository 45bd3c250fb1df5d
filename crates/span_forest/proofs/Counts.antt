-- Counts through a write and a removal.
use Rattle.std.proofs.Common.{◌≡◌, ◌≢◌, ℕ, ◌+◌, ◌-◌, ◌<◌, ◌≤◌, false, cond, List, [], ◌∷◌, length, get_or, take, drop, ◌++◌, leb, Option, Some, None, IsSome, refl, sym, ap, subst, ◌∙◌, inl, inr, arith}
use Rattle.std.specs.Option.{option_map}
use Rattle.std.proofs.lemmas.Bool.Decides.{eqb_tells}
use Rattle.std.proofs.lemmas.Bool.{ne_eqb}
use Rattle.span_slots.specs.Table.{Table, find, with_value, without_entry, table_removed, freed_with, AreApart}
use Rattle.span_id.specs.Id.{slot_of}
use Rattle.span_forest.specs.declared.span.Span.{Span}
use Rattle.span_forest.specs.declared.span.Holder.{Holder}
use Rattle.span_forest.specs.declared.span.Holder.TheVariants.{Handle, Entry}
use Rattle.span_forest.specs.Node.{Node, node_of}
use Rattle.span_forest.specs.Spans.{Spans, IsOpen, parent_in, parent_of, with_change, nodes_of}
use Rattle.span_forest.specs.Count.{is_parent, children, holders, holders_in, reference_count}
use Rattle.span_forest.specs.Forest.{ForestView}
use Rattle.span_forest.specs.Holders.{held_by, held_in, IsHeld, with_less, with_more}
use Rattle.span_forest.specs.Keep.{with_holder}
use Rattle.span_forest.specs.Release.{without_holder, freed_after, spans_left, closing_list}
use Rattle.span_forest.specs.inside.Invariant.{AreCounted, IsSettled, IsConsistent, span_less, span_more, handles_in}
use Rattle.span_forest.specs.inside.Chain.{without_all, Chain, IsPending}
use Rattle.span_forest.proofs.Ranks.{IsRanked}
use Rattle.span_forest.specs.Forest.{IsForest}
use Rattle.span_slots.proofs.Entries.{find-without_same, find-without_other, find-with_value_same, find-with_value_other}
use Rattle.span_slots.proofs.Apart.{AreApart-without_entry}
use Rattle.span_forest.proofs.Finds.{no_child, is_parent_same}
use Rattle.std.proofs.lemmas.List.{take_more, drop_more, take_all, drop_all}
use Rattle.span_forest.proofs.Chains.{written_without, IsPending-without, chain_end}
use Rattle.span_forest.proofs.Totals.{total-changed, total-without, total_le, length-nodes, length-changed}
use Rattle.span_forest.proofs.Handles.{handles-kept, handles-released, handles_le}
use Rattle.span_forest.specs.Count.{total_held, total_handles}
use Rattle.span_forest.proofs.Along.{without_all_more, Along_none, released_by}
use Rattle.span_forest.proofs.Nodes.{find-nodes, without-nodes, value_of_open, written-taken_same, written-taken_other, held_open, find-changed_same, find-changed_other, children-changed, IsForest-changed, IsOpen-changed}

-- a write of a node that f makes of the old one
written_absent : (f : Node → Node) (es : List (ℕ × Span)) (id : ℕ) (new : Span) → find (nodes_of es) id ≡ None → nodes_of (with_value es id new) ≡ with_change f (nodes_of es) id
written_absent f [] id new h = refl
written_absent f (e ∷ es) id new h =
    elim (eqb_tells e.0 id) [
      | inl t ↦ (let h2 = rw t.0 at h in cc)
      | inr t ↦ (let r = written_absent f es id new (rw t.0 at h) in rw (t.0, r) refl)
    ]

pub nodes-written : (f : Node → Node) (es : List (ℕ × Span)) (id : ℕ) (span new : Span) → AreApart (nodes_of es) → find es id ≡ Some span → node_of new ≡ f (node_of span) → nodes_of (with_value es id new) ≡ with_change f (nodes_of es) id
nodes-written f [] id span new a h k = cc
nodes-written f (e ∷ es) id span new a h k =
    elim (eqb_tells e.0 id) [
      | inl t ↦ (let r = written_absent f es id new (rw t.1 at a.0) in
          let h2 = rw t.0 at h in
          let same : e.1 ≡ span = cc in
          let k2 : node_of new ≡ f (node_of e.1) = k ∙ ap (λ x. f (node_of x)) (sym same) in
          rw (t.0, r, k2) refl)
      | inr t ↦ (let r = nodes-written f es id span new a.1 (rw t.0 at h) k in rw (t.0, r) refl)
    ]

pub changed_none : (spans : Spans) (id : ℕ) → with_change (λ n. n) spans id ≡ spans
changed_none [] id = refl
changed_none (e ∷ es) id =
    let r = changed_none es id in
    elim (eqb_tells e.0 id) [ inl t ↦ rw (t.0, r) refl | inr t ↦ rw (t.0, r) refl ]

pub nodes_kept : (es : List (ℕ × Span)) (id : ℕ) (span new : Span) → AreApart (nodes_of es) → find es id ≡ Some span → node_of new ≡ node_of span → nodes_of (with_value es id new) ≡ nodes_of es
nodes_kept es id span new a h k = nodes-written (λ n. n) es id span new a h k ∙ changed_none (nodes_of es) id

node_less : (holder : Holder) (span : Span) → node_of (span_less holder span) ≡ with_less holder (node_of span)
node_less Handle span = refl
node_less Entry span = refl

count_less : (holder : Holder) (span : Span) → (span_less holder span).count ≡ span.count - 1
count_less Handle span = refl
count_less Entry span = refl

pub nodes_less : (es : List (ℕ × Span)) (id : ℕ) (holder : Holder) (span : Span) → AreApart (nodes_of es) → find es id ≡ Some span → nodes_of (with_value es id (span_less holder span)) ≡ without_holder (nodes_of es) id holder
nodes_less es id holder span a h = nodes-written (with_less holder) es id span (span_less holder span) a h (node_less holder span)

pub some_same : (a b : Span) (o : Option Span) → o ≡ Some a → o ≡ Some b → a ≡ b
some_same a b o h k = cc

pub counted_less : (es : List (ℕ × Span)) (id : ℕ) (holder : Holder) (span : Span) → IsSettled es → IsHeld (nodes_of es) id holder → find es id ≡ Some span → AreCounted (with_value es id (span_less holder span))
counted_less es id holder span w held h j s f =
    let n = nodes_less es id holder span w.forest.ids_apart h in
    rw n (elim (eqb_tells j id) [
      | inl t ↦ (let a = some_same s (span_less holder span) (find (with_value es id (span_less holder span)) j) f (rw t.1 (find-with_value_same es id (span_less holder span) (subst IsSome (sym h) refl))) in
          let b = w.counted id span h in
          let d = written-taken_same (nodes_of es) id holder held in
          let e = count_less holder span in
          let q : s.count ≡ span.count - 1 = ap (λ x. x.count) a ∙ e in
          rw t.1 (omega arith))
      | inr t ↦ (let g = sym (find-with_value_other es id j (span_less holder span) t.1) ∙ f in
          let b = w.counted j s g in
          let d = written-taken_other (nodes_of es) id j holder t.1 in
          omega arith)
    ])

pub node_found : (es : List (ℕ × Span)) (id : ℕ) (span : Span) → find es id ≡ Some span → find (nodes_of es) id ≡ Some (node_of span)
node_found es id span h = find-nodes es id ∙ ap (option_map node_of) h

pub none_is : (o : Option Span) (x : Span) → o ≡ None → o ≡ Some x → ⊥
none_is o x h k = let e : None ≡ Some x = sym h ∙ k in cc

pub counted_root : (es : List (ℕ × Span)) (id : ℕ) (span : Span) → AreApart (nodes_of es) → AreCounted es → find es id ≡ Some span → span.parent ≡ None → AreCounted (without_entry es id)
counted_root es id span a w h e j s f =
    let ne : j ≢ id = λ q. none_is (find (without_entry es id) j) s (rw q (find-without_same es id)) f in
    let g = sym (find-without_other es id j ne) ∙ f in
    let b = w j s g in
    let k = written_without (nodes_of es) id j (node_of span) a (node_found es id span h) ne in
    let k2 = rw e at k in
    rw (← without-nodes) (omega arith)

pub counted_child : (es : List (ℕ × Span)) (id p : ℕ) (span up : Span) → AreApart (nodes_of es) → AreApart (nodes_of (without_entry es id)) → AreCounted es → find es id ≡ Some span → span.parent ≡ Some p → p ≢ id → find (without_entry es id) p ≡ Some up → AreCounted (with_value (without_entry es id) p (record up { count = up.count - 1 }))
counted_child es id p span up a a2 w h e np u j s f =
    let new : Span = record up { count = up.count - 1 } in
    let n = nodes_kept (without_entry es id) p up new a2 u refl ∙ sym (without-nodes es id) in
    rw n (elim (eqb_tells j p) [
      | inl t ↦ (let q = some_same s new (find (with_value (without_entry es id) p new) j) f (rw t.1 (find-with_value_same (without_entry es id) p new (subst IsSome (sym u) refl))) in
          let c : s.count ≡ up.count - 1 = ap (λ x. x.count) q in
          let g = sym (find-without_other es id p np) ∙ u in
          let b = w p up g in
          let k = written_without (nodes_of es) id p (node_of span) a (node_found es id span h) np in
          let k2 = rw (is_parent_same span.parent p e) at k in
          rw t.1 (omega arith))
      | inr t ↦ (let f1 = sym (find-with_value_other (without_entry es id) p j new t.1) ∙ f in
          let ne : j ≢ id = λ q. none_is (find (without_entry es id) j) s (rw q (find-without_same es id)) f1 in
          let g = sym (find-without_other es id j ne) ∙ f1 in
          let b = w j s g in
          let k = written_without (nodes_of es) id j (node_of span) a (node_found es id span h) ne in
          let other : is_parent span.parent j ≡ false = rw e (ne_eqb p j (λ q. t.1 (sym q))) in
          let k2 = rw other at k in
          omega arith)
    ])

-- what one closing leaves of a table
removed_is : (t : Table Span) (id : ℕ) (span : Span) → find t.entries id ≡ Some span → table_removed t id ≡ record t { entries = without_entry t.entries id; freed = freed_with t.last_generation t.given t.freed id }
removed_is t id span h = rw h refl

pub record Closed (t new : Table Span) (id : ℕ) : Type 0 where
  pub nodes : nodes_of new.entries ≡ without_entry (nodes_of t.entries) id
  pub counted : AreCounted new.entries
  pub table : new ≡ record t { entries = new.entries; freed = freed_with t.last_generation t.given t.freed id }

pub closed_root : (t less : Table Span) (id : ℕ) (span : Span) → IsRanked (nodes_of t.entries) → AreCounted t.entries → find t.entries id ≡ Some span → less ≡ table_removed t id → span.parent ≡ None → Closed t less id
closed_root t less id span w c h e p =
    let q = e ∙ removed_is t id span h in
    let es = ap (λ x. x.entries) q in
    rw q (record {
      nodes = sym (without-nodes t.entries id);
      counted = counted_root t.entries id span w.apart c h p;
      table = refl;
    })

-- the parent is there, and counts the child
pub parent_counts : (t less : Table Span) (id p : ℕ) (span : Span) → IsRanked (nodes_of t.entries) → AreCounted t.entries → children (nodes_of t.entries) id ≡ 0 → find t.entries id ≡ Some span → less ≡ table_removed t id → span.parent ≡ Some p → (up : Span) × (find less.entries p ≡ Some up) × (0 < up.count)
parent_counts t less id p span w c z h e k =
    let nodes = nodes_of t.entries in
    let par : parent_of nodes id ≡ Some p = ap parent_in (node_found t.entries id span h) ∙ k in
    let np : p ≢ id = λ q. no_child nodes id id z (par ∙ ap (λ v. Some v) q) in
    let up = value_of_open t.entries p (w.parents_open id p par) in
    let counts = c p up.0 up.1 in
    let kids = written_without nodes id p (node_of span) w.apart (node_found t.entries id span h) np in
    let kids2 = rw (is_parent_same span.parent p k) at kids in
    let q = e ∙ removed_is t id span h in
    (up.0, ap (λ x. find x.entries p) q ∙ (find-without_other t.entries id p np ∙ up.1), omega arith)

pub closed_child : (t less new : Table Span) (id p : ℕ) (span : Span) → IsRanked (nodes_of t.entries) → AreCounted t.entries → children (nodes_of t.entries) id ≡ 0 → find t.entries id ≡ Some span → less ≡ table_removed t id → span.parent ≡ Some p → ((up : Span) → find less.entries p ≡ Some up → new ≡ record less { entries = with_value less.entries p (record up { count = up.count - 1 }) }) → Closed t new id
closed_child t less new id p span w c z h e k lowered =
    let nodes = nodes_of t.entries in
    let up = parent_counts t less id p span w c z h e k in
    let q = e ∙ removed_is t id span h in
    let par : parent_of nodes id ≡ Some p = ap parent_in (node_found t.entries id span h) ∙ k in
    let np : p ≢ id = λ q. no_child nodes id id z (par ∙ ap (λ v. Some v) q) in
    let at : find (without_entry t.entries id) p ≡ Some up.0 = sym (ap (λ x. find x.entries p) q) ∙ up.1 in
    let a2 : AreApart (nodes_of (without_entry t.entries id)) = rw (← without-nodes) (AreApart-without_entry nodes id w.apart) in
    let step : new ≡ record t { entries = with_value (without_entry t.entries id) p (record up.0 { count = up.0.count - 1 }); freed = freed_with t.last_generation t.given t.freed id } =
    lowered up.0 up.1 ∙ ap (λ (x : Table Span). record x { entries = with_value x.entries p (record up.0 { count = up.0.count - 1 }) }) q in
    rw step (record {
      nodes = nodes_kept (without_entry t.entries id) p up.0 (record up.0 { count = up.0.count - 1 }) a2 at refl ∙ sym (without-nodes t.entries id);
      counted = counted_child t.entries id p span up.0 w.apart a2 c h k np at;
      table = refl;
    })

-- how far the closing of a chain has come
pub record Closes (t now : Table Span) (done rest : List ℕ) : Type 0 where
  pub next : Option ℕ
  pub pending : IsPending (nodes_of now.entries) next
  pub chain : Chain (nodes_of now.entries) next rest
  pub counted : AreCounted now.entries
  pub nodes : nodes_of now.entries ≡ without_all (nodes_of t.entries) done
  pub table : now ≡ record t { entries = now.entries; freed = freed_after t.last_generation t.given t.freed done }

pub Closes_none : (t : Table Span) (id : ℕ) (xs : List ℕ) → IsPending (nodes_of t.entries) (Some id) → AreCounted t.entries → Chain (nodes_of t.entries) (Some id) xs → Closes t t [] xs
Closes_none t id xs p c ch = record { next = Some id; pending = p; chain = ch; counted = c; nodes = refl; table = refl }

freed_after_more : (last : ℕ) (given freed xs : List ℕ) (x : ℕ) → freed_after last given freed (xs ++ x ∷ []) ≡ cond (leb (get_or given (slot_of x) 0) last) (slot_of x ∷ freed_after last given freed xs) (freed_after last given freed xs)
freed_after_more last given freed [] x = refl
freed_after_more last given freed (y ∷ ys) x = freed_after_more last given (cond (leb (get_or given (slot_of y) 0) last) (slot_of y ∷ freed) freed) ys x

pub Closes_first : (t now : Table Span) (done rest : List ℕ) (x : ℕ) → Closes t now done (x ∷ rest) → IsForest (nodes_of now.entries) × IsOpen (nodes_of now.entries) x × (children (nodes_of now.entries) x ≡ 0)
Closes_first t now done rest x w = (w.pending.forest, w.pending.here x w.chain.0, (let none = w.chain.1 in omega (arith, none)))

pub Closes_more : (t now new : Table Span) (done rest : List ℕ) (x : ℕ) → Closes t now done (x ∷ rest) → Closed now new x → Closes t new (done ++ x ∷ []) rest
Closes_more t now new done rest x w d =
    let at : IsPending (nodes_of now.entries) (Some x) = subst (λ o. IsPending (nodes_of now.entries) o) w.chain.0 w.pending in
    let freed : freed_with now.last_generation now.given now.freed x ≡ freed_after t.last_generation t.given t.freed (done ++ x ∷ []) = ap (λ (u : Table Span). freed_with u.last_generation u.given u.freed x) w.table ∙ sym (freed_after_more t.last_generation t.given t.freed done x) in
    record {
      next = parent_of (nodes_of now.entries) x;
      pending = rw d.nodes (IsPending-without (nodes_of now.entries) x at w.chain.1);
      chain = rw d.nodes w.chain.2;
      counted = d.counted;
      nodes = d.nodes ∙ (ap (λ m. without_entry m x) w.nodes ∙ sym (without_all_more done (nodes_of t.entries) x));
      table = d.table ∙ (ap (λ (u : Table Span). record u { entries = new.entries; freed = freed_with now.last_generation now.given now.freed x }) w.table ∙ ap (λ v. record t { entries = new.entries; freed = v }) freed);
    }

pub Closes_end : (t now : Table Span) (xs : List ℕ) (i : ℕ) → length xs ≤ i → Closes t now (take i xs) (drop i xs) → Closes t now xs []
Closes_end t now xs i le w =
    subst (λ v. Closes t now v []) (take_all i xs le) (subst (Closes t now (take i xs)) (drop_all i xs le) w)

pub settled_at_end : (t now : Table Span) (done : List ℕ) → Closes t now done [] → IsSettled now.entries
settled_at_end t now done w = record {
  forest = w.pending.forest;
  counted = w.counted;
  positive = λ j o. chain_end (nodes_of now.entries) w.next w.pending w.chain j o;
}

children-without-le : (spans : Spans) (x j : ℕ) → children (without_entry spans x) j ≤ children spans j
children-without-le [] x j = omega arith
children-without-le (e ∷ es) x j =
    let r = children-without-le es x j in
    elim (eqb_tells e.0 x) [ inl t ↦ rw t.0 (omega arith) | inr t ↦ rw t.0 (omega arith) ]

written_without_le : (spans : Spans) (x j : ℕ) → reference_count (without_entry spans x) j ≤ reference_count spans j
written_without_le spans x j =
    let r = children-without-le spans x j in
    elim (eqb_tells j x) [
      | inl t ↦ (let k0 : find (without_entry spans x) j ≡ None = rw t.1 (find-without_same spans x) in let k : holders_in (find (without_entry spans x) j) ≡ 0 = ap holders_in k0 in omega arith)
      | inr t ↦ (let k = ap holders_in (find-without_other spans x j t.1) in omega arith)
    ]

written_all_le : (xs : List ℕ) (spans : Spans) (j : ℕ) → reference_count (without_all spans xs) j ≤ reference_count spans j
written_all_le [] spans j = omega arith
written_all_le (x ∷ xs) spans j = let r = written_all_le xs (without_entry spans x) j in let q = written_without_le spans x j in omega arith

pub written_left_le : (spans : Spans) (id : ℕ) (holder : Holder) (xs : List ℕ) (j : ℕ) → IsHeld spans id holder → reference_count (without_all (without_holder spans id holder) xs) j ≤ reference_count spans j
written_left_le spans id holder xs j h =
    let r = written_all_le xs (without_holder spans id holder) j in
    elim (eqb_tells j id) [
      | inl t ↦ (let q = written-taken_same spans id holder h in let r2 = rw t.1 at r in rw t.1 (omega arith))
      | inr t ↦ (let q = written-taken_other spans id j holder t.1 in omega arith)
    ]

pub Closes_turn : (t now new : Table Span) (xs : List ℕ) (i x : ℕ) → i < length xs → x ≡ get_or xs i x → Closes t now (take i xs) (drop i xs) → Closed now new x → Closes t new (take (i + 1) xs) (drop (i + 1) xs)
Closes_turn t now new xs i x l e w d =
    let a : take (i + 1) xs ≡ take i xs ++ x ∷ [] = take_more xs i x l ∙ ap (λ v. take i xs ++ v ∷ []) (sym e) in
    let b : drop i xs ≡ x ∷ drop (i + 1) xs = drop_more xs i x l ∙ ap (λ v. v ∷ drop (i + 1) xs) (sym e) in
    rw a (Closes_more t now new (take i xs) (drop (i + 1) xs) x (subst (Closes t now (take i xs)) b w) d)

-- a span that has a holder has a count
pub held_counts : (es : List (ℕ × Span)) (id : ℕ) (holder : Holder) → IsSettled es → IsHeld (nodes_of es) id holder → (span : Span) × (find es id ≡ Some span) × ((0 < held_by holder (node_of span)) × (0 < span.count))
held_counts es id holder w h =
    let o = held_open (nodes_of es) id holder h in
    let s = value_of_open es id o in
    let a = ap (held_in holder) (node_found es id s.0 s.1) in
    let b = w.counted id s.0 s.1 in
    let p = w.positive id o in
    (s.0, s.1, (omega arith, omega arith))

abbrev pub view_of : Table Span → ℕ → ForestView
view_of t max = record { spans = nodes_of t.entries; slots = t.slots; last_generation = t.last_generation; given = t.given; freed = t.freed; max_count = max }

view_same : {s1 s2 : Spans} {a1 a2 b1 b2 m : ℕ} {g1 g2 f1 f2 : List ℕ} → s1 ≡ s2 → a1 ≡ a2 → b1 ≡ b2 → g1 ≡ g2 → f1 ≡ f2 → ◌≡◌ {A = ForestView} (record { spans = s1; slots = a1; last_generation = b1; given = g1; freed = f1; max_count = m }) (record { spans = s2; slots = a2; last_generation = b2; given = g2; freed = f2; max_count = m })
view_same p q r s t = cc

pub release_view : (t new : Table Span) (max id : ℕ) (holder : Holder) (ys : List ℕ) → new ≡ record t { entries = new.entries; freed = freed_after t.last_generation t.given t.freed ys } → nodes_of new.entries ≡ spans_left (nodes_of t.entries) id holder → ys ≡ closing_list (nodes_of t.entries) id holder → view_of new max ≡ record (view_of t max) { spans = spans_left (nodes_of t.entries) id holder; freed = freed_after t.last_generation t.given t.freed (closing_list (nodes_of t.entries) id holder) }
release_view t new max id holder ys e n l =
    let a = ap (λ (u : Table Span). u.slots) e in
    let b = ap (λ (u : Table Span). u.last_generation) e in
    let d = ap (λ (u : Table Span). u.given) e in
    let f : new.freed ≡ freed_after t.last_generation t.given t.freed (closing_list (nodes_of t.entries) id holder) = ap (λ (u : Table Span). u.freed) e ∙ ap (freed_after t.last_generation t.given t.freed) l in
    view_same n a b d f

node_more : (holder : Holder) (span : Span) → node_of (span_more holder span) ≡ with_more holder (node_of span)
node_more Handle span = refl
node_more Entry span = refl

count_more_is : (holder : Holder) (span : Span) → (span_more holder span).count ≡ span.count + 1
count_more_is Handle span = refl
count_more_is Entry span = refl

with_more-parent : (holder : Holder) (n : Node) → (with_more holder n).parent ≡ n.parent
with_more-parent Handle n = refl
with_more-parent Entry n = refl

more_holders : (holder : Holder) (n : Node) → holders (with_more holder n) ≡ holders n + 1
more_holders Handle n = omega arith
more_holders Entry n = omega arith

written-kept_same : (spans : Spans) (id : ℕ) (node : Node) (holder : Holder) → find spans id ≡ Some node → reference_count (with_holder spans id holder) id ≡ reference_count spans id + 1
written-kept_same spans id node holder f =
    let a = ap holders_in (find-changed_same (with_more holder) spans id ∙ ap (option_map (with_more holder)) f) in
    let b = more_holders holder node in
    let g = ap holders_in f in
    let d = children-changed (with_more holder) (with_more-parent holder) spans id id in
    omega arith

written-kept_other : (spans : Spans) (id j : ℕ) (holder : Holder) → j ≢ id → reference_count (with_holder spans id holder) j ≡ reference_count spans j
written-kept_other spans id j holder ne =
    let a = ap holders_in (find-changed_other (with_more holder) spans id j ne) in
    let d = children-changed (with_more holder) (with_more-parent holder) spans id j in
    omega arith

pub nodes_more : (es : List (ℕ × Span)) (id : ℕ) (holder : Holder) (span : Span) → AreApart (nodes_of es) → find es id ≡ Some span → nodes_of (with_value es id (span_more holder span)) ≡ with_holder (nodes_of es) id holder
nodes_more es id holder span a h = nodes-written (with_more holder) es id span (span_more holder span) a h (node_more holder span)

-- a forest with one more holder
pub IsConsistent-kept : (es : List (ℕ × Span)) (max total more handles more_handles id : ℕ) (holder : Holder) (span : Span) → IsConsistent es max total handles → find es id ≡ Some span → span.count < max → more ≡ total + 1 → more_handles ≡ handles + handles_in holder → IsConsistent (with_value es id (span_more holder span)) max more more_handles
IsConsistent-kept es max total more handles more_handles id holder span w h low one also =
    let n = nodes_more es id holder span w.settled.forest.ids_apart h in
    let f = node_found es id span h in
    let c0 = w.settled.counted id span h in
    let same = written-kept_same (nodes_of es) id (node_of span) holder f in
    record {
      settled = record {
        forest = rw n (IsForest-changed (with_more holder) (with_more-parent holder) (nodes_of es) id w.settled.forest);
        counted = λ j s g. rw n (elim (eqb_tells j id) [
          | inl t ↦ (let a = some_same s (span_more holder span) (find (with_value es id (span_more holder span)) j) g (rw t.1 (find-with_value_same es id (span_more holder span) (subst IsSome (sym h) refl))) in
              let q : s.count ≡ span.count + 1 = ap (λ x. x.count) a ∙ count_more_is holder span in
              rw t.1 (omega arith))
          | inr t ↦ (let k = sym (find-with_value_other es id j (span_more holder span) t.1) ∙ g in
              let b = w.settled.counted j s k in
              let d = written-kept_other (nodes_of es) id j holder t.1 in
              omega arith)
        ]);
        positive = λ j o. rw n (let o2 = IsOpen-changed (with_more holder) (nodes_of es) id j (rw n at o) in let p = w.settled.positive j o2 in elim (eqb_tells j id) [
          | inl t ↦ rw t.1 (omega arith)
          | inr t ↦ (let d = written-kept_other (nodes_of es) id j holder t.1 in omega arith)
        ]);
      };
      bounded = λ j. rw n (let p = w.bounded j in elim (eqb_tells j id) [
        | inl t ↦ rw t.1 (omega arith)
        | inr t ↦ (let d = written-kept_other (nodes_of es) id j holder t.1 in omega arith)
      ]);
      total_is = rw n (let q = total-changed (with_more holder) (nodes_of es) id (node_of span) w.settled.forest.ids_apart f in let k = more_holders holder (node_of span) in let z = w.total_is in omega arith);
      handles_is = rw n (let q = handles-kept (nodes_of es) id holder (node_of span) w.settled.forest.ids_apart f in let z = w.handles_is in omega (arith, q, z, also));
      few = (let a = ap length n in let b = length-nodes es in let d = length-nodes (with_value es id (span_more holder span)) in let e = length-changed (with_more holder) (nodes_of es) id in let q = w.few in omega arith);
      max_low = w.max_low;
      max_high = w.max_high;
    }

pub kept_view : (t new : Table Span) (max id : ℕ) (holder : Holder) (es : List (ℕ × Span)) → new ≡ record t { entries = es } → nodes_of es ≡ with_holder (nodes_of t.entries) id holder → view_of new max ≡ record (view_of t max) { spans = with_holder (nodes_of t.entries) id holder }
kept_view t new max id holder es e n = ap (λ (u : Table Span). view_of u max) e ∙ view_same n refl refl refl refl

part : (holder : Holder) (span : Span) → held_by holder (node_of span) ≤ holders (node_of span)
part Handle span = omega arith
part Entry span = omega arith

-- each kind of holder is part of the count
pub held_part : (es : List (ℕ × Span)) (id : ℕ) (holder : Holder) → IsSettled es → IsHeld (nodes_of es) id Handle → (span : Span) × (find es id ≡ Some span) × ((held_by holder (node_of span) ≤ span.count) × (span.count ≡ reference_count (nodes_of es) id))
held_part es id holder w h =
    let o = held_open (nodes_of es) id Handle h in
    let s = value_of_open es id o in
    let b = w.counted id s.0 s.1 in
    let a = ap holders_in (node_found es id s.0 s.1) in
    let p = part holder s.0 in
    (s.0, s.1, (omega arith, b))

-- all holders are few enough to be counted in 64 bits
pub total_fits : (es : List (ℕ × Span)) (max total handles : ℕ) → IsConsistent es max total handles → total < 18446744073709551615
total_fits es max total handles w =
    let t = total_le (nodes_of es) w.settled.forest.ids_apart (λ id. let b = w.bounded id in let h = w.max_high in omega arith) in
    let n = length-nodes es in
    let few = w.few in
    let same = w.total_is in
    omega arith

-- so are all handles
pub handles_fit : (es : List (ℕ × Span)) (max total handles : ℕ) → IsConsistent es max total handles → handles < 18446744073709551615
handles_fit es max total handles w =
    let fits = total_fits es max total handles w in
    omega (arith, fits, handles_le (nodes_of es), w.total_is, w.handles_is)

less_by_one : (holder : Holder) (node : Node) → 0 < held_by holder node → holders (with_less holder node) + 1 ≡ holders node
less_by_one Handle node h = omega arith
less_by_one Entry node h = omega arith

-- one holder less is held in all
pub total-taken : (es : List (ℕ × Span)) (id : ℕ) (holder : Holder) → IsSettled es → IsHeld (nodes_of es) id holder → total_held (without_holder (nodes_of es) id holder) + 1 ≡ total_held (nodes_of es)
total-taken es id holder w h =
    let s = held_counts es id holder w h in
    let q = total-changed (with_less holder) (nodes_of es) id (node_of s.0) w.forest.ids_apart (node_found es id s.0 s.1) in
    let k = less_by_one holder (node_of s.0) s.2.0 in
    omega arith

-- the closing of spans that nothing holds takes no holder away
total-closed : (xs : List ℕ) (spans : Spans) (o : Option ℕ) → AreApart spans → Chain spans o xs → total_held (without_all spans xs) ≡ total_held spans
total-closed [] spans o a c = refl
total-closed (x ∷ xs) spans o a c =
    let z : reference_count spans x ≡ 0 = c.1 in
    total-closed xs (without_entry spans x) (parent_of spans x) (AreApart-without_entry spans x a) c.2 ∙ total-without spans x a (omega arith)

length-without-le : (spans : Spans) (x : ℕ) → length (without_entry spans x) ≤ length spans
length-without-le [] x = omega arith
length-without-le (e ∷ es) x =
    let r = length-without-le es x in
    elim (eqb_tells e.0 x) [ inl t ↦ rw t.0 (omega arith) | inr t ↦ rw t.0 (omega arith) ]

length-closed-le : (xs : List ℕ) (spans : Spans) → length (without_all spans xs) ≤ length spans
length-closed-le [] spans = omega arith
length-closed-le (x ∷ xs) spans = let r = length-closed-le xs (without_entry spans x) in let q = length-without-le spans x in omega arith

-- a forest after a release
pub IsConsistent-released : (es new : List (ℕ × Span)) (max total handles fewer : ℕ) (id : ℕ) (holder : Holder) (xs : List ℕ) → IsConsistent es max total handles → IsHeld (nodes_of es) id holder → Chain (without_holder (nodes_of es) id holder) (Some id) xs → IsSettled new → nodes_of new ≡ without_all (without_holder (nodes_of es) id holder) xs → fewer ≡ handles - handles_in holder → IsConsistent new max (total - 1) fewer
IsConsistent-released es new max total handles fewer id holder xs w h c s n less =
    let spans = nodes_of es in
    let p = (Along_none es id holder w.settled h).pending in
    let one = total-taken es id holder w.settled h in
    let rest = total-closed xs (without_holder spans id holder) (Some id) p.forest.ids_apart c in
    let t = w.total_is in
    record {
      settled = s;
      bounded = λ j. (let a = written_left_le spans id holder xs j h in let b = w.bounded j in rw n (omega arith));
      total_is = rw n (omega arith);
      handles_is =
          (let left = (released_by es id holder xs w.settled h c).left in
          let is = ap total_handles (n ∙ sym left) in
          let taken = handles-released spans id holder w.settled.forest h in
          omega (arith, is, taken, less, w.handles_is));
      few = (let a = ap length n in let b = length-nodes es in let d = length-nodes new in let e = length-changed (with_less holder) spans id in let f = length-closed-le xs (without_holder spans id holder) in let q = w.few in omega arith);
      max_low = w.max_low;
      max_high = w.max_high;
    }

pub total_positive : (es : List (ℕ × Span)) (max total handles id : ℕ) (holder : Holder) → IsConsistent es max total handles → IsHeld (nodes_of es) id holder → 0 < total
total_positive es max total handles id holder w h = let a = total-taken es id holder w.settled h in let t = w.total_is in omega arith

-- a handle that is given back is one of them
pub handles_enough : (es : List (ℕ × Span)) (max total handles id : ℕ) (holder : Holder) → IsConsistent es max total handles → IsHeld (nodes_of es) id holder → handles_in holder ≤ handles
handles_enough es max total handles id holder w h =
    let taken = handles-released (nodes_of es) id holder w.settled.forest h in
    omega (arith, taken, w.handles_is)
