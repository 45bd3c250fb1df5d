-- A write of one span that leaves its parent and its holders as they are.
use Rattle.std.proofs.Common.{◌≡◌, ℕ, ◌++◌, List, [], ◌∷◌, length, Option, Some, None, IsSome, refl, sym, ap, subst, ◌∙◌, inl, inr, arith}
use Rattle.std.specs.Prelude.{Result, Ok, Err, OnOk, OnErr, IfErr}
use Rattle.std.specs.Option.{option_map}
use Rattle.std.proofs.lemmas.Bool.Decides.{eqb_tells}
use Rattle.span_slots.specs.Table.{find, with_value}
use Rattle.span_id.specs.declared.fault.Fault.{Fault}
use Rattle.span_id.specs.declared.fault.Fault.TheVariants.{Memory}
use Rattle.span_forest.specs.declared.span.Span.{Span}
use Rattle.span_forest.specs.Node.{Node, node_of, with_fields}
use Rattle.span_forest.specs.Spans.{Spans, IsOpen, nodes_of, with_change, WhyNotFound}
use Rattle.span_forest.specs.Count.{holders, holders_in, reference_count, total_held}
use Rattle.span_forest.specs.inside.Invariant.{IsSettled, IsConsistent}
use Rattle.span_forest.proofs.Nodes.{find-changed_same, find-changed_other, children-changed, IsOpen-changed, IsForest-changed}
use Rattle.span_slots.proofs.Entries.{find-with_value_same, find-with_value_other}
use Rattle.span_forest.proofs.Counts.{nodes-written, changed_none, some_same}
use Rattle.span_forest.proofs.Totals.{length-nodes, length-changed}
use Rattle.span_forest.proofs.Handles.{handles-same}

holders_map : (f : Node → Node) → ((n : Node) → holders (f n) ≡ holders n) → (o : Option Node) → holders_in (option_map f o) ≡ holders_in o
holders_map f k None = refl
holders_map f k (Some n) = k n

module _ (f : Node → Node) (same_parent : (n : Node) → (f n).parent ≡ n.parent) (same_holders : (n : Node) → holders (f n) ≡ holders n) where
  pub written-changed : (spans : Spans) (id j : ℕ) → reference_count (with_change f spans id) j ≡ reference_count spans j
  written-changed spans id j =
      let d = children-changed f same_parent spans id j in
      elim (eqb_tells j id) [
        | inl t ↦ (let a = ap holders_in (find-changed_same f spans id) ∙ holders_map f same_holders (find spans id) in
            let d2 = rw t.1 at d in
            rw t.1 (omega arith))
        | inr t ↦ (let a = ap holders_in (find-changed_other f spans id j t.1) in omega arith)
      ]

  pub IsSettled-written : (es : List (ℕ × Span)) (id : ℕ) (span new : Span) → IsSettled es → find es id ≡ Some span → node_of new ≡ f (node_of span) → new.count ≡ span.count → IsSettled (with_value es id new)
  IsSettled-written es id span new w h e q =
      let n = nodes-written f es id span new w.forest.ids_apart h e in
      record {
        forest = rw n (IsForest-changed f same_parent (nodes_of es) id w.forest);
        counted = λ j s g. rw n (let k = written-changed (nodes_of es) id j in elim (eqb_tells j id) [
          | inl t ↦ (let a = some_same s new (find (with_value es id new) j) g (rw t.1 (find-with_value_same es id new (subst IsSome (sym h) refl))) in
              let b = w.counted j span (rw t.1 h) in
              let c = ap (λ (x : Span). x.count) a in
              omega arith)
          | inr t ↦ (let b = w.counted j s (sym (find-with_value_other es id j new t.1) ∙ g) in omega arith)
        ]);
        positive = λ j o. rw n (let k = written-changed (nodes_of es) id j in
            let b = w.positive j (IsOpen-changed f (nodes_of es) id j (rw n at o)) in omega arith);
      }

  pub total-written : (spans : Spans) (id : ℕ) → total_held (with_change f spans id) ≡ total_held spans
  total-written [] id = refl
  total-written (e ∷ es) id =
      let r = total-written es id in
      let k = same_holders e.1 in
      elim (eqb_tells e.0 id) [ inl t ↦ rw t.0 (omega arith) | inr t ↦ rw t.0 (omega arith) ]

  pub IsConsistent-written : (es new : List (ℕ × Span)) (max total handles id : ℕ) → ((n : Node) → (f n).handles ≡ n.handles) → IsConsistent es max total handles → IsSettled new → nodes_of new ≡ with_change f (nodes_of es) id → IsConsistent new max total handles
  IsConsistent-written es new max total handles id same_handles w s n = record {
    settled = s;
    bounded = λ j. rw n (let k = written-changed (nodes_of es) id j in let b = w.bounded j in omega arith);
    total_is = rw n (let k = total-written (nodes_of es) id in let b = w.total_is in omega arith);
    handles_is = rw n (let k = handles-same f same_handles (nodes_of es) id in omega (arith, k, w.handles_is));
    few = (let a = ap length n in let b = length-nodes es in let d = length-nodes new in let e = length-changed f (nodes_of es) id in let q = w.few in omega arith);
    max_low = w.max_low;
    max_high = w.max_high;
  }

-- a forest of the same nodes
pub IsConsistent-same : (es new : List (ℕ × Span)) (max total handles : ℕ) → IsConsistent es max total handles → IsSettled new → nodes_of new ≡ nodes_of es → IsConsistent new max total handles
IsConsistent-same es new max total handles w s n = record {
  settled = s;
  bounded = λ j. rw n (w.bounded j);
  total_is = rw n w.total_is;
  handles_is = rw n w.handles_is;
  few = (let a = ap length n in let b = length-nodes es in let d = length-nodes new in let q = w.few in omega arith);
  max_low = w.max_low;
  max_high = w.max_high;
}

pub with_fields-parent : (more : List (List ℕ × List ℕ)) (n : Node) → (with_fields more n).parent ≡ n.parent
with_fields-parent more n = refl

pub with_fields-holders : (more : List (List ℕ × List ℕ)) (n : Node) → holders (with_fields more n) ≡ holders n
with_fields-holders more n = refl

-- the code's span with these fields
abbrev pub refielded : Span → List (List ℕ × List ℕ) → Span
refielded span fields = record span { fields = fields }

module _ (es : List (ℕ × Span)) (id : ℕ) (span : Span) (new more : List (List ℕ × List ℕ)) where
  refielded_node : (fields : List (List ℕ × List ℕ)) → new ≡ fields → node_of (refielded span new) ≡ record (node_of span) { fields = fields }
  refielded_node fields h = ap (λ fields. record (node_of span) { fields = fields }) h

  pub settled_appended : {R E : Type 0} (r : Result R E) → IsSettled es → find es id ≡ Some span → OnOk r (new ≡ span.fields ++ more) → OnErr r (new ≡ span.fields) → IsSettled (with_value es id (refielded span new))
  settled_appended (Ok v) w f h k = IsSettled-written (with_fields more) (with_fields-parent more) (with_fields-holders more) es id span (refielded span new) w f (refielded_node (span.fields ++ more) h) refl
  settled_appended (Err v) w f h k = IsSettled-written (λ n. n) (λ n. refl) (λ n. refl) es id span (refielded span new) w f (refielded_node span.fields k) refl

  pub written_appended : {R E : Type 0} (r : Result R E) → IsSettled es → find es id ≡ Some span → OnOk r (new ≡ span.fields ++ more) → OnOk r (nodes_of (with_value es id (refielded span new)) ≡ with_change (with_fields more) (nodes_of es) id)
  written_appended (Ok v) w f h = nodes-written (with_fields more) es id span (refielded span new) w.forest.ids_apart f (refielded_node (span.fields ++ more) h)
  written_appended (Err v) w f h = tt

  pub refused_appended : {R E : Type 0} (r : Result R E) → IsSettled es → find es id ≡ Some span → OnErr r (new ≡ span.fields) → OnErr r (nodes_of (with_value es id (refielded span new)) ≡ nodes_of es)
  refused_appended (Ok v) w f h = tt
  refused_appended (Err v) w f h = nodes-written (λ n. n) es id span (refielded span new) w.forest.ids_apart f (refielded_node span.fields h) ∙ changed_none (nodes_of es) id

-- a forest after an append, or after one that was refused
pub IsConsistent-appended : {R E : Type 0} (r : Result R E) (es new : List (ℕ × Span)) (max total handles id : ℕ) (more : List (List ℕ × List ℕ)) → IsConsistent es max total handles → IsSettled new → OnOk r (nodes_of new ≡ with_change (with_fields more) (nodes_of es) id) → OnErr r (nodes_of new ≡ nodes_of es) → IsConsistent new max total handles
IsConsistent-appended (Ok v) es new max total handles id more w s h k = IsConsistent-written (with_fields more) (with_fields-parent more) (with_fields-holders more) es new max total handles id (λ n. refl) w s h
IsConsistent-appended (Err v) es new max total handles id more w s h k = IsConsistent-same es new max total handles w s k

pub on_ok : {R E P : Type 0} (r : Result R E) → P → OnOk r P
on_ok (Ok v) h = h
on_ok (Err v) h = tt

-- where the span is open, there was no memory
pub why_refused : {R : Type 0} (r : Result R Fault) (spans : Spans) (id : ℕ) → IsOpen spans id → IfErr r (λ fault. fault ≡ Memory) → IfErr r (λ fault. WhyNotFound spans id fault)
why_refused (Ok v) spans id o h = tt
why_refused (Err fault) spans id o h = rw h o

-- an id that isn't open finds nothing
pub closed_none : (o : Option Node) → (IsSome o → ⊥) → o ≡ None
closed_none None h = refl
closed_none (Some n) h = absurd (h refl)
