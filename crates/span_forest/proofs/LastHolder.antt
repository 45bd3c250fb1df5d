-- A span that goes with the last holder that it has: the holder isn't taken out first.
use Rattle.std.proofs.Common.{◌≡◌, ℕ, List, [], ◌∷◌, length, Some, refl, sym, ap, subst, ◌∙◌, inl, inr, arith}
use Rattle.std.proofs.lemmas.Bool.Decides.{eqb_tells}
use Rattle.span_slots.specs.Table.{Table, without_entry}
use Rattle.span_forest.specs.declared.span.Span.{Span}
use Rattle.span_forest.specs.declared.span.Holder.{Holder}
use Rattle.span_forest.specs.Node.{Node}
use Rattle.span_forest.specs.Spans.{Spans, parent_of, with_change, nodes_of}
use Rattle.span_forest.specs.Count.{children}
use Rattle.span_forest.specs.Holders.{IsHeld, with_less}
use Rattle.span_forest.specs.Release.{without_holder, freed_after}
use Rattle.span_forest.specs.inside.Invariant.{IsSettled}
use Rattle.span_forest.specs.inside.Chain.{without_all, Chain, IsPending}
use Rattle.span_forest.proofs.Nodes.{with_less-parent, children-changed}
use Rattle.span_forest.proofs.Chains.{IsPending-without}
use Rattle.span_forest.proofs.Along.{Along_none}
use Rattle.span_forest.proofs.Counts.{Closed, Closes}

-- a chain that closes something begins with its span
pub chain_first : (spans : Spans) (id first : ℕ) (closed above : List ℕ) → Chain spans (Some id) closed → closed ≡ first ∷ above → closed ≡ id ∷ above
chain_first spans id first closed above chain is =
    let c : Chain spans (Some id) (first ∷ above) = subst (Chain spans (Some id)) is chain in
    let same : id ≡ first = (let e = c.0 in cc) in
    is ∙ ap (λ x. x ∷ above) (sym same)

-- whatever a span was changed to, nothing is left of it where it is taken out
without-changed : (f : Node → Node) (spans : Spans) (id : ℕ) → without_entry (with_change f spans id) id ≡ without_entry spans id
without-changed f [] id = refl
without-changed f (e ∷ es) id =
    let r = without-changed f es id in
    elim (eqb_tells e.0 id) [ inl t ↦ rw t.0 r | inr t ↦ rw (t.0, r) refl ]

-- a span that closes has no child, already before its holder goes
pub leaf_before : (spans : Spans) (id : ℕ) (holder : Holder) (closed above : List ℕ) → Chain (without_holder spans id holder) (Some id) closed → closed ≡ id ∷ above → children spans id ≡ 0
leaf_before spans id holder closed above chain is =
    let c : Chain (without_holder spans id holder) (Some id) (id ∷ above) = subst (Chain (without_holder spans id holder) (Some id)) is chain in
    let none = c.1 in
    let same = children-changed (with_less holder) (with_less-parent holder) spans id id in
    omega (arith, none, same)

module _ (t now : Table Span) (id : ℕ) (holder : Holder) (closed above : List ℕ) (is : closed ≡ id ∷ above) (gone : Closed t now id) where
  nodes_left : nodes_of now.entries ≡ without_entry (without_holder (nodes_of t.entries) id holder) id
  nodes_left = gone.nodes ∙ sym (without-changed (with_less holder) (nodes_of t.entries) id)

  -- what is left to close once the span has gone with its holder
  pub Closes_above : IsSettled t.entries → IsHeld (nodes_of t.entries) id holder → Chain (without_holder (nodes_of t.entries) id holder) (Some id) closed → Closes now now [] above
  Closes_above w h chain =
      let start = without_holder (nodes_of t.entries) id holder in
      let c : Chain start (Some id) (id ∷ above) = subst (Chain start (Some id)) is chain in
      record {
        next = parent_of start id;
        pending = subst (λ m. IsPending m (parent_of start id)) (sym nodes_left) (IsPending-without start id (Along_none t.entries id holder w h).pending c.1);
        chain = subst (λ m. Chain m (parent_of start id) above) (sym nodes_left) c.2;
        counted = gone.counted;
        nodes = refl;
        table = refl;
      }

  -- the spans that are left at the end, and the table
  pub nodes_at_end : (new : Table Span) → Closes now new above [] → nodes_of new.entries ≡ without_all (without_holder (nodes_of t.entries) id holder) closed
  nodes_at_end new w =
      w.nodes ∙ (ap (λ m. without_all m above) nodes_left ∙ ap (without_all (without_holder (nodes_of t.entries) id holder)) (sym is))

  pub table_at_end : (new : Table Span) → Closes now new above [] → new ≡ record t { entries = new.entries; freed = freed_after t.last_generation t.given t.freed closed }
  table_at_end new w =
      w.table
      ∙ (ap (λ (u : Table Span). record u { entries = new.entries; freed = freed_after u.last_generation u.given u.freed above }) gone.table
      ∙ ap (λ xs. record t { entries = new.entries; freed = freed_after t.last_generation t.given t.freed xs }) (sym is))

-- a list without elements is empty
pub none_from_length : (xs : List ℕ) → length xs ≡ 0 → xs ≡ []
none_from_length [] h = refl
none_from_length (x ∷ xs) h = absurd (omega (arith, h))
