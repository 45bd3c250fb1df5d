use Rattle.std.proofs.Common.{◌≡◌, ◌<◌, [], ◌∷◌, Some, refl, sym, ap, subst, ◌∙◌}
use Rattle.std.specs.Option.{IsSomeAnd}
use Rattle.span_slots.specs.Table.{Table}
use Rattle.span_forest.specs.declared.span.Span.{Span}
use Rattle.span_forest.specs.Node.{node_of}
use Rattle.span_forest.specs.Spans.{nodes_of}
use Rattle.span_forest.specs.Holders.{held_by}
use Rattle.span_forest.specs.Release.{without_holder}
use Rattle.span_forest.specs.inside.Chain.{without_all, Chain, IsPending}
use Rattle.span_forest.proofs.Along.{Along_none}
use Rattle.span_forest.proofs.Counts.{Closed, Closes, held_counts, nodes_less, counted_less, Closes_none, Closes_turn, Closes_end, settled_at_end}
use Rattle.span_forest.proofs.LastHolder.{chain_first, leaf_before, Closes_above, nodes_at_end, table_at_end, none_from_length}
use Rattle.span_forest.proofs.closing.let_go.Goals as goal
use Rattle.span_forest.proofs.closing.let_go.Goals.{In-Some, After-close_one-fields, After-loop-gone, After-drop_holder}

-- ---- where nothing closes

pub drop_holder-requires : goal.drop_holder-requires
drop_holder-requires c =
    let s = held_counts c.args.slots.now.entries c.args.id c.args.holder c.requires.settled c.requires.held in
    subst (λ o. IsSomeAnd o (λ (span : Span). (0 < held_by c.args.holder (node_of span)) × (0 < span.count))) (sym s.1) s.2

none : (c : After-drop_holder) → c.args.closed.now ≡ []
none c = none_from_length c.args.closed.now c.in_default.ensures.cases

nodes_after : (c : After-drop_holder) → nodes_of c.drop_holder.new.slots.entries ≡ without_holder (nodes_of c.args.slots.now.entries) c.args.id c.args.holder
nodes_after c =
    let s = held_counts c.args.slots.now.entries c.args.id c.args.holder c.requires.settled c.requires.held in
    ap (λ (t : Table Span). nodes_of t.entries) (c.drop_holder.ensures s.0 s.1)
    ∙ nodes_less c.args.slots.now.entries c.args.id c.args.holder s.0 c.requires.settled.forest.ids_apart s.1

pub returns-in_default-clause-settled : goal.returns-in_default-clause-settled
returns-in_default-clause-settled c =
    let here = (goal.at.returns-in_default-clause-settled c).After-drop_holder in
    let s = held_counts c.args.slots.now.entries c.args.id c.args.holder c.requires.settled c.requires.held in
    let start = without_holder (nodes_of c.args.slots.now.entries) c.args.id c.args.holder in
    settled_at_end c.drop_holder.new.slots c.drop_holder.new.slots [] (Closes_none c.drop_holder.new.slots c.args.id []
    (subst (λ m. IsPending m (Some c.args.id)) (sym (nodes_after here)) (Along_none c.args.slots.now.entries c.args.id c.args.holder c.requires.settled c.requires.held).pending)
    (rw (c.drop_holder.ensures s.0 s.1) (counted_less c.args.slots.now.entries c.args.id c.args.holder s.0 c.requires.settled c.requires.held s.1))
    (subst (λ m. Chain m (Some c.args.id) []) (sym (nodes_after here)) (subst (Chain start (Some c.args.id)) (none here) c.requires.chain)))

pub returns-in_default-clause-nodes : goal.returns-in_default-clause-nodes
returns-in_default-clause-nodes c =
    let here = (goal.at.returns-in_default-clause-nodes c).After-drop_holder in
    nodes_after here ∙ ap (without_all (without_holder (nodes_of c.args.slots.now.entries) c.args.id c.args.holder)) (sym (none here))

pub returns-in_default-clause-table : goal.returns-in_default-clause-table
returns-in_default-clause-table c =
    let here = (goal.at.returns-in_default-clause-table c).After-drop_holder in
    let s = held_counts c.args.slots.now.entries c.args.id c.args.holder c.requires.settled c.requires.held in
    let t = c.args.slots.now in
    rw (c.drop_holder.ensures s.0 s.1, none here) refl

-- ---- where the span closes with its holder

first : (c : In-Some) → c.args.closed.now ≡ c.args.id ∷ c.in-Some.above.now
first c =
    chain_first (without_holder (nodes_of c.args.slots.now.entries) c.args.id c.args.holder) c.args.id c.in-Some.field-0-0.now c.args.closed.now c.in-Some.above.now c.requires.chain c.in-Some.ensures.cases.0

gone : (c : After-close_one-fields) → Closed c.args.slots.now c.close_one-fields.new.slots c.args.id
gone c = record { nodes = c.close_one-fields.ensures.nodes; counted = c.close_one-fields.ensures.counted; table = c.close_one-fields.ensures.table }

at_end : (c : After-loop-gone) → Closes c.close_one-fields.new.slots c.loop-gone.slots c.in-Some.above.now []
at_end c =
    Closes_end c.close_one-fields.new.slots c.loop-gone.slots c.in-Some.above.now c.loop-gone.gone-index c.loop-gone-test.false c.loop-gone.invariant

pub close_one-fields-requires-clause-leaf : goal.close_one-fields-requires-clause-leaf
close_one-fields-requires-clause-leaf c =
    leaf_before (nodes_of c.args.slots.now.entries) c.args.id c.args.holder c.args.closed.now c.in-Some.above.now c.requires.chain (first (goal.at.close_one-fields-requires-clause-leaf c).In-Some)

pub loop-gone-init : goal.loop-gone-init
loop-gone-init c =
    Closes_above c.args.slots.now c.close_one-fields.new.slots c.args.id c.args.holder c.args.closed.now c.in-Some.above.now (first (goal.at.loop-gone-init c).In-Some) (gone (goal.at.loop-gone-init c).After-close_one-fields) c.requires.settled c.requires.held c.requires.chain

pub loop-gone-preserved : goal.loop-gone-preserved
loop-gone-preserved c =
    Closes_turn c.close_one-fields.new.slots c.loop-gone.slots c.close_one.new.slots c.in-Some.above.now c.loop-gone.gone-index c.gone-item.result c.loop-gone-test.true c.gone-item.is c.loop-gone.invariant
    (record { nodes = c.close_one.ensures.nodes; counted = c.close_one.ensures.counted; table = c.close_one.ensures.table })

pub returns-clause-settled : goal.returns-clause-settled
returns-clause-settled c =
    settled_at_end c.close_one-fields.new.slots c.loop-gone.slots c.in-Some.above.now (at_end (goal.at.returns-clause-settled c).After-loop-gone)

pub returns-clause-nodes : goal.returns-clause-nodes
returns-clause-nodes c =
    nodes_at_end c.args.slots.now c.close_one-fields.new.slots c.args.id c.args.holder c.args.closed.now c.in-Some.above.now (first (goal.at.returns-clause-nodes c).In-Some) (gone (goal.at.returns-clause-nodes c).After-close_one-fields) c.loop-gone.slots (at_end (goal.at.returns-clause-nodes c).After-loop-gone)

pub returns-clause-table : goal.returns-clause-table
returns-clause-table c =
    table_at_end c.args.slots.now c.close_one-fields.new.slots c.args.id c.args.holder c.args.closed.now c.in-Some.above.now (first (goal.at.returns-clause-table c).In-Some) (gone (goal.at.returns-clause-table c).After-close_one-fields) c.loop-gone.slots (at_end (goal.at.returns-clause-table c).After-loop-gone)

-- ---- the fields of the span itself

pub returns-in_default-clause-fields : goal.returns-in_default-clause-fields
returns-in_default-clause-fields c = λ some. absurd (some (none (goal.at.returns-in_default-clause-fields c).After-drop_holder))

pub returns-clause-open : goal.returns-clause-open
returns-clause-open c = λ empty. (let never = sym (first (goal.at.returns-clause-open c).In-Some) ∙ empty in cc)

pub returns-clause-fields : goal.returns-clause-fields
returns-clause-fields c = λ _. c.close_one-fields.ensures.fields
