use Rattle.std.proofs.Common.{◌≡◌, ◌-◌, Some, sym, ap, subst, ◌∙◌, arith}
use Rattle.span_forest.specs.Spans.{nodes_of}
use Rattle.span_forest.specs.Holders.{IsHeld}
use Rattle.span_forest.specs.Release.{without_holder, closing_list}
use Rattle.span_forest.specs.inside.Chain.{Chain}
use Rattle.span_forest.proofs.Along.{closing_chain, released_by}
use Rattle.span_forest.proofs.Counts.{release_view, IsConsistent-released, total_positive, handles_enough}
use Rattle.span_forest.proofs.forest.Forest.release_for_fields.Goals as goal
use Rattle.span_forest.proofs.forest.Forest.release_for_fields.Goals.{After-self}

held : (c : After-self) → IsHeld (nodes_of c.self.inside.slots.entries) c.args.id c.args.holder
held c = rw (← c.self.view_is) at c.requires.held

list : (c : After-self) → c.args.closing.now ≡ closing_list (nodes_of c.self.inside.slots.entries) c.args.id c.args.holder
list c = rw (← c.self.view_is) at c.requires.list

chain : (c : After-self) → Chain (without_holder (nodes_of c.self.inside.slots.entries) c.args.id c.args.holder) (Some c.args.id) c.args.closing.now
chain c =
    let i = c.self.inside in
    subst (Chain (without_holder (nodes_of i.slots.entries) c.args.id c.args.holder) (Some c.args.id)) (sym (list c)) (closing_chain i.slots.entries c.args.id c.args.holder c.self.invariant.settled (held c))

pub let_go-fields-requires-clause-chain : goal.let_go-fields-requires-clause-chain
let_go-fields-requires-clause-chain c = chain (goal.at.let_go-fields-requires-clause-chain c).After-self

pub overflow_sub-self : goal.overflow_sub-self
overflow_sub-self c =
    let i = c.self.inside in
    total_positive i.slots.entries i.max_count i.total i.handles c.args.id c.args.holder c.self.invariant (held (goal.at.overflow_sub-self c).After-self)

pub overflow_sub-self-2 : goal.overflow_sub-self-2
overflow_sub-self-2 c =
    let i = c.self.inside in
    let enough = handles_enough i.slots.entries i.max_count i.total i.handles c.args.id c.args.holder c.self.invariant (held (goal.at.overflow_sub-self-2 c).After-self) in
    omega (arith, enough, c.handles_in.ensures)

pub invariant_of-self : goal.invariant_of-self
invariant_of-self c =
    let i = c.self.inside in
    let start = (goal.at.invariant_of-self c).After-self in
    IsConsistent-released i.slots.entries c.let_go-fields.new.slots.entries i.max_count i.total i.handles (i.handles - c.handles_in.result) c.args.id c.args.holder c.args.closing.now c.self.invariant (held start) (chain start) c.let_go-fields.ensures.settled c.let_go-fields.ensures.nodes (ap (λ n. i.handles - n) c.handles_in.ensures)

pub returns-clause-forest : goal.returns-clause-forest
returns-clause-forest c =
    let i = c.self.inside in
    let start = (goal.at.returns-clause-forest c).After-self in
    let left = (released_by i.slots.entries c.args.id c.args.holder c.args.closing.now c.self.invariant.settled (held start) (chain start)).left in
    rw (← c.self.view_is) (release_view i.slots c.let_go-fields.new.slots i.max_count c.args.id c.args.holder c.args.closing.now c.let_go-fields.ensures.table (c.let_go-fields.ensures.nodes ∙ sym left) (list start))

pub returns-clause-fields : goal.returns-clause-fields
returns-clause-fields c = λ some. rw (← c.self.view_is) (c.let_go-fields.ensures.fields some)
