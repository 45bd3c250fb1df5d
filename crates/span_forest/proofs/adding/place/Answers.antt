use Rattle.std.proofs.Common.{◌≡◌, ◌<◌, sym, ap, subst, drop}
use Rattle.std.specs.Option.{IsSomeAnd}
use Rattle.span_id.specs.Id.{slot_of}
use Rattle.span_slots.specs.Table.{Table, issue, with_entry}
use Rattle.span_forest.specs.declared.span.Span.{Span}
use Rattle.span_forest.specs.Node.{node_of}
use Rattle.span_forest.specs.Spans.{nodes_of}
use Rattle.span_forest.specs.inside.Invariant.{IsSettled}
use Rattle.span_forest.proofs.Placed.{stored, stored_is, issued_alone, placed_root, placed_child, parent_there}
use Rattle.span_forest.proofs.adding.place.Goals as goal
use Rattle.span_forest.proofs.adding.place.Goals.{in-Some, in_default-parent}

pub raise-requires : goal.raise-requires
raise-requires c =
    let mid : c.insert.new.self ≡ stored c.args.slots.now c.in-Ok.id c.args.span = stored_is c.args.slots.now c.insert.new.self c.in-Ok.id c.args.span c.in-Ok.ensures.id c.in-Ok.ensures.table c.insert.ensures.change in
    let up = parent_there c.args.slots.now c.in-Ok.id c.args.span c.requires.settled c.in-Ok.ensures.vacant c.requires.new c.insert.new.self c.in-Some.parent 4294967295 mid c.in-Some.is c.requires.above in
    subst (λ o. IsSomeAnd o (λ (s : Span). s.count < 4294967295)) (sym up.3) up.2

pub returns-clause-settled : goal.returns-clause-settled
returns-clause-settled c =
    let mid : c.insert.new.self ≡ stored c.args.slots.now c.in-Ok.id c.args.span = stored_is c.args.slots.now c.insert.new.self c.in-Ok.id c.args.span c.in-Ok.ensures.id c.in-Ok.ensures.table c.insert.ensures.change in
    elim c.match-parent.branch [
      | in-Some w ↦ subst (λ (x : Table Span). IsSettled x.entries) (sym w.slots-is) (placed_child c.args.slots.now c.in-Ok.id c.args.span c.requires.settled c.in-Ok.ensures.vacant c.requires.new c.insert.new.self w.raise.new.slots w.in-Some.parent 4294967295 mid w.in-Some.is c.requires.above w.raise.ensures).settled
      | in_default-parent w ↦ subst (λ (x : Table Span). IsSettled x.entries) (sym w.slots-is) (placed_root c.args.slots.now c.in-Ok.id c.args.span c.requires.settled c.in-Ok.ensures.vacant c.requires.new c.insert.new.self mid w.in_default-parent.is).settled
    ]

pub returns-clause-nodes : goal.returns-clause-nodes
returns-clause-nodes c =
    let mid : c.insert.new.self ≡ stored c.args.slots.now c.in-Ok.id c.args.span = stored_is c.args.slots.now c.insert.new.self c.in-Ok.id c.args.span c.in-Ok.ensures.id c.in-Ok.ensures.table c.insert.ensures.change in
    elim c.match-parent.branch [
      | in-Some w ↦ subst (λ (x : Table Span). nodes_of x.entries ≡ with_entry (nodes_of c.args.slots.now.entries) c.in-Ok.id (node_of c.args.span)) (sym w.slots-is) (placed_child c.args.slots.now c.in-Ok.id c.args.span c.requires.settled c.in-Ok.ensures.vacant c.requires.new c.insert.new.self w.raise.new.slots w.in-Some.parent 4294967295 mid w.in-Some.is c.requires.above w.raise.ensures).nodes
      | in_default-parent w ↦ subst (λ (x : Table Span). nodes_of x.entries ≡ with_entry (nodes_of c.args.slots.now.entries) c.in-Ok.id (node_of c.args.span)) (sym w.slots-is) (placed_root c.args.slots.now c.in-Ok.id c.args.span c.requires.settled c.in-Ok.ensures.vacant c.requires.new c.insert.new.self mid w.in_default-parent.is).nodes
    ]

pub returns-clause-table : goal.returns-clause-table
returns-clause-table c =
    let mid : c.insert.new.self ≡ stored c.args.slots.now c.in-Ok.id c.args.span = stored_is c.args.slots.now c.insert.new.self c.in-Ok.id c.args.span c.in-Ok.ensures.id c.in-Ok.ensures.table c.insert.ensures.change in
    elim c.match-parent.branch [
      | in-Some w ↦ subst (λ (x : Table Span). x ≡ record c.args.slots.now { entries = x.entries; given = issue c.args.slots.now.given (slot_of c.in-Ok.id); freed = drop 1 c.args.slots.now.freed }) (sym w.slots-is) (placed_child c.args.slots.now c.in-Ok.id c.args.span c.requires.settled c.in-Ok.ensures.vacant c.requires.new c.insert.new.self w.raise.new.slots w.in-Some.parent 4294967295 mid w.in-Some.is c.requires.above w.raise.ensures).table
      | in_default-parent w ↦ subst (λ (x : Table Span). x ≡ record c.args.slots.now { entries = x.entries; given = issue c.args.slots.now.given (slot_of c.in-Ok.id); freed = drop 1 c.args.slots.now.freed }) (sym w.slots-is) (placed_root c.args.slots.now c.in-Ok.id c.args.span c.requires.settled c.in-Ok.ensures.vacant c.requires.new c.insert.new.self mid w.in_default-parent.is).table
    ]

pub returns-clause-never_issued : goal.returns-clause-never_issued
returns-clause-never_issued c = rw c.in-Ok.ensures.id at c.next_id_was_never_issued.ensures.never_issued

pub returns-clause-issued : goal.returns-clause-issued
returns-clause-issued c = λ other layout.
    (let mid : c.insert.new.self ≡ stored c.args.slots.now c.in-Ok.id c.args.span = stored_is c.args.slots.now c.insert.new.self c.in-Ok.id c.args.span c.in-Ok.ensures.id c.in-Ok.ensures.table c.insert.ensures.change in
    let table = returns-clause-table c in
    issued_alone c.args.slots.now c.insert.new.self c.match-parent.slots c.in-Ok.id other c.args.span c.in-Ok.ensures.id c.insert.ensures.change mid (ap (λ (x : Table Span). x.given) table) (c.insert_issues_its_id_alone.ensures.insert c.args.span other layout))
