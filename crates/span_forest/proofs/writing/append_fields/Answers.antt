use Rattle.std.proofs.Common.{sym, ap, ◌∙◌}
use Rattle.std.specs.Option.{option_copied_mut}
use Rattle.span_forest.specs.Node.{node_of}
use Rattle.span_forest.specs.Spans.{IsOpen, nodes_of}
use Rattle.span_forest.proofs.Adds.{not_found}
use Rattle.span_forest.proofs.Counts.{node_found}
use Rattle.span_forest.proofs.Finds.{open_from_node}
use Rattle.span_forest.proofs.Writes.{on_ok, why_refused, settled_appended, written_appended, refused_appended}
use Rattle.span_forest.proofs.writing.append_fields.Goals as goal
use Rattle.span_forest.proofs.writing.append_fields.Goals.{In-Some}

pub returns-in-None-clause-refused : goal.returns-in-None-clause-refused
returns-in-None-clause-refused c =
    not_found c.args.slots.now.entries c.args.id (sym c.get_mut.ensures.value ∙ ap option_copied_mut c.in-None.is)

open_here : (c : In-Some) → IsOpen (nodes_of c.args.slots.now.entries) c.args.id
open_here c =
    open_from_node (nodes_of c.args.slots.now.entries) c.args.id (node_of c.in-Some.span.now) (node_found c.args.slots.now.entries c.args.id c.in-Some.span.now (sym c.get_mut.ensures.value ∙ ap option_copied_mut c.in-Some.is))

pub returns-in-Some-clause-found : goal.returns-in-Some-clause-found
returns-in-Some-clause-found c =
    on_ok c.extend_shared.result (open_here (goal.at.returns-in-Some-clause-found c).In-Some)

pub returns-in-Some-clause-refused : goal.returns-in-Some-clause-refused
returns-in-Some-clause-refused c =
    why_refused c.extend_shared.result (nodes_of c.args.slots.now.entries) c.args.id (open_here (goal.at.returns-in-Some-clause-refused c).In-Some) c.extend_shared.ensures.memory

pub returns-in-Some-clause-settled : goal.returns-in-Some-clause-settled
returns-in-Some-clause-settled c =
    settled_appended c.args.slots.now.entries c.args.id c.in-Some.span.now c.extend_shared.new.self c.args.fields.now c.extend_shared.result c.requires.settled (sym c.get_mut.ensures.value ∙ ap option_copied_mut c.in-Some.is) c.extend_shared.ensures.fields c.extend_shared.ensures.unchanged

pub returns-in-Some-clause-written : goal.returns-in-Some-clause-written
returns-in-Some-clause-written c =
    written_appended c.args.slots.now.entries c.args.id c.in-Some.span.now c.extend_shared.new.self c.args.fields.now c.extend_shared.result c.requires.settled (sym c.get_mut.ensures.value ∙ ap option_copied_mut c.in-Some.is) c.extend_shared.ensures.fields

pub returns-in-Some-clause-unchanged : goal.returns-in-Some-clause-unchanged
returns-in-Some-clause-unchanged c =
    refused_appended c.args.slots.now.entries c.args.id c.in-Some.span.now c.extend_shared.new.self c.args.fields.now c.extend_shared.result c.requires.settled (sym c.get_mut.ensures.value ∙ ap option_copied_mut c.in-Some.is) c.extend_shared.ensures.unchanged
