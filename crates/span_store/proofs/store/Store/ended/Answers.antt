use Rattle.std.proofs.Common.{Some, None, cond, sym, ap, ◌∙◌}
use Rattle.std.proofs.lemmas.Bool.{false≢true}
use Rattle.span_id.specs.declared.fault.Fault.TheVariants.{Unknown}
use Rattle.span_store.specs.Calls.{Ended}
use Rattle.span_store.proofs.Views.{view_of, after_refused, ended_refused}
use Rattle.span_store.proofs.Ended.{IsEnding, ending, parent_counted, root_consistent, root_view, root_told, child_consistent, child_view, child_told, ending_accepted}
use Rattle.span_store.proofs.store.Store.ended.Goals as goal
use Rattle.span_store.proofs.store.Store.ended.Goals.{In-Some}

pub returns-then-not-is_closing-clause-refused : goal.returns-then-not-is_closing-clause-refused
returns-then-not-is_closing-clause-refused c =
    let i = c.self.inside in
    rw (← c.self.view_is) (ended_refused i.slots i.max_count c.args.id c.self.invariant.counted (λ h. false≢true (sym c.if-not-is_closing.true ∙ c.is_closing.ensures.1 h)))

pub returns-then-not-is_closing-clause-change : goal.returns-then-not-is_closing-clause-change
returns-then-not-is_closing-clause-change c =
    let i = c.self.inside in
    rw (← c.self.view_is) (sym (after_refused (view_of i.slots i.max_count) (Ended c.args.id) Unknown (ended_refused i.slots i.max_count c.args.id c.self.invariant.counted (λ h. false≢true (sym c.if-not-is_closing.true ∙ c.is_closing.ensures.1 h)))))

-- the entry that was taken out
out : (c : In-Some) → IsEnding c.self.inside.slots c.remove.new.self c.args.id c.in-Some.entry
out c = ending c.self.inside.slots c.remove.new.self c.args.id c.in-Some.entry c.remove.result c.remove.ensures.value c.in-Some.is c.remove.ensures.table (c.is_closing.ensures.0 c.if-not-is_closing.false)

pub drop_child-requires : goal.drop_child-requires
drop_child-requires c =
    let i = c.self.inside in
    parent_counted i.slots c.remove.new.self i.max_count i.handles c.args.id c.in-Some.entry c.self.invariant (out (goal.at.drop_child-requires c).In-Some) c.in-Some-parent.parent c.in-Some-parent.is

pub invariant_of-self : goal.invariant_of-self
invariant_of-self c =
    let i = c.self.inside in
    root_consistent i.slots c.remove.new.self i.max_count i.handles c.args.id c.in-Some.entry c.self.invariant (out (goal.at.invariant_of-self c).In-Some) c.in_default-parent.is

pub returns-in_default-parent-clause-accepted : goal.returns-in_default-parent-clause-accepted
returns-in_default-parent-clause-accepted c =
    let i = c.self.inside in
    rw (← c.self.view_is) (ending_accepted i.slots c.remove.new.self i.max_count i.handles c.args.id c.in-Some.entry c.self.invariant (out (goal.at.returns-in_default-parent-clause-accepted c).In-Some))

pub returns-in_default-parent-clause-change : goal.returns-in_default-parent-clause-change
returns-in_default-parent-clause-change c =
    let i = c.self.inside in
    rw (← c.self.view_is) (root_view i.slots c.remove.new.self i.max_count i.handles c.args.id c.in-Some.entry c.self.invariant (out (goal.at.returns-in_default-parent-clause-change c).In-Some) c.in_default-parent.is)

pub returns-in_default-parent-clause-parent : goal.returns-in_default-parent-clause-parent
returns-in_default-parent-clause-parent c =
    let i = c.self.inside in
    rw (← c.self.view_is) (root_told i.slots c.remove.new.self i.max_count i.handles c.args.id c.in-Some.entry c.self.invariant (out (goal.at.returns-in_default-parent-clause-parent c).In-Some) c.in_default-parent.is)

pub invariant_of-self-then-drop_child : goal.invariant_of-self-then-drop_child
invariant_of-self-then-drop_child c =
    let i = c.self.inside in
    child_consistent i.slots c.remove.new.self i.max_count i.handles c.args.id c.in-Some.entry c.self.invariant (out (goal.at.invariant_of-self-then-drop_child c).In-Some) c.in-Some-parent.parent c.in-Some-parent.is c.drop_child.new.slots c.drop_child.ensures.table

pub returns-then-drop_child-clause-accepted : goal.returns-then-drop_child-clause-accepted
returns-then-drop_child-clause-accepted c =
    let i = c.self.inside in
    rw (← c.self.view_is) (ending_accepted i.slots c.remove.new.self i.max_count i.handles c.args.id c.in-Some.entry c.self.invariant (out (goal.at.returns-then-drop_child-clause-accepted c).In-Some))

pub returns-then-drop_child-clause-change : goal.returns-then-drop_child-clause-change
returns-then-drop_child-clause-change c =
    let i = c.self.inside in
    rw (← c.self.view_is) (child_view i.slots c.remove.new.self i.max_count i.handles c.args.id c.in-Some.entry c.self.invariant (out (goal.at.returns-then-drop_child-clause-change c).In-Some) c.in-Some-parent.parent c.in-Some-parent.is c.drop_child.new.slots c.drop_child.ensures.table)

pub returns-then-drop_child-clause-parent : goal.returns-then-drop_child-clause-parent
returns-then-drop_child-clause-parent c =
    let i = c.self.inside in
    rw (← c.self.view_is) (ap (λ b. cond b (Some c.in-Some-parent.parent) None) (sym c.if-drop_child.true) ∙ child_told i.slots c.remove.new.self i.max_count i.handles c.args.id c.in-Some.entry c.self.invariant (out (goal.at.returns-then-drop_child-clause-parent c).In-Some) c.in-Some-parent.parent c.in-Some-parent.is c.drop_child.new.slots c.drop_child.ensures.table c.drop_child.result c.drop_child.ensures.last)

pub invariant_of-self-2 : goal.invariant_of-self-2
invariant_of-self-2 c =
    let i = c.self.inside in
    child_consistent i.slots c.remove.new.self i.max_count i.handles c.args.id c.in-Some.entry c.self.invariant (out (goal.at.invariant_of-self-2 c).In-Some) c.in-Some-parent.parent c.in-Some-parent.is c.drop_child.new.slots c.drop_child.ensures.table

pub returns-clause-accepted : goal.returns-clause-accepted
returns-clause-accepted c =
    let i = c.self.inside in
    rw (← c.self.view_is) (ending_accepted i.slots c.remove.new.self i.max_count i.handles c.args.id c.in-Some.entry c.self.invariant (out (goal.at.returns-clause-accepted c).In-Some))

pub returns-clause-change : goal.returns-clause-change
returns-clause-change c =
    let i = c.self.inside in
    rw (← c.self.view_is) (child_view i.slots c.remove.new.self i.max_count i.handles c.args.id c.in-Some.entry c.self.invariant (out (goal.at.returns-clause-change c).In-Some) c.in-Some-parent.parent c.in-Some-parent.is c.drop_child.new.slots c.drop_child.ensures.table)

pub returns-clause-parent : goal.returns-clause-parent
returns-clause-parent c =
    let i = c.self.inside in
    rw (← c.self.view_is) (ap (λ b. cond b (Some c.in-Some-parent.parent) None) (sym c.if-drop_child.false) ∙ child_told i.slots c.remove.new.self i.max_count i.handles c.args.id c.in-Some.entry c.self.invariant (out (goal.at.returns-clause-parent c).In-Some) c.in-Some-parent.parent c.in-Some-parent.is c.drop_child.new.slots c.drop_child.ensures.table c.drop_child.result c.drop_child.ensures.last)
