use Rattle.std.proofs.Common.{◌≡◌, ◌∙◌, ◌<◌, ℕ, true, [], ◌∷◌, ◌++◌, map, filter, length, Option, Some, None, ap, sym, refl, subst, arith}
use Rattle.std.specs.Prelude.{IfSome}
use Rattle.std.specs.List.{range_with_len}
use Rattle.span_id.specs.Id.{IsId}
use Rattle.span_slots.specs.Table.{IsIssued}
use Rattle.span_layers.specs.declared.note.Kind.TheVariants.{OnNew}
use Rattle.span_layers.specs.Note.{plain_note}
use Rattle.span_layers.specs.Filter.{admission_set}
use Rattle.span_forest.specs.Node.{new_node}
use Rattle.span_forest.specs.Spans.{find}
use Rattle.span_forest.specs.Forest.{table_of, next_span_id}
use Rattle.span_forest.specs.Add.{with_span}
use Rattle.span_stack.specs.Stack.{ids_of_each}
use Rattle.span_outlet.specs.Request.{made}
use Rattle.span_core.specs.Happening.{at_span, notes_of_all}
use Rattle.span_core.specs.Step.{is_wanted_meta, is_open_parent}
use Rattle.span_core.specs.inside.Sound.{first_note, hears}
use Rattle.span_core.specs.NextId.{next_id_after}
use Rattle.span_core.specs.inside.Given.{meta_given, fields_given}
use Rattle.span_core.specs.inside.Lent.{span_request}
use Rattle.span_core.specs.Core.{CoreView, is_parent_below_max}
use Rattle.span_core.proofs.Made.{few_made, one_made}
use Rattle.span_core.proofs.Clauses.{accepted_by}
use Rattle.span_core.proofs.Judging.{PassesTests, tests_of, one_more_fits}
use Rattle.span_core.proofs.Soundness.{IsOneMore, sound_made}
use Rattle.span_core.proofs.NewSpans.{and_first, step_new, new_notes, not_open, not_in_history}
use Rattle.span_core.proofs.KeptSummaries.{summary_new}
use Rattle.span_core.proofs.Core.make.Given as given
use Rattle.span_core.proofs.Core.make.Goals as goal
use Rattle.span_core.proofs.Core.make.Goals.{After-add_span}

-- all tests hold
tests : (g : given.Over) (c : After-add_span g) → PassesTests c.args.self.now (span_request c.args.new.now (fields_given c.args.fields))
tests g c = tests_of c.args.self.now (span_request c.args.new.now (fields_given c.args.fields)) c.requires.due

-- what holds of the core before the call, said of its parts
wanted : (g : given.Over) (c : After-add_span g) → is_wanted_meta c.self.inside.rules (meta_given c.args.new.now.meta) ≡ true
wanted g c = subst (λ (v : CoreView). is_wanted_meta v.rules (meta_given c.args.new.now.meta) ≡ true) (sym c.self.view_is) (tests g c).wanted

parent_open : (g : given.Over) (c : After-add_span g) → is_open_parent c.self.inside.forest.spans c.args.new.now.parent ≡ true
parent_open g c = subst (λ (v : CoreView). is_open_parent v.world.spans c.args.new.now.parent ≡ true) (sym c.self.view_is) (tests g c).known

bits_are : (g : given.Over) (c : After-add_span g) → c.args.new.now.bits.0 ≡ admission_set c.self.inside.rules (meta_given c.args.new.now.meta).target (meta_given c.args.new.now.meta).level
bits_are g c = subst (λ (v : CoreView). c.args.new.now.bits.0 ≡ admission_set v.rules (meta_given c.args.new.now.meta).target (meta_given c.args.new.now.meta).level) (sym c.self.view_is) c.requires.bits

within : (g : given.Over) (c : After-add_span g) → c.args.new.now.worker < length (ids_of_each c.self.inside.stacks.items)
within g c = omega (arith, c.requires.within, ap (λ (v : CoreView). v.limits.workers) c.self.view_is, c.self.invariant.0.stacks_are)

-- the forest gives the id that the history gives
next : (g : given.Over) (c : After-add_span g) → next_span_id c.self.inside.forest ≡ Some c.args.new.now.id
next g c =
    ap next_span_id c.self.invariant.0.forest_is
    ∙ ap (λ (v : CoreView). next_id_after v.limits.slots v.limits.last_generation v.sent) c.self.view_is
    ∙ c.requires.next

never : (g : given.Over) (c : After-add_span g) → IsIssued (table_of c.self.inside.forest) c.args.new.now.id → ⊥
never g c = subst (λ (o : Option ℕ). IfSome o (λ id. IsIssued (table_of c.self.inside.forest) id → ⊥)) (next g c) c.next_id_is_new.ensures.never_issued

in_layout : (g : given.Over) (c : After-add_span g) → IsId c.args.new.now.id
in_layout g c = subst (λ (o : Option ℕ). IfSome o IsId) (next g c) c.next_id_is_new.ensures.in_layout

gone : (g : given.Over) (c : After-add_span g) → find c.self.inside.forest.spans c.args.new.now.id ≡ None
gone g c = not_open c.self.inside.forest.spans c.args.new.now.id (IsIssued (table_of c.self.inside.forest) c.args.new.now.id) (c.each_slot_has_one_open_id.ensures.issued c.args.new.now.id) (never g c)

forest_is : (g : given.Over) (c : After-add_span g) → c.add_span.new.forest ≡ with_span c.self.inside.forest c.args.new.now.id (new_node (meta_given c.args.new.now.meta) (fields_given c.args.fields) c.args.new.now.parent (admission_set c.self.inside.rules (meta_given c.args.new.now.meta).target (meta_given c.args.new.now.meta).level))
forest_is g c =
    c.add_span.ensures.forest
    ∙ (λ j. with_span c.self.inside.forest c.args.new.now.id (new_node (meta_given c.args.new.now.meta) (c.in_ok-fields.ensures.fields j) c.args.new.now.parent (bits_are g c j)))

told : (g : given.Over) (c : After-add_span g) → map plain_note c.in_ok-notes.notes.items ≡ notes_of_all c.self.inside.rules c.args.new.now.worker (at_span c.add_span.new.forest.spans OnNew c.args.new.now.id (fields_given c.args.fields) ∷ [])
told g c =
    new_notes c.self.inside.rules c.args.new.now.worker c.args.new.now.id c.self.inside.forest.spans c.add_span.new.forest.spans (new_node (meta_given c.args.new.now.meta) (fields_given c.args.fields) c.args.new.now.parent (admission_set c.self.inside.rules (meta_given c.args.new.now.meta).target (meta_given c.args.new.now.meta).level)) (fields_given c.args.fields) _
    (gone g c) c.open_spans_are_counted.ensures.parent (parent_open g c) (ap (λ f. f.spans) (forest_is g c))
    (c.in_ok-notes.ensures.notes
    ∙ (λ j. map (first_note c.self.inside.forest.spans c.args.new.now.worker c.args.new.now.id c.args.new.now.parent (meta_given c.args.new.now.meta).name (c.in_ok-fields.ensures.fields j))
    (filter (hears c.self.inside.rules (bits_are g c j) OnNew) (range_with_len 0 (length c.self.inside.rules)))))

call : (g : given.Over) (c : After-add_span g) → IsOneMore c.self.inside.rules (g.O.Outlet.sent c.self.inside.outlet) (record { spans = c.self.inside.forest.spans; stacks = ids_of_each c.self.inside.stacks.items })
    (record { request = span_request c.args.new.now (fields_given c.args.fields); answer = made c.args.new.now.id; notes = map plain_note c.in_ok-notes.notes.items })
    (record { spans = c.add_span.new.forest.spans; stacks = ids_of_each c.self.inside.stacks.items }) (g.O.Outlet.sent c.put_new.new.outlet)
call g c = record {
  step = step_new _ _ _ _ _ c.args.new.now.worker c.args.new.now.id (meta_given c.args.new.now.meta) (fields_given c.args.fields) c.args.new.now.parent _
      (within g c) (in_layout g c) (not_in_history _ _ _ _ _ _ c.args.new.now.id c.self.invariant.0 (never g c)) (wanted g c) (parent_open g c) (ap (λ f. f.spans) (forest_is g c)) (told g c);
  sent = c.in_ok-put_new.ensures.sent ∙ (λ j. c.in_ok-ask.ensures.sent j ++ (record { request = span_request c.args.new.now (c.in_ok-fields.ensures.fields j); answer = made c.args.new.now.id; notes = map plain_note c.in_ok-notes.notes.items }) ∷ []);
}

pub new_notes-requires-clause-known : goal.new_notes-requires-clause-known
new_notes-requires-clause-known g c = c.none-paths.ensures _ _

pub add_span-requires-clause-open : goal.add_span-requires-clause-open
add_span-requires-clause-open g c =
    subst (λ (v : CoreView). is_open_parent v.world.spans c.args.new.now.parent ≡ true) (sym c.self.view_is)
    (tests_of c.args.self.now (span_request c.args.new.now (fields_given c.args.fields)) c.requires.due).known

pub add_span-requires-clause-count : goal.add_span-requires-clause-count
add_span-requires-clause-count g c =
    let counted = and_first _ _ (tests_of c.args.self.now (span_request c.args.new.now (fields_given c.args.fields)) c.requires.due).counts in
    ap (λ f. is_parent_below_max f.max_count c.self.inside.forest.spans c.args.new.now.parent) c.self.invariant.0.forest_is
    ∙ subst (λ (v : CoreView). is_parent_below_max v.limits.max_count v.world.spans c.args.new.now.parent ≡ true) (sym c.self.view_is) counted

pub overflow_add-self : goal.overflow_add-self
overflow_add-self g c =
    let same = ap (λ (v : CoreView). length v.sent) c.self.view_is in
    let few = one_more_fits c.args.self.now (span_request c.args.new.now (fields_given c.args.fields)) c.requires.due in
    omega (arith, c.self.invariant.0.calls_are, same, few)

pub put_new-requires-clause-countable : goal.put_new-requires-clause-countable
put_new-requires-clause-countable g c =
    let asked = ap length c.in_ok-ask.ensures.sent in
    let same = ap (λ (v : CoreView). length v.sent) c.self.view_is in
    let few = one_more_fits c.args.self.now (span_request c.args.new.now (fields_given c.args.fields)) c.requires.due in
    omega (arith, asked, same, few)

pub overflow_add-self-2 : goal.overflow_add-self-2
overflow_add-self-2 g c =
    let few = few_made _ _ _ _ c.self.invariant.0.legal in
    let same = ap (λ (v : CoreView). length v.sent) c.self.view_is in
    let may = one_more_fits c.args.self.now (span_request c.args.new.now (fields_given c.args.fields)) c.requires.due in
    omega (arith, few, same, c.self.invariant.1, may)

pub invariant_of-self-2 : goal.invariant_of-self-2
invariant_of-self-2 g c = (
  sound_made _ _ _ _ _ _ _ _ _ _ c.args.new.now.id _ c.self.invariant.0 (call g c) (in_layout g c) (forest_is g c) c.add_span.ensures.issued,
  one_made _ _ _ _ _ c.self.invariant.1 refl (call g c).sent,
  c.add_span.ensures.remembers,
  summary_new _ _ _ _ c.args.new.now.id _ (ap (λ f. f.spans) (forest_is g c)) (gone g c) c.self.invariant.0.world c.self.invariant.3,
)

pub returns-clause-made : goal.returns-clause-made
returns-clause-made g c =
    accepted_by _ _ _ _ _ _ c.self.view_is c.requires.due (call g c)
    (record {
      limits = refl;
      rules = refl;
      times_full = c.in_ok-put_new.ensures.times_full ∙ c.in_ok-ask.ensures.times_full;
      forms = c.in_ok-put_new.ensures.forms ∙ c.in_ok-ask.ensures.forms;
      name = c.in_ok-put_new.ensures.name ∙ c.in_ok-ask.ensures.name;
    })
