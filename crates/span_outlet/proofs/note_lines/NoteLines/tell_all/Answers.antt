use Rattle.std.proofs.Common.{rules, ◌≡◌, ◌<◌, ◌≤◌, length, get_or, refl, ◌∙◌}
use Rattle.span_outlet.proofs.Keeping.{gains_none, next_gains, all_gained}
use Rattle.span_outlet.proofs.Draining.{most_gained}
use Rattle.span_outlet.proofs.note_lines.NoteLines.tell_all.Goals as goal

pub loop-place-init : goal.loop-place-init
loop-place-init g c = record { forms = refl; so_far = gains_none _ _ _ c.args.self.now.in_range; before = tt }

pub loop-place-preserved : goal.loop-place-preserved
loop-place-preserved g c =
    let within : c.loop-place.place < length c.args.notes.now = search rules in
    let at : get_or c.args.notes.now c.loop-place.place c.index-notes-place.result ≡ c.index-notes-place.result = search rules in
    record {
      forms = c.tell-is_told.ensures.forms ∙ c.loop-place.invariant.forms;
      so_far = next_gains _ _ _ _ _ _ _ _ _ _ _ _ c.loop-place.invariant.forms within at c.loop-place.invariant.so_far c.tell-is_told.ensures.told;
      before = search rules;
    }

pub returns-clause-told : goal.returns-clause-told
returns-clause-told g c =
    let ends : length c.args.notes.now ≤ c.loop-place.place = search rules in
    all_gained _ _ _ _ _ _ _ _ ends c.loop-place.invariant.so_far

pub returns-clause-most : goal.returns-clause-most
returns-clause-most g c = most_gained _ _ c.args.notes.now _ _ _ _ (returns-clause-told g c)
