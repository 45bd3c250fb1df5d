use Rattle.std.proofs.Common.{◌≡◌, length, sym, ap, ◌∙◌, arith, rules}
use Rattle.span_forest.specs.Spans.{nodes_of}
use Rattle.span_forest.proofs.Slotted.{open_value}
use Rattle.span_forest.proofs.OpenIds.{ids_of_nodes, place_of, place_open}
use Rattle.span_forest.proofs.Marks.{marks_none, unmarked, issued_used, turn_held, turn_skipped, gathered_all, refilled}
use Rattle.span_forest.proofs.holding.holders_below.Goals as goal
use Rattle.span_forest.proofs.holding.holders_below.Goals.{then-find_out+in_ok-push_held, else-find_out}

pub loop-at-init : goal.loop-at-init
loop-at-init c =
    let es = c.args.slots.now.entries in
    let items : c.in_ok-marks.marks.items ≡ unmarked c.used.result = c.in_ok-marks.ensures.items_if_clones_equal (λ y h. search rules) in
    record {
      ids = c.deref-at-items.ensures.value ∙ (c.in_ok-ids.ensures.ids ∙ sym (ids_of_nodes es));
      marks = rw items (marks_none (nodes_of es) c.args.id c.used.result c.requires.forest c.requires.open (λ x o. (let used = issued_used c.args.slots.now.given x (c.each_slot_has_one_id.ensures.issued x (open_value es x o)) in omega (arith, used, c.used.ensures))));
      so_far = c.new-found.ensures.items;
    }

pub find_out-requires-clause-open : goal.find_out-requires-clause-open
find_out-requires-clause-open c =
    let spans = nodes_of c.args.slots.now.entries in
    place_open spans c.loop-at.at-index c.at-item.result c.requires.forest.ids_apart (place_of spans c.deref-at-items.result.now c.loop-at.at-index c.at-item.result c.loop-at.invariant.ids c.loop-at-test.true c.at-item.is)

pub loop-at-preserved : goal.loop-at-preserved
loop-at-preserved c =
    let spans = nodes_of c.args.slots.now.entries in
    let place = place_of spans c.deref-at-items.result.now c.loop-at.at-index c.at-item.result c.loop-at.invariant.ids c.loop-at-test.true c.at-item.is in
    let kept : length c.find_out.new.marks ≡ length c.loop-at.marks.items = c.find_out.ensures.len ∙ ap length c.deref_mut.ensures.value in
    record {
      ids = c.loop-at.invariant.ids;
      marks = rw (refilled c.loop-at.marks.len c.loop-at.marks.items c.find_out.new.marks c.loop-at.marks.ok.0 kept) c.find_out.ensures.marks;
      so_far = elim c.if-find_out.branch [
        | then-find_out+in_ok-push_held w ↦ rw (w.found-is, w.in_ok-push_held.ensures, c.loop-at.invariant.so_far) (sym (turn_held spans c.args.id c.loop-at.at-index c.at-item.result c.requires.forest.ids_apart place (sym c.find_out.ensures.below ∙ w.if-find_out.true)))
        | else-find_out w ↦ rw (w.found-is, c.loop-at.invariant.so_far) (sym (turn_skipped spans c.args.id c.loop-at.at-index c.at-item.result place (sym c.find_out.ensures.below ∙ w.if-find_out.false)))
      ];
    }

pub returns-clause-list : goal.returns-clause-list
returns-clause-list c =
    c.loop-at.invariant.so_far ∙ gathered_all (nodes_of c.args.slots.now.entries) c.args.id c.loop-at.at-index c.deref-at-items.result.now c.loop-at.invariant.ids c.loop-at-test.false
