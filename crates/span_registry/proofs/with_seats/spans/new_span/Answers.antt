use Rattle.std.proofs.Common.{◌∙◌}
use Rattle.span_registry.proofs.Bridge.{sound_of, added_of}
use Rattle.span_registry.proofs.Seats.{new_slot, new_free, new_opens, new_id, seated_new}
use Rattle.span_registry.proofs.Totals.{counted_of}
use Rattle.span_registry.proofs.with_seats.spans.new_span.Goals as goal

pub mark_open-requires-clause-slot : goal.mark_open-requires-clause-slot
mark_open-requires-clause-slot g c =
    let l = c.each_slot_has_one_open_span.ensures in
    let m = c.each_slot_has_one_open_span-2.ensures in
    let made = rw c.in-Some.is at c.in_ok-id.ensures.made in
    let added = added_of _ _ _ _ _ _ _ c.what_was_sent_is_legal.ensures.legal m.one_slot m.in_range made in
    new_slot c.args.core.now c.new_span.new.self _ (sound_of _ l.one_slot l.in_layout) added _ c.requires.seated

pub mark_open-requires-clause-free : goal.mark_open-requires-clause-free
mark_open-requires-clause-free g c =
    let l = c.each_slot_has_one_open_span.ensures in
    let m = c.each_slot_has_one_open_span-2.ensures in
    let made = rw c.in-Some.is at c.in_ok-id.ensures.made in
    let added = added_of _ _ _ _ _ _ _ c.what_was_sent_is_legal.ensures.legal m.one_slot m.in_range made in
    new_free c.args.core.now c.new_span.new.self _ (sound_of _ l.one_slot l.in_layout) added _ c.requires.seated

pub split-seat-requires : goal.split-seat-requires
split-seat-requires g c =
    let l = c.each_slot_has_one_open_span.ensures in
    let m = c.each_slot_has_one_open_span-2.ensures in
    let made = rw c.in-Some.is at c.in_ok-id.ensures.made in
    let added = added_of _ _ _ _ _ _ _ c.what_was_sent_is_legal.ensures.legal m.one_slot m.in_range made in
    new_opens c.args.core.now c.new_span.new.self _ (sound_of _ l.one_slot l.in_layout) added c.args.root.now c.requires.seated c.mark_open.new.self c.mark_open.ensures

pub returns-clause-seated : goal.returns-clause-seated
returns-clause-seated g c =
    let l = c.each_slot_has_one_open_span.ensures in
    let m = c.each_slot_has_one_open_span-2.ensures in
    let made = rw c.in-Some.is at c.in_ok-id.ensures.made in
    let added = added_of _ _ _ _ _ _ _ c.what_was_sent_is_legal.ensures.legal m.one_slot m.in_range made in
    seated_new c.args.core.now c.new_span.new.self _ (sound_of _ l.one_slot l.in_layout) added c.args.root.now c.requires.seated c.mark_open.new.self c.split-seat.new.self c.mark_open.ensures c.split-seat.ensures.root made.limits

pub returns-clause-slot : goal.returns-clause-slot
returns-clause-slot g c =
    let l = c.each_slot_has_one_open_span.ensures in
    let m = c.each_slot_has_one_open_span-2.ensures in
    let made = rw c.in-Some.is at c.in_ok-id.ensures.made in
    let added = added_of _ _ _ _ _ _ _ c.what_was_sent_is_legal.ensures.legal m.one_slot m.in_range made in
    λ id is. added.free id is

pub returns-clause-given : goal.returns-clause-given
returns-clause-given g c =
    let l = c.each_slot_has_one_open_span.ensures in
    let m = c.each_slot_has_one_open_span-2.ensures in
    let made = rw c.in-Some.is at c.in_ok-id.ensures.made in
    let added = added_of _ _ _ _ _ _ _ c.what_was_sent_is_legal.ensures.legal m.one_slot m.in_range made in
    c.split-seat.ensures.id ∙ new_id c.args.core.now c.new_span.new.self _ (sound_of _ l.one_slot l.in_layout) added c.args.root.now c.requires.seated c.mark_open.new.self c.mark_open.ensures

pub returns-clause-made : goal.returns-clause-made
returns-clause-made g c =
    counted_of _ _ _ _ c.what_was_sent_is_legal.ensures.legal c.what_was_sent_is_legal-2.ensures.legal c.what_was_sent_is_legal-2.ensures.fits (rw c.in-Some.is at c.in_ok-id.ensures.made)
