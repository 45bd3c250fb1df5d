use Rattle.std.proofs.Common.{ap, ◌∙◌}
use Rattle.span_core.proofs.Deciding.{handle_from}
use Rattle.span_seats.specs.RootView.{with_number}
use Rattle.span_registry.proofs.Bridge.{sound_of}
use Rattle.span_registry.proofs.Seats.{shown_handles, shown_words, span_is_held, seated_back, seated_released, released_may_close, seated_refused, never_unknown, joined_opens, joined_id}
use Rattle.span_registry.proofs.Totals.{counted_of}
use Rattle.span_registry.proofs.with_seats.handles.try_close.Goals as goal

pub try_close_with-requires-clause-may : goal.try_close_with-requires-clause-may
try_close_with-requires-clause-may g c due lent list lent_is list_is =
    let l = c.each_slot_has_one_open_span.ensures in
    rw (lent_is, list_is)
    (released_may_close c.args.core.now c.args.root.now c.join.new.self c.args.seat c.args.id c.requires.seated c.join.ensures.in_set c.requires.shown c.join.ensures.root c.what_was_sent_is_legal.ensures.legal (sound_of _ l.one_slot l.in_layout))

pub returns-in-Ok-clause-seated : goal.returns-in-Ok-clause-seated
returns-in-Ok-clause-seated g c =
    let l = c.each_slot_has_one_open_span.ensures in
    let shown = c.in-Ok.ensures.shown in
    seated_released c.args.core.now c.args.root.now c.join.new.self c.args.seat c.args.id c.requires.seated c.join.ensures.in_set c.requires.shown c.join.ensures.root c.what_was_sent_is_legal.ensures.legal (sound_of _ l.one_slot l.in_layout)
    c.try_close_with.new.self c.args.worker c.in-Ok.ensures.accepted c.try_close_with.new.state
    (shown_handles _ _ c.join.new.self c.try_close_with.new.state shown.lent_is shown.left_is shown.called.0)
    (shown_words _ _ c.join.new.self c.try_close_with.new.state _ _ shown.lent_is shown.left_is shown.list_is shown.called.1.1)

pub returns-in-Err-clause-seated : goal.returns-in-Err-clause-seated
returns-in-Err-clause-seated g c =
    seated_refused _ _ _ _ _ c.in-Err.ensures.refused (seated_back c.args.core.now c.args.root.now c.join.new.self c.args.seat c.args.id c.requires.seated c.join.ensures.in_set c.requires.shown c.join.ensures.root _ (c.split.ensures.root ∙ ap with_number c.in-Err.ensures.not_shown))

pub returns-in-Ok-clause-done : goal.returns-in-Ok-clause-done
returns-in-Ok-clause-done g c =
    (counted_of _ _ _ _ c.what_was_sent_is_legal.ensures.legal c.what_was_sent_is_legal-in-Ok.ensures.legal c.what_was_sent_is_legal-in-Ok.ensures.fits c.in-Ok.ensures.accepted, rw c.in-Ok.ensures.closed (c.the_named_span_closes_first.ensures.try_close _ _ _ _ c.in-Ok.ensures.accepted))

pub split-requires : goal.split-requires
split-requires g c = joined_opens c.args.root.now c.try_close_with.new.state _ _ (c.in-Err.ensures.not_shown ∙ c.join.ensures.root) c.join.ensures.is_open

pub returns-in-Err-clause-done : goal.returns-in-Err-clause-done
returns-in-Err-clause-done g c =
    let known = handle_from c.args.core.now.world.spans c.args.id (span_is_held c.args.core.now c.args.root.now c.join.new.self c.args.seat c.args.id c.requires.seated c.join.ensures.in_set c.requires.shown c.join.ensures.root) in (
      record { refused = c.in-Err.ensures.refused; never_unknown = never_unknown _ _ _ _ known c.in-Err.ensures.refused },
      c.split.ensures.id ∙ joined_id c.args.root.now c.try_close_with.new.state _ _ (c.in-Err.ensures.not_shown ∙ c.join.ensures.root) ∙ c.requires.shown,
    )
