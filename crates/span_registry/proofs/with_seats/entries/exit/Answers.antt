use Rattle.span_outlet.specs.Request.{exit}
use Rattle.span_core.proofs.Judging.{tests_of}
use Rattle.span_registry.proofs.Bridge.{sound_of}
use Rattle.span_registry.proofs.Seats.{shown_handles, shown_words, exited_may_close, seated_exited}
use Rattle.span_registry.proofs.Totals.{counted_of}
use Rattle.span_registry.proofs.with_seats.entries.exit.Goals as goal

pub exit_with-requires-clause-may : goal.exit_with-requires-clause-may
exit_with-requires-clause-may g c due lent list lent_is list_is =
    let l = c.each_slot_has_one_open_span.ensures in
    rw (lent_is, list_is)
    (exited_may_close c.args.core.now c.args.worker c.args.id c.what_was_sent_is_legal.ensures.legal (sound_of _ l.one_slot l.in_layout) (tests_of c.args.core.now (exit c.args.worker c.args.id) due).known c.args.root.now c.requires.seated)

pub returns-clause-seated : goal.returns-clause-seated
returns-clause-seated g c =
    let l = c.each_slot_has_one_open_span.ensures in
    let shown = c.in_ok-closed.ensures.shown in
    seated_exited c.args.core.now c.args.worker c.args.id c.what_was_sent_is_legal.ensures.legal (sound_of _ l.one_slot l.in_layout) c.in_ok-closed.ensures.accepted.step.changes.known c.args.root.now c.requires.seated
    c.exit_with.new.self c.in_ok-closed.ensures.accepted c.exit_with.new.state
    (shown_handles _ _ c.args.root.now c.exit_with.new.state shown.lent_is shown.left_is shown.called.0)
    (shown_words _ _ c.args.root.now c.exit_with.new.state _ _ shown.lent_is shown.left_is shown.list_is shown.called.1.1)

pub returns-clause-accepted : goal.returns-clause-accepted
returns-clause-accepted g c =
    counted_of _ _ _ _ c.what_was_sent_is_legal.ensures.legal c.what_was_sent_is_legal-2.ensures.legal c.what_was_sent_is_legal-2.ensures.fits c.in_ok-closed.ensures.accepted
