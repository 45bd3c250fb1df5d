use Rattle.std.proofs.Common.{ap}
use Rattle.span_script.specs.Views.{op_seen}
use Rattle.span_script.proofs.Parts.{asked_by}
use Rattle.span_script.proofs.reading.with_op.Goals as goal

pub returns-in-New : goal.returns-in-New
returns-in-New g c = asked_by _ _ _ _ _ _ (ap op_seen c.in-New.is) c.new_span.ensures

pub returns-in-OnSpan : goal.returns-in-OnSpan
returns-in-OnSpan g c = asked_by _ _ _ _ _ _ (ap op_seen c.in-OnSpan.is) c.on_span.ensures

pub returns-in-Record : goal.returns-in-Record
returns-in-Record g c = asked_by _ _ _ _ _ _ (ap op_seen c.in-Record.is) c.record.ensures

pub returns-in-Event : goal.returns-in-Event
returns-in-Event g c = asked_by _ _ _ _ _ _ (ap op_seen c.in-Event.is) c.event.ensures

pub returns-in-Find : goal.returns-in-Find
returns-in-Find g c = asked_by _ _ _ _ _ _ (ap op_seen c.in-Find.is) c.find.ensures
