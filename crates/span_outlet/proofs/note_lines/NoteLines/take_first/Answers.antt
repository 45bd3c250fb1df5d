use Rattle.std.proofs.Common.{refl}
use Rattle.span_outlet.proofs.Keeping.{as_shown}
use Rattle.span_outlet.proofs.Draining.{one_more_taken}
use Rattle.span_outlet.proofs.note_lines.NoteLines.take_first.Goals as goal

pub returns-clause-first : goal.returns-clause-first
returns-clause-first g c = record {
  batch = c.pop_known-batch.result;
  moved = c.pop_known-batch.ensures.received.0;
  stood = c.pop_known-batch.ensures.received.1;
  brought = refl;
  gains = as_shown _ _ _ _ _ _ _ _ c.as_slice.ensures.value c.tell_all.ensures.told;
}

pub returns-clause-number : goal.returns-clause-number
returns-clause-number g c = one_more_taken _ _ c.pop_known-batch.result _ c.pop_known-batch.ensures.received.0 c.requires.number
