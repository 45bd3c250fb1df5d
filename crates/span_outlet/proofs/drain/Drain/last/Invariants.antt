use Rattle.std.proofs.Common.{◌≡◌, ◌+◌, ◌++◌, map, length}
use mathlib.Core.List.{IsPrefix}
use Rattle.rtrb.specs.Ring.{received, known_items}
use Rattle.span_outlet.specs.Lines.{plain_line}
use Rattle.span_outlet.specs.Kept.{AreKept, numbered}
use Rattle.span_outlet.specs.inside.Ends.{name_of_consumer}
use Rattle.span_outlet.specs.Posted.{plain_posted}
use Rattle.span_outlet.proofs.drain.Drain.last.Given as goal

-- what was taken is kept, and with what still stands in the ring it is all that was sent
abbrev pub invariant-loop : goal.invariant-loop
invariant-loop g l = record {
  name : name_of_consumer l.consumer ≡ name_of_consumer l.initial.consumer;
  forms : l.note_lines.forms ≡ l.initial.note_lines.forms;
  number : l.taken ≡ length (received l.consumer);
  kept : AreKept l.note_lines.forms (numbered (map plain_posted (received l.consumer))) (map plain_line l.note_lines.lines.items) l.note_lines.missed;
  fifo : map plain_posted (received l.consumer ++ known_items l.consumer) ≡ l.ring.sent;
  standing : length (known_items l.consumer) + l.counter ≡ l.standing;
  before : IsPrefix (map plain_posted (received l.initial.consumer)) (map plain_posted (received l.consumer));
  first : IsPrefix (map plain_line l.initial.note_lines.lines.items) (map plain_line l.note_lines.lines.items);
}
