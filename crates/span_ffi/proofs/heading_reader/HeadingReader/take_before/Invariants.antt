use Rattle.std.proofs.Common.{◌≡◌, ◌+◌, length}
use Rattle.rtrb.specs.Ring.{received, known_items}
use Rattle.span_outlet.specs.inside.Ends.{name_of_consumer}
use Rattle.span_ffi.specs.HeadingReader.{TakesHeadings}
use Rattle.span_ffi.specs.inside.HeadingsKept.{AreKept}
use Rattle.span_ffi.proofs.heading_reader.HeadingReader.take_before.Given as goal

-- what came out so far is early enough, and what is still to come stands in the ring
abbrev pub invariant-loop : goal.invariant-loop
invariant-loop l = record {
  kept : AreKept (received l.self-inside.consumer) l.self-inside.last l.self-inside.spans.items;
  standing : length (known_items l.self-inside.consumer) + l.counter ≡ l.standing;
  takes : TakesHeadings l.batches l.fn.self (record {
    name = name_of_consumer l.self-inside.consumer;
    looks = l.self-inside.looks;
    received = received l.self-inside.consumer;
    standing = known_items l.self-inside.consumer;
  });
}
