-- The name of a ring, read off each of its ends: no public clause cites it.
use Rattle.std.specs.declared.alloc.Global.{Global}
use Rattle.rtrb.specs.declared.end.End.{End}
use Rattle.rtrb.specs.declared.producer.Producer.{Producer}
use Rattle.rtrb.specs.declared.consumer.Consumer.{Consumer}
use Rattle.span_outlet.specs.Outlet.{RingName}

-- the name that an end tells: of the crate's numbers the first is how many places there are
abbrev pub name_of_end : {T P : Type 0} → End T Global P → RingName
name_of_end end =
    record {
      places = end.names.0;
      identity = record {
        words = end.words;
        slots = end.slots;
        writer = end.names.1.0;
        reader = end.names.1.1;
        heap = end.heap;
      };
    }

abbrev pub name_of_producer : {T P : Type 0} → Producer T Global P → RingName
name_of_producer producer = name_of_end producer.end

abbrev pub name_of_consumer : {T P : Type 0} → Consumer T Global P → RingName
name_of_consumer consumer = name_of_end consumer.end
