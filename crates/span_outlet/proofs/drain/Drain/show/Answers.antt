use Rattle.std.proofs.Common.{map, sym, ◌∙◌}
use Rattle.std.proofs.lemmas.List.{map-append}
use Rattle.rtrb.specs.Ring.{received, known_items}
use Rattle.span_outlet.specs.Posted.{plain_posted}
use Rattle.span_outlet.proofs.drain.Drain.show.Goals as goal

pub returns-clause-taken : goal.returns-clause-taken
returns-clause-taken g c =
    let old = c.self.inside.consumer in
    let new = c.look_beside.new.consumer in
    let same = c.look_beside.ensures.looked.1 in
    let whole = sym (map-append plain_posted (received new) (known_items new)) ∙ c.look_beside.ensures.fifo in
    (map plain_posted (known_items new), rw (← c.self.view_is, ← same) whole)
