use Rattle.std.specs.Arc.{arc_str_bytes}
use Rattle.span_slots.specs.Table.{IsIssued}
use Rattle.span_forest.specs.Forest.{ForestView, table_of}
use Rattle.span_core.specs.inside.Remembering.{IsReadBy, Remembers}
use Rattle.span_core.proofs.known_paths.KnownPaths.keep.Given as goal

abbrev pub invariant-loop-way : goal.invariant-loop-way
invariant-loop-way l = (forest : ForestView) → IsIssued (table_of forest) l.id → IsReadBy forest l.layers l.id (arc_str_bytes l.text)
    → Remembers forest l.fn.self → Remembers forest l.self

abbrev pub invariant-loop-way-2 : goal.invariant-loop-way-2
invariant-loop-way-2 l = (forest : ForestView) → IsIssued (table_of forest) l.id → IsReadBy forest l.layers l.id (arc_str_bytes l.text)
    → Remembers forest l.fn.self → Remembers forest l.self
