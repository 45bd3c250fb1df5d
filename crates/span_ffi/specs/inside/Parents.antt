-- Parents that a new span or an event may be asked for with the same outcome: no public clause cites it.
use Rattle.std.specs.Prelude.{◌≡◌, true}
use Rattle.span_outlet.specs.declared.batch.ParentOf.{ParentOf}
use Rattle.span_outlet.specs.declared.batch.ParentOf.TheVariants.{Root, Current, Of}
use Rattle.span_forest.specs.Spans.{Spans}
use Rattle.span_core.specs.Step.{is_open}

-- both are the same parent, or both are named and neither is open
abbrev pub AreAlike : Spans → ParentOf → ParentOf → Type 0
AreAlike spans Root Root = Unit {0}
AreAlike spans Current Current = Unit {0}
AreAlike spans (Of id) (Of other) = (is_open spans id ≡ is_open spans other) × (is_open spans other ≡ true → id ≡ other)
AreAlike spans _ _ = ⊥
