use Rattle.std.proofs.Common.{◌∙◌, List, get_or, subst, sym, ap, length, arith}
use Rattle.std.specs.Prelude.{IfSome}
use Rattle.std.proofs.lemmas.List.Elements.{All-get_or}
use Rattle.span_core.specs.declared.notes.paths.SharedPath.{SharedPath}
use Rattle.span_core.specs.inside.Telling.{KnowsPath}
use Rattle.span_core.specs.inside.Remembering.{Remembers}
use Rattle.span_core.proofs.notes.paths.SharedPaths.remember_new.Goals as goal
use Rattle.span_core.proofs.notes.paths.SharedPaths.remember_new.Goals.{in-Some, in_default}

pub loop-path-init : goal.loop-path-init
loop-path-init c =
    λ told before forest on knows start. elim c.match-self.branch [
      | in-Some w ↦ subst (Remembers forest) (sym w.known-is) (w.remember_new.ensures told before forest on (subst (λ o. IfSome o (KnowsPath told before)) w.in-Some.is knows.first) start)
      | in_default w ↦ subst (Remembers forest) (sym w.known-is) start
    ]

pub loop-path-preserved : goal.loop-path-preserved
loop-path-preserved c =
    let item = c.path-item.result in
    let items = c.deref-path-items.ensures.value in
    let is = c.path-item.is ∙ ap (λ (paths : List SharedPath). get_or paths c.loop-path.path-index item) items in
    λ told before forest on knows start. c.remember_new-in-loop-path.ensures told before forest on
    (subst (KnowsPath told before) (sym is)
    (All-get_or (KnowsPath told before) _ c.loop-path.path-index item (omega (arith, c.loop-path-test.true, ap length items)) knows.further))
    (c.loop-path.invariant told before forest on knows start)

pub returns : goal.returns
returns c = c.loop-path.invariant
