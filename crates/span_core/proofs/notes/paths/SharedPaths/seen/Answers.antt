use Rattle.std.proofs.Common.{◌∙◌, List, length, get_or, subst, sym, ap, arith}
use Rattle.std.specs.Prelude.{IfSome}
use Rattle.std.proofs.lemmas.List.Elements.{All-get_or}
use Rattle.span_core.specs.declared.notes.paths.SharedPath.{SharedPath}
use Rattle.span_core.specs.inside.Telling.{KnowsPath}
use Rattle.span_core.proofs.notes.paths.SharedPaths.seen.Goals as goal

pub returns-in-Some : goal.returns-in-Some
returns-in-Some c =
    λ told spans known. c.in-Some.ensures told spans (subst (λ o. IfSome o (KnowsPath told spans)) (sym c.in_ok-first.ensures.value) known.first)

pub returns-in-Some-seen : goal.returns-in-Some-seen
returns-in-Some-seen c =
    let item = c.path-item.result in
    let items = c.deref-path-items.ensures.value in
    let is = c.path-item.is ∙ ap (λ (paths : List SharedPath). get_or paths c.loop-path.path-index item) items in
    λ told spans known. c.in-Some-seen.ensures told spans (subst (KnowsPath told spans) (sym is)
    (All-get_or (KnowsPath told spans) _ c.loop-path.path-index item (omega (arith, c.loop-path-test.true, ap length items)) known.further))
