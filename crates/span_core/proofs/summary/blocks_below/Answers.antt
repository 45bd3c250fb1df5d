use Rattle.std.proofs.Common.{◌≡◌, ◌∙◌, Some, ap, sym, arith, rules}
use Rattle.span_core.proofs.Summaries.{summarises_top}
use Rattle.span_core.proofs.summary.blocks_below.Goals as goal

pub returns-in-Some : goal.returns-in-Some
returns-in-Some c = λ spans blocks before.
    let same : c.in-Some.top ≡ c.args.id = search rules in
    summarises_top spans c.args.stack.now.ids c.args.id blocks _ (sym c.top.ensures ∙ c.in-Some.is ∙ ap Some same)
    (omega (arith, c.saturating_sub.ensures, c.len.ensures)) before
