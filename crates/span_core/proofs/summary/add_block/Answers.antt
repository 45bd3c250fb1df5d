use Rattle.std.proofs.Common.{◌≡◌, ◌∙◌, ℕ, length, rules, ◌+◌, ◌*◌, List, [], ◌∷◌, ◌++◌, ap, sym, subst, arith}
use Rattle.span_id.specs.declared.bits.Bits.{Bits}
use Rattle.span_core.specs.inside.Summary.{AdmitNone, Summarises}
use Rattle.span_core.proofs.Summaries.{summarises_push}
use Rattle.span_core.proofs.summary.add_block.Goals as goal

pub returns : goal.returns
returns c =
    let spans = c.args.forest.now.spans in
    let ids = c.args.stack.now.ids in
    let count : c.len-from.result ≡ length c.args.blocks.now.items = search rules in
    subst (λ (blocks : List Bits). Summarises spans ids blocks)
    (sym (c.push_reserved.ensures.items ∙ ap (λ (blocks : List Bits). blocks ++ c.none_admit.result ∷ []) c.reserve.ensures.items))
    (summarises_push spans ids c.args.blocks.now.items c.none_admit.result c.requires
    (omega (arith, c.if-entries-from-lt-ENOUGH.false, c.len-entries.ensures, c.len-from.ensures, c.requires.within))
    (subst (λ (n : ℕ). AdmitNone spans ids (n * 64) (n * 64 + 64) c.none_admit.result.0) count c.none_admit.ensures))
