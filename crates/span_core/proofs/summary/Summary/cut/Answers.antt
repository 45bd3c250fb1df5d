use Rattle.std.proofs.Common.{◌∙◌, ◌<◌, List, [], ℕ, take, get_or, ap, sym, subst}
use Rattle.std.proofs.lemmas.List.{length-map}
use Rattle.span_id.specs.declared.bits.Bits.{Bits}
use Rattle.span_stack.specs.Stack.{without_last, ids_of_each}
use Rattle.span_core.specs.inside.Summary.{Summarises}
use Rattle.span_core.proofs.StackLists.{ids_at}
use Rattle.span_core.proofs.Summaries.{summary_set}
use Rattle.span_core.proofs.summary.Summary.cut.Goals as goal

pub returns-then-self-worker-clause-after : goal.returns-then-self-worker-clause-after
returns-then-self-worker-clause-after c = λ spans before.
    let stacks = c.args.stacks.now in
    let at = ids_at stacks c.args.worker _ c.requires c.index-stacks-worker.is in
    let whole = c.blocks_below-whole.ensures spans c.args.self.now.blocks.items
    (subst (λ (ids : List ℕ). Summarises spans ids c.args.self.now.blocks.items)
    (ap (λ v. get_or (ids_of_each stacks) v []) c.if-self-worker.true ∙ at) before.blocks) in
    summary_set spans (ids_of_each stacks) c.args.worker _ _ (subst (λ n. c.args.worker < n) (sym (length-map stacks (λ s. s.ids))) c.requires) c.if-self-worker.true
    (subst (λ (blocks : List Bits). Summarises spans (without_last (get_or (ids_of_each stacks) c.args.worker []) c.args.id) blocks)
    (sym c.truncate.ensures.items)
    (subst (λ (ids : List ℕ). Summarises spans (without_last ids c.args.id) (take c.blocks_below-whole.result c.args.self.now.blocks.items)) (sym at) whole))
