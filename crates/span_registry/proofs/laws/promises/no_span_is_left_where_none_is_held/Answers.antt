use Rattle.std.proofs.Common.{◌≡◌, length, sym, ap, subst, ◌∙◌, arith}
use Rattle.span_history.proofs.Prefixes.{prefix_whole}
use Rattle.span_core.specs.World.{World}
use Rattle.span_core.specs.History.{IsLegal}
use Rattle.span_registry.proofs.laws.promises.no_span_is_left_where_none_is_held.Goals as goal

pub returns : goal.returns
returns c = λ rules workers history world core counts known legal are begins calls.
    (let known_length = are.calls in
    let same : history ≡ core.sent = prefix_whole history core.sent begins (omega (arith, known_length, calls)) in
    let worlds : world ≡ core.world = c.a_history_leaves_one_world.ensures rules workers history world core.world known (subst (λ h. IsLegal rules workers h core.world) (sym same) legal) in
    let left : counts.left ≡ length world.spans = are.left ∙ sym (ap (λ (w : World). length w.spans) worlds) in
    let empty = c.no_span_is_held_where_none_is_left.ensures rules workers history world known in
    (λ none. empty.1 (sym left ∙ none), λ none. left ∙ empty.0 none))
