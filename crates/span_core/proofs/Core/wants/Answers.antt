use Rattle.std.proofs.Common.{◌≡◌, not, ap, ◌∙◌}
use Rattle.std.specs.Prelude.{nat_eq, string_bytes}
use Rattle.span_layers.specs.Filter.{admission_set}
use Rattle.span_core.proofs.Listened.{listened}
use Rattle.span_core.proofs.Core.wants.Goals as goal

pub returns : goal.returns
returns g c =
    let target = string_bytes c.args.meta.now.target in
    let level = c.args.meta.now.level in
    let set : c.bits.result.0 ≡ admission_set c.args.self.now.rules target level = c.bits.ensures.value ∙ ap (λ v. admission_set v.rules target level) c.self.view_is in
    ap (λ n. not (nat_eq n 0)) set ∙ listened c.args.self.now.rules target level
