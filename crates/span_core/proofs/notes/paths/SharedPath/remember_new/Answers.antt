use Rattle.std.proofs.Common.{◌≡◌, ◌∙◌, ◌&&◌, Bool, true, false, refl, sym, ap}
use Rattle.std.proofs.lemmas.Bool.{false≢true}
use Rattle.span_id.specs.Bits.{has_bit}
use Rattle.span_core.specs.Happening.{path_at}
use Rattle.span_core.proofs.notes.paths.SharedPath.remember_new.Goals as goal

first : (a b : Bool) → (a && b) ≡ true → a ≡ true
first true b both = refl
first false b both = absurd (false≢true both)

second : (a b : Bool) → (a && b) ≡ true → b ≡ true
second true b both = both
second false b both = absurd (false≢true both)

pub returns-then-stands_at : goal.returns-then-stands_at
returns-then-stands_at c =
    λ told before forest on knows remembers. c.keep.ensures forest on.issued
    (λ layer both.
    let each = sym (c.and.ensures layer) ∙ both in
    knows layer (first _ (has_bit c.args.bits.0 layer) each)
    ∙ ap (λ place. told (path_at layer before place)) (c.stands_at.ensures c.if-stands_at.true)
    ∙ on.text layer (second (has_bit c.args.self.now.same.0 layer) _ each))
    remembers
