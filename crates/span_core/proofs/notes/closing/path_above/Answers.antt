use Rattle.std.proofs.Common.{◌≡◌, ◌∙◌, ◌-◌, [], ◌∷◌, ◌++◌, length, take, ap, sym, arith}
use Rattle.span_forest.specs.Path.{path_text}
use Rattle.span_core.proofs.Texts.{nothing_above, above_is}
use Rattle.span_core.proofs.notes.closing.path_above.Goals as goal

pub returns-then-above-eq0 : goal.returns-then-above-eq0
returns-then-above-eq0 c =
    record {
      path = λ path tells. nothing_above path tells.0
          (let long : length (path_text (path ++ tells.0 ∷ [])) ≡ length c.as_str-text.result.now = ap length (sym (c.as_str-text.ensures.value ∙ tells.2)) in
          omega (arith, long, tells.1, c.in_ok-above.ensures.0, c.in_ok-above.ensures.1, c.if-above-eq0.true));
    }

pub returns : goal.returns
returns c =
    record {
      path = λ path tells.
          (let long : length (path_text (path ++ tells.0 ∷ [])) ≡ length c.as_str-text.result.now = ap length (sym (c.as_str-text.ensures.value ∙ tells.2)) in
          c.in_ok-above-2.ensures.front
          ∙ ap (take (c.in_ok-above.above - 1)) (c.as_str-text.ensures.value ∙ tells.2)
          ∙ above_is path tells.0 c.in_ok-above.above
          (omega (arith, long, tells.1, c.in_ok-above.ensures.0, c.in_ok-above.ensures.1))
          (omega (arith, c.if-above-eq0.false)));
    }
