use Rattle.std.proofs.Common.{◌≡◌, arith, ap, ◌∙◌, map, length}
use Rattle.std.specs.Iterator.{YieldsFirstRef}
use Rattle.std.specs.Slice.Iter.{iter_rest}
use Rattle.std.proofs.iter.runs.Sources.{from_front}
use Rattle.span_outlet.specs.Lines.{plain_line, lines_of_layer}
use Rattle.span_outlet.proofs.OfLayer.{plain_of_layer, no_more}
use Rattle.span_outlet.proofs.drain.Drain.lines.Goals as goal

pub returns-clause-lines : goal.returns-clause-lines
returns-clause-lines g c =
    let all : map plain_line (iter_rest c.iter.result) ≡ c.args.self.now.lines = ap (map plain_line) (c.iter.ensures.rest ∙ c.as_slice.ensures.value) ∙ ap (λ d. d.lines) c.self.view_is in
    plain_of_layer c.args.layer (iter_rest c.iter.result) ∙ ap (lines_of_layer c.args.layer) all

pub returns-clause-fits : goal.returns-clause-fits
returns-clause-fits g c = omega (arith, no_more c.args.layer (iter_rest c.iter.result), c.iter.ensures.bound)

pub returns-clause-runs : goal.returns-clause-runs
returns-clause-runs g c = from_front (YieldsFirstRef (λ rest. rest)) (λ line. line.now) (λ rest. rest) (λ s t h. ap length h.0) (λ s x t h. h)
