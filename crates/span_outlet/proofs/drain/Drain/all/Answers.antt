use Rattle.std.proofs.Common.{rules, map}
use Rattle.span_outlet.specs.Lines.{plain_line}
use Rattle.span_outlet.specs.Kept.{AreKept, numbered}
use Rattle.span_outlet.proofs.Keeping.{whole}
use Rattle.span_outlet.proofs.Apart.{elsewhere}
use Rattle.span_outlet.proofs.drain.Drain.all.Goals as goal

pub returns-clause-whole : goal.returns-clause-whole
returns-clause-whole g c =
    let kept : AreKept c.args.self.now.forms (numbered c.args.self.now.taken) (map plain_line c.as_slice.result.now) c.args.self.now.missed = search rules in
    λ none_missed. whole _ c.args.self.now.taken _ _ kept none_missed

pub returns-clause-apart : goal.returns-clause-apart
returns-clause-apart g c = λ missed each. elsewhere c.args.self.now.forms c.args.self.now.taken _ missed each
