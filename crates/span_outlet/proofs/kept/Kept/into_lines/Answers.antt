use Rattle.std.proofs.Common.{rules, map}
use Rattle.span_outlet.specs.Lines.{plain_line}
use Rattle.span_outlet.specs.Kept.{AreKept, numbered}
use Rattle.span_outlet.proofs.Keeping.{whole}
use Rattle.span_outlet.proofs.Apart.{elsewhere}
use Rattle.span_outlet.proofs.kept.Kept.into_lines.Goals as goal

pub returns-clause-apart : goal.returns-clause-apart
returns-clause-apart g c = λ missed each. elsewhere c.args.self.forms c.args.self.sent _ missed each

pub returns-clause-whole : goal.returns-clause-whole
returns-clause-whole g c =
    let kept : AreKept c.args.self.forms (numbered c.args.self.sent) (map plain_line c.self.inside.note_lines.lines.items) c.args.self.missed = search rules in
    λ none_missed. whole _ c.args.self.sent _ _ kept none_missed
