use Rattle.std.proofs.Common.{rules, ◌≡◌, [], sym, ap, subst, arith}
use mathlib.Core.List.{reverse}
use Rattle.rtrb.specs.Ring.{received}
use Rattle.std.proofs.lemmas.List.{nil_from_length}
use Rattle.span_outlet.specs.inside.Reading.{HaveNotes}
use Rattle.span_outlet.proofs.Reading.{takes_none, as_told, filled_left, filled_takes, OfLast}
use Rattle.span_outlet.proofs.Waiting.{some_wait, no_lines, none_wait, answered, not_looked, none_waited}
use Rattle.span_outlet.proofs.line_reader.LineReader.fill.Goals as goal

pub returns-then-not-is_empty-clause-taken : goal.returns-then-not-is_empty-clause-taken
returns-then-not-is_empty-clause-taken g c = rw (← c.self.view_is) (takes_none _ c.self.inside.note_lines.in_range)

pub invariant_of-self-2 : goal.invariant_of-self-2
invariant_of-self-2 g c =
    let nothing : c.self.inside.note_lines.lines.items ≡ [] = nil_from_length _ (search rules) in
    let looks : received c.look-standing.new.consumer ≡ received c.self.inside.consumer = search rules in
    let told : reverse c.reverse.new.self.items ≡ c.take_until_line.new.note_lines.lines.items = as_told _ _ c.reverse.ensures.items in (
      filled_left _ _ _ _ _ _ _ _ _ _ _ _ _ _ _ _ (ap reverse nothing) c.take_until_line.ensures.forms looks told c.self.invariant.0 c.take_until_line.ensures.batches,
      subst (OfLast _) (sym told) c.take_until_line.ensures.last,
      c.take_until_line.ensures.number,
      subst (HaveNotes _ _ _) (sym told) c.take_until_line.ensures.notes,
    )

pub returns-clause-taken : goal.returns-clause-taken
returns-clause-taken g c =
    let nothing : c.self.inside.note_lines.lines.items ≡ [] = nil_from_length _ (search rules) in
    let looks : received c.look-standing.new.consumer ≡ received c.self.inside.consumer = search rules in
    let told : reverse c.reverse.new.self.items ≡ c.take_until_line.new.note_lines.lines.items = as_told _ _ c.reverse.ensures.items in
    rw (← c.self.view_is) (filled_takes _ _ _ _ _ _ _ _ _ _ _ _ _ _ _ _ (ap reverse nothing) looks told c.take_until_line.ensures.batches)

pub returns-then-not-is_empty-clause-answer : goal.returns-then-not-is_empty-clause-answer
returns-then-not-is_empty-clause-answer g c = (λ _. some_wait c.self.inside.note_lines.lines.items _ _ c.is_empty.ensures (omega (arith, c.self.inside.note_lines.lines.ok.0)) c.if-not-is_empty.true, λ _. search rules)

pub returns-then-not-is_empty-clause-looked : goal.returns-then-not-is_empty-clause-looked
returns-then-not-is_empty-clause-looked g c = rw (← c.self.view_is) (not_looked _ _ (some_wait c.self.inside.note_lines.lines.items _ _ c.is_empty.ensures (omega (arith, c.self.inside.note_lines.lines.ok.0)) c.if-not-is_empty.true))

pub returns-clause-answer : goal.returns-clause-answer
returns-clause-answer g c = answered c.reverse.new.self.items _ _ c.is_empty-2.ensures (omega (arith, c.reverse.new.self.ok.0))

pub returns-clause-none : goal.returns-clause-none
returns-clause-none g c = none_wait c.reverse.new.self.items _ _ c.is_empty-2.ensures (omega (arith, c.reverse.new.self.ok.0))

pub returns-clause-waited : goal.returns-clause-waited
returns-clause-waited g c = rw (← c.self.view_is) (λ some. absurd (none_waited c.self.inside.note_lines.lines.items (no_lines _ _ _ c.is_empty.ensures (omega (arith, c.self.inside.note_lines.lines.ok.0)) c.if-not-is_empty.false) some))
