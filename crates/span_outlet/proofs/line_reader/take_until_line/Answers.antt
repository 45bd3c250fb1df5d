use Rattle.std.proofs.Common.{rules, length, refl, ap, ◌∙◌, arith}
use Rattle.std.proofs.lemmas.List.{nil_from_length}
use Rattle.span_outlet.proofs.Draining.{moved_on}
use Rattle.span_outlet.proofs.Noting.{of_last_batch, none_has}
use Rattle.span_outlet.proofs.Reading.{takes_nothing, takes_more, of_batch, none_of_last}
use Rattle.span_outlet.proofs.line_reader.take_until_line.Goals as goal

pub loop-init : goal.loop-init
loop-init g c = record {
  name = search rules;
  forms = search rules;
  number = search rules;
  standing = search rules;
  fifo = refl;
  nothing = c.requires.nothing;
  batches = takes_nothing _ _ _ _ _ _ _ (search rules) c.requires.nothing c.args.note_lines.now.in_range;
}

pub returns-then-not-is_empty-clause-batches : goal.returns-then-not-is_empty-clause-batches
returns-then-not-is_empty-clause-batches g c =
    let before = c.loop.invariant in
    let next = c.take_first.ensures.first in
    takes_more _ _ _ _ _ _ _ _ _ next.batch _ _ _ _ _ _ before.forms before.number next.moved before.batches next.gains

pub returns-then-not-is_empty-clause-fifo : goal.returns-then-not-is_empty-clause-fifo
returns-then-not-is_empty-clause-fifo g c =
    let next = c.take_first.ensures.first in
    moved_on _ _ _ _ next.batch _ next.moved next.stood c.loop.invariant.fifo

pub returns-then-not-is_empty-clause-last : goal.returns-then-not-is_empty-clause-last
returns-then-not-is_empty-clause-last g c =
    let before = c.loop.invariant in
    let next = c.take_first.ensures.first in
    of_batch _ _ _ next.batch _ _ _ _ _ before.nothing before.number next.moved next.gains

pub returns-then-not-is_empty-clause-notes : goal.returns-then-not-is_empty-clause-notes
returns-then-not-is_empty-clause-notes g c =
    let before = c.loop.invariant in
    let next = c.take_first.ensures.first in
    rw c.replace-told.ensures.after (of_last_batch _ _ _ _ next.batch _ _ _ _ _ _ c.take_first.ensures.forms before.nothing before.number next.moved next.brought next.gains)

pub loop-preserved : goal.loop-preserved
loop-preserved g c =
    let before = c.loop.invariant in
    let told = c.take_first.ensures in
    let next = told.first in
    let fewer = ap length next.stood in
    record {
      name = told.name ∙ before.name;
      forms = told.forms ∙ before.forms;
      number = told.number;
      standing = omega (arith, fewer, before.standing);
      fifo = moved_on _ _ _ _ next.batch _ next.moved next.stood before.fifo;
      nothing = nil_from_length _ (search rules);
      batches = takes_more _ _ _ _ _ _ _ _ _ next.batch _ _ _ _ _ _ before.forms before.number next.moved before.batches next.gains;
    }

pub returns-clause-last : goal.returns-clause-last
returns-clause-last g c = none_of_last _ _ c.loop.invariant.nothing

pub returns-clause-notes : goal.returns-clause-notes
returns-clause-notes g c = none_has _ _ _ _ c.loop.invariant.nothing

pub returns-clause-none_left : goal.returns-clause-none_left
returns-clause-none_left g c = λ _. nil_from_length _ (omega (arith, c.loop.invariant.standing, c.loop-test.false, c.loop.auto.counter-end))
