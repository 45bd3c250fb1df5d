use Rattle.std.proofs.Common.{◌≡◌, ◌<◌, length, rules, refl, ap, ◌∙◌}
use Rattle.span_outlet.proofs.Reading.{all_given, all_whole}
use Rattle.span_outlet.specs.LineReader.{LineReaderView}
use Rattle.call_loops.proofs.ReadToEnd.{all_read, filled, filled_and_read, gets_on, same_end, waiting_read}
use Rattle.call_loops.proofs.reading.read_to_end.Goals as goal

pub loop-reader-init : goal.loop-reader-init
loop-reader-init g c =
    let first = c.read_waiting-lines.ensures in
    record {
      waiting = ap (λ (reader : LineReaderView). reader.waiting) first.read;
      left = first.left;
      lines = waiting_read _ _ _ first.read first.lines;
      pair = search rules;
      sent = search rules;
    }

pub loop-reader-preserved : goal.loop-reader-preserved
loop-reader-preserved g c =
    let before = c.loop-reader.invariant in
    let behind = c.behind.ensures in
    let fill = c.fill_beside.ensures in
    let next = c.read_waiting.ensures in
    record {
      waiting = ap (λ (reader : LineReaderView). reader.waiting) next.read;
      left = next.left;
      lines = filled_and_read _ _ _ _ _ _ _ before.lines (fill.name ∙ ap (λ (reader : LineReaderView). reader.name) behind.same)
          (fill.forms ∙ ap (λ (reader : LineReaderView). reader.forms) behind.same) (fill.given ∙ ap (λ (reader : LineReaderView). reader.given) behind.same) next.read next.lines (search rules);
      pair = search rules;
      sent = search rules;
    }

pub loop-reader-smaller : goal.loop-reader-smaller
loop-reader-smaller g c =
    let behind = c.behind.ensures in
    let fill = c.fill_beside.ensures in
    let old = c.behind.new.self in
    let full = c.fill_beside.new.self in
    let nothing = ap (λ (reader : LineReaderView). reader.waiting) behind.same ∙ c.loop-reader.invariant.waiting in
    let more : length old.taken < length full.taken =
    gets_on old full c.behind.new.ring.sent c.behind.result full.waiting refl nothing fill.taken fill.sent (search rules) (search rules) in
    let read = ap (λ (reader : LineReaderView). length reader.taken) c.read_waiting.ensures.read in
    let same = ap (λ (reader : LineReaderView). length reader.taken) behind.same in
    search (rules, more, read, same)

pub returns-clause-taken : goal.returns-clause-taken
returns-clause-taken g c =
    let behind = c.behind.ensures in
    ap (λ (reader : LineReaderView). reader.taken) behind.same ∙ all_read _ _ _ behind.order behind.value (search rules) ∙ c.loop-reader.invariant.sent

pub returns-clause-given : goal.returns-clause-given
returns-clause-given g c =
    let behind = c.behind.ensures in
    let before = c.loop-reader.invariant in
    same_end _ _ _ behind.same (all_given _ _ before.left (all_read _ _ _ behind.order behind.value (search rules) ∙ before.sent) before.waiting)

pub returns-clause-lines : goal.returns-clause-lines
returns-clause-lines g c =
    let same = c.behind.ensures.same in
    filled c.args.reader.now c.loop-reader.reader c.behind.new.self _ c.loop-reader.invariant.lines (ap (λ (reader : LineReaderView). reader.name) same) (ap (λ (reader : LineReaderView). reader.forms) same)
    (ap (λ (reader : LineReaderView). reader.given) same)

pub returns-clause-whole : goal.returns-clause-whole
returns-clause-whole g c = λ none_refused. all_whole _ _ (returns-clause-given g c) none_refused
