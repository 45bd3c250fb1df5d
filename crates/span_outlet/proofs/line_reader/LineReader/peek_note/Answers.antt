use Rattle.std.proofs.Common.{◌<◌, length, map, subst, arith}
use Rattle.std.specs.Prelude.{All}
use Rattle.span_layers.specs.Note.{plain_note}
use Rattle.span_outlet.specs.Lines.{plain_line}
use Rattle.span_outlet.specs.LineReader.{LineReaderView}
use Rattle.span_outlet.specs.inside.Reading.{HasItsNote}
use Rattle.span_outlet.proofs.Noting.{first_within, note_read}
use Rattle.span_outlet.proofs.line_reader.LineReader.peek_note.Goals as goal

pub index-requires : goal.index-requires
index-requires g c =
    let notes = c.self.inside.notes.items in
    let have = subst (λ (view : LineReaderView). All (HasItsNote view.forms view.taken (map plain_note notes)) view.waiting) c.self.view_is c.self.invariant.3 in
    let within : c.in_ok-line.line.now.place < length notes = first_within c.args.self.now notes (plain_line c.in_ok-line.line.now) c.in_ok-line.ensures.some have in
    omega (arith, within, c.self.inside.notes.ok.0)

pub returns-clause-some : goal.returns-clause-some
returns-clause-some g c =
    let notes = c.self.inside.notes.items in
    let have = subst (λ (view : LineReaderView). All (HasItsNote view.forms view.taken (map plain_note notes)) view.waiting) c.self.view_is c.self.invariant.3 in
    note_read c.args.self.now notes (plain_line c.in_ok-line.line.now) c.in_ok-line.ensures.some have c.index.result.now c.index.ensures
