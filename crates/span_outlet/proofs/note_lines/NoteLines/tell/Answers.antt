use Rattle.std.proofs.Common.{rules, ◌≡◌, ◌++◌, ◌∷◌, []}
use Rattle.span_layers.specs.Note.{plain_note}
use Rattle.span_outlet.specs.Kept.{LacksMemory, WhyMissed}
use Rattle.span_outlet.proofs.Keeping.{gains_told, gains_missed}
use Rattle.span_outlet.proofs.SameTexts.{ends_with}
use Rattle.span_outlet.proofs.Apart.{lacks_line}
use Rattle.span_outlet.proofs.note_lines.NoteLines.tell.Goals as goal

pub returns-in_default-clause-told : goal.returns-in_default-clause-told
returns-in_default-clause-told g c =
    let why : WhyMissed c.args.self.now.forms (record { batch = c.args.batch; place = c.args.place; note = plain_note c.args.note.now }) = search rules in
    gains_missed _ _ _ _ _ _ why (search rules) c.miss.ensures.missed

pub returns-then-is_err-clause-told : goal.returns-then-is_err-clause-told
returns-then-is_err-clause-told g c =
    let same : c.miss-then-is_err.new.self.lines.items ≡ c.args.self.now.lines.items = search rules in
    let refused : LacksMemory c.in-Some.line.batch c.in-Some.line.place = search rules in
    gains_missed _ _ _ _ _ _ (lacks_line _ _ c.in-Some.line c.in-Some.ensures.line refused) same c.miss-then-is_err.ensures.missed

pub returns-clause-told : goal.returns-clause-told
returns-clause-told g c =
    let pushed : c.keep.new.lines.items ≡ c.args.self.now.lines.items ++ c.in-Some.line ∷ [] = search rules in
    gains_told _ _ _ _ _ c.in-Some.line c.in-Some.ensures.line pushed c.args.self.now.in_range

pub returns-clause-last : goal.returns-clause-last
returns-clause-last g c = λ _.
    let pushed : c.keep.new.lines.items ≡ c.args.self.now.lines.items ++ c.in-Some.line ∷ [] = search rules in
    ends_with c.args.self.now.forms _ _ c.in-Some.line c.args.note.now c.args.batch c.args.place pushed c.in-Some.ensures.line
