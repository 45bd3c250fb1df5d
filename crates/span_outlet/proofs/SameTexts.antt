-- Notes that tell the same have the same texts.
use Rattle.std.proofs.Common.{◌≡◌, Bool, true, ◌&&◌, nat_eq, ℕ, ◌+◌, ◌-◌, Option, Some, None, List, [], ◌∷◌, ◌++◌, length, ap, refl, sym, subst, ◌∙◌, arith, length-append}
use Rattle.std.specs.Prelude.{slice_get, IsSomeAnd}
use Rattle.std.specs.Option.{option_map}
use Rattle.std.specs.Cmp.{unsigned_Decides}
use Rattle.std.specs.Cmp.Lexicographic.{pointwise}
use Rattle.std.proofs.lemmas.Slice.Eq.{slice_eq-Decides}
use Rattle.span_id.specs.Meta.{KeyValue, is_same_pair}
use Rattle.span_layers.specs.declared.form.Form.{Form}
use Rattle.span_layers.specs.declared.form.Form.TheVariants.{Compact, Json}
use Rattle.span_layers.specs.declared.note.Note.{Note}
use Rattle.span_layers.specs.Note.{PlainNote, plain_note}
use Rattle.span_layers.specs.Text.{text_of}
use Rattle.span_outlet.specs.declared.line.Line.{Line}
use Rattle.span_outlet.specs.Lines.{plain_line, line_of}
use Rattle.span_outlet.specs.inside.SameText.{EndsWithTextOf}
use Rattle.span_outlet.proofs.Noting.{seam}

same_bytes : (xs ys : List ℕ) → pointwise nat_eq xs ys ≡ true → xs ≡ ys
same_bytes xs ys = (slice_eq-Decides unsigned_Decides xs ys (pointwise nat_eq xs ys) refl).0

both : (s t : Bool) → (s && t) ≡ true → (s ≡ true) × (t ≡ true)
both s t e = grind arith

same_pair : (a b : KeyValue) → is_same_pair a b ≡ true → a ≡ b
same_pair a b same =
    let each = both (pointwise nat_eq a.0 b.0) (pointwise nat_eq a.1 b.1) same in
    λ i. (same_bytes a.0 b.0 each.0 i, same_bytes a.1 b.1 each.1 i)

pub same_fields : (xs ys : List KeyValue) → pointwise is_same_pair xs ys ≡ true → xs ≡ ys
same_fields [] [] same = refl
same_fields [] (y ∷ ys) same = grind arith
same_fields (x ∷ xs) [] same = grind arith
same_fields (x ∷ xs) (y ∷ ys) same =
    let each = both (is_same_pair x y) (pointwise is_same_pair xs ys) same in
    λ i. same_pair x y each.0 i ∷ same_fields xs ys each.1 i

pub same_texts : (form : Form) (a b : PlainNote) → a.id ≡ b.id → a.kind ≡ b.kind → a.worker ≡ b.worker
    → a.path ≡ b.path → a.event ≡ b.event → a.fields ≡ b.fields → text_of form a ≡ text_of form b
unfolding text_of
same_texts Compact a b id kind worker path event fields = rw (id, kind, worker, path, event, fields) refl
same_texts Json a b id kind worker path event fields = rw (id, kind, worker, path, event, fields) refl

-- a line behind others is the last one
last_of : (lines : List Line) (line : Line) → slice_get (lines ++ line ∷ []) (length (lines ++ line ∷ []) - 1) ≡ Some line
last_of lines line =
    let more : length (lines ++ line ∷ []) ≡ length lines + 1 = length-append lines (line ∷ []) in
    ap (slice_get (lines ++ line ∷ [])) (omega (arith, more)) ∙ seam lines line []

-- a line that was made of a note has its text
has_text : (batch place : ℕ) (line : Line) (note : Note) (found : Option Form)
    → option_map (λ form. record { batch = batch; place = place; layer = note.layer; text = text_of form (plain_note note) }) found ≡ Some (plain_line line)
    → IsSomeAnd found (λ form. line.text.items ≡ text_of form (plain_note note))
has_text batch place line note None says = grind arith
has_text batch place line note (Some form) says = grind arith

-- so it ends the lines with that text
pub ends_with : (forms : List Form) (lines after : List Line) (line : Line) (note : Note) (batch place : ℕ)
    → after ≡ lines ++ line ∷ [] → line_of forms batch (place, plain_note note) ≡ Some (plain_line line) → EndsWithTextOf forms after note
ends_with forms lines after line note batch place is says =
    let text = has_text batch place line note (slice_get forms note.layer) says in
    subst (λ ls. EndsWithTextOf forms ls note) (sym is) (rw (last_of lines line) text)
