-- Worked cases of what is kept of a history, and of what a drain does with a batch.
use Rattle.std.proofs.Common.{◌≡◌, ℕ, true, List, [], ◌∷◌, None, refl}
use Rattle.std.specs.Prelude.{codes}
use Rattle.std.specs.Fmt.{digits}
use Rattle.span_layers.specs.declared.form.Form.{Form}
use Rattle.span_layers.specs.declared.form.Form.TheVariants.{Compact}
use Rattle.span_layers.specs.declared.note.Kind.TheVariants.{OnEnter}
use Rattle.span_layers.specs.Note.{PlainNote}
use Rattle.span_layers.specs.Text.{text_of}
use Rattle.span_outlet.specs.Request.{enter, entered, clone_span, cloned}
use Rattle.span_outlet.specs.Batch.{PlainBatch}
use Rattle.span_outlet.specs.Outlet.{RingName}
use Rattle.span_outlet.specs.Lines.{PlainLine, lines_of_layer}
use Rattle.span_outlet.specs.Kept.{NumberedNote, numbered, numbered_in, LacksMemory, AreKept, GainsLines}
use Rattle.span_outlet.specs.Kept.WhyMissed.{no_form, no_memory}
use Rattle.span_outlet.specs.Kept.AreTold.{none, told, missed}
use Rattle.span_outlet.specs.Drain.{DrainView, TakesBatch}

-- worker 0 entered span 1, whose name is `a`
abbrev note : ℕ → PlainNote
note layer = record { layer = layer; kind = OnEnter; worker = 0; id = 1; path = codes "a"; fields = []; event = None }

abbrev at : ℕ → ℕ → ℕ → NumberedNote
at batch place layer = record { batch = batch; place = place; note = note layer }

abbrev line : ℕ → ℕ → ℕ → PlainLine
line batch place layer = record { batch = batch; place = place; layer = layer; text = codes "enter 1 w0 a" }

-- the span is cloned, which no layer is told, and then entered, which three layers are told
abbrev history : List PlainBatch
history =
    record { request = clone_span 0 1; answer = cloned; notes = [] }
    ∷ record { request = enter 0 1; answer = entered true; notes = note 0 ∷ note 1 ∷ note 2 ∷ [] }
    ∷ []

-- batches and places are numbered from 0
numbers : numbered history ≡ at 1 0 0 ∷ at 1 1 1 ∷ at 1 2 2 ∷ []
numbers = refl

-- three layers that write in the compact form
abbrev forms : List Form
forms = Compact ∷ Compact ∷ Compact ∷ []

-- where no note is missed there is a line of each
none_missed : AreKept forms (numbered history) (line 1 0 0 ∷ line 1 1 1 ∷ line 1 2 2 ∷ []) 0
unfolding text_of digits
none_missed = record {
  missed_notes = [];
  each = told (at 1 0 0) (line 1 0 0) refl (told (at 1 1 1) (line 1 1 1) refl (told (at 1 2 2) (line 1 2 2) refl none));
  counted = refl;
}

-- the second is refused memory: the third keeps its place, and no line has that of the second
second_missed : LacksMemory 1 1 → AreKept forms (numbered history) (line 1 0 0 ∷ line 1 2 2 ∷ []) 1
unfolding text_of digits
second_missed refused = record {
  missed_notes = at 1 1 1 ∷ [];
  each = told (at 1 0 0) (line 1 0 0) refl (missed (at 1 1 1) (no_memory refused) (told (at 1 2 2) (line 1 2 2) refl none));
  counted = refl;
}

-- only the first layer has a form: the notes of the others are missed
formless : AreKept (Compact ∷ []) (numbered history) (line 1 0 0 ∷ []) 2
unfolding text_of digits
formless = record {
  missed_notes = at 1 1 1 ∷ at 1 2 2 ∷ [];
  each = told (at 1 0 0) (line 1 0 0) refl (missed (at 1 1 1) (no_form refl) (missed (at 1 2 2) (no_form refl) none));
  counted = refl;
}

-- a batch with the number 2: its second note is missed and counted, and its lines come after the line so far
gained : LacksMemory 2 1 → GainsLines forms (numbered_in 2 (record { request = enter 0 1; answer = entered true; notes = note 0 ∷ note 1 ∷ note 2 ∷ [] })) (line 1 0 0 ∷ []) 5 (line 1 0 0 ∷ line 2 0 0 ∷ line 2 2 2 ∷ []) 6
unfolding text_of digits
gained refused = record {
  added = line 2 0 0 ∷ line 2 2 2 ∷ [];
  missed_notes = at 2 1 1 ∷ [];
  each = told (at 2 0 0) (line 2 0 0) refl (missed (at 2 1 1) (no_memory refused) (told (at 2 2 2) (line 2 2 2) refl none));
  lines_are = refl;
  counted = refl;
}

-- a drain that took the clone, and has missed 5 notes of which nothing else is said here
abbrev clone_taken : RingName → DrainView
clone_taken name =
    record { name = name; forms = forms; taken = record { request = clone_span 0 1; answer = cloned; notes = [] } ∷ []; lines = []; missed = 5 }

-- it takes the entry, whose second note is missed: two were told, and one was missed
entry_taken : LacksMemory 1 1 → (name : RingName) → TakesBatch (clone_taken name) (record { name = name; forms = forms; taken = history; lines = line 1 0 0 ∷ line 1 2 2 ∷ []; missed = 6 }) (record { told = 2; missed = 1 })
unfolding text_of digits
entry_taken refused name = record {
  batch = record { request = enter 0 1; answer = entered true; notes = note 0 ∷ note 1 ∷ note 2 ∷ [] };
  taken = refl;
  gains = record {
    added = line 1 0 0 ∷ line 1 2 2 ∷ [];
    missed_notes = at 1 1 1 ∷ [];
    each = told (at 1 0 0) (line 1 0 0) refl (missed (at 1 1 1) (no_memory refused) (told (at 1 2 2) (line 1 2 2) refl none));
    lines_are = refl;
    counted = refl;
  };
  told = refl;
  missed = refl;
}

-- the lines of a layer keep their order, and a layer that wrote nothing has none
of_one_layer : lines_of_layer 1 (line 1 0 0 ∷ line 1 1 1 ∷ line 2 0 1 ∷ line 2 1 0 ∷ []) ≡ line 1 1 1 ∷ line 2 0 1 ∷ []
of_one_layer = refl

of_no_layer : lines_of_layer 2 (line 1 0 0 ∷ line 1 1 1 ∷ []) ≡ []
of_no_layer = refl
