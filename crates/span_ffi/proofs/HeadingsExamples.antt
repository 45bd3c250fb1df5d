-- Worked cases of headings.
use Rattle.std.proofs.Common.{◌≡◌, ℕ, refl, sym, ap, [], ◌∷◌, ◌++◌, codes, Vec, Global, Some, None, arith, inl, inr}
use Rattle.span_id.specs.declared.level.Level.TheVariants.{Warn, Info}
use Rattle.span_id.specs.Id.{id_of}
use Rattle.span_id.specs.Meta.{PlainMeta}
use Rattle.span_layers.specs.declared.note.Kind.TheVariants.{OnNew, OnRecord, OnEvent, OnClose}
use Rattle.span_ffi.specs.declared.headings.About.TheVariants.{Span, Event, Other}
use Rattle.span_ffi.specs.declared.headings.Heading.{Heading}
use Rattle.span_ffi.specs.Headings.{HeadingsView, SendsOrLoses}
use Rattle.span_outlet.specs.Outlet.{one_more}
use Rattle.span_ffi.specs.HeadingReader.{heading_of, last_in_slot, made_by}
use Rattle.span_ffi.specs.NoteHeadings.{Origin, origin_of, heading_numbers}

abbrev meta : PlainMeta
meta = record { name = codes "job"; target = codes "app"; level = Warn }

abbrev told : PlainMeta
told = record { name = codes "done"; target = codes "t"; level = Info }

-- two spans of one slot, at its first and at its second generation, and what came between
abbrev first : Vec ℕ Global → Heading
first kinds = record { batch = 0; stamp = 70; callsite = Some 3; kinds = kinds; about = Span (id_of 4 0) (Some 2) meta }

abbrev second : Vec ℕ Global → Heading
second kinds = record { batch = 9; stamp = 90; callsite = None; kinds = kinds; about = Span (id_of 4 1) None told }

abbrev recorded : Vec ℕ Global → Heading
recorded kinds = record { batch = 1; stamp = 71; callsite = None; kinds = kinds; about = Other }

abbrev event : Vec ℕ Global → Heading
event kinds = record { batch = 2; stamp = 72; callsite = Some 8; kinds = kinds; about = Event told }

-- ---- of a batch and of a span

of_the_last_batch : (k : Vec ℕ Global) → heading_of 1 (first k ∷ recorded k ∷ []) ≡ Some (recorded k)
of_the_last_batch k = refl

of_an_earlier_batch : (k : Vec ℕ Global) → heading_of 0 (first k ∷ recorded k ∷ []) ≡ None
of_an_earlier_batch k = refl

of_none : heading_of 0 [] ≡ None
of_none = refl

made_the_span : (k : Vec ℕ Global) → made_by (id_of 4 0) (first k ∷ recorded k ∷ event k ∷ []) ≡ Some (first k)
made_the_span k = refl

made_the_later_span : (k : Vec ℕ Global) → made_by (id_of 4 1) (first k ∷ second k ∷ []) ≡ Some (second k)
made_the_later_span k = refl

-- its slot has a later one
no_longer_known : (k : Vec ℕ Global) → made_by (id_of 4 0) (first k ∷ second k ∷ []) ≡ None
no_longer_known k = refl

of_another_slot : (k : Vec ℕ Global) → last_in_slot 5 (first k ∷ second k ∷ []) ≡ None
of_another_slot k = refl

-- ---- with a note

abbrev origin : Vec ℕ Global → Origin
origin kinds = record { parent = 2; callsite = Some 3; meta = meta; kinds = kinds.items }

when_new : (k : Vec ℕ Global) → origin_of OnNew (id_of 4 0) (first k) (first k ∷ []) ≡ Some (origin k)
when_new k = refl

-- a later close has the kinds of the call that made the span, a record its own
when_closed : (k l : Vec ℕ Global)
    → origin_of OnClose (id_of 4 0) (recorded l) (first k ∷ recorded l ∷ []) ≡ Some (origin k)
when_closed k l = refl

when_recorded : (k l : Vec ℕ Global)
    → origin_of OnRecord (id_of 4 0) (recorded l) (first k ∷ recorded l ∷ []) ≡ Some (record (origin k) { kinds = l.items })
when_recorded k l = refl

-- an event hangs under the span that it is told in
when_told : (k l : Vec ℕ Global) → origin_of OnEvent (id_of 4 0) (event l) (first k ∷ event l ∷ [])
    ≡ Some (record { parent = id_of 4 0; callsite = Some 8; meta = told; kinds = l.items })
when_told k l = refl

-- the heading of the call that made the span was lost
when_lost : (l : Vec ℕ Global) → origin_of OnClose (id_of 4 0) (recorded l) (recorded l ∷ []) ≡ None
when_lost l = refl

numbers : (k : Vec ℕ Global) → heading_numbers 71 (origin k) ≡ record {
  stamp = 71;
  parent = 2;
  has_callsite = 1;
  callsite = 3;
  level = 1;
  name_len = 3;
  target_len = 3;
}
numbers k = refl

at_no_callsite : (k : Vec ℕ Global) → heading_numbers 0 (record (origin k) { callsite = None }) ≡ record {
  stamp = 0;
  parent = 2;
  has_callsite = 0;
  callsite = 0;
  level = 1;
  name_len = 3;
  target_len = 3;
}
at_no_callsite k = refl

-- ---- sent or lost

sent : (k : Vec ℕ Global) (view : HeadingsView) → view.free ≡ 7
    → SendsOrLoses (first k) view (record view { sent = view.sent ++ first k ∷ []; free = 6 })
sent k view seven = inl (refl, omega (arith, seven))

lost : (k : Vec ℕ Global) (view : HeadingsView) → view.free ≡ 0 → view.lost ≡ 4
    → SendsOrLoses (first k) view (record view { lost = 5 })
lost k view none four = inr (none, ap (λ lost. record view { lost = lost }) (sym (ap one_more four)))

-- it is not lost where there is still a place
not_lost : (k : Vec ℕ Global) (view : HeadingsView) → view.free ≡ 7 → view.lost ≡ 4
    → SendsOrLoses (first k) view (record view { lost = 5 }) → ⊥
not_lost k view seven four (inl sends) =
    let same : 5 ≡ view.lost = ap (λ (v : HeadingsView). v.lost) sends.0 in omega (arith, same, four)
not_lost k view seven four (inr loses) = omega (arith, loses.0, seven)
