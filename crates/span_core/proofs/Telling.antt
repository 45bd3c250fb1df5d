-- The notes of the layers, one after another.
use Rattle.std.proofs.Common.{◌≡◌, ℕ, suc, ◌+◌, ◌-◌, ◌/◌, ◌%◌, ◌^◌, ◌<◌, ◌≤◌, Bool, zero, true, false, cond, ◌&&◌, List, [], ◌∷◌, ◌++◌, length, map, filter, refl, sym, ap, ◌∙◌, arith, append_assoc, append-nil}
use Rattle.std.specs.Prelude.{flat_map, nat_lt, ◌==◌}
use Rattle.std.specs.List.{range_with_len}
use Rattle.std.specs.Int.{bit_at}
use Rattle.std.proofs.Math.Nat.{div-div-eq-div-mul}
use Rattle.std.proofs.lemmas.Bool.{lt-ltb}
use Rattle.std.proofs.lemmas.Nat.{pow-add}
use Rattle.std.proofs.lemmas.Nat.Bits.{bit_at-zero}
use Rattle.span_id.specs.Meta.{KeyValue, PlainMeta}
use Rattle.span_id.specs.Bits.{has_bit}
use Rattle.span_layers.specs.declared.note.Kind.{Kind}
use Rattle.span_layers.specs.declared.note.Kind.TheVariants.{OnClose}
use Rattle.span_layers.specs.Note.{PlainNote}
use Rattle.span_layers.specs.Filter.{Filter, layer_wants}
use Rattle.span_forest.specs.Spans.{Spans}
use Rattle.span_core.specs.inside.Telling.{told_from}
use Rattle.span_core.specs.Happening.{Happening, bits_in, is_told, note_of, notes_of, notes_of_all, close_of, event_at}

-- where no number of a range passes a test, none is left
none_passes : (test : ℕ → Bool) (from n : ℕ) → ((k : ℕ) → from ≤ k → k < from + n → test k ≡ false) → filter test (range_with_len from n) ≡ []
none_passes test from zero fails = refl
none_passes test from (suc n) fails =
    let rest = filter test (range_with_len (from + 1) n) in
    ap (λ b. cond b (from ∷ rest) rest) (fails from (omega arith) (omega arith))
    ∙ none_passes test (from + 1) n (λ k least lt. fails k (omega (arith, least)) (omega (arith, lt)))

-- numbers at the front of a range that fail the test are passed over
passed_over : (test : ℕ → Bool) (from skip n all : ℕ) → all ≡ skip + n → ((k : ℕ) → from ≤ k → k < from + skip → test k ≡ false)
    → filter test (range_with_len from all) ≡ filter test (range_with_len (from + skip) n)
passed_over test from zero n all is fails =
    ap (λ m. filter test (range_with_len from m)) only ∙ ap (λ m. filter test (range_with_len m n)) same
  where
    only : all ≡ n
    only = omega (arith, is)

    same : from ≡ from + 0
    same = omega arith
passed_over test from (suc skip) n all is fails =
    let rest = filter test (range_with_len (from + 1) (skip + n)) in
    ap (λ m. filter test (range_with_len from m)) more
    ∙ ap (λ b. cond b (from ∷ rest) rest) (fails from (omega arith) (omega arith))
    ∙ passed_over test (from + 1) skip n (skip + n) refl (λ k least lt. fails k (omega (arith, least)) (omega (arith, lt)))
    ∙ ap (λ m. filter test (range_with_len m n)) same
  where
    more : all ≡ suc (skip + n)
    more = omega (arith, is)

    same : from + 1 + skip ≡ from + suc skip
    same = omega arith

-- two tests that agree on a range, of which the longer one has nothing more that passes
same_passes : (test other : ℕ → Bool) (from n all : ℕ) → n ≤ all → ((k : ℕ) → test k ≡ other k) → ((k : ℕ) → from + n ≤ k → other k ≡ false)
    → filter test (range_with_len from all) ≡ filter other (range_with_len from n)
same_passes test other from zero all within agree ends = none_passes test from all (λ k least lt. agree k ∙ ends k (omega (arith, least)))
same_passes test other from (suc n) zero within agree ends = absurd (omega (arith, within))
same_passes test other from (suc n) (suc all) within agree ends =
    let rest = filter test (range_with_len (from + 1) all) in
    ap (λ b. cond b (from ∷ rest) rest) (agree from)
    ∙ ap (λ left. cond (other from) (from ∷ left) left) (same_passes test other (from + 1) n all (omega (arith, within)) agree (λ k least. ends k (omega (arith, least))))

-- the layers of a mask from a number on, by how many numbers there are up to 64
told_is : (mask from n : ℕ) → from + n ≡ 64 → told_from mask from ≡ filter (has_bit mask) (range_with_len from n)
unfolding told_from
told_is mask from n all = ap (λ m. filter (has_bit mask) (range_with_len from m)) width
  where
    width : 64 - from ≡ n
    width = omega (arith, all)

-- a mask of the layers that are told has them from 0 on
pub told_start : (mask : ℕ) (told : ℕ → Bool) (layers : ℕ) → layers ≤ 64 → ((k : ℕ) → has_bit mask k ≡ told k)
    → ((k : ℕ) → layers ≤ k → told k ≡ false) → told_from mask 0 ≡ filter told (range_with_len 0 layers)
told_start mask told layers few agree ends =
    let width = layers + (64 - layers) in
    told_is mask 0 width (omega (arith, few)) ∙ same_passes (has_bit mask) told 0 layers width (omega arith) agree (λ k least. ends k (omega (arith, least)))

-- a layer that isn't there wants nothing
pub wants_beyond : (rules : List Filter) (kind : Kind) (layer : ℕ) → length rules ≤ layer → layer_wants rules layer kind ≡ false
wants_beyond [] kind layer past = refl
wants_beyond (f ∷ rules) kind zero past = absurd (omega (arith, past))
wants_beyond (f ∷ rules) kind (suc layer) past = wants_beyond rules kind layer (omega (arith, past))

-- a bit of what is left of a mask
pub bit_left : (mask from k : ℕ) → bit_at (mask / 2 ^ from) k ≡ bit_at mask (from + k)
bit_left mask from k = ap (λ n. n % 2) (div-div-eq-div-mul mask (2 ^ from) (2 ^ k) ∙ ap (λ p. mask / p) (sym (pow-add 2 from k)))

unset : (inside : Bool) (bit : ℕ) → bit ≡ 0 → (inside && (bit == 1)) ≡ false
unset true bit none = rw none refl
unset false bit none = refl

-- from 64 on there is no layer
pub told_past : (mask from : ℕ) → 64 ≤ from → told_from mask from ≡ []
unfolding told_from
told_past mask from past = ap (λ m. filter (has_bit mask) (range_with_len from m)) width
  where
    width : 64 - from ≡ 0
    width = omega (arith, past)

-- the empty mask has no layer
pub has_bit-none : (mask layer : ℕ) → mask ≡ 0 → has_bit mask layer ≡ false
has_bit-none mask layer none = unset (nat_lt layer 64) (bit_at mask layer) (ap (λ n. bit_at n layer) none ∙ bit_at-zero layer)

-- where nothing is left of a mask from a number on, no layer is
pub told_none : (mask from : ℕ) → from ≤ 64 → mask / 2 ^ from ≡ 0 → told_from mask from ≡ []
told_none mask from within none =
    told_is mask from (64 - from) (omega (arith, within))
    ∙ none_passes (has_bit mask) from (64 - from) (λ k least lt. unset (nat_lt k 64) (bit_at mask k) (clear k least))
  where
    clear : (k : ℕ) → from ≤ k → bit_at mask k ≡ 0
    clear k least =
        let at : from + (k - from) ≡ k = omega (arith, least) in
        ap (bit_at mask) (sym at) ∙ sym (bit_left mask from (k - from)) ∙ ap (λ n. bit_at n (k - from)) none ∙ bit_at-zero (k - from)

-- the lowest bit that is left of a mask is the next layer
pub told_next : (mask from skip : ℕ) → from + skip < 64 → bit_at (mask / 2 ^ from) skip ≡ 1 → ((k : ℕ) → k < skip → bit_at (mask / 2 ^ from) k ≡ 0)
    → told_from mask from ≡ (from + skip) ∷ told_from mask (from + skip + 1)
told_next mask from skip within set clear =
    told_is mask from (skip + (64 - (from + skip))) (omega (arith, within))
    ∙ passed_over (has_bit mask) from skip (64 - (from + skip)) (skip + (64 - (from + skip))) refl (λ k least lt. unset (nat_lt k 64) (bit_at mask k) (unset_at k least lt))
    ∙ ap (λ n. filter (has_bit mask) (range_with_len (from + skip) n)) one_more
    ∙ ap (λ b. cond b ((from + skip) ∷ rest) rest) here
    ∙ ap (λ ls. (from + skip) ∷ ls) (sym (told_is mask (from + skip + 1) (64 - (from + skip + 1)) (omega (arith, within))))
  where
    rest : List ℕ
    rest = filter (has_bit mask) (range_with_len (from + skip + 1) (64 - (from + skip + 1)))

    one_more : 64 - (from + skip) ≡ suc (64 - (from + skip + 1))
    one_more = omega (arith, within)

    unset_at : (k : ℕ) → from ≤ k → k < from + skip → bit_at mask k ≡ 0
    unset_at k least lt =
        let at : from + (k - from) ≡ k = omega (arith, least) in
        ap (bit_at mask) (sym at) ∙ sym (bit_left mask from (k - from)) ∙ clear (k - from) (omega (arith, least, lt))

    here : has_bit mask (from + skip) ≡ true
    here = rw (lt-ltb (from + skip) 64 within, sym (bit_left mask from skip) ∙ set) refl

-- a turn of a loop over the layers that are told: the notes so far, with those of the layers that are left
pub layer_more : (f : ℕ → PlainNote) (layer : ℕ) (left rest : List ℕ) (all before after : List PlainNote)
    → left ≡ layer ∷ rest → before ++ map f left ≡ all → after ≡ before ++ f layer ∷ [] → after ++ map f rest ≡ all
layer_more f layer left rest all before after next so_far more =
    ap (λ xs. xs ++ map f rest) more ∙ append_assoc before (f layer ∷ []) (map f rest)
    ∙ ap (λ ns. before ++ map f ns) (sym next) ∙ so_far

-- after the last turn
pub layers_end : (f : ℕ → PlainNote) (left : List ℕ) (all notes : List PlainNote) → left ≡ [] → notes ++ map f left ≡ all → notes ≡ all
layers_end f left all notes none told = sym (append-nil notes) ∙ ap (λ ns. notes ++ map f ns) (sym none) ∙ told

-- the notes of a call with one happening
pub one_happening : (rules : List Filter) (worker : ℕ) (what : Happening) (first notes : List PlainNote) → first ≡ [] → notes ≡ first ++ notes_of rules worker what → notes ≡ notes_of_all rules worker (what ∷ [])
one_happening rules worker what first notes none are =
    are ∙ ap (λ xs. xs ++ notes_of rules worker what) none ∙ sym (append_nil (notes_of rules worker what))
  where
    append_nil : (xs : List PlainNote) → xs ++ [] ≡ xs
    append_nil [] = refl
    append_nil (x ∷ xs) = ap (λ ys. x ∷ ys) (append_nil xs)

-- the notes of an event
pub event_notes : (rules : List Filter) (worker : ℕ) (spans : Spans) (stack seen : List ℕ) (bits admitted : ℕ) (meta : PlainMeta) (message : List ℕ) (fields : List KeyValue) (notes : List PlainNote)
    → seen ≡ stack → bits ≡ admitted
    → notes ≡ notes_of rules worker (event_at spans seen bits meta.level message fields)
    → notes ≡ notes_of_all rules worker (event_at spans stack admitted meta.level message fields ∷ [])
event_notes rules worker spans stack seen bits admitted meta message fields notes same bits_are are =
    one_happening rules worker (event_at spans stack admitted meta.level message fields) [] notes refl
    (are ∙ (λ j. notes_of rules worker (event_at spans (same j) (bits_are j) meta.level message fields)))

pub never : (a b : Bool) → b ≡ false → (a && b) ≡ false
never true b fails = fails
never false b fails = refl

-- where no layer wants closes, nothing is told of spans that close
pub unwanted_closes : (rules : List Filter) (worker : ℕ) (spans : Spans) (closed : List ℕ) (notes : List PlainNote)
    → ((layer : ℕ) → layer < length rules → layer_wants rules layer OnClose ≡ false) → notes ≡ notes ++ flat_map (notes_of rules worker) (map (close_of spans) closed)
unwanted_closes rules worker spans closed notes unwanted = sym (append-nil notes) ∙ ap (λ xs. notes ++ xs) (sym (quiet closed))
  where
    quiet : (ids : List ℕ) → flat_map (notes_of rules worker) (map (close_of spans) ids) ≡ []
    quiet [] = refl
    quiet (id ∷ ids) =
        ap (λ layers. map (note_of worker (close_of spans id)) layers ++ flat_map (notes_of rules worker) (map (close_of spans) ids))
        (none_passes (is_told rules (close_of spans id)) 0 (length rules) (λ k least lt. never (has_bit (bits_in spans id) k) (layer_wants rules k OnClose) (unwanted k (omega (arith, lt)))))
        ∙ quiet ids
