-- How many notes of a call tell a layer that a span closed.
use Rattle.std.proofs.Common.{◌≡◌, ◌≢◌, ℕ, zero, suc, ◌+◌, ◌<◌, ◌≤◌, ◌==◌, Bool, true, false, cond, ◌&&◌, List, [], ◌∷◌, ◌++◌, length, map, filter, get_or, refl, sym, ap, ◌∙◌, inl, inr, arith}
use Rattle.std.specs.Prelude.{AllPairs, count_by}
use Rattle.std.specs.List.{range_with_len}
use Rattle.std.proofs.lemmas.Bool.{cases_Bool, cases_lt, false≢true}
use Rattle.std.proofs.lemmas.Bool.Decides.{eqb_tells}
use Rattle.std.proofs.lemmas.List.Sums.{sum_by-cons}
use Rattle.span_id.specs.Ids.{has}
use Rattle.span_layers.specs.declared.note.Kind.TheVariants.{OnNew, OnRecord, OnEnter, OnExit, OnClose}
use Rattle.span_layers.specs.Note.{PlainNote}
use Rattle.span_layers.specs.Filter.{Filter, layer_wants}
use Rattle.span_forest.specs.Spans.{Spans}
use Rattle.span_core.specs.World.{World}
use Rattle.span_outlet.specs.Request.{Request, new_span, clone_span, enter, exit, try_close, record_fields, event, Answer, made, cloned, entered, exited, released, recorded, told}
use Rattle.span_core.specs.Happening.{Happening, at_span, close_of, event_told, happenings, is_told, note_of, notes_of, notes_of_all}
use Rattle.span_core.specs.Step.{Changes}
use Rattle.span_core.specs.ClosedSpans.{closed_by, is_close, tells_close, hears_close}
use Rattle.span_core.proofs.Steps.{answered}

abbrev pub one : Bool → ℕ
one b = cond b 1 0

-- how many elements pass, by recursion
abbrev pub tally : {X : Type 0} → (X → Bool) → List X → ℕ
tally p [] = 0
tally p (x ∷ xs) = cond (p x) (suc (tally p xs)) (tally p xs)

pub tally_is : {X : Type 0} (p : X → Bool) (xs : List X) → count_by p xs ≡ tally p xs
tally_is p [] = refl
tally_is p (x ∷ xs) = sum_by-cons (λ y. cond (p y) 1 0) x xs ∙ by_case (p x) (tally_is p xs) where
  by_case : (b : Bool) → count_by p xs ≡ tally p xs → one b + count_by p xs ≡ cond b (suc (tally p xs)) (tally p xs)
  by_case true e = omega (arith, e)
  by_case false e = omega (arith, e)

-- ---- one number among those of a list that pass a test

failing_uncounted : (p : ℕ → Bool) (layer : ℕ) → p layer ≡ false → (ks : List ℕ) → tally (λ k. k == layer) (filter p ks) ≡ 0
failing_uncounted p layer fails [] = refl
failing_uncounted p layer fails (k ∷ ks) =
    let rest = failing_uncounted p layer fails ks in
    elim (eqb_tells k layer) [
      | inl t ↦ (let u : p k ≡ false = ap p t.1 ∙ fails in rw u rest)
      | inr t ↦ elim (cases_Bool (p k)) [ inl u ↦ rw (u, t.0) rest | inr u ↦ rw u rest ]
    ]

passing_counted : (p : ℕ → Bool) (layer : ℕ) → p layer ≡ true → (ks : List ℕ) → tally (λ k. k == layer) (filter p ks) ≡ tally (λ k. k == layer) ks
passing_counted p layer passes [] = refl
passing_counted p layer passes (k ∷ ks) =
    let rest = passing_counted p layer passes ks in
    elim (eqb_tells k layer) [
      | inl t ↦ (let u : p k ≡ true = ap p t.1 ∙ passes in rw (u, t.0) (ap suc rest))
      | inr t ↦ elim (cases_Bool (p k)) [ inl u ↦ rw (u, t.0) rest | inr u ↦ rw (u, t.0) rest ]
    ]

below_range : (layer a n : ℕ) → layer < a → tally (λ k. k == layer) (range_with_len a n) ≡ 0
below_range layer a zero low = refl
below_range layer a (suc n) low =
    let rest = below_range layer (a + 1) n (omega (arith, low)) in
    elim (eqb_tells a layer) [
      | inl t ↦ absurd (let e = t.1 in omega (arith, e, low))
      | inr t ↦ rw t.0 rest
    ]

in_range : (layer a n : ℕ) → a ≤ layer → layer < a + n → tally (λ k. k == layer) (range_with_len a n) ≡ 1
in_range layer a zero low high = absurd (omega (arith, low, high))
in_range layer a (suc n) low high =
    elim (eqb_tells a layer) [
      | inl t ↦ (let rest = below_range layer (a + 1) n (let e = t.1 in omega (arith, e)) in rw t.0 (ap suc rest))
      | inr t ↦ rw t.0 (in_range layer (a + 1) n (above a layer low t.1) (omega (arith, high)))
    ]
  where
    above : (a layer : ℕ) → a ≤ layer → a ≢ layer → a + 1 ≤ layer
    above a layer low apart = elim (cases_lt a layer) [ inl t ↦ omega (arith, t) | inr t ↦ absurd (apart (omega (arith, low, t))) ]

-- ---- the notes of one happening

other_kind : (worker layer id : ℕ) (what : Happening) → is_close what.kind ≡ false → (ks : List ℕ) → tally (tells_close layer id) (map (note_of worker what) ks) ≡ 0
other_kind worker layer id what other [] = refl
other_kind worker layer id what other (k ∷ ks) = let rest = other_kind worker layer id what other ks in rw other rest

other_span : (worker layer id : ℕ) (spans : Spans) (closed : ℕ) → (closed == id) ≡ false → (ks : List ℕ) → tally (tells_close layer id) (map (note_of worker (close_of spans closed)) ks) ≡ 0
other_span worker layer id spans closed other [] = refl
other_span worker layer id spans closed other (k ∷ ks) =
    let rest = other_span worker layer id spans closed other ks in
    elim (cases_Bool (k == layer)) [ inl t ↦ rw (t, other) rest | inr t ↦ rw t rest ]

same_span : (worker layer id : ℕ) (spans : Spans) (closed : ℕ) → (closed == id) ≡ true → (ks : List ℕ) → tally (tells_close layer id) (map (note_of worker (close_of spans closed)) ks) ≡ tally (λ k. k == layer) ks
same_span worker layer id spans closed same [] = refl
same_span worker layer id spans closed same (k ∷ ks) =
    let rest = same_span worker layer id spans closed same ks in
    elim (cases_Bool (k == layer)) [ inl t ↦ rw (t, same) (ap suc rest) | inr t ↦ rw t rest ]

past_layers : (rules : List Filter) (layer : ℕ) → layer_wants rules layer OnClose ≡ true → layer < length rules
past_layers [] layer h = absurd (false≢true h)
past_layers (rule ∷ rules) zero h = omega arith
past_layers (rule ∷ rules) (suc layer) h = let rest = past_layers rules layer h in omega (arith, rest)

both_true : (a b : Bool) → (a && b) ≡ true → b ≡ true
both_true true b h = h
both_true false b h = absurd (false≢true h)

-- one close is told to a layer once where the layer hears of it
told_once : (rules : List Filter) (worker layer id : ℕ) (spans : Spans) → hears_close rules spans layer id ≡ true → tally (tells_close layer id) (notes_of rules worker (close_of spans id)) ≡ 1
told_once rules worker layer id spans hears =
    same_span worker layer id spans id itself (filter (is_told rules (close_of spans id)) (range_with_len 0 (length rules)))
    ∙ passing_counted (is_told rules (close_of spans id)) layer hears (range_with_len 0 (length rules))
    ∙ in_range layer 0 (length rules) (omega arith) (let low : layer < length rules = past_layers rules layer (both_true _ _ hears) in omega (arith, low))
  where
    itself : (id == id) ≡ true
    itself = elim (eqb_tells id id) [ inl t ↦ t.0 | inr t ↦ absurd (t.1 refl) ]

-- ---- the closes of a call

pub append_count : (layer id : ℕ) (notes more : List PlainNote) → tally (tells_close layer id) (notes ++ more) ≡ tally (tells_close layer id) notes + tally (tells_close layer id) more
append_count layer id [] more = omega arith
append_count layer id (note ∷ notes) more =
    let rest = append_count layer id notes more in
    elim (cases_Bool (tells_close layer id note)) [ inl t ↦ rw t (omega (arith, rest)) | inr t ↦ rw t rest ]

abbrev closes : List Filter → ℕ → Spans → List ℕ → List PlainNote
closes rules worker spans closed = notes_of_all rules worker (map (close_of spans) closed)

unheard : (rules : List Filter) (worker layer id : ℕ) (spans : Spans) → hears_close rules spans layer id ≡ false → (closed : List ℕ) → tally (tells_close layer id) (closes rules worker spans closed) ≡ 0
unheard rules worker layer id spans deaf [] = refl
unheard rules worker layer id spans deaf (c ∷ cs) =
    append_count layer id (notes_of rules worker (close_of spans c)) (closes rules worker spans cs)
    ∙ (let rest = unheard rules worker layer id spans deaf cs in
    let first : tally (tells_close layer id) (notes_of rules worker (close_of spans c)) ≡ 0 =
    elim (eqb_tells c id) [
      | inl t ↦ same_span worker layer id spans c t.0 _ ∙ failing_uncounted (is_told rules (close_of spans c)) layer (ap (λ k. hears_close rules spans layer k) t.1 ∙ deaf) (range_with_len 0 (length rules))
      | inr t ↦ other_span worker layer id spans c t.0 _
    ] in
    omega (arith, rest, first))

heard : (rules : List Filter) (worker layer id : ℕ) (spans : Spans) → hears_close rules spans layer id ≡ true → (closed : List ℕ) → tally (tells_close layer id) (closes rules worker spans closed) ≡ tally (λ c. c == id) closed
heard rules worker layer id spans hears [] = refl
heard rules worker layer id spans hears (c ∷ cs) =
    append_count layer id (notes_of rules worker (close_of spans c)) (closes rules worker spans cs)
    ∙ (let rest = heard rules worker layer id spans hears cs in
    elim (eqb_tells c id) [
      | inl t ↦ (let first = told_once rules worker layer c spans (ap (λ k. hears_close rules spans layer k) t.1 ∙ hears) in
          let first' : tally (tells_close layer id) (notes_of rules worker (close_of spans c)) ≡ 1 = ap (λ k. tally (tells_close layer k) (notes_of rules worker (close_of spans c))) (sym t.1) ∙ first in
          rw t.0 (omega (arith, rest, first')))
      | inr t ↦ (let first = other_span worker layer id spans c t.0 (filter (is_told rules (close_of spans c)) (range_with_len 0 (length rules))) in rw t.0 (omega (arith, rest, first)))
    ])

-- in a list that has no id twice, an id stands once or not at all
stands_somewhere : (xs : List ℕ) (x : ℕ) → has xs x ≡ true → (k : ℕ) × (k < length xs) × ((d : ℕ) → get_or xs k d ≡ x)
stands_somewhere [] x h = absurd (false≢true h)
stands_somewhere (y ∷ ys) x h =
    elim (eqb_tells y x) [
      | inl t ↦ (0, omega arith, λ d. t.1)
      | inr t ↦ (let r = stands_somewhere ys x (rw t.0 at h) in (suc r.0, (let low = r.1 in omega (arith, low)), r.2))
    ]

AllPairs-tail : (R : ℕ → ℕ → Type 0) (x : ℕ) (xs : List ℕ) → AllPairs R (x ∷ xs) → AllPairs R xs
AllPairs-tail R x xs h i j d low high = h (suc i) (suc j) d (omega (arith, low)) (omega (arith, high))

counted_once : (xs : List ℕ) (id : ℕ) → AllPairs (λ first later. first ≢ later) xs → tally (λ c. c == id) xs ≡ one (has xs id)
counted_once [] id apart = refl
counted_once (x ∷ xs) id apart =
    let rest = counted_once xs id (AllPairs-tail (λ first later. first ≢ later) x xs apart) in
    elim (eqb_tells x id) [
      | inl t ↦ (let alone : has xs id ≡ false =
          elim (cases_Bool (has xs id)) [
            | inl u ↦ (let k = stands_somewhere xs id u in absurd (apart 0 (suc k.0) 0 (omega arith) (let low = k.1 in omega (arith, low)) (t.1 ∙ sym (k.2 0))))
            | inr u ↦ u
          ] in
          let none = rw alone at rest in
          rw t.0 (omega (arith, none)))
      | inr t ↦ rw t.0 rest
    ]

pub and_false : (b : Bool) → (b && false) ≡ false
and_false true = refl
and_false false = refl

and_true : (b : Bool) → (b && true) ≡ b
and_true true = refl
and_true false = refl

pub closes_counted : (rules : List Filter) (worker layer id : ℕ) (spans : Spans) (closed : List ℕ) → AllPairs (λ first later. first ≢ later) closed
    → tally (tells_close layer id) (closes rules worker spans closed) ≡ one (has closed id && hears_close rules spans layer id)
closes_counted rules worker layer id spans closed apart =
    elim (cases_Bool (hears_close rules spans layer id)) [
      | inl t ↦ heard rules worker layer id spans t closed ∙ counted_once closed id apart ∙ ap one (sym (ap (λ b. has closed id && b) t ∙ and_true (has closed id)))
      | inr t ↦ unheard rules worker layer id spans t closed ∙ ap one (sym (ap (λ b. has closed id && b) t ∙ and_false (has closed id)))
    ]

-- a happening of another kind adds none
quiet_first : (rules : List Filter) (worker layer id : ℕ) (what : Happening) (more : List PlainNote) → is_close what.kind ≡ false → tally (tells_close layer id) (notes_of rules worker what ++ more) ≡ tally (tells_close layer id) more
quiet_first rules worker layer id what more other =
    append_count layer id (notes_of rules worker what) more
    ∙ (let none = other_kind worker layer id what other (filter (is_told rules what) (range_with_len 0 (length rules))) in omega (arith, none))

-- the notes of a call that tell a layer of a close are those of the spans that closed
pub call_counted : (rules : List Filter) (ids : List ℕ) (worker layer id : ℕ) (old : World) (request : Request) (answer : Answer) (new : World) → Changes rules ids old request answer new
    → tally (tells_close layer id) (notes_of_all rules worker (happenings rules old request answer new)) ≡ tally (tells_close layer id) (closes rules worker old.spans (closed_by answer))
call_counted rules ids worker layer id old (new_span w meta fields parent) (made i) new h = quiet_first rules worker layer id (at_span new.spans OnNew i fields) [] refl
call_counted rules ids worker layer id old (clone_span w i) cloned new h = refl
call_counted rules ids worker layer id old (enter w i) (entered first) new h = quiet_first rules worker layer id (at_span old.spans OnEnter i []) [] refl
call_counted rules ids worker layer id old (exit w i) (exited closed) new h = quiet_first rules worker layer id (at_span old.spans OnExit i []) (closes rules worker old.spans closed) refl
call_counted rules ids worker layer id old (try_close w i) (released closed) new h = refl
call_counted rules ids worker layer id old (record_fields w i fields) recorded new h = quiet_first rules worker layer id (at_span old.spans OnRecord i fields) [] refl
call_counted rules ids worker layer id old (event w meta message fields parent) told new h = quiet_first rules worker layer id (event_told rules old w meta message fields parent) [] refl
call_counted rules ids worker layer id old _ _ new h = absurd (false≢true (answered h))
