-- The texts of a span, measured and written one after another, are read as what was said of it.
use Rattle.std.proofs.Common.{◌≡◌, ℕ, ◌+◌, ◌<◌, ◌≤◌, ◌^◌, Bool, true, false, cond, ◌&&◌, List, [], ◌∷◌, ◌++◌, length, map, take, drop, get_or, All, Option, Some, None, is_some, IfSome, refl, sym, ap, subst, ◌∙◌, inl, inr, append-nil, append_assoc, length-append, drop-drop, take_at, drop_at, true≢false, zero, suc, lit<, arith}
use Rattle.std.proofs.lemmas.Bool.{cases_Bool, cases_lt, lt-ltb, le-ltb}
use Rattle.std.proofs.lemmas.List.{map_more, drop_more, flat_map_more, take-append-drop}
use Rattle.std.proofs.lemmas.List.Elements.{All-head, All-tail, All-push}
use Rattle.std.specs.Prelude.{nat_lt, string_bytes}
use Rattle.std.specs.List.{list_all}
use Rattle.std.specs.Str.{IsUtf8}
use Rattle.span_id.specs.declared.level.Level.{Level}
use Rattle.span_id.specs.declared.level.Level.TheVariants.{Error, Warn, Info, Debug, Trace}
use Rattle.span_id.specs.Level.{verbosity}
use Rattle.span_id.specs.Meta.{PlainMeta, KeyValue, key_value, plain_fields}
use Rattle.span_id.specs.declared.meta.Field.{Field}
use Rattle.span_forest.specs.Node.{Node}
use Rattle.span_border.specs.declared.status.Status.TheVariants.{Done}
use Rattle.span_ffi.specs.declared.data.SpanMeta.{SpanMeta}
use Rattle.span_ffi.specs.declared.data.SpanField.{SpanField}
use Rattle.span_ffi.specs.Data.{BeginsWithText, said_level, AreFields, said_fields, behind_field}
use Rattle.span_ffi.specs.Details.{text_pairs, packed, are_short, texts_fit_in_c, span_fits_in_c, ReadAsSaid, Filling, FillsWith, AnswersSaid, field_lengths}
use Rattle.span_ffi.specs.inside.Packing.{AreTexts, WritesAt}

-- ---- how long the texts are

-- one pass over pairs, from a length on: none where a pair isn't short or the length reaches the bound
abbrev pub measured : ℕ → ℕ → List KeyValue → Option ℕ
measured bound len [] = Some len
measured bound len (p ∷ ps) = cond (are_short p) (cond (nat_lt (len + (length p.0 + length p.1)) bound) (measured bound (len + (length p.0 + length p.1)) ps) None) None

length_packed : (p : KeyValue) (ps : List KeyValue) → length (packed (p ∷ ps)) ≡ (length p.0 + length p.1) + length (packed ps)
length_packed p ps = length-append (p.0 ++ p.1) (packed ps) ∙ ap (λ n. n + length (packed ps)) (length-append p.0 p.1)

and_false : (b : Bool) → (b && false) ≡ false
and_false true = refl
and_false false = refl

pub measured_some : (bound len : ℕ) (ps : List KeyValue) → len < bound → is_some (measured bound len ps) ≡ (list_all are_short ps && nat_lt (len + length (packed ps)) bound)
measured_some bound len [] low = sym (lt-ltb (len + 0) bound (omega arith))
measured_some bound len (p ∷ ps) low = elim (cases_Bool (are_short p)) [
  | inr long ↦ rw long refl
  | inl short ↦ rw (short, length_packed p ps) (elim (cases_lt (len + (length p.0 + length p.1)) bound) [
    | inl less ↦
        (let same : len + ((length p.0 + length p.1) + length (packed ps)) ≡ (len + (length p.0 + length p.1)) + length (packed ps) = omega arith in
        rw (lt-ltb (len + (length p.0 + length p.1)) bound less, same) (measured_some bound (len + (length p.0 + length p.1)) ps less))
    | inr more ↦
        rw (le-ltb (len + (length p.0 + length p.1)) bound more, le-ltb (len + ((length p.0 + length p.1) + length (packed ps))) bound (omega arith)) (sym (and_false (list_all are_short ps)))
  ])
]

pub measured_len : (bound len : ℕ) (ps : List KeyValue) → IfSome (measured bound len ps) (λ n. n ≡ len + length (packed ps))
measured_len bound len [] = omega arith
measured_len bound len (p ∷ ps) = elim (cases_Bool (are_short p)) [
  | inr long ↦ rw long tt
  | inl short ↦ rw (short, length_packed p ps) (elim (cases_lt (len + (length p.0 + length p.1)) bound) [
    | inl less ↦
        (let same : len + ((length p.0 + length p.1) + length (packed ps)) ≡ (len + (length p.0 + length p.1)) + length (packed ps) = omega arith in
        rw (lt-ltb (len + (length p.0 + length p.1)) bound less, same) (measured_len bound (len + (length p.0 + length p.1)) ps))
    | inr more ↦ rw (le-ltb (len + (length p.0 + length p.1)) bound more) tt
  ])
]

-- what a test with a value tells
pub none_from : (b : Bool) (v : ℕ) → None ≡ cond b (Some v) None → b ≡ false
none_from true v is = cc
none_from false v is = refl

pub some_from : (b : Bool) (v w : ℕ) → Some w ≡ cond b (Some v) None → w ≡ v
some_from true v w is = cc
some_from false v w is = cc

-- ---- what was written

-- nothing, at a place
pub writes_none : (at : ℕ) (old : List ℕ) → WritesAt [] at old old at
writes_none at old = (omega arith, sym (append-nil (take at old)), refl)

-- bytes behind others
pub writes_then : (one two old mid new : List ℕ) (at end last : ℕ) → WritesAt one at old mid end → WritesAt two end mid new last → WritesAt (one ++ two) at old new last
writes_then one two old mid new at end last first second =
    let size = length-append one two in
    let first_end = first.0 in
    let second_end = second.0 in (
      omega (arith, size, first_end, second_end),
      second.1 ∙ (ap (λ v. v ++ two) first.1 ∙ append_assoc (take at old) one two),
      second.2
          ∙ (ap (λ n. drop n mid) second_end
          ∙ (sym (drop-drop (length two) end mid)
          ∙ (ap (λ v. drop (length two) v) first.2
          ∙ (drop-drop (length two) end old ∙ ap (λ n. drop n old) (sym second_end))))),
    )

-- one more field: of those that were written, and of those that are left
module _ (xs : List Field) (k : ℕ) (x : Field) (within : k < length xs) (is : x ≡ get_or xs k x) where
  pub packed_more : packed (plain_fields (take (k + 1) xs)) ≡ packed (plain_fields (take k xs)) ++ (string_bytes x.key ++ string_bytes x.value)
  packed_more =
      ap packed (map_more key_value xs k x within ∙ ap (λ y. plain_fields (take k xs) ++ key_value y ∷ []) (sym is))
      ∙ sym (flat_map_more (λ (pair : KeyValue). pair.0 ++ pair.1) [] (plain_fields (take k xs)) (key_value x))

  pub texts_more : All AreTexts (plain_fields (take k xs)) → AreTexts (key_value x) → All AreTexts (plain_fields (take (k + 1) xs))
  texts_more so_far here =
      subst (All AreTexts) (sym (map_more key_value xs k x within ∙ ap (λ y. plain_fields (take k xs) ++ key_value y ∷ []) (sym is)))
      (All-push AreTexts (plain_fields (take k xs)) (key_value x) so_far here)

  pub left_more : plain_fields (drop k xs) ≡ key_value x ∷ plain_fields (drop (k + 1) xs)
  left_more = ap plain_fields (drop_more xs k x within ∙ ap (λ y. y ∷ drop (k + 1) xs) (sym is))

  pub len_more : length (packed (plain_fields (drop k xs))) ≡ (length (string_bytes x.key) + length (string_bytes x.value)) + length (packed (plain_fields (drop (k + 1) xs)))
  len_more = ap (λ ps. length (packed ps)) left_more ∙ length_packed (key_value x) (plain_fields (drop (k + 1) xs))

pub measured_fit : (pairs : List KeyValue) → is_some (measured (2 ^ 64) 0 pairs) ≡ texts_fit_in_c pairs
measured_fit pairs =
    let start : 0 + length (packed pairs) ≡ length (packed pairs) = omega arith in
    measured_some (2 ^ 64) 0 pairs (lit< tt) ∙ ap (λ n. list_all are_short pairs && nat_lt n (2 ^ 64)) start

pub measured_packed : (pairs : List KeyValue) (len : ℕ) → Some len ≡ measured (2 ^ 64) 0 pairs → len ≡ length (packed pairs)
measured_packed pairs len is =
    let all : len ≡ 0 + length (packed pairs) = subst (λ o. IfSome o (λ n. n ≡ 0 + length (packed pairs))) (sym is) (measured_len (2 ^ 64) 0 pairs) in
    omega arith

-- the pass at one field
module _ (bound len : ℕ) (xs : List Field) (k : ℕ) (x : Field) (within : k < length xs) (is : x ≡ get_or xs k x) where
  at_field : measured bound len (plain_fields (drop k xs)) ≡ measured bound len (key_value x ∷ plain_fields (drop (k + 1) xs))
  at_field = ap (measured bound len) (left_more xs k x within is)

  pub measured_long : are_short (key_value x) ≡ false → measured bound len (plain_fields (drop k xs)) ≡ None
  measured_long long = at_field ∙ rw long refl

  pub measured_over : bound ≤ len + (length (string_bytes x.key) + length (string_bytes x.value)) → measured bound len (plain_fields (drop k xs)) ≡ None
  measured_over over = elim (cases_Bool (are_short (key_value x))) [
    | inl short ↦ at_field ∙ rw (short, le-ltb (len + (length (string_bytes x.key) + length (string_bytes x.value))) bound over) refl
    | inr long ↦ measured_long long
  ]

-- ---- what is read

-- what stands in a list behind one part, and behind both
module _ (one two rest : List ℕ) where
  first_of_two : take (length one) ((one ++ two) ++ rest) ≡ one
  first_of_two = ap (take (length one)) (append_assoc one two rest) ∙ take_at one (two ++ rest) (length one) refl

  behind_first : drop (length one) ((one ++ two) ++ rest) ≡ two ++ rest
  behind_first = ap (drop (length one)) (append_assoc one two rest) ∙ drop_at one (two ++ rest) (length one) refl

  second_of_two : take (length two) (drop (length one) ((one ++ two) ++ rest)) ≡ two
  second_of_two = ap (take (length two)) behind_first ∙ take_at two rest (length two) refl

  behind_both : drop (length two) (drop (length one) ((one ++ two) ++ rest)) ≡ rest
  behind_both = ap (drop (length two)) behind_first ∙ drop_at two rest (length two) refl

  begins_first : IsUtf8 one → BeginsWithText (length one) ((one ++ two) ++ rest)
  begins_first is = (let all = length-append (one ++ two) rest in let both = length-append one two in omega (arith, all, both), subst IsUtf8 (sym first_of_two) is)

  begins_second : IsUtf8 two → BeginsWithText (length two) (drop (length one) ((one ++ two) ++ rest))
  begins_second is = (let size = ap length behind_first in let all = length-append two rest in omega (arith, size, all), subst IsUtf8 (sym second_of_two) is)

reads_fields : (ps : List KeyValue) → All AreTexts ps → AreFields (map field_lengths ps) (packed ps)
reads_fields [] texts = refl
reads_fields (p ∷ ps) texts =
    let both = All-head AreTexts p ps texts in (
      begins_first p.0 p.1 (packed ps) both.0,
      begins_second p.0 p.1 (packed ps) both.1,
      subst (λ bytes. AreFields (map field_lengths ps) bytes) (sym (behind_both p.0 p.1 (packed ps))) (reads_fields ps (All-tail AreTexts p ps texts)),
    )

reads_same_fields : (ps : List KeyValue) → said_fields (map field_lengths ps) (packed ps) ≡ ps
reads_same_fields [] = refl
reads_same_fields (p ∷ ps) =
    ap (λ key. (key, take (length p.1) (drop (length p.0) (packed (p ∷ ps)))) ∷ said_fields (map field_lengths ps) (behind_field (field_lengths p) (packed (p ∷ ps)))) (first_of_two p.0 p.1 (packed ps))
    ∙ (ap (λ value. (p.0, value) ∷ said_fields (map field_lengths ps) (behind_field (field_lengths p) (packed (p ∷ ps)))) (second_of_two p.0 p.1 (packed ps))
    ∙ (ap (λ bytes. (p.0, p.1) ∷ said_fields (map field_lengths ps) bytes) (behind_both p.0 p.1 (packed ps))
    ∙ ap (λ fields. p ∷ fields) (reads_same_fields ps)))

said_verbosity : (level : Level) → said_level (verbosity level) ≡ level
said_verbosity Error = refl
said_verbosity Warn = refl
said_verbosity Info = refl
said_verbosity Debug = refl
said_verbosity Trace = refl

verbosity_few : (level : Level) → verbosity level ≤ 4
verbosity_few Error = omega arith
verbosity_few Warn = omega arith
verbosity_few Info = omega arith
verbosity_few Debug = omega arith
verbosity_few Trace = omega arith

-- the lengths of the name and the target, with the level
abbrev pub meta_lengths : Node → SpanMeta
meta_lengths node = record { level = verbosity node.level; name_len = length node.name; target_len = length node.target }

abbrev plain : List ℕ → List ℕ → Level → PlainMeta
plain name target level = record { name = name; target = target; level = level }

same_meta : (name name' target target' : List ℕ) (level level' : Level) → name ≡ name' → target ≡ target' → level ≡ level' → plain name target level ≡ plain name' target' level'
same_meta name name' target target' level level' n t l =
    ap (λ v. plain v target level) n ∙ (ap (λ v. plain name' v level) t ∙ ap (λ v. plain name' target' v) l)

pub reads_as_said : (node : Node) → All AreTexts (text_pairs node) → ReadAsSaid node (meta_lengths node) (map field_lengths node.fields) (packed (text_pairs node))
reads_as_said node texts =
    let both = All-head AreTexts (node.name, node.target) node.fields texts in
    let rest = packed node.fields in
    let behind = behind_both node.name node.target rest in
    record {
      is_span = record {
        kind_is = omega arith;
        meta_is = record {
          level = verbosity_few node.level;
          name = begins_first node.name node.target rest both.0;
          target = begins_second node.name node.target rest both.1;
        };
        fields_are = subst (λ bytes. AreFields (map field_lengths node.fields) bytes) (sym behind) (reads_fields node.fields (All-tail AreTexts (node.name, node.target) node.fields texts));
      };
      same_meta = same_meta _ node.name _ node.target _ node.level (first_of_two node.name node.target rest) (second_of_two node.name node.target rest) (said_verbosity node.level);
      same_fields = ap (λ bytes. said_fields (map field_lengths node.fields) bytes) behind ∙ reads_same_fields node.fields;
    }

-- ---- what is told of a span

-- a pair at a place
pub short_at : (ps : List KeyValue) (k : ℕ) (d : KeyValue) → list_all are_short ps ≡ true → k < length ps → are_short (get_or ps k d) ≡ true
short_at [] k d all within = absurd (omega arith)
short_at (p ∷ ps) zero d all within = elim (cases_Bool (are_short p)) [
  | inl short ↦ short
  | inr long ↦ absurd (true≢false (sym all ∙ ap (λ b. b && list_all are_short ps) long))
]
short_at (p ∷ ps) (suc k) d all within = elim (cases_Bool (are_short p)) [
  | inl short ↦ short_at ps k d (ap (λ b. b && list_all are_short ps) (sym short) ∙ all) (omega arith)
  | inr long ↦ absurd (true≢false (sym all ∙ ap (λ b. b && list_all are_short ps) long))
]

abbrev numbers : ℕ → ℕ → ℕ → SpanMeta
numbers level name_len target_len = record { level = level; name_len = name_len; target_len = target_len }

pub same_numbers : (meta : SpanMeta) (level name_len target_len : ℕ) → meta.level ≡ level → meta.name_len ≡ name_len → meta.target_len ≡ target_len → meta ≡ numbers level name_len target_len
same_numbers meta level name_len target_len l n t =
    ap (λ v. numbers v meta.name_len meta.target_len) l ∙ (ap (λ v. numbers level v meta.target_len) n ∙ ap (λ v. numbers level name_len v) t)

-- what was written from the beginning of a buffer on, with how much it is
pub filled : {X : Type 0} (old new things : List X) (len : ℕ) → len ≡ length things → len ≤ length old → take len new ≡ things
    → drop len new ≡ drop len old → FillsWith things (record { old = old; new = new; len = len })
filled old new things len many room front rest = (
  omega (arith, many, room),
  sym (take-append-drop len new) ∙ (ap (λ begin. begin ++ drop len new) front ∙ (ap (λ left. things ++ left) rest ∙ ap (λ n. things ++ drop n old) many)),
  many,
)

-- the same of bytes that were written at place 0
pub filled_texts : (old new bytes : List ℕ) (len : ℕ) → len ≡ length bytes → len ≤ length old → WritesAt bytes 0 old new (length bytes)
    → FillsWith bytes (record { old = old; new = new; len = len })
filled_texts old new bytes len many room written =
    filled old new bytes len many room (ap (λ n. take n new) many ∙ written.1)
    (ap (λ n. drop n new) many ∙ (written.2 ∙ ap (λ n. drop n old) (sym many)))

-- what was said of a span is told where the one buffer has the lengths of its fields and the other its texts
pub tells_said : (node : Node) (meta : SpanMeta) (fields : Filling SpanField) (into : Filling ℕ)
    → span_fits_in_c node ≡ true → All AreTexts (text_pairs node) → meta ≡ meta_lengths node
    → FillsWith (map field_lengths node.fields) fields → FillsWith (packed (text_pairs node)) into
    → AnswersSaid node meta fields into Done
tells_said node meta fields into fits texts meta_is lengths_filled texts_filled = (
  fits,
  (
    map field_lengths node.fields,
    packed (text_pairs node),
    subst (λ m. ReadAsSaid node m (map field_lengths node.fields) (packed (text_pairs node))) (sym meta_is) (reads_as_said node texts),
    lengths_filled,
    texts_filled,
  ),
)
