-- Worked cases of what the numbers and bytes of C say, and of some that say nothing.
use Rattle.std.proofs.Common.{◌≡◌, ℕ, ◌≤◌, refl, sym, ap, ◌∙◌, true, false, List, [], ◌∷◌, length, take, arith}
use Rattle.std.proofs.lemmas.Bool.{true≢false}
use Rattle.std.proofs.lemmas.Str.{IsUtf8-from_is_utf8, is_utf8-from_IsUtf8}
use Rattle.std.specs.Str.{IsUtf8, is_utf8, chars}
use Rattle.std.specs.Char.{encode_utf8}
use Rattle.span_id.specs.declared.fault.Fault.TheVariants.{BadName}
use Rattle.span_id.specs.declared.level.Level.TheVariants.{Error, Trace}
use Rattle.span_id.specs.Meta.{PlainMeta}
use Rattle.span_layers.specs.declared.form.Form.TheVariants.{Compact, Json}
use Rattle.span_ffi.specs.declared.data.SpanField.{SpanField}
use Rattle.span_ffi.specs.declared.data.SpanMeta.{SpanMeta}
use Rattle.span_ffi.specs.declared.data.SpanLayer.{SpanLayer}
use Rattle.span_ffi.specs.declared.data.SpanRule.{SpanRule}
use Rattle.span_border.specs.declared.status.Status.TheVariants.{Done, Refused}
use Rattle.span_ffi.specs.Data.{BeginsWithText, AreFields, IsCallsite, said_fields, said_meta}
use Rattle.span_ffi.specs.Callsites.{AddsCallsite}
use Rattle.span_ffi.specs.Opening.{AreRules, said_pairs, behind_rules, AreLayers, said_filters, said_forms}

begins : (len : ℕ) (bytes : List ℕ) → len ≤ length bytes → is_utf8 (take len bytes) ≡ true → BeginsWithText len bytes
begins len bytes there is = (there, IsUtf8-from_is_utf8 (take len bytes) is)

no_text : (bytes : List ℕ) → is_utf8 bytes ≡ false → IsUtf8 bytes → ⊥
no_text bytes is_none is = true≢false (sym (is_utf8-from_IsUtf8 bytes is) ∙ is_none)

-- ---- texts

-- `k`, `v` and `a` stand for themselves, `é` is 195 169, and 195 195 is no text
letter_k : is_utf8 (107 ∷ []) ≡ true
unfolding is_utf8 chars encode_utf8
letter_k = refl

letter_v : is_utf8 (118 ∷ []) ≡ true
unfolding is_utf8 chars encode_utf8
letter_v = refl

letter_a : is_utf8 (97 ∷ []) ≡ true
unfolding is_utf8 chars encode_utf8
letter_a = refl

letter_e : is_utf8 (195 ∷ 169 ∷ []) ≡ true
unfolding is_utf8 chars encode_utf8
letter_e = refl

empty : is_utf8 [] ≡ true
unfolding is_utf8 chars encode_utf8
empty = refl

begins_empty : (bytes : List ℕ) → BeginsWithText 0 bytes
begins_empty bytes = begins 0 bytes (omega arith) empty

cut_off : is_utf8 (195 ∷ 195 ∷ []) ≡ false
unfolding is_utf8 chars encode_utf8
cut_off = refl

-- ---- fields

-- two fields: a key of 1 byte with a value of 1, and a key of 2 bytes with an empty value
abbrev fields : List SpanField
fields = (record { key_len = 1; value_len = 1 }) ∷ (record { key_len = 2; value_len = 0 }) ∷ []

are_fields : AreFields fields (107 ∷ 118 ∷ 195 ∷ 169 ∷ [])
are_fields = (
  begins 1 (107 ∷ 118 ∷ 195 ∷ 169 ∷ []) (omega arith) letter_k,
  begins 1 (118 ∷ 195 ∷ 169 ∷ []) (omega arith) letter_v,
  (begins 2 (195 ∷ 169 ∷ []) (omega arith) letter_e, begins_empty [], refl),
)

said : said_fields fields (107 ∷ 118 ∷ 195 ∷ 169 ∷ []) ≡ (107 ∷ [], 118 ∷ []) ∷ (195 ∷ 169 ∷ [], []) ∷ []
said = refl

-- a byte is left over
byte_over : AreFields fields (107 ∷ 118 ∷ 195 ∷ 169 ∷ 120 ∷ []) → ⊥
byte_over are = let left = ap length are.2.2 in omega (arith, left)

-- a byte is missing
byte_missing : AreFields fields (107 ∷ 118 ∷ 195 ∷ []) → ⊥
byte_missing are = let there = are.2.0.0 in omega (arith, there)

-- the second key is no UTF-8
no_utf8 : AreFields fields (107 ∷ 118 ∷ 195 ∷ 195 ∷ []) → ⊥
no_utf8 are = no_text (195 ∷ 195 ∷ []) cut_off are.2.0.1

-- no fields and no bytes
none : AreFields [] []
none = refl

-- ---- callsites

-- the name `k`, the target `a`
abbrev site : SpanMeta
site = record { level = 4; name_len = 1; target_len = 1 }

abbrev site_bytes : List ℕ
site_bytes = 107 ∷ 97 ∷ []

is_site : IsCallsite site site_bytes
is_site = record {
  meta_is = record {
    level = omega arith;
    name = begins 1 site_bytes (omega arith) letter_k;
    target = begins 1 (97 ∷ []) (omega arith) letter_a;
  };
  whole = refl;
}

-- it comes behind the one that is there, and its number is 1
added_site : (first : PlainMeta) → AddsCallsite site site_bytes 1 (first ∷ []) Done (first ∷ said_meta site site_bytes ∷ [])
added_site first = (is_site, refl, refl, refl)

-- its number isn't that of the first, and it doesn't take its place
same_number : (first : PlainMeta) → AddsCallsite site site_bytes 0 (first ∷ []) Done (first ∷ said_meta site site_bytes ∷ []) → ⊥
same_number first adds = let number = adds.2 in omega (arith, number)

took_its_place : (first : PlainMeta) → AddsCallsite site site_bytes 1 (first ∷ []) Done (said_meta site site_bytes ∷ []) → ⊥
took_its_place first adds = let more = ap length adds.3 in omega (arith, more)

-- `k` is a name
good_name : (sites : List PlainMeta) → AddsCallsite site site_bytes 0 sites (Refused BadName) sites → ⊥
good_name sites adds = true≢false adds.1

-- an empty one is none
empty_name : (sites : List PlainMeta)
    → AddsCallsite (record { level = 4; name_len = 0; target_len = 1 }) (97 ∷ []) 0 sites (Refused BadName) sites
empty_name sites = (
  record {
    meta_is = record {
      level = omega arith;
      name = begins_empty (97 ∷ []);
      target = begins 1 (97 ∷ []) (omega arith) letter_a;
    };
    whole = refl;
  },
  refl,
  refl,
)

-- a byte is left over
byte_over_site : IsCallsite site (107 ∷ 97 ∷ 97 ∷ []) → ⊥
byte_over_site is = let left = ap length is.whole in omega (arith, left)

-- ---- rules and layers

-- a prefix of 1 byte up to TRACE, and an empty one up to ERROR
abbrev rules : List SpanRule
rules = (record { prefix_len = 1; level = 4 }) ∷ (record { prefix_len = 0; level = 0 }) ∷ []

-- bytes may be left behind the prefixes
are_rules : AreRules rules (97 ∷ 98 ∷ [])
are_rules = (omega arith, begins 1 (97 ∷ 98 ∷ []) (omega arith) letter_a, (omega arith, begins_empty (98 ∷ []), tt))

said_of_rules : said_pairs rules (97 ∷ 98 ∷ []) ≡ (97 ∷ [], Trace) ∷ ([], Error) ∷ []
said_of_rules = refl

left_of_rules : behind_rules rules (97 ∷ 98 ∷ []) ≡ 98 ∷ []
left_of_rules = refl

-- there is no level 5
no_level : AreRules ((record { prefix_len = 0; level = 5 }) ∷ []) [] → ⊥
no_level are = let low = are.0 in omega (arith, low)

-- the first layer has no rule, the second both
abbrev layers : List SpanLayer
layers = (record { form = 0; kinds = 15; rules = 0 }) ∷ (record { form = 1; kinds = 8; rules = 2 }) ∷ []

are_layers : AreLayers layers rules (97 ∷ [])
are_layers = (
  record { form = omega arith; kinds = omega arith; enough = omega arith; rules_are = tt },
  (
    record {
      form = omega arith;
      kinds = omega arith;
      enough = omega arith;
      rules_are = (omega arith, begins 1 (97 ∷ []) (omega arith) letter_a, (omega arith, begins_empty [], tt));
    },
    (refl, refl),
  ),
)

said_of_layers : said_filters layers rules (97 ∷ [])
    ≡ (record { pairs = []; spans = 15 }) ∷ (record { pairs = (97 ∷ [], Trace) ∷ ([], Error) ∷ []; spans = 8 }) ∷ []
said_of_layers = refl

forms : said_forms layers ≡ Compact ∷ Json ∷ []
forms = refl

-- a byte is left over
byte_over_layers : AreLayers layers rules (97 ∷ 98 ∷ []) → ⊥
byte_over_layers are = let left = ap length are.1.1.1 in omega (arith, left)

-- a rule is left over
rule_over : AreLayers [] rules [] → ⊥
rule_over are = let left = ap length are.0 in omega (arith, left)

-- a layer wants more rules than there are
rule_missing : AreLayers ((record { form = 0; kinds = 0; rules = 3 }) ∷ []) rules (97 ∷ []) → ⊥
rule_missing are = let there = are.0.enough in omega (arith, there)
