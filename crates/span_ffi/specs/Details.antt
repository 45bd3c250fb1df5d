-- What the call does that tells what was said of a span: where it was made, and since.
use Rattle.std.specs.Prelude.{◌≡◌, ℕ, ◌≤◌, ◌^◌, ◌&&◌, Bool, true, false, nat_lt, List, ◌∷◌, ◌++◌, length, flat_map, None, IsSomeAnd}
use Rattle.std.specs.List.{list_all}
use Rattle.span_id.specs.declared.fault.Fault.TheVariants.{Unknown, CountFull}
use Rattle.span_id.specs.Meta.{KeyValue}
use Rattle.span_forest.specs.Node.{Node}
use Rattle.span_forest.specs.Spans.{find}
use Rattle.span_core.specs.Core.{CoreView}
use Rattle.span_core.specs.Details.{meta_of}
use Rattle.span_border.specs.declared.status.Status.{Status}
use Rattle.span_border.specs.declared.status.Status.TheVariants.{Done, Refused, ShortBuffer}
use Rattle.span_border.specs.Buffers.{WritesAll}
use Rattle.span_ffi.specs.declared.data.SpanMeta.{SpanMeta}
use Rattle.span_ffi.specs.declared.data.SpanField.{SpanField}
use Rattle.span_ffi.specs.Data.{IsSpan, said_meta, said_fields, behind_meta}

-- the texts of a span in pairs: its name and its target, and then each key and its value
abbrev pub text_pairs : Node → List KeyValue
text_pairs node = (node.name, node.target) ∷ node.fields

-- pairs of texts, one text after another
abbrev pub packed : List KeyValue → List ℕ
packed pairs = flat_map (λ pair. pair.0 ++ pair.1) pairs

-- both texts have a length below 2^32
abbrev pub are_short : KeyValue → Bool
are_short pair = nat_lt (length pair.0) (2 ^ 32) && nat_lt (length pair.1) (2 ^ 32)

-- numbers can tell how long pairs of texts are: each text has a length below 2^32, and all together one below 2^64
abbrev pub texts_fit_in_c : List KeyValue → Bool
texts_fit_in_c pairs = list_all are_short pairs && nat_lt (length (packed pairs)) (2 ^ 64)

-- the same of the texts of a span
abbrev pub span_fits_in_c : Node → Bool
span_fits_in_c node = texts_fit_in_c (text_pairs node)

-- how long a key and its value are
abbrev pub field_lengths : KeyValue → SpanField
field_lengths pair = record { key_len = length pair.0; value_len = length pair.1 }

-- Data that are read as what was said of a span: as `MakesSaid` reads those of a new root.
pub record ReadAsSaid (node : Node) (meta : SpanMeta) (fields : List SpanField) (bytes : List ℕ) : Type 0 where
  pub is_span : IsSpan 0 meta fields bytes
  pub same_meta : said_meta meta bytes ≡ meta_of node
  pub same_fields : said_fields fields (behind_meta meta bytes) ≡ node.fields

-- a buffer before and after a call, and the number that it told
pub record Filling (X : Type 0) : Type 0 where
  pub old : List X
  pub new : List X
  pub len : ℕ

-- these things stand at the beginning of a buffer, the rest of it is as it was, and it was told how many they are
abbrev pub FillsWith : {X : Type 0} → List X → Filling X → Type 0
FillsWith things filling = WritesAll things filling.old Done filling.new filling.len

-- what is told of a span: data that say the same; or only how many fields and bytes these are, where a buffer is too
-- short for them; or nothing, where a number is too small
abbrev pub AnswersSaid : Node → SpanMeta → Filling SpanField → Filling ℕ → Status → Type 0
AnswersSaid node meta fields bytes Done =
    (span_fits_in_c node ≡ true)
    × ((lengths : List SpanField) × (texts : List ℕ) × ReadAsSaid node meta lengths texts × FillsWith lengths fields
    × FillsWith texts bytes)
AnswersSaid node meta fields bytes ShortBuffer =
    (span_fits_in_c node ≡ true) × (fields.len ≡ length node.fields) × (bytes.len ≡ length (packed (text_pairs node)))
    × ((length node.fields ≤ length fields.old) × (length (packed (text_pairs node)) ≤ length bytes.old) → ⊥)
AnswersSaid node meta fields bytes (Refused CountFull) = span_fits_in_c node ≡ false
AnswersSaid node meta fields bytes _ = ⊥

-- what was said of the span of an id is told, where it is open
abbrev pub AnswersWhatWasSaid : ℕ → SpanMeta → Filling SpanField → Filling ℕ → CoreView → Status → CoreView → Type 0
AnswersWhatWasSaid id meta fields bytes old (Refused Unknown) new = (find old.world.spans id ≡ None) × (new ≡ old)
AnswersWhatWasSaid id meta fields bytes old status new =
    IsSomeAnd (find old.world.spans id) (λ node. AnswersSaid node meta fields bytes status) × (new ≡ old)
