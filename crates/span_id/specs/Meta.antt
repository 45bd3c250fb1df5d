-- The texts of spans, events and fields, as contracts see them: lists of bytes.
use Rattle.std.specs.Prelude.{ℕ, Bool, List, ◌++◌, map, string_bytes, nat_eq}
use Rattle.std.specs.Ordering.{on, eq_of_both}
use Rattle.std.specs.Cmp.Lexicographic.{pointwise}
use Rattle.std.specs.Hash as fed
use Rattle.span_id.specs.declared.level.Level.{Level}
use Rattle.span_id.specs.declared.meta.Meta.{Meta}
use Rattle.span_id.specs.declared.meta.Field.{Field}

-- the name, the target and the level of a span or an event
pub record PlainMeta : Type 0 where
  pub name : List ℕ
  pub target : List ℕ
  pub level : Level

-- a meta with its name and its target as bytes
abbrev pub plain_meta : Meta → PlainMeta
plain_meta meta = record { name = string_bytes meta.name; target = string_bytes meta.target; level = meta.level }

-- a key and its value
abbrev pub KeyValue : Type 0
KeyValue = List ℕ × List ℕ

-- the key and the value of a field, as bytes
abbrev pub key_value : Field → KeyValue
key_value field = (string_bytes field.key, string_bytes field.value)

-- the key and the value of each field, in order
abbrev pub plain_fields : List Field → List KeyValue
plain_fields fields = map key_value fields

-- the keys are the same bytes, and the values are
abbrev pub is_same_pair : KeyValue → KeyValue → Bool
is_same_pair = eq_of_both (on (λ pair. pair.0) (pointwise nat_eq)) (on (λ pair. pair.1) (pointwise nat_eq))

-- what stands for a pair where pairs are told apart: its key, and then its value
abbrev pub pair_input : KeyValue → fed.HashWrites
pair_input pair = fed.str pair.0 ++ fed.str pair.1
