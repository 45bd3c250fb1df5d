-- What the numbers and bytes that C passes say of spans and events.
-- Texts stand one after another in the bytes, each as long as a number says.
use Rattle.std.specs.Prelude.{◌≡◌, ℕ, ◌≤◌, ◌==◌, if◌then◌else◌, List, [], ◌∷◌, length, take, drop}
use Rattle.std.specs.Str.{IsUtf8}
use Rattle.span_id.specs.declared.level.Level.{Level}
use Rattle.span_id.specs.declared.level.Level.TheVariants.{Error, Warn, Info, Debug, Trace}
use Rattle.span_id.specs.Meta.{PlainMeta, KeyValue}
use Rattle.span_outlet.specs.declared.batch.ParentOf.{ParentOf}
use Rattle.span_outlet.specs.declared.batch.ParentOf.TheVariants.{Root, Current, Of}
use Rattle.span_ffi.specs.declared.data.SpanMeta.{SpanMeta}
use Rattle.span_ffi.specs.declared.data.SpanField.{SpanField}

-- the first `len` bytes are a text: they are there, and they are UTF-8
abbrev pub BeginsWithText : ℕ → List ℕ → Type 0
BeginsWithText len bytes = (len ≤ length bytes) × IsUtf8 (take len bytes)

-- the level of a number: 0 ERROR, 1 WARN, 2 INFO, 3 DEBUG, 4 TRACE
abbrev pub said_level : ℕ → Level
said_level number =
    if number == 0 then Error
    else if number == 1 then Warn
    else if number == 2 then Info
    else if number == 3 then Debug
    else Trace

-- the level is there, and the bytes begin with the name and then the target
pub record IsMeta (meta : SpanMeta) (bytes : List ℕ) : Type 0 where
  pub level : meta.level ≤ 4
  pub name : BeginsWithText meta.name_len bytes
  pub target : BeginsWithText meta.target_len (drop meta.name_len bytes)

-- the meta that is said: the bytes begin with its name and then its target, and a number says its level
abbrev pub said_meta : SpanMeta → List ℕ → PlainMeta
said_meta meta bytes = record {
  name = take meta.name_len bytes;
  target = take meta.target_len (drop meta.name_len bytes);
  level = said_level meta.level;
}

-- the bytes behind name and target
abbrev pub behind_meta : SpanMeta → List ℕ → List ℕ
behind_meta meta bytes = drop meta.target_len (drop meta.name_len bytes)

-- the bytes behind a key and its value
abbrev pub behind_field : SpanField → List ℕ → List ℕ
behind_field field bytes = drop field.value_len (drop field.key_len bytes)

-- the bytes are the key and the value of each field, one after another, and nothing else
abbrev pub AreFields : List SpanField → List ℕ → Type 0
AreFields [] bytes = bytes ≡ []
AreFields (field ∷ fields) bytes =
    BeginsWithText field.key_len bytes × BeginsWithText field.value_len (drop field.key_len bytes)
    × AreFields fields (behind_field field bytes)

-- the fields that are said: in the bytes stand the key and the value of each, one after another
abbrev pub said_fields : List SpanField → List ℕ → List KeyValue
said_fields [] bytes = []
said_fields (field ∷ fields) bytes =
    (take field.key_len bytes, take field.value_len (drop field.key_len bytes)) ∷ said_fields fields (behind_field field bytes)

-- 0: none; 1: the worker's current span; 2: the named one
abbrev pub said_parent : ℕ → ℕ → ParentOf
said_parent kind parent = if kind == 0 then Root else if kind == 1 then Current else Of parent

-- the kind of parent is there, and the bytes are the name, the target, and the fields of a span
pub record IsSpan (kind : ℕ) (meta : SpanMeta) (fields : List SpanField) (bytes : List ℕ) : Type 0 where
  pub kind_is : kind ≤ 2
  pub meta_is : IsMeta meta bytes
  pub fields_are : AreFields fields (behind_meta meta bytes)

-- the bytes are the name, the target, the message, and the fields of an event
pub record IsEvent (meta : SpanMeta) (message_len : ℕ) (fields : List SpanField) (bytes : List ℕ) : Type 0 where
  pub meta_is : IsMeta meta bytes
  pub message : BeginsWithText message_len (behind_meta meta bytes)
  pub fields_are : AreFields fields (drop message_len (behind_meta meta bytes))

-- the bytes are the name and the target of a callsite
pub record IsCallsite (meta : SpanMeta) (bytes : List ℕ) : Type 0 where
  pub meta_is : IsMeta meta bytes
  pub whole : behind_meta meta bytes ≡ []

-- the kind of parent is there, and the bytes are the fields of a span
pub record IsSpanAt (kind : ℕ) (fields : List SpanField) (bytes : List ℕ) : Type 0 where
  pub kind_is : kind ≤ 2
  pub fields_are : AreFields fields bytes

-- the bytes are the message and the fields of an event
pub record IsEventAt (message_len : ℕ) (fields : List SpanField) (bytes : List ℕ) : Type 0 where
  pub message : BeginsWithText message_len bytes
  pub fields_are : AreFields fields (drop message_len bytes)
