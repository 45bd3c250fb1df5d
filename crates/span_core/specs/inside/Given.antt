-- What a caller gives to a call, lent, shared or given away, for the functions inside this crate: no public clause cites it.
use Rattle.std.specs.Prelude.{◌≡◌, ℕ, List}
use Rattle.std.specs.Arc.{arc_str_bytes}
use Rattle.span_id.specs.Meta.{PlainMeta, KeyValue, plain_meta, plain_fields}
use Rattle.span_core.specs.declared.given.GivenMeta.{GivenMeta}
use Rattle.span_core.specs.declared.given.GivenMeta.TheVariants as meta
use Rattle.span_core.specs.declared.given.GivenFields.{GivenFields}
use Rattle.span_core.specs.declared.given.GivenFields.TheVariants as fields
use Rattle.span_core.specs.declared.given.GivenText.{GivenText}
use Rattle.span_core.specs.declared.given.GivenText.TheVariants as text
use Rattle.span_core.specs.declared.given.GivenEvent.{GivenEvent}
use Rattle.span_core.specs.declared.given.KeptEvent.{KeptEvent}

abbrev pub meta_given : GivenMeta → PlainMeta
meta_given (meta.Lent lent) = plain_meta lent.now
meta_given (meta.Shared shared) = shared.now

abbrev pub fields_given : GivenFields → List KeyValue
fields_given (fields.Lent lent) = plain_fields lent.now
fields_given (fields.Shared shared) = shared.now
fields_given (fields.Owned owned) = owned

abbrev pub text_given : GivenText → List ℕ
text_given (text.Lent lent) = lent.now
text_given (text.Shared shared) = arc_str_bytes shared.now

-- what is kept of an event is what was given
pub record IsKept (given : GivenEvent) (kept : KeptEvent) : Type 0 where
  pub message : arc_str_bytes kept.message ≡ text_given given.message
  pub fields : kept.fields ≡ fields_given given.fields
