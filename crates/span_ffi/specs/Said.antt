-- What C hands over for a call with data, by names. The texts stand one after another, each as long as a number says.
use Rattle.std.specs.Prelude.{ℕ, List}
use Rattle.span_ffi.specs.declared.data.SpanLimits.{SpanLimits}
use Rattle.span_ffi.specs.declared.data.SpanLayer.{SpanLayer}
use Rattle.span_ffi.specs.declared.data.SpanRule.{SpanRule}
use Rattle.span_ffi.specs.declared.data.SpanMeta.{SpanMeta}
use Rattle.span_ffi.specs.declared.data.SpanField.{SpanField}

-- a new registry: its limits, its layers, and their rules with the texts of these
pub record SaidRegistry : Type 0 where
  pub limits : SpanLimits
  pub layers : List SpanLayer
  pub rules : List SpanRule
  pub texts : List ℕ

-- a worker's new span: the kind of parent, the parent if that kind names one, the meta, and the fields
pub record SaidSpan : Type 0 where
  pub worker : ℕ
  pub parent_kind : ℕ
  pub parent : ℕ
  pub meta : SpanMeta
  pub fields : List SpanField
  pub texts : List ℕ

-- the same, with the number of a callsite for the meta
pub record SaidSpanAt : Type 0 where
  pub worker : ℕ
  pub parent_kind : ℕ
  pub parent : ℕ
  pub callsite : ℕ
  pub fields : List SpanField
  pub texts : List ℕ

-- a worker's event: the parent as of a span, the meta, how long the message is, and the fields
pub record SaidEvent : Type 0 where
  pub worker : ℕ
  pub parent_kind : ℕ
  pub parent : ℕ
  pub meta : SpanMeta
  pub message_len : ℕ
  pub fields : List SpanField
  pub texts : List ℕ

-- the same, with the number of a callsite for the meta
pub record SaidEventAt : Type 0 where
  pub worker : ℕ
  pub parent_kind : ℕ
  pub parent : ℕ
  pub callsite : ℕ
  pub message_len : ℕ
  pub fields : List SpanField
  pub texts : List ℕ
