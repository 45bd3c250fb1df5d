-- A span as contracts see it.
use Rattle.std.specs.Prelude.{ℕ, List, ◌++◌, Option}
use Rattle.span_id.specs.declared.level.Level.{Level}
use Rattle.span_id.specs.Meta.{KeyValue, PlainMeta}
use Rattle.span_forest.specs.declared.span.Span.{Span}

-- a span: what it was made with, its parent, and how many handles and entries hold it
-- (texts are bytes; bit n of `bits` is set where layer n admits the span)
pub record Node : Type 0 where
  pub name : List ℕ
  pub target : List ℕ
  pub level : Level
  pub fields : List KeyValue
  pub bits : ℕ
  pub parent : Option ℕ
  pub handles : ℕ
  pub entries : ℕ

-- a span as plain values. Its count is not among them: what holds the span tells it.
abbrev pub node_of : Span → Node
node_of span = record {
  name = span.meta.name;
  target = span.meta.target;
  level = span.meta.level;
  fields = span.fields;
  bits = span.bits.0;
  parent = span.parent;
  handles = span.handles;
  entries = span.entries;
}

-- a new span has one handle and no entry
abbrev pub new_node : PlainMeta → List KeyValue → Option ℕ → ℕ → Node
new_node meta fields parent bits = record {
  name = meta.name;
  target = meta.target;
  level = meta.level;
  fields = fields;
  bits = bits;
  parent = parent;
  handles = 1;
  entries = 0;
}

-- the span with more fields at the end of its own; a repeated key stands twice
abbrev pub with_fields : List KeyValue → Node → Node
with_fields more node = record node { fields = node.fields ++ more }
