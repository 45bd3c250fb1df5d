-- What is told of an open span.
use Rattle.std.specs.Prelude.{ℕ, List, Option}
use Rattle.span_id.specs.Meta.{PlainMeta}
use Rattle.span_forest.specs.Node.{Node}
use Rattle.span_forest.specs.Count.{children}
use Rattle.span_core.specs.declared.details.SpanDetails.{SpanDetails}
use Rattle.span_core.specs.World.{World, workers_with}

-- its id, its name, target and level, its parent, its handles, the workers that have it in their stack, and how many
-- open spans have it as their parent
pub record PlainDetails : Type 0 where
  pub id : ℕ
  pub meta : PlainMeta
  pub parent : Option ℕ
  pub handles : ℕ
  pub workers : List ℕ
  pub children : ℕ

-- what is told of an open span, as plain values
abbrev pub plain_details : SpanDetails → PlainDetails
plain_details details = record {
  id = details.id;
  meta = details.meta;
  parent = details.parent;
  handles = details.handles;
  workers = details.workers.items;
  children = details.children;
}

-- the name, the target and the level of a span
abbrev pub meta_of : Node → PlainMeta
meta_of node = record { name = node.name; target = node.target; level = node.level }

-- what is told of an open span in a world
abbrev pub details_of : World → ℕ × Node → PlainDetails
details_of world e = record {
  id = e.0;
  meta = meta_of e.1;
  parent = e.1.parent;
  handles = e.1.handles;
  workers = workers_with world.stacks e.0;
  children = children world.spans e.0;
}
