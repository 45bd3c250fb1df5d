-- How many handles all spans have, through each change of the spans.
use Rattle.std.proofs.Common.{◌≡◌, ℕ, ◌+◌, ◌<◌, ◌≤◌, [], ◌∷◌, Option, Some, None, refl, ap, ◌∙◌, arith}
use Rattle.std.specs.Prelude.{List}
use Rattle.span_id.specs.Meta.{KeyValue}
use Rattle.span_forest.specs.declared.span.Holder.{Holder}
use Rattle.span_forest.specs.declared.span.Holder.TheVariants.{Handle, Entry}
use Rattle.span_forest.specs.Node.{Node, with_fields}
use Rattle.span_slots.specs.Table.{find, with_entry, AreApart}
use Rattle.span_forest.specs.Spans.{Spans, with_change}
use Rattle.span_forest.specs.Count.{holders_in, total_held, total_handles}
use Rattle.span_forest.specs.Forest.{IsForest}
use Rattle.span_forest.specs.Live.{is_live}
use Rattle.span_forest.specs.Holders.{held_in, IsHeld, with_more, with_less}
use Rattle.span_forest.specs.Keep.{with_holder}
use Rattle.span_forest.specs.Release.{without_holder, spans_left}
use Rattle.span_forest.specs.inside.Invariant.{handles_in}
use Rattle.span_forest.proofs.Ranks.{ranked}
use Rattle.span_forest.proofs.Nodes.{with_less-parent, IsForest-changed}
use Rattle.span_forest.proofs.Spared.{held_live}
use Rattle.span_forest.proofs.Totals.{handles_weighed, weighed-changed, weighed-same, weighed-with, weighed-filter}

-- a new span has as many more
pub handles-with : (spans : Spans) (id : ℕ) (node : Node) → total_handles (with_entry spans id node) ≡ total_handles spans + node.handles
handles-with spans id node =
    let is = weighed-with (λ (n : Node). n.handles) spans id node in
    omega (arith, is, handles_weighed spans, handles_weighed (with_entry spans id node))

-- a change that leaves the handles of its span leaves their number
pub handles-same : (f : Node → Node) → ((node : Node) → (f node).handles ≡ node.handles) → (spans : Spans) (id : ℕ) → total_handles (with_change f spans id) ≡ total_handles spans
handles-same f same spans id =
    let is = weighed-same (λ (n : Node). n.handles) f same spans id in
    omega (arith, is, handles_weighed spans, handles_weighed (with_change f spans id))

pub handles-fields : (more : List KeyValue) (spans : Spans) (id : ℕ) → total_handles (with_change (with_fields more) spans id) ≡ total_handles spans
handles-fields more spans id = handles-same (with_fields more) (λ node. refl) spans id

handles-changed : (f : Node → Node) (spans : Spans) (id : ℕ) (node : Node) → AreApart spans → find spans id ≡ Some node → total_handles (with_change f spans id) + node.handles ≡ total_handles spans + (f node).handles
handles-changed f spans id node apart found =
    let is = weighed-changed (λ (n : Node). n.handles) f spans id node apart found in
    omega (arith, is, handles_weighed spans, handles_weighed (with_change f spans id))

-- one handle more, or one entry more
pub handles-kept_handle : (spans : Spans) (id : ℕ) (node : Node) → AreApart spans → find spans id ≡ Some node → total_handles (with_holder spans id Handle) ≡ total_handles spans + 1
handles-kept_handle spans id node apart found = let is = handles-changed (with_more Handle) spans id node apart found in omega (arith, is)

pub handles-kept_entry : (spans : Spans) (id : ℕ) → total_handles (with_holder spans id Entry) ≡ total_handles spans
handles-kept_entry spans id = handles-same (with_more Entry) (λ node. refl) spans id

pub handles-kept : (spans : Spans) (id : ℕ) (holder : Holder) (node : Node) → AreApart spans → find spans id ≡ Some node → total_handles (with_holder spans id holder) ≡ total_handles spans + handles_in holder
handles-kept spans id Handle node apart found = handles-kept_handle spans id node apart found
handles-kept spans id Entry node apart found = let is = handles-kept_entry spans id in omega (arith, is)

-- the spans that a release closes have no handle
handles-left : (spans : Spans) (id : ℕ) (holder : Holder) → IsForest spans → total_handles (spans_left spans id holder) ≡ total_handles (without_holder spans id holder)
handles-left spans id holder forest =
    let less = without_holder spans id holder in
    let whole = IsForest-changed (with_less holder) (with_less-parent holder) spans id forest in
    let is = weighed-filter (λ (n : Node). n.handles) (is_live less) less whole.ids_apart (λ j node found some.
    held_live less j (ranked less whole) (let have = ap holders_in found in omega (arith, have, some))) in
    omega (arith, is, handles_weighed less, handles_weighed (spans_left spans id holder))

node_held : (spans : Spans) (id : ℕ) → IsHeld spans id Handle → (node : Node) × (find spans id ≡ Some node) × (0 < node.handles)
node_held spans id held = by_case (find spans id) refl
  where
    by_case : (o : Option Node) → find spans id ≡ o → (node : Node) × (find spans id ≡ Some node) × (0 < node.handles)
    by_case None is = absurd (let none = ap (held_in Handle) is in omega (arith, held, none))
    by_case (Some node) is = (node, is, (let some = ap (held_in Handle) is in omega (arith, held, some)))

-- one handle less, or one entry less
pub handles-left_handle : (spans : Spans) (id : ℕ) → IsForest spans → IsHeld spans id Handle → total_handles (spans_left spans id Handle) + 1 ≡ total_handles spans
handles-left_handle spans id forest held =
    let there = node_held spans id held in
    let is = handles-changed (with_less Handle) spans id there.0 forest.ids_apart there.1 in
    let left = handles-left spans id Handle forest in
    omega (arith, is, left, there.2)

pub handles-left_entry : (spans : Spans) (id : ℕ) → IsForest spans → total_handles (spans_left spans id Entry) ≡ total_handles spans
handles-left_entry spans id forest = handles-left spans id Entry forest ∙ handles-same (with_less Entry) (λ node. refl) spans id

pub handles-released : (spans : Spans) (id : ℕ) (holder : Holder) → IsForest spans → IsHeld spans id holder → total_handles (spans_left spans id holder) + handles_in holder ≡ total_handles spans
handles-released spans id Handle forest held = handles-left_handle spans id forest held
handles-released spans id Entry forest held = let is = handles-left_entry spans id forest in omega (arith, is)

-- handles are holders
pub handles_le : (spans : Spans) → total_handles spans ≤ total_held spans
handles_le [] = omega arith
handles_le (e ∷ es) = let rest = handles_le es in omega (arith, rest)

pub handles_in_le : (holder : Holder) → handles_in holder ≤ 1
handles_in_le Handle = omega arith
handles_in_le Entry = omega arith
