-- The count of an open span.
use Rattle.std.proofs.Common.{◌≡◌, ℕ, ◌+◌, ◌<◌, List, Option, Some, None, refl, sym, ap, ◌∙◌, arith}
use Rattle.std.specs.Prelude.{is_some, IfSome, MatchOption}
use Rattle.std.specs.Borrow.{Bor}
use Rattle.span_forest.specs.declared.span.Span.{Span}
use Rattle.span_forest.specs.declared.span.Holder.TheVariants.{Entry}
use Rattle.span_forest.specs.Node.{node_of}
use Rattle.span_forest.specs.Spans.{Spans, find, IsOpen, parent_in, parent_of}
use Rattle.span_forest.specs.Count.{reference_count, holders_in}
use Rattle.span_forest.specs.Holders.{held_in}
use Rattle.span_core.specs.World.{IsWorld, IsCounted}

pub found_counted : (spans : Spans) (stacks : List (List ℕ)) (id : ℕ) (r : Option (Bor Span))
    → IfSome r (λ s. find spans id ≡ Some (node_of s.now)) → IfSome r (λ s. s.now.count ≡ reference_count spans id)
    → IsWorld (record { spans = spans; stacks = stacks })
    → ((j : ℕ) → IsOpen spans j → 0 < reference_count spans j)
    → ((j parent : ℕ) → parent_of spans j ≡ Some parent → IsOpen spans parent)
    → IfSome r (λ s. IsCounted (record { spans = spans; stacks = stacks }) id s.now)
found_counted spans stacks id None found counted whole positive parents = tt
found_counted spans stacks id (Some s) found counted whole positive parents =
    let entries : s.now.entries ≡ held_in Entry (find spans id) = sym (ap (held_in Entry) found) in
    let holders : holders_in (find spans id) ≡ s.now.handles + s.now.entries = ap holders_in found in
    let inside = whole.entered id in
    let more = positive id (ap is_some found) in
    record {
      count = omega (arith, counted, holders, entries, inside);
      positive = omega (arith, counted, more);
      parent_open = by_case s.now.parent refl;
    }
  where
    by_case : (o : Option ℕ) → s.now.parent ≡ o → MatchOption o (Unit {0}) (λ parent. IsOpen spans parent)
    by_case None is = tt
    by_case (Some p) is = parents id p (ap parent_in found ∙ is)
