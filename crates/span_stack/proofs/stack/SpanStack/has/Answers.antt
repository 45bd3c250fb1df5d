use Rattle.std.proofs.Common.{◌≡◌, eqb, rules, ◌∙◌, sym, ap}
use Rattle.std.specs.List.{list_any}
use Rattle.std.proofs.lemmas.Iterator.{YieldsList-from_slice}
use Rattle.std.proofs.lemmas.Iterator.Search.{any_from_yields_List}
use borrow.Author.Tests.{tests}
use Rattle.span_id.specs.Ids.{has}
use Rattle.span_stack.proofs.Entries.{has-ids_of}
use Rattle.span_stack.proofs.stack.SpanStack.has.Goals as goal

pub returns : goal.returns
returns c =
    let entries = c.self.inside.entries.items in
    let found : c.any.result ≡ list_any (λ entry. eqb entry.id c.args.id) entries =
    any_from_yields_List (λ entry. eqb entry.id c.args.id) _ _ _ c.any.ensures.ran (YieldsList-from_slice _ cc)
    (λ x b q k. search (rules, tests)) in
    found ∙ sym (has-ids_of entries c.args.id) ∙ ap (λ s. has s.ids c.args.id) c.self.view_is
