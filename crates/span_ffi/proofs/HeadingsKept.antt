-- Headings that a reader takes out, one by one, as far as a batch.
use Rattle.std.proofs.Common.{◌≡◌, ℕ, ◌<◌, ◌∙◌, List, [], ◌∷◌, ◌++◌, append_assoc, sym, ap, subst}
use mathlib.Core.List.{IsPrefix}
use Rattle.std.proofs.lemmas.List.{append-nil}
use Rattle.std.proofs.lemmas.List.Elements.{All-nil, All-push}
use Rattle.span_outlet.specs.Outlet.{one_more}
use Rattle.span_ffi.specs.declared.headings.Heading.{Heading}
use Rattle.span_ffi.specs.HeadingReader.{HeadingReaderView, TakesHeadings}
use Rattle.span_ffi.specs.inside.HeadingsKept.{TakesFirst}

-- none came out yet
pub takes_none : (before : ℕ) (old new : HeadingReaderView) → new.name ≡ old.name → new.received ≡ old.received
    → new.looks ≡ one_more old.looks → TakesHeadings before old new
takes_none before old new name same looked = record {
  more = [];
  received = same ∙ sym (append-nil old.received);
  early = All-nil (λ heading. heading.batch < before);
  looked = looked;
  name = name;
}

-- the one that was looked at came out, and is early enough
pub takes_more : (before : ℕ) (old mid new : HeadingReaderView) (seen : Heading) (standing left : List Heading)
    → TakesHeadings before old mid → new.name ≡ mid.name → new.looks ≡ mid.looks → IsPrefix (seen ∷ []) standing → seen.batch < before
    → TakesFirst mid.received standing new.received left
    → TakesHeadings before old new
takes_more before old mid new seen standing left takes name looks first early taken =
    let is_seen : seen ≡ taken.next = (let front = first.1 ∙ taken.stood in cc) in
    let early_too = subst (λ heading. heading.batch < before) is_seen early in
    record {
      more = takes.more ++ taken.next ∷ [];
      received = taken.received ∙ ap (λ those. those ++ taken.next ∷ []) takes.received
          ∙ append_assoc old.received takes.more (taken.next ∷ []);
      early = All-push (λ heading. heading.batch < before) takes.more taken.next takes.early early_too;
      looked = looks ∙ takes.looked;
      name = name ∙ takes.name;
    }
