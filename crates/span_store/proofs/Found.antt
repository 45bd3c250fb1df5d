-- What `find` answers.
use Rattle.std.proofs.Common.{◌≡◌, ℕ, List, Option, Some, None, IfSome, IfNone, sym}
use Rattle.std.specs.Option.{option_copied}
use Rattle.std.specs.Borrow.{Bor}
use Rattle.span_slots.specs.Table.{find}
use Rattle.span_store.specs.declared.entry.Entry.{Entry}
use Rattle.span_store.specs.StoredSpan.{plain_entry}
use Rattle.span_store.specs.inside.Invariant.{spans_of}
use Rattle.span_store.proofs.Plain.{span_at, no_span_at}

pub found_none : (es : List (ℕ × Entry)) (id : ℕ) (r : Option (Bor Entry)) → option_copied r ≡ find es id → IfNone r (find (spans_of es) id ≡ None)
found_none es id None e = no_span_at es id (sym e)
found_none es id (Some b) e = tt

pub found_some : (es : List (ℕ × Entry)) (id : ℕ) (r : Option (Bor Entry)) → option_copied r ≡ find es id → IfSome r (λ entry. find (spans_of es) id ≡ Some (plain_entry entry.now))
found_some es id None e = tt
found_some es id (Some b) e = span_at es id b.now (sym e)
