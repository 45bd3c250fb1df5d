-- What stays once the topmost entry of an id is taken out.
use Rattle.std.proofs.Common.{◌≡◌, ℕ, false, not, ◌||◌, List, [], ◌∷◌, ◌++◌, length, get_or, refl, sym, ap, subst, ◌∙◌}
use Rattle.std.specs.List.{remove}
use Rattle.span_id.specs.Ids.{has}
use Rattle.span_stack.specs.declared.entry.Entry.{Entry}
use Rattle.span_stack.specs.Stack.{without_last}
use Rattle.span_stack.specs.inside.Entry.{ids_of, AreFlagged, IsLastPlace}
use Rattle.span_stack.proofs.Stacks.{without_last-at}
use Rattle.span_stack.proofs.Entries.{ids_of-append, has-append, AreFlagged-without, AreFlagged-at}

remove-at : (below : List Entry) (entry : Entry) (above : List Entry)
    → remove (below ++ entry ∷ above) (length below) ≡ below ++ above
remove-at [] entry above = refl
remove-at (lowest ∷ below) entry above = ap (λ l. lowest ∷ l) (remove-at below entry above)

get_or-at : (below : List Entry) (entry : Entry) (above : List Entry) (d : Entry)
    → get_or (below ++ entry ∷ above) (length below) d ≡ entry
get_or-at [] entry above d = refl
get_or-at (lowest ∷ below) entry above d = get_or-at below entry above d

module _ (entries : List Entry) (id place : ℕ) (at : IsLastPlace entries id place) where
  pub remove-last : remove entries place ≡ at.below ++ at.above
  remove-last =
      ap (λ l. remove l place) at.was ∙ ap (remove (at.below ++ at.entry ∷ at.above)) at.place_is
      ∙ remove-at at.below at.entry at.above

  pub get_or-last : (d : Entry) → get_or entries place d ≡ at.entry
  get_or-last d =
      ap (λ l. get_or l place d) at.was ∙ ap (λ k. get_or (at.below ++ at.entry ∷ at.above) k d) at.place_is
      ∙ get_or-at at.below at.entry at.above d

  absent_above : has (ids_of at.above) at.entry.id ≡ false
  absent_above = ap (has (ids_of at.above)) at.id_is ∙ at.last

  -- the ids are those without the last place of this one
  pub ids_of-remove : ids_of (remove entries place) ≡ without_last (ids_of entries) id
  ids_of-remove =
      ap ids_of remove-last ∙ ids_of-append at.below at.above
      ∙ sym (without_last-at (ids_of at.below) (ids_of at.above) at.entry.id absent_above)
      ∙ ap (λ l. without_last l at.entry.id) (sym (ids_of-append at.below (at.entry ∷ at.above)) ∙ ap ids_of (sym at.was))
      ∙ ap (without_last (ids_of entries)) at.id_is

  -- the flags of the others stay right
  pub AreFlagged-remove : AreFlagged [] entries → AreFlagged [] (remove entries place)
  AreFlagged-remove flagged =
      subst (AreFlagged []) (sym remove-last)
      (AreFlagged-without [] at.below at.entry at.above absent_above (subst (AreFlagged []) at.was flagged))

  -- the entry was a duplicate exactly if its id still stands in the stack
  pub duplicate-last : AreFlagged [] entries → (entry : Entry) → entry ≡ get_or entries place entry
      → entry.duplicate ≡ has (ids_of (remove entries place)) id
  duplicate-last flagged entry is =
      ap (λ e. e.duplicate) (is ∙ get_or-last entry)
      ∙ AreFlagged-at [] at.below at.entry at.above (subst (AreFlagged []) at.was flagged)
      ∙ ap (λ b. has (ids_of at.below) at.entry.id || b) (sym absent_above)
      ∙ sym (has-append (ids_of at.below) (ids_of at.above) at.entry.id)
      ∙ ap (λ l. has l at.entry.id) (sym (ids_of-append at.below at.above) ∙ ap ids_of (sym remove-last))
      ∙ ap (has (ids_of (remove entries place))) at.id_is

  -- the entry was no duplicate exactly if its id no longer stands in the stack without it
  pub once-last : AreFlagged [] entries → (entry : Entry) → entry ≡ get_or entries place entry
      → not entry.duplicate ≡ not (has (without_last (ids_of entries) id) id)
  once-last flagged entry is = ap not (duplicate-last flagged entry is ∙ ap (λ l. has l id) ids_of-remove)
