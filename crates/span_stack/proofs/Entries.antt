-- Facts on the entries of a stack.
use Rattle.std.proofs.Common.{◌≡◌, ℕ, Bool, true, false, not, cond, ◌||◌, ◌&&◌, List, [], ◌∷◌, ◌++◌, eqb, length, reverse, take, drop, ◌≤◌, arith, refl, sym, ap, subst, ◌∙◌}
use Rattle.std.specs.List.{filter, list_any, between}
use Rattle.std.proofs.lemmas.Bool.{eqb-true, eq-eqb, false≢true}
use Rattle.std.proofs.lemmas.List.{map-append, reverse-append, length-reverse, take-append-drop, take-take, take-map}
use Rattle.std.proofs.lemmas.Slice.{between_is}
use Rattle.std.proofs.lemmas.List.Elements.{filter-append, filter_agree}
use Rattle.std.proofs.lemmas.List.Folds.{list_any-append}
use Rattle.span_id.specs.Ids.{has}
use Rattle.span_stack.specs.declared.entry.Entry.{Entry}
use Rattle.span_stack.specs.Stack.{first_places, distinct_from_top}
use Rattle.span_stack.specs.inside.Entry.{ids_of, AreFlagged, unflagged}
use Rattle.span_stack.proofs.Stacks.{by_cases, or_true, eqb-sym, is_other, filter-filter}

-- an id is looked for among the entries
pub has-ids_of : (entries : List Entry) (id : ℕ) → has (ids_of entries) id ≡ list_any (λ entry. eqb entry.id id) entries
has-ids_of [] id = refl
has-ids_of (entry ∷ above) id = ap (λ b. eqb entry.id id || b) (has-ids_of above id)

pub ids_of-append : (below above : List Entry) → ids_of (below ++ above) ≡ ids_of below ++ ids_of above
ids_of-append below above = map-append (λ entry. entry.id) below above

pub has-append : (below above : List ℕ) (id : ℕ) → has (below ++ above) id ≡ (has below id || has above id)
has-append below above id = list_any-append (λ entry. eqb entry id) below above

swap_or : (a b c : Bool) → (b || (a || c)) ≡ ((a || b) || c)
swap_or true true c = refl
swap_or true false c = refl
swap_or false true c = refl
swap_or false false c = refl

pub or_false : (a : Bool) → (a || false) ≡ a
or_false true = refl
or_false false = refl

-- the flags depend on what stands before only through the ids that the entries have
AreFlagged-same : (before other : List ℕ) (entries : List Entry)
    → ((id : ℕ) → has (ids_of entries) id ≡ true → has before id ≡ has other id)
    → AreFlagged before entries → AreFlagged other entries
AreFlagged-same before other [] same flagged = tt
AreFlagged-same before other (entry ∷ above) same flagged = (
  flagged.0 ∙ same entry.id (ap (λ b. b || has (ids_of above) entry.id) (eq-eqb entry.id entry.id refl)),
  AreFlagged-same (entry.id ∷ before) (entry.id ∷ other) above
      (λ id there. ap (λ b. eqb entry.id id || b)
      (same id (ap (λ b. eqb entry.id id || b) there ∙ or_true (eqb entry.id id)))) flagged.1,
)

-- an entry whose id doesn't stand above it leaves, and all flags stay right
pub AreFlagged-without : (before : List ℕ) (below : List Entry) (entry : Entry) (above : List Entry)
    → has (ids_of above) entry.id ≡ false → AreFlagged before (below ++ entry ∷ above)
    → AreFlagged before (below ++ above)
AreFlagged-without before [] entry above last flagged =
    AreFlagged-same (entry.id ∷ before) before above
    (λ id there. by_cases (eqb entry.id id)
    (λ same. absurd (false≢true (sym last ∙ ap (has (ids_of above)) (eqb-true entry.id id same) ∙ there)))
    (λ isnt. ap (λ b. b || has before id) isnt)) flagged.1
AreFlagged-without before (lowest ∷ below) entry above last flagged =
    (flagged.0, AreFlagged-without (lowest.id ∷ before) below entry above last flagged.1)

-- a flag says whether the id stands below
pub AreFlagged-at : (before : List ℕ) (below : List Entry) (entry : Entry) (above : List Entry)
    → AreFlagged before (below ++ entry ∷ above) → entry.duplicate ≡ (has (ids_of below) entry.id || has before entry.id)
AreFlagged-at before [] entry above flagged = flagged.0
AreFlagged-at before (lowest ∷ below) entry above flagged =
    AreFlagged-at (lowest.id ∷ before) below entry above flagged.1
    ∙ swap_or (eqb lowest.id entry.id) (has (ids_of below) entry.id) (has before entry.id)

-- an entry that is flagged rightly comes on top
pub AreFlagged-push : (before : List ℕ) (entries : List Entry) (entry : Entry) → AreFlagged before entries
    → entry.duplicate ≡ (has (ids_of entries) entry.id || has before entry.id)
    → AreFlagged before (entries ++ entry ∷ [])
AreFlagged-push before [] entry flagged right = (right, tt)
AreFlagged-push before (lowest ∷ above) entry flagged right = (
  flagged.0,
  AreFlagged-push (lowest.id ∷ before) above entry flagged.1
      (right ∙ sym (swap_or (eqb lowest.id entry.id) (has (ids_of above) entry.id) (has before entry.id))),
)

-- the entries that aren't flagged are those at the first places of ids that don't stand before
ids_of-filter : (before : List ℕ) (entries : List Entry) → AreFlagged before entries
    → ids_of (filter (λ entry. not entry.duplicate) entries) ≡ filter (λ id. not (has before id)) (first_places (ids_of entries))
ids_of-filter before [] flagged = refl
ids_of-filter before (entry ∷ above) flagged =
    let firsts : List ℕ = first_places (ids_of above) in
    let others = filter-filter (λ id. not (has before id)) (is_other entry.id) firsts
    ∙ filter_agree (λ id. not (eqb id entry.id) && not (has before id)) (λ id. not (has (entry.id ∷ before) id))
    (λ id. ap (λ b. not b && not (has before id)) (eqb-sym id entry.id) ∙ neither (eqb entry.id id) (has before id)) firsts in
    let step = ids_of-filter (entry.id ∷ before) above flagged.1 ∙ sym others in
    by_cases (has before entry.id)
    (λ there. let flag : entry.duplicate ≡ true = flagged.0 ∙ there in rw (flag, there) step)
    (λ absent. let flag : entry.duplicate ≡ false = flagged.0 ∙ absent in rw (flag, absent) (ap (λ l. entry.id ∷ l) step))
  where
    neither : (a b : Bool) → (not a && not b) ≡ not (a || b)
    neither true b = refl
    neither false b = refl

-- so the entries that aren't flagged are the distinct ones from the top
pub unflagged-distinct_from_top : (entries : List Entry) → AreFlagged [] entries → unflagged entries ≡ distinct_from_top (ids_of entries)
unflagged-distinct_from_top entries flagged = ap reverse (ids_of-filter [] entries flagged ∙ all (first_places (ids_of entries)))
  where
    all : (xs : List ℕ) → filter (λ _. true) xs ≡ xs
    all [] = refl
    all (x ∷ xs) = ap (λ l. x ∷ l) (all xs)

-- the topmost entry comes first, unless it is flagged
pub unflagged-push : (entries : List Entry) (entry : Entry)
    → unflagged (entries ++ entry ∷ []) ≡ cond (not entry.duplicate) (entry.id ∷ unflagged entries) (unflagged entries)
unflagged-push entries entry =
    ap (λ l. reverse (ids_of l)) (filter-append (λ e. not e.duplicate) entries (entry ∷ []))
    ∙ ap reverse (ids_of-append (filter (λ e. not e.duplicate) entries) (cond (not entry.duplicate) (entry ∷ []) []))
    ∙ reverse-append (ids_of (filter (λ e. not e.duplicate) entries)) (ids_of (cond (not entry.duplicate) (entry ∷ []) []))
    ∙ first (not entry.duplicate)
  where
    first : (b : Bool) → reverse (ids_of (cond b (entry ∷ []) [])) ++ unflagged entries ≡ cond b (entry.id ∷ unflagged entries) (unflagged entries)
    first true = refl
    first false = refl

-- of two parts, the upper one comes first
unflagged-append : (below above : List Entry) → unflagged (below ++ above) ≡ unflagged above ++ unflagged below
unflagged-append below above =
    ap (λ l. reverse (ids_of l)) (filter-append (λ e. not e.duplicate) below above)
    ∙ ap reverse (ids_of-append (filter (λ e. not e.duplicate) below) (filter (λ e. not e.duplicate) above))
    ∙ reverse-append (ids_of (filter (λ e. not e.duplicate) below)) (ids_of (filter (λ e. not e.duplicate) above))

-- the lowest entries are flagged rightly too
AreFlagged-below : (before : List ℕ) (below above : List Entry) → AreFlagged before (below ++ above) → AreFlagged before below
AreFlagged-below before [] above flagged = tt
AreFlagged-below before (lowest ∷ below) above flagged =
    (flagged.0, AreFlagged-below (lowest.id ∷ before) below above flagged.1)

-- so those of them that aren't flagged are the distinct ones of so many ids
unflagged-take : (n : ℕ) (entries : List Entry) → AreFlagged [] entries → unflagged (take n entries) ≡ distinct_from_top (take n (ids_of entries))
unflagged-take n entries flagged =
    unflagged-distinct_from_top (take n entries)
    (AreFlagged-below [] (take n entries) (drop n entries) (subst (AreFlagged []) (sym (take-append-drop n entries)) flagged))
    ∙ ap distinct_from_top (sym (take-map (λ (entry : Entry). entry.id) n entries))

-- the distinct ones below a place are those of the upper part, and then those of the part below
pub distinct_from_top-between : (from to : ℕ) (entries : List Entry) → from ≤ to → AreFlagged [] entries
    → distinct_from_top (take to (ids_of entries)) ≡ unflagged (between from to entries) ++ distinct_from_top (take from (ids_of entries))
distinct_from_top-between from to entries order flagged =
    let lower = take to entries in
    sym (unflagged-take to entries flagged)
    ∙ ap unflagged (sym (take-append-drop from lower))
    ∙ unflagged-append (take from lower) (drop from lower)
    ∙ ap (λ l. unflagged (drop from lower) ++ unflagged l) (take-take from to entries order)
    ∙ (λ j. unflagged (sym (between_is entries from to) j) ++ unflagged-take from entries flagged j)

-- no more of them than entries
pub length-unflagged : (entries : List Entry) → length (unflagged entries) ≤ length entries
length-unflagged entries = rw (length-reverse (ids_of (filter (λ e. not e.duplicate) entries))) (fewer entries)
  where
    fewer : (es : List Entry) → length (ids_of (filter (λ e. not e.duplicate) es)) ≤ length es
    fewer [] = omega arith
    fewer (entry ∷ above) =
        let step = fewer above in
        by_cases (entry.duplicate) (λ is. rw is (omega arith)) (λ isnt. rw isnt (omega arith))
