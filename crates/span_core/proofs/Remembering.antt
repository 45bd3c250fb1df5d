-- What is remembered of told paths stays true: a span that is open keeps its path, whatever a call does.
use Rattle.std.proofs.Common.{◌≡◌, ◌≢◌, ℕ, zero, suc, ◌<◌, Bool, true, false, cond, List, [], ◌∷◌, ◌++◌, length, filter, reverse, Option, Some, None, IsSome, refl, sym, ap, ◌∙◌, subst, inl, inr}
use Rattle.std.specs.Prelude.{is_some, IfSome, All, slice_index}
use Rattle.std.proofs.Math.ListN.{set}
use Rattle.std.specs.Option.{option_map}
use Rattle.std.proofs.lemmas.Bool.{cases_Bool, false≢true}
use Rattle.std.proofs.lemmas.Bool.Decides.{eqb_tells}
use Rattle.std.proofs.lemmas.List.{length-map}
use Rattle.std.proofs.lemmas.List.Elements.{All-weaker, All-append, All-cons, All-nil, All-set}
use Rattle.std.proofs.lemmas.Option.{IfSome_then}
use Rattle.span_id.specs.Bits.{has_bit}
use Rattle.span_id.specs.Id.{slot_of, generation_of}
use Rattle.span_id.specs.Meta.{KeyValue}
use Rattle.span_slots.specs.Table.{IsIssued}
use Rattle.span_forest.specs.declared.span.Holder.{Holder}
use Rattle.span_forest.specs.declared.span.Holder.TheVariants.{Handle, Entry}
use Rattle.span_forest.specs.Node.{Node, with_fields}
use Rattle.span_forest.specs.Spans.{Spans, find, IsOpen, with_entry, with_change, parent_in, parent_of}
use Rattle.span_forest.specs.Holders.{with_more, with_less}
use Rattle.span_forest.specs.Keep.{with_holder}
use Rattle.span_forest.specs.Forest.{ForestView, table_of}
use Rattle.span_forest.specs.Add.{with_span}
use Rattle.span_forest.specs.Release.{without_holder, spans_left}
use Rattle.span_forest.specs.Live.{is_live}
use Rattle.span_forest.specs.Walk.{walk_within, Ends}
use Rattle.span_forest.specs.Path.{path, path_text, names_for, name_for}
use Rattle.span_slots.proofs.Entries.{find-with_other}
use Rattle.span_forest.proofs.Adds.{open_back}
use Rattle.span_forest.proofs.Nodes.{find-changed_same, find-changed_other, parent_of-changed, IsOpen-changed}
use Rattle.span_forest.proofs.Slotted.{issue_more}
use Rattle.span_core.specs.declared.known_paths.KnownPath.{KnownPath}
use Rattle.span_core.specs.declared.known_paths.KnownPaths.{KnownPaths}
use Rattle.span_core.specs.inside.Remembering.{IsRemembered, Remembers}
use Rattle.span_core.specs.Step.{is_open_parent}
use Rattle.span_core.proofs.NewSpans.{ParentsOpen, parent_is_open}

abbrev pub WalksEnd : Spans → Type 0
WalksEnd spans = (id : ℕ) → IsOpen spans id → Ends (length spans) spans (Some id)

-- a walk that ends within two bounds is the same within both
walks_agree : (n m : ℕ) (spans : Spans) (o : Option ℕ) → Ends n spans o → Ends m spans o → walk_within n spans o ≡ walk_within m spans o
walks_agree n m spans None h k = refl
walks_agree zero m spans (Some id) h k = absurd h
walks_agree (suc n) zero spans (Some id) h k = absurd k
walks_agree (suc n) (suc m) spans (Some id) h k = ap (λ v. id ∷ v) (walks_agree n m spans (parent_of spans id) h k)

-- the spans of one map are in the other, where they have the same parents and give a layer the same names
record IsPart (layer : ℕ) (part whole : Spans) : Type 0 where
  names : (id : ℕ) → IsOpen part id → name_for layer (find whole id) ≡ name_for layer (find part id)
  parents : (id : ℕ) → IsOpen part id → parent_of whole id ≡ parent_of part id
  parents_open : ParentsOpen part

ends_in_part : (layer : ℕ) (part whole : Spans) → IsPart layer part whole → (n : ℕ) (o : Option ℕ) → is_open_parent part o ≡ true → Ends n whole o → Ends n part o
ends_in_part layer part whole p n None there h = tt
ends_in_part layer part whole p zero (Some id) there h = absurd h
ends_in_part layer part whole p (suc n) (Some id) there h =
    ends_in_part layer part whole p n (parent_of part id) (parent_is_open part id p.parents_open) (subst (λ o. Ends n whole o) (p.parents id there) h)

names_in_part : (layer : ℕ) (part whole : Spans) → IsPart layer part whole → (n : ℕ) (o : Option ℕ) → is_open_parent part o ≡ true
    → names_for layer whole (walk_within n whole o) ≡ names_for layer part (walk_within n part o)
names_in_part layer part whole p n None there = refl
names_in_part layer part whole p zero (Some id) there = refl
names_in_part layer part whole p (suc n) (Some id) there =
    ap (λ ns. ns ++ names_for layer whole (walk_within n whole (parent_of whole id))) (p.names id there)
    ∙ ap (λ o. name_for layer (find part id) ++ names_for layer whole (walk_within n whole o)) (p.parents id there)
    ∙ ap (λ ns. name_for layer (find part id) ++ ns) (names_in_part layer part whole p n (parent_of part id) (parent_is_open part id p.parents_open))

path_in_part : (layer id : ℕ) (part whole : Spans) → IsPart layer part whole → WalksEnd part → WalksEnd whole → IsOpen part id → IsOpen whole id → path layer whole id ≡ path layer part id
path_in_part layer id part whole p part_ends whole_ends in_part in_whole =
    ap reverse
    (names_in_part layer part whole p (length whole) (Some id) in_part
    ∙ ap (names_for layer part) (walks_agree (length whole) (length part) part (Some id) (ends_in_part layer part whole p (length whole) (Some id) in_part (whole_ends id in_whole)) (part_ends id in_part)))

-- the places as they are, one more in which nothing stands, one from which a path is gone, and something else at one of them
pub remembers_same : (forest : ForestView) (old new : KnownPaths) → new.places.items ≡ old.places.items → Remembers forest old → Remembers forest new
remembers_same forest old new is before = record {
  each = subst (All (λ place. IfSome place (IsRemembered forest))) (sym is) before.each;
}

pub remembers_place : (forest : ForestView) (old new : KnownPaths) → new.places.items ≡ old.places.items ++ None ∷ [] → Remembers forest old → Remembers forest new
remembers_place forest old new is before =
    let here : Option KnownPath → Type 0 = λ place. IfSome place (IsRemembered forest) in
    record {
      each = subst (All here) (sym is) (All-append here old.places.items (None ∷ []) before.each (All-cons here None [] tt (All-nil here)));
    }

pub remembers_none : (forest : ForestView) (old new : KnownPaths) (at : ℕ) → new.places.items ≡ set old.places.items at None → Remembers forest old → Remembers forest new
remembers_none forest old new at is before =
    let here : Option KnownPath → Type 0 = λ place. IfSome place (IsRemembered forest) in
    record { each = subst (All here) (sym is) (All-set here old.places.items at None tt before.each) }

pub remembers_at : (forest : ForestView) (old new : KnownPaths) (at : ℕ) (place : Option KnownPath) → new.places.items ≡ set old.places.items at place → IfSome place (IsRemembered forest) → Remembers forest old → Remembers forest new
remembers_at forest old new at place is told before =
    let here : Option KnownPath → Type 0 = λ place. IfSome place (IsRemembered forest) in
    record { each = subst (All here) (sym is) (All-set here old.places.items at place told before.each) }

-- what becomes of a forest keeps what is remembered, where each id stays given and each span that is open was open with the same paths
remembers_on : (old new : ForestView) (known : KnownPaths) → ((id : ℕ) → IsIssued (table_of old) id → IsIssued (table_of new) id)
    → ((layer id : ℕ) → IsIssued (table_of old) id → IsOpen new.spans id → IsOpen old.spans id × (path layer new.spans id ≡ path layer old.spans id))
    → Remembers old known → Remembers new known
remembers_on old new known issued same before = record {
  each = All-weaker (λ place. IfSome place (IsRemembered old)) (λ place. IfSome place (IsRemembered new))
      (λ place was. IfSome_then place was (λ told is. record {
        issued = issued told.place is.issued;
        text = λ there layer read. (let k = same layer told.place is.issued there in is.text k.0 layer read ∙ ap path_text (sym k.1));
      })) known.places.items before.each;
}

-- a span more
pub remembers_new : (old new : ForestView) (id : ℕ) (node : Node) (known : KnownPaths) → new ≡ with_span old id node → (IsIssued (table_of old) id → ⊥) → find old.spans id ≡ None
    → ParentsOpen old.spans → WalksEnd old.spans → WalksEnd new.spans → Remembers old known → Remembers new known
remembers_new old new id node known is never gone whole old_ends new_ends =
    remembers_on old new known
    (λ j before. subst (λ (f : ForestView). IsIssued (table_of f) j) (sym is) (issue_more old.given (slot_of id) (slot_of j) (generation_of j) before))
    (λ layer j given there.
    let spans_are = ap (λ (f : ForestView). f.spans) is in
    let other : j ≢ id = λ q. never (subst (IsIssued (table_of old)) q given) in
    let was = open_back old.spans id j node other (subst (λ spans. IsOpen spans j) spans_are there) in
    (was, path_in_part layer j old.spans new.spans (part layer spans_are) old_ends new_ends was there))
  where
    apart : (j : ℕ) → IsOpen old.spans j → j ≢ id
    apart j there same = absurd (false≢true (sym (ap is_some gone) ∙ subst (λ k. IsOpen old.spans k) same there))

    found : new.spans ≡ with_entry old.spans id node → (j : ℕ) → IsOpen old.spans j → find new.spans j ≡ find old.spans j
    found spans_are j there = ap (λ spans. find spans j) spans_are ∙ find-with_other old.spans id j node (apart j there)

    part : (layer : ℕ) → new.spans ≡ with_entry old.spans id node → IsPart layer old.spans new.spans
    part layer spans_are = record {
      names = λ j there. ap (name_for layer) (found spans_are j there);
      parents = λ j there. ap parent_in (found spans_are j there);
      parents_open = whole;
    }

-- a change of a span that keeps what paths are made of
pub record KeepsPaths (f : Node → Node) : Type 0 where
  pub name : (node : Node) → (f node).name ≡ node.name
  pub bits : (node : Node) → (f node).bits ≡ node.bits
  pub parent : (node : Node) → (f node).parent ≡ node.parent

pub one_more : (holder : Holder) → KeepsPaths (with_more holder)
one_more Handle = record { name = λ node. refl; bits = λ node. refl; parent = λ node. refl }
one_more Entry = record { name = λ node. refl; bits = λ node. refl; parent = λ node. refl }

pub one_less : (holder : Holder) → KeepsPaths (with_less holder)
one_less Handle = record { name = λ node. refl; bits = λ node. refl; parent = λ node. refl }
one_less Entry = record { name = λ node. refl; bits = λ node. refl; parent = λ node. refl }

pub more_fields : (fields : List KeyValue) → KeepsPaths (with_fields fields)
more_fields fields = record { name = λ node. refl; bits = λ node. refl; parent = λ node. refl }

name-mapped : (layer : ℕ) (f : Node → Node) → KeepsPaths f → (o : Option Node) → name_for layer (option_map f o) ≡ name_for layer o
name-mapped layer f k None = refl
name-mapped layer f k (Some node) = λ j. cond (has_bit (k.bits node j) layer) (k.name node j ∷ []) []

name-changed : (layer : ℕ) (f : Node → Node) → KeepsPaths f → (spans : Spans) (id j : ℕ) → name_for layer (find (with_change f spans id) j) ≡ name_for layer (find spans j)
name-changed layer f k spans id j =
    elim (eqb_tells j id) [
      | inl t ↦ rw t.1 (ap (name_for layer) (find-changed_same f spans id) ∙ name-mapped layer f k (find spans id))
      | inr t ↦ ap (name_for layer) (find-changed_other f spans id j t.1)
    ]

names-changed : (layer : ℕ) (f : Node → Node) → KeepsPaths f → (spans : Spans) (id n : ℕ) (o : Option ℕ)
    → names_for layer (with_change f spans id) (walk_within n (with_change f spans id) o) ≡ names_for layer spans (walk_within n spans o)
names-changed layer f k spans id n None = refl
names-changed layer f k spans id zero (Some j) = refl
names-changed layer f k spans id (suc n) (Some j) =
    let new = with_change f spans id in
    ap (λ ns. ns ++ names_for layer new (walk_within n new (parent_of new j))) (name-changed layer f k spans id j)
    ∙ ap (λ o. name_for layer (find spans j) ++ names_for layer new (walk_within n new o)) (parent_of-changed f k.parent spans id j)
    ∙ ap (λ ns. name_for layer (find spans j) ++ ns) (names-changed layer f k spans id n (parent_of spans j))

path-changed : (layer : ℕ) (f : Node → Node) → KeepsPaths f → (spans : Spans) (id j : ℕ) → path layer (with_change f spans id) j ≡ path layer spans j
path-changed layer f k spans id j =
    let new = with_change f spans id in
    ap (λ n. reverse (names_for layer new (walk_within n new (Some j)))) (length-map spans _)
    ∙ ap reverse (names-changed layer f k spans id (length spans) (Some j))

pub remembers_changed : (old new : ForestView) (f : Node → Node) (id : ℕ) (known : KnownPaths) → KeepsPaths f → new ≡ record old { spans = with_change f old.spans id } → Remembers old known → Remembers new known
remembers_changed old new f id known k is before =
    subst (λ (v : ForestView). Remembers v known) (sym is)
    (remembers_on old (record old { spans = with_change f old.spans id }) known (λ j given. given)
    (λ layer j given there. (IsOpen-changed f old.spans id j there, path-changed layer f k old.spans id j)) before)

-- an entry, where it is a worker's first
pub remembers_entered : (old new : ForestView) (first : Bool) (id : ℕ) (known : KnownPaths) → new ≡ record old { spans = cond first (with_holder old.spans id Entry) old.spans }
    → Remembers old known → Remembers new known
remembers_entered old new true id known is before = remembers_changed old new (with_more Entry) id known (one_more Entry) is before
remembers_entered old new false id known is before = subst (λ (v : ForestView). Remembers v known) (sym is) before

-- what a filter drops is not found
find-dropped : (keep : ℕ → Bool) (spans : Spans) (id : ℕ) → keep id ≡ false → find (filter (λ e. keep e.0) spans) id ≡ None
find-dropped keep [] id drop = refl
find-dropped keep (e ∷ es) id drop =
    let rest = find-dropped keep es id drop in
    elim (cases_Bool (keep e.0)) [
      | inl u ↦ elim (eqb_tells e.0 id) [
        | inl t ↦ absurd (false≢true (sym drop ∙ (ap keep (sym t.1) ∙ u)))
        | inr t ↦ rw (u, t.0) rest
      ]
      | inr u ↦ rw u rest
    ]

find-kept : (keep : ℕ → Bool) (spans : Spans) (id : ℕ) → keep id ≡ true → find (filter (λ e. keep e.0) spans) id ≡ find spans id
find-kept keep [] id stay = refl
find-kept keep (e ∷ es) id stay =
    let rest = find-kept keep es id stay in
    elim (eqb_tells e.0 id) [
      | inl t ↦ (let u : keep e.0 ≡ true = ap keep t.1 ∙ stay in rw (u, t.0) refl)
      | inr t ↦ elim (cases_Bool (keep e.0)) [ inl u ↦ rw (u, t.0) rest | inr u ↦ rw (u, t.0) rest ]
    ]

find-filtered : (keep : ℕ → Bool) (spans : Spans) (id : ℕ) → IsOpen (filter (λ e. keep e.0) spans) id → find (filter (λ e. keep e.0) spans) id ≡ find spans id
find-filtered keep spans id there =
    elim (cases_Bool (keep id)) [
      | inl u ↦ find-kept keep spans id u
      | inr u ↦ absurd (false≢true (sym (ap is_some (find-dropped keep spans id u)) ∙ there))
    ]

pub find-left : (old new : Spans) (id : ℕ) (holder : Holder) (j : ℕ) → new ≡ spans_left old id holder → IsOpen new j → find new j ≡ find (without_holder old id holder) j
find-left old new id holder j is there =
    let less = without_holder old id holder in
    ap (λ spans. find spans j) is ∙ find-filtered (is_live less) less j (subst (λ spans. IsOpen spans j) is there)

-- a holder less, and the spans that it leaves
pub remembers_released : (old new : ForestView) (id : ℕ) (holder : Holder) (known : KnownPaths) → new.spans ≡ spans_left old.spans id holder → new.given ≡ old.given
    → ParentsOpen new.spans → WalksEnd old.spans → WalksEnd new.spans → Remembers old known → Remembers new known
remembers_released old new id holder known is given_is whole old_ends new_ends =
    remembers_on old new known
    (λ j before. subst (λ given. generation_of j < slice_index given (slot_of j)) (sym given_is) before)
    (λ layer j given there. (was j there, sym (path_in_part layer j new.spans old.spans (part layer) new_ends old_ends there (was j there))))
  where
    less : Spans
    less = without_holder old.spans id holder

    found : (j : ℕ) → IsOpen new.spans j → find new.spans j ≡ find less j
    found j there = find-left old.spans new.spans id holder j is there

    was : (j : ℕ) → IsOpen new.spans j → IsOpen old.spans j
    was j there = IsOpen-changed (with_less holder) old.spans id j (subst IsSome (found j there) there)

    part : (layer : ℕ) → IsPart layer new.spans old.spans
    part layer = record {
      names = λ j there. sym (ap (name_for layer) (found j there) ∙ name-changed layer (with_less holder) (one_less holder) old.spans id j);
      parents = λ j there. sym (ap parent_in (found j there) ∙ parent_of-changed (with_less holder) (one_less holder).parent old.spans id j);
      parents_open = whole;
    }
