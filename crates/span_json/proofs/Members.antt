-- The members of an object, as they go in one after another.
use Rattle.std.proofs.Common.{◌≡◌, ℕ, ◌+◌, ◌-◌, ◌<◌, ◌≤◌, List, [], ◌∷◌, ◌++◌, length, take, get_or, true, false, true≢false, Some, bytes_eq, refl, sym, ap, ◌∙◌, arith}
use Rattle.std.proofs.lemmas.List.{take_more}
use Rattle.std.proofs.lemmas.Slice.Eq.{bytes_eq-Decides}
use Rattle.serde_json.specs.Data.{Members, no_members, put}
use Rattle.serde_json.specs.Find.{get_member}
use Rattle.serde_json.proofs.Views.{get_member-put, get_member-put_other}
use Rattle.span_json.specs.Seen.{Member, view, members_view}

pub one_more : (ms : List Member) (m : Member) (found : Members) → members_view (ms ++ m ∷ []) found ≡ put m.0.now (view m.1) (members_view ms found)
one_more [] m found = refl
one_more (n ∷ ms) m found = one_more ms m (put n.0.now (view n.1) found)

module _ (key : List ℕ) (ms : List Member) (place : ℕ) (m : Member) (some : 0 < place) (within : place ≤ length ms) (is : m ≡ get_or ms (place - 1) m) where
  -- the members before the place, and this one last
  last_is : members_view (take place ms) no_members ≡ put m.0.now (view m.1) (members_view (take (place - 1) ms) no_members)
  last_is =
      let next : place ≡ place - 1 + 1 = omega arith in
      ap (λ n. members_view (take n ms) no_members) next
      ∙ ap (λ l. members_view l no_members) (take_more ms (place - 1) m (omega arith) ∙ ap (λ n. take (place - 1) ms ++ n ∷ []) (sym is))
      ∙ one_more (take (place - 1) ms) m no_members

  pub found_last : bytes_eq m.0.now key ≡ true → get_member key (members_view (take place ms) no_members) ≡ Some (view m.1)
  found_last same =
      ap (get_member key) last_is
      ∙ ap (λ k. get_member key (put k (view m.1) (members_view (take (place - 1) ms) no_members))) ((bytes_eq-Decides m.0.now key).0 same)
      ∙ get_member-put key (view m.1) (members_view (take (place - 1) ms) no_members)

  pub found_before : bytes_eq m.0.now key ≡ false → get_member key (members_view (take place ms) no_members) ≡ get_member key (members_view (take (place - 1) ms) no_members)
  found_before other =
      ap (get_member key) last_is
      ∙ get_member-put_other key m.0.now (view m.1) (members_view (take (place - 1) ms) no_members) (λ same. true≢false (sym ((bytes_eq-Decides m.0.now key).1 (sym same)) ∙ other))
