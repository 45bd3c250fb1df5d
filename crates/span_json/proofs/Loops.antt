-- The loops of lists and objects: what is read as a whole is what was found, before what is left.
use Rattle.std.proofs.Common.{◌≡◌, ℕ, zero, suc, ◌-◌, ◌<◌, List, [], ◌∷◌, ◌++◌, Option, Some, None, option_and_then, refl, sym, ap, ◌∙◌, arith}
use Rattle.json.specs.Token.{Token}
use Rattle.json.specs.Json.{parse_map, after_end_array}
use Rattle.serde_json.specs.Data.{Items, no_items, item, Members, no_members, put}
use Rattle.span_json.specs.Seen.{Member, view, items_view, members_view}
use Rattle.span_json.specs.declared.value.Value.{Value}
use Rattle.span_json.specs.inside.Parts.{value_in, items_in, members_in, joined}
use Rattle.span_json.proofs.Members.{one_more}
use Rattle.span_json.proofs.Turns.{list_empty, list_more, list_without_turns, object_more, object_without_turns}

joined_none : (ds : Items) → joined ds no_items ≡ ds
joined_none no_items = refl
joined_none (item d ds) = ap (item d) (joined_none ds)

joined_one : (vs : List Value) (v : Value) (more : Items) → joined (items_view vs) (item (view v) more) ≡ joined (items_view (vs ++ v ∷ [])) more
joined_one [] v more = refl
joined_one (w ∷ vs) v more = ap (item (view w)) (joined_one vs v more)

moved : (vs : List Value) (v : Value) (more : Option (Items × List Token))
    → parse_map (joined (items_view vs)) (parse_map (item (view v)) more) ≡ parse_map (joined (items_view (vs ++ v ∷ []))) more
moved vs v None = refl
moved vs v (Some p) = ap (λ ds. Some (ds, p.1)) (joined_one vs v p.0)

module _ (depth turns : ℕ) (ts : List Token) where
  pub list_ends : (whole : Option (Items × List Token)) (ds : Items) (rest : List Token) → whole ≡ parse_map (joined ds) (items_in depth turns ts)
      → 0 < turns → ts ≡ Token.end_array ∷ rest → whole ≡ Some (ds, rest)
  list_ends whole ds rest so_far some is =
      so_far ∙ ap (λ l. parse_map (joined ds) (items_in depth turns l)) is ∙ ap (parse_map (joined ds)) (list_empty depth turns rest some) ∙ ap (λ all. Some (all, rest)) (joined_none ds)

  pub list_grows : (whole : Option (Items × List Token)) (vs : List Value) (v : Value) (rest : List Token) → whole ≡ parse_map (joined (items_view vs)) (items_in depth turns ts)
      → 0 < turns → after_end_array ts ≡ None → value_in depth ts ≡ Some (view v, rest) → whole ≡ parse_map (joined (items_view (vs ++ v ∷ []))) (items_in depth (turns - 1) rest)
  list_grows whole vs v rest so_far some goes_on is =
      so_far
      ∙ ap (parse_map (joined (items_view vs))) (list_more depth turns ts some goes_on ∙ ap (option_and_then (λ p. parse_map (item p.0) (items_in depth (turns - 1) p.1))) is)
      ∙ moved vs v (items_in depth (turns - 1) rest)

  pub object_grows : (whole : Option (Members × List Token)) (ms : List Member) (m : Member) (after rest : List Token) → whole ≡ members_in depth turns (members_view ms no_members) ts
      → 0 < turns → ts ≡ Token.key m.0.now ∷ after → value_in depth after ≡ Some (view m.1, rest) → whole ≡ members_in depth (turns - 1) (members_view (ms ++ m ∷ []) no_members) rest
  object_grows whole ms m after rest so_far some key is =
      let found = members_view ms no_members in
      so_far
      ∙ ap (members_in depth turns found) key
      ∙ object_more depth turns found m.0.now after some
      ∙ ap (option_and_then (λ p. members_in depth (turns - 1) (put m.0.now p.0 found) p.1)) is
      ∙ ap (λ all. members_in depth (turns - 1) all rest) (sym (one_more ms m no_members))

pub list_fails : (depth turns : ℕ) (ts : List Token) (whole : Option (Items × List Token)) (ds : Items) → whole ≡ parse_map (joined ds) (items_in depth turns ts)
    → after_end_array ts ≡ None → value_in depth ts ≡ None → whole ≡ None
list_fails depth zero ts whole ds so_far goes_on wrong = so_far ∙ ap (parse_map (joined ds)) (list_without_turns depth ts)
list_fails depth (suc n) ts whole ds so_far goes_on wrong =
    so_far ∙ ap (parse_map (joined ds)) (list_more depth (suc n) ts (omega arith) goes_on ∙ ap (option_and_then (λ p. parse_map (item p.0) (items_in depth (suc n - 1) p.1))) wrong)

pub object_fails : (depth turns : ℕ) (found : Members) (k : List ℕ) (ts : List Token) → value_in depth ts ≡ None → members_in depth turns found (Token.key k ∷ ts) ≡ None
object_fails depth zero found k ts wrong = object_without_turns depth found (Token.key k ∷ ts)
object_fails depth (suc n) found k ts wrong =
    object_more depth (suc n) found k ts (omega arith) ∙ ap (option_and_then (λ p. members_in depth (suc n - 1) (put k p.0 found) p.1)) wrong
