-- What is read where a value begins with a token.
use Rattle.std.proofs.Common.{◌≡◌, ℕ, zero, suc, ◌-◌, ◌<◌, List, [], ◌∷◌, length, Bool, Bor, Vec, Global, Option, Some, None, option_map, refl, sym, ap, ◌∙◌, arith, rules}
use Rattle.json.specs.Token.{Token}
use Rattle.json.specs.Json as json
use Rattle.json.proofs.Grammar.{value_is, value-begin_array, value-begin_object}
use Rattle.serde_json.specs.Data.{Data, null, boolean, number, string, array, object, Items, Members, no_members}
use Rattle.serde_json.specs.Read.{number_of, of_json, of_items, of_members, converted}
use Rattle.span_json.specs.Seen.{number_view, view, items_view, members_view, Member}
use Rattle.span_json.specs.declared.value.Number.{Number}
use Rattle.span_json.specs.declared.value.Value as the
use Rattle.span_json.specs.declared.value.Value.{the_lemmas}
use Rattle.span_json.specs.inside.Parts.{value_in, items_in, members_in}

list_at : (ds : Option Items) (rest : List Token) → option_map (λ d. (d, rest)) (option_map array ds) ≡ json.parse_map array (option_map (λ is. (is, rest)) ds)
list_at None rest = refl
list_at (Some ds) rest = refl

list_of : (r : Option (json.Items × List Token)) → converted of_json (json.parse_map json.array r) ≡ json.parse_map array (converted of_items r)
list_of None = refl
list_of (Some p) = list_at (of_items p.0) p.1

object_at : (ms : Option Members) (rest : List Token) → option_map (λ d. (d, rest)) (option_map object ms) ≡ json.parse_map object (option_map (λ is. (is, rest)) ms)
object_at None rest = refl
object_at (Some ms) rest = refl

object_of : (r : Option (json.Members × List Token)) → converted of_json (json.parse_map json.object r) ≡ json.parse_map object (converted (λ ms. of_members ms no_members) r)
object_of None = refl
object_of (Some p) = object_at (of_members p.0 no_members) p.1

view-Null : view the.Null ≡ null
view-Null = search (rules, the_lemmas)

view-Bool : (b : Bool) → view (the.Bool b) ≡ boolean b
view-Bool b = search (rules, the_lemmas)

view-Number : (n : Number) → view (the.Number n) ≡ number (number_view n)
view-Number n = search (rules, the_lemmas)

view-Text : (s : Bor (List ℕ)) → view (the.Text s) ≡ string s.now
view-Text s = search (rules, the_lemmas)

pub view-List : (v : Vec the.Value Global) → view (the.List v) ≡ array (items_view v.items)
view-List v = search (rules, the_lemmas)

pub view-Object : (v : Vec Member Global) → view (the.Object v) ≡ object (members_view v.items no_members)
view-Object v = search (rules, the_lemmas)

module _ (depth : ℕ) (ts : List Token) where
  pub null_begun : value_in depth (Token.null ∷ ts) ≡ Some (view the.Null, ts)
  null_begun = ap (converted of_json) (value_is depth (Token.null ∷ ts)) ∙ ap (λ d. Some (d, ts)) (sym view-Null)

  pub boolean_begun : (b : Bool) → value_in depth (Token.boolean b ∷ ts) ≡ Some (view (the.Bool b), ts)
  boolean_begun b = ap (converted of_json) (value_is depth (Token.boolean b ∷ ts)) ∙ ap (λ d. Some (d, ts)) (sym (view-Bool b))

  pub text_begun : (s : Bor (List ℕ)) → value_in depth (Token.string s.now ∷ ts) ≡ Some (view (the.Text s), ts)
  text_begun s = ap (converted of_json) (value_is depth (Token.string s.now ∷ ts)) ∙ ap (λ d. Some (d, ts)) (sym (view-Text s))

  number_at : (r : Option Number) → option_map {U = Data × List Token} (λ d. (d, ts)) (option_map number (option_map number_view r)) ≡ option_map (λ n. (view (the.Number n), ts)) r
  number_at None = refl
  number_at (Some n) = ap (λ d. Some (d, ts)) (sym (view-Number n))

  pub number_begun : (s : List ℕ) (r : Option Number) → option_map number_view r ≡ number_of s → value_in depth (Token.number s ∷ ts) ≡ option_map (λ n. (view (the.Number n), ts)) r
  number_begun s r is =
      ap (converted of_json) (value_is depth (Token.number s ∷ ts))
      ∙ ap (λ n. option_map {U = Data × List Token} (λ d. (d, ts)) (option_map number n)) (sym is)
      ∙ number_at r

  pub list_begun : 0 < depth → value_in depth (Token.begin_array ∷ ts) ≡ json.parse_map array (items_in (depth - 1) (length ts) ts)
  list_begun deep = ap (converted of_json) (value-begin_array depth ts deep) ∙ list_of (json.items (json.value (depth - 1)) (length ts) ts)

  pub object_begun : 0 < depth → value_in depth (Token.begin_object ∷ ts) ≡ json.parse_map object (members_in (depth - 1) (length ts) no_members ts)
  object_begun deep = ap (converted of_json) (value-begin_object depth ts deep) ∙ object_of (json.members (json.value (depth - 1)) (length ts) ts)

  pub end_array_begun : value_in depth (Token.end_array ∷ ts) ≡ None
  end_array_begun = ap (converted of_json) (value_is depth (Token.end_array ∷ ts))

  pub end_object_begun : value_in depth (Token.end_object ∷ ts) ≡ None
  end_object_begun = ap (converted of_json) (value_is depth (Token.end_object ∷ ts))

  pub key_begun : (s : List ℕ) → value_in depth (Token.key s ∷ ts) ≡ None
  key_begun s = ap (converted of_json) (value_is depth (Token.key s ∷ ts))

  pub bad_begun : value_in depth (Token.bad ∷ ts) ≡ None
  bad_begun = ap (converted of_json) (value_is depth (Token.bad ∷ ts))

pub none_begun : (depth : ℕ) → value_in depth [] ≡ None
none_begun depth = ap (converted of_json) (value_is depth [])

pub list_too_deep : (depth : ℕ) (ts : List Token) → depth ≡ 0 → value_in depth (Token.begin_array ∷ ts) ≡ None
list_too_deep zero ts e = ap (converted of_json) (value_is zero (Token.begin_array ∷ ts))
list_too_deep (suc depth) ts e = absurd (omega arith)

pub object_too_deep : (depth : ℕ) (ts : List Token) → depth ≡ 0 → value_in depth (Token.begin_object ∷ ts) ≡ None
object_too_deep zero ts e = ap (converted of_json) (value_is zero (Token.begin_object ∷ ts))
object_too_deep (suc depth) ts e = absurd (omega arith)
