-- From lexemes to what is read of them: values, and the turns of lists and objects.
use Rattle.std.proofs.Common.{rules, ◌≡◌, ℕ, ◌-◌, ◌<◌, Bool, true, false, List, [], ◌∷◌, ◌++◌, length, Bor, Vec, Global, Option, Some, None, option_map, option_and_then, refl, sym, ap, ◌∙◌, arith}
use Rattle.std.proofs.lemmas.Option.{none-some, some_pair_parts}
use Rattle.json.specs.Json.{Json, parse_map, after_end_array, if_last, value}
use Rattle.json.specs.Lex.{Lexeme, token, tokens, comma, colon, between, lex, Place, fresh, after_value, after_comma, after_key, begins_colon, may_begin, place_token, punctuate}
use Rattle.json.specs.Token.{Token}
use Rattle.serde_json.specs.Data.{Data, array, object, Items, no_items, Members, no_members}
use Rattle.serde_json.specs.Read.{of_json, converted, number_of}
use Rattle.serde_json.specs.Read as serde
use Rattle.span_json.specs.Seen.{Member, number_view, view, items_view, members_view}
use Rattle.span_json.specs.declared.value.Number.{Number}
use Rattle.span_json.specs.declared.value.Value as the
use Rattle.span_json.specs.declared.value.Value.{Value}
use Rattle.span_json.specs.inside.Parts.{value_in, items_in, members_in, joined}
use Rattle.span_json.specs.inside.Plain.{all_items, all_members, ReadsValue, ReadsItems, ReadsMembers, ReadsMember, ItemsLeft, MembersLeft}
use Rattle.span_json.proofs.Begun.{view-List, view-Object, null_begun, boolean_begun, text_begun, number_begun, list_begun, object_begun, end_array_begun, end_object_begun, none_begun}
use Rattle.span_json.proofs.Loops.{list_ends, list_grows, object_grows}
use Rattle.span_json.proofs.Turns.{list_empty, object_empty}

-- ---- a value that begins with a lexeme

begun : (depth : ℕ) (old : List Lexeme) (t : Token) (found : Data) (new : List Lexeme) → punctuate fresh old ≡ t ∷ punctuate after_value new
    → value_in depth (t ∷ punctuate after_value new) ≡ Some (found, punctuate after_value new) → ReadsValue depth old found new
begun depth old t found new are is = record {
  value = ap (value_in depth) are ∙ is;
  shorter = omega (arith, ap length are);
}

pub text_read : (depth : ℕ) (s : Bor (List ℕ)) (old new : List Lexeme) → old ≡ token (Token.string s.now) ∷ new → begins_colon new ≡ false → ReadsValue depth old (view (the.Text s)) new
unfolding punctuate
text_read depth s old new is plain =
    begun depth old (Token.string s.now) (view (the.Text s)) new
    (ap (punctuate fresh) is ∙ ap (λ b. place_token fresh (Token.string s.now) b (λ next. punctuate next new)) plain)
    (text_begun depth (punctuate after_value new) s)

pub number_read : (depth : ℕ) (s : List ℕ) (n : Number) (old new : List Lexeme) → old ≡ token (Token.number s) ∷ new → Some (number_view n) ≡ number_of s → ReadsValue depth old (view (the.Number n)) new
unfolding punctuate
number_read depth s n old new is value =
    begun depth old (Token.number s) (view (the.Number n)) new (ap (punctuate fresh) is) (number_begun depth (punctuate after_value new) s (Some n) value)

pub null_read : (depth : ℕ) (old new : List Lexeme) → old ≡ token Token.null ∷ new → ReadsValue depth old (view the.Null) new
unfolding punctuate
null_read depth old new is = begun depth old Token.null (view the.Null) new (ap (punctuate fresh) is) (null_begun depth (punctuate after_value new))

pub boolean_read : (depth : ℕ) (b : Bool) (old new : List Lexeme) → old ≡ token (Token.boolean b) ∷ new → ReadsValue depth old (view (the.Bool b)) new
unfolding punctuate
boolean_read depth b old new is = begun depth old (Token.boolean b) (view (the.Bool b)) new (ap (punctuate fresh) is) (boolean_begun depth (punctuate after_value new) b)

pub list_read : (depth : ℕ) (v : Vec Value Global) (old new : List Lexeme) → 0 < depth → ReadsItems (depth - 1) old (items_view v.items) new → ReadsValue depth old (view (the.List v)) new
unfolding punctuate
list_read depth v old new deep read =
    let inside = punctuate fresh read.inner in
    let are : punctuate fresh old ≡ Token.begin_array ∷ inside = ap (punctuate fresh) read.begins in
    record {
      value =
          ap (value_in depth) are ∙ list_begun depth inside deep ∙ ap (parse_map array) read.items ∙ ap (λ d. Some (d, punctuate after_value new)) (sym (view-List v));
      shorter = omega (arith, ap length are, read.shorter);
    }

pub object_read : (depth : ℕ) (v : Vec Member Global) (old new : List Lexeme) → 0 < depth → ReadsMembers (depth - 1) old (members_view v.items no_members) new → ReadsValue depth old (view (the.Object v)) new
unfolding punctuate
object_read depth v old new deep read =
    let inside = punctuate fresh read.inner in
    let are : punctuate fresh old ≡ Token.begin_object ∷ inside = ap (punctuate fresh) read.begins in
    record {
      value =
          ap (value_in depth) are ∙ object_begun depth inside deep ∙ ap (parse_map object) read.members ∙ ap (λ d. Some (d, punctuate after_value new)) (sym (view-Object v));
      shorter = omega (arith, ap length are, read.shorter);
    }

-- ---- a text that is a value

last : (j : Json) (rest : List Token) (found : Data) (read : Option Data) → read ≡ of_json j → option_map {U = Data × List Token} (λ d. (d, rest)) read ≡ Some (found, []) → option_and_then of_json (if_last j rest) ≡ Some found
last j rest found None is whole = absurd (none-some _ whole)
last j rest found (Some d) is whole =
    let parts = some_pair_parts d found rest [] whole in
    ap (λ ts. option_and_then of_json (if_last j ts)) parts.1 ∙ sym is ∙ ap Some parts.0

whole_text : (r : Option (Json × List Token)) (found : Data) → converted of_json r ≡ Some (found, []) → option_and_then of_json (option_and_then (λ p. if_last p.0 p.1) r) ≡ Some found
whole_text None found is = absurd (none-some _ is)
whole_text (Some p) found is = last p.0 p.1 found (of_json p.0) refl is

pub text_is : (text : List ℕ) (found : Data) (left : List Lexeme) → ReadsValue 127 (lex between text) found left → left ≡ [] → serde.read text ≡ Some found
unfolding punctuate
text_is text found left reads none =
    let over : punctuate after_value left ≡ [] = ap (punctuate after_value) none in
    whole_text (value 127 (tokens text)) found (reads.value ∙ ap (λ ts. Some (found, ts)) over)

-- ---- where a value begins, it begins behind a comma too

text_behind : (s : List ℕ) (before_colon : Bool) (k : Place → List Token) → place_token after_comma (Token.string s) before_colon k ≡ place_token fresh (Token.string s) before_colon k
text_behind s true k = refl
text_behind s false k = refl

behind_comma : (depth : ℕ) (ls : List Lexeme) {read : Data × List Token} → value_in depth (punctuate fresh ls) ≡ Some read → punctuate after_comma ls ≡ punctuate fresh ls
unfolding punctuate
behind_comma depth [] is = absurd (none-some _ (sym (none_begun depth) ∙ is))
behind_comma depth (token Token.begin_object ∷ ls) is = refl
behind_comma depth (token Token.end_object ∷ ls) is = absurd (none-some _ (sym (end_object_begun depth (punctuate after_value ls)) ∙ is))
behind_comma depth (token Token.begin_array ∷ ls) is = refl
behind_comma depth (token Token.end_array ∷ ls) is = absurd (none-some _ (sym (end_array_begun depth (punctuate after_value ls)) ∙ is))
behind_comma depth (token (Token.key s) ∷ ls) is = refl
behind_comma depth (token (Token.string s) ∷ ls) is = text_behind s (begins_colon ls) (λ next. punctuate next ls)
behind_comma depth (token (Token.number s) ∷ ls) is = refl
behind_comma depth (token (Token.boolean b) ∷ ls) is = refl
behind_comma depth (token Token.null ∷ ls) is = refl
behind_comma depth (token Token.bad ∷ ls) is = refl
behind_comma depth (comma ∷ ls) is = refl
behind_comma depth (colon ∷ ls) is = refl

placed : (depth : ℕ) (place : Place) (ls : List Lexeme) {read : Data × List Token} → may_begin place ≡ true → value_in depth (punctuate fresh ls) ≡ Some read → punctuate place ls ≡ punctuate fresh ls
placed depth fresh ls may is = refl
placed depth after_value ls may is = absurd (search rules)
placed depth after_comma ls may is = behind_comma depth ls is
placed depth after_key ls may is = absurd (search rules)

goes_on : (depth : ℕ) (ts : List Token) {read : Data × List Token} → value_in depth ts ≡ Some read → after_end_array ts ≡ None
goes_on depth [] is = refl
goes_on depth (Token.begin_object ∷ ts) is = refl
goes_on depth (Token.end_object ∷ ts) is = refl
goes_on depth (Token.begin_array ∷ ts) is = refl
goes_on depth (Token.end_array ∷ ts) is = absurd (none-some _ (sym (end_array_begun depth ts) ∙ is))
goes_on depth (Token.key s ∷ ts) is = refl
goes_on depth (Token.string s ∷ ts) is = refl
goes_on depth (Token.number s ∷ ts) is = refl
goes_on depth (Token.boolean b ∷ ts) is = refl
goes_on depth (Token.null ∷ ts) is = refl
goes_on depth (Token.bad ∷ ts) is = refl

-- ---- the turns of a list

pub no_items_read : (depth : ℕ) (old inner new : List Lexeme) → old ≡ token Token.begin_array ∷ inner → inner ≡ token Token.end_array ∷ new → ReadsItems depth old no_items new
unfolding punctuate
no_items_read depth old inner new begins ends =
    let ts = punctuate after_value new in
    let are : punctuate fresh inner ≡ Token.end_array ∷ ts = ap (punctuate fresh) ends in
    record {
      inner = inner;
      begins = begins;
      items = ap (λ all. items_in depth (length all) all) are ∙ list_empty depth (length (Token.end_array ∷ ts)) ts (omega arith);
      shorter = omega (arith, ap length are);
    }

nothing_before : (r : Option (Items × List Token)) → r ≡ parse_map (joined no_items) r
nothing_before None = refl
nothing_before (Some p) = refl

pub items_begin : (depth : ℕ) (inner : List Lexeme) → ItemsLeft depth inner [] inner
items_begin depth inner = record {
  place = fresh;
  may = refl;
  turns = length (punctuate fresh inner);
  so_far = nothing_before _;
  room = omega arith;
  fewer = omega arith;
}

module _ (depth : ℕ) (inner : List Lexeme) (done : List Value) (v : Value) (old mid new : List Lexeme) (left : ItemsLeft depth inner done old) (read : ReadsValue depth old (view v) mid) where
  abbrev all : Option (Items × List Token)
  all = all_items depth inner

  are : punctuate left.place old ≡ punctuate fresh old
  are = placed depth left.place old left.may read.value

  one_more : all ≡ parse_map (joined (items_view (done ++ v ∷ []))) (items_in depth (left.turns - 1) (punctuate after_value mid))
  one_more =
      let here : value_in depth (punctuate left.place old) ≡ Some (view v, punctuate after_value mid) = ap (value_in depth) are ∙ read.value in
      list_grows depth left.turns (punctuate left.place old) all done v (punctuate after_value mid) left.so_far (omega (arith, read.shorter, ap length are, left.room)) (goes_on depth (punctuate left.place old) here) here

  pub items_go_on : mid ≡ comma ∷ new → ItemsLeft depth inner (done ++ v ∷ []) new
  unfolding punctuate
  items_go_on is =
      let same : punctuate after_value mid ≡ punctuate after_comma new = ap (punctuate after_value) is in
      record {
        place = after_comma;
        may = refl;
        turns = left.turns - 1;
        so_far = one_more ∙ ap (λ ts. parse_map (joined (items_view (done ++ v ∷ []))) (items_in depth (left.turns - 1) ts)) same;
        room = omega (arith, read.shorter, ap length are, left.room, ap length same);
        fewer = omega (arith, read.shorter, ap length are, left.fewer, ap length same);
      }

  pub items_fewer : mid ≡ comma ∷ new → length (punctuate after_comma new) < length (punctuate after_comma old)
  unfolding punctuate
  items_fewer is =
      let same : punctuate after_value mid ≡ punctuate after_comma new = ap (punctuate after_value) is in
      omega (arith, read.shorter, ap length same, ap length (behind_comma depth old read.value))

  pub items_end : (whole : List Lexeme) → whole ≡ token Token.begin_array ∷ inner → mid ≡ token Token.end_array ∷ new → ReadsItems depth whole (items_view (done ++ v ∷ [])) new
  unfolding punctuate
  items_end whole begins is =
      let same : punctuate after_value mid ≡ Token.end_array ∷ punctuate after_value new = ap (punctuate after_value) is in
      record {
        inner = inner;
        begins = begins;
        items = list_ends depth (left.turns - 1) (punctuate after_value mid) all (items_view (done ++ v ∷ [])) (punctuate after_value new) one_more (omega (arith, read.shorter, ap length are, left.room, ap length same)) same;
        shorter = omega (arith, read.shorter, ap length are, left.fewer, ap length same);
      }

-- ---- the turns of an object

pub no_members_read : (depth : ℕ) (old inner new : List Lexeme) → old ≡ token Token.begin_object ∷ inner → inner ≡ token Token.end_object ∷ new → ReadsMembers depth old no_members new
unfolding punctuate
no_members_read depth old inner new begins ends =
    let ts = punctuate after_value new in
    let are : punctuate fresh inner ≡ Token.end_object ∷ ts = ap (punctuate fresh) ends in
    record {
      inner = inner;
      begins = begins;
      members = ap (λ all. members_in depth (length all) no_members all) are ∙ object_empty depth (length (Token.end_object ∷ ts)) no_members ts (omega arith);
      shorter = omega (arith, ap length are);
    }

pub members_begin : (depth : ℕ) (inner : List Lexeme) → MembersLeft depth inner [] inner
members_begin depth inner = record {
  place = fresh;
  may = refl;
  turns = length (punctuate fresh inner);
  so_far = refl;
  room = omega arith;
  fewer = omega arith;
}

key_at : (place : Place) (s : List ℕ) (ls : List Lexeme) → may_begin place ≡ true → punctuate place (token (Token.string s) ∷ colon ∷ ls) ≡ Token.key s ∷ punctuate fresh ls
unfolding punctuate
key_at fresh s ls may = refl
key_at after_value s ls may = absurd (search rules)
key_at after_comma s ls may = refl
key_at after_key s ls may = absurd (search rules)

module _ (depth : ℕ) (inner : List Lexeme) (done : List Member) (m : Member) (old mid new : List Lexeme) (left : MembersLeft depth inner done old) (read : ReadsMember depth old m mid) where
  abbrev whole : Option (Members × List Token)
  whole = all_members depth inner

  begin : punctuate left.place old ≡ Token.key m.0.now ∷ punctuate fresh read.after
  begin = ap (punctuate left.place) read.key ∙ key_at left.place m.0.now read.after left.may

  grown : whole ≡ members_in depth (left.turns - 1) (members_view (done ++ m ∷ []) no_members) (punctuate after_value mid)
  grown = object_grows depth left.turns (punctuate left.place old) whole done m (punctuate fresh read.after) (punctuate after_value mid) left.so_far (omega (arith, ap length begin, left.room)) begin read.value.value

  pub members_go_on : mid ≡ comma ∷ new → MembersLeft depth inner (done ++ m ∷ []) new
  unfolding punctuate
  members_go_on is =
      let same : punctuate after_value mid ≡ punctuate after_comma new = ap (punctuate after_value) is in
      record {
        place = after_comma;
        may = refl;
        turns = left.turns - 1;
        so_far = grown ∙ ap (members_in depth (left.turns - 1) (members_view (done ++ m ∷ []) no_members)) same;
        room = omega (arith, read.value.shorter, ap length begin, left.room, ap length same);
        fewer = omega (arith, read.value.shorter, ap length begin, left.fewer, ap length same);
      }

  pub members_fewer : mid ≡ comma ∷ new → length (punctuate after_comma new) < length (punctuate after_comma old)
  unfolding punctuate
  members_fewer is =
      let same : punctuate after_value mid ≡ punctuate after_comma new = ap (punctuate after_value) is in
      let key : punctuate after_comma old ≡ Token.key m.0.now ∷ punctuate fresh read.after = ap (punctuate after_comma) read.key ∙ key_at after_comma m.0.now read.after refl in
      omega (arith, read.value.shorter, ap length same, ap length key)

  pub members_end : (all : List Lexeme) → all ≡ token Token.begin_object ∷ inner → mid ≡ token Token.end_object ∷ new → ReadsMembers depth all (members_view (done ++ m ∷ []) no_members) new
  unfolding punctuate
  members_end all begins is =
      let same : punctuate after_value mid ≡ Token.end_object ∷ punctuate after_value new = ap (punctuate after_value) is in
      record {
        inner = inner;
        begins = begins;
        members = grown ∙ ap (members_in depth (left.turns - 1) (members_view (done ++ m ∷ []) no_members)) same ∙ object_empty depth (left.turns - 1) _ (punctuate after_value new) (omega (arith, read.value.shorter, ap length begin, left.room, ap length same));
        shorter = omega (arith, read.value.shorter, ap length begin, left.fewer, ap length same);
      }
