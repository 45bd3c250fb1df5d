-- What is read of a plain text, from its lexemes up to those that are left.
use Rattle.std.specs.Prelude.{Bool, not, ◌+◌, drop, ◌≡◌, ℕ, ◌<◌, ◌≤◌, List, ◌∷◌, length, true, Option, Some}
use Rattle.std.specs.List.{prefix_len}
use Rattle.std.specs.Str.{IsUtf8}
use Rattle.json.specs.Json.{parse_map}
use Rattle.json.specs.Lex.{Lexeme, token, colon, Place, fresh, after_value, may_begin, punctuate}
use Rattle.json.specs.Token.{Token}
use Rattle.json.specs.Token as spec
use Rattle.json.specs.Word.{is_space}
use Rattle.serde_json.specs.Data.{Data, Items, Members, no_members}
use Rattle.span_json.specs.Seen.{Member, view, items_view, members_view}
use Rattle.span_json.specs.declared.plain_text.PlainText.TheInside.{Inside}
use Rattle.span_json.specs.declared.value.Value.{Value}
use Rattle.span_json.specs.inside.Parts.{value_in, items_in, members_in, joined}

-- a text goes on at a place of it
pub record IsInside (inside : Inside) : Type 0 where
  pub utf8 : IsUtf8 inside.text.now
  pub place : inside.at ≤ length inside.text.now

-- a byte that isn't one of the four spaces
abbrev pub is_other : ℕ → Bool
is_other byte = not (is_space byte)

-- all bytes from one place up to another are of a kind
abbrev pub HasPassed : (ℕ → Bool) → List ℕ → ℕ → ℕ → Type 0
HasPassed is text from at = (from + prefix_len is (drop from text) ≡ at + prefix_len is (drop at text)) × (at ≤ length text)

-- a value is read where one may begin, and fewer tokens are left
pub record ReadsValue (depth : ℕ) (old : List Lexeme) (found : Data) (new : List Lexeme) : Type 0 where
  pub value : value_in depth (punctuate fresh old) ≡ Some (found, punctuate after_value new)
  pub shorter : length (punctuate after_value new) < length (punctuate fresh old)

-- the items of a list whose inside begins here, and the tokens behind it
abbrev pub all_items : ℕ → List Lexeme → Option (Items × List Token)
all_items depth inner = items_in depth (length (punctuate fresh inner)) (punctuate fresh inner)

-- the members of an object whose inside begins here, and the tokens behind it
abbrev pub all_members : ℕ → List Lexeme → Option (Members × List Token)
all_members depth inner = members_in depth (length (punctuate fresh inner)) no_members (punctuate fresh inner)

-- a list is read, with its brackets
pub record ReadsItems (depth : ℕ) (old : List Lexeme) (found : Items) (new : List Lexeme) : Type 0 where
  pub inner : List Lexeme
  pub begins : old ≡ token spec.begin_array ∷ inner
  pub items : all_items depth inner ≡ Some (found, punctuate after_value new)
  pub shorter : length (punctuate after_value new) < length (punctuate fresh inner)

-- an object is read, with its brackets
pub record ReadsMembers (depth : ℕ) (old : List Lexeme) (found : Members) (new : List Lexeme) : Type 0 where
  pub inner : List Lexeme
  pub begins : old ≡ token spec.begin_object ∷ inner
  pub members : all_members depth inner ≡ Some (found, punctuate after_value new)
  pub shorter : length (punctuate after_value new) < length (punctuate fresh inner)

-- a key, a colon and a value are read
pub record ReadsMember (depth : ℕ) (old : List Lexeme) (member : Member) (new : List Lexeme) : Type 0 where
  pub after : List Lexeme
  pub key : old ≡ token (spec.string member.0.now) ∷ colon ∷ after
  pub value : ReadsValue depth after (view member.1) new

-- these items of a list are read, and the next may begin
pub record ItemsLeft (depth : ℕ) (inner : List Lexeme) (done : List Value) (left : List Lexeme) : Type 0 where
  pub place : Place
  pub may : may_begin place ≡ true
  pub turns : ℕ
  pub so_far : all_items depth inner ≡ parse_map (joined (items_view done)) (items_in depth turns (punctuate place left))
  pub room : length (punctuate place left) ≤ turns
  pub fewer : length (punctuate place left) ≤ length (punctuate fresh inner)

-- these members of an object are read, and the next may begin
pub record MembersLeft (depth : ℕ) (inner : List Lexeme) (done : List Member) (left : List Lexeme) : Type 0 where
  pub place : Place
  pub may : may_begin place ≡ true
  pub turns : ℕ
  pub so_far : all_members depth inner ≡ members_in depth turns (members_view done no_members) (punctuate place left)
  pub room : length (punctuate place left) ≤ turns
  pub fewer : length (punctuate place left) ≤ length (punctuate fresh inner)
