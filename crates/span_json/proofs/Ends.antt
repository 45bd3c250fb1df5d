-- Which tokens end a list, which are no key, and which begin no value.
use Rattle.std.proofs.Common.{◌≡◌, ℕ, ◌⊎◌, inl, inr, List, ◌∷◌, Bor, None, refl, ap, ◌∙◌}
use Rattle.json.specs.Token as spec
use Rattle.json.specs.Json.{after_end_array, read_key}
use Rattle.json.specs.Reads.{token_of}
use Rattle.json.specs.declared.token.Token.{Token}
use Rattle.json.specs.declared.token.Token.TheVariants.{BeginObject, EndObject, BeginArray, EndArray, Key, String, Number, Bool, Null, Bad}
use Rattle.span_json.specs.inside.Parts.{value_in}
use Rattle.span_json.proofs.Begun.{end_array_begun, end_object_begun, key_begun, bad_begun}

pub list_goes_on : (t : Token) (rest : List spec.Token) → (t ≡ EndArray → ⊥) → after_end_array (token_of t ∷ rest) ≡ None
list_goes_on BeginObject rest other = refl
list_goes_on EndObject rest other = refl
list_goes_on BeginArray rest other = refl
list_goes_on EndArray rest other = absurd (other refl)
list_goes_on (Key s) rest other = refl
list_goes_on (String s) rest other = refl
list_goes_on (Number s) rest other = refl
list_goes_on (Bool b) rest other = refl
list_goes_on Null rest other = refl
list_goes_on Bad rest other = refl

pub no_key : (t : Token) (rest : List spec.Token) → (t ≡ EndObject → ⊥) → ((k : Bor (List ℕ)) → t ≡ Key k → ⊥) → read_key (token_of t ∷ rest) ≡ None
no_key BeginObject rest other unnamed = refl
no_key EndObject rest other unnamed = absurd (other refl)
no_key BeginArray rest other unnamed = refl
no_key EndArray rest other unnamed = refl
no_key (Key s) rest other unnamed = absurd (unnamed s refl)
no_key (String s) rest other unnamed = refl
no_key (Number s) rest other unnamed = refl
no_key (Bool b) rest other unnamed = refl
no_key Null rest other unnamed = refl
no_key Bad rest other unnamed = refl

pub begins_no_value : (depth : ℕ) (t : Token) (rest : List spec.Token) → (t ≡ EndArray) ⊎ ((t ≡ EndObject) ⊎ (((k : Bor (List ℕ)) × (t ≡ Key k)) ⊎ (t ≡ Bad))) → value_in depth (token_of t ∷ rest) ≡ None
begins_no_value depth t rest (inl is) = ap (λ u. value_in depth (token_of u ∷ rest)) is ∙ end_array_begun depth rest
begins_no_value depth t rest (inr (inl is)) = ap (λ u. value_in depth (token_of u ∷ rest)) is ∙ end_object_begun depth rest
begins_no_value depth t rest (inr (inr (inl k))) = ap (λ u. value_in depth (token_of u ∷ rest)) k.1 ∙ key_begun depth rest k.0.now
begins_no_value depth t rest (inr (inr (inr is))) = ap (λ u. value_in depth (token_of u ∷ rest)) is ∙ bad_begun depth rest
