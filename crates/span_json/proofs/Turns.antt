-- What is read where a list or an object goes on with a token.
use Rattle.std.proofs.Common.{◌≡◌, ℕ, zero, suc, ◌-◌, ◌<◌, List, ◌∷◌, Option, Some, None, option_map, option_and_then, refl, ap, ◌∙◌, arith}
use Rattle.json.specs.Token.{Token}
use Rattle.json.specs.Json.{Json, Parse, parse_map, after_end_array, read_key, value, items, members}
use Rattle.json.specs.Json as json
use Rattle.serde_json.specs.Data.{Data, Items, no_items, item, Members, put}
use Rattle.serde_json.specs.Read.{of_json, of_items, of_members, converted}
use Rattle.span_json.specs.inside.Parts.{value_in, items_in, members_in}

-- ---- steps that may find nothing

nothing_left : {A B : Type 0} (x : Option A) → ◌≡◌ {A = Option B} None (option_and_then (λ a. None) x)
nothing_left None = refl
nothing_left (Some a) = refl

mapped_after : {A B C : Type 0} (f : B → C) (g : A → Option B) (x : Option A) → option_map f (option_and_then g x) ≡ option_and_then (λ a. option_map f (g a)) x
mapped_after f g None = refl
mapped_after f g (Some a) = refl

beside : {A B C : Type 0} (f : A × B → Option C) (b : B) (x : Option A) → option_and_then (λ a. f (a, b)) x ≡ option_and_then f (option_map (λ a. (a, b)) x)
beside f b None = refl
beside f b (Some a) = refl

-- ---- a list

item_before : (rest : List Token) (x : Option Data) (ds : Option Items)
    → option_map (λ found. (found, rest)) (option_and_then (λ d. option_map (item d) ds) x) ≡ option_and_then (λ d. parse_map (item d) (option_map (λ found. (found, rest)) ds)) x
item_before rest None ds = refl
item_before rest (Some d) None = refl
item_before rest (Some d) (Some ds) = refl

item_and : (j : Json) (more : Option (json.Items × List Token)) → converted of_items (parse_map (json.item j) more) ≡ option_and_then (λ d. parse_map (item d) (converted of_items more)) (of_json j)
item_and j None = nothing_left (of_json j)
item_and j (Some p) = item_before p.1 (of_json j) (of_items p.0)

item_first : (more : Parse json.Items) (first : Option (Json × List Token))
    → converted of_items (option_and_then (λ p. parse_map (json.item p.0) (more p.1)) first) ≡ option_and_then (λ p. parse_map (item p.0) (converted of_items (more p.1))) (converted of_json first)
item_first more None = refl
item_first more (Some p) = item_and p.0 (more p.1) ∙ beside (λ q. parse_map (item q.0) (converted of_items (more q.1))) p.1 (of_json p.0)

pub list_empty : (depth turns : ℕ) (ts : List Token) → 0 < turns → items_in depth turns (Token.end_array ∷ ts) ≡ Some (no_items, ts)
unfolding items
list_empty depth zero ts some = absurd (omega arith)
list_empty depth (suc n) ts some = refl

pub list_more : (depth turns : ℕ) (ts : List Token) → 0 < turns → after_end_array ts ≡ None
    → items_in depth turns ts ≡ option_and_then (λ p. parse_map (item p.0) (items_in depth (turns - 1) p.1)) (value_in depth ts)
unfolding items
list_more depth zero ts some goes_on = absurd (omega arith)
list_more depth (suc n) ts some goes_on =
    let one_less : n ≡ suc n - 1 = omega arith in
    ap (λ end. converted of_items (json.items_step (value depth) (items (value depth) n) ts end)) goes_on
    ∙ item_first (items (value depth) n) (value depth ts)
    ∙ ap (λ m. option_and_then (λ p. parse_map (item p.0) (items_in depth m p.1)) (value_in depth ts)) one_less

pub list_without_turns : (depth : ℕ) (ts : List Token) → items_in depth 0 ts ≡ None
unfolding items
list_without_turns depth ts = refl

-- ---- an object

member_and : (k : List ℕ) (found : Members) (j : Json) (more : Option (json.Members × List Token))
    → converted (λ ms. of_members ms found) (parse_map (json.member k j) more) ≡ option_and_then (λ d. converted (λ ms. of_members ms (put k d found)) more) (of_json j)
member_and k found j None = nothing_left (of_json j)
member_and k found j (Some p) = mapped_after (λ ms. (ms, p.1)) (λ d. of_members p.0 (put k d found)) (of_json j)

member_first : (k : List ℕ) (found : Members) (more : Parse json.Members) (first : Option (Json × List Token))
    → converted (λ ms. of_members ms found) (option_and_then (λ p. parse_map (json.member k p.0) (more p.1)) first)
    ≡ option_and_then (λ p. converted (λ ms. of_members ms (put k p.0 found)) (more p.1)) (converted of_json first)
member_first k found more None = refl
member_first k found more (Some p) = member_and k found p.0 (more p.1) ∙ beside (λ q. converted (λ ms. of_members ms (put k q.0 found)) (more q.1)) p.1 (of_json p.0)

pub object_empty : (depth turns : ℕ) (found : Members) (ts : List Token) → 0 < turns → members_in depth turns found (Token.end_object ∷ ts) ≡ Some (found, ts)
unfolding members
object_empty depth zero found ts some = absurd (omega arith)
object_empty depth (suc n) found ts some = refl

pub object_more : (depth turns : ℕ) (found : Members) (k : List ℕ) (ts : List Token) → 0 < turns
    → members_in depth turns found (Token.key k ∷ ts) ≡ option_and_then (λ p. members_in depth (turns - 1) (put k p.0 found) p.1) (value_in depth ts)
unfolding members
object_more depth zero found k ts some = absurd (omega arith)
object_more depth (suc n) found k ts some =
    let one_less : n ≡ suc n - 1 = omega arith in
    member_first k found (members (value depth) n) (value depth ts)
    ∙ ap (λ m. option_and_then (λ p. members_in depth m (put k p.0 found) p.1) (value_in depth ts)) one_less

pub object_without_turns : (depth : ℕ) (found : Members) (ts : List Token) → members_in depth 0 found ts ≡ None
unfolding members
object_without_turns depth found ts = refl

pub object_wrong : (depth turns : ℕ) (found : Members) (ts : List Token) → read_key ts ≡ None → members_in depth turns found ts ≡ None
unfolding members
object_wrong depth zero found ts wrong = refl
object_wrong depth (suc n) found ts wrong =
    ap (λ key. converted (λ ms. of_members ms found) (option_and_then (λ p. json.members_step (value depth) (members (value depth) n) p.0 p.1) key)) wrong
