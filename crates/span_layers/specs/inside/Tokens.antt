-- The tokens of a note's JSON text, member by member, for the functions inside this crate: no public clause cites it.
use Rattle.std.specs.Prelude.{◌≡◌, ℕ, List, [], ◌∷◌, ◌++◌, codes, map, Option, Some, None, OnOk, Result}
use Rattle.json.specs.Token.{Token}
use Rattle.json.specs.Tree.{json_tokens}
use Rattle.json.specs.Written.{Written}
use Rattle.serde_json.specs.Data.{Data, array, number, string, unsigned}
use Rattle.serde_json.specs.View.{items_of}
use Rattle.serde_json.specs.Written.{outline}
use Rattle.span_id.specs.Level.{level_name}
use Rattle.span_layers.specs.Note.{EventText, PlainNote, kind_name}
use Rattle.span_layers.specs.Text.{field_value}

-- a writer got these tokens more, where the write is Ok; what its buffer held at the start stays
abbrev pub Appends : {E : Type 0} → Result (Unit {0}) E → Written → Written → List Token → Type 0
Appends result old new tokens = (new.before ≡ old.before) × OnOk result (new.tokens ≡ old.tokens ++ tokens)

-- a name with its value
abbrev pub member_tokens : List ℕ → Data → List Token
member_tokens name value = Token.key name ∷ json_tokens (outline value)

-- an event's level and message
abbrev pub event_tokens : Option EventText → List Token
event_tokens None = []
event_tokens (Some event) =
    member_tokens (codes "level") (string (level_name event.level)) ++ member_tokens (codes "message") (string event.message)

-- the bracket and the members that stand before an event's level and message
abbrev pub start_tokens : PlainNote → List Token
start_tokens note =
    Token.begin_object ∷ (member_tokens (codes "fields") (array (items_of (map field_value note.fields)))
    ++ (member_tokens (codes "id") (number (unsigned note.id)) ++ member_tokens (codes "kind") (string (kind_name note.kind))))

-- the members that stand behind them, and the bracket
abbrev pub end_tokens : PlainNote → List Token
end_tokens note =
    member_tokens (codes "path") (string note.path)
    ++ (member_tokens (codes "worker") (number (unsigned note.worker)) ++ Token.end_object ∷ [])
