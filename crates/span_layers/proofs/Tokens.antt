-- The tokens of a note's JSON value are those of its members, one behind the other.
use Rattle.std.proofs.Common.{◌≡◌, ◌++◌, ◌∷◌, Option, Some, None, map, codes, refl, ap, append_assoc}
use Rattle.json.specs.Token.{Token}
use Rattle.json.specs.Tree.{json_tokens, members_tokens}
use Rattle.serde_json.specs.Data.{Members, no_members, member, array, number, string, unsigned}
use Rattle.serde_json.specs.View.{items_of}
use Rattle.serde_json.specs.Written.{outline, members_outline}
use Rattle.span_layers.specs.Note.{EventText, PlainNote, kind_name, shown}
use Rattle.span_layers.specs.Text.{field_value, json_value, with_event}
use Rattle.span_layers.specs.inside.Tokens.{member_tokens, event_tokens, start_tokens, end_tokens}

-- the level and the message, where they are shown, stand in front of what follows
event_then : (event : Option EventText) (rest : Members) → members_tokens (members_outline (with_event event rest)) ≡ event_tokens event ++ members_tokens (members_outline rest)
event_then None rest = refl
event_then (Some event) rest = refl

pub note_tokens : (note : PlainNote) → json_tokens (outline (json_value note))
    ≡ start_tokens note ++ (event_tokens (shown note.kind note.event) ++ end_tokens note)
note_tokens note =
    let last = member (codes "path") (string note.path) (member (codes "worker") (number (unsigned note.worker)) no_members) in
    rw append_assoc (ap
    (λ tokens. Token.begin_object ∷ (member_tokens (codes "fields") (array (items_of (map field_value note.fields)))
    ++ (member_tokens (codes "id") (number (unsigned note.id)) ++ (member_tokens (codes "kind") (string (kind_name note.kind)) ++ tokens))))
    (event_then (shown note.kind note.event) last))
