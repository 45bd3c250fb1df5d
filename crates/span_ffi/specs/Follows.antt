-- What the call does that tells that a span follows from another.
use Rattle.std.specs.Prelude.{ℕ, [], ◌∷◌, codes, decimal}
use Rattle.span_id.specs.Meta.{KeyValue}
use Rattle.span_outlet.specs.Request.{record_fields, recorded}
use Rattle.span_core.specs.Core.{CoreView}
use Rattle.span_border.specs.declared.status.Status.{Status}
use Rattle.span_ffi.specs.Calls.{AnswersData}

-- the field that tells which span is followed, by its number
abbrev pub follows_field : ℕ → KeyValue
follows_field followed = (codes "follows_from", decimal followed)

-- what `Records` says of this field alone; any number makes one
abbrev pub FollowsFrom : ℕ → ℕ → ℕ → CoreView → Status → CoreView → Type 0
FollowsFrom worker id followed =
    AnswersData worker (Unit {0}) (record_fields worker id (follows_field followed ∷ [])) recorded
