-- What the calls do that tell whether anything listens, and above which level nothing does.
use Rattle.std.specs.Prelude.{◌≡◌, ℕ, ◌+◌, ◌<◌, ◌≤◌, true, List, slice_get, Option, Some, None, IsSomeAnd}
use Rattle.std.specs.Str.{IsUtf8}
use Rattle.span_id.specs.declared.fault.Fault.TheVariants.{Memory}
use Rattle.span_id.specs.declared.level.Level.{Level}
use Rattle.span_id.specs.Level.{verbosity}
use Rattle.span_id.specs.Meta.{PlainMeta}
use Rattle.span_core.specs.Step.{is_wanted_meta}
use Rattle.span_core.specs.Wanted.{some_rule_admits, IsMaxLevel}
use Rattle.span_core.specs.Core.{CoreView}
use Rattle.span_border.specs.declared.status.Status.{Status}
use Rattle.span_border.specs.declared.status.Status.TheVariants.{Done, Refused, BadData, NoSuchCallsite}
use Rattle.span_border.specs.Numbers.{flag}
use Rattle.span_ffi.specs.Data.{said_level}

-- the level is there, and the bytes are a text
abbrev pub IsAsked : ℕ → List ℕ → Type 0
IsAsked level target = (level ≤ 4) × IsUtf8 target

-- 1 is told where some layer's rule admits the target at the level, else 0
abbrev pub AnswersWanted : ℕ → List ℕ → ℕ → CoreView → Status → CoreView → Type 0
AnswersWanted level target wanted old Done new =
    IsAsked level target × (wanted ≡ flag (some_rule_admits old.rules target (said_level level))) × (new ≡ old)
AnswersWanted level target wanted old BadData new = (IsAsked level target → ⊥) × (new ≡ old)
AnswersWanted level target wanted old (Refused Memory) new = IsAsked level target × (new ≡ old)
AnswersWanted level target wanted old _ new = ⊥

-- the same of the target and the level of a callsite
abbrev pub AnswersWantedAt : ℕ → ℕ → List PlainMeta → CoreView → Status → CoreView → Type 0
AnswersWantedAt callsite wanted callsites old Done new =
    IsSomeAnd (slice_get callsites callsite) (λ meta. wanted ≡ flag (some_rule_admits old.rules meta.target meta.level))
    × (new ≡ old)
AnswersWantedAt callsite wanted callsites old NoSuchCallsite new = (slice_get callsites callsite ≡ None) × (new ≡ old)
AnswersWantedAt callsite wanted callsites old _ new = ⊥

-- how many levels there are from ERROR up to this one, and 0 where there is none
abbrev pub levels_up_to : Option Level → ℕ
levels_up_to None = 0
levels_up_to (Some level) = verbosity level + 1

-- It is told how many levels there are from ERROR up to the one above which nothing is wanted (`IsMaxLevel`). A span or
-- an event that is wanted has one of these.
abbrev pub AnswersLevels : ℕ → CoreView → Status → CoreView → Type 0
AnswersLevels levels old Done new =
    ((most : Option Level) × IsMaxLevel old.rules most × (levels ≡ levels_up_to most))
    × ((meta : PlainMeta) → is_wanted_meta old.rules meta ≡ true → verbosity meta.level < levels) × (new ≡ old)
AnswersLevels levels old _ new = ⊥
