-- What contracts see of a share.
use Rattle.std.specs.Prelude.{◌≡◌, ℕ, ◌+◌, ◌++◌, List}
use Rattle.span_history.specs.Own.{FrontView}

-- how many handles were given up in it, how many calls were accepted of it, its parts of the two ledgers, and what each
-- of its workers had seen of the registry's history
pub record ShareView : Type 0 where
  pub units : ℕ
  pub accepted : ℕ
  pub handle_parts : ℕ
  pub call_parts : ℕ
  pub seen : List FrontView

-- two shares together
abbrev pub joined : ShareView → ShareView → ShareView
joined one other = record {
  units = one.units + other.units;
  accepted = one.accepted + other.accepted;
  handle_parts = one.handle_parts + other.handle_parts;
  call_parts = one.call_parts + other.call_parts;
  seen = one.seen ++ other.seen;
}

-- the whole share: it has all parts of both ledgers, which are cut into so many
pub record IsWhole (handle_parts call_parts : ℕ) (share : ShareView) : Type 0 where
  pub handles : share.handle_parts ≡ handle_parts
  pub calls : share.call_parts ≡ call_parts
