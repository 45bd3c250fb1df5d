-- The statuses with which the program ends after a fault.
use Rattle.std.specs.Prelude.{ℕ}

-- the script is at fault
abbrev pub script_status : ℕ
script_status = 1

-- memory was refused, a device failed, or a storm was refused or held
abbrev pub failed_status : ℕ
failed_status = 3
