-- The more verbose of two levels, for the functions inside this crate: no public clause cites it.
use Rattle.std.specs.Prelude.{cond, nat_lt, Option, Some, None}
use Rattle.span_id.specs.declared.level.Level.{Level}
use Rattle.span_id.specs.Level.{verbosity}

-- the more verbose of two levels, and the one that there is where there is one
abbrev pub more_verbose : Option Level → Option Level → Option Level
more_verbose None second = second
more_verbose (Some one) None = Some one
more_verbose (Some one) (Some other) = cond (nat_lt (verbosity one) (verbosity other)) (Some other) (Some one)
