-- What a call does to the number of handles that all spans have.
use Rattle.std.specs.Prelude.{ℕ}
use Rattle.span_outlet.specs.Request.{Request, new_span, clone_span, try_close}

-- a new span comes with one handle, and a clone is one more
abbrev pub handles_given_out : Request → ℕ
handles_given_out (new_span worker meta fields parent) = 1
handles_given_out (clone_span worker id) = 1
handles_given_out _ = 0

-- only `try_close` gives one back
abbrev pub handles_given_back : Request → ℕ
handles_given_back (try_close worker id) = 1
handles_given_back _ = 0
