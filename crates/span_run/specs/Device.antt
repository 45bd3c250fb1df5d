-- What went through a writer whose bytes are known, and which of its calls failed.
use Rattle.std.specs.Prelude.{◌≡◌, ℕ, ◌++◌, List, Option, Result, MatchResult}
use Rattle.std.specs.Io.KnownBytes.{Appends}
use Rattle.span_run.specs.Counted.{next_count}

-- the writer took a front of the text and nothing else
pub record AppendsFront (old new : Option (List ℕ)) (text : List ℕ) : Type 0 where
  pub front : List ℕ
  pub rest : List ℕ
  pub whole : text ≡ front ++ rest
  pub taken : Appends old new front

-- the numbers of a device's failed calls before and after: where the result is an error one call has failed, else none
abbrev pub CountsFailure : {T E : Type 0} → ℕ → ℕ → Result T E → Type 0
CountsFailure failed failed' result = MatchResult result (λ _. failed' ≡ failed) (λ _. failed' ≡ next_count failed)
