-- Worked cases of what is told of closed spans, of a worker's stack, of a span's layers, of the ring and of levels, and
-- of which span is followed.
use Rattle.std.proofs.Common.{◌≡◌, ℕ, ◌<◌, ◌≤◌, true, refl, sym, ap, List, [], ◌∷◌, get_or, codes, Option, Some, None, arith}
use Rattle.std.proofs.lemmas.Bool.{true≢false}
use Rattle.std.proofs.lemmas.List.Elements.{All-nil, All-cons}
use Rattle.span_forest.specs.Node.{Node}
use Rattle.span_forest.specs.Spans.{Spans}
use Rattle.std.specs.Fmt.{digits}
use Rattle.span_id.specs.declared.fault.Fault.TheVariants.{Unknown}
use Rattle.span_id.specs.declared.level.Level.{Level}
use Rattle.span_id.specs.declared.level.Level.TheVariants.{Error, Warn, Info, Debug, Trace}
use Rattle.span_id.specs.Level.{verbosity}
use Rattle.span_layers.specs.Rule.{is_admitted}
use Rattle.span_core.specs.Core.{CoreView, due, refuses}
use Rattle.span_core.specs.Step.{is_wanted_meta}
use Rattle.span_core.specs.Wanted.{IsMaxLevel}
use Rattle.span_border.specs.declared.status.Status.TheVariants.{Done, Refused, BadData, NoSuchWorker}
use Rattle.span_ffi.specs.Closing.{WritesFirst, AnswersClosed}
use Rattle.span_ffi.specs.Data.{said_fields}
use Rattle.span_ffi.specs.Follows.{follows_field, FollowsFrom}
use Rattle.span_ffi.specs.Questions.{SeesEntry, AnswersLayers, AnswersTimesFull}
use Rattle.span_ffi.specs.Wants.{levels_up_to, AnswersLevels}

-- ---- buffers

-- three spans closed, and there is room for two ids
two_of_three : WritesFirst {X = ℕ} (5 ∷ 6 ∷ 7 ∷ []) (91 ∷ 92 ∷ []) (5 ∷ 6 ∷ []) 3
two_of_three = (refl, refl)

-- there is room for one more: what stood there stays
all_of_two : WritesFirst {X = ℕ} (5 ∷ 6 ∷ []) (91 ∷ 92 ∷ 93 ∷ []) (5 ∷ 6 ∷ 93 ∷ []) 2
all_of_two = (refl, refl)

none_closed : WritesFirst {X = ℕ} [] (91 ∷ []) (91 ∷ []) 0
none_closed = (refl, refl)

no_room : WritesFirst {X = ℕ} (5 ∷ 6 ∷ []) [] [] 2
no_room = (refl, refl)

-- the last ones aren't the first
last_two : WritesFirst {X = ℕ} (5 ∷ 6 ∷ 7 ∷ []) (91 ∷ 92 ∷ []) (6 ∷ 7 ∷ []) 3 → ⊥
last_two writes = let one = ap (λ (ids : List ℕ). get_or ids 0 0) writes.0 in omega (arith, one)

-- it isn't told how many were written
only_written : WritesFirst {X = ℕ} (5 ∷ 6 ∷ 7 ∷ []) (91 ∷ 92 ∷ []) (5 ∷ 6 ∷ []) 2 → ⊥
only_written writes = let len = writes.1 in omega (arith, len)

-- ---- a registry with two workers

-- the root 5, which is open; the first worker entered 5, then 7, then 5 again
abbrev root : Node
root = record { name = []; target = []; level = Info; fields = []; bits = 0; parent = None; handles = 1; entries = 1 }

abbrev core : Spans → CoreView
core spans = record {
  limits = record { slots = 9; last_generation = 9; max_count = 9; workers = 2; ring = 1 };
  rules = [];
  world = record { spans = spans; stacks = (5 ∷ 7 ∷ 5 ∷ []) ∷ [] ∷ [] };
  sent = [];
  times_full = 3;
  forms = [];
  name = None;
}

-- 7 closed with its parent 6, and neither is found afterwards
closed_both : AnswersClosed 7 (7 ∷ 6 ∷ []) (91 ∷ []) (7 ∷ []) 2 (core ((5, root) ∷ []))
closed_both = ((refl, refl), refl)

-- 5 stayed open
stayed_open : AnswersClosed 5 [] (91 ∷ []) (91 ∷ []) 0 (core ((5, root) ∷ []))
stayed_open = ((refl, refl), refl)

-- a span that is found hasn't closed
still_found : AnswersClosed 5 (5 ∷ []) (91 ∷ []) (5 ∷ []) 1 (core ((5, root) ∷ [])) → ⊥
still_found tells = true≢false tells.1

lowest : SeesEntry 0 0 5 3 (core []) Done (core [])
lowest = (omega arith, refl, refl, refl)

-- a span that was entered again stands there again
topmost : SeesEntry 0 2 5 3 (core []) Done (core [])
topmost = (omega arith, refl, refl, refl)

no_such_place : SeesEntry 0 3 0 3 (core []) Done (core [])
no_such_place = (omega arith, refl, refl, refl)

empty_stack : SeesEntry 1 0 0 0 (core []) Done (core [])
empty_stack = (omega arith, refl, refl, refl)

another_place : SeesEntry 0 1 5 3 (core []) Done (core []) → ⊥
another_place sees = let id = sees.1 in omega (arith, id)

without_duplicates : SeesEntry 0 0 5 2 (core []) Done (core []) → ⊥
without_duplicates sees = let depth = sees.2 in omega (arith, depth)

no_worker : SeesEntry 2 0 0 0 (core []) NoSuchWorker (core [])
no_worker = (omega arith, refl)

worker_there : SeesEntry 1 0 0 0 (core []) NoSuchWorker (core []) → ⊥
worker_there sees = let lacks = sees.0 in omega (arith, lacks)

-- ---- layers

-- the second has no rule, and the third lets warnings in alone
abbrev four_layers : CoreView
four_layers = record (core ((5, root) ∷ [])) {
  rules =
      record { pairs = ([], Info) ∷ []; spans = 0 }
      ∷ record { pairs = []; spans = 15 }
      ∷ record { pairs = ([], Warn) ∷ []; spans = 0 }
      ∷ record { pairs = ([], Trace) ∷ []; spans = 0 }
      ∷ [];
}

first_and_fourth : AnswersLayers 5 9 four_layers Done four_layers
unfolding is_admitted
first_and_fourth = (refl, refl)

all_that_have_a_rule : AnswersLayers 5 13 four_layers Done four_layers → ⊥
unfolding is_admitted
all_that_have_a_rule tells = let bits = tells.0 in omega (arith, bits)

without_layers : AnswersLayers 5 0 (core ((5, root) ∷ [])) Done (core ((5, root) ∷ []))
without_layers = (refl, refl)

layers_of_no_span : AnswersLayers 6 7 four_layers (Refused Unknown) four_layers
layers_of_no_span = (refl, refl)

three_times : AnswersTimesFull 3 (core []) Done (core [])
three_times = (refl, refl)

another_number : AnswersTimesFull 2 (core []) Done (core []) → ⊥
another_number tells = let times = tells.0 in omega (arith, times)

refused : AnswersTimesFull 3 (core []) NoSuchWorker (core []) → ⊥
refused tells = tells

-- ---- levels

up_to_trace : (level : Level) → verbosity level < 5
up_to_trace Error = omega arith
up_to_trace Warn = omega arith
up_to_trace Info = omega arith
up_to_trace Debug = omega arith
up_to_trace Trace = omega arith

-- without a layer each level is wanted
all_levels : AnswersLevels 5 (core []) Done (core [])
all_levels = ((Some Trace, refl, refl), λ meta wanted. up_to_trace meta.level, refl)

without_trace : AnswersLevels 4 (core []) Done (core []) → ⊥
without_trace tells = let below : 4 < 4 = tells.1 (record { name = []; target = []; level = Trace }) refl in absurd (omega arith)

more_than_there_are : AnswersLevels 6 (core []) Done (core []) → ⊥
more_than_there_are tells =
    let most : levels_up_to tells.0.0 ≡ 5 = ap levels_up_to tells.0.1 in
    let six : 6 ≡ levels_up_to tells.0.0 = tells.0.2 in
    absurd (omega (arith, most, six))

-- one layer, which has no rule
abbrev deaf : CoreView
deaf = record (core []) { rules = record { pairs = []; spans = 15 } ∷ [] }

no_level : AnswersLevels 0 deaf Done deaf
unfolding is_admitted
no_level = ((None, refl, refl), λ meta wanted. absurd (true≢false (sym wanted)), refl)

errors_for_nobody : AnswersLevels 1 deaf Done deaf → ⊥
errors_for_nobody tells = by_most tells.0.0 tells.0.1 tells.0.2
  where
    by_most : (most : Option Level) → IsMaxLevel deaf.rules most → 1 ≡ levels_up_to most → ⊥
    by_most None is levels = absurd (omega (arith, levels))
    by_most (Some level) is levels = let place = is.0.1 in absurd (omega arith)

-- one layer, whose rule names a level between
abbrev curious : CoreView
curious = record (core []) { rules = record { pairs = ([], Info) ∷ []; spans = 15 } ∷ [] }

abbrev is_up_to_info : Level → Type 0
is_up_to_info level = verbosity level ≤ verbosity Info

three_levels : AnswersLevels 3 curious Done curious
unfolding is_admitted
three_levels = (
  (Some Info, ((0, omega arith, refl), All-cons is_up_to_info Info [] (omega arith) (All-nil is_up_to_info)), refl),
  λ meta wanted. below meta.name meta.target meta.level wanted,
  refl,
)
  where
    below : (name target : List ℕ) (level : Level) → is_wanted_meta curious.rules (record { name = name; target = target; level = level }) ≡ true → verbosity level < 3
    below name target Error wanted = omega arith
    below name target Warn wanted = omega arith
    below name target Info wanted = omega arith
    below name target Debug wanted = absurd (true≢false (sym wanted))
    below name target Trace wanted = absurd (true≢false (sym wanted))

-- ---- which span is followed

field_of_seven : follows_field 7 ≡ (codes "follows_from", codes "7")
unfolding digits
field_of_seven = refl

field_of_zero : follows_field 0 ≡ (codes "follows_from", codes "0")
unfolding digits
field_of_zero = refl

-- it is what these data say, of a key of 12 bytes and a value of 2
data_of_a_record : said_fields (record { key_len = 12; value_len = 2 } ∷ []) (codes "follows_from42") ≡ follows_field 42 ∷ []
unfolding digits
data_of_a_record = refl

-- the span that follows isn't open, and the one that is followed is
follower_unknown : FollowsFrom 0 9 5 (core ((5, root) ∷ [])) (Refused Unknown) (core ((5, root) ∷ []))
follower_unknown = (tt, (omega arith, record { why = refl; unchanged = refl }))

never_unknown : due ≡ refuses Unknown → ⊥
never_unknown is = cc

-- the one that is followed may have closed
followed_unknown : FollowsFrom 0 5 7 (core ((5, root) ∷ [])) (Refused Unknown) (core ((5, root) ∷ [])) → ⊥
followed_unknown answers = never_unknown answers.1.1.why

-- a number can't be bad
no_bad_number : FollowsFrom 0 9 7 (core []) BadData (core []) → ⊥
no_bad_number answers = answers.1 tt

follower_of_no_worker : FollowsFrom 2 5 7 (core []) NoSuchWorker (core [])
follower_of_no_worker = (omega arith, refl)
