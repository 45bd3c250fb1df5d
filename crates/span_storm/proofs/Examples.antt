-- Worked cases of the definitions, computed from them alone.
use Rattle.std.proofs.Common.{◌≡◌, true, false, [], ◌∷◌, refl, codes}
use Rattle.std.specs.Fmt.{digits}
use Rattle.span_id.specs.declared.level.Level.TheVariants.{Error, Info}
use Rattle.span_layers.specs.Rule.{is_admitted}
use Rattle.span_storm.specs.Show.{number_line}
use Rattle.std.specs.Prelude.{None}
use Rattle.span_outlet.specs.Request.{new_span, try_close}
use Rattle.span_storm.specs.Storm.{AreOfRounds, IsCallOfRound, IsParty, app_meta, wants_jobs}
use Rattle.span_storm.specs.Storm.AreOfRounds.{none}
use Rattle.span_storm.specs.Storm.IsParty.{is_drain}
use Rattle.span_storm.specs.Storm.IsPlaceOfClose.{of_step}
use Rattle.span_storm.specs.Storm.IsSpanOfRound.{job}

-- ---- layers

no_layers : wants_jobs [] ≡ true
no_layers = refl

errors_alone : wants_jobs (record { pairs = (codes "app", Error) ∷ []; spans = 15 } ∷ []) ≡ false
unfolding is_admitted
errors_alone = refl

one_of_two_is_enough : wants_jobs (record { pairs = []; spans = 15 } ∷ record { pairs = (codes "app", Info) ∷ []; spans = 0 } ∷ []) ≡ true
unfolding is_admitted
one_of_two_is_enough = refl

-- ---- rounds

nobody_has_begun : AreOfRounds 2 []
nobody_has_begun = none

first_comes_a_job : IsCallOfRound 2 0 (new_span 2 (app_meta (codes "job")) [] None)
first_comes_a_job = (refl, refl, job refl refl refl)

the_step_is_given_back_before_the_job_is_left : IsCallOfRound 2 5 (try_close 2 16777216)
the_step_is_given_back_before_the_job_is_left = (refl, of_step refl)

the_drain_comes_after_the_workers : IsParty 2 400 2 0
the_drain_comes_after_the_workers = is_drain refl refl

-- ---- numbers

a_line : number_line (codes "calls") 54 ≡ codes "calls 54\n"
unfolding digits
a_line = refl
