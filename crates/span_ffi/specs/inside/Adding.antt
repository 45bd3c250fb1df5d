-- How a meta that was read becomes a callsite's: no public clause cites it.
use Rattle.std.specs.Prelude.{◌≡◌, ℕ, ◌≤◌, ◌^◌, true, false, List, [], ◌∷◌, ◌++◌, length}
use Rattle.span_id.specs.declared.fault.Fault.{Fault}
use Rattle.span_id.specs.declared.fault.Fault.TheVariants.{CountFull, BadName, Memory}
use Rattle.span_id.specs.Name.{is_name}
use Rattle.span_id.specs.Meta.{PlainMeta}
use Rattle.span_border.specs.declared.status.Status.{Status}
use Rattle.span_border.specs.declared.status.Status.TheVariants.{Done, Refused}

-- no span and no event may have the name, or else each number is taken
abbrev pub WhyNoNumber : PlainMeta → List PlainMeta → Fault → Type 0
WhyNoNumber meta metas BadName = is_name meta.name ≡ false
WhyNoNumber meta metas CountFull = (is_name meta.name ≡ true) × (2 ^ 32 ≤ length metas)
WhyNoNumber meta metas _ = ⊥

-- the meta is kept behind the others, or nothing changes
abbrev pub AddsMeta : PlainMeta → ℕ → List PlainMeta → Status → List PlainMeta → Type 0
AddsMeta meta number old Done new =
    (is_name meta.name ≡ true) × (number ≡ length old) × (new ≡ old ++ meta ∷ [])
AddsMeta meta number old (Refused Memory) new = new ≡ old
AddsMeta meta number old (Refused fault) new = WhyNoNumber meta old fault × (new ≡ old)
AddsMeta meta number old _ new = ⊥
