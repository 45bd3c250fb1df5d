-- Worked cases of the definitions, computed from them alone.
use Rattle.std.proofs.Common.{◌≡◌, refl, ap, List, [], ◌∷◌, length, arith}
use Rattle.std.specs.Prelude.{slice_get, None}
use Rattle.span_id.specs.declared.level.Level.TheVariants.{Error, Trace}
use Rattle.span_id.specs.Meta.{PlainMeta}
use Rattle.span_core.specs.Core.{CoreView}
use Rattle.span_outlet.specs.declared.batch.ParentOf.TheVariants.{Root, Current, Of}
use Rattle.span_ffi.specs.declared.data.SpanMeta.{SpanMeta}
use Rattle.span_ffi.specs.declared.data.SpanField.{SpanField}
use Rattle.span_border.specs.declared.status.Status.{Status}
use Rattle.span_border.specs.declared.status.Status.TheVariants.{Done, NoSuchCallsite}
use Rattle.span_ffi.specs.Data.{said_level, said_parent, said_meta, said_fields, behind_meta}
use Rattle.span_ffi.specs.Registry.{RegistryView, OnCore, OnCallsites}
use Rattle.span_ffi.specs.Calls.{HasWorker}
use Rattle.span_ffi.specs.Callsites.{AtCallsite}

-- levels and parents
error : said_level 0 ≡ Error
error = refl

trace : said_level 4 ≡ Trace
trace = refl

root : said_parent 0 7 ≡ Root
root = refl

current : said_parent 1 7 ≡ Current
current = refl

under : said_parent 2 7 ≡ Of 7
under = refl

-- the bytes 1 to 6: a name of 2, a target of 1, and two fields, the second with an empty value
abbrev meta : SpanMeta
meta = record { level = 2; name_len = 2; target_len = 1 }

abbrev fields : List SpanField
fields = (record { key_len = 1; value_len = 1 }) ∷ (record { key_len = 1; value_len = 0 }) ∷ []

named : (said_meta meta (1 ∷ 2 ∷ 3 ∷ 4 ∷ 5 ∷ 6 ∷ [])).name ≡ 1 ∷ 2 ∷ []
named = refl

targeted : (said_meta meta (1 ∷ 2 ∷ 3 ∷ 4 ∷ 5 ∷ 6 ∷ [])).target ≡ 3 ∷ []
targeted = refl

keyed : said_fields fields (behind_meta meta (1 ∷ 2 ∷ 3 ∷ 4 ∷ 5 ∷ 6 ∷ []))
    ≡ (4 ∷ [], 5 ∷ []) ∷ (6 ∷ [], []) ∷ []
keyed = refl

-- two callsites
abbrev sites : List PlainMeta
sites =
    (record { name = 97 ∷ []; target = []; level = Error }) ∷ (record { name = 98 ∷ 98 ∷ []; target = []; level = Trace }) ∷ []

-- a call that is done with a meta whose name has two bytes
abbrev LikesTwo : PlainMeta → CoreView → Status → CoreView → Type 0
LikesTwo site old Done new = length site.name ≡ 2
LikesTwo site old _ new = ⊥

second : (core : CoreView) → AtCallsite 0 (slice_get sites 1) LikesTwo core Done core
second core = refl

first : (core : CoreView) → AtCallsite 0 (slice_get sites 0) LikesTwo core Done core → ⊥
first core likes = omega (arith, likes)

beyond_the_last : (core : CoreView) → HasWorker core 0 → AtCallsite 0 (slice_get sites 2) LikesTwo core NoSuchCallsite core
beyond_the_last core has = (has, refl, refl)

done_beyond : (core : CoreView) → AtCallsite 0 (slice_get sites 2) LikesTwo core Done core → ⊥
done_beyond core likes = likes

-- a call on the core leaves the callsites, and one on the callsites the core
abbrev Stays : CoreView → Status → CoreView → Type 0
Stays old status new = new ≡ old

abbrev Empties : List PlainMeta → Status → List PlainMeta → Type 0
Empties old status new = new ≡ []

abbrev with : CoreView → List PlainMeta → RegistryView
with core callsites = record { core = core; callsites = callsites; headings = None }

on_core : (core : CoreView) → OnCore Stays (with core sites) Done (with core sites)
on_core core = (refl, refl)

drops_callsites : (core : CoreView) → OnCore Stays (with core sites) Done (with core []) → ⊥
drops_callsites core does = let left = ap length does.1 in omega (arith, left)

on_callsites : (core : CoreView) → OnCallsites Empties (with core sites) Done (with core [])
on_callsites core = (refl, refl, refl)
