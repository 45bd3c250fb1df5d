-- `of` writes a struct of no bytes. The value in its ghost field is what the reference shows at the call.
use Rattle.std.proofs.Common.{◌≡◌, [], ◌∷◌, refl}
use Rattle.std.proofs.raw_atomic.Walks.{proved, leaves}
use mir.Syntax.{Fn, Args, a_type, named}
use mir.Val.{Val, vstruct, vcons, vnil}
use mir.MapTy.{inst_fn}
use base.Fml.{Fml}
use base.Logic.{emp}
use contract.Monad.{fact, fact_i}
use types.Kit.{‵, raw, ◌$◌, ◌∵◌, !, qed, by, move, keep, split, fjoin, use0, ◌⊛◌}
use types.Part.{agg}
use types.Run.{enter, returns, and_then, no_more}
use types.ByLocal.{alloc_all, pass_all, free_all, look_at, get, sets}
use denote.Builtin.{RefOf}
use denote.Exit.{yes}
use denote.Param.{param, layouts}
use denote.RattleType.{RattleType, owns}
use denote.Shadow.{Pure, shadow, pure_i}
use denote.Signature.{plain, types_at, Slot}
use denote.Ref.{shr_vals, shr_Tells}
use denote.Steps.{nothing}
use denote.Triple.Entry.{alive}
use denote.Triple.Walked.{Stays, stay_dropped, Goes-dropped}
use Rattle.span_known.specs.contracts.KnownValue as known
use Rattle.span_known.specs.contracts.KnownValue.of as f
use Rattle.span_known.specs.contracts.KnownValue.of.Key.{name as key}
use Rattle.span_known.proofs.KnownValue.of.Statement.{statement}
use Rattle.span_known.proofs.KnownValue.of.Code as code

-- what the machine stores: the marker, a struct of no fields, in a struct of one
abbrev marker : Val
marker = vstruct vnil

abbrev stored : Val
stored = vstruct (vcons marker vnil)

module _ (T : RattleType) where
  abbrev Item : RattleType
  Item = param 0 T

  abbrev Known : RattleType
  Known = known.the_row Item

  abbrev known_of : T.Denot → Known.Denot
  known_of x = record { marker = record {}; value = x }

  abbrev Owned : T.Denot → Fml
  Owned x = Known.own_val (known_of x) (stored ∷ [])

  -- it owns only facts, and they hold at any value
  only_facts : (x : T.Denot) → Pure (Owned x)
  only_facts x = ((λ fields. (tt, ((λ inside. (tt, tt)), tt))), tt)

  facts_hold : (x : T.Denot) → shadow (Owned x)
  facts_hold x = (((marker ∷ [], tt), (refl, ((tt, (refl, tt)), tt))), tt)

  abbrev passed : Slot 2
  passed = RefOf (0 ∷ []) tt (plain (λ _. Item)) (λ _. tt)

  abbrev stayed : Stays (f.ended T).signature.params (f.ended T).kept
  stayed = (stay_dropped passed yes, tt)

  abbrev layout_of : Args
  layout_of = layouts (a_type ∷ []) (T, tt)

  abbrev function : Fn
  function = inst_fn layout_of code.function

pub of_spec : {M : Type 1} → statement M
of_spec 𝓤 𝓛 𝓜 𝓡 wired T laws =
    let c = f.clauses T 𝓛 𝓜.mem 𝓡.returns in
    proved 𝓛 (f.ended T) (stayed T) c 𝓜 𝓡 (Goes-dropped 𝓛 2 (passed T) yes (λ κs x w. refl), tt)
    (key (layout_of T)) (function T) (code.unfolded 𝓤 𝓛.H 𝓜 𝓡 wired (T, tt))
    (λ κs. (shr_vals, tt)) (λ κs. (shr_Tells (named 0) κs.0 (Item T), tt)) (λ κs qs bounds a none are.
    let x : T.Denot = a.0.now in
    qed 𝓛 ((raw (alive 𝓛 (f.signature T) κs qs) ⊛ ‵ (owns (types_at (f.signature T).params κs) a (shr_vals a.0, tt))) ∷ raw ((c κs a).requires none) ∷ []) ∵
    split ! $ keep ! (0 ∷ []) $
    enter ! _ _ _ _ _ $ alloc_all ! (λ l. pass_all ! refl ((tt, tt), tt) $
    sets ! (agg ! (no_more !)) refl (tt, tt) $
    sets ! (agg ! (and_then ! (get ! refl) (no_more !))) refl (tt, (tt, tt)) $
    returns ! (look_at ! 0 refl) $ free_all ! refl $
    -- [the tokens]
    use0 𝓛 (raw (fact 𝓤 (x ≡ x))) (fact_i 𝓤 (x ≡ x) (emp 𝓤) refl) $
    pure_i ! (Owned T x) (only_facts T x) (facts_hold T x) $
    nothing ! $ nothing ! $ fjoin ! $ move ! (3 ∷ 0 ∷ 1 ∷ 2 ∷ []) $
    by ! (leaves 𝓛 (f.ended T) (stayed T) c ((κs, qs, bounds, a, (shr_vals a.0, tt)), none) stored (known_of T x) (tt, tt) (tt, tt))))
