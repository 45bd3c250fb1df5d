-- `into_parts` reads the pointer: null where nothing is held, and else the parts own the handle's box.
use Rattle.std.proofs.Common.{◌≡◌, List, [], ◌∷◌, ◌++◌, refl, sym, ap, ◌∙◌, subst, lit<}
use mir.Syntax.{Fn, Args, a_type}
use mir.Val.{Val, vptr, vnull, vcons, vnil}
use mir.MapTy.{inst_fn}
use base.Logic.{SProp, ent, emp, id⊢}
use prog.Wp.{WpFn}
use types.Kit.{‵, raw, ◌⊛◌, given, at_ret, ◌$◌, ◌∵◌, !, qed, by, move, keep, split, fsplit, fjoin, suffices, use0, use1, learn}
use types.Run.{stop, fld, lit, of_opd, bin, no_more, and_then, first, branches, exec, returns, enter}
use types.ByLocal.{alloc_all, pass_all, free_all, look_at, get, get_in, sets, sets_last, env}
use types.Part.{agg, sub, whole}
use types.Match.{live}
use contract.Monad.{fact, fact_i}
use contract.Running.{tables}
use denote.RattleType.{RattleType, owns}
use denote.Param.{layouts}
use denote.Signature.{types_at, type_at}
use denote.RawPtr.{Ptr, block_ptr, null_ptr, ptr_val, Testable, tests_null}
use denote.Steps.{nothing}
use denote.Triple.Entry.{alive}
use denote.Triple.Walked.{Stays, stay_dropped, walk_of, Goes-dropped}
use Rattle.std.specs.Prelude.{Some, None}
use Rattle.core.proofs.alloc.Calls.{token}
use Rattle.core.proofs.alloc.Shapes.{after}
use Rattle.core.proofs.option.Made.{Some-of, none_of}
use Rattle.std.proofs.raw_atomic.Walks.{proved_at, leaves}
use Rattle.std_alloc.specs.Box.Ownership.{box_owns}
use Rattle.std_alloc.proofs.BoxSteps.Form.{Bx, D, R, box_typed}
use Rattle.std_alloc.proofs.BoxSteps.Steps.{box_in}
use Rattle.std_alloc.proofs.ResultValues.{and_tt}
use Rattle.span_border.proofs.Words.{pair, pair_good, ptr_good}
use Rattle.span_border.proofs.HandleBox.{E, FromHandle, PartsRow, either, handle_out, tested}
use Rattle.span_border.specs.contracts.handle.Handle.into_parts.{ended, clauses}
use Rattle.span_border.specs.contracts.handle.Handle.into_parts.Key.{name as #self}
use Rattle.span_border.proofs.handle.Handle.into_parts.Statement.{statement}
use Rattle.span_border.proofs.handle.Handle.into_parts.Code as code

pub into_parts_spec : {M : Type 1} → statement M
into_parts_spec 𝓤 𝓛 𝓜 𝓡 wired T L =
    let H = 𝓛.H in let 𝓣 = tables 𝓤 H 𝓜 𝓡 𝓡.env in let En = ended T in let c = clauses T 𝓛 𝓜.mem 𝓡.returns in
    let at : Args = layouts (a_type ∷ []) (T, tt) in let fn : Fn = inst_fn at code.function in let B : Bx = E T L in
    let hs : Stays En.signature.params En.kept = (stay_dropped (FromHandle T) En.kept.0, tt) in
    proved_at 𝓛 En hs c 𝓜 𝓡 (Goes-dropped 𝓛 1 (FromHandle T) En.kept.0 (λ κs x f. refl), tt) (#self at) fn (code.unfolded 𝓤 H 𝓜 𝓡 wired (T, tt)) (λ z are.
    let Post : Val → SProp 𝓤 = (walk_of 𝓛 En hs c).post z in
    let Run : List Val → SProp 𝓤 = λ ws. WpFn 𝓤 H 𝓣.C 𝓣.Λ fn ws Post in
    let d = z.0.3.0 in let Out : RattleType = type_at En.signature.result z.0.0 in
    qed 𝓛 ((raw (alive 𝓛 En.signature z.0.0 z.0.1) ⊛ ‵ (owns (types_at En.signature.params z.0.0) z.0.3 z.0.4)) ∷ raw ((c z.0.0 z.0.3).requires z.1) ∷ []) ∵
    split ! $ move ! (1 ∷ []) $ fsplit ! $ handle_out T L ! d z.0.4.0 (λ hv at_words fits.
    either T L ! d.alloc d.at d.held
    -- [the handle's allocator; true; alive; nothing]
    (λ null none.
    let w : Val = pair vnull hv in
    let words : z.0.4.0 ≡ w ∷ [] = at_words ∙ ap (λ (p : Ptr). pair (ptr_val p) hv ∷ []) null in
    suffices ! (Run (w ∷ [])) (subst (λ (us : List Val). ent 𝓤 (Run (w ∷ [])) (Run us)) (sym (λ i. words i ++ [])) (id⊢ 𝓤 (Run (w ∷ [])))) $
    enter ! 𝓣.C 𝓣.Λ fn (w ∷ []) Post $
    alloc_all ! (λ l. pass_all ! refl ((pair_good null_ptr _ fits.0, ((ptr_good null_ptr).1, (fits.1, tt))), tt) $
    sets ! (of_opd ! (get_in ! (fld ! refl (stop !)) (sub ! 0 refl (whole !)))) refl (ptr_good null_ptr) $
    sets ! (of_opd ! (get_in ! (fld ! refl (stop !)) (sub ! 1 refl (whole !)))) refl fits $
    sets ! (bin ! (get ! refl) (lit ! tt) tt) refl (tt, tt) $
    first ! $ branches ! (get ! refl)
    (λ yes_null.
    sets_last ! (agg ! (and_then ! (lit ! tt) (no_more !))) refl (tt, (record { fits = lit< tt }, tt)) $
    exec ! 𝓣.C 𝓣.Λ (env fn.locals l) (after 4 fn.body) (at_ret _ Post) $
    sets ! (of_opd ! (get ! refl)) refl (tt, (record { fits = lit< tt }, tt)) $
    use0 𝓛 (raw (fact 𝓤 (None ≡ d.held))) (fact_i 𝓤 (None ≡ d.held) (emp 𝓤) (sym none)) $
    use0 𝓛 (‵ (Out.own_val None (live 0 vnil ∷ []))) (none_of 𝓛 (PartsRow T)) $
    nothing ! $ nothing ! $ fjoin ! $
    -- [what is left of the parameter; the result; the fact; the allocator; true; alive; nothing]
    returns ! (look_at ! 0 refl) $ free_all ! refl $ keep ! (5 ∷ 0 ∷ 1 ∷ 2 ∷ []) $
    by ! (leaves 𝓛 En hs c z (live 0 vnil) None (tt, tt) (tt, tt)))
    (λ wrong. absurd wrong)))
    -- [the box; the handle's allocator; true; alive; nothing]
    (λ b o x at_b full.
    let w : Val = pair (vptr b o) hv in
    let words : z.0.4.0 ≡ w ∷ [] = at_words ∙ ap (λ (p : Ptr). pair (ptr_val p) hv ∷ []) at_b in
    let v : D B = record { ptr = block_ptr b o; alloc = d.alloc; value = x } in
    let made : (PartsRow T).Denot = record { at = block_ptr b o; alloc = d.alloc; value = x } in
    let typed = box_typed B hv b o fits in let some : Val = live 1 (vcons w vnil) in
    let boxed = box_owns (token B.al d.alloc) (R B) (block_ptr b o) x in
    use1 𝓛 (given (Testable (block_ptr b o)) (‵ boxed)) (tested T L 𝓛 d.alloc (block_ptr b o) x) $ learn ! (λ t.
    suffices ! (Run (w ∷ [])) (subst (λ (us : List Val). ent 𝓤 (Run (w ∷ [])) (Run us)) (sym (λ i. words i ++ [])) (id⊢ 𝓤 (Run (w ∷ [])))) $
    enter ! 𝓣.C 𝓣.Λ fn (w ∷ []) Post $
    alloc_all ! (λ l. pass_all ! refl (typed, tt) $
    sets ! (of_opd ! (get_in ! (fld ! refl (stop !)) (sub ! 0 refl (whole !)))) refl (tt, tt) $
    sets ! (of_opd ! (get_in ! (fld ! refl (stop !)) (sub ! 1 refl (whole !)))) refl fits $
    sets ! (bin ! (get ! refl) (lit ! tt) (tests_null (block_ptr b o) t)) refl (tt, tt) $
    first ! $ branches ! (get ! refl) (λ wrong. absurd wrong) (λ not_null.
    sets ! (agg ! (and_then ! (get ! refl) (and_then ! (get ! refl) (no_more !)))) refl typed $
    sets_last ! (agg ! (and_then ! (lit ! tt) (and_then ! (get ! refl) (no_more !)))) refl (and_tt _ typed.0, (record { fits = lit< tt }, (typed.1, tt))) $
    exec ! 𝓣.C 𝓣.Λ (env fn.locals l) (after 4 fn.body) (at_ret _ Post) $
    sets ! (of_opd ! (get ! refl)) refl (and_tt _ typed.0, (record { fits = lit< tt }, (typed.1, tt))) $
    fsplit ! $ box_in B ! v b o x refl refl $ use1 𝓛 (‵ ((PartsRow T).own_val made (w ∷ []))) (id⊢ 𝓤 _) $
    use1 𝓛 (‵ (Out.own_val (Some made) (some ∷ []))) (Some-of 𝓛 (PartsRow T) made w) $
    use0 𝓛 (raw (fact 𝓤 (Some x ≡ d.held))) (fact_i 𝓤 (Some x ≡ d.held) (emp 𝓤) (sym full)) $
    nothing ! $ nothing ! $ fjoin ! $
    -- [what is left of the parameter; the fact; the result; true; alive; nothing]
    returns ! (look_at ! 0 refl) $ free_all ! refl $ keep ! (4 ∷ 0 ∷ 2 ∷ 1 ∷ []) $
    by ! (leaves 𝓛 En hs c z some (Some made) (tt, tt) (tt, tt))))))))
