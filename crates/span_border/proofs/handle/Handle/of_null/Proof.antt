-- `of_null` puts null beside an allocator: nothing is held.
use Rattle.std.proofs.Common.{◌≡◌, List, [], ◌∷◌, ◌++◌, refl, sym, subst}
use mir.Syntax.{Fn, Args, a_type}
use mir.Val.{Val}
use mir.MapTy.{inst_fn}
use base.Logic.{SProp, ent, emp, id⊢}
use base.Fml.{ftrue}
use prog.Wp.{WpFn}
use types.Kit.{‵, raw, ◌⊛◌, ◌$◌, ◌∵◌, !, qed, by, move, keep, drop, split, fsplit, fjoin, fpack, feq_i, suffices, use0, use1}
use types.Run.{no_more, and_then, returns, enter}
use types.ByLocal.{alloc_all, pass_all, free_all, look_at, get, sets}
use types.Part.{agg}
use contract.Monad.{fact, fact_i}
use contract.BorrowLft.{◌⊑◌}
use contract.Running.{tables}
use denote.RattleType.{Valss, owns}
use denote.Param.{layouts}
use denote.RawPtr.{RawPtr, null_ptr, ptr_val}
use denote.Signature.{types_at}
use denote.Steps.{nothing, heard}
use denote.Struct.Struct.{within}
use denote.Struct.Owning.{shape}
use denote.Triple.Entry.{alive}
use denote.Triple.Walked.{Stays, stay_dropped, walk_of, Goes-dropped}
use Rattle.std.specs.Prelude.{None}
use Rattle.core.proofs.alloc.Calls.{handle_tells}
use Rattle.std.proofs.raw_atomic.Walks.{proved_at, leaves}
use Rattle.std_alloc.proofs.BoxSteps.Form.{Bx, P, owning}
use Rattle.span_border.proofs.Words.{pair, pair_good, ptr_good}
use Rattle.span_border.proofs.HandleBox.{E, HandleRow, FromPointer, FromAllocator}
use Rattle.span_border.specs.contracts.handle.Handle.of_null.{ended, clauses}
use Rattle.span_border.specs.contracts.handle.Handle.of_null.Key.{name as #self}
use Rattle.span_border.proofs.handle.Handle.of_null.Statement.{statement}
use Rattle.span_border.proofs.handle.Handle.of_null.Code as code

pub of_null_spec : {M : Type 1} → statement M
of_null_spec 𝓤 𝓛 𝓜 𝓡 wired T L =
    let H = 𝓛.H in let 𝓣 = tables 𝓤 H 𝓜 𝓡 𝓡.env in let En = ended T in let c = clauses T 𝓛 𝓜.mem 𝓡.returns in
    let at : Args = layouts (a_type ∷ []) (T, tt) in let fn : Fn = inst_fn at code.function in let B : Bx = E T L in
    let hs : Stays En.signature.params En.kept = (stay_dropped FromPointer En.kept.0, (stay_dropped FromAllocator En.kept.1.0, tt)) in
    proved_at 𝓛 En hs c 𝓜 𝓡 (Goes-dropped 𝓛 1 FromPointer En.kept.0 (λ κs x f. refl), (Goes-dropped 𝓛 1 FromAllocator En.kept.1.0 (λ κs x f. refl), tt)) (#self at) fn (code.unfolded 𝓤 H 𝓜 𝓡 wired (T, tt)) (λ z are.
    let Post : Val → SProp 𝓤 = (walk_of 𝓛 En hs c).post z in
    let Run : List Val → SProp 𝓤 = λ ws. WpFn 𝓤 H 𝓣.C 𝓣.Λ fn ws Post in
    let p = z.0.3.0 in let a = z.0.3.1.0 in
    let made : (HandleRow T).Denot = record { at = p; alloc = a; held = None } in
    qed 𝓛 ((raw (alive 𝓛 En.signature z.0.0 z.0.1) ⊛ ‵ (owns (types_at En.signature.params z.0.0) z.0.3 z.0.4)) ∷ raw (fact 𝓤 (z.0.0.0 ⊑ T.lives)) ∷ raw (fact 𝓤 (p ≡ null_ptr)) ∷ []) ∵
    move ! (2 ∷ []) $ heard ! (p ≡ null_ptr) (λ null.
    split ! $ move ! (1 ∷ []) $ fsplit ! $ drop ! $ fsplit ! $
    handle_tells B.al ! a z.0.4.1.0 (λ hv at_words fits.
    -- [the allocator; true; alive]
    move ! (1 ∷ []) $ drop ! $
    suffices ! (Run (ptr_val p ∷ hv ∷ [])) (subst (λ (us : List Val). ent 𝓤 (Run (ptr_val p ∷ hv ∷ [])) (Run us)) (sym (λ i. are.0 i ++ (at_words i ++ []))) (id⊢ 𝓤 (Run (ptr_val p ∷ hv ∷ [])))) $
    enter ! 𝓣.C 𝓣.Λ fn (ptr_val p ∷ hv ∷ []) Post $
    let w : Val = pair (ptr_val p) hv in
    alloc_all ! (λ l. pass_all ! refl (ptr_good p, (fits, tt)) $
    sets ! (agg ! (and_then ! (get ! refl) (and_then ! (get ! refl) (no_more !)))) refl (pair_good p _ fits.0, ((ptr_good p).1, (fits.1, tt))) $
    returns ! (look_at ! 0 refl) $ free_all ! refl $
    -- the two words, and that the pointer is null
    nothing ! $ fpack ! (p ≡ null_ptr) (λ _. ftrue) null $ move ! (1 ∷ []) $
    nothing ! $ move ! (1 ∷ 0 ∷ []) $ fjoin ! $ feq_i ! (List Val) (ptr_val p ∷ []) (ptr_val p ∷ []) refl $ fjoin ! $
    feq_i ! (List Val) (w ∷ []) (w ∷ []) refl $ fjoin ! $
    fpack ! (Valss (RawPtr ∷ P B ∷ [])) (within (shape (owning B)) (p, (a, tt)) (w ∷ [])) (ptr_val p ∷ [], (hv ∷ [], tt)) $
    fjoin ! $ use1 𝓛 (‵ ((HandleRow T).own_val made (w ∷ []))) (id⊢ 𝓤 _) $
    use0 𝓛 (raw (fact 𝓤 (made.held ≡ None))) (fact_i 𝓤 (made.held ≡ None) (emp 𝓤) refl) $
    nothing ! $ nothing ! $ fjoin ! $ nothing ! $ fjoin ! $
    -- [what is left of the parameters; the fact; the handle; alive]
    keep ! (3 ∷ 0 ∷ 2 ∷ 1 ∷ []) $
    by ! (leaves 𝓛 En hs c z w made (tt, (tt, tt)) (tt, (tt, tt)))))))
