-- `inside` moves the two words, and the handle owns what the struct does.
use Rattle.std.proofs.Common.{◌≡◌, List, [], ◌∷◌, ◌++◌, refl, sym, subst}
use mir.Syntax.{Fn}
use mir.Val.{Val}
use base.Logic.{SProp, ent, emp, id⊢}
use prog.Wp.{WpFn}
use types.Kit.{‵, raw, ◌⊛◌, ◌$◌, ◌∵◌, !, qed, by, move, keep, split, fsplit, fjoin, suffices, use0, use1}
use types.Run.{stop, fld, of_opd, no_more, and_then, returns, enter}
use types.ByLocal.{alloc_all, pass_all, free_all, look_at, get, get_in, sets}
use types.Part.{agg, sub, whole}
use contract.Monad.{fact, fact_i}
use contract.Running.{tables}
use denote.RattleType.{owns}
use denote.RawPtr.{ptr_val}
use denote.Signature.{Slot, types_at, plain}
use denote.Steps.{nothing}
use denote.Triple.Entry.{alive}
use denote.Triple.Walked.{Stays, stay_dropped, walk_of, Goes-dropped}
use Rattle.std.proofs.raw_atomic.Walks.{proved_at, leaves}
use Rattle.span_border.proofs.Words.{pair, pair_good, ptr_good}
use Rattle.span_border.proofs.HandleBox.{HandleRow, handle_words}
use Rattle.span_border.specs.contracts.handle.Handle as Handle
use Rattle.span_store.specs.contracts.store.Store.{the_row as Held}
use Rattle.span_store.proofs.store.Store.TheLaws.{the_row_laws as held_laws}
use Rattle.span_store_ffi.specs.contracts.handle.SpanStore as Struct
use Rattle.span_store_ffi.specs.contracts.handle.SpanStore.inside.{ended, clauses}
use Rattle.span_store_ffi.specs.contracts.handle.SpanStore.inside.Key.{name as #self}
use Rattle.span_store_ffi.proofs.handle.SpanStore.inside.Statement.{statement}
use Rattle.span_store_ffi.proofs.handle.SpanStore.inside.Code as code

abbrev From : Slot 0
From = plain (λ _. Struct.the_row)

pub inside_spec : {M : Type 1} → statement M
inside_spec 𝓤 𝓛 𝓜 𝓡 wired =
    let H = 𝓛.H in let 𝓣 = tables 𝓤 H 𝓜 𝓡 𝓡.env in let c = clauses 𝓛 𝓜.mem 𝓡.returns in let fn : Fn = code.function in
    let hs : Stays ended.signature.params ended.kept = (stay_dropped From ended.kept.0, tt) in
    proved_at 𝓛 ended hs c 𝓜 𝓡 (Goes-dropped 𝓛 0 From ended.kept.0 (λ κs x f. refl), tt) #self fn (code.unfolded 𝓤 H 𝓜 𝓡 wired) (λ z are.
    let Post : Val → SProp 𝓤 = (walk_of 𝓛 ended hs c).post z in
    let Run : List Val → SProp 𝓤 = λ ws. WpFn 𝓤 H 𝓣.C 𝓣.Λ fn ws Post in
    let d = z.0.3.0 in
    let same : (HandleRow Held).Denot = record { at = d.at; alloc = d.alloc; held = d.held } in
    let made : (Handle.the_row Held).Denot = record { at = d.at; alloc = d.alloc; held = d.held } in
    qed 𝓛 ((raw (alive 𝓛 ended.signature z.0.0 z.0.1) ⊛ ‵ (owns (types_at ended.signature.params z.0.0) z.0.3 z.0.4)) ∷ raw (emp 𝓤) ∷ []) ∵
    split ! $ move ! (1 ∷ []) $ fsplit ! $ use1 𝓛 (‵ ((HandleRow Held).own_val same z.0.4.0)) (id⊢ 𝓤 _) $
    handle_words Held held_laws ! same z.0.4.0 (λ hv at_words fits.
    let w = pair (ptr_val d.at) hv in
    use1 𝓛 (‵ ((Handle.the_row Held).own_val made (w ∷ []))) (id⊢ 𝓤 _) $
    suffices ! (Run (w ∷ [])) (subst (λ (us : List Val). ent 𝓤 (Run (w ∷ [])) (Run us)) (sym (λ i. at_words i ++ [])) (id⊢ 𝓤 (Run (w ∷ [])))) $
    enter ! 𝓣.C 𝓣.Λ fn (w ∷ []) Post $
    alloc_all ! (λ l. pass_all ! refl ((pair_good d.at _ fits.0, ((ptr_good d.at).1, (fits.1, tt))), tt) $
    sets ! (of_opd ! (get_in ! (fld ! refl (stop !)) (sub ! 0 refl (whole !)))) refl (ptr_good d.at) $
    sets ! (of_opd ! (get_in ! (fld ! refl (stop !)) (sub ! 1 refl (whole !)))) refl fits $
    sets ! (of_opd ! (get ! refl)) refl (ptr_good d.at) $
    sets ! (agg ! (and_then ! (get ! refl) (and_then ! (get ! refl) (no_more !)))) refl (pair_good d.at _ fits.0, ((ptr_good d.at).1, (fits.1, tt))) $
    returns ! (look_at ! 0 refl) $ free_all ! refl $
    use0 𝓛 (raw (fact 𝓤 (made.held ≡ d.held))) (fact_i 𝓤 (made.held ≡ d.held) (emp 𝓤) refl) $
    nothing ! $ nothing ! $ fjoin ! $
    -- [what is left of the parameter; the fact; the struct; true; alive; nothing]
    keep ! (4 ∷ 0 ∷ 2 ∷ 1 ∷ []) $
    by ! (leaves 𝓛 ended hs c z w made (tt, tt) (tt, tt)))))
