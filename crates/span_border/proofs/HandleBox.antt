-- The box behind a handle, under short names, and a handle taken apart. Assumes `Logic`.
use Rattle.std.proofs.Common.{◌≡◌, ℕ, List, [], ◌∷◌, ◌++◌, refl, subst}
use mir.Syntax.{impl, tnil, dnil}
use mir.Val.{Val, vstruct, of_list}
use mir.Raw.{raw as bare}
use seplogic.Ra.Ura.{Ura}
use base.Logic.{ent, guard, guard_i, via, never, fst∗, snd∗}
use contract.Monad.{fact_use}
use types.Logic.{Logic, sem}
use types.Kit.{Item, Goal, Seq, ‵, ◌$◌, move, drop, fsplit, fjoin, fpick, fpack, feq_l, feq_i}
use denote.RawPtr.{Ptr, RawPtr, null_ptr, block_ptr, ptr_val, in_a_block, Testable}
use denote.RattleType.{RattleType, Valss}
use denote.Signature.{Slot, plain}
use denote.Steps.{nothing}
use denote.Struct.Struct.{within}
use denote.Struct.Owning.{shape}
use denote.Param.{param}
use denote.Param.Laws.{Laws}
use Rattle.std.specs.Prelude.{Option, Some, None}
use Rattle.core.specs.Ptr.{points_to}
use Rattle.core.proofs.alloc.Calls.{token, Fits, handle_tells}
use Rattle.std_alloc.specs.Box.Ownership.{box_owns}
use Rattle.std_alloc.proofs.BoxSteps.Form.{Bx, P, R, τ, handle, owning}
use Rattle.std.proofs.GlobalToken.{dealloc_token-Testable}
use Rattle.std_heap.specs.contracts.Global as Heap
use Rattle.std_heap.specs.contracts.GlobalAllocator.TheImpl.{ghosts, dict}
use Rattle.std_heap.proofs.Global.TheLaws as heap
use Rattle.span_border.proofs.Words.{pair}
use Rattle.span_border.specs.contracts.parts.Parts as Parts
use Rattle.span_border.specs.contracts.handle.Handle as Handle
use Rattle.span_border.specs.inside.HandleOwned.{handle_owns}

abbrev pub FromPointer : Slot 1
FromPointer = plain (λ _. RawPtr)

abbrev pub FromAllocator : Slot 1
FromAllocator = plain (λ _. Heap.the_row)

module _ (T : RattleType) where
  abbrev pub PartsRow : RattleType
  PartsRow = Parts.the_row (param 0 T) Heap.the_row ghosts

  abbrev pub HandleRow : RattleType
  HandleRow = Handle.the_row (param 0 T)

  abbrev pub FromParts : Slot 1
  FromParts = plain (λ _. PartsRow)

  abbrev pub FromHandle : Slot 1
  FromHandle = plain (λ _. HandleRow)

module _ (T : RattleType) (L : Laws T) where
  abbrev pub E : Bx
  E = record {
    row = T;
    laws = L;
    al = record { row = Heap.the_row; laws = heap.the_row_laws; g = ghosts; d = dict; drops = impl [] tnil dnil };
  }

  module _ {M : Type 1} {𝓤 : Ura M} (𝓛 : Logic 𝓤) where
    -- the pointer of a box may be compared with null
    pub tested : (alloc : (P E).Denot) (p : Ptr) (x : (R E).Denot)
        → let boxed = sem 𝓛 (box_owns (token E.al alloc) (R E) p x) in ent 𝓤 boxed (guard 𝓤 (Testable p) boxed)
    tested alloc p x =
        let boxed = sem 𝓛 (box_owns (token E.al alloc) (R E) p x) in
        let may_free = sem 𝓛 (token E.al alloc (bare (τ E)) p) in
        fact_use 𝓤 (Testable p)
        (via 𝓤 may_free (snd∗ 𝓤 (sem 𝓛 (points_to (R E) p x)) may_free) (dealloc_token-Testable 𝓛 alloc (bare (τ E)) p))
        (guard_i 𝓤 (Testable p) boxed)

  module _ {M : Type 1} {𝓤 : Ura M} {𝓛 : Logic 𝓤} {K : Type 0} {Γ : List (Item 𝓤)} {G : Goal 𝓤 𝓛.H} where
    -- a handle is empty and null, or owns the box at its pointer
    pub either : K → (alloc : (P E).Denot) (at : Ptr) (held : Option (R E).Denot)
        → (at ≡ null_ptr → held ≡ None → Seq K 𝓛 Γ G)
        → ((b o : ℕ) (x : (R E).Denot) → at ≡ block_ptr b o → held ≡ Some x
        → Seq K 𝓛 (‵ (box_owns (token E.al alloc) (R E) (block_ptr b o) x) ∷ Γ) G)
        → Seq K 𝓛 (‵ (handle_owns (R E) alloc at held) ∷ Γ) G
    either t alloc at None empty full = fpick t (λ null. drop t $ empty null refl)
    either t alloc at (Some x) empty full =
        in_a_block t at (λ p. box_owns (token E.al alloc) (R E) p x)
        (fst∗ 𝓤 (never 𝓤) (sem 𝓛 (token E.al alloc (bare (τ E)) null_ptr))) (λ b o at_b. full b o x at_b refl)

    -- a handle by value is two words: its pointer, and its allocator's
    pub handle_out : K → (d : (HandleRow T).Denot) (vs : List Val)
        → ((hv : Val) → vs ≡ pair (ptr_val d.at) hv ∷ [] → Fits E.al hv
        → Seq K 𝓛 (‵ (handle_owns (R E) d.alloc d.at d.held) ∷ ‵ (handle E d.alloc hv) ∷ Γ) G)
        → Seq K 𝓛 (‵ ((HandleRow T).own_val d vs) ∷ Γ) G
    handle_out t d vs next =
        fsplit t $ fpick t (λ vss. fsplit t $ feq_l t (λ ev. fsplit t $ feq_l t (λ ep. fsplit t $
        handle_tells E.al t d.alloc vss.1.0 (λ hv ea fits. move t (1 ∷ []) $ drop t $ move t (1 ∷ []) $
        next hv
        (subst (λ (ws : List Val). vs ≡ vstruct (of_list (ptr_val d.at ∷ (ws ++ []))) ∷ []) ea
        (subst (λ (ps : List Val). vs ≡ vstruct (of_list (ps ++ (vss.1.0 ++ []))) ∷ []) ep ev)) fits))))

    -- and it is kept so
    pub handle_words : K → (d : (HandleRow T).Denot) (vs : List Val)
        → ((hv : Val) → vs ≡ pair (ptr_val d.at) hv ∷ [] → Fits E.al hv
        → Seq K 𝓛 (‵ ((HandleRow T).own_val d (pair (ptr_val d.at) hv ∷ [])) ∷ Γ) G)
        → Seq K 𝓛 (‵ ((HandleRow T).own_val d vs) ∷ Γ) G
    handle_words t d vs next =
        handle_out t d vs (λ hv words fits.
        nothing t $ move t (2 ∷ 0 ∷ []) $ fjoin t $
        feq_i t (List Val) (ptr_val d.at ∷ []) (ptr_val d.at ∷ []) refl $ fjoin t $
        feq_i t (List Val) (pair (ptr_val d.at) hv ∷ []) (pair (ptr_val d.at) hv ∷ []) refl $ fjoin t $
        fpack t (Valss (RawPtr ∷ P E ∷ [])) (within (shape (owning E)) (d.at, (d.alloc, tt)) (pair (ptr_val d.at) hv ∷ []))
        (ptr_val d.at ∷ [], (hv ∷ [], tt)) $ fjoin t $ next hv words fits)
