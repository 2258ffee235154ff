-- `as_mut` lends the session at the pointer, and the slot has what the session becomes.
use Rattle.std.proofs.Common.{◌≡◌, ℕ, List, [], ◌∷◌, refl, sym, ap, ◌∙◌, MutBor}
use Rattle.std.specs.Prelude.{Option, Some}
use seplogic.Ra.Ura.{Ura}
use base.Fraction.{full_share}
use mir.Syntax.{named}
use mir.Raw.{raw as bare}
use mir.Val.{Val, vptr}
use base.Logic.{ent, sep, never, fst∗, id⊢}
use base.Fml.{GName, Fml, fsep, flft, ftrue}
use types.Logic.{Logic, sem}
use types.Kit.{‵, raw, ◌⊛◌, some, later, at_ret, ◌$◌, ◌∵◌, !, qed, done, move, keep, drop, use1, split, split3, join, fsplit, fsplit3, fjoin, fpack, pick, await, rewrite, suffices, frame, group}
use types.Part.{whole, sub, look_in}
use types.Run.{stop, fld, addr, load, of_opd, first, blocks, exec, returns, enter}
use types.ByLocal.{alloc_all, pass_all, free_all, look_at, get, through, sets, sets_last, env}
use contract.Monad.{fact}
use contract.Running.{tables}
use denote.Exit.{no}
use denote.Follow.{follows, Part, lends_Part}
use denote.Memory.{cell_at, lone, mem, part_at, part_of}
use denote.RattleType.{RattleType}
use denote.RawPtr.{Ptr, block_ptr, null_ptr, in_a_block}
use denote.Ref.{MutRef, mut_vals, mut_Tells}
use denote.Signature.{plain, mut_ref_to}
use denote.Steps.{nothing, heard, opens}
use denote.Triple.Walked.{says, Stays, stay_dropped, walk_of, ends_at, Goes-spent_ref}
use Rattle.std.proofs.raw_atomic.Walks.{proved}
use Rattle.std.proofs.VecSteps.Shapes.{after}
use Rattle.std.specs.Box.Ownership.{box_owns}
use Rattle.mlir_work_c.proofs.Places.{slot_val, slot_out, slot_in, full_is}
use Rattle.mlir_work_c.specs.Slots.{slot_owns, heap_token, IsFull}
use Rattle.mlir_work_c.specs.Lending.{with_session}
use Rattle.mlir_work_c.specs.contracts.session.Session as held
use Rattle.mlir_work_c.specs.contracts.handle_slot.HandleSlot as slot
use Rattle.mlir_work_c.specs.contracts.handle_slot.HandleSlot.as_mut as f
use Rattle.mlir_work_c.proofs.handle_slot.HandleSlot.as_mut.Statement.{statement}
use Rattle.mlir_work_c.proofs.handle_slot.HandleSlot.as_mut.Code as code

abbrev B : RattleType
B = slot.the_row

abbrev S : RattleType
S = held.the_row

abbrev stayed : Stays f.ended.signature.params f.ended.kept
stayed = (stay_dropped (mut_ref_to (0 ∷ []) tt (plain (λ _. B))) no, tt)

-- all of the slot but its session
abbrev Rest : (b o b' o' : ℕ) → Fml
Rest b o b' o' = fsep (heap_token (bare (lone S.mir)) (block_ptr b' o')) (cell_at full_share B.mir (slot_val (block_ptr b' o') ∷ []) b o)

module _ {M : Type 1} {𝓤 : Ura M} (𝓛 : Logic 𝓤) (d : B.Denot) (b o b' o' : ℕ) (e : d.at ≡ block_ptr b' o') where
  back : (w : S.Denot) → ent 𝓤 (sep 𝓤 (sem 𝓛 ((mem S).own_at w b' o')) (sem 𝓛 (Rest b o b' o'))) (sem 𝓛 ((mem B).own_at (with_session d w) b o))
  unfolding part_of
  back w =
      let v = slot_val (block_ptr b' o') in
      qed 𝓛 (‵ (part_at S full_share w b' o') ∷ ‵ (Rest b o b' o') ∷ []) ∵ move ! (1 ∷ []) $ fsplit ! $ move ! (2 ∷ 0 ∷ []) $ fjoin ! $
      slot_in ! (block_ptr b' o') (Some w) $ rewrite ! 0 (λ (p : Ptr). ‵ (B.own_val (record { at = p; value = Some w }) (v ∷ []))) (sym e) refl $ move ! (1 ∷ 0 ∷ []) $ fjoin ! $
      fpack ! (List Val) (λ us. fsep (cell_at full_share B.mir us b o) (B.own_val (with_session d w) us)) (v ∷ []) $ done !

pub as_mut_spec : {M : Type 1} → statement M
as_mut_spec 𝓤 𝓛 𝓜 𝓡 wired =
    let c = f.clauses 𝓛 𝓜.mem 𝓡.returns in let W = walk_of 𝓛 f.ended stayed c in let 𝓣 = tables 𝓤 𝓛.H 𝓜 𝓡 𝓡.env in let fn = code.function in
    proved 𝓛 f.ended stayed c 𝓜 𝓡 (Goes-spent_ref 𝓛 1 (0 ∷ []) tt (plain (λ κs. B)), tt)
    f.Key.name fn (code.unfolded 𝓤 𝓛.H 𝓜 𝓡 wired)
    (λ κs. (mut_vals, tt)) (λ κs. (mut_Tells (named 0) κs.0 B, tt)) (λ κs qs bounds a g are.
    let κ = κs.0 in let q = qs.0 in let self = a.0 in let d = self.now in let b = self.ref_ptr.0 in let o = self.ref_ptr.1 in let γ = self.ghost_name in let vs = mut_vals self in
    let y : W.Ghost = ((κs, qs, bounds, a, (vs, tt)), g) in
    qed 𝓛 (((‵ (flft κ q) ⊛ ‵ ftrue) ⊛ ‵ ((MutRef (named 0) κ B).own_val self vs) ⊛ ‵ ftrue) ∷ raw (fact 𝓤 (IsFull d.value)) ∷ []) ∵
    move ! (1 ∷ []) $ heard ! (IsFull d.value) (λ full. let got = full_is d.value full in let x : S.Denot = got.0 in
    enter ! 𝓣.C 𝓣.Λ fn vs _ $ alloc_all ! (λ ls. pass_all ! refl ((tt, tt), tt) $
    split ! $ split ! $ move ! (2 ∷ []) $ split ! $ fsplit3 ! $ drop ! $ move ! (0 ∷ 1 ∷ 3 ∷ []) $
    opens ! tt B {h = d} b o (λ us. move ! (1 ∷ []) $ slot_out ! d us (λ ws.
    rewrite ! 0 (λ (v : Option S.Denot). ‵ (slot_owns heap_token S d.at v)) got.1 refl $
    in_a_block ! d.at (λ p. box_owns heap_token S p x) (fst∗ 𝓤 (never 𝓤) (sem 𝓛 (heap_token (bare (lone S.mir)) null_ptr))) (λ b' o' e. fsplit ! $
    rewrite ! 2 (λ (vs' : List Val). ‵ (cell_at full_share B.mir vs' b o)) (ws ∙ ap (λ (p : Ptr). slot_val p ∷ []) e) refl $
    -- [the session; the token; the slot's word; the open borrow, in three entries; the tokens]
    first ! $ blocks ! $ sets ! (of_opd ! (load ! (through ! refl (fld ! refl (stop !))) (look_in ! 2 (sub ! 0 refl (whole !))))) refl (tt, tt) $ sets ! (of_opd ! (get ! refl)) refl (tt, tt) $
    sets_last ! (addr ! (through ! refl (stop !))) refl (tt, tt) $ exec ! 𝓣.C 𝓣.Λ (env fn.locals ls) (after 1 fn.body) (at_ret _ (W.post y)) $ sets ! (of_opd ! (get ! refl)) refl (tt, tt) $
    move ! (1 ∷ 2 ∷ []) $ fjoin ! $ move ! (2 ∷ 3 ∷ 4 ∷ 1 ∷ 0 ∷ []) $ group ! 5 $
    use1 𝓛 (later (some (λ (γ' : GName). raw (Part 𝓛 B S (with_session d) (named 0) κ q b o b' o' γ (sem 𝓛 (Rest b o b' o')) (back 𝓛 d b o b' o' e) x γ'))))
    (lends_Part 𝓛 B S (with_session d) (named 0) κ q b o b' o' γ (sem 𝓛 (Rest b o b' o')) (back 𝓛 d b o b' o' e) (B.coded.code d) (B.coded.code d) x) $ await ! tt $ pick ! (λ γ'.
    let lent : MutBor S.Denot = record { ref_ptr = (b', o'); ghost_name = γ'; now = x } in
    use1 𝓛 (‵ ((MutRef (named 0) κ S).own_val lent (vptr b' o' ∷ [])) ⊛ ‵ (flft κ q) ⊛ ‵ (follows B S γ γ' (with_session d))) (id⊢ 𝓤 _) $ split3 ! $
    returns ! (look_at ! 0 refl) $ free_all ! refl $ keep ! (0 ∷ 1 ∷ 2 ∷ []) $
    suffices ! _ (ends_at 𝓛 f.ended stayed c y (vptr b' o') lent (tt, tt) (tt, tt)) $
    nothing ! $ nothing ! $ fjoin ! $ join ! $ nothing ! $ move ! (2 ∷ 0 ∷ []) $ join ! $ join ! $ frame ! $ says ! (sym got.1) $ done !)))))))
