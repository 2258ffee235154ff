-- `into_raw_box` makes a raw box of the pointer again.
use Rattle.std.proofs.Common.{◌≡◌, List, [], ◌∷◌, ◌++◌, refl, sym, ap, ◌∙◌, subst}
use Rattle.std.specs.Prelude.{Option, Some}
use mir.Raw.{raw as bare}
use mir.Val.{Val, vptr}
use base.Logic.{SProp, ent, emp, never, fst∗, id⊢}
use prog.Wp.{WpFn}
use types.Logic.{sem}
use types.Kit.{‵, raw, ◌⊛◌, ◌$◌, ◌∵◌, !, qed, by, move, keep, split, fsplit, fjoin, rewrite, use0, suffices}
use types.Run.{stop, fld, of_opd, no_more, and_then, returns, enter}
use types.ByLocal.{alloc_all, pass_all, free_all, look_at, get, get_in, sets}
use types.Part.{agg, sub, whole}
use contract.Monad.{fact, fact_i}
use contract.Running.{tables}
use denote.Exit.{yes}
use denote.Memory.{lone}
use denote.RattleType.{RattleType, owns}
use denote.Signature.{types_at, plain}
use denote.RawPtr.{Ptr, block_ptr, null_ptr, in_a_block}
use denote.Steps.{nothing, heard}
use denote.Triple.Entry.{alive}
use denote.Triple.Walked.{Stays, stay_dropped, walk_of, Goes-dropped}
use Rattle.std.specs.Box.Ownership.{box_owns}
use Rattle.std.proofs.alloc.Calls.{handle_tells}
use Rattle.std.proofs.raw_atomic.Walks.{proved_at, leaves}
use Rattle.std.specs.contracts.alloc.Global as heap
use Rattle.std.proofs.alloc.Global.TheLaws as heap_laws
use Rattle.std.specs.contracts.impls.GlobalAllocator.TheImpl.{ghosts}
use Rattle.mlir_work_c.proofs.Values.{both, al, loose_good, loose_in}
use Rattle.mlir_work_c.specs.Slots.{slot_owns, heap_token, IsFull}
use Rattle.mlir_work_c.proofs.Places.{slot_val, slot_good, slot_out, full_is}
use Rattle.mlir_work_c.specs.contracts.session.Session as held
use Rattle.mlir_work_c.specs.contracts.handle_slot.HandleSlot as slot
use Rattle.mlir_work_c.specs.contracts.handle_slot.HandleSlot.into_raw_box.{ended, clauses}
use Rattle.mlir_work_c.specs.contracts.handle_slot.HandleSlot.into_raw_box.Key.{name as #self}
use Rattle.mlir_work_c.proofs.handle_slot.HandleSlot.into_raw_box.Statement.{statement}
use Rattle.mlir_work_c.proofs.handle_slot.HandleSlot.into_raw_box.Code as code

pub into_raw_box_spec : {M : Type 1} → statement M
into_raw_box_spec 𝓤 𝓛 𝓜 𝓡 wired =
    let H = 𝓛.H in let 𝓣 = tables 𝓤 H 𝓜 𝓡 𝓡.env in let c = clauses 𝓛 𝓜.mem 𝓡.returns in let R : RattleType = held.the_row in let Z : RattleType = heap.the_row in let LZ = heap_laws.the_row_laws in
    let hs : Stays ended.signature.params ended.kept = (stay_dropped (plain (λ _. slot.the_row)) yes, (stay_dropped (plain (λ _. Z)) yes, tt)) in let fn = code.function in
    proved_at 𝓛 ended hs c 𝓜 𝓡 (Goes-dropped 𝓛 0 (plain (λ _. slot.the_row)) yes (λ κs x f. refl), (Goes-dropped 𝓛 0 (plain (λ _. Z)) yes (λ κs x f. refl), tt)) #self fn (code.unfolded 𝓤 H 𝓜 𝓡 wired) (λ z are.
    let κs = z.0.0 in let v = z.0.3.0 in let a = z.0.3.1.0 in let Post : Val → SProp 𝓤 = (walk_of 𝓛 ended hs c).post z in let Run : List Val → List Val → SProp 𝓤 = λ us ws. WpFn 𝓤 H 𝓣.C 𝓣.Λ fn (us ++ (ws ++ [])) Post in
    qed 𝓛 ((raw (alive 𝓛 ended.signature z.0.0 z.0.1) ⊛ ‵ (owns (types_at ended.signature.params κs) z.0.3 z.0.4)) ∷ raw ((c κs z.0.3).requires z.1) ∷ []) ∵
    move ! (1 ∷ []) $ heard ! (IsFull v.value) (λ full. let got = full_is v.value full in let x : R.Denot = got.0 in
    split ! $ move ! (1 ∷ []) $ fsplit ! $ slot_out ! v z.0.4.0 (λ ws. rewrite ! 0 (λ (y : Option R.Denot). ‵ (slot_owns heap_token R v.at y)) got.1 refl $
    in_a_block ! v.at (λ p. box_owns heap_token R p x) (fst∗ 𝓤 (never 𝓤) (sem 𝓛 (heap_token (bare (lone R.mir)) null_ptr))) (λ b o e.
    move ! (1 ∷ []) $ fsplit ! $ handle_tells (al R Z LZ ghosts) ! a z.0.4.1.0 (λ h ea fits.
    let w : Val = slot_val (block_ptr b o) in let is : z.0.4.0 ≡ w ∷ [] = ws ∙ ap (λ (p : Ptr). slot_val p ∷ []) e in let made : Val = both (vptr b o) h in
    suffices ! (Run (w ∷ []) (h ∷ [])) (subst (λ (us : List Val). ent 𝓤 (Run (w ∷ []) (h ∷ [])) (Run us z.0.4.1.0)) (sym is) (subst (λ (us : List Val). ent 𝓤 (Run (w ∷ []) (h ∷ [])) (Run (w ∷ []) us)) (sym ea) (id⊢ 𝓤 (Run (w ∷ []) (h ∷ []))))) $
    enter ! 𝓣.C 𝓣.Λ fn (w ∷ h ∷ []) Post $ alloc_all ! (λ l. pass_all ! refl (slot_good (block_ptr b o), (fits, tt)) $
    sets ! (of_opd ! (get_in ! (fld ! refl (stop !)) (sub ! 0 refl (whole !)))) refl (tt, tt) $ sets ! (of_opd ! (get ! refl)) refl (tt, tt) $
    sets ! (agg ! (and_then ! (get ! refl) (and_then ! (get ! refl) (no_more !)))) refl (loose_good R Z LZ ghosts b o h fits) $ move ! (2 ∷ 0 ∷ []) $ loose_in R Z LZ ghosts ! b o h a x $
    use0 𝓛 (raw (fact 𝓤 (Some x ≡ v.value))) (fact_i 𝓤 (Some x ≡ v.value) (emp 𝓤) (sym got.1)) $ nothing ! $ nothing ! $ fjoin ! $ nothing ! $ fjoin ! $
    returns ! (look_at ! 0 refl) $ free_all ! refl $ keep ! (3 ∷ 0 ∷ 2 ∷ 1 ∷ []) $ by ! (leaves 𝓛 ended hs c z made (record { at = block_ptr b o; alloc = a; value = x }) (tt, (tt, tt)) (tt, (tt, tt)))))))))
