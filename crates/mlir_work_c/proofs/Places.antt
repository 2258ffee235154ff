-- The machine values of a handle slot.
use Rattle.std.proofs.Common.{◌≡◌, List, [], ◌∷◌, ◌++◌, refl, ap, ◌∙◌, arith}
use Rattle.std.specs.Prelude.{Option, Some, None}
use seplogic.Ra.Ura.{Ura}
use mir.Val.{Val, vstruct, vcons, vnil, of_list}
use types.Logic.{Logic}
use types.Kit.{Item, Goal, Seq, Step, step, ‵, ◌$◌, drop, fsplit, fjoin, fpick, fpack, feq_i, feq_l}
use denote.RattleType.{Valss}
use denote.Builtin.{RawPtr}
use denote.RawPtr.{Ptr, block_ptr, null_ptr, ptr_val}
use denote.Steps.{nothing}
use denote.Param.{layout}
use denote.Struct.Struct.{within}
use denote.Struct.Owning.{shape}
use Rattle.std.proofs.cell.Inside.{Good}
use Rattle.mlir_work_c.specs.Slots.{slot_owns, heap_token, IsFull}
use Rattle.mlir_work_c.specs.contracts.session.Session as held
use Rattle.mlir_work_c.specs.contracts.handle_slot.HandleSlot as slot

abbrev pub slot_val : Ptr → Val
slot_val p = vstruct (vcons (ptr_val p) vnil)

pub slot_good : (p : Ptr) → Good (layout slot.the_row) (slot_val p)
slot_good (block_ptr b o) = (tt, (tt, tt))
slot_good null_ptr = (tt, (record { fits = omega arith }, tt))

module _ {M : Type 1} {𝓤 : Ura M} {𝓛 : Logic 𝓤} {K : Type 0} {Γ : List (Item 𝓤)} {G : Goal 𝓤 𝓛.H} where
  pub slot_out : K → (d : slot.the_row.Denot) (vs : List Val)
      → (vs ≡ slot_val d.at ∷ [] → Seq K 𝓛 (‵ (slot_owns heap_token held.the_row d.at d.value) ∷ Γ) G)
      → Seq K 𝓛 (‵ (slot.the_row.own_val d vs) ∷ Γ) G
  slot_out t d vs k =
      fsplit t $ fpick t (λ vss. fsplit t $ feq_l t (λ ev. fsplit t $ feq_l t (λ ep. drop t $ k (ev ∙ ap (λ (ps : List Val). vstruct (of_list (ps ++ [])) ∷ []) ep))))

  pub slot_in : K → (p : Ptr) (x : Option held.the_row.Denot)
      → Step K 𝓛 (‵ (slot.the_row.own_val (record { at = p; value = x }) (slot_val p ∷ [])) ∷ Γ) G (‵ (slot_owns heap_token held.the_row p x) ∷ Γ) G
  slot_in t p x = step (λ s. let v : Val = slot_val p in
      nothing t $ feq_i t (List Val) (ptr_val p ∷ []) (ptr_val p ∷ []) refl $ fjoin t $ feq_i t (List Val) (v ∷ []) (v ∷ []) refl $ fjoin t $
      fpack t (Valss (RawPtr ∷ [])) (within (shape slot.the_type) (p, tt) (v ∷ [])) (ptr_val p ∷ [], tt) $ fjoin t $ s)

-- a full slot has a value
pub full_is : {X : Type 0} → (y : Option X) → IsFull y → (x : X) × (y ≡ Some x)
full_is None full = absurd full
full_is (Some x) full = (x, refl)
