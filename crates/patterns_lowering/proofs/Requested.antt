-- What the caller checks before it plans a rule.
use Rattle.std.proofs.Common.{◌≡◌, ap, sym, ◌∙◌, ℕ, true, Some}
use Rattle.std.specs.Prelude.{option_map}
use Rattle.ir_event.specs.trees.Tree.{head}
use Rattle.ir_event.specs.trees.Ids.{find}
use Rattle.ir_event.specs.trees.Meaning.{Operation}
use Rattle.ir_event.proofs.of_tree_laws.Members.{found_stands}
use Rattle.ir_event.specs.declared.world.World.{World}
use Rattle.ir_event.specs.Modules.{module_in}
use Rattle.patterns_soundness.specs.base.Looks.{Header, is_verified}
use Rattle.patterns_lowering.specs.Planned.{IsVerifiedAt}

-- if the store shows operation x, and it is verified under that id, x is verified
pub verified_shown : (w : World) (x : ℕ) (h : Header) → Some h ≡ option_map (λ o. head o) (find x (module_in w).tree) → is_verified (module_in w).tree (record h { id = x }) ≡ true → IsVerifiedAt w x
verified_shown w x h e c o f =
    let s = found_stands x (module_in w).tree o f in
    let shown : Some h ≡ Some (head o) = e ∙ ap (option_map (λ o. head o)) f in
    let one : h ≡ head o = cc in
    let id : x ≡ (head o).id = sym s.2 ∙ ap (λ (z : Operation). (head z).id) s.3 in
    ap (is_verified (module_in w).tree) (sym (λ i. record (one i) { id = id i })) ∙ c
