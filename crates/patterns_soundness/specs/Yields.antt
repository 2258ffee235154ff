-- The operands of terminators of verified loops and choices, and the operand of a verified choice.
use Rattle.std.specs.Prelude.{◌≡◌, ◌≤◌, ℕ, List, [], ◌∷◌, codes, length, map, true, false, Some}
use Rattle.ir_tree.specs.Tree.{head}
use Rattle.ir_tree.specs.Ids.{HasDistinctIds, find}
use Rattle.ir_tree.specs.Meaning.{Operation}
use Rattle.patterns_base.specs.Words.{named}
use Rattle.patterns_base.specs.Looks.{Ended, body, is_verified, is_index_value}

-- operation o is in a tree under an id, is verified, and has a name
pub record IsVerifiedOf (t o : Operation) (x : ℕ) (word : List ℕ) : Type 0 where
  pub distinct : HasDistinctIds t
  pub found : find x t ≡ Some o
  pub verified : is_verified t (head o) ≡ true
  pub name : named word (head o).name ≡ true

-- the last operation of a verified loop's block, if it is verified too, has as many operands as the loop has results
abbrev pub LoopsHandOnAll : Type 0
LoopsHandOnAll = (t o : Operation) (x : ℕ) (e : Ended) → IsVerifiedOf t o x (codes "scf.for") → body t o 0 ≡ Some e
    → length e.last.operands ≡ length (head o).results

-- the same for the last operations of a verified choice's blocks
abbrev pub ChoicesHandOnAll : Type 0
ChoicesHandOnAll = (t o : Operation) (x r : ℕ) (e : Ended) → r ≤ 1 → IsVerifiedOf t o x (codes "scf.if")
    → body t o r ≡ Some e → length e.last.operands ≡ length (head o).results

-- a verified choice has one operand, which isn't of type index
abbrev pub ChoicesAskTruth : Type 0
ChoicesAskTruth = (t o : Operation) (x : ℕ) → IsVerifiedOf t o x (codes "scf.if")
    → map (is_index_value t) (head o).operands ≡ false ∷ []
