-- Lists of edits: their meaning, and the result of making them one after another.
use Rattle.std.specs.Prelude.{◌≡◌, List, [], ◌∷◌, ◌++◌, map, true, ◌⊎◌, Some, None, Result, Ok, Err}
use Rattle.ir_types.specs.Things.{ContextModel, IsName, IsAttr}
use Rattle.ir_types.specs.declared.refusal.Refusal.{Refusal}
use Rattle.ir_types.specs.declared.refusal.Refusal.TheVariants.{Memory}
use Rattle.ir_tree.specs.Tree.{regions}
use Rattle.ir_tree.specs.Meaning.{IsSoundIn}
use Rattle.ir_tree_laws.specs.Reasons.{hold_none}
use Rattle.rewriter_machine.specs.events.Modules.{Module}
use Rattle.rewriter_machine.specs.Contents.{Edit, NumberedEdit, all_edited, edit_meaning, edit_reason, edited}
use Rattle.rewriter_machine.specs.Edits as edit
use Rattle.patterns_base.specs.declared.edit.Edit.{Edit as Coded}
use Rattle.patterns_base.specs.declared.edit.Edit.TheVariants as coded

-- the edit with interned numbers that an edit of the code is
abbrev pub numbered : Coded → NumberedEdit
numbered (coded.Make place o) = edit.Make place o
numbered (coded.SetOperand x k v) = edit.SetOperand x k v
numbered (coded.Replace v w) = edit.Replace v w
numbered (coded.Move x place) = edit.Move x place
numbered (coded.Erase x) = edit.Erase x
numbered (coded.SetAttr x k a) = edit.SetAttr x k a

-- an edit fits a context: its numbers are interned there, and a new operation has nothing inside its blocks
abbrev pub Fits : ContextModel → Coded → Type 0
Fits c (coded.Make place o) = IsSoundIn c o × (hold_none (regions o) ≡ true)
Fits c (coded.SetOperand x k v) = Unit {0}
Fits c (coded.Replace v w) = Unit {0}
Fits c (coded.Move x place) = Unit {0}
Fits c (coded.Erase x) = Unit {0}
Fits c (coded.SetAttr x k a) = IsName c k × IsAttr c a

-- each edit of a list fits
abbrev pub AllFit : ContextModel → List Coded → Type 0
AllFit c [] = Unit {0}
AllFit c (e ∷ es) = Fits c e × AllFit c es

-- the meaning of the edits of the code
abbrev pub edits_meaning : ContextModel → List Coded → List Edit
edits_meaning c es = map (λ e. edit_meaning c (numbered e)) es

-- an edit was made in a module, or refused for its reason or because memory ran out
abbrev pub IsMadeOrRefused : Edit → Result (Unit {0}) Refusal → Module → Module → Type 0
IsMadeOrRefused e (Ok u) m n = (edit_reason e m ≡ None) × (n ≡ edited e m)
IsMadeOrRefused e (Err r) m n = ((r ≡ Memory) ⊎ (edit_reason e m ≡ Some r)) × (n ≡ m)

-- one of some edits, made one after another, is refused for its reason
pub record IsRefusedAmong (es : List Edit) (m : Module) (r : Refusal) : Type 0 where
  pub made : List Edit
  pub refused : Edit
  pub rest : List Edit
  pub parts : made ++ refused ∷ rest ≡ es
  pub why : edit_reason refused (all_edited made m) ≡ Some r

-- why edits aren't made: memory runs out, or one of them is refused
abbrev pub IsWhy : List Edit → Module → Refusal → Type 0
IsWhy es m r = (r ≡ Memory) ⊎ IsRefusedAmong es m r

-- none of the edits is refused
abbrev pub Free : List Edit → Module → Type 0
Free [] m = Unit {0}
Free (e ∷ es) m = (edit_reason e m ≡ None) × Free es (edited e m)
