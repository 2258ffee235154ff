-- The results of parsing an attribute, in terms of the grammar.
use Rattle.std.specs.Prelude.{◌≡◌, ℕ}
use Rattle.ir_types.specs.Things.{ContextModel, IsAttr}
use Rattle.ir_types.specs.Terms.{AttrTerm, attr_term}

-- the id denotes the only attribute for which F holds
pub record IsOnlyAttr (F : AttrTerm → Type 0) (c : ContextModel) (n : ℕ) : Type 0 where
  pub known : IsAttr c n
  pub holds : F (attr_term c n)
  pub only : (y : AttrTerm) → F y → y ≡ attr_term c n

-- F holds for no attribute
abbrev pub IsNoAttr : (AttrTerm → Type 0) → Type 0
IsNoAttr F = (y : AttrTerm) → F y → ⊥
