-- The longer theorems about contexts.
use Rattle.std.specs.Prelude.{◌≡◌, ℕ, List, IsPermutation, slice_get, Some, None, ◌↔◌}
use Rattle.ir_types.specs.declared.node.TypeNode.{TypeNode}
use Rattle.ir_types.specs.declared.node.AttrNode.{AttrNode}
use Rattle.ir_types.specs.declared.node.AttrNode.TheVariants.{Dict}
use Rattle.ir_types.specs.Things.{ContextModel, IsName, IsType, IsAttr, TypeIsOf, AttrIsOf, IsExtendedBy}
use Rattle.ir_types.specs.Terms.{name_term, type_term, type_node_term, attr_term, attr_node_term}
use Rattle.ir_types.specs.Dictionaries.{kept}
use Rattle.ir_types.specs.Interning.{with_name, with_type, with_attr}
use Rattle.ir_types.specs.Reasons.{key_reason}
use Rattle.ir_types.specs.Sound.{Holds, IsSound}

-- an id of c means in d what it means in c
abbrev pub NameStays : ContextModel → ContextModel → Type 0
NameStays c d = (n : ℕ) → IsName c n → name_term d n ≡ name_term c n

abbrev pub TypeStays : ContextModel → ContextModel → Type 0
TypeStays c d = (n : ℕ) → IsType c n → type_term d n ≡ type_term c n

abbrev pub AttrStays : ContextModel → ContextModel → Type 0
AttrStays c d = (n : ℕ) → IsAttr c n → attr_term d n ≡ attr_term c n

-- the item at an index stays there
abbrev pub StandsAt : {A : Type 0} → List A → List A → Type 0
StandsAt {A} old new = (n : ℕ) (x : A) → slice_get old n ≡ Some x → slice_get new n ≡ Some x

-- a node with ids of c means in d what it means in c
abbrev pub TypeNodeStays : ContextModel → ContextModel → Type 0
TypeNodeStays c d = (node : TypeNode) → TypeIsOf c node → type_node_term d node ≡ type_node_term c node

abbrev pub AttrNodeStays : ContextModel → ContextModel → Type 0
AttrNodeStays c d = (node : AttrNode) → AttrIsOf c node → attr_node_term d node ≡ attr_node_term c node

-- two ids with the same meaning are equal
abbrev pub NamesDiffer : ContextModel → Type 0
NamesDiffer c = (m n : ℕ) → IsName c m → IsName c n → name_term c m ≡ name_term c n → m ≡ n

abbrev pub TypesDiffer : ContextModel → Type 0
TypesDiffer c = (m n : ℕ) → IsType c m → IsType c n → type_term c m ≡ type_term c n → m ≡ n

abbrev pub AttrsDiffer : ContextModel → Type 0
AttrsDiffer c = (m n : ℕ) → IsAttr c m → IsAttr c n → attr_term c m ≡ attr_term c n → m ≡ n

-- a call in c and a call in d, in either order, both before e: they return the same id exactly if the items are equal
abbrev pub OneNameOneNumber : List ℕ → ContextModel → List ℕ → ContextModel → ContextModel → Type 0
OneNameOneNumber a c b d e = IsSound e → IsExtendedBy (with_name a c).1 e → IsExtendedBy (with_name b d).1 e → ((with_name a c).0 ≡ (with_name b d).0) ↔ (a ≡ b)

abbrev pub OneTypeOneNumber : TypeNode → ContextModel → TypeNode → ContextModel → ContextModel → Type 0
OneTypeOneNumber a c b d e = IsSound e → IsExtendedBy (with_type a c).1 e → IsExtendedBy (with_type b d).1 e → ((with_type a c).0 ≡ (with_type b d).0) ↔ (a ≡ b)

abbrev pub OneAttrOneNumber : AttrNode → ContextModel → AttrNode → ContextModel → ContextModel → Type 0
OneAttrOneNumber a c b d e = IsSound e → IsExtendedBy (with_attr a c).1 e → IsExtendedBy (with_attr b d).1 e → ((with_attr a c).0 ≡ (with_attr b d).0) ↔ (kept c.names a ≡ kept d.names b)

-- and exactly if the meanings are equal
abbrev pub OneTypeOneMeaning : TypeNode → ContextModel → TypeNode → ContextModel → ContextModel → Type 0
OneTypeOneMeaning a c b d e = IsSound e → TypeIsOf c a → TypeIsOf d b → IsExtendedBy (with_type a c).1 e → IsExtendedBy (with_type b d).1 e → ((with_type a c).0 ≡ (with_type b d).0) ↔ (type_node_term c a ≡ type_node_term d b)

abbrev pub OneAttrOneMeaning : AttrNode → ContextModel → AttrNode → ContextModel → ContextModel → Type 0
OneAttrOneMeaning a c b d e = Holds c → Holds d → IsSound e → AttrIsOf c a → AttrIsOf d b → IsExtendedBy (with_attr a c).1 e → IsExtendedBy (with_attr b d).1 e → ((with_attr a c).0 ≡ (with_attr b d).0) ↔ (attr_node_term c (kept c.names a) ≡ attr_node_term d (kept d.names b))

-- a dictionary whose entries are given in another order
abbrev pub OrderIsFree : ContextModel → List (ℕ × ℕ) → List (ℕ × ℕ) → Type 0
OrderIsFree c xs ys = IsSound c → AttrIsOf c (Dict xs) → key_reason (Dict xs) ≡ None → IsPermutation xs ys → with_attr (Dict xs) c ≡ with_attr (Dict ys) c
