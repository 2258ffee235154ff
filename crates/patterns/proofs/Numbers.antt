-- The meaning of interned numbers stays while a context grows; and why nothing more can be interned.
use Rattle.std.proofs.Common.{◌≡◌, refl, ap, sym, ◌∙◌, subst, ℕ, ◌<◌, ◌≤◌, ◌&&◌, not, List, length, length-take, take, min, Bool, true, false, Option, Some, None, Result, Ok, Err, ◌⊎◌, inl, inr, arith}
use Rattle.std.specs.Prelude.{slice_get, if◌then◌else◌, nat_le, nat_lt}
use Rattle.std.specs.List.{list_any}
use Rattle.std.specs.Cmp.{unsigned_Decides}
use Rattle.std.proofs.lemmas.Bool.{leb-true, ltb-true}
use Rattle.std.proofs.lemmas.Option.{slice_get_within}
use Rattle.std.proofs.lemmas.Slice.Eq.{bytes_eq-Decides}
use Rattle.ir_event.specs.types.declared.node.TypeNode.{TypeNode}
use Rattle.ir_event.specs.types.declared.node.AttrNode.{AttrNode}
use Rattle.ir_event.specs.types.declared.node.AttrNode.TheVariants as attr
use Rattle.ir_event.specs.types.declared.word.Word.{Word}
use Rattle.ir_event.specs.types.declared.refusal.Refusal.{Refusal}
use Rattle.ir_event.specs.types.declared.refusal.Refusal.TheVariants.{TooMany, TooDeep, BadValue, BadWidth, Memory, Full}
use Rattle.ir_event.specs.types.Things.{ContextModel, IsExtendedBy}
use Rattle.ir_event.specs.types.Terms.{TypeTerm, Integer, Index, Function, Memref, OpaqueType, AttrTerm, IntegerOf, DenseArray, String, TypeOf, Flag, Array, Dictionary, Symbol, Overflow, OpaqueOf, name_term, type_term, attr_term, type_node_term, attr_node_term}
use Rattle.ir_event.specs.types.Dictionaries.{kept}
use Rattle.ir_event.specs.types.Same.{same_type, same_attr}
use Rattle.ir_event.specs.types.Interning.{with_type, with_attr}
use Rattle.ir_event.specs.types.Limits.{most_things}
use Rattle.ir_event.specs.types.Reasons.{IsRefusedFor, first_reason, full_reason, count_reason, key_reason, value_reason, size_reason, type_fault, attr_fault, attr_reason, type_reason}
use Rattle.ir_event.specs.types.Sound.{Holds, IsSound}
use Rattle.ir_event.specs.types.WordNames.{word_bytes, word_number}
use Rattle.ir_event.proofs.of_types.CallNumbers.{new_type, new_attr, type_stands, attr_stands}
use Rattle.ir_event.proofs.of_types.Growth.{preceding_length}
use Rattle.ir_event.proofs.of_types.Terms.{name_stays, type_stays, attr_stays}
use Rattle.ir_event.proofs.of_types.WordNumbers.{word_count}
use Rattle.ir_event.proofs.of_types.WordPlaces.{word_is}
use Rattle.patterns_lowering.specs.Interning.{IsCapacityRefusal}
use Rattle.patterns.specs.Interned.{IsNameOf, IsTypeOf, IsAttrOf, IsPlain, FlagsOf}

-- ---- numbers

pub name_keeps : (c d : ContextModel) (n : ℕ) (bytes : List ℕ) → IsExtendedBy c d → IsNameOf c n bytes → IsNameOf d n bytes
name_keeps c d n bytes g h = (omega (arith, h.0, preceding_length c.names d.names g.names), name_stays c d n g h.0 ∙ h.1)

pub type_keeps : (c d : ContextModel) (n : ℕ) (ty : TypeTerm) → IsExtendedBy c d → IsTypeOf c n ty → IsTypeOf d n ty
type_keeps c d n ty g h = (omega (arith, h.0, preceding_length c.types d.types g.types), type_stays c d n g h.0 ∙ h.1)

pub attr_keeps : (c d : ContextModel) (n : ℕ) (a : AttrTerm) → Holds c → IsExtendedBy c d → IsAttrOf c n a → IsAttrOf d n a
attr_keeps c d n a holds g h = (omega (arith, h.0, preceding_length c.attrs d.attrs g.attrs), attr_stays c d n holds g h.0 ∙ h.1)

pub flags_keep : (c d : ContextModel) (name : List ℕ) (flags : Option ℕ) → Holds c → IsExtendedBy c d → FlagsOf c name flags → FlagsOf d name flags
flags_keep c d name None holds g h = h
flags_keep c d name (Some a) holds g h = (h.0, attr_keeps c d a (Overflow false false) holds g h.1)

-- a word's number
pub word_is_name : (c : ContextModel) (word : Word) → IsSound c → nat_lt (word_number word) 54 ≡ true → IsNameOf c (word_number word) (word_bytes word)
word_is_name c word sound low =
    let below : word_number word < 54 = ltb-true (word_number word) 54 low in
    let all : length (take 54 c.names) ≡ 54 = ap length sound.holds.words_first ∙ word_count in
    let some : length (take 54 c.names) ≡ min 54 (length c.names) = length-take 54 c.names in
    (omega (arith, below, all, some), (bytes_eq-Decides (name_term c (word_number word)) (word_bytes word)).0 (word_is c (word_number word) word sound ∙ (unsigned_Decides (word_number word) (word_number word)).1 refl))

-- the number that a call returns
pub type_made : (node : TypeNode) (c d : ContextModel) (t : ℕ) → Holds c → (t, d) ≡ with_type node c → IsTypeOf d t (type_node_term c node)
type_made node c d t holds e = (
  slice_get_within d.types t node (ap (λ (z : ℕ × ContextModel). slice_get z.1.types z.0) e ∙ type_stands node c),
  ap (λ (z : ℕ × ContextModel). type_term z.1 z.0) e ∙ new_type node c holds,
)

kept_plain : (names : List (List ℕ)) (node : AttrNode) → IsPlain node → kept names node ≡ node
unfolding kept
kept_plain names (attr.Int ty value) simple = refl
kept_plain names (attr.Str name) simple = refl
kept_plain names (attr.Ty ty) simple = refl
kept_plain names attr.Unit simple = refl
kept_plain names (attr.Array items) simple = refl
kept_plain names (attr.Dict entries) simple = absurd simple
kept_plain names (attr.Sym parts) simple = refl
kept_plain names (attr.Dense elem values) simple = refl
kept_plain names (attr.Overflow nsw nuw) simple = refl
kept_plain names (attr.Opaque text ty) simple = refl

pub attr_made : (node : AttrNode) (c d : ContextModel) (a : ℕ) → Holds c → IsPlain node → (a, d) ≡ with_attr node c → IsAttrOf d a (attr_node_term c node)
attr_made node c d a holds simple e = (
  slice_get_within d.attrs a (kept c.names node) (ap (λ (z : ℕ × ContextModel). slice_get z.1.attrs z.0) e ∙ attr_stands node c),
  ap (λ (z : ℕ × ContextModel). attr_term z.1 z.0) e ∙ new_attr node c holds ∙ ap (attr_node_term c) (kept_plain c.names node simple),
)

-- ---- the context is full

either : (a b : Option Refusal) (r : Refusal) → first_reason a b ≡ Some r → (a ≡ Some r) ⊎ (b ≡ Some r)
either None b r e = inr e
either (Some q) b r e = inl e

full_things : {A : Type 0} (is : A → Bool) (things : List A) → full_reason is things ≡ Some TooMany → most_things ≤ length things
full_things is things e = go (list_any is things) (nat_le most_things (length things)) refl e
  where
    go : (known full : Bool) → nat_le most_things (length things) ≡ full → (if not known && full then Some TooMany else None) ≡ Some TooMany → most_things ≤ length things
    go true full is e = absurd cc
    go false true is e = leb-true most_things (length things) is
    go false false is e = absurd cc

not_deep : (b : Bool) → (if b then None else Some TooDeep) ≡ Some TooMany → ⊥
not_deep true e = cc
not_deep false e = cc

not_bad : (b : Bool) → (if b then None else Some BadValue) ≡ Some TooMany → ⊥
not_bad true e = cc
not_bad false e = cc

not_narrow : (b : Bool) → (if b then None else Some BadWidth) ≡ Some TooMany → ⊥
not_narrow true e = cc
not_narrow false e = cc

fine_value : (a : AttrTerm) → value_reason a ≡ Some TooMany → ⊥
fine_value (IntegerOf ty bits) e = not_bad _ e
fine_value (String bytes) e = cc
fine_value (TypeOf ty) e = cc
fine_value Flag e = cc
fine_value (Array items) e = cc
fine_value (Dictionary es) e = cc
fine_value (Symbol parts) e = cc
fine_value (DenseArray elem values) e = not_bad _ e
fine_value (Overflow nsw nuw) e = cc
fine_value (OpaqueOf text ty) e = cc

fine_size : (ty : TypeTerm) → size_reason ty ≡ Some TooMany → ⊥
fine_size (Integer sign width) e = not_narrow _ e
fine_size Index e = cc
fine_size (Function inputs outputs) e = cc
fine_size (Memref dims elem) e = not_bad _ e
fine_size (OpaqueType text) e = cc

plain_reasons : (node : AttrNode) → IsPlain node → (count_reason node ≡ None) × (key_reason node ≡ None)
plain_reasons (attr.Int ty value) simple = (refl, refl)
plain_reasons (attr.Str name) simple = (refl, refl)
plain_reasons (attr.Ty ty) simple = (refl, refl)
plain_reasons attr.Unit simple = (refl, refl)
plain_reasons (attr.Array items) simple = (refl, refl)
plain_reasons (attr.Dict entries) simple = absurd simple
plain_reasons (attr.Sym parts) simple = (refl, refl)
plain_reasons (attr.Dense elem values) simple = (refl, refl)
plain_reasons (attr.Overflow nsw nuw) simple = (refl, refl)
plain_reasons (attr.Opaque text ty) simple = (refl, refl)

full_attr : (node : AttrNode) (c : ContextModel) → IsPlain node → attr_reason node c ≡ Some TooMany → most_things ≤ length c.attrs
full_attr node c simple e =
    let p = plain_reasons node simple in
    elim (either (attr_fault (attr_node_term c node)) _ TooMany e) [
      | inl h ↦ absurd (elim (either (value_reason (attr_node_term c node)) _ TooMany h) [ inl k ↦ fine_value (attr_node_term c node) k | inr k ↦ not_deep _ k ])
      | inr h ↦ elim (either (count_reason node) _ TooMany h) [
        | inl k ↦ (let n : None ≡ Some TooMany = sym p.0 ∙ k in absurd cc)
        | inr k ↦ elim (either (full_reason (same_attr (kept c.names node)) c.attrs) _ TooMany k) [
          | inl l ↦ full_things (same_attr (kept c.names node)) c.attrs l
          | inr l ↦ (let n : None ≡ Some TooMany = sym p.1 ∙ l in absurd cc)
        ]
      ]
    ]

full_type : (node : TypeNode) (c : ContextModel) → type_reason node c ≡ Some TooMany → most_things ≤ length c.types
full_type node c e =
    elim (either (type_fault (type_node_term c node)) _ TooMany e) [
      | inl h ↦ absurd (elim (either (size_reason (type_node_term c node)) _ TooMany h) [ inl k ↦ fine_size (type_node_term c node) k | inr k ↦ not_deep _ k ])
      | inr h ↦ full_things (same_type node) c.types h
    ]

refused_for : {A : Type 0} (reason : Option Refusal) (result : Result A Refusal) → IsRefusedFor reason result → result ≡ Err TooMany → reason ≡ Some TooMany
refused_for None (Ok a) h e = absurd cc
refused_for None (Err r) h e = (let n : r ≡ TooMany = cc in let m : Memory ≡ TooMany = sym h ∙ n in absurd cc)
refused_for (Some r) result h e = (let n : Err r ≡ Err TooMany = sym h ∙ e in cc)

pub no_headroom_attr : (node : AttrNode) (c d : ContextModel) (result : Result ℕ Refusal) → IsPlain node → IsRefusedFor (attr_reason node c) result → result ≡ Err TooMany → d ≡ c → IsCapacityRefusal d Full
no_headroom_attr node c d result simple h e same = inr (refl, inr (subst (λ (z : ContextModel). most_things ≤ length z.attrs) (sym same) (full_attr node c simple (refused_for (attr_reason node c) result h e))))

pub no_headroom_type : (node : TypeNode) (c d : ContextModel) (result : Result ℕ Refusal) → IsRefusedFor (type_reason node c) result → result ≡ Err TooMany → d ≡ c → IsCapacityRefusal d Full
no_headroom_type node c d result h e same = inr (refl, inl (subst (λ (z : ContextModel). most_things ≤ length z.types) (sym same) (full_type node c (refused_for (type_reason node c) result h e))))
