-- The meaning of new operations.
use Rattle.std.proofs.Common.{◌≡◌, refl, ap, sym, subst, ℕ, ◌&&◌, List, [], ◌∷◌, true, false, Option, Some, None, codes, lt-ltb}
use Rattle.std.specs.Prelude.{if◌then◌else◌}
use Rattle.ir_event.specs.types.Things.{ContextModel}
use Rattle.ir_event.specs.types.Terms.{TypeTerm, AttrTerm, IntegerOf, Overflow}
use Rattle.ir_event.specs.types.Sound.{IsSound}
use Rattle.ir_event.specs.types.declared.word.Word.TheVariants.{ArithConstant, ArithCmpi, ArithSelect, Value as ValueKey, OverflowFlags, Predicate}
use Rattle.ir_event.specs.trees.Tree.{Op, op, no_regions, regions}
use Rattle.ir_event.specs.trees.Meaning.{Operation, IsSoundIn, meaning}
use Rattle.ir_event.specs.trees.declared.value.Value.{Value}
use Rattle.ir_event.specs.tree_laws.Reasons.{hold_none}
use Rattle.patterns_laws.specs.Words.{among, flagged}
use Rattle.patterns_laws.specs.Made.{i1, i64, binary, cast, choice, comparison, constant, flags, made}
use Rattle.patterns.specs.Interned.{IsNameOf, IsTypeOf, IsAttrOf, FlagsOf}
use Rattle.patterns.specs.New.{new_op, new_constant, new_binary, new_comparison, new_choice, new_cast}
use Rattle.patterns.proofs.Numbers.{word_is_name}

-- a new operation is sound in a context, has nothing inside its blocks, and means an operation with terms
pub record Stands (c : ContextModel) (o : Op) (q : Operation) : Type 0 where
  pub means : meaning c o ≡ q
  pub sound : IsSoundIn c o
  pub bare : hold_none (regions o) ≡ true

module _ (c : ContextModel) (name : ℕ) (bytes : List ℕ) (ty : ℕ) (term : TypeTerm) (operands : List Value) (n : IsNameOf c name bytes) (t : IsTypeOf c ty term) where
  bare_stands : Stands c (new_op name operands ty None) (made bytes operands term [])
  bare_stands =
      record {
        means = λ i. op (record { id = 0; name = n.1 i; operands = operands; results = t.1 i ∷ []; properties = []; attributes = [] }) no_regions;
        sound = record { known = λ i. ((lt-ltb _ _ n.0 i && ((lt-ltb _ _ t.0 i && true) && (true && true))) && true) && true; sorted = refl };
        bare = refl;
      }

  entry_stands : (k a : ℕ) (key : List ℕ) (value : AttrTerm) → IsNameOf c k key → IsAttrOf c a value → Stands c (new_op name operands ty (Some (k, a))) (made bytes operands term ((key, value) ∷ []))
  entry_stands k a key value at of =
      record {
        means = λ i. op (record { id = 0; name = n.1 i; operands = operands; results = t.1 i ∷ []; properties = (at.1 i, of.1 i) ∷ []; attributes = [] }) no_regions;
        sound = record { known = λ i. ((lt-ltb _ _ n.0 i && ((lt-ltb _ _ t.0 i && true) && (((lt-ltb _ _ at.0 i && lt-ltb _ _ of.0 i) && true) && true))) && true) && true; sorted = refl };
        bare = refl;
      }

flags_unset : (name : List ℕ) → among flagged name ≡ false → flags name ≡ []
flags_unset name e = ap (λ b. if b then (codes "overflowFlags", Overflow false false) ∷ [] else []) e

pub flags_set : (name : List ℕ) → among flagged name ≡ true → flags name ≡ (codes "overflowFlags", Overflow false false) ∷ []
flags_set name e = ap (λ b. if b then (codes "overflowFlags", Overflow false false) ∷ [] else []) e

pub addi_flagged : among flagged (codes "arith.addi") ≡ true
unfolding flagged
addi_flagged = refl

pub subi_flagged : among flagged (codes "arith.subi") ≡ true
unfolding flagged
subi_flagged = refl

pub muli_flagged : among flagged (codes "arith.muli") ≡ true
unfolding flagged
muli_flagged = refl

pub xori_unflagged : among flagged (codes "arith.xori") ≡ false
unfolding flagged
xori_unflagged = refl

module _ (c : ContextModel) (sound : IsSound c) where
  pub comparison_stands : (truth : ℕ) → IsTypeOf c truth i1 → (a p : ℕ) → IsAttrOf c a (IntegerOf i64 p) → (v w : Value) → Stands c (new_comparison truth a v w) (comparison p v w)
  comparison_stands truth of a p asks v w = entry_stands c _ _ truth i1 (v ∷ w ∷ []) (word_is_name c ArithCmpi sound refl) of _ a _ _ (word_is_name c Predicate sound refl) asks

  module _ (ty : ℕ) (term : TypeTerm) (t : IsTypeOf c ty term) where
    pub choice_stands : (v a b : Value) → Stands c (new_choice ty v a b) (choice term v a b)
    choice_stands v a b = bare_stands c _ _ ty term _ (word_is_name c ArithSelect sound refl) t

    pub cast_stands : (name : ℕ) (bytes : List ℕ) → IsNameOf c name bytes → (v : Value) → Stands c (new_cast name ty v) (cast bytes term v)
    cast_stands name bytes n v = bare_stands c name bytes ty term (v ∷ []) n t

    pub constant_stands : (a bits : ℕ) → IsAttrOf c a (IntegerOf term bits) → Stands c (new_constant ty a) (constant term bits)
    constant_stands a bits of = entry_stands c _ _ ty term [] (word_is_name c ArithConstant sound refl) t _ a _ _ (word_is_name c ValueKey sound refl) of

    pub binary_stands : (name : ℕ) (bytes : List ℕ) (a b : Value) (set : Option ℕ) → IsNameOf c name bytes → FlagsOf c bytes set → Stands c (new_binary name ty a b set) (binary bytes term a b)
    binary_stands name bytes a b None n f = subst (λ es. Stands c (new_binary name ty a b None) (made bytes (a ∷ b ∷ []) term es)) (sym (flags_unset bytes f)) (bare_stands c name bytes ty term (a ∷ b ∷ []) n t)
    binary_stands name bytes a b (Some k) n f =
        subst (λ es. Stands c (new_binary name ty a b (Some k)) (made bytes (a ∷ b ∷ []) term es)) (sym (flags_set bytes f.0))
        (entry_stands c name bytes ty term (a ∷ b ∷ []) n t _ k _ _ (word_is_name c OverflowFlags sound refl) f.1)
