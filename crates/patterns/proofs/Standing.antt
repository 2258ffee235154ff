-- The meaning of the edits that insert new operations.
use Rattle.std.proofs.Common.{◌≡◌, refl, sym, subst, ℕ, List, [], ◌∷◌, false, Option, Some, None, codes}
use Rattle.ir_event.specs.types.Things.{ContextModel}
use Rattle.ir_event.specs.types.Terms.{TypeTerm, IntegerOf, Overflow}
use Rattle.ir_event.specs.types.Sound.{IsSound}
use Rattle.ir_event.specs.types.declared.word.Word.TheVariants.{ArithAddi, ArithMuli, ArithSubi, ArithXori, Predicate}
use Rattle.ir_event.specs.trees.Tree.{Op}
use Rattle.ir_event.specs.trees.Meaning.{Operation}
use Rattle.ir_event.specs.trees.declared.value.Value.{Value}
use Rattle.ir_event.specs.trees.declared.place.Place.{Place}
use Rattle.patterns_base.specs.Contents.{Edit}
use Rattle.patterns_base.specs.Edits as edit
use Rattle.patterns_base.specs.declared.edit.Edit.{Edit as Coded}
use Rattle.patterns_base.specs.declared.edit.Edit.TheVariants as coded
use Rattle.patterns_soundness.specs.base.Made.{i1, i64, cast}
use Rattle.patterns_soundness.specs.base.Makes.{give, give_constant, give_new}
use Rattle.patterns_plans.specs.reads.Plans.{choosing, combined, dividing_by, mirroring, subtracting}
use Rattle.patterns.specs.Interned.{IsNameOf, IsTypeOf, IsAttrOf, FlagsOf, DifferenceAttrs}
use Rattle.patterns.specs.Making.{EditsDenote}
use Rattle.patterns.specs.Numbered.{giving, constant_edits, cast_edits, combined_edits, mirrored_edits, chosen_edits, difference_edits, remainder_edits}
use Rattle.patterns.specs.declared.insertion_point.InsertionPoint.{InsertionPoint}
use Rattle.patterns.proofs.Numbers.{word_is_name}
use Rattle.patterns.proofs.Leaves.{Stands, addi_flagged, subi_flagged, muli_flagged, xori_unflagged, binary_stands, cast_stands, choice_stands, comparison_stands, constant_stands}

-- edits one after another
first_stands : (c : ContextModel) (insertion : Place) (o : Op) (q : Operation) (es : List Coded) (edits : List Edit) → Stands c o q → EditsDenote c es edits → EditsDenote c (coded.Make insertion o ∷ es) (edit.Make insertion q ∷ edits)
first_stands c insertion o q es edits s rest = record { meaning = λ i. edit.Make insertion (s.means i) ∷ rest.meaning i; fits_in = ((s.sound, s.bare), rest.fits_in) }

module _ (c : ContextModel) (sound : IsSound c) (s : InsertionPoint) where
  given_stands : (v : Value) → EditsDenote c (giving s v) (give s.op v)
  given_stands v = record { meaning = refl; fits_in = (tt, (tt, tt)) }

  module _ (ty : ℕ) (term : TypeTerm) (t : IsTypeOf c ty term) where
    pub constant_edits_stand : (a bits : ℕ) → IsAttrOf c a (IntegerOf term bits) → (es : List Coded) → es ≡ constant_edits s ty a → EditsDenote c es (give_constant s.point s.next s.op term bits)
    constant_edits_stand a bits of es is = subst (λ z. EditsDenote c z (give_constant s.point s.next s.op term bits)) (sym is) (first_stands c s.point _ _ _ _ (constant_stands c sound ty term t a bits of) (given_stands _))

    pub cast_edits_stand : (name : ℕ) (bytes : List ℕ) → IsNameOf c name bytes → (v : Value) (es : List Coded) → es ≡ cast_edits s name ty v → EditsDenote c es (give_new s.point s.next s.op (cast bytes term v))
    cast_edits_stand name bytes n v es is = subst (λ z. EditsDenote c z (give_new s.point s.next s.op (cast bytes term v))) (sym is) (first_stands c s.point _ _ _ _ (cast_stands c sound ty term t name bytes n v) (given_stands _))

    pub combined_edits_stand : (name : ℕ) (bytes : List ℕ) → IsNameOf c name bytes → (a bits : ℕ) → IsAttrOf c a (IntegerOf term bits) → (set : Option ℕ) → FlagsOf c bytes set → (v : Value) (es : List Coded) → es ≡ combined_edits s name ty v a set
        → EditsDenote c es (combined s.next s.op s.point bytes term v bits)
    combined_edits_stand name bytes n a bits of set f v es is =
        subst (λ z. EditsDenote c z (combined s.next s.op s.point bytes term v bits)) (sym is)
        (first_stands c s.point _ _ _ _ (constant_stands c sound ty term t a bits of) (first_stands c s.point _ _ _ _ (binary_stands c sound ty term t name bytes v _ set n f) (given_stands _)))

    pub chosen_edits_stand : (truth : ℕ) → IsTypeOf c truth i1 → (a p : ℕ) → IsAttrOf c a (IntegerOf i64 p) → (v w : Value) (es : List Coded) → es ≡ chosen_edits s truth a ty v w → EditsDenote c es (choosing s.next s.op s.point p term v w)
    chosen_edits_stand truth of a p asks v w es is =
        subst (λ z. EditsDenote c z (choosing s.next s.op s.point p term v w)) (sym is)
        (first_stands c s.point _ _ _ _ (comparison_stands c sound truth of a p asks v w)
        (first_stands c s.point _ _ _ _ (choice_stands c sound ty term t _ v w) (given_stands _)))

    pub difference_edits_stand : (ones one set bits : ℕ) → DifferenceAttrs c term bits (ones, one, set) → (v w : Value) (es : List Coded) → es ≡ difference_edits s ty v w ones one set → EditsDenote c es (subtracting s.next s.op s.point term v w bits)
    difference_edits_stand ones one set bits d v w es is =
        let addi : FlagsOf c (codes "arith.addi") (Some set) = (addi_flagged, d.2) in
        subst (λ z. EditsDenote c z (subtracting s.next s.op s.point term v w bits)) (sym is)
        (first_stands c s.point _ _ _ _ (constant_stands c sound ty term t ones bits d.0)
        (first_stands c s.point _ _ _ _ (binary_stands c sound ty term t _ _ w _ None (word_is_name c ArithXori sound refl) xori_unflagged)
        (first_stands c s.point _ _ _ _ (constant_stands c sound ty term t one 1 d.1)
        (first_stands c s.point _ _ _ _ (binary_stands c sound ty term t _ _ _ _ (Some set) (word_is_name c ArithAddi sound refl) addi)
        (first_stands c s.point _ _ _ _ (binary_stands c sound ty term t _ _ v _ (Some set) (word_is_name c ArithAddi sound refl) addi) (given_stands _))))))

    pub remainder_edits_stand : (division : ℕ) (bytes : List ℕ) → IsNameOf c division bytes → (set : Option ℕ) → FlagsOf c bytes set → (a : ℕ) → IsAttrOf c a (Overflow false false) → (v w : Value) (es : List Coded) → es ≡ remainder_edits s division ty v w set a
        → EditsDenote c es (dividing_by s.next s.op s.point bytes term v w)
    remainder_edits_stand division bytes n set f a of v w es is =
        subst (λ z. EditsDenote c z (dividing_by s.next s.op s.point bytes term v w)) (sym is)
        (first_stands c s.point _ _ _ _ (binary_stands c sound ty term t division bytes v w set n f)
        (first_stands c s.point _ _ _ _ (binary_stands c sound ty term t _ _ _ w (Some a) (word_is_name c ArithMuli sound refl) (muli_flagged, of))
        (first_stands c s.point _ _ _ _ (binary_stands c sound ty term t _ _ v _ (Some a) (word_is_name c ArithSubi sound refl) (subi_flagged, of)) (given_stands _))))

  pub mirrored_edits_stand : (a p : ℕ) → IsAttrOf c a (IntegerOf i64 p) → (v w : Value) (es : List Coded) → es ≡ mirrored_edits s a v w → EditsDenote c es (mirroring s.op p v w)
  mirrored_edits_stand a p of v w es is =
      let key = word_is_name c Predicate sound refl in
      subst (λ z. EditsDenote c z (mirroring s.op p v w)) (sym is)
      (record {
        meaning = λ i. edit.SetAttr s.op (key.1 i) (of.1 i) ∷ edit.SetOperand s.op 0 v ∷ edit.SetOperand s.op 1 w ∷ [];
        fits_in = ((key.0, of.0), (tt, (tt, tt)));
      })
