-- Folds of operations with constant operands, and folds in an extended context.
use Rattle.std.proofs.Common.{◌≡◌, ℕ, ◌<◌, ◌^◌, List, [], ◌∷◌, Bool, true, false, map, Some, None, refl, sym, ap, ◌∙◌, arith}
use Rattle.std.specs.Prelude.{◌==◌, Option, if◌then◌else◌}
use Rattle.std.specs.List.{All}
use Rattle.std.specs.Option.{option_map}
use Rattle.std.proofs.lemmas.Bool.Decides.{nat_tests}
use Rattle.ir_types.specs.declared.bits.BitsKind.{BitsKind}
use Rattle.ir_types.specs.declared.bits.BitsKind.TheVariants as kind
use Rattle.ir_types.specs.Things.{ContextModel, IsExtendedBy, IsName, IsType, IsAttr}
use Rattle.ir_types.specs.Terms.{TypeTerm, AttrTerm, name_term, type_term, attr_term}
use Rattle.ir_types.specs.Bits.{width_of}
use Rattle.ir_types.specs.Sound.{Holds}
use Rattle.dialects_int.specs.declared.operations.Arithmetic.{Arithmetic}
use Rattle.dialects_int.specs.declared.operations.Predicate.{Predicate}
use Rattle.dialects_int.specs.declared.operations.Cast.{Cast}
use Rattle.dialects_int.specs.declared.operations.Rule.{Rule}
use Rattle.dialects_int.specs.declared.operations.Rule.TheVariants as rule
use Rattle.dialects_int.specs.Arithmetic.{value_of, absorbs}
use Rattle.dialects_int.specs.Folds.{Known, same_kind, bits_at, or_else, pair_value, fold_by, fold_of, entries_of}
use Rattle.dialects_int.specs.FoldLaws.{Folds, PairFolds, CompareFolds, SelectFolds, ResizeFolds, IndexCastFolds, ConstantFolds, FoldStays}
use Rattle.std.proofs.lemmas.List.Elements.{All-head, All-tail}
use Rattle.ir_types.proofs.Terms.{name_stays, type_stays, attr_stays}
use Rattle.dialects_int.proofs.PairLaws.{absorbed, absorbed_right}

pub same_itself : (k : BitsKind) → same_kind k k ≡ true
same_itself (kind.Int w) = grind (arith, nat_tests)
same_itself kind.Index = refl

at_itself : (k : BitsKind) (a : ℕ) → bits_at k (Some (k, a)) ≡ Some a
at_itself k a = rw (same_itself k) refl

-- the fold is the result of the rule
unfolded : (name : List ℕ) (r : Rule) (props : List (List ℕ × AttrTerm)) (ty : TypeTerm) (k : BitsKind) (operands : List (Option Known)) → Folds name r props ty k → fold_of name props operands (ty ∷ []) ≡ option_map (λ v. (k, v)) (fold_by r props k operands)
unfolding fold_of
unfolded name r props ty k operands f = rw (f.fine, f.by, f.kind) refl

pair_known : (o : Arithmetic) (w a b : ℕ) → a < 2 ^ w → b < 2 ^ w → pair_value o w (Some a) (Some b) ≡ value_of o w a b
pair_known o w a b ha hb = by (absorbs o w a) (absorbs o w b) refl refl
  where
    by : (s t : Bool) → absorbs o w a ≡ s → absorbs o w b ≡ t → or_else (if s then Some a else None) (or_else (if t then Some b else None) (value_of o w a b)) ≡ value_of o w a b
    by true t e f = sym (absorbed o w a b hb e)
    by false true e f = sym (absorbed_right o w a b ha f)
    by false false e f = refl

pub pair_folds : (name : List ℕ) (o : Arithmetic) (props : List (List ℕ × AttrTerm)) (ty : TypeTerm) (k : BitsKind) → Folds name (rule.Binary o) props ty k → PairFolds name o props ty k
pair_folds name o props ty k f a b ha hb =
    unfolded name (rule.Binary o) props ty k (Some (k, a) ∷ Some (k, b) ∷ []) f
    ∙ ap (λ x. option_map (λ v. (k, v)) (pair_value o (width_of k) x (bits_at k (Some (k, b))))) (at_itself k a)
    ∙ ap (λ x. option_map (λ v. (k, v)) (pair_value o (width_of k) (Some a) x)) (at_itself k b)
    ∙ ap (option_map (λ v. (k, v))) (pair_known o (width_of k) a b ha hb)

pub compare_folds : (name : List ℕ) (p : Predicate) (props : List (List ℕ × AttrTerm)) (ty : TypeTerm) → Folds name rule.Compare props ty (kind.Int 1) → CompareFolds name p props ty
compare_folds name p props ty f k a b e =
    unfolded name rule.Compare props ty (kind.Int 1) (Some (k, a) ∷ Some (k, b) ∷ []) f
    ∙ rw (e, same_itself k) refl

pub select_folds : (name : List ℕ) (props : List (List ℕ × AttrTerm)) (ty : TypeTerm) (k : BitsKind) → Folds name rule.Select props ty k → SelectFolds name props ty k
select_folds name props ty k f c a b =
    unfolded name rule.Select props ty k (Some (kind.Int 1, c) ∷ Some (k, a) ∷ Some (k, b) ∷ []) f ∙ ap (option_map (λ v. (k, v))) (by (c == 0))
  where
    by : (t : Bool) → bits_at k (if t then Some (k, b) else Some (k, a)) ≡ Some (if t then b else a)
    by true = at_itself k b
    by false = at_itself k a

pub resize_folds : (name : List ℕ) (c : Cast) (props : List (List ℕ × AttrTerm)) (ty : TypeTerm) (w : ℕ) → Folds name (rule.IntegerCast c) props ty (kind.Int w) → ResizeFolds name c props ty w
resize_folds name c props ty w f v a = unfolded name (rule.IntegerCast c) props ty (kind.Int w) (Some (kind.Int v, a) ∷ []) f

pub index_cast_folds : (name : List ℕ) (c : Cast) (props : List (List ℕ × AttrTerm)) (ty : TypeTerm) (k : BitsKind) → Folds name (rule.IndexCast c) props ty k → IndexCastFolds name c props ty k
index_cast_folds name c props ty k f j a = unfolded name (rule.IndexCast c) props ty k (Some (j, a) ∷ []) f

pub constant_folds : (name : List ℕ) (props : List (List ℕ × AttrTerm)) (ty : TypeTerm) (k : BitsKind) → Folds name rule.Constant props ty k → ConstantFolds name props ty k
constant_folds name props ty k f bits e =
    unfolded name rule.Constant props ty k [] f ∙ rw (e, f.kind, same_itself k) refl

-- ids have the same meanings in an extended context
mapped_same : {A B : Type 0} (P : A → Type 0) (f g : A → B) → ((x : A) → P x → f x ≡ g x) → (xs : List A) → All P xs → map f xs ≡ map g xs
mapped_same P f g each [] h = refl
mapped_same P f g each (x ∷ xs) h = ap (λ y. y ∷ map f xs) (each x (All-head P x xs h)) ∙ ap (λ ys. g x ∷ ys) (mapped_same P f g each xs (All-tail P x xs h))

pub folds_stay : (c d : ContextModel) → Holds c → IsExtendedBy c d → FoldStays c d
folds_stay c d holds grows name props operands results hp hr =
    let entries : entries_of d props ≡ entries_of c props = mapped_same (λ (e : ℕ × ℕ). IsName c e.0 × IsAttr c e.1) (λ (e : ℕ × ℕ). (name_term d e.0, attr_term d e.1)) (λ (e : ℕ × ℕ). (name_term c e.0, attr_term c e.1)) (λ e h i. (name_stays c d e.0 grows h.0 i, attr_stays c d e.1 holds grows h.1 i)) props hp in
    let types : map (type_term d) results ≡ map (type_term c) results = mapped_same (IsType c) (type_term d) (type_term c) (λ t h. type_stays c d t grows h) results hr in
    rw (entries, types) refl
