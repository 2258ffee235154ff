-- An operation doesn't fold without constant operands. With a few exceptions it doesn't fold if an operand isn't a
-- constant.
use Rattle.std.proofs.Common.{◌≡◌, refl, ap, sym, ◌∙◌, ℕ, Bool, true, false, ◌&&◌, ◌||◌, not, List, [], ◌∷◌, map, Option, Some, None, if◌then◌else◌}
use Rattle.std.specs.Prelude.{codes, is_some}
use Rattle.std.specs.List.{list_all, list_any}
use Rattle.std.specs.Option.{option_map}
use Rattle.std.specs.Str.{bytes_eq}
use Rattle.std.proofs.lemmas.Bool.{not-true}
use Rattle.std.proofs.lemmas.Slice.Eq.{bytes_eq-Decides}
use Rattle.ir_event.specs.types.Terms.{TypeTerm, AttrTerm}
use Rattle.ir_event.specs.types.declared.bits.BitsKind.{BitsKind}
use Rattle.ir_event.specs.types.declared.bits.BitsKind.TheVariants as kind
use Rattle.ir_event.specs.trees.declared.place.Place.{Place}
use Rattle.ir_event.specs.trees.declared.value.Value.{Value}
use Rattle.ir_event.specs.trees.Tree.{head}
use Rattle.ir_event.specs.trees.Meaning.{Operation}
use Rattle.ir_event.specs.types.Bits.{width_of}
use Rattle.op_registry.specs.Registry.{next_to}
use Rattle.dialects_int.specs.Arithmetic.{absorbs}
use Rattle.dialects_int.specs.declared.operations.Arithmetic.{Arithmetic}
use Rattle.dialects_int.specs.declared.operations.Arithmetic.TheVariants as op
use Rattle.dialects_int.specs.declared.operations.Predicate.{Predicate}
use Rattle.dialects_int.specs.declared.operations.Rule.{Rule}
use Rattle.dialects_int.specs.declared.operations.Rule.TheVariants.{Constant, Binary, Compare, Select, IntegerCast, IndexCast}
use Rattle.dialects_int.specs.Folds.{Known, alone, requested, bits_at, both, compared, fold_by, fold_of, is_property, kind_of, or_else, pair_fold, pair_value, property_of, rule_of, rules, same_kind, with}
use Rattle.patterns_matchers.proofs.Cleaned.{known_not}
use Rattle.patterns_matchers.specs.Folding.{folded_to, may_read, fold_to_constant}
use Rattle.patterns_matchers.specs.Looks.{is_constant, known, when}
use Rattle.patterns_matchers.specs.Words.{among, named}
use Rattle.patterns_plans.specs.May.{may_fold, partial, reads_constant, reads_constants}

-- operations that fold, except constants, don't fold if no operand is known
other : Rule → Bool
other Constant = false
other _ = true

all_next_to : (name : List ℕ) (rows : List (List ℕ × Rule)) → list_all (λ (row : List ℕ × Rule). other row.1) rows ≡ true → (r : Rule) → next_to name rows ≡ Some r → other r ≡ true
all_next_to name [] a r e = absurd cc
all_next_to name (row ∷ rows) a r e = go (bytes_eq name row.0) (other row.1) refl a e (all_next_to name rows)
  where
    go : (b c : Bool) → other row.1 ≡ c → (c && list_all (λ (row : List ℕ × Rule). other row.1) rows) ≡ true → (if b then Some row.1 else next_to name rows) ≡ Some r
        → (list_all (λ (row : List ℕ × Rule). other row.1) rows ≡ true → (r : Rule) → next_to name rows ≡ Some r → other r ≡ true) → other r ≡ true
    go b false i k f later = absurd cc
    go true true i k f later = let one : row.1 ≡ r = cc in ap other (sym one) ∙ i
    go false true i k f later = later k r f

-- the entries after the first
trailing : List (List ℕ × Rule) → List (List ℕ × Rule)
trailing [] = []
trailing (row ∷ rows) = rows

begins : (name : List ℕ) (rows : List (List ℕ × Rule)) (word : List ℕ) (c r : Rule) (more : List (List ℕ × Rule)) → rows ≡ (word, c) ∷ more → bytes_eq name word ≡ false → next_to name rows ≡ Some r → next_to name more ≡ Some r
begins name rows word c r more e f h = sym (ap (next_to name) e ∙ ap (λ b. if b then Some c else next_to name more) f) ∙ h

rest_is : rules ≡ (codes "arith.constant", Constant) ∷ trailing rules
unfolding rules trailing
rest_is = refl

rest_other : list_all (λ (row : List ℕ × Rule). other row.1) (trailing rules) ≡ true
unfolding rules trailing other
rest_other = refl

others : (name : List ℕ) (r : Rule) → named (codes "arith.constant") name ≡ false → rule_of name ≡ Some r → other r ≡ true
unfolding rule_of
others name r e f = all_next_to name (trailing rules) rest_other r (begins name rules (codes "arith.constant") Constant r (trailing rules) rest_is e f)

-- no operand is known
abbrev nones : List Value → List (Option Known)
nones vs = map (λ v. None) vs

no_comparison : (p : Option Predicate) (b : Bool) → (if b then with (λ q. both (compared q) None None) p else None) ≡ None
no_comparison None true = refl
no_comparison (Some q) true = refl
no_comparison p false = refl

none_folded : (r : Rule) (props : List (List ℕ × AttrTerm)) (k : BitsKind) (vs : List Value) → other r ≡ true → fold_by r props k (nones vs) ≡ None
unfolding other
none_folded Constant props k vs e = absurd cc
none_folded (Binary o) props k [] e = refl
none_folded (Binary o) props k (a ∷ []) e = refl
none_folded (Binary o) props k (a ∷ b ∷ []) e = refl
none_folded (Binary o) props k (a ∷ b ∷ c ∷ vs) e = refl
none_folded Compare props k [] e = refl
none_folded Compare props k (a ∷ []) e = refl
none_folded Compare props k (a ∷ b ∷ []) e = no_comparison (requested (property_of (codes "predicate") props)) (same_kind k (kind.Int 1))
none_folded Compare props k (a ∷ b ∷ c ∷ vs) e = refl
none_folded Select props k [] e = refl
none_folded Select props k (a ∷ []) e = refl
none_folded Select props k (a ∷ b ∷ []) e = refl
none_folded Select props k (a ∷ b ∷ c ∷ []) e = refl
none_folded Select props k (a ∷ b ∷ c ∷ d ∷ vs) e = refl
none_folded (IntegerCast c) props k [] e = refl
none_folded (IntegerCast c) props k (a ∷ []) e = refl
none_folded (IntegerCast c) props k (a ∷ b ∷ vs) e = refl
none_folded (IndexCast c) props k [] e = refl
none_folded (IndexCast c) props k (a ∷ []) e = refl
none_folded (IndexCast c) props k (a ∷ b ∷ vs) e = refl

abbrev paired : BitsKind → ℕ → Known
paired k bits = (k, bits)

no_fold : (name : List ℕ) (props : List (List ℕ × AttrTerm)) (vs : List Value) (tys : List TypeTerm) → named (codes "arith.constant") name ≡ false → fold_of name props (nones vs) tys ≡ None
unfolding fold_of
no_fold name props vs [] e = refl
no_fold name props vs (ty ∷ []) e = go (list_all (is_property name) props) (rule_of name) refl (kind_of ty)
  where
    go : (b : Bool) (o : Option Rule) → rule_of name ≡ o → (q : Option BitsKind) → (if b then with {B = Known} (λ r. with {B = Known} (λ k. option_map (paired k) (fold_by r props k (nones vs))) q) o else None) ≡ None
    go false o i q = refl
    go true None i q = refl
    go true (Some r) i None = refl
    go true (Some r) i (Some k) = ap (option_map (paired k)) (none_folded r props k vs (others name r e i))
no_fold name props vs (ty ∷ u ∷ tys) e = refl

none_known : (t : Operation) (vs : List Value) → list_any (is_constant t) vs ≡ false → map (known t) vs ≡ nones vs
none_known t [] e = refl
none_known t (v ∷ vs) e = go (is_constant t v) refl e (none_known t vs)
  where
    go : (b : Bool) → is_constant t v ≡ b → (b || list_any (is_constant t) vs) ≡ false → (list_any (is_constant t) vs ≡ false → map (known t) vs ≡ nones vs) → map (known t) (v ∷ vs) ≡ nones (v ∷ vs)
    go true i f later = absurd cc
    go false i f later = λ j. sym (known_not t v false (sym i) refl) j ∷ later f j

-- an operation over operands with these known bits doesn't fold
abbrev Unfolded : Operation → List (Option Known) → Type 0
Unfolded o ks = named (codes "arith.constant") (head o).name ≡ false → fold_of (head o).name (head o).properties ks (head o).results ≡ None

never_over : (t : Operation) (n : ℕ) (insertion : Place) (o : Operation) → Unfolded o (map (known t) (head o).operands) → None ≡ fold_to_constant t n insertion o
never_over t n insertion o e = go (named (codes "arith.constant") (head o).name) refl
  where
    never : (tys : List TypeTerm) (a : Bool) → None ≡ when a (folded_to t n insertion o tys None)
    never [] true = refl
    never (ty ∷ []) true = refl
    never (ty ∷ u ∷ tys) true = refl
    never tys false = refl

    go : (b : Bool) → named (codes "arith.constant") (head o).name ≡ b → None ≡ when (not b && list_all (may_read t n insertion o) (head o).operands) (folded_to t n insertion o (head o).results (fold_of (head o).name (head o).properties (map (known t) (head o).operands) (head o).results))
    go true i = refl
    go false i =
        never (head o).results (list_all (may_read t n insertion o) (head o).operands)
        ∙ ap (λ k. when (list_all (may_read t n insertion o) (head o).operands) (folded_to t n insertion o (head o).results k)) (sym (e i))

never_unparsed : (t : Operation) (n : ℕ) (insertion : Place) (o : Operation) → reads_constant t (head o) ≡ false → None ≡ fold_to_constant t n insertion o
never_unparsed t n insertion o e = never_over t n insertion o (λ i.
    ap (λ ks. fold_of (head o).name (head o).properties ks (head o).results) (none_known t (head o).operands e)
    ∙ no_fold (head o).name (head o).properties (head o).operands (head o).results i)

-- operations that aren't partial don't fold if one operand isn't known
lone : Arithmetic → Bool
lone op.Multiply = true
lone op.And = true
lone op.Or = true
lone _ = false

none_absorbed : (o : Arithmetic) → lone o ≡ false → (w a : ℕ) → absorbs o w a ≡ false
unfolding lone absorbs
none_absorbed op.Add e w a = refl
none_absorbed op.Subtract e w a = refl
none_absorbed op.Multiply e w a = absurd cc
none_absorbed op.ShiftLeft e w a = refl
none_absorbed op.DivideSigned e w a = refl
none_absorbed op.DivideUnsigned e w a = refl
none_absorbed op.RemainderSigned e w a = refl
none_absorbed op.RemainderUnsigned e w a = refl
none_absorbed op.And e w a = absurd cc
none_absorbed op.Or e w a = absurd cc
none_absorbed op.ExclusiveOr e w a = refl
none_absorbed op.ShiftRightSigned e w a = refl
none_absorbed op.ShiftRightUnsigned e w a = refl
none_absorbed op.MaximumSigned e w a = refl
none_absorbed op.MaximumUnsigned e w a = refl
none_absorbed op.MinimumSigned e w a = refl
none_absorbed op.MinimumUnsigned e w a = refl

module _ (o : Arithmetic) (few : lone o ≡ false) (w : ℕ) where
  not_alone : (x : Option ℕ) → alone o w x ≡ None
  not_alone None = refl
  not_alone (Some a) = ap (λ b. if b then Some a else None) (none_absorbed o few w a)

  without_first : (y : Option ℕ) → pair_value o w None y ≡ None
  without_first y = ap (λ z. or_else z None) (not_alone y)

  without_second : (x : Option ℕ) → pair_value o w x None ≡ None
  without_second None = refl
  without_second (Some a) = ap (λ z. or_else z None) (not_alone (Some a))

no_pair : (o : Arithmetic) → lone o ≡ false → (k : BitsKind) (ks : List (Option Known)) → list_all is_some ks ≡ false → pair_fold o k ks ≡ None
no_pair o few k [] e = refl
no_pair o few k (x ∷ []) e = refl
no_pair o few k (None ∷ y ∷ []) e = without_first o few (width_of k) (bits_at k y)
no_pair o few k (Some a ∷ None ∷ []) e = without_second o few (width_of k) (bits_at k (Some a))
no_pair o few k (Some a ∷ Some b ∷ []) e = absurd cc
no_pair o few k (x ∷ y ∷ z ∷ ks) e = refl

not_both : (p : Option Predicate) (b : Bool) (x y : Option Known) → list_all is_some (x ∷ y ∷ []) ≡ false → (if b then with (λ q. both (compared q) x y) p else None) ≡ None
not_both p false x y e = refl
not_both None true x y e = refl
not_both (Some q) true None y e = refl
not_both (Some q) true (Some a) None e = refl
not_both (Some q) true (Some a) (Some b) e = absurd cc

whole : Rule → Bool
whole (Binary o) = not (lone o)
whole Select = false
whole _ = true

partly_folded : (r : Rule) (props : List (List ℕ × AttrTerm)) (k : BitsKind) (ks : List (Option Known)) → whole r ≡ true → list_all is_some ks ≡ false → fold_by r props k ks ≡ None
unfolding whole
partly_folded Constant props k [] e f = absurd cc
partly_folded Constant props k (x ∷ ks) e f = refl
partly_folded (Binary o) props k ks e f = no_pair o (not-true (lone o) e) k ks f
partly_folded Compare props k [] e f = refl
partly_folded Compare props k (x ∷ []) e f = refl
partly_folded Compare props k (x ∷ y ∷ []) e f = not_both (requested (property_of (codes "predicate") props)) (same_kind k (kind.Int 1)) x y f
partly_folded Compare props k (x ∷ y ∷ z ∷ ks) e f = refl
partly_folded Select props k ks e f = absurd cc
partly_folded (IntegerCast c) props k [] e f = refl
partly_folded (IntegerCast c) props k (None ∷ []) e f = refl
partly_folded (IntegerCast c) props k (Some a ∷ []) e f = absurd cc
partly_folded (IntegerCast c) props k (x ∷ y ∷ ks) e f = refl
partly_folded (IndexCast c) props k [] e f = refl
partly_folded (IndexCast c) props k (None ∷ []) e f = refl
partly_folded (IndexCast c) props k (Some a ∷ []) e f = absurd cc
partly_folded (IndexCast c) props k (x ∷ y ∷ ks) e f = refl

-- each folding rule of a name that isn't partial is total
firm : List ℕ × Rule → Bool
firm row = whole row.1 || among partial row.0

all_firm : list_all firm rules ≡ true
unfolding rules firm whole lone partial
all_firm = refl

one_firm : (name : List ℕ) (row : List ℕ × Rule) (r : Rule) → name ≡ row.0 → row.1 ≡ r → firm row ≡ true → among partial name ≡ false → whole r ≡ true
unfolding firm
one_firm name row r i j e f = left (whole r) (among partial name) (ap (λ n. whole r || among partial n) i ∙ ap (λ s. whole s || among partial row.0) (sym j) ∙ e) f
  where
    left : (a b : Bool) → (a || b) ≡ true → b ≡ false → a ≡ true
    left true b e f = refl
    left false true e f = absurd cc
    left false false e f = absurd cc

next_to_firm : (name : List ℕ) (rows : List (List ℕ × Rule)) → list_all firm rows ≡ true → among partial name ≡ false → (r : Rule) → next_to name rows ≡ Some r → whole r ≡ true
next_to_firm name [] a few r e = absurd cc
next_to_firm name (row ∷ rows) a few r e = go (bytes_eq name row.0) refl (firm row) refl a e (next_to_firm name rows)
  where
    go : (b : Bool) → bytes_eq name row.0 ≡ b → (c : Bool) → firm row ≡ c → (c && list_all firm rows) ≡ true → (if b then Some row.1 else next_to name rows) ≡ Some r
        → (list_all firm rows ≡ true → among partial name ≡ false → (r : Rule) → next_to name rows ≡ Some r → whole r ≡ true) → whole r ≡ true
    go b i false j k f later = absurd cc
    go true i true j k f later = let one : row.1 ≡ r = cc in one_firm name row r ((bytes_eq-Decides name row.0).0 i) one j few
    go false i true j k f later = later k few r f

rule_whole : (name : List ℕ) (r : Rule) → among partial name ≡ false → rule_of name ≡ Some r → whole r ≡ true
unfolding rule_of
rule_whole name r few e = next_to_firm name rules all_firm few r e

no_partial : (name : List ℕ) (props : List (List ℕ × AttrTerm)) (ks : List (Option Known)) (tys : List TypeTerm) → among partial name ≡ false → list_all is_some ks ≡ false → fold_of name props ks tys ≡ None
unfolding fold_of
no_partial name props ks [] few e = refl
no_partial name props ks (ty ∷ []) few e = go (list_all (is_property name) props) (rule_of name) refl (kind_of ty)
  where
    go : (b : Bool) (o : Option Rule) → rule_of name ≡ o → (q : Option BitsKind) → (if b then with {B = Known} (λ r. with {B = Known} (λ k. option_map (paired k) (fold_by r props k ks)) q) o else None) ≡ None
    go false o i q = refl
    go true None i q = refl
    go true (Some r) i None = refl
    go true (Some r) i (Some k) = ap (option_map (paired k)) (partly_folded r props k ks (rule_whole name r few i) e)
no_partial name props ks (ty ∷ u ∷ tys) few e = refl

one_unknown : (t : Operation) (vs : List Value) → list_all (is_constant t) vs ≡ false → list_all is_some (map (known t) vs) ≡ false
one_unknown t [] e = absurd cc
one_unknown t (v ∷ vs) e = go (is_constant t v) refl e (one_unknown t vs)
  where
    ends : (b c : Bool) → c ≡ false → (b && c) ≡ false
    ends true c e = e
    ends false c e = refl

    go : (b : Bool) → is_constant t v ≡ b → (b && list_all (is_constant t) vs) ≡ false → (list_all (is_constant t) vs ≡ false → list_all is_some (map (known t) vs) ≡ false) → list_all is_some (map (known t) (v ∷ vs)) ≡ false
    go true i f later = ends (is_some (known t v)) (list_all is_some (map (known t) vs)) (later f)
    go false i f later = ap (λ k. is_some k && list_all is_some (map (known t) vs)) (sym (known_not t v false (sym i) refl))

never_partly : (t : Operation) (n : ℕ) (insertion : Place) (o : Operation) → among partial (head o).name ≡ false → reads_constants t (head o) ≡ false → None ≡ fold_to_constant t n insertion o
never_partly t n insertion o few e = never_over t n insertion o (λ i.
    no_partial (head o).name (head o).properties (map (known t) (head o).operands) (head o).results few (one_unknown t (head o).operands e))

pub never_fold_to_constant : (t : Operation) (n : ℕ) (insertion : Place) (o : Operation) → may_fold t (head o) ≡ false → None ≡ fold_to_constant t n insertion o
never_fold_to_constant t n insertion o e = go (among partial (head o).name) refl e
  where
    go : (b : Bool) → among partial (head o).name ≡ b → (if b then reads_constant t (head o) else reads_constants t (head o)) ≡ false → None ≡ fold_to_constant t n insertion o
    go true i f = never_unparsed t n insertion o f
    go false i f = never_partly t n insertion o i f
