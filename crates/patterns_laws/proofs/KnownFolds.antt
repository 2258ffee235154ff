-- Folds over values of known kinds: their results, and when they are defined.
use Rattle.std.proofs.Common.{◌≡◌, ℕ, ◌<◌, ◌≤◌, ◌^◌, List, [], ◌∷◌, true, Some, None, refl, sym, ap, ◌∙◌, arith}
use Rattle.std.specs.Prelude.{Option, codes}
use Rattle.std.specs.List.{list_all}
use Rattle.std.specs.Option.{option_map}
use Rattle.std.proofs.lemmas.Bool.Decides.{nat_tests}
use Rattle.ir_types.specs.declared.bits.BitsKind.{BitsKind}
use Rattle.ir_types.specs.declared.bits.BitsKind.TheVariants as kind
use Rattle.ir_types.specs.Terms.{TypeTerm}
use Rattle.ir_types.specs.Bits.{width_of, type_of}
use Rattle.ir_types.specs.Words.{is_inherent, operations}
use Rattle.op_registry.specs.Properties.{is_allowed, is_of_kind, property_kinds}
use Rattle.op_registry.specs.Properties as property_kind
use Rattle.dialects_int.specs.declared.operations.Arithmetic.{Arithmetic}
use Rattle.dialects_int.specs.declared.operations.Arithmetic.TheVariants as op
use Rattle.dialects_int.specs.declared.operations.Rule.TheVariants as rule
use Rattle.dialects_int.specs.Arithmetic.{value_of}
use Rattle.dialects_int.specs.Folds.{Known, kind_of, rule_of, rules, is_property, property_of, fold_of}
use Rattle.dialects_int.proofs.KnownOperands.{pair_folds, constant_folds}
use Rattle.patterns_laws.specs.Made.{Entries, constant, value_entry, given_by, gives}
use Rattle.patterns_laws.specs.Keeps.{IsOf, given}
use Rattle.std.proofs.lemmas.Option.{same_Some}

pub some_bits : (k : BitsKind) (a : ℕ) → IsOf k a → 1 ≤ width_of k
some_bits k a h = grind (arith, nat_tests)

pub below : (k : BitsKind) (a : ℕ) → IsOf k a → a < 2 ^ width_of k
below k a h = grind (arith, nat_tests)

pub kind_back : (k : BitsKind) → kind_of (type_of k) ≡ Some k
kind_back (kind.Int w) = refl
kind_back kind.Index = refl

value_there : (ty : TypeTerm) (n : ℕ) → property_of (codes "value") (value_entry ty n) ≡ Some (ty, n)
value_there ty n = refl

-- a fold is defined only if the properties are right
pub fine_of : (name : List ℕ) (p : Entries) (operands : List (Option Known)) (ty : TypeTerm) (v : Known) → fold_of name p operands (ty ∷ []) ≡ Some v → list_all (is_property name) p ≡ true
unfolding fold_of
fine_of name p operands ty v = grind (arith)

-- the result of arithmetic on two values
pub pair_gives : (name : List ℕ) (o : Arithmetic) (p : Entries) (k : BitsKind) (a b n : ℕ) → rule_of name ≡ Some (rule.Binary o) → list_all (is_property name) p ≡ true → a < 2 ^ width_of k → b < 2 ^ width_of k → value_of o (width_of k) a b ≡ Some n
    → given_by name p (type_of k) ((k, a) ∷ (k, b) ∷ []) ≡ Some (k, n)
pair_gives name o p k a b n r fine ha hb e =
    pair_folds name o p (type_of k) k (record { by = r; fine = fine; kind = kind_back k }) a b ha hb ∙ ap (option_map (λ v. (k, v))) e

-- the operands of a result
pub record PairGave (o : Arithmetic) (name : List ℕ) (p : Entries) (k : BitsKind) (a b : ℕ) (v : Known) : Type 0 where
  pub number : ℕ
  pub is : value_of o (width_of k) a b ≡ Some number
  pub whole : (k, number) ≡ v
  pub fine : list_all (is_property name) p ≡ true

pub mapped_some : (k : BitsKind) (x : Option ℕ) (v : Known) → option_map (λ n. (k, n)) x ≡ Some v → (n : ℕ) × (x ≡ Some n) × ((k, n) ≡ v)
mapped_some k None v h = absurd (grind arith)
mapped_some k (Some n) v h = (n, refl, grind arith)

pub pair_gave : (name : List ℕ) (o : Arithmetic) (p : Entries) (k : BitsKind) (a b : ℕ) (v : Known) → rule_of name ≡ Some (rule.Binary o) → a < 2 ^ width_of k → b < 2 ^ width_of k
    → given_by name p (type_of k) ((k, a) ∷ (k, b) ∷ []) ≡ Some v → PairGave o name p k a b v
pair_gave name o p k a b v r ha hb h =
    let fine : list_all (is_property name) p ≡ true = fine_of name p (Some (k, a) ∷ Some (k, b) ∷ []) (type_of k) v h in
    let by : (n : ℕ) × (value_of o (width_of k) a b ≡ Some n) × ((k, n) ≡ v) =
    mapped_some k (value_of o (width_of k) a b) v (sym (pair_folds name o p (type_of k) k (record { by = r; fine = fine; kind = kind_back k }) a b ha hb) ∙ h) in
    record { number = by.0; is = by.1; whole = by.2; fine = fine }

-- ---- results of nested operations
pub given_some : {X Y : Type 0} (x : Option X) (f : X → Option Y) (v : Y) → given x f ≡ Some v → (y : X) × (x ≡ Some y) × (f y ≡ Some v)
given_some None f v h = absurd (grind arith)
given_some (Some y) f v h = (y, refl, h)

pub given_at : {X Y : Type 0} (x : Option X) (y : X) (f : X → Option Y) (r : Option Y) → x ≡ Some y → f y ≡ r → given x f ≡ r
given_at x y f r e h = ap (λ z. given z f) e ∙ h

pub by_exclusive_or : rule_of (codes "arith.xori") ≡ Some (rule.Binary op.ExclusiveOr)
unfolding rule_of rules
by_exclusive_or = refl

by_constant : rule_of (codes "arith.constant") ≡ Some rule.Constant
unfolding rule_of rules
by_constant = refl

value_fine : (ty : TypeTerm) (n : ℕ) → list_all (is_property (codes "arith.constant")) (value_entry ty n) ≡ true
unfolding is_inherent operations is_allowed is_of_kind property_kind.kind_of property_kinds
value_fine ty n = refl

-- a constant gives its value
pub constant_gives : (k : BitsKind) (n : ℕ) → gives (constant (type_of k) n) [] ≡ Some (k, n)
constant_gives k n = constant_folds (codes "arith.constant") (value_entry (type_of k) n) (type_of k) k (record { by = by_constant; fine = value_fine (type_of k) n; kind = kind_back k }) n (value_there (type_of k) n)
