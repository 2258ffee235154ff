-- The rules keep values: what each rule states about folds. For all operand values for which the old operations fold,
-- the new ones fold to the same value.
use Rattle.std.specs.Prelude.{◌≡◌, ℕ, ◌<◌, ◌≤◌, List, [], ◌∷◌, codes, map, eqb, IsTrue, if◌then◌else◌, slice_index_or}
use Rattle.std.specs.Prelude.{Option, Some, None}
use Rattle.std.specs.List.{list_any}
use Rattle.ir_types.specs.declared.bits.BitsKind.{BitsKind}
use Rattle.ir_types.specs.declared.bits.BitsKind.TheVariants as kind
use Rattle.ir_types.specs.Terms.{TypeTerm, Index}
use Rattle.ir_types.specs.Bits.{is_bits, width_of, type_of}
use Rattle.dialects_int.specs.Arithmetic.{all_ones, difference_of, choice_of}
use Rattle.dialects_int.specs.Folds.{Known, KnowsMore, fold_of}
use Rattle.patterns_laws.specs.Made.{Entries, i1, i64, constant, value_entry, predicate_entry, flags, given_by, gives}

-- a number is the bits of a value of a kind
abbrev pub IsOf : BitsKind → ℕ → Type 0
IsOf k a = IsTrue (is_bits k a)

-- a value of i1
abbrev pub truth_kind : BitsKind
truth_kind = kind.Int 1

-- a function of an optional value, if the value exists
abbrev pub given : {X Y : Type 0} → Option X → (X → Option Y) → Option Y
given None f = None
given (Some x) f = f x

-- the result of a comparison of a value and itself, by the number of its predicate
abbrev pub is_true_when_equal : ℕ → ℕ
is_true_when_equal p = if list_any (eqb p) (0 ∷ 3 ∷ 5 ∷ 7 ∷ 9 ∷ []) then 1 else 0

-- the predicate that gives the same result for swapped operands
abbrev pub swapped_predicate : ℕ → ℕ
swapped_predicate p = slice_index_or (0 ∷ 1 ∷ 4 ∷ 5 ∷ 2 ∷ 3 ∷ 8 ∷ 9 ∷ 6 ∷ 7 ∷ []) p p

-- a property of each element of a list
abbrev pub Each : {X : Type 0} → (X → Type 0) → List X → Type 0
Each P [] = Unit {0}
Each P (x ∷ xs) = P x × Each P xs

-- `fold-to-constant`: the constant to which an operation folds over its known operands, for any values of the others
abbrev pub Folding : Type 0
Folding = (name : List ℕ) (p : Entries) (ty : TypeTerm) (some : List (Option Known)) (values : List Known) (c v : Known)
    → KnowsMore some (map Some values) → fold_of name p some (ty ∷ []) ≡ Some c → given_by name p ty values ≡ Some v
    → gives (constant ty c.1) [] ≡ Some v

-- a property of two values of a kind, of properties, and of the result of the old operations
abbrev OfTwo : (BitsKind → Entries → ℕ → ℕ → Known → Type 0) → Type 0
OfTwo P = (k : BitsKind) (p : Entries) (a b : ℕ) (v : Known) → IsOf k a → IsOf k b → P k p a b v

-- the same for one value
abbrev OfOne : (BitsKind → Entries → ℕ → Known → Type 0) → Type 0
OfOne P = (k : BitsKind) (p : Entries) (a : ℕ) (v : Known) → IsOf k a → P k p a v

-- `swap-constant`: an operation with swapped operands gives the same result
abbrev pub Swapping : List ℕ → Type 0
Swapping name = OfTwo (λ k p a b v. given_by name p (type_of k) ((k, a) ∷ (k, b) ∷ []) ≡ Some v
    → given_by name p (type_of k) ((k, b) ∷ (k, a) ∷ []) ≡ Some v)

-- `drop-zero` and `drop-one`: an operation with a second operand n, 0 or 1, gives its first operand
abbrev pub Ignoring : ℕ → List ℕ → Type 0
Ignoring n name = OfOne (λ k p a v. given_by name p (type_of k) ((k, a) ∷ (k, n) ∷ []) ≡ Some v → (k, a) ≡ v)

-- `drop-all-ones`: a conjunction with all ones gives its first operand
abbrev pub IgnoringOnes : Type 0
IgnoringOnes =
    OfOne (λ k p a v. given_by (codes "arith.andi") p (type_of k) ((k, a) ∷ (k, all_ones (width_of k)) ∷ []) ≡ Some v
    → (k, a) ≡ v)

-- `cancel-itself`: an operation on a value and itself gives 0
abbrev pub Cancelling : List ℕ → Type 0
Cancelling name = OfOne (λ k p a v. given_by name p (type_of k) ((k, a) ∷ (k, a) ∷ []) ≡ Some v
    → gives (constant (type_of k) 0) [] ≡ Some v)

-- `keep-itself`: an operation on a value and itself gives the value
abbrev pub KeepingItself : List ℕ → Type 0
KeepingItself name = OfOne (λ k p a v. given_by name p (type_of k) ((k, a) ∷ (k, a) ∷ []) ≡ Some v → (k, a) ≡ v)

-- `zero-remainder`: a remainder by 1 is 0
abbrev pub LeavingNothing : List ℕ → Type 0
LeavingNothing name = OfOne (λ k p a v. given_by name p (type_of k) ((k, a) ∷ (k, 1) ∷ []) ≡ Some v
    → gives (constant (type_of k) 0) [] ≡ Some v)

-- `regroup-constants`: (a op c) op d is a op (c op d)
abbrev pub Regrouping : List ℕ → Type 0
Regrouping name = (k : BitsKind) (p q : Entries) (a c d : ℕ) (v : Known) → IsOf k a → IsOf k c → IsOf k d
    → given (given_by name p (type_of k) ((k, a) ∷ (k, c) ∷ []))
    (λ y. given_by name q (type_of k) (y ∷ (k, d) ∷ [])) ≡ Some v
    → given (given_by name [] (type_of k) ((k, c) ∷ (k, d) ∷ []))
    (λ n. given (gives (constant (type_of k) n.1) [])
    (λ e. given_by name (flags name) (type_of k) ((k, a) ∷ e ∷ []))) ≡ Some v

-- `add-negative`: a - c is a + (-c)
abbrev pub AddingTheNegative : Type 0
AddingTheNegative = OfTwo (λ k p a c v. given_by (codes "arith.subi") p (type_of k) ((k, a) ∷ (k, c) ∷ []) ≡ Some v
    → given (gives (constant (type_of k) (difference_of (width_of k) 0 c)) [])
    (λ e. given_by (codes "arith.addi") (flags (codes "arith.addi")) (type_of k) ((k, a) ∷ e ∷ [])) ≡ Some v)

-- `compare-itself`: the predicate determines the result of a comparison of a value and itself
abbrev pub ComparingItself : Type 0
ComparingItself = (k : BitsKind) (n a : ℕ) (v : Known)
    → given_by (codes "arith.cmpi") (predicate_entry n) i1 ((k, a) ∷ (k, a) ∷ []) ≡ Some v
    → gives (constant i1 (is_true_when_equal n)) [] ≡ Some v

-- `mirror-comparison`: a comparison of swapped operands with the mirrored predicate gives the same result
abbrev pub Mirroring : Type 0
Mirroring = (k : BitsKind) (n a b : ℕ) (v : Known)
    → given_by (codes "arith.cmpi") (predicate_entry n) i1 ((k, a) ∷ (k, b) ∷ []) ≡ Some v
    → given_by (codes "arith.cmpi") (predicate_entry (swapped_predicate n)) i1 ((k, b) ∷ (k, a) ∷ []) ≡ Some v

-- `compare-zero`: a comparison with 0, with predicate n, gives c
abbrev pub NotBelowZero : ℕ → ℕ → Type 0
NotBelowZero n c = (k : BitsKind) (a : ℕ) (v : Known)
    → given_by (codes "arith.cmpi") (predicate_entry n) i1 ((k, a) ∷ (k, 0) ∷ []) ≡ Some v
    → gives (constant i1 c) [] ≡ Some v

-- a property of a select between two values of a kind, with a truth value as condition
abbrev OfChoice : (BitsKind → Entries → ℕ → ℕ → ℕ → Known → Type 0) → Type 0
OfChoice P = (k : BitsKind) (p : Entries) (c a b : ℕ) (v : Known) → IsOf truth_kind c → P k p c a b v

-- `choose-same`: a select between a value and itself is the value
abbrev pub ChoosingOne : Type 0
ChoosingOne = OfChoice (λ k p c a b v.
    given_by (codes "arith.select") p (type_of k) ((truth_kind, c) ∷ (k, a) ∷ (k, a) ∷ []) ≡ Some v → (k, a) ≡ v)

-- `choose-known`: a select with a constant condition is the selected value
abbrev pub ChoosingByConstant : Type 0
ChoosingByConstant = OfChoice (λ k p c a b v.
    given_by (codes "arith.select") p (type_of k) ((truth_kind, c) ∷ (k, a) ∷ (k, b) ∷ []) ≡ Some v
    → (k, choice_of c a b) ≡ v)

-- `choose-truth`: a select between true and false is its condition
abbrev pub ChoosingTruth : Type 0
ChoosingTruth = (p : Entries) (c : ℕ) (v : Known) → IsOf truth_kind c
    → given_by (codes "arith.select") p i1 ((truth_kind, c) ∷ (truth_kind, 1) ∷ (truth_kind, 0) ∷ []) ≡ Some v
    → (truth_kind, c) ≡ v

-- `choose-opposite`: a select on a negated condition is the select on the condition with swapped values
abbrev pub ChoosingByOpposite : Type 0
ChoosingByOpposite = (k : BitsKind) (p q : Entries) (c a b : ℕ) (v : Known) → IsOf truth_kind c
    → given (given_by (codes "arith.xori") p i1 ((truth_kind, c) ∷ (truth_kind, 1) ∷ []))
    (λ y. given_by (codes "arith.select") q (type_of k) (y ∷ (k, a) ∷ (k, b) ∷ [])) ≡ Some v
    → given_by (codes "arith.select") q (type_of k) ((truth_kind, c) ∷ (k, b) ∷ (k, a) ∷ []) ≡ Some v

-- a cast of a cast: from a kind to a second one, and from there to a third
abbrev twice : List ℕ → List ℕ → Entries → Entries → BitsKind → BitsKind → BitsKind → ℕ → Option Known
twice inner outer p q i j k a =
    given (given_by inner p (type_of j) ((i, a) ∷ [])) (λ y. given_by outer q (type_of k) (y ∷ []))

-- `extend-extension`: an extension of an extension is one extension
abbrev pub Extending : List ℕ → List ℕ → List ℕ → Type 0
Extending inner outer new = (u v w : ℕ) (p q : Entries) (a : ℕ) (z : Known) → u < v → v < w → IsOf (kind.Int u) a
    → twice inner outer p q (kind.Int u) (kind.Int v) (kind.Int w) a ≡ Some z
    → given_by new [] (type_of (kind.Int w)) ((kind.Int u, a) ∷ []) ≡ Some z

-- `cut-cast`: a truncation of a truncation is one truncation
abbrev pub CuttingTwice : Type 0
CuttingTwice = (u v w : ℕ) (p q : Entries) (a : ℕ) (z : Known)
    → twice (codes "arith.trunci") (codes "arith.trunci") p q (kind.Int u) (kind.Int v) (kind.Int w) a ≡ Some z
    → given_by (codes "arith.trunci") [] (type_of (kind.Int w)) ((kind.Int u, a) ∷ []) ≡ Some z

-- `cut-cast`: a truncation of an extension back to the source width is the source
abbrev pub CuttingBack : List ℕ → Type 0
CuttingBack name = (u v : ℕ) (p q : Entries) (a : ℕ) (z : Known) → u < v → IsOf (kind.Int u) a
    → twice name (codes "arith.trunci") p q (kind.Int u) (kind.Int v) (kind.Int u) a ≡ Some z → (kind.Int u, a) ≡ z

-- `cast-back`: a cast to at least as many bits, and back, is the source
abbrev pub ComingBack : List ℕ → Type 0
ComingBack name = (j k : BitsKind) (p q : Entries) (a : ℕ) (z : Known) → width_of j ≤ width_of k → IsOf j a
    → twice name name p q j k j a ≡ Some z → (j, a) ≡ z

-- `expand-min-max`: a minimum or maximum is a comparison and a select
abbrev pub Choosing : List ℕ × ℕ → Type 0
Choosing e = OfTwo (λ k p a b v. given_by e.0 p (type_of k) ((k, a) ∷ (k, b) ∷ []) ≡ Some v
    → given (given_by (codes "arith.cmpi") (predicate_entry e.1) i1 ((k, a) ∷ (k, b) ∷ []))
    (λ c. given_by (codes "arith.select") [] (type_of k) (c ∷ (k, a) ∷ (k, b) ∷ [])) ≡ Some v)

-- `expand-difference`: a - b is a + ((b xor -1) + 1)
abbrev pub AddingTheComplement : Type 0
AddingTheComplement = OfTwo (λ k p a b v. given_by (codes "arith.subi") p (type_of k) ((k, a) ∷ (k, b) ∷ []) ≡ Some v
    → given (gives (constant (type_of k) (all_ones (width_of k))) [])
    (λ m. given (given_by (codes "arith.xori") (flags (codes "arith.xori")) (type_of k) ((k, b) ∷ m ∷ []))
    (λ x. given (gives (constant (type_of k) 1) [])
    (λ one. given (given_by (codes "arith.addi") (flags (codes "arith.addi")) (type_of k) (x ∷ one ∷ []))
    (λ n. given_by (codes "arith.addi") (flags (codes "arith.addi")) (type_of k) ((k, a) ∷ n ∷ []))))) ≡ Some v)

-- `expand-remainder`: a remainder is a - (a / b) * b
abbrev pub Dividing : List ℕ × List ℕ → Type 0
Dividing e = OfTwo (λ k p a b v. given_by e.0 p (type_of k) ((k, a) ∷ (k, b) ∷ []) ≡ Some v
    → given (given_by e.1 (flags e.1) (type_of k) ((k, a) ∷ (k, b) ∷ []))
    (λ q. given (given_by (codes "arith.muli") (flags (codes "arith.muli")) (type_of k) (q ∷ (k, b) ∷ []))
    (λ m. given_by (codes "arith.subi") (flags (codes "arith.subi")) (type_of k) ((k, a) ∷ m ∷ []))) ≡ Some v)

-- `lower-index`: a value of index as the i64 value with the same number; other values stay
abbrev pub lowered : Known → Known
lowered (kind.Index, a) = (kind.Int 64, a)
lowered (kind.Int w, a) = (kind.Int w, a)

-- i64 for index; other types stay
abbrev pub lowered_type : TypeTerm → TypeTerm
lowered_type Index = i64
lowered_type ty = ty

-- `lower-index`: an operation on two values of index
abbrev pub LoweringTwo : List ℕ → Type 0
LoweringTwo name = (p : Entries) (a b : ℕ) (v : Known) → IsOf kind.Index a → IsOf kind.Index b
    → given_by name p Index ((kind.Index, a) ∷ (kind.Index, b) ∷ []) ≡ Some v
    → given_by name p i64 (lowered (kind.Index, a) ∷ lowered (kind.Index, b) ∷ []) ≡ Some (lowered v)

-- a comparison of two values of index
abbrev pub LoweringComparison : Type 0
LoweringComparison = (n a b : ℕ) (v : Known)
    → given_by (codes "arith.cmpi") (predicate_entry n) i1 ((kind.Index, a) ∷ (kind.Index, b) ∷ []) ≡ Some v
    → given_by (codes "arith.cmpi") (predicate_entry n) i1
    (lowered (kind.Index, a) ∷ lowered (kind.Index, b) ∷ []) ≡ Some v

-- a select between two values of index
abbrev pub LoweringChoice : Type 0
LoweringChoice = (p : Entries) (c a b : ℕ) (v : Known)
    → given_by (codes "arith.select") p Index ((truth_kind, c) ∷ (kind.Index, a) ∷ (kind.Index, b) ∷ []) ≡ Some v
    → given_by (codes "arith.select") p i64
    ((truth_kind, c) ∷ lowered (kind.Index, a) ∷ lowered (kind.Index, b) ∷ []) ≡ Some (lowered v)

-- a constant of index
abbrev pub LoweringConstant : Type 0
LoweringConstant = (n : ℕ) (v : Known) → given_by (codes "arith.constant") (value_entry Index n) Index [] ≡ Some v
    → given_by (codes "arith.constant") (value_entry i64 n) i64 [] ≡ Some (lowered v)
