-- Rewrites that no compiler may do, each as a module before and a module after. None is an improvement (`Improves`),
-- so no rule or pattern that does one satisfies the laws.
use Rattle.std.specs.Prelude.{◌≡◌, ℕ, zero, suc, List, [], ◌∷◌, Bool, true, false, codes, Some, None}
use Rattle.ir_types.specs.declared.node.Sign.TheVariants.{Signless}
use Rattle.ir_types.specs.declared.bits.BitsKind.TheVariants as kind
use Rattle.ir_types.specs.Terms.{AttrTerm, Integer, IntegerOf, Overflow, TypeTerm}
use Rattle.ir_tree.specs.declared.value.Value.{Value}
use Rattle.ir_tree.specs.declared.value.Value.TheVariants.{Arg, Result}
use Rattle.ir_tree.specs.Tree.{OpsOf, block, next, no_ops, no_regions, op, region}
use Rattle.ir_tree.specs.Meaning.{Operation}
use Rattle.ir_event.specs.Modules.{Module}
use Rattle.patterns_refinement.specs.Meaning.{Assignment}
use Rattle.patterns_refinement.specs.Keeping.{Computing, Improves, IsReady}
use Rattle.patterns_refinement.specs.Samples.{all_done}

abbrev pub i8 : TypeTerm
i8 = Integer Signless 8

-- an operation of one name, without regions
abbrev pub plain_op : ℕ → List ℕ → List Value → List TypeTerm → List (List ℕ × AttrTerm) → Operation
plain_op x name operands results properties =
    op (record { id = x; name = name; operands = operands; results = results; properties = properties; attributes = [] }) no_regions

-- a module of operations
abbrev pub module_of : ℕ → OpsOf (List ℕ) TypeTerm AttrTerm → Module
module_of n os =
    record {
      tree = op (record { id = 0; name = codes "builtin.module"; operands = []; results = []; properties = []; attributes = [] }) (region (block [] os) no_regions);
      next = n;
    }

-- a module with a function of two arguments of i8 and these operations
abbrev pub function_of : ℕ → OpsOf (List ℕ) TypeTerm AttrTerm → Module
function_of n os =
    module_of n
    (next (op (record { id = 1; name = codes "func.func"; operands = []; results = []; properties = []; attributes = [] }) (region (block (i8 ∷ i8 ∷ []) os) no_regions))
    no_ops)

-- return %v
abbrev pub returning : Value → OpsOf (List ℕ) TypeTerm AttrTerm
returning v = next (plain_op 4 (codes "func.return") (v ∷ []) [] []) no_ops

-- %s = addi %a, %b
abbrev pub summing : OpsOf (List ℕ) TypeTerm AttrTerm → OpsOf (List ℕ) TypeTerm AttrTerm
summing os = next (plain_op 2 (codes "arith.addi") (Arg 1 0 0 ∷ Arg 1 0 1 ∷ []) (i8 ∷ []) []) os

-- %s = addi %a, %b with nsw
abbrev pub summing_signed : OpsOf (List ℕ) TypeTerm AttrTerm → OpsOf (List ℕ) TypeTerm AttrTerm
summing_signed os = next (plain_op 2 (codes "arith.addi") (Arg 1 0 0 ∷ Arg 1 0 1 ∷ []) (i8 ∷ []) ((codes "overflowFlags", Overflow true false) ∷ [])) os

-- store %s
abbrev pub storing : OpsOf (List ℕ) TypeTerm AttrTerm → OpsOf (List ℕ) TypeTerm AttrTerm
storing os = next (plain_op 3 (codes "memref.store") (Result 2 0 ∷ Arg 1 0 1 ∷ []) [] []) os

-- %k = constant 42
abbrev pub numbering : OpsOf (List ℕ) TypeTerm AttrTerm → OpsOf (List ℕ) TypeTerm AttrTerm
numbering os = next (plain_op 5 (codes "arith.constant") [] (i8 ∷ []) ((codes "value", IntegerOf i8 42) ∷ [])) os

-- test.d, an operation of an unknown dialect
abbrev pub unknown_then : OpsOf (List ℕ) TypeTerm AttrTerm → OpsOf (List ℕ) TypeTerm AttrTerm
unknown_then os = next (plain_op 3 (codes "test.d") [] [] []) os

-- everything is erased
abbrev pub WipingBreaks : Type 0
WipingBreaks =
    (a : Assignment) (done later : ℕ → Bool) → Improves a done (function_of 5 (returning (Arg 1 0 0))) later (module_of 5 no_ops).tree → ⊥

-- the second argument is returned in place of the first
abbrev pub OtherArgumentBreaks : Type 0
OtherArgumentBreaks =
    (a : Assignment) (done later : ℕ → Bool)
    → Improves a done (function_of 5 (returning (Arg 1 0 0))) later (function_of 5 (returning (Arg 1 0 1))).tree → ⊥

-- a store is erased
abbrev pub ErasedStoreBreaks : Type 0
ErasedStoreBreaks =
    (a : Assignment) (done later : ℕ → Bool)
    → Improves a done (function_of 5 (summing (storing (returning (Result 2 0))))) later (function_of 5 (summing (returning (Result 2 0)))).tree → ⊥

-- an operation of an unknown dialect is erased, as if it were dead
abbrev pub ErasedUnknownBreaks : Type 0
ErasedUnknownBreaks =
    (a : Assignment) (done later : ℕ → Bool)
    → Improves a done (function_of 5 (unknown_then (returning (Arg 1 0 0)))) later (function_of 5 (returning (Arg 1 0 0))).tree → ⊥

-- a new constant is returned in place of a sum that is another number
abbrev pub NewConstantBreaks : Type 0
NewConstantBreaks =
    (a : Assignment) (done later : ℕ → Bool) → a (Result 2 0) ≡ Some (kind.Int 8, 1) → later 4 ≡ true
    → Improves a done (function_of 5 (summing (returning (Result 2 0)))) later (function_of 6 (summing (numbering (returning (Result 5 0))))).tree → ⊥

-- nsw is added to a sum that overflows: 127 + 1 is -128
abbrev pub AddedFlagBreaks : Type 0
AddedFlagBreaks =
    (a : Assignment) (done later : ℕ → Bool)
    → a (Arg 1 0 0) ≡ Some (kind.Int 8, 127) → a (Arg 1 0 1) ≡ Some (kind.Int 8, 1) → a (Result 2 0) ≡ Some (kind.Int 8, 128) → later 2 ≡ true
    → Improves a done (function_of 5 (summing (returning (Result 2 0)))) later (function_of 5 (summing_signed (returning (Result 2 0)))).tree → ⊥

abbrev pub greatest_and_one : Assignment
greatest_and_one (Result (suc (suc zero)) k) = Some (kind.Int 8, 128)
greatest_and_one (Result x k) = None
greatest_and_one (Arg x r zero) = Some (kind.Int 8, 127)
greatest_and_one (Arg x r (suc k)) = Some (kind.Int 8, 1)

-- The premises are satisfiable: the module before is ready, and computes with these outcomes.
abbrev pub OverflowComputes : Type 0
OverflowComputes =
    Computing greatest_and_one all_done (function_of 5 (summing (returning (Result 2 0)))).tree
    × (greatest_and_one (Arg 1 0 0) ≡ Some (kind.Int 8, 127)) × (greatest_and_one (Arg 1 0 1) ≡ Some (kind.Int 8, 1))
    × (greatest_and_one (Result 2 0) ≡ Some (kind.Int 8, 128))

-- The premises of the new constant are satisfiable: its module is ready, and computes the sum 1 of 1 and 0.
abbrev pub one_and_zero : Assignment
one_and_zero (Result (suc (suc zero)) k) = Some (kind.Int 8, 1)
one_and_zero (Result x k) = None
one_and_zero (Arg x r zero) = Some (kind.Int 8, 1)
one_and_zero (Arg x r (suc k)) = Some (kind.Int 8, 0)

abbrev pub SumComputes : Type 0
SumComputes =
    IsReady (function_of 5 (summing (returning (Result 2 0))))
    × Computing one_and_zero all_done (function_of 5 (summing (returning (Result 2 0)))).tree
    × (one_and_zero (Result 2 0) ≡ Some (kind.Int 8, 1))

-- all of these rewrites are refused
pub record AreRefused : Type 0 where
  pub computes : SumComputes
  pub wiping : WipingBreaks
  pub other_argument : OtherArgumentBreaks
  pub erased_store : ErasedStoreBreaks
  pub erased_unknown : ErasedUnknownBreaks
  pub new_constant : NewConstantBreaks
  pub overflow : OverflowComputes
  pub added_flag : AddedFlagBreaks
