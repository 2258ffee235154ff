-- A module with a store, a call and a return, before and after rewrites, and what an observer sees of it.
use Rattle.std.specs.Prelude.{◌≡◌, ◌==◌, ℕ, List, [], ◌∷◌, codes, get_or, if◌then◌else◌, Some, None}
use Rattle.ir_types.specs.declared.bits.BitsKind.TheVariants as kind
use Rattle.ir_types.specs.Terms.{AttrTerm, Function, IntegerOf, Memref, String, Symbol, TypeOf, TypeTerm, TypeTerms, next_type, no_types}
use Rattle.ir_tree.specs.declared.value.Value.{Value}
use Rattle.ir_tree.specs.declared.value.Value.TheVariants.{Arg, Result}
use Rattle.ir_tree.specs.Tree.{OpsOf, RegionOf, block, empty, next, no_ops, no_regions, op, region}
use Rattle.ir_tree.specs.Meaning.{Operation}
use Rattle.ir_event.specs.Modules.{Module}
use Rattle.patterns_base.specs.declared.rule.Rule.TheVariants.{DropZero}
use Rattle.patterns_base.specs.Canonicalization.{canonicalization_of, converged, ended}
use Rattle.patterns_base.specs.Rewrites.{becomes, rewrite_of}
use Rattle.patterns_refinement.specs.Meaning.{Assignment}
use Rattle.patterns_refinement.specs.Canonical.{IsPlain}
use Rattle.patterns_refinement.specs.Choices.{AreOrigins, Origins}
use Rattle.patterns_refinement.specs.Keeping.{Computing}
use Rattle.patterns_refinement.specs.ObservingSamples.{function_of, i8, module_of, plain_op, returning, storing, summing}
use Rattle.patterns_refinement.specs.Refining.{Observation, ObservationsRefine, Operand, Refined, observed}
use Rattle.patterns_refinement.specs.Samples.{all_done}
use Rattle.patterns_refinement.specs.Verified.{IsVerified}

abbrev pub types_of : List TypeTerm → TypeTerms
types_of [] = no_types
types_of (ty ∷ tys) = next_type ty (types_of tys)

abbrev pub memory : TypeTerm
memory = Memref [] i8

-- a function with a name, a visibility and one region
abbrev pub function : ℕ → List ℕ → List (List ℕ × AttrTerm) → List TypeTerm → RegionOf (List ℕ) TypeTerm AttrTerm → Operation
function x name visibility inputs body =
    op (record {
      id = x;
      name = codes "func.func";
      operands = [];
      results = [];
      properties = (codes "function_type", TypeOf (Function (types_of inputs) (types_of (i8 ∷ [])))) ∷ (codes "sym_name", String name) ∷ visibility;
      attributes = [];
    }) (region body no_regions)

-- func.func private @g(i8) -> i8
abbrev pub callee : Operation
callee = function 1 (codes "g") ((codes "sym_visibility", String (codes "private")) ∷ []) (i8 ∷ []) empty

-- memref.store %v, %m[]; %r = func.call @g(%v); func.return %v
abbrev pub ending : Value → OpsOf (List ℕ) TypeTerm AttrTerm
ending v =
    next (plain_op 5 (codes "memref.store") (v ∷ Arg 2 0 1 ∷ []) [] [])
    (next (plain_op 6 (codes "func.call") (v ∷ []) (i8 ∷ []) ((codes "callee", Symbol (codes "g" ∷ [])) ∷ []))
    (next (plain_op 7 (codes "func.return") (v ∷ []) [] [])
    no_ops))

-- %z = arith.constant 0
abbrev pub zero_then : OpsOf (List ℕ) TypeTerm AttrTerm → OpsOf (List ℕ) TypeTerm AttrTerm
zero_then os = next (plain_op 3 (codes "arith.constant") [] (i8 ∷ []) ((codes "value", IntegerOf i8 0) ∷ [])) os

-- %s = arith.addi %a, %z
abbrev pub sum_then : OpsOf (List ℕ) TypeTerm AttrTerm → OpsOf (List ℕ) TypeTerm AttrTerm
sum_then os = next (plain_op 4 (codes "arith.addi") (Arg 2 0 0 ∷ Result 3 0 ∷ []) (i8 ∷ []) []) os

-- func.func @f(%a: i8, %m: memref<i8>) -> i8 with these operations, and the function that it calls
abbrev pub calling : OpsOf (List ℕ) TypeTerm AttrTerm → Module
calling os = module_of 8 (next callee (next (function 2 (codes "f") [] (i8 ∷ memory ∷ []) (block (i8 ∷ memory ∷ []) os)) no_ops))

-- @f stores %a + 0, calls @g with it and returns it
abbrev pub before : Module
before = calling (zero_then (sum_then (ending (Result 4 0))))

-- the module after `drop-zero` at the sum: %a replaces the sum
abbrev pub after : Module
after = calling (zero_then (ending (Arg 2 0 0)))

-- the module after `canon`: the constant is gone too
abbrev pub canonical : Module
canonical = calling (ending (Arg 2 0 0))

-- %a is 5, and so is the sum; the call returns 9
abbrev pub five : Assignment
five (Result x k) = get_or (None ∷ None ∷ None ∷ Some (kind.Int 8, 0) ∷ Some (kind.Int 8, 5) ∷ None ∷ Some (kind.Int 8, 9) ∷ []) x None
five (Arg x r k) = get_or (Some (kind.Int 8, 5) ∷ []) k None

-- The arguments of an operation represent themselves, and other values nothing.
abbrev pub arguments_of : ℕ → Origins
arguments_of y (Result x k) = None
arguments_of y (Arg x r k) = if x == y then Some (Arg x r k) else None

-- an operation and its operands
abbrev pub seen : List ℕ → ℕ → List TypeTerm → List (List ℕ × AttrTerm) → List Operand → Observation
seen name x results properties operands =
    record { operation = record { id = x; name = name; operands = []; results = results; properties = properties; attributes = [] }; operands = operands }

-- what an observer sees of a function and of its end, if the value has an outcome
abbrev pub observation_of : Operation → Observation
observation_of (op h rs) = record { operation = h; operands = [] }

abbrev pub functions_observed : List Observation → List Observation
functions_observed os = observation_of callee ∷ observation_of (function 2 (codes "f") [] (i8 ∷ memory ∷ []) empty) ∷ os

abbrev pub ending_observed : Operand → List Observation
ending_observed v =
    seen (codes "memref.store") 5 [] [] (v ∷ record { value = Some (Arg 2 0 1); outcome = None } ∷ [])
    ∷ seen (codes "func.call") 6 (i8 ∷ []) ((codes "callee", Symbol (codes "g" ∷ [])) ∷ []) (v ∷ [])
    ∷ seen (codes "func.return") 7 [] [] (v ∷ [])
    ∷ []

-- The module has no diagnostics and computes with these outcomes and origins. `drop-zero` applies, and `canon` makes
-- two rewrites. An observer of the module sees that 5 is stored, passed to @g and returned. After the rewrite, an
-- observer sees that %a is, which is 5. So the second module refines the first.
pub record SampleIsRefined : Type 0 where
  pub verified : IsVerified before
  pub computing : Computing five all_done before.tree
  pub origins : AreOrigins before.next five (arguments_of 2) all_done before.tree
  pub applies : rewrite_of DropZero before 4 ≡ becomes after
  pub simple : IsPlain before
  pub canonicalizes : canonicalization_of 10 before ≡ ended canonical 2 converged
  pub observed_before : observed five (arguments_of 2) all_done before.tree ≡ functions_observed (ending_observed (record { value = None; outcome = Some (kind.Int 8, 5) }))
  pub observed_after : observed five (arguments_of 2) all_done after.tree ≡ functions_observed (ending_observed (record { value = Some (Arg 2 0 0); outcome = Some (kind.Int 8, 5) }))
  pub observed_canonical : observed five (arguments_of 2) all_done canonical.tree ≡ observed five (arguments_of 2) all_done after.tree
  pub refined : ObservationsRefine (observed five (arguments_of 2) all_done before.tree) (observed five (arguments_of 2) all_done after.tree)

-- These rewrites are no refinements, with all operations executed: erasing everything, returning another argument, and
-- erasing a store. An observer sees a difference. Two arguments may represent the same value, so another argument is
-- refused if the arguments represent themselves, which they may (`origins`).
pub record SamplesArentRefined : Type 0 where
  pub wiping : (a : Assignment) (o : Origins) → Refined a o all_done (function_of 5 (returning (Arg 1 0 0))) (module_of 5 no_ops) → ⊥
  pub origins : (a : Assignment) → AreOrigins 5 a (arguments_of 1) all_done (function_of 5 (returning (Arg 1 0 0))).tree
  pub other_argument : (a : Assignment) → Refined a (arguments_of 1) all_done (function_of 5 (returning (Arg 1 0 0))) (function_of 5 (returning (Arg 1 0 1))) → ⊥
  pub erased_store : (a : Assignment) (o : Origins) → Refined a o all_done (function_of 5 (summing (storing (returning (Result 2 0))))) (function_of 5 (summing (returning (Result 2 0)))) → ⊥
