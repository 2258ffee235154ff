-- A module with a `select` of memrefs whose result is stored to, before and after rewrites, and what an observer sees of it.
use Rattle.std.specs.Prelude.{◌≡◌, ℕ, zero, suc, List, [], ◌∷◌, codes, Some, None}
use Rattle.ir_types.specs.declared.bits.BitsKind.TheVariants as kind
use Rattle.ir_types.specs.Terms.{AttrTerm, TypeTerm}
use Rattle.ir_tree.specs.declared.value.Value.{Value}
use Rattle.ir_tree.specs.declared.value.Value.TheVariants.{Arg, Result}
use Rattle.ir_tree.specs.Tree.{OpsOf, block, empty, next, no_ops}
use Rattle.ir_event.specs.Modules.{Module}
use Rattle.patterns_laws.specs.Made.{i1}
use Rattle.patterns_base.specs.declared.rule.Rule.TheVariants.{ChooseSame}
use Rattle.patterns_base.specs.Rewrites.{becomes, rewrite_of}
use Rattle.patterns_refinement.specs.Meaning.{Assignment}
use Rattle.patterns_refinement.specs.Choices.{AreOrigins, Origins}
use Rattle.patterns_refinement.specs.Keeping.{Computing}
use Rattle.patterns_refinement.specs.ObservingSamples.{i8, module_of, plain_op}
use Rattle.patterns_refinement.specs.Refining.{Observation, Refined, observed}
use Rattle.patterns_refinement.specs.RefiningSamples.{function, memory, observation_of, seen}
use Rattle.patterns_refinement.specs.Samples.{all_done}
use Rattle.patterns_refinement.specs.Verified.{IsVerified}

abbrev pub inputs : List TypeTerm
inputs = i1 ∷ memory ∷ memory ∷ i8 ∷ []

-- func.func @f(%c: i1, %m: memref<i8>, %n: memref<i8>, %a: i8) -> i8 with these operations
abbrev pub choosing : OpsOf (List ℕ) TypeTerm AttrTerm → Module
choosing os = module_of 5 (next (function 1 (codes "f") [] inputs (block inputs os)) no_ops)

-- %r = arith.select %c, %m, %m
abbrev pub choice_then : OpsOf (List ℕ) TypeTerm AttrTerm → OpsOf (List ℕ) TypeTerm AttrTerm
choice_then os = next (plain_op 2 (codes "arith.select") (Arg 1 0 0 ∷ Arg 1 0 1 ∷ Arg 1 0 1 ∷ []) (memory ∷ []) []) os

-- memref.store %a, %v[]; func.return %a
abbrev pub storing_to : Value → OpsOf (List ℕ) TypeTerm AttrTerm
storing_to v = next (plain_op 3 (codes "memref.store") (Arg 1 0 3 ∷ v ∷ []) [] []) (next (plain_op 4 (codes "func.return") (Arg 1 0 3 ∷ []) [] []) no_ops)

-- @f stores to the chosen memref
abbrev pub before : Module
before = choosing (choice_then (storing_to (Result 2 0)))

-- the module after `choose-same` at the `select`: %m replaces its result
abbrev pub after : Module
after = choosing (storing_to (Arg 1 0 1))

-- a module that stores to %n
abbrev pub other : Module
other = choosing (storing_to (Arg 1 0 2))

-- %c is true and %a is 5
abbrev pub true_and_five : Assignment
true_and_five (Result x k) = None
true_and_five (Arg x r zero) = Some (kind.Int 1, 1)
true_and_five (Arg x r (suc zero)) = None
true_and_five (Arg x r (suc (suc zero))) = None
true_and_five (Arg x r (suc (suc (suc k)))) = Some (kind.Int 8, 5)

-- the memrefs represent themselves, the result of the `select` represents %m, and other values represent nothing
abbrev pub memrefs : Origins
memrefs (Result (suc (suc zero)) zero) = Some (Arg 1 0 1)
memrefs (Result x k) = None
memrefs (Arg (suc zero) zero (suc zero)) = Some (Arg 1 0 1)
memrefs (Arg (suc zero) zero (suc (suc zero))) = Some (Arg 1 0 2)
memrefs (Arg x r k) = None

-- what an observer sees: 5 is stored to %m and returned
abbrev pub five_is_stored : List Observation
five_is_stored =
    observation_of (function 1 (codes "f") [] inputs empty)
    ∷ seen (codes "memref.store") 3 [] [] (record { value = None; outcome = Some (kind.Int 8, 5) } ∷ record { value = Some (Arg 1 0 1); outcome = None } ∷ [])
    ∷ seen (codes "func.return") 4 [] [] (record { value = None; outcome = Some (kind.Int 8, 5) } ∷ [])
    ∷ []

-- The module has no diagnostics, and computes with these outcomes and origins. An observer sees that 5 is stored to %m,
-- before and after `choose-same`. A module that stores to %n doesn't refine it.
pub record ChoiceIsRefined : Type 0 where
  pub verified : IsVerified before
  pub computing : Computing true_and_five all_done before.tree
  pub origins : AreOrigins before.next true_and_five memrefs all_done before.tree
  pub applies : rewrite_of ChooseSame before 2 ≡ becomes after
  pub observed_before : observed true_and_five memrefs all_done before.tree ≡ five_is_stored
  pub observed_after : observed true_and_five memrefs all_done after.tree ≡ five_is_stored
  pub other_memref : Refined true_and_five memrefs all_done before other → ⊥
