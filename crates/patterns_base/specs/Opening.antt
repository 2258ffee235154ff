-- Rules on branches with a known condition, and on loops that run once or never. The names in brackets are MLIR's.
use Rattle.std.specs.Prelude.{ℕ, List, [], ◌∷◌, ◌++◌, codes, map, eqb, Bool, ◌&&◌, pos, ◌+ℤ◌, int_lt, int_le}
use Rattle.std.specs.Prelude.{if◌then◌else◌, ℤ, Option, Some, None}
use Rattle.ir_types.specs.Readings.{signed_of}
use Rattle.ir_types.specs.Bits.{width_of}
use Rattle.ir_types.specs.Terms.{TypeTerm, AttrTerm}
use Rattle.ir_tree.specs.declared.value.Value.{Value}
use Rattle.ir_tree.specs.declared.place.Place.{Place}
use Rattle.ir_tree.specs.Tree.{RegionOf, empty, block, head, regions}
use Rattle.ir_tree.specs.Meaning.{Operation}
use Rattle.ir_tree_laws.specs.Values.{region_at}
use Rattle.patterns_laws.specs.integers.Folds.{Known}
use Rattle.rewriter_machine.specs.Contents.{Edit}
use Rattle.rewriter_machine.specs.Edits.{Erase}
use Rattle.patterns_laws.specs.Keeps.{given}
use Rattle.patterns_laws.specs.Words.{named}
use Rattle.patterns_base.specs.Looks.{Header, Ended, when, known, is_number, body}
use Rattle.patterns_base.specs.Makes.{results_from, arguments_from, replacing, replaced, give_body}

-- a known value read as a signed number
abbrev pub reading : Known → ℤ
reading k = signed_of (width_of k.0) k.1

-- the bounds, the step and the initial values of a loop (the operands of an `scf.for`)
pub record Loop : Type 0 where
  pub lower : Value
  pub upper : Value
  pub step : Value
  pub inits : List Value

-- the operands as those of a loop
abbrev pub loop_from : List Value → Option Loop
loop_from (lower ∷ upper ∷ step ∷ inits) = Some (record { lower = lower; upper = upper; step = step; inits = inits })
loop_from _ = None

module _ (t : Operation) (point : Place) (o : Operation) where
  abbrev h : Header
  h = head o

  abbrev x : ℕ
  x = h.id

  -- the operations of a block, except the last, move before x; values replace the block arguments; the operands of the
  -- last operation replace the results of x; and x is erased
  abbrev pub opened : Ended → List Value → List Value → List Edit
  opened e values handed =
      let args = arguments_from x 0 values in
      replacing args values ++ give_body point x e.before (map (replaced args values) handed)

  -- the block of region r, if x chooses it; without a block, x is erased
  abbrev pub chosen : RegionOf (List ℕ) TypeTerm AttrTerm → ℕ → Option (List Edit)
  chosen empty r = Some (Erase x ∷ [])
  chosen (block args os) r = given (body t o r) (λ e. Some (opened e [] e.last.operands))

  -- the block of the region that a known condition chooses
  abbrev pub by_condition : List Value → Option (List Edit)
  by_condition (c ∷ []) =
      given (known t c) (λ k. let r = if eqb k.1 0 then 1 else 0 in given (region_at r (regions o)) (λ g. chosen g r))
  by_condition _ = None

  -- `open-branch`: an `scf.if` with a known condition becomes the chosen block (`RemoveStaticCondition`)
  abbrev pub open_branch : Option (List Edit)
  open_branch = when (named (codes "scf.if") h.name) (by_condition h.operands)

  -- whether a loop whose lower bound is less than its upper bound runs once
  abbrev pub goes_once : ℤ → ℤ → ℤ → Bool
  goes_once low high step = int_lt (pos 0) step && int_le high (low +ℤ step)

  -- a loop that never runs becomes its initial values
  abbrev pub never : Loop → List Edit
  never l = replacing (results_from x 0 l.inits) l.inits ++ Erase x ∷ []

  -- a loop that runs once becomes its block, with the lower bound and the initial values as arguments
  abbrev pub once : Loop → Option (List Edit)
  once l = given (body t o 0) (λ e. Some (opened e (l.lower ∷ l.inits) e.last.operands))

  -- which of the two, by known bounds and a known step; if lower isn't less than upper, the step isn't read
  abbrev pub by_bounds : Loop → Option (List Edit)
  by_bounds l = given (known t l.lower) (λ low. given (known t l.upper) (λ high.
      if int_lt (reading low) (reading high)
      then given (known t l.step) (λ step. when (goes_once (reading low) (reading high) (reading step)) (once l))
      else Some (never l)))

  -- `open-loop`: a loop that runs once or never (`SimplifyTrivialLoops`)
  abbrev pub open_loop : Option (List Edit)
  open_loop = when (named (codes "scf.for") h.name) (given (loop_from h.operands) by_bounds)

  -- if a block's condition is known to be false: the block, with the operands of the condition as results
  abbrev pub by_end : Ended → List Value → Option (List Edit)
  by_end e (c ∷ handed) = when (is_number t 0 c) (Some (opened e h.operands handed))
  by_end e _ = None

  -- `stop-loop`: a while loop whose condition is known to be false becomes its first block
  abbrev pub stop_loop : Option (List Edit)
  stop_loop = when (named (codes "scf.while") h.name) (given (body t o 0) (λ e. by_end e e.last.operands))
