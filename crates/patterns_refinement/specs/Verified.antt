-- A module for which `report diagnostics` has no row is ready (`IsReady`).
use Rattle.std.specs.Prelude.{◌≡◌, [], Bool, true, false, ◌&&◌, ◌||◌, not, Option, Some, None, is_some, option_map}
use Rattle.std.specs.List.{list_all}
use Rattle.ir_types.specs.declared.bits.BitsKind.{BitsKind}
use Rattle.ir_types.specs.Bits.{width_of}
use Rattle.ir_types.specs.Reasons.{is_width}
use Rattle.ir_types.specs.Words.{is_isolated}
use Rattle.ir_tree.specs.WellFormed.{IsWellFormed}
use Rattle.ir_tree.specs.Meaning.{Operation}
use Rattle.ir_event.specs.Modules.{Module}
use Rattle.ir_event.specs.Step.{IsSorted}
use Rattle.listeners_support.specs.Surroundings.{surroundings}
use Rattle.dialects_int.specs.declared.operations.Rule.{Rule}
use Rattle.dialects_int.specs.declared.operations.Rule.TheVariants as rule
use Rattle.dialects_int.specs.Folds.{fold_of, kind_of, rule_of}
use Rattle.patterns_base.specs.verify.Beyond.{is_beyond}
use Rattle.patterns_base.specs.Diagnostics.{diagnostics_of}
use Rattle.user_patterns_data.specs.Matching.{Header}
use Rattle.patterns_refinement.specs.Meaning.{Each, result_kind}
use Rattle.patterns_refinement.specs.Better.{are_its_bits}
use Rattle.patterns_refinement.specs.Keeping.{IsReady}

-- Returns whether the width of a type is in range, if the type is a signless integer or `index`. All types of a
-- context pass.
abbrev pub has_width : Option BitsKind → Bool
has_width None = true
has_width (Some k) = is_width (width_of k)

-- Returns whether the widths of an operation's result types are in range, and the number of a constant is in range of
-- its type. All types and attributes of a context pass.
abbrev pub is_in_range : Header → Bool
is_in_range h = list_all (λ ty. has_width (kind_of ty)) h.results && are_its_bits (fold_of h.name h.properties [] h.results)

-- Returns whether an operation isn't beyond the operation table. An operation on vectors is beyond it.
abbrev pub is_covered : Option Bool → Bool
is_covered None = false
is_covered (Some beyond) = not beyond

-- Returns whether an operation isn't beyond the table, if it is arithmetic on integers or `index`.
abbrev pub is_within_by : Option Rule → Option BitsKind → Option Bool → Bool
is_within_by None k beyond = true
is_within_by (Some rule.Constant) k beyond = true
is_within_by (Some (rule.Binary o)) k beyond = not (is_some k) || is_covered beyond
is_within_by (Some rule.Compare) k beyond = not (is_some k) || is_covered beyond
is_within_by (Some rule.Select) k beyond = not (is_some k) || is_covered beyond
is_within_by (Some (rule.IntegerCast c)) k beyond = not (is_some k) || is_covered beyond
is_within_by (Some (rule.IndexCast c)) k beyond = not (is_some k) || is_covered beyond

abbrev pub is_within : Operation → Header → Bool
is_within t h = is_within_by (rule_of h.name) (result_kind h) (option_map is_beyond (surroundings h.id t))

-- A module of a context, without diagnostics. The module may have an operation on vectors. Its operands and results
-- are no integers.
pub record IsVerified (m : Module) : Type 0 where
  pub wellformed : IsWellFormed is_isolated m
  pub sorted : IsSorted m
  pub in_range : Each (λ h. is_in_range h ≡ true) m.tree
  pub within : Each (λ h. is_within m.tree h ≡ true) m.tree
  pub reports_nothing : diagnostics_of m.tree ≡ []

-- Such a module is ready.
abbrev pub VerifiedIsReady : Type 0
VerifiedIsReady = (m : Module) → IsVerified m → IsReady m
