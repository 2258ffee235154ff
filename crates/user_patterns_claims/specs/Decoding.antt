-- The widths and outcomes that a word spells. A letter has a bit for the mask of each type variable, in the order of
-- the types, then a bit for each constraint that one type is narrower than another, then a bit for each variable. The
-- first letter has the lowest bits. The width of a type is the number of ones of its mask.
use Rattle.std.specs.Prelude.{◌≡◌, ℕ, zero, suc, ◌+◌, ◌*◌, ◌/◌, ◌%◌, ◌^◌, ◌==◌, List, [], ◌∷◌, length, map, Bool, true, false, ◌&&◌, not, if◌then◌else◌, Option, Some, None, option_map}
use Rattle.ir_types.specs.declared.bits.BitsKind.{BitsKind}
use Rattle.ir_types.specs.Bits.{width_of}
use Rattle.dialects_int.specs.Folds.{known_of}
use Rattle.user_patterns_check.specs.Checks.{new_refines}
use Rattle.user_patterns_check.specs.Contents.{Content}
use Rattle.user_patterns_check.specs.Outcomes.{Outcome}
use Rattle.user_patterns_data.specs.declared.pattern.PatternType.{PatternType}
use Rattle.user_patterns_data.specs.declared.pattern.PatternType.TheVariants as ty
use Rattle.user_patterns_data.specs.Fitting.{content_at, kinds_with}
use Rattle.user_patterns_data.specs.Shapes.{PatternModel}
use Rattle.width_claims.specs.declared.width.Width.{Width}
use Rattle.width_claims.specs.declared.width.Width.TheVariants as width
use Rattle.user_patterns_instructions.specs.Expressions.{is_same, narrower_types, types_from}
use Rattle.user_patterns_claims.specs.declared.assignment.Assignment.{Assignment}
use Rattle.user_patterns_claims.specs.declared.assignment.Refutation.{Refutation}
use Rattle.user_patterns_claims.specs.Outcomes.{HoldsAtAllWidths, IsNeverNumber, are_kinds, is_number_at, keeps_outcomes, new_result, old_result}
use Rattle.user_patterns_claims.specs.Translation.{is_constant}

-- ---- letters

-- the bit at a place of a letter
abbrev pub bit_at : ℕ → ℕ → ℕ
bit_at zero letter = letter % 2
bit_at (suc place) letter = bit_at place (letter / 2)

-- the number whose bits are at a place of the letters
abbrev pub number_in_word : ℕ → List ℕ → ℕ
number_in_word place [] = 0
number_in_word place (letter ∷ word) = 2 * number_in_word place word + bit_at place letter

-- the number of letters with a one at a place
abbrev pub ones : ℕ → List ℕ → ℕ
ones place [] = 0
ones place (letter ∷ word) = ones place word + bit_at place letter

-- ---- widths

-- a type that isn't written has a mask
abbrev pub mask_count : Width → ℕ
mask_count width.Free = 1
mask_count (width.Fixed w) = 0

abbrev pub masks : List Width → ℕ
masks [] = 0
masks (w ∷ ws) = masks ws + mask_count w

-- the place of the mask of a type variable
abbrev pub mask_place : ℕ → List PatternType → List Width → ℕ
mask_place v [] ws = 0
mask_place v (k ∷ ks) [] = 0
mask_place v (k ∷ ks) (w ∷ ws) = if is_same k (ty.Variable v) then 0 else mask_place v ks ws + mask_count w

-- the widths of n type variables from v on
abbrev pub widths_from : List PatternType → List Width → List ℕ → ℕ → ℕ → List ℕ
widths_from ks ws word v zero = []
widths_from ks ws word v (suc n) = ones (mask_place v ks ws) word ∷ widths_from ks ws word (v + 1) n

abbrev pub types_of : PatternModel → List Width
types_of p = types_from p.value_types 0 p.value_types

abbrev pub decoded_widths : PatternModel → List ℕ → List ℕ
decoded_widths p word = widths_from p.value_types (types_of p) word 0 p.types

-- ---- outcomes

-- poison, or the number modulo 2^w
abbrev pub outcome_by : Bool → BitsKind → ℕ → Outcome
outcome_by true k n = None
outcome_by false k n = Some (k, n % 2 ^ width_of k)

-- whether the variable at a place is poison, if it is the next of a set, and the rest of the set; constants aren't
-- variables of a set
abbrev pub is_poison : Bool → ℕ → Bool
is_poison constant set = not constant && (set % 2 == 1)

abbrev pub set_after : Bool → ℕ → ℕ
set_after constant set = if constant then set else set / 2

-- the outcomes of the variables from place i on, of these kinds
abbrev pub outcomes_from : PatternModel → List ℕ → ℕ → ℕ → ℕ → List BitsKind → List Outcome
outcomes_from p word first i set [] = []
outcomes_from p word first i set (k ∷ ks) =
    outcome_by (is_poison (is_constant p i) set) k (number_in_word (first + i) word) ∷ outcomes_from p word first (i + 1) (set_after (is_constant p i) set) ks

-- the place of the first variable
abbrev pub first_place : PatternModel → ℕ
first_place p = masks (types_of p) + length (narrower_types p.value_types p.type_constraints)

abbrev pub decoded_outcomes : PatternModel → ℕ → List ℕ → List Outcome
decoded_outcomes p set word = outcomes_from p word (first_place p) 0 set (content_at p (decoded_widths p word)).value_types

-- the widths and outcomes of a word and a set of poison variables; each type has 1 to 128 bits
pub record IsAssignment (p : PatternModel) (set : ℕ) (word : List ℕ) (a : Assignment) : Type 0 where
  pub widths : a.widths.items ≡ decoded_widths p word
  pub value_types : a.value_types.items ≡ (content_at p a.widths.items).value_types
  pub outcomes : map known_of a.outcomes.items ≡ decoded_outcomes p set word
  pub value_kinds : are_kinds (kinds_with a.widths.items p.value_types) ≡ true

-- ---- both sides at an assignment

-- whether the new result refines the old one, if the old side is defined
abbrev pub is_kept : Option Outcome → Option Outcome → Bool
is_kept None new = true
is_kept (Some old) new = new_refines old new

-- a counterexample: the results of both sides at the widths and outcomes of a word, at which the new side doesn't
-- refine the old side
pub record IsRefutation (p : PatternModel) (set : ℕ) (word : List ℕ) (r : Refutation) : Type 0 where
  pub assigned : IsAssignment p set word r.assignment
  pub old : option_map known_of r.old ≡ old_result (content_at p r.assignment.widths.items) (map known_of r.assignment.outcomes.items)
  pub new : option_map known_of r.new ≡ new_result (content_at p r.assignment.widths.items) (map known_of r.assignment.outcomes.items)
  pub broken : keeps_outcomes (content_at p r.assignment.widths.items) (map known_of r.assignment.outcomes.items) ≡ false

-- a pattern with a counterexample doesn't hold at all widths
abbrev pub RefutationsRefute : Type 0
RefutationsRefute = (p : PatternModel) (set : ℕ) (word : List ℕ) (r : Refutation) → IsRefutation p set word r → HoldsAtAllWidths p → ⊥

-- the old side is a number at the widths and outcomes of a word
abbrev pub IsWitness : PatternModel → ℕ → List ℕ → Type 0
IsWitness p set word =
    (are_kinds (kinds_with (decoded_widths p word) p.value_types) ≡ true)
    × (is_number_at (old_result (content_at p (decoded_widths p word)) (decoded_outcomes p set word)) ≡ true)

-- a pattern with such a word has an old side that is sometimes a number
abbrev pub WitnessesWitness : Type 0
WitnessesWitness = (p : PatternModel) (set : ℕ) (word : List ℕ) → IsWitness p set word → IsNeverNumber p → ⊥
