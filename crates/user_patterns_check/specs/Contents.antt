-- The model of a pattern at given widths.
use Rattle.std.specs.Prelude.{ℕ, List, Bool}
use Rattle.ir_types.specs.declared.bits.BitsKind.{BitsKind}
use Rattle.user_patterns_check.specs.declared.step.Step.{Step}
use Rattle.user_patterns_check.specs.declared.sides.Instance.{Instance}

pub record Content : Type 0 where
  -- whether the pattern may be applied at these widths
  pub applies : Bool
  -- the kinds of its variables
  pub value_types : List BitsKind
  -- the conditions on the constants, and the numbers computed from them
  pub given : List Step
  -- the steps of the old side and the place of their result, and the same for the new side
  pub old : List Step
  pub old_result : ℕ
  pub new : List Step
  pub new_result : ℕ

abbrev pub content : Instance → Content
content s =
    record {
      applies = s.applies;
      value_types = s.value_types.items;
      given = s.given.items;
      old = s.old.items;
      old_result = s.old_result;
      new = s.new.items;
      new_result = s.new_result;
    }
