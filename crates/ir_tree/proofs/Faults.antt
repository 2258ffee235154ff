-- A tree is well-formed exactly if it has no fault.
use Rattle.std.proofs.Common.{◌≡◌, refl, Bool, true, false, cond, Some, None, ◌↔◌}
use Rattle.std.proofs.lemmas.Bool.{leb-true, le-leb}
use Rattle.std.specs.Prelude.{nat_le}
use Rattle.ir_types.specs.declared.refusal.Refusal.TheVariants.{UnknownValue, TooDeep, TooMany}
use Rattle.ir_tree.specs.Tree.{OpOf}
use Rattle.ir_tree.specs.Limits.{depth, counts_fit, most_around}
use Rattle.ir_tree.specs.Sites.{operands_visible}
use Rattle.ir_tree.specs.WellFormed.{IsValidTree, fault}

all_three : (a b c : Bool) → cond a (cond b (cond c None (Some TooMany)) (Some TooDeep)) (Some UnknownValue) ≡ None → (a ≡ true) × (b ≡ true) × (c ≡ true)
all_three true true true e = (refl, refl, refl)
all_three true true false e = cc
all_three true false c e = cc
all_three false b c e = cc

pub fault_none : {N T A : Type 0} (isolated : N → Bool) (t : OpOf N T A) → (fault isolated t ≡ None) ↔ IsValidTree isolated t
fault_none isolated t = (
  λ e. let h = all_three (operands_visible isolated t) (nat_le (depth t) most_around) (counts_fit t) e in record { visible = h.0; shallow = leb-true (depth t) most_around h.1; counts = h.2 },
  λ f. λ i. cond (f.visible i) (cond (le-leb (depth t) most_around f.shallow i) (cond (f.counts i) None (Some TooMany)) (Some TooDeep)) (Some UnknownValue),
)
