-- Items of lists.
use Rattle.std.proofs.Common.{◌≡◌, Bool, true, false, List, [], ◌∷◌, ◌++◌, refl}
use Rattle.ir_text_types.specs.Typed.{Text}
use Rattle.user_patterns_text.specs.Printed.{item}

pub item_then : (first : Bool) (x y : Text) → item first (x ++ y) ≡ item first x ++ y
item_then true x y = refl
item_then false x y = refl
