-- Many uses inserted or removed.
use Rattle.std.proofs.Common.{◌≡◌, refl, ap, ◌∙◌, List, [], ◌∷◌, ◌++◌}
use Rattle.listeners.specs.declared.key.Use.{Use}
use Rattle.listeners.specs.Uses.{in_order}
use Rattle.listeners.proofs.Drops.{drop_all, insert_entries}
use Rattle.listeners.proofs.Orders.{drop_put, insert_sorted}

pub put_all_order : (us vs : List Use) → insert_entries us (in_order vs) ≡ in_order (us ++ vs)
put_all_order [] vs = refl
put_all_order (u ∷ us) vs = put_all_order us (u ∷ vs) ∙ insert_sorted us vs u

pub drop_all_order : (us vs : List Use) → drop_all us (in_order (us ++ vs)) ≡ in_order vs
drop_all_order [] vs = refl
drop_all_order (u ∷ us) vs = ap (drop_all us) (drop_put u (in_order (us ++ vs))) ∙ drop_all_order us vs
