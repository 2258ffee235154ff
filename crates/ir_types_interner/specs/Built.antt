-- A list in which each item is built from the results for the items before it.
use Rattle.std.specs.Prelude.{List, [], ◌∷◌, ◌++◌}

module _ {A B : Type 0} (make : List B → A → B) where
  -- the results so far, followed by those of the remaining items
  abbrev pub built_onto : List B → List A → List B
  built_onto done [] = done
  built_onto done (x ∷ xs) = built_onto (done ++ make done x ∷ []) xs

  -- the results for all items
  abbrev pub built : List A → List B
  built xs = built_onto [] xs
