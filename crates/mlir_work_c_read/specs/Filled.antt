-- A buffer of the caller after items were written to it.
use Rattle.std.specs.Prelude.{◌≡◌, ℕ, ◌+◌, List, ◌++◌, length, take, drop, min}

-- the first entries of a buffer are these items, as many as there is space for, and the others are unchanged
abbrev pub over : {A : Type 0} → List A → List A → List A
over items old = take (length old) items ++ drop (length items) old

-- the entries from one place on are these items, as many as there is space for, and the others are unchanged
abbrev pub over_from : {A : Type 0} → ℕ → List A → List A → List A
over_from at items old = take at old ++ over items (drop at old)

-- items are written from a place on, as many as there is space for, and the place after them is returned
pub record WritesFrom {A : Type 0} (items : List A) (at : ℕ) (old new : List A) (end : ℕ) : Type 0 where
  pub written : new ≡ over_from at items old
  pub end_is : end ≡ min (at + length items) (length old)
