-- Items that are written to a buffer one part after the other.
use Rattle.std.proofs.Common.{◌≡◌, ◌∙◌, ap, sym, refl, ℕ, zero, suc, ◌+◌, ◌-◌, ◌≤◌, ◌<◌, List, [], ◌∷◌, ◌++◌, length, length-append, take, drop, get_or, arith}
use Rattle.std.specs.Prelude.{min, flat_map, slice_set}
use Rattle.mlir_work_c_read.specs.Filled.{over, over_from, WritesFrom}

module _ {A : Type 0} where
  pub over_none : (old : List A) → over [] old ≡ old
  over_none [] = refl
  over_none (o ∷ os) = refl

  over_empty : (items : List A) → over items [] ≡ []
  over_empty [] = refl
  over_empty (x ∷ xs) = refl

  over_length : (items old : List A) → length (over items old) ≡ length old
  over_length [] old = ap length (over_none old)
  over_length (x ∷ xs) [] = refl
  over_length (x ∷ xs) (o ∷ os) = ap suc (over_length xs os)

  pub from_length : (at : ℕ) (items old : List A) → at ≤ length old → length (over_from at items old) ≡ length old
  from_length zero items old l = over_length items old
  from_length (suc at) items [] l = absurd (omega (arith, l))
  from_length (suc at) items (o ∷ os) l = ap suc (from_length at items os (omega (arith, l)))

  -- nothing more is written
  pub from_none : (at : ℕ) (old : List A) → at ≤ length old → over_from at [] old ≡ old
  from_none zero old l = over_none old
  from_none (suc at) [] l = absurd (omega (arith, l))
  from_none (suc at) (o ∷ os) l = ap (λ t. o ∷ t) (from_none at os (omega (arith, l)))

  joined : (xs ys old : List A) (m : ℕ) → m ≡ min (length xs) (length old) → over_from m ys (over xs old) ≡ over (xs ++ ys) old
  joined [] ys old m e =
      let none : m ≡ 0 = omega (arith, e) in
      ap (λ k. over_from k ys (over [] old)) none ∙ ap (over ys) (over_none old)
  joined (x ∷ xs) ys [] m e =
      let none : m ≡ 0 = omega (arith, e) in
      ap (λ k. over_from k ys (over (x ∷ xs) [])) none ∙ over_empty ys
  joined (x ∷ xs) ys (o ∷ os) zero e = absurd (omega (arith, e))
  joined (x ∷ xs) ys (o ∷ os) (suc m) e = ap (λ t. x ∷ t) (joined xs ys os m (omega (arith, e)))

  -- the second part begins after what was written of the first
  pub joined_from : (at m : ℕ) (xs ys old : List A) → at ≤ length old → m ≡ min (at + length xs) (length old) → over_from m ys (over_from at xs old) ≡ over_from at (xs ++ ys) old
  joined_from zero m xs ys old l e = joined xs ys old m (omega (arith, e))
  joined_from (suc at) m xs ys [] l e = absurd (omega (arith, l))
  joined_from (suc at) zero xs ys (o ∷ os) l e = absurd (omega (arith, e))
  joined_from (suc at) (suc m) xs ys (o ∷ os) l e = ap (λ t. o ∷ t) (joined_from at m xs ys os (omega (arith, l)) (omega (arith, e)))

  -- nothing is written to a full buffer
  pub from_full : (at : ℕ) (items old : List A) → length old ≤ at → over_from at items old ≡ old
  from_full zero items [] l = over_empty items
  from_full zero items (o ∷ os) l = absurd (omega (arith, l))
  from_full (suc at) items [] l = over_empty items
  from_full (suc at) items (o ∷ os) l = ap (λ t. o ∷ t) (from_full at items os (omega (arith, l)))

  -- an item is written
  pub set_here : (at : ℕ) (x : A) (old : List A) → at < length old → slice_set old at x ≡ over_from at (x ∷ []) old
  set_here at x [] l = absurd (omega (arith, l))
  set_here zero x (o ∷ os) l = ap (λ t. x ∷ t) (sym (over_none os))
  set_here (suc at) x (o ∷ os) l = ap (λ t. o ∷ t) (set_here at x os (omega (arith, l)))

  -- an item is written before those after it
  set_before : (at : ℕ) (x : A) (xs old : List A) → at < length old → slice_set (over_from (suc at) xs old) at x ≡ over_from at (x ∷ xs) old
  set_before at x xs [] l = absurd (omega (arith, l))
  set_before zero x xs (o ∷ os) l = refl
  set_before (suc at) x xs (o ∷ os) l = ap (λ t. o ∷ t) (set_before at x xs os (omega (arith, l)))

  pub set_first : (at : ℕ) (x : A) (xs old : List A) → at < length old → slice_set (over_from (at + 1) xs old) at x ≡ over_from at (x ∷ xs) old
  set_first at x xs old l =
      let next : at + 1 ≡ suc at = omega arith in
      ap (λ k. slice_set (over_from k xs old) at x) next ∙ set_before at x xs old l

-- what is still to be written from a place on makes the whole buffer and its count
pub record Continues {A : Type 0} (rest whole : List A) (at : ℕ) (into old : List A) : Type 0 where
  pub written : over_from at rest into ≡ over whole old
  pub size : length into ≡ length old
  pub inside : at ≤ length old
  pub count : min (at + length rest) (length old) ≡ min (length whole) (length old)

module _ {A : Type 0} where
  pub begins : (whole old : List A) → Continues whole whole 0 old old
  begins whole old = record { written = refl; size = refl; inside = omega arith; count = omega arith }

  -- a part is written
  pub continues : (part rest both whole : List A) (at m : ℕ) (into new old : List A) → both ≡ part ++ rest → length both ≡ length part + length rest → new ≡ over_from at part into → m ≡ min (at + length part) (length into) → Continues both whole at into old → Continues rest whole m new old
  continues part rest both whole at m into new old parts sum is count h =
      let within : at ≤ length into = (let s = h.size in let i = h.inside in omega (arith, s, i)) in
      let long : length new ≡ length into = ap length is ∙ from_length at part into within in
      let s = h.size in let i = h.inside in let c = h.count in
      record {
        written = ap (over_from m rest) is ∙ joined_from at m part rest into within count ∙ ap (λ t. over_from at t into) (sym parts) ∙ h.written;
        size = long ∙ s;
        inside = omega (arith, count, s);
        count = omega (arith, count, s, i, c, sum);
      }

  -- all parts are written
  pub ends : (whole : List A) (at : ℕ) (into old : List A) → Continues [] whole at into old → (into ≡ over whole old) × (at ≡ min (length whole) (length old))
  ends whole at into old h =
      let s = h.size in let i = h.inside in let c = h.count in
      let within : at ≤ length into = omega (arith, s, i) in
      (sym (from_none at into within) ∙ h.written, omega (arith, s, i, c))

-- what is still to be written from a place on makes all items from place b on
pub record ContinuesFrom {A : Type 0} (rest whole : List A) (b at : ℕ) (into old : List A) : Type 0 where
  pub written : over_from at rest into ≡ over_from b whole old
  pub size : length into ≡ length old
  pub inside : at ≤ length old
  pub count : min (at + length rest) (length old) ≡ min (b + length whole) (length old)

module _ {A : Type 0} where
  pub begins_from : (whole : List A) (b : ℕ) (old : List A) → b ≤ length old → ContinuesFrom whole whole b b old old
  begins_from whole b old l = record { written = refl; size = refl; inside = l; count = refl }

  -- a part is written
  pub continues_from : (part rest both whole : List A) (b at m : ℕ) (into new old : List A) → both ≡ part ++ rest → WritesFrom part at into new m
      → ContinuesFrom both whole b at into old → ContinuesFrom rest whole b m new old
  continues_from part rest both whole b at m into new old parts part_is h =
      let sum : length both ≡ length part + length rest = ap length parts ∙ length-append part rest in
      let is = part_is.written in let count = part_is.end_is in
      let s = h.size in let i = h.inside in let c = h.count in
      let within : at ≤ length into = omega (arith, s, i) in
      let long : length new ≡ length into = ap length is ∙ from_length at part into within in
      record {
        written = ap (over_from m rest) is ∙ joined_from at m part rest into within count ∙ ap (λ t. over_from at t into) (sym parts) ∙ h.written;
        size = long ∙ s;
        inside = omega (arith, count, s);
        count = omega (arith, count, s, i, c, sum);
      }

  -- all parts are written
  pub ends_from : (whole : List A) (b at : ℕ) (into old : List A) → ContinuesFrom [] whole b at into old → WritesFrom whole b old into at
  ends_from whole b at into old h =
      let s = h.size in let i = h.inside in let c = h.count in
      let within : at ≤ length into = omega (arith, s, i) in
      record { written = sym (from_none at into within) ∙ h.written; end_is = omega (arith, s, i, c) }

  -- a full buffer has all that fits
  pub full_from : (rest whole : List A) (b at : ℕ) (into old : List A) → length into ≤ at → ContinuesFrom rest whole b at into old → WritesFrom whole b old into at
  full_from rest whole b at into old l h =
      let s = h.size in let i = h.inside in let c = h.count in
      record { written = sym (from_full at rest into l) ∙ h.written; end_is = omega (arith, s, i, c, l) }

  -- the size of a buffer stays
  pub size_from : (items : List A) (at : ℕ) (old new : List A) (end : ℕ) → at ≤ length old → WritesFrom items at old new end → length new ≡ length old
  size_from items at old new end l h = ap length h.written ∙ from_length at items old l

-- ---- the first item of a list, and the others

module _ {X : Type 0} where
  take_whole : (xs : List X) → take (length xs) xs ≡ xs
  take_whole [] = refl
  take_whole (x ∷ xs) = ap (λ ys. x ∷ ys) (take_whole xs)

  pub rest_at : (xs : List X) (x d : X) → 1 ≤ length xs → x ≡ get_or xs 0 d → xs ≡ x ∷ take (length xs - 1) (drop 1 xs)
  rest_at [] x d l e = absurd (omega (arith, l))
  rest_at (y ∷ ys) x d l e =
      let n : length (y ∷ ys) - 1 ≡ length ys = omega arith in
      λ i. sym e i ∷ sym (ap (λ k. take k ys) n ∙ take_whole ys) i

  pub rest_length : (xs : List X) → 1 ≤ length xs → length (take (length xs - 1) (drop 1 xs)) + 1 ≡ length xs
  rest_length [] l = absurd (omega (arith, l))
  rest_length (y ∷ ys) l =
      let n : length (y ∷ ys) - 1 ≡ length ys = omega arith in
      let same : length (take (length (y ∷ ys) - 1) ys) ≡ length ys = ap length (ap (λ k. take k ys) n ∙ take_whole ys) in
      omega (arith, same)

  module _ {A : Type 0} (f : X → List A) where
    -- the items of the first element and of the others
    pub parts_of : (xs : List X) (x d : X) → 1 ≤ length xs → x ≡ get_or xs 0 d → flat_map f xs ≡ f x ++ flat_map f (take (length xs - 1) (drop 1 xs))
    parts_of xs x d l z = ap (flat_map f) (rest_at xs x d l z)

    pub lengths_of : (xs : List X) (x d : X) → 1 ≤ length xs → x ≡ get_or xs 0 d → length (flat_map f xs) ≡ length (f x) + length (flat_map f (take (length xs - 1) (drop 1 xs)))
    lengths_of xs x d l z = ap length (parts_of xs x d l z) ∙ length-append (f x) (flat_map f (take (length xs - 1) (drop 1 xs)))

    -- the items of the first element are written
    pub step_on : (xs : List X) (x d : X) (whole : List A) (at m : ℕ) (into new old : List A) → 1 ≤ length xs → x ≡ get_or xs 0 d → new ≡ over_from at (f x) into → m ≡ min (at + length (f x)) (length into) → Continues (flat_map f xs) whole at into old
        → Continues (flat_map f (take (length xs - 1) (drop 1 xs))) whole m new old
    step_on xs x d whole at m into new old l z is count h =
        continues (f x) (flat_map f (take (length xs - 1) (drop 1 xs))) (flat_map f xs) whole at m into new old (parts_of xs x d l z) (lengths_of xs x d l z) is count h

    pub none_of : (xs : List X) → length xs < 1 → flat_map f xs ≡ []
    none_of [] l = refl
    none_of (x ∷ xs) l = absurd (omega (arith, l))
