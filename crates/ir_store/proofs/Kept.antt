-- Steps of the walk over the uses of the values defined inside an operation.
use Rattle.std.proofs.Common.{◌≡◌, ℕ, zero, suc, ◌+◌, ◌-◌, List, refl, ap, ◌∙◌, length, Bool, true, false, ◌&&◌, arith}
use Rattle.std.specs.List.{list_all}
use Rattle.ir_store_reads.specs.Lists.{list_at}
use Rattle.ir_store_reads.specs.Rows.{Row, row_at}
use Rattle.ir_store.specs.Outside.{lists_pass, shapes_keep, slot_keeps}

-- a slot whose row is read, if there are levels left
module _ (slots : List Row) (lists : List (List ℕ)) (f : ℕ → ℕ → Bool) (k : ℕ) where
  pub row_none : (n : ℕ) → n ≡ 0 → slot_keeps slots lists f n k ≡ false
  row_none n e = ap (λ z. slot_keeps slots lists f z k) e

  pub row_dead : (n : ℕ) → (row_at slots k).live ≡ false → slot_keeps slots lists f n k ≡ false
  row_dead zero e = refl
  row_dead (suc n) e = ap (λ b. b && (f (row_at slots k).values (length (row_at slots k).head.results) && shapes_keep slots lists f (slot_keeps slots lists f n) (row_at slots k).shapes)) e

  pub row_fails : (n : ℕ) → f (row_at slots k).values (length (row_at slots k).head.results) ≡ false → slot_keeps slots lists f n k ≡ false
  row_fails zero e = refl
  row_fails (suc n) e = (λ i. (row_at slots k).live && (e i && shapes_keep slots lists f (slot_keeps slots lists f n) (row_at slots k).shapes)) ∙ nothing (row_at slots k).live
    where
      nothing : (b : Bool) → (b && false) ≡ false
      nothing true = refl
      nothing false = refl

  pub row_passes : (n : ℕ) → (n ≡ 0 → ⊥) → (row_at slots k).live ≡ true → f (row_at slots k).values (length (row_at slots k).head.results) ≡ true
      → slot_keeps slots lists f n k ≡ shapes_keep slots lists f (slot_keeps slots lists f (n - 1)) (row_at slots k).shapes
  row_passes zero ne l e = absurd (ne refl)
  row_passes (suc n) ne l e =
      let same : n ≡ suc n - 1 = omega arith in
      (λ i. l i && (e i && shapes_keep slots lists f (slot_keeps slots lists f n) (row_at slots k).shapes)) ∙ ap (λ z. shapes_keep slots lists f (slot_keeps slots lists f z) (row_at slots k).shapes) same

-- the lists of consecutive heads
module _ (lists : List (List ℕ)) (p : ℕ → Bool) (b : ℕ) where
  pub list_fails : (n : ℕ) → (n ≡ 0 → ⊥) → list_all p (list_at lists b) ≡ false → lists_pass lists p b n ≡ false
  list_fails zero ne e = absurd (ne refl)
  list_fails (suc n) ne e = ap (λ c. c && lists_pass lists p (b + 1) n) e

  pub list_passes : (n : ℕ) → (n ≡ 0 → ⊥) → list_all p (list_at lists b) ≡ true → lists_pass lists p b n ≡ lists_pass lists p (b + 1) (n - 1)
  list_passes zero ne e = absurd (ne refl)
  list_passes (suc n) ne e =
      let same : n ≡ suc n - 1 = omega arith in
      ap (λ c. c && lists_pass lists p (b + 1) n) e ∙ ap (lists_pass lists p (b + 1)) same
