-- Rows in the form of a call's contract, and simple facts.
use Rattle.std.proofs.Common.{◌≡◌, ℕ, ◌<◌, List, set, length, eqb, Some, arith}
use Rattle.std.specs.Prelude.{Result, Ok, Err, OnOk}
use Rattle.std.specs.Ordering.{nat_cmp, eq_by_cmp}
use Rattle.std.proofs.lemmas.Bool.Decides.{nat_tests}
use Rattle.std.proofs.lemmas.List.{get_or-set_same, get_or-set_other}
use Rattle.ir_store_slots.specs.Rows.{Row, row_at, no_row}

pub other_row : (slots : List Row) (k : ℕ) (r : Row) (q : ℕ) → (q ≡ k → ⊥) → row_at (set slots k r) q ≡ row_at slots q
other_row slots k r q ne = get_or-set_other slots k q r no_row ne

pub own_row : (slots : List Row) (k : ℕ) (r : Row) → k < length slots → row_at (set slots k r) k ≡ r
own_row slots k r l = get_or-set_same slots k r no_row l

pub on_ok : {X Y A B : Type 0} (r : Result X Y) → (A → B) → OnOk r A → OnOk r B
on_ok (Ok x) f a = f a
on_ok (Err e) f a = tt

pub eq_nat : (a b : ℕ) → eq_by_cmp nat_cmp a b ≡ eqb a b
eq_nat a b = grind (arith, nat_tests)

pub some_same : {X : Type 0} (x y : X) → Some x ≡ Some y → x ≡ y
some_same x y e = cc
