-- A call that writes one row, as its contract describes the write.
use Rattle.std.proofs.Common.{◌≡◌, ℕ, ◌<◌, List, set, ap, ◌∙◌, length}
use Rattle.std.proofs.lemmas.List.{length-set}
use Rattle.ir_store_reads.specs.Rows.{Row, row_at}
use Rattle.ir_store_reads.proofs.Items.{other_row, own_row}

module _ (slots slots' : List Row) (k : ℕ) (r : Row) (e : slots' ≡ set slots k r) where
  pub put_long : length slots' ≡ length slots
  put_long = ap length e ∙ length-set slots k r

  pub put_own : k < length slots → row_at slots' k ≡ r
  put_own l = ap (λ z. row_at z k) e ∙ own_row slots k r l

  pub put_other : (q : ℕ) → (q ≡ k → ⊥) → row_at slots' q ≡ row_at slots q
  put_other q ne = ap (λ z. row_at z q) e ∙ other_row slots k r q ne
