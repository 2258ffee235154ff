-- Proofs about trimming the end of a text.
use Rattle.std.proofs.Common.{◌≡◌, ℕ, zero, suc, get_or, List, [], ◌∷◌, length, take, true, false, refl, ap, arith}
use Rattle.mlir_work_script_base.specs.Words.{is_edge, trim_back, onto_cut}

-- a blank or carriage return at the end is trimmed
pub cut_edge : (bs : List ℕ) (n : ℕ) → length bs ≡ suc n → is_edge (get_or bs n 0) ≡ true → trim_back bs ≡ trim_back (take n bs)
cut_edge [] n l e = absurd (omega arith)
cut_edge (b ∷ []) zero l e = rw e refl
cut_edge (b ∷ []) (suc n) l e = absurd (omega arith)
cut_edge (b ∷ c ∷ cs) zero l e = absurd (omega arith)
cut_edge (b ∷ c ∷ cs) (suc n) l e = ap (onto_cut b) (cut_edge (c ∷ cs) n (omega arith) e)

-- any other byte at the end is kept
pub cut_nothing : (bs : List ℕ) (n : ℕ) → length bs ≡ suc n → is_edge (get_or bs n 0) ≡ false → trim_back bs ≡ bs
cut_nothing [] n l e = absurd (omega arith)
cut_nothing (b ∷ []) zero l e = rw e refl
cut_nothing (b ∷ []) (suc n) l e = absurd (omega arith)
cut_nothing (b ∷ c ∷ cs) zero l e = absurd (omega arith)
cut_nothing (b ∷ c ∷ cs) (suc n) l e = ap (onto_cut b) (cut_nothing (c ∷ cs) n (omega arith) e)
