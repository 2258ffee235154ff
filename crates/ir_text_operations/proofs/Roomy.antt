-- If there are few entries and no properties, there is capacity for one more.
use Rattle.std.proofs.Common.{◌≡◌, refl, ap, sym, ◌∙◌, ℕ, ◌+◌, ◌<◌, Bool, true, false, cond, not, List, length, arith}
use Rattle.std.specs.Prelude.{nat_le}
use Rattle.std.specs.List.{filter}
use Rattle.std.proofs.lemmas.Bool.{lt-leb}
use Rattle.std.proofs.lemmas.List.Filters.{length-filter_both}
use Rattle.ir_text_operations.specs.Entries.{moved, staying, no_headroom}

pub roomy : {K A : Type 0} (p : K → Bool) (ps es : List (K × A)) → length ps < 1 → length es < 256 → (k : K) → no_headroom p ps k es ≡ false
roomy p ps es none few k =
    let all : length (moved p es) + length (staying p es) ≡ length es = length-filter_both (λ e. p e.0) (λ e. not (p e.0)) (λ e. refl) es in
    let left : nat_le 256 (length ps + length (moved p es)) ≡ false = lt-leb 256 (length ps + length (moved p es)) (omega (arith, none, few, all)) in
    let right : nat_le 256 (length (staying p es)) ≡ false = lt-leb 256 (length (staying p es)) (omega (arith, none, few, all)) in
    (λ i. cond (p k) (left i) (right i)) ∙ elim (p k) as (λ b. cond b false false ≡ false) [ true ↦ refl | false ↦ refl ]
