-- The ids of the operations that a rewrite created, one by one.
use Rattle.std.proofs.Common.{◌≡◌, ◌∙◌, sym, ap, ◌≤◌, ◌<◌, ◌+◌, ◌-◌, ℕ, suc, List, ◌++◌, append-nil, append_assoc, Bool, false, arith}
use Rattle.mlir_work_script_base.specs.Values.{op_text}
use Rattle.mlir_work_transforms.specs.TraceText.{lead, made_from}

-- one more id was written
pub one_made : (first : Bool) (x until : ℕ) (before after whole : List ℕ) → x < until → after ≡ before ++ (lead first ++ op_text x) → before ++ made_from first x (until - x) ≡ whole → after ++ made_from false (x + 1) (until - (x + 1)) ≡ whole
one_made first x until before after whole below wrote is =
    let rest = made_from false (x + 1) (until - (x + 1)) in
    let left : until - x ≡ suc (until - (x + 1)) = omega (arith, below) in
    ap (λ l. l ++ rest) wrote ∙ append_assoc before (lead first ++ op_text x) rest ∙ ap (λ l. before ++ l) (append_assoc (lead first) (op_text x) rest ∙ sym (ap (made_from first x) left)) ∙ is

-- all ids were written
pub all_made : (first : Bool) (x until : ℕ) (after whole : List ℕ) → until ≤ x → after ++ made_from first x (until - x) ≡ whole → after ≡ whole
all_made first x until after whole past is =
    let none : until - x ≡ 0 = omega (arith, past) in
    sym (append-nil after) ∙ sym (ap (λ n. after ++ made_from first x n) none) ∙ is
