-- What is parsed after a punctuation mark.
use Rattle.std.proofs.Common.{◌≡◌, ℕ, Bool, zero, suc, ◌-◌, ◌≤◌, List, sym, ap, ◌∙◌, arith}
use Rattle.ir_text_tokens.specs.declared.token.Mark.{Mark}
use Rattle.ir_text_tokens.specs.Tokens.{mark, next}
use Rattle.ir_types.specs.Things.{ContextModel}
use Rattle.ir_text_types.specs.Outcomes.{Read, ◌>>=◌, of_option}
use Rattle.ir_text_attributes.specs.AttrReading.{mark_attr, attr_from, attr_at}

pub attr_mark : (o : Bool) (depth : ℕ) (bytes rest : List ℕ) (c : ContextModel) (m : Mark) → 1 ≤ depth → of_option (next bytes) ≡ Read (mark m, rest) → attr_at o depth (bytes, c) ≡ mark_attr o depth (depth - 1) (attr_at o (depth - 1)) m (bytes, c) rest
unfolding attr_at
attr_mark o zero bytes rest c m some token = absurd (none some)
  where
    none : 1 ≤ 0 → ⊥
    none h = omega arith
attr_mark o (suc depth) bytes rest c m some token =
    let less : suc depth - 1 ≡ depth = omega arith in
    ap (λ x. x >>= λ t. attr_from o (suc depth) depth (attr_at o depth) (bytes, c) t.0 t.1) token ∙ ap (λ d. mark_attr o (suc depth) d (attr_at o d) m (bytes, c) rest) (sym less)
