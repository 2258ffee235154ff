use Rattle.std.proofs.Common.{◌≡◌, ℕ, suc, ◌+◌, ◌∷◌, Option, Some, None, IfSome, refl, ap, ◌∙◌, drop, option_map, arith}
use Rattle.ir_text_tokens.specs.Strings.{closing, closing_escape}
use Rattle.ir_text_tokens.proofs.strings.part_len.Goals as goal

extra : (n : ℕ) (o : Option ℕ) → option_map suc (option_map (λ k. n + k) o) ≡ option_map (λ k. suc (n + k)) o
extra n None = refl
extra n (Some k) = refl

nothing_extra : (o : Option ℕ) → option_map suc o ≡ option_map (λ k. suc (0 + k)) o
nothing_extra None = refl
nothing_extra (Some k) = ap Some (omega arith)

pub returns-then-byte-eq92-clause-found : goal.returns-then-byte-eq92-clause-found
unfolding closing
returns-then-byte-eq92-clause-found c = by_len c.escape_len.result c.escape_len.ensures.found
  where
    by_len : (o : Option ℕ) → IfSome o (λ n. closing_escape c.args.bytes.now ≡ option_map (λ k. n + k) (closing (drop n c.args.bytes.now))) → IfSome o (λ n. closing (c.args.byte ∷ c.args.bytes.now) ≡ option_map (λ k. suc (n + k)) (closing (drop n c.args.bytes.now)))
    by_len None h = tt
    by_len (Some n) h = rw c.if-byte-eq92.true (ap (option_map suc) h ∙ extra n (closing (drop n c.args.bytes.now)))

pub returns-then-byte-eq92-clause-none : goal.returns-then-byte-eq92-clause-none
unfolding closing
returns-then-byte-eq92-clause-none c = λ none. rw (c.if-byte-eq92.true, c.escape_len.ensures.none none) refl
