-- Rewriting by the rules of canonicalization is canonicalization.
use Rattle.std.proofs.Common.{◌≡◌, refl, ap, ◌∙◌, ℕ, zero, suc, ◌+◌, cond, List, [], ◌∷◌}
use Rattle.std.specs.Prelude.{◌&&◌, nat_le}
use Rattle.ir_event.specs.types.declared.refusal.Refusal.TheVariants.{BadLimit}
use Rattle.ir_event.specs.trees.Ids.{ids}
use Rattle.ir_event.specs.Modules.{Module}
use Rattle.patterns_base.specs.Rewrites.{Rewrite, none, refused, becomes}
use Rattle.patterns_base.specs.Canonicalization.{Canonical, canonical_from, canonicalization_of, end_of, ended, first_among, go_on, greedy_rules, highest_priority, most_rewrites, next_rewrite, or_else, aborted}
use Rattle.greedy.specs.PatternSet.{by_rules}
use Rattle.greedy.specs.Rewriting.{first_by, rewritten_from, rewriting_of}

same_first : (xs : List ℕ) (m : Module) → first_by (by_rules greedy_rules) xs m ≡ first_among xs m
unfolding first_by first_among
same_first [] m = refl
same_first (x ∷ xs) m = ap (or_else (highest_priority m x)) (same_first xs m)

same_from : (left done : ℕ) (m : Module) → rewritten_from (by_rules greedy_rules) left done m ≡ canonical_from left done m
unfolding rewritten_from canonical_from
same_from zero done m = ap (λ a. ended m done (end_of a)) (same_first (ids m.tree) m)
same_from (suc left) done m =
    ap (λ a. go_on a m done (rewritten_from (by_rules greedy_rules) left (done + 1))) (same_first (ids m.tree) m)
    ∙ by (next_rewrite m) (same_from left (done + 1))
  where
    by : (a : Rewrite) → ((n : Module) → rewritten_from (by_rules greedy_rules) left (done + 1) n ≡ canonical_from left (done + 1) n)
        → go_on a m done (rewritten_from (by_rules greedy_rules) left (done + 1)) ≡ go_on a m done (canonical_from left (done + 1))
    by none same = refl
    by (refused e) same = refl
    by (becomes n) same = same n

pub same_rewriting : (limit : ℕ) (m : Module) → rewriting_of (by_rules greedy_rules) limit m ≡ canonicalization_of limit m
unfolding rewriting_of canonicalization_of
same_rewriting limit m = ap (λ (made : Canonical). cond (nat_le 1 limit && nat_le limit most_rewrites) made (aborted BadLimit)) (same_from limit 0 m)
