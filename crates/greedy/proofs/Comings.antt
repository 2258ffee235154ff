-- Results of runs of rewrites.
use Rattle.std.proofs.Common.{◌≡◌, ◌≢◌, refl, ap, sym, ◌∙◌, ℕ, zero, suc, ◌+◌, ◌-◌, ◌≤◌, ◌<◌, inl, inr, ◌⊎◌, Bool, true, false, cond, ◌&&◌, List, [], ◌∷◌, Option, Some, None, true≢false, arith}
use Rattle.std.specs.Prelude.{nat_le}
use Rattle.std.proofs.lemmas.Bool.{le-leb, lt-leb}
use Rattle.ir_event.specs.types.declared.refusal.Refusal.{Refusal}
use Rattle.ir_event.specs.types.declared.refusal.Refusal.TheVariants.{Memory, BadLimit, Full, IdsExhausted}
use Rattle.ir_event.specs.trees.Ids.{ids, op_count}
use Rattle.ir_event.specs.trees.Limits.{most_ops, most_next}
use Rattle.ir_event.specs.Modules.{Module}
use Rattle.rewriter_machine.specs.Contents.{Edit}
use Rattle.patterns_base.specs.declared.rule.Rule.{Rule}
use Rattle.patterns_base.specs.Makes.{made_by}
use Rattle.patterns_base.specs.Rewrites.{Rewrite, none, refused, becomes, edits_of, rewrite_by, rewrite_of}
use Rattle.patterns_base.specs.Canonicalization.{or_else, first_rule, End, converged, limited, aborted, ended, end_of, go_on, most_rewrites}
use Rattle.greedy.specs.Outcomes.{Applied, Refuses, MarksRewrite, IsReasonBy, Stop, is_limit}
use Rattle.greedy.specs.PatternSet.{PatternSetModel}
use Rattle.greedy.specs.Rewriting.{first_by, next_by, rewritten_from, rewriting_of}

pub limited_by : (a : Rewrite) → a ≢ none → end_of a ≡ limited
limited_by none n = absurd (n refl)
limited_by (refused e) n = refl
limited_by (becomes p) n = refl

-- ---- what a call reports about the next rewrite
pub tells : (a : Rewrite) (b : Bool) → b ≡ true → MarksRewrite a b → a ≢ none
tells a true t h = h
tells a false t h = absurd (true≢false (sym t))

pub tells_none : (a : Rewrite) (b : Bool) → b ≡ false → MarksRewrite a b → a ≡ none
tells_none a false f h = h
tells_none a true f h = absurd (true≢false f)

-- ---- limits
pub limit_low : (limit : ℕ) → limit < 1 → is_limit limit ≡ false
limit_low limit l = ap (λ b. b && nat_le limit most_rewrites) (lt-leb 1 limit l)

pub limit_high : (limit : ℕ) → 1 ≤ limit → 1000000 < limit → is_limit limit ≡ false
unfolding most_rewrites
limit_high limit l h = ap (λ b. b && nat_le limit 1000000) (le-leb 1 limit l) ∙ lt-leb limit 1000000 h

pub limit_fits : (limit : ℕ) → 1 ≤ limit → limit ≤ 1000000 → is_limit limit ≡ true
unfolding most_rewrites
limit_fits limit l h = ap (λ b. b && nat_le limit 1000000) (le-leb 1 limit l) ∙ le-leb limit 1000000 h

-- ---- rules are refused for the number of operations or ids
abbrev pub IsCount : Refusal → Type 0
IsCount e = (e ≡ Full) ⊎ (e ≡ IdsExhausted)

refused_is : (f e : Refusal) → refused f ≡ refused e → f ≡ e
refused_is f e h = ap (λ a. elim a as (λ _. Refusal) [ none ↦ f | refused g ↦ g | becomes p ↦ f ]) h

pub not_refused : (a : Rewrite) (e : Refusal) → a ≡ none → a ≡ refused e → ⊥
not_refused a e n h = true≢false (ap (λ a. elim a as (λ _. Bool) [ none ↦ false | refused g ↦ true | becomes p ↦ false ]) (sym h ∙ n))

not_becoming : (a : Rewrite) (e : Refusal) (p : Module) → a ≡ becomes p → a ≡ refused e → ⊥
not_becoming a e p n h = true≢false (ap (λ a. elim a as (λ _. Bool) [ none ↦ false | refused g ↦ true | becomes p ↦ false ]) (sym h ∙ n))

counted_by : (a b : Bool) (n : Module) (e : Refusal) → cond a (cond b (becomes n) (refused IdsExhausted)) (refused Full) ≡ refused e → IsCount e
counted_by true true n e h = absurd (not_becoming _ e n refl h)
counted_by true false n e h = inr (sym (refused_is IdsExhausted e h))
counted_by false b n e h = inl (sym (refused_is Full e h))

pub edits_count : (es : Option (List Edit)) (m : Module) (e : Refusal) → rewrite_by es m ≡ refused e → IsCount e
edits_count None m e h = absurd (not_refused none e refl h)
edits_count (Some es) m e h = counted_by (nat_le (op_count m.tree + made_by es) most_ops) (nat_le (m.next + made_by es) most_next) _ e h

pub either_refused : (a b : Rewrite) (e : Refusal) → or_else a b ≡ refused e → (a ≡ refused e) ⊎ (b ≡ refused e)
either_refused none b e h = inr h
either_refused (refused f) b e h = inl h
either_refused (becomes p) b e h = inl h

pub rules_count : (rs : List Rule) (m : Module) (x : ℕ) (e : Refusal) → first_rule rs m x ≡ refused e → IsCount e
unfolding first_rule rewrite_of
rules_count [] m x e h = absurd (not_refused none e refl h)
rules_count (r ∷ rs) m x e h = elim (either_refused (rewrite_of r m x) (first_rule rs m x) e h) [
  | inl k ↦ edits_count (edits_of r m x) m e k
  | inr k ↦ rules_count rs m x e k
]

pub stopped_is : (f e : Refusal) → aborted f ≡ aborted e → f ≡ e
stopped_is f e h = ap (λ a. elim a as (λ _. Refusal) [ aborted g ↦ g | ended n k d ↦ f ]) h

pub not_stopped : (n : Module) (k : ℕ) (d : End) (e : Refusal) → ended n k d ≡ aborted e → ⊥
not_stopped n k d e h = true≢false (ap (λ a. elim a as (λ _. Bool) [ aborted g ↦ false | ended n k d ↦ true ]) h)

pub count_no_limit : (e : Refusal) → IsCount e → e ≡ BadLimit → ⊥
count_no_limit e (inl f) h = let k : Full ≡ BadLimit = sym f ∙ h in absurd cc
count_no_limit e (inr f) h = let k : IdsExhausted ≡ BadLimit = sym f ∙ h in absurd cc

-- if an attempt is refused with anything but `Memory`, there is a next rewrite
pub reported : (a : Rewrite) (full : Type 0) (e : Refusal) → Refuses a full e → (e ≡ Memory → ⊥) → a ≢ none
reported a full e (inl h) n = absurd (n h)
reported a full e (inr (inl h)) n = λ k. not_refused a e k h
reported a full e (inr (inr h)) n = h.1.0

-- ---- rewriting by a pattern set
module _ (pattern_set : PatternSetModel) where
  -- ---- one rewrite, or none
  goes_on : (left done : ℕ) (m n : Module) → next_by pattern_set m ≡ becomes n → rewritten_from pattern_set (suc left) done m ≡ rewritten_from pattern_set left (done + 1) n
  unfolding rewritten_from
  goes_on left done m n e = ap (λ a. go_on a m done (rewritten_from pattern_set left (done + 1))) e

  ends : (left done : ℕ) (m : Module) → next_by pattern_set m ≡ none → rewritten_from pattern_set left done m ≡ ended m done converged
  unfolding rewritten_from
  ends zero done m e = ap (λ a. ended m done (end_of a)) e
  ends (suc left) done m e = ap (λ a. go_on a m done (rewritten_from pattern_set left (done + 1))) e

  stops_for : (left done : ℕ) (m : Module) (e : Refusal) → next_by pattern_set m ≡ refused e → rewritten_from pattern_set (suc left) done m ≡ aborted e
  unfolding rewritten_from
  stops_for left done m e h = ap (λ a. go_on a m done (rewritten_from pattern_set left (done + 1))) h

  at_limit : (done : ℕ) (m : Module) → next_by pattern_set m ≢ none → rewritten_from pattern_set zero done m ≡ ended m done limited
  unfolding rewritten_from
  at_limit done m n = ap (ended m done) (limited_by (next_by pattern_set m) n)

  -- ---- a run so far, from its first module
  pub at_start : (limit : ℕ) (m : Module) → rewritten_from pattern_set (limit - 0) 0 m ≡ rewritten_from pattern_set limit 0 m
  at_start limit m = let e : limit - 0 ≡ limit = omega arith in ap (λ k. rewritten_from pattern_set k 0 m) e

  module _ (limit : ℕ) (old : Module) (count : ℕ) (m : Module) (so_far : rewritten_from pattern_set (limit - count) count m ≡ rewritten_from pattern_set limit 0 old) where
    more_left : count < limit → limit - count ≡ suc (limit - (count + 1))
    more_left l = omega (arith, l)

    pub one_more : (n : Module) (b : Bool) → count < limit → b ≡ true → Applied (next_by pattern_set m) b m n → rewritten_from pattern_set (limit - (count + 1)) (count + 1) n ≡ rewritten_from pattern_set limit 0 old
    one_more n b l t h = sym (goes_on (limit - (count + 1)) count m n (gave (next_by pattern_set m) refl h)) ∙ ap (λ k. rewritten_from pattern_set k count m) (sym (more_left l)) ∙ so_far
      where
        gave : (a : Rewrite) → next_by pattern_set m ≡ a → Applied a b m n → next_by pattern_set m ≡ becomes n
        gave none e h = absurd (true≢false (sym t ∙ h.0))
        gave (refused e) f h = absurd h
        gave (becomes q) e h = e ∙ ap becomes (sym h.1)

    pub converges : (n : Module) (b : Bool) → b ≡ false → Applied (next_by pattern_set m) b m n → rewritten_from pattern_set limit 0 old ≡ ended n count converged
    converges n b f h = go (next_by pattern_set m) refl h
      where
        go : (a : Rewrite) → next_by pattern_set m ≡ a → Applied a b m n → rewritten_from pattern_set limit 0 old ≡ ended n count converged
        go none e h = sym so_far ∙ ends (limit - count) count m e ∙ ap (λ p. ended p count converged) (sym h.1)
        go (refused g) e h = absurd h
        go (becomes q) e h = absurd (true≢false (sym h.0 ∙ f))

    pub refuses : (full : Type 0) (e : Refusal) → count < limit → Refuses (next_by pattern_set m) full e → Stop pattern_set limit old full e
    refuses full e l (inl h) = inl h
    refuses full e l (inr (inl h)) = inr (inl (sym so_far ∙ ap (λ k. rewritten_from pattern_set k count m) (more_left l) ∙ stops_for (limit - (count + 1)) count m e h))
    refuses full e l (inr (inr h)) = inr (inr (h.0, h.1.1))

    none_left : limit ≤ count → limit - count ≡ zero
    none_left l = omega (arith, l)

    pub converged_there : limit ≤ count → next_by pattern_set m ≡ none → rewritten_from pattern_set limit 0 old ≡ ended m count converged
    converged_there l n = sym so_far ∙ ends (limit - count) count m n

    pub limited_there : limit ≤ count → next_by pattern_set m ≢ none → rewritten_from pattern_set limit 0 old ≡ ended m count limited
    limited_there l n = sym so_far ∙ ap (λ k. rewritten_from pattern_set k count m) (none_left l) ∙ at_limit count m n

  pub from_start : (limit : ℕ) (m : Module) → is_limit limit ≡ true → rewriting_of pattern_set limit m ≡ rewritten_from pattern_set limit 0 m
  unfolding rewriting_of
  from_start limit m e = ap (λ b. cond b (rewritten_from pattern_set limit 0 m) (aborted BadLimit)) e

  pub from_start_of : (limit : ℕ) (m n : Module) → is_limit limit ≡ true → n ≡ m → rewriting_of pattern_set limit m ≡ rewritten_from pattern_set limit 0 n
  from_start_of limit m n e h = from_start limit m e ∙ ap (rewritten_from pattern_set limit 0) (sym h)

  pub stops_alike : (limit : ℕ) (m n : Module) (full later : Type 0) (e : Refusal) → n ≡ m → (full → later) → Stop pattern_set limit n full e → Stop pattern_set limit m later e
  stops_alike limit m n full later e h f (inl k) = inl k
  stops_alike limit m n full later e h f (inr (inl k)) = inr (inl (ap (rewritten_from pattern_set limit 0) (sym h) ∙ k))
  stops_alike limit m n full later e h f (inr (inr k)) = inr (inr (k.0, f k.1))

  -- ---- why a run is refused
  pub limit_reason : (limit : ℕ) (m : Module) (full : Type 0) → is_limit limit ≡ false → IsReasonBy pattern_set limit m full BadLimit
  limit_reason limit m full f = record { limited = (λ h. f, λ h. refl); others = λ t. absurd (true≢false (sym t ∙ f)) }

  module _ (counts : (m : Module) (x : ℕ) (e : Refusal) → pattern_set.comes m x ≡ refused e → IsCount e) where
    next_count : (xs : List ℕ) (m : Module) (e : Refusal) → first_by pattern_set xs m ≡ refused e → IsCount e
    unfolding first_by
    next_count [] m e h = absurd (not_refused none e refl h)
    next_count (x ∷ xs) m e h = elim (either_refused (pattern_set.comes m x) (first_by pattern_set xs m) e h) [
      | inl k ↦ counts m x e k
      | inr k ↦ next_count xs m e k
    ]

    stop_count : (left done : ℕ) (m : Module) (e : Refusal) → rewritten_from pattern_set left done m ≡ aborted e → IsCount e
    unfolding rewritten_from
    stop_count zero done m e h = absurd (not_stopped m done (end_of (next_by pattern_set m)) e h)
    stop_count (suc left) done m e h = by (next_by pattern_set m) refl h (λ n. stop_count left (done + 1) n e)
      where
        by : (a : Rewrite) → next_by pattern_set m ≡ a → go_on a m done (rewritten_from pattern_set left (done + 1)) ≡ aborted e → ((n : Module) → rewritten_from pattern_set left (done + 1) n ≡ aborted e → IsCount e) → IsCount e
        by none q h more = absurd (not_stopped m done converged e h)
        by (refused f) q h more = next_count (ids m.tree) m e (q ∙ ap refused (stopped_is f e h))
        by (becomes n) q h more = more n h

    pub stop_reason : (limit : ℕ) (m : Module) (full : Type 0) (e : Refusal) → is_limit limit ≡ true → Stop pattern_set limit m full e → IsReasonBy pattern_set limit m full e
    stop_reason limit m full e t s = record {
      limited = (λ h. absurd (not_bad s h), λ f. absurd (true≢false (sym t ∙ f)));
      others = λ k. begun s;
    }
      where
        begun : Stop pattern_set limit m full e → (e ≡ Memory) ⊎ ((rewriting_of pattern_set limit m ≡ aborted e) ⊎ ((e ≡ Full) × full))
        begun (inl h) = inl h
        begun (inr (inl h)) = inr (inl (from_start limit m t ∙ h))
        begun (inr (inr h)) = inr (inr h)

        not_bad : Stop pattern_set limit m full e → e ≡ BadLimit → ⊥
        not_bad (inl f) h = let k : Memory ≡ BadLimit = sym f ∙ h in absurd cc
        not_bad (inr (inl f)) h = count_no_limit e (stop_count limit 0 m e f) h
        not_bad (inr (inr f)) h = let k : Full ≡ BadLimit = sym f.0 ∙ h in absurd cc
