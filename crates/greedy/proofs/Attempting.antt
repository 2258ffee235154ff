-- Rules and patterns tried one after another.
use Rattle.std.proofs.Common.{◌≡◌, inl, inr, refl, ap, sym, ◌∙◌, subst, ℕ, ◌+◌, ◌-◌, ◌≤◌, true, false, true≢false, Bool, List, [], ◌∷◌, ◌++◌, length, take, drop, get_or, Option, Some, None, arith}
use Rattle.std.proofs.lemmas.List.{take_all}
use Rattle.ir_event.specs.types.declared.refusal.Refusal.{Refusal}
use Rattle.ir_event.specs.types.Things.{ContextModel}
use Rattle.ir_event.specs.types.Sound.{Holds}
use Rattle.ir_types.proofs.Growth.{grows_trans}
use Rattle.ir_event.proofs.of_types.Truths.{rest_at}
use Rattle.ir_event.specs.Listener.{Listener}
use Rattle.ir_event.specs.Modules.{Module}
use Rattle.patterns_base.specs.Rewrites.{Rewrite, none, refused, becomes}
use Rattle.patterns_base.specs.Canonicalization.{or_else}
use Rattle.patterns.specs.Applied.{Applied, RewriteOutcome, IsReason}
use Rattle.patterns.specs.RewriterCalls.{Benched, Journaled}
use Rattle.patterns.specs.Held.{open_marks}
use Rattle.patterns.specs.rewriter.Moves.{Recorded}
use Rattle.patterns.specs.runs.Runs.{Noted}
use Rattle.patterns.proofs.Notified.{notified_through}
use Rattle.patterns.proofs.of_rewriter.Noted.{recorded_more}
use Rattle.greedy.specs.PatternSet.{rule_or_pattern_of, rewrite_by_entry, patterns_of, by_or, first_applicable_rewrite, first_matching_entry, traced_as}
use Rattle.greedy.specs.declared.applied_rewrite.AppliedPattern.{AppliedPattern}
use Rattle.greedy.specs.declared.pattern_set.RuleOrPattern.{RuleOrPattern}
use Rattle.greedy.proofs.Noting.{noted_left}

-- the list without its first entry
abbrev pub tail : List RuleOrPattern → List RuleOrPattern
tail ts = take (length ts - 1) (drop 1 ts)

pub long : (ts : List RuleOrPattern) (k n : ℕ) → 1 ≤ length ts → k + length ts ≡ n → (k + 1) + length (tail ts) ≡ n
long [] k n l e = absurd (omega (arith, l))
long (t ∷ ts) k n l e =
    let same : length (tail (t ∷ ts)) ≡ length ts = ap (λ (us : List RuleOrPattern). length us) (take_all (length (t ∷ ts) - 1) ts (omega arith)) in
    omega (arith, e, same)

module _ (ts : List RuleOrPattern) (first d : RuleOrPattern) (l : 1 ≤ length ts) (z : first ≡ get_or ts 0 d) (m : Module) (x : ℕ) where
  pub comes_here : first_applicable_rewrite (patterns_of ts) m x ≡ or_else (rewrite_by_entry (rule_or_pattern_of first) m x) (first_applicable_rewrite (patterns_of (tail ts)) m x)
  unfolding first_applicable_rewrite
  comes_here = ap (λ (us : List RuleOrPattern). first_applicable_rewrite (patterns_of us) m x) (rest_at ts first d l z)

  pub fires_here : (k : ℕ) → first_matching_entry k (patterns_of ts) m x ≡ by_or (rewrite_by_entry (rule_or_pattern_of first) m x) (traced_as k (rule_or_pattern_of first)) (first_matching_entry (k + 1) (patterns_of (tail ts)) m x)
  unfolding first_matching_entry
  fires_here k = ap (λ (us : List RuleOrPattern). first_matching_entry k (patterns_of us) m x) (rest_at ts first d l z)

pub none_comes : (ts : List RuleOrPattern) (m : Module) (x : ℕ) → length ts ≤ 0 → first_applicable_rewrite (patterns_of ts) m x ≡ none
unfolding first_applicable_rewrite
none_comes [] m x l = refl
none_comes (t ∷ ts) m x l = absurd (omega (arith, l))

pub none_fires : (k : ℕ) (ts : List RuleOrPattern) (m : Module) (x : ℕ) → length ts ≤ 0 → first_matching_entry k (patterns_of ts) m x ≡ None
unfolding first_matching_entry
none_fires k [] m x l = refl
none_fires k (t ∷ ts) m x l = absurd (omega (arith, l))

-- ---- what the result of an attempt means
pub gave_first : (a b : Rewrite) (done : Bool) (m n : Module) → done ≡ true → RewriteOutcome a done m n → RewriteOutcome (or_else a b) true m n
gave_first none b done m n t h = absurd (true≢false (sym t ∙ h.0))
gave_first (refused e) b done m n t h = absurd h
gave_first (becomes p) b done m n t h = (refl, h.1)

pub reported_first : (a : Rewrite) (by : AppliedPattern) (other : Option AppliedPattern) (done : Bool) (m n : Module) → done ≡ true → RewriteOutcome a done m n → by_or a by other ≡ Some by
reported_first none by other done m n t h = absurd (true≢false (sym t ∙ h.0))
reported_first (refused e) by other done m n t h = absurd h
reported_first (becomes p) by other done m n t h = refl

pub gave_none : (a : Rewrite) (done : Bool) (m n : Module) → done ≡ false → RewriteOutcome a done m n → (a ≡ none) × (n ≡ m)
gave_none none done m n f h = (refl, h.1)
gave_none (refused e) done m n f h = absurd h
gave_none (becomes p) done m n f h = absurd (true≢false (sym h.0 ∙ f))

pub reason_first : (a b : Rewrite) (x : ℕ) (m : Module) (c : ContextModel) (e : Refusal) → IsReason a x m c e → IsReason (or_else a b) x m c e
reason_first none b x m c e (inl h) = inl h
reason_first none b x m c e (inr (inl h)) = inr (inl h)
reason_first none b x m c e (inr (inr (inl h))) = absurd h
reason_first none b x m c e (inr (inr (inr h))) = absurd (h.1.0 refl)
reason_first (refused f) b x m c e h = h
reason_first (becomes p) b x m c e h = h

pub gave_all : (a b : Rewrite) (done : Bool) (m n k : Module) → a ≡ b → n ≡ m → RewriteOutcome a done n k → RewriteOutcome b done m k
gave_all a b done m n k e h g = subst (λ (w : Rewrite). RewriteOutcome w done m k) e (subst (λ (p : Module). RewriteOutcome a done p k) h g)

-- ---- one call after another
module _ {B : Type 0} (meaning : B → Listener) (a b c : Benched B) (holds : Holds b.transaction.ctx) (h : Journaled meaning a b) where
  pub journaled_more : Journaled meaning b c → Journaled meaning a c
  journaled_more k = (h.0 ++ k.0, notified_through meaning h.0 k.0 a b c holds h.1 k.1, recorded_more h.0 k.0 a.transaction b.transaction c.transaction h.2.marks h.2 k.2)

  pub applied_more : open_marks b.transaction ≡ open_marks a.transaction → Applied meaning b c → Applied meaning a c
  applied_more opens k = record {
    grows = grows_trans a.transaction.ctx b.transaction.ctx c.transaction.ctx h.1.grows k.grows;
    opens = k.opens ∙ opens;
    led = (h.0 ++ k.led.0, notified_through meaning h.0 k.led.0 a b c holds h.1 k.led.1);
  }

  pub noted_after : Recorded [] b.transaction c.transaction → Noted a.transaction c.transaction
  noted_after k = noted_left a.transaction b.transaction c.transaction (h.0, h.2) k

pub noted_of : {B : Type 0} (meaning : B → Listener) (a b : Benched B) → Journaled meaning a b → Noted a.transaction b.transaction
noted_of meaning a b h = (h.0, h.2)
