-- Each applied rule made at least one operation, so there are at most as many applied rules as new ids.
use Rattle.std.proofs.Common.{◌≡◌, refl, ap, sym, ◌∙◌, true≢false, ℕ, zero, suc, ◌+◌, ◌<◌, ◌≤◌, Bool, true, false, List, [], ◌∷◌, length, length-append, if◌then◌else◌, arith}
use Rattle.std.specs.List.{list_all}
use Rattle.ir_event.specs.trees.Ids.{has_id}
use Rattle.ir_event.proofs.of_tree_laws.Listed.{both}
use Rattle.ir_event.specs.Modules.{Module}
use Rattle.conversion.specs.declared.legalization.Legalization.{Legalization}
use Rattle.conversion.specs.States.{IsLegalization}
use Rattle.conversion_base.specs.Rewrites.{Rewrite, none, refused, becomes, rewrite_of}
use Rattle.conversion_base.specs.Rule.{Rule}
use Rattle.conversion_base.specs.declared.applied_rule.AppliedRule.{AppliedRule}
use Rattle.conversion_base.specs.RuleNames.{is_converting}
use Rattle.conversion_base.specs.Targets.{Aim, is_legal}
use Rattle.conversion_base.specs.Legalization.{Outcome, legalised, failed, aborted, trailing, and_then, or_else, standing, applied_rule, each_of, after_rule, first_rule, legalization_of, made_since}

-- the number of applied rules of an outcome is at most the number of ids given out after a number
abbrev pub Rises : ℕ → Outcome → Type 0
Rises n (legalised p ks limit_reached) = length ks + n ≤ p.next
Rises n (failed limit_reached) = Unit {0}
Rises n (aborted e) = Unit {0}

-- rules for conversion make operations
abbrev pub Makes : Type 0
Makes = (r : Rule) (x : ℕ) (m n : Module) → is_converting r ≡ true → rewrite_of r m x ≡ becomes n → m.next < n.next

rises_trailing : (ks : List AppliedRule) (n l : ℕ) (limit_reached : Bool) (o : Outcome) → length ks + n ≤ l → Rises l o → Rises n (trailing ks limit_reached o)
rises_trailing ks n l limit_reached (legalised p js deep) h r = let e = length-append ks js in omega (arith, h, r, e)
rises_trailing ks n l limit_reached (failed deep) h r = tt
rises_trailing ks n l limit_reached (aborted e) h r = tt

rises_then : (n : ℕ) (f : Module → Outcome) (o : Outcome) → Rises n o → ((m : Module) → Rises m.next (f m)) → Rises n (and_then f o)
rises_then n f (legalised p ks limit_reached) r h = rises_trailing ks n p.next limit_reached (f p) r (h p)
rises_then n f (failed limit_reached) r h = tt
rises_then n f (aborted e) r h = tt

rises_else : (n : ℕ) (o p : Outcome) → Rises n o → Rises n p → Rises n (or_else o p)
rises_else n (legalised m ks limit_reached) p r h = r
rises_else n (failed limit_reached) p r h = rises_trailing [] n n limit_reached p (omega arith) h
rises_else n (aborted e) p r h = tt

module _ (go : Module → ℕ → Outcome) (goes : (m : Module) (x : ℕ) → Rises m.next (go m x)) where
  rises_if : (b : Bool) (m : Module) (o : Outcome) → Rises m.next o → Rises m.next (if b then o else legalised m [] false)
  rises_if true m o r = r
  rises_if false m o r = omega arith

  pub rises_standing : (m : Module) (x : ℕ) → Rises m.next (standing go m x)
  rises_standing m x = rises_if (has_id x m.tree) m (go m x) (goes m x)

  pub rises_each : (xs : List ℕ) (m : Module) → Rises m.next (each_of go xs m)
  rises_each [] m = omega arith
  rises_each (x ∷ xs) m = rises_then m.next (each_of go xs) (standing go m x) (rises_standing m x) (rises_each xs)

  rises_after : (r : Rule) (x : ℕ) (m : Module) (a : Rewrite) → ((n : Module) → a ≡ becomes n → m.next < n.next) → Rises m.next (after_rule go r x m a)
  rises_after r x m none h = tt
  rises_after r x m (refused e) h = tt
  rises_after r x m (becomes n) h = let l = h n refl in rises_trailing (applied_rule r x m n ∷ []) m.next n.next false _ (omega (arith, l)) (rises_each (made_since m.next n) n)

  rises_first : Makes → (rs : List Rule) → list_all is_converting rs ≡ true → (m : Module) (x : ℕ) → Rises m.next (first_rule go rs m x)
  rises_first makes [] a m x = tt
  rises_first makes (r ∷ rs) a m x =
      let b = both (is_converting r) (list_all is_converting rs) a in
      rises_else m.next (after_rule go r x m (rewrite_of r m x)) _ (rises_after r x m (rewrite_of r m x) (λ n. makes r x m n b.0)) (rises_first makes rs b.1 m x)

rises_unless : (b : Bool) (m : Module) (o : Outcome) → Rises m.next o → Rises m.next (if b then legalised m [] false else o)
rises_unless true m o r = omega arith
rises_unless false m o r = r

pub rises_legalization : Makes → (g : Aim) → list_all is_converting g.rules ≡ true → (d : ℕ) (m : Module) (x : ℕ) → Rises m.next (legalization_of g d m x)
rises_legalization makes g a zero m x = rises_unless (is_legal g x m.tree) m (failed true) tt
rises_legalization makes g a (suc d) m x =
    rises_unless (is_legal g x m.tree) m _ (rises_first (legalization_of g d) (rises_legalization makes g a d) makes g.rules a m x)

-- a successful attempt has at most as many applied rules as it gave out ids
pub few_reported : (go : Module → ℕ → Outcome) → ((m : Module) (x : ℕ) → Rises m.next (go m x)) → (m : Module) (x : ℕ) (t : Legalization) (n : Module) → IsLegalization (standing go m x) t m n → t.legal ≡ true → length t.applied.items + m.next ≤ n.next
few_reported go goes m x t n = few (standing go m x) (rises_standing go goes m x)
  where
    few : (o : Outcome) → Rises m.next o → IsLegalization o t m n → t.legal ≡ true → length t.applied.items + m.next ≤ n.next
    few (legalised p ks deep) r c is = let e = ap (λ (q : Module). q.next) c.1.1.1 in let l = ap length c.1.0 in omega (arith, r, l, e)
    few (failed deep) r c is = absurd (true≢false (sym is ∙ c.0))
    few (aborted e) r c is = absurd c
