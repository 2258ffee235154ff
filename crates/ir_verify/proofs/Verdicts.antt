-- The verdict on an operation is that of its finding. An operation that breaks no rule has no reported rule.
use Rattle.std.proofs.Common.{◌≡◌, refl, sym, ap, ◌∙◌, ℕ, ◌+◌, ◌*◌, Bool, true, false, true≢false, not, List, [], ◌∷◌, length, Option, Some, None}
use Rattle.std.specs.Prelude.{option_map, ◌==◌}
use Rattle.std.specs.List.{filter}
use Rattle.ir_tree.specs.Meaning.{Operation}
use Rattle.op_registry.specs.Registry.{row_of}
use Rattle.ir_verify_base.specs.Surroundings.{surroundings}
use Rattle.ir_verify_base.specs.Facts.{fact_of}
use Rattle.ir_verify_base.specs.Fits.{Surroundings}
use Rattle.ir_verify.specs.declared.finding.Finding.{Finding}
use Rattle.ir_verify.specs.declared.verdict.Verdict.{Verdict}
use Rattle.ir_verify.specs.declared.verdict.Verdict.TheVariants.{Valid, Unlisted, Invalid}
use Rattle.ir_verify.specs.Breaks.{broken, numbers_from, broken_rules_in}
use Rattle.ir_verify.specs.Beyond.{reported}
use Rattle.ir_verify.specs.Diagnostics.{broken_at, reported_at}
use Rattle.ir_verify.specs.Sets.{breaks_any, finding_of, has_any, packed, reported_rules, set_of}
use Rattle.ir_verify.specs.Verdicts.{verdict_at, verdict_by, verdict_in}
use Rattle.ir_verify.proofs.Telling.{finding_read, is_reported_of, no_rules, rules_broken}

-- a set without rules is empty
none_held : (n : ℕ) (bs : List Bool) → numbers_from n bs ≡ [] → packed bs ≡ 0
none_held n [] e = refl
none_held n (true ∷ bs) e = absurd cc
none_held n (false ∷ bs) e = ap (λ k. 2 * k) (none_held (n + 1) bs e)

none_broken : (s : Surroundings) → has_any (set_of s) ≡ false → broken s ≡ []
none_broken s e = sym (rules_broken s) ∙ no_rules (set_of s) e

some_broken : (s : Surroundings) → has_any (set_of s) ≡ true → broken s ≡ [] → ⊥
some_broken s e none = true≢false (sym e ∙ ap (λ n. not (n == 0)) (none_held 1 (broken_rules_in (row_of s.node.head.name) s) none))

module _ (f : Finding) (s : Surroundings) (of : f ≡ finding_of s) where
  pub obeys : breaks_any f ≡ false → Valid ≡ verdict_in s
  obeys e = sym (ap (λ bs. verdict_by bs (reported s)) (none_broken s (ap breaks_any (sym of) ∙ e)))

  read : reported_rules f ≡ reported s
  read = ap reported_rules of ∙ finding_read s

  breaks : breaks_any f ≡ true → broken s ≡ [] → ⊥
  breaks e = some_broken s (ap breaks_any (sym of) ∙ e)

  pub broken_by : breaks_any f ≡ true → (rs : List ℕ) (v : Verdict) → rs ≡ reported_rules f → ((b : ℕ) (bs : List ℕ) → v ≡ verdict_by (b ∷ bs) rs) → v ≡ verdict_in s
  broken_by e rs v k is = go (broken s) (breaks e) ∙ ap (verdict_by (broken s)) (k ∙ read)
    where
      go : (bs : List ℕ) → (bs ≡ [] → ⊥) → v ≡ verdict_by bs rs
      go [] filled = absurd (filled refl)
      go (b ∷ bs) filled = is b bs

-- the verdict of a finding is the verdict on the operation
pub verdict_read : (x : ℕ) (t : Operation) (f : Finding) (v : Verdict) → Some f ≡ fact_of finding_of t x → ((s : Surroundings) → f ≡ finding_of s → v ≡ verdict_in s) → verdict_at x t ≡ Some v
verdict_read x t f v e is = go (surroundings x t) e
  where
    go : (s : Option Surroundings) → Some f ≡ option_map finding_of s → option_map verdict_in s ≡ Some v
    go None e = absurd cc
    go (Some s) e = let one : f ≡ finding_of s = cc in ap Some (sym (is s one))

-- an operation that breaks no rule has no reported rule
pub none_reported : (x : ℕ) (t : Operation) → broken_at x t ≡ Some [] → reported_at x t ≡ Some []
none_reported x t e = go (surroundings x t) e
  where
    go : (s : Option Surroundings) → option_map broken s ≡ Some [] → option_map reported s ≡ Some []
    go None e = absurd cc
    go (Some s) e = let none : broken s ≡ [] = cc in ap (λ rs. Some (filter (is_reported_of s) rs)) none
