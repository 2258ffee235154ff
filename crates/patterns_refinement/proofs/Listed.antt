-- Rewriting by a list of rules is a run of them.
use Rattle.std.proofs.Common.{◌≡◌, ℕ, zero, suc, ◌+◌, refl, List, [], ◌∷◌, Bool, true, false, ◌&&◌, ◌⊎◌, inl, inr}
use Rattle.std.specs.Prelude.{nat_le, if◌then◌else◌}
use Rattle.ir_tree.specs.Ids.{ids}
use Rattle.ir_tree_laws.specs.Members.{In}
use Rattle.ir_types.specs.declared.refusal.Refusal.{Refusal}
use Rattle.ir_types.specs.declared.refusal.Refusal.TheVariants.{BadLimit}
use Rattle.ir_event.specs.Modules.{Module}
use Rattle.patterns_base.specs.declared.rule.Rule.{Rule}
use Rattle.patterns_base.specs.Rewrites.{Rewrite, becomes, none, refused, rewrite_of}
use Rattle.patterns_base.specs.Canonicalization.{Canonical, End, converged, end_of, ended, first_rule, go_on, most_rewrites, or_else, aborted}
use Rattle.greedy.specs.Rewriting.{first_by, next_by, rewriting_of, rewritten_from}
use Rattle.greedy.specs.PatternSet.{by_rules}
use Rattle.patterns_refinement.specs.Runs.{Leads, RewritingKeeps}
use Rattle.patterns_refinement.proofs.Running.{none_never, runs_keep}

pub or_parts : (a b : Rewrite) (n : Module) → or_else a b ≡ becomes n → (a ≡ becomes n) ⊎ (b ≡ becomes n)
or_parts none b n e = inr e
or_parts (refused r) b n e = inl e
or_parts (becomes m) b n e = inl e

pub by_some : (rs : List Rule) (m n : Module) (x : ℕ) → first_rule rs m x ≡ becomes n → (r : Rule) × In r rs × (rewrite_of r m x ≡ becomes n)
unfolding first_rule
by_some [] m n x e = none_never n e
by_some (r ∷ rs) m n x e = elim (or_parts (rewrite_of r m x) (first_rule rs m x) n e) [
  | inl i ↦ (r, inl refl, i)
  | inr i ↦ let g = by_some rs m n x i in (g.0, inr g.1, g.2)
]

pub at_some : (rs : List Rule) (xs : List ℕ) (m n : Module) → first_by (by_rules rs) xs m ≡ becomes n → (x : ℕ) × (first_rule rs m x ≡ becomes n)
unfolding first_by
at_some rs [] m n e = none_never n e
at_some rs (x ∷ xs) m n e = elim (or_parts (first_rule rs m x) (first_by (by_rules rs) xs m) n e) [
  | inl i ↦ (x, i)
  | inr i ↦ at_some rs xs m n i
]

abbrev Led : List Rule → Module → Module → Type 0
Led rs m n = (k : ℕ) × Leads rs k m n

pub ended_parts : (m n : Module) (j k : ℕ) (d e : End) → ended m j d ≡ ended n k e → m ≡ n
ended_parts m n j k d e i = cc

pub stopped_never : {A : Type 0} (r : Refusal) (n : Module) (k : ℕ) (e : End) → aborted r ≡ ended n k e → A
stopped_never r n k e i = absurd (never i)
  where
    never : aborted r ≡ ended n k e → ⊥
    never i = cc

goes_on : (rs : List Rule) (m n : Module) (j k : ℕ) (e : End) (w : Rewrite) (more : Module → Canonical) → ((p : Module) → w ≡ becomes p → more p ≡ ended n k e → Led rs m n) → go_on w m j more ≡ ended n k e → Led rs m n
goes_on rs m n j k e none more f i = (0, ended_parts m n j k converged e i)
goes_on rs m n j k e (refused r) more f i = stopped_never r n k e i
goes_on rs m n j k e (becomes p) more f i = f p refl i

led_from : (rs : List Rule) (left j k : ℕ) (m n : Module) (e : End) → rewritten_from (by_rules rs) left j m ≡ ended n k e → Led rs m n
unfolding rewritten_from
led_from rs zero j k m n e i = (0, ended_parts m n j k (end_of (next_by (by_rules rs) m)) e i)
led_from rs (suc left) j k m n e i =
    goes_on rs m n j k e (next_by (by_rules rs) m) (rewritten_from (by_rules rs) left (j + 1))
    (λ p w h.
    let at = at_some rs (ids m.tree) m p w in
    let by = by_some rs m p at.0 at.1 in
    let ih = led_from rs left (j + 1) k p n e h in
    (suc ih.0, (by.0, by.1, at.0, p, by.2, ih.1)))
    i

pub led : (rs : List Rule) (limit k : ℕ) (m n : Module) (e : End) → rewriting_of (by_rules rs) limit m ≡ ended n k e → Led rs m n
unfolding rewriting_of
led rs limit k m n e i = go (nat_le 1 limit && nat_le limit most_rewrites) i
  where
    go : (b : Bool) → (if b then rewritten_from (by_rules rs) limit 0 m else aborted BadLimit) ≡ ended n k e → Led rs m n
    go true i = led_from rs limit 0 k m n e i
    go false i = stopped_never BadLimit n k e i

pub rewriting_keeps : RewritingKeeps
rewriting_keeps rs keep limit m n k e ready i = let l = led rs limit k m n e i in runs_keep rs keep l.0 m n ready l.1
