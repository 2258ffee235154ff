-- The two phases of an update, and the contract of the listener.
use Rattle.std.proofs.Common.{◌≡◌, ◌≤◌, ◌+◌, ℕ, true, false, List, [], ◌∷◌, Option, Some, None, is_some, ◌⊎◌, refl, sym, ap, ◌∙◌, subst, arith, length}
use Rattle.ir_event.specs.trees.Meaning.{Operation}
use Rattle.ir_event.specs.tree_laws.Members.{In}
use Rattle.dialects_int.specs.Folds.{Known}
use Rattle.ir_event.specs.Heads.{heads}
use Rattle.constants.specs.Facts.{Header, Facts, look}
use Rattle.constants.specs.Walk.{nothing, look_among, facts_of, AreOrdered}
use Rattle.constants.specs.Reached.{uses_among, reached, most_over}
use Rattle.constants.specs.Trails.{total, IsThere, Follows, IsTrail}
use Rattle.constants.specs.Phases.{Forgetting, LearntFrom}
use Rattle.constants.proofs.Looked.{look_heads}
use Rattle.constants.proofs.Knowing.{follows_walk}
use Rattle.constants.proofs.Reaching.{looks_bound}

-- forgotten operations are in the module
pub trail_there : (ops : ℕ → Option Header) (x : ℕ) (t : Facts) (trail : List ℕ) → IsThere ops x → IsTrail ops (λ y. y ≡ x) t trail → (y : ℕ) → In y trail → IsThere ops y
trail_there ops x t trail here path y h =
    go (ops y) refl (path.reached (λ z. is_some (ops z)) (λ z e. ap (λ q. is_some (ops q)) e ∙ ap is_some here.1) (λ d z a k u. ap is_some u.is) y h)
  where
    go : (o : Option Header) → ops y ≡ o → is_some (ops y) ≡ true → IsThere ops y
    go None e f = absurd (let bad : false ≡ true = sym (ap is_some e) ∙ f in cc)
    go (Some k) e f = (k, e)

total_two : (g : ℕ → ℕ) (xs : List ℕ) → total (λ d. 2 + g d) xs ≡ total (λ d. 1 + g d) xs + length xs
total_two g [] = refl
total_two g (x ∷ xs) = let h = total_two g xs in omega (arith, h)

no_trail : (ops : ℕ → Option Header) (P : ℕ → Type 0) (t : Facts) → IsTrail ops P t []
no_trail ops P t = record { once = tt; known = λ y h. absurd h; reached = λ r first users y h. absurd h }

module _ (t : Operation) (x : ℕ) (a mid b : Facts) (forgotten : List ℕ) (none one two : ℕ) where
  among : look_among (heads t) ≡ look t
  among = λ i y. look_heads y t i

  -- the first phase broke off
  pub broken_looks : IsTrail (look t) (λ y. y ≡ x) a forgotten → one ≤ none + total (λ d. 1 + uses_among (heads t) d) forgotten → IsThere (look t) x → AreOrdered [] (heads t) → 1 + one ≤ none + most_over (reached a (facts_of t) (heads t) x) (heads t)
  broken_looks path few here ordered =
      let ops : ℕ → Option Header = look_among (heads t) in
      let bound = looks_bound a (facts_of t) (heads t) x ordered nothing forgotten [] (subst (λ (o : ℕ → Option Header). IsThere o x) (sym among) here) (λ y v e. absurd (let bad : None ≡ Some v = e in cc))
      (subst (λ (o : ℕ → Option Header). IsTrail o (λ y. y ≡ x) a forgotten) (sym among) path) (no_trail ops (λ y. (y ≡ x) ⊎ In y forgotten) nothing) in
      let two = total_two (uses_among (heads t)) forgotten in
      omega (arith, bound, two, few)

  -- the first phase was completed
  pub whole_looks : {D : Type 0} → IsTrail (look t) (λ y. y ≡ x) a forgotten → one ≤ none + total (λ d. 1 + uses_among (heads t) d) forgotten → LearntFrom D (look t) (uses_among (heads t)) x forgotten mid b one two → Forgetting (look t) x mid forgotten []
      → IsThere (look t) x → AreOrdered [] (heads t) → 1 + two ≤ none + most_over (reached a (facts_of t) (heads t) x) (heads t)
  whole_looks path few learnt forgetting here ordered =
      let follows : Follows (look t) b = learnt.sound (λ y v k. forgetting.known y v k (λ d h u. h)) in
      let later : (y : ℕ) (v : Known) → b y ≡ Some v → facts_of t y ≡ Some v = follows_walk (heads t) b ordered (subst (λ (o : ℕ → Option Header). Follows o b) (sym among) follows) in
      let bound = looks_bound a (facts_of t) (heads t) x ordered b forgotten learnt.trail (subst (λ (o : ℕ → Option Header). IsThere o x) (sym among) here) later
      (subst (λ (o : ℕ → Option Header). IsTrail o (λ y. y ≡ x) a forgotten) (sym among) path)
      (subst (λ (o : ℕ → Option Header). IsTrail o (λ y. (y ≡ x) ⊎ In y forgotten) b learnt.trail) (sym among) learnt.path) in
      let sum = total_two (uses_among (heads t)) forgotten in
      let more = learnt.few in
      omega (arith, bound, sum, few, more)
