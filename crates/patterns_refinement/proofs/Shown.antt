-- The observable operations of a tree after edits.
use Rattle.std.proofs.Common.{◌≡◌, ℕ, ◌+◌, refl, ap, sym, ◌∙◌, Bool, true, false, true≢false, eqb, Option, Some, None, List, ◌⊎◌, inl, inr}
use Rattle.std.specs.Prelude.{if◌then◌else◌}
use Rattle.ir_types.specs.Terms.{TypeTerm, AttrTerm}
use Rattle.ir_tree.specs.declared.place.Place.{Place}
use Rattle.ir_tree.specs.Tree.{RegionsOf, RegionOf, OpsOf, op, no_regions, region, empty, block, no_ops, next, head}
use Rattle.ir_tree.specs.Edits.{at, ops_each_head, region_each_head, regions_each_head}
use Rattle.ir_tree.specs.Places.{drop_op, is_in_block, ops_each_list, put_before, put_here, put_in, put_last, region_each_list, regions_each_list}
use Rattle.ir_tree.specs.Meaning.{Operation}
use Rattle.ir_tree_laws.proofs.Listed.{bool_cases}
use Rattle.user_patterns_data.specs.Matching.{Header}
use Rattle.patterns_refinement.specs.Meaning.{EachAmong, EachInRegion, EachInRegions, is_arithmetic}
use Rattle.patterns_refinement.specs.Observing.{shown, shown_ops, shown_region, shown_regions}

abbrev Regions : Type 0
Regions = RegionsOf (List ℕ) TypeTerm AttrTerm

abbrev Region : Type 0
Region = RegionOf (List ℕ) TypeTerm AttrTerm

abbrev Ops : Type 0
Ops = OpsOf (List ℕ) TypeTerm AttrTerm

-- ---- a property of each operation is a property of the observable ones
module _ (P : Header → Type 0) where
  mutual
    pub each_shown : (rs : Regions) → EachInRegions P rs → EachInRegions P (shown_regions rs)
    each_shown no_regions s = tt
    each_shown (region g rs) s = (region_shown g s.0, each_shown rs s.1)

    region_shown : (g : Region) → EachInRegion P g → EachInRegion P (shown_region g)
    region_shown empty s = tt
    region_shown (block args os) s = ops_shown os s

    ops_shown : (os : Ops) → EachAmong P os → EachAmong P (shown_ops os)
    ops_shown no_ops s = tt
    ops_shown (next (op h rs) os) s = go (is_arithmetic h) (each_shown rs s.0.1) (ops_shown os s.1)
      where
        go : (b : Bool) → EachInRegions P (shown_regions rs) → EachAmong P (shown_ops os) → EachAmong P (if b then shown_ops os else next (op h (shown_regions rs)) (shown_ops os))
        go true r o = o
        go false r o = ((s.0.0, r), o)

-- ---- changed heads, which stay arithmetic or stay observable
module _ (f : Header → Header) (same : (h : Header) → is_arithmetic (f h) ≡ is_arithmetic h) where
  mutual
    pub shown_changed : (rs : Regions) → shown_regions (regions_each_head f rs) ≡ regions_each_head f (shown_regions rs)
    shown_changed no_regions = refl
    shown_changed (region g rs) = let r = region_changed g in let rest = shown_changed rs in λ i. region (r i) (rest i)

    region_changed : (g : Region) → shown_region (region_each_head f g) ≡ region_each_head f (shown_region g)
    region_changed empty = refl
    region_changed (block args os) = ap (block args) (ops_changed os)

    ops_changed : (os : Ops) → shown_ops (ops_each_head f os) ≡ ops_each_head f (shown_ops os)
    ops_changed no_ops = refl
    ops_changed (next (op h rs) os) =
        ap (λ b. if b then shown_ops (ops_each_head f os) else next (op (f h) (shown_regions (regions_each_head f rs))) (shown_ops (ops_each_head f os))) (same h)
        ∙ go (is_arithmetic h) (shown_changed rs) (ops_changed os)
      where
        go : (b : Bool) → shown_regions (regions_each_head f rs) ≡ regions_each_head f (shown_regions rs) → shown_ops (ops_each_head f os) ≡ ops_each_head f (shown_ops os)
            → (if b then shown_ops (ops_each_head f os) else next (op (f h) (shown_regions (regions_each_head f rs))) (shown_ops (ops_each_head f os))) ≡ ops_each_head f (if b then shown_ops os else next (op h (shown_regions rs)) (shown_ops os))
        go true r o = o
        go false r o = λ i. next (op (f h) (r i)) (o i)

-- the operation is arithmetic if it has id x
abbrev pub IsNumberAt : ℕ → Header → Type 0
IsNumberAt x h = eqb h.id x ≡ true → is_arithmetic h ≡ true

-- an arithmetic operation isn't observable
module _ (x : ℕ) (f : Header → Header) (same : (h : Header) → is_arithmetic (f h) ≡ is_arithmetic h) where
  mutual
    pub shown_at : (rs : Regions) → EachInRegions (IsNumberAt x) rs → shown_regions (regions_each_head (at x f) rs) ≡ shown_regions rs
    shown_at no_regions s = refl
    shown_at (region g rs) s = let r = region_at g s.0 in let rest = shown_at rs s.1 in λ i. region (r i) (rest i)

    region_at : (g : Region) → EachInRegion (IsNumberAt x) g → shown_region (region_each_head (at x f) g) ≡ shown_region g
    region_at empty s = refl
    region_at (block args os) s = ap (block args) (ops_at os s)

    ops_at : (os : Ops) → EachAmong (IsNumberAt x) os → shown_ops (ops_each_head (at x f) os) ≡ shown_ops os
    ops_at no_ops s = refl
    ops_at (next (op h rs) os) s = go (bool_cases (eqb h.id x)) (shown_at rs s.0.1) (ops_at os s.1)
      where
        go : (eqb h.id x ≡ true) ⊎ (eqb h.id x ≡ false) → shown_regions (regions_each_head (at x f) rs) ≡ shown_regions rs → shown_ops (ops_each_head (at x f) os) ≡ shown_ops os
            → (if is_arithmetic (at x f h) then shown_ops (ops_each_head (at x f) os) else next (op (at x f h) (shown_regions (regions_each_head (at x f) rs))) (shown_ops (ops_each_head (at x f) os))) ≡ (if is_arithmetic h then shown_ops os else next (op h (shown_regions rs)) (shown_ops os))
        go (inl e) r o =
            ap (λ b. let j = if b then f h else h in if is_arithmetic j then shown_ops (ops_each_head (at x f) os) else next (op j (shown_regions (regions_each_head (at x f) rs))) (shown_ops (ops_each_head (at x f) os))) e
            ∙ ap (λ b. if b then shown_ops (ops_each_head (at x f) os) else next (op (f h) (shown_regions (regions_each_head (at x f) rs))) (shown_ops (ops_each_head (at x f) os))) (same h ∙ s.0.0 e) ∙ o
            ∙ sym (ap (λ b. if b then shown_ops os else next (op h (shown_regions rs)) (shown_ops os)) (s.0.0 e))
        go (inr e) r o =
            ap (λ b. let j = if b then f h else h in if is_arithmetic j then shown_ops (ops_each_head (at x f) os) else next (op j (shown_regions (regions_each_head (at x f) rs))) (shown_ops (ops_each_head (at x f) os))) e
            ∙ (λ i. if is_arithmetic h then o i else next (op h (r i)) (o i))

-- ---- an inserted arithmetic operation
module _ (place : Place) (o : Operation) (number : is_arithmetic (head o) ≡ true) where
  skipped : (os : Ops) → shown_ops (next o os) ≡ shown_ops os
  skipped os = ap (λ b. if b then shown_ops os else next (shown o) (shown_ops os)) number

  in_last : (os : Ops) → shown_ops (put_last o os) ≡ shown_ops os
  in_last no_ops = skipped no_ops
  in_last (next p os) = let rest = in_last os in λ i. if is_arithmetic (head p) then rest i else next (shown p) (rest i)

  in_before : (b : ℕ) (os : Ops) → shown_ops (put_before b o os) ≡ shown_ops os
  in_before b no_ops = refl
  in_before b (next p os) = go (eqb (head p).id b) (in_before b os)
    where
      go : (c : Bool) → shown_ops (put_before b o os) ≡ shown_ops os → shown_ops (if c then next o (next p os) else next p (put_before b o os)) ≡ shown_ops (next p os)
      go true rest = skipped (next p os)
      go false rest = λ i. if is_arithmetic (head p) then rest i else next (shown p) (rest i)

  in_list : (b : Option ℕ) (os : Ops) → shown_ops (put_in b o os) ≡ shown_ops os
  in_list None os = in_last os
  in_list (Some b) os = in_before b os

  in_here : (p r : ℕ) (os : Ops) → shown_ops (put_here place o p r os) ≡ shown_ops os
  in_here p r os = go (is_in_block place p r)
    where
      go : (c : Bool) → shown_ops (if c then put_in place.before o os else os) ≡ shown_ops os
      go true = in_list place.before os
      go false = refl

  mutual
    pub shown_put : (p r : ℕ) (rs : Regions) → shown_regions (regions_each_list (put_here place o) p r rs) ≡ shown_regions rs
    shown_put p r no_regions = refl
    shown_put p r (region g rs) = let first = region_put p r g in let rest = shown_put p (r + 1) rs in λ i. region (first i) (rest i)

    region_put : (p r : ℕ) (g : Region) → shown_region (region_each_list (put_here place o) p r g) ≡ shown_region g
    region_put p r empty = refl
    region_put p r (block args os) = ap (block args) (in_here p r (ops_each_list (put_here place o) os) ∙ ops_put os)

    ops_put : (os : Ops) → shown_ops (ops_each_list (put_here place o) os) ≡ shown_ops os
    ops_put no_ops = refl
    ops_put (next (op h rs) os) = let inside = shown_put h.id 0 rs in let rest = ops_put os in λ i. if is_arithmetic h then rest i else next (op h (inside i)) (rest i)

-- ---- an erased operation
module _ (x : ℕ) where
  abbrev pub dropping : ℕ → ℕ → Ops → Ops
  dropping p r os = drop_op x os

  dropped : (os : Ops) → shown_ops (drop_op x os) ≡ drop_op x (shown_ops os)
  dropped no_ops = refl
  dropped (next (op h rs) os) =
      show_it (eqb h.id x) ∙ both (eqb h.id x) (is_arithmetic h) ∙ (λ i. if is_arithmetic h then dropped os i else (if eqb h.id x then dropped os i else next (op h (shown_regions rs)) (dropped os i)))
      ∙ sym (drop_it (is_arithmetic h))
    where
      show_it : (e : Bool) → shown_ops (if e then drop_op x os else next (op h rs) (drop_op x os)) ≡ (if e then shown_ops (drop_op x os) else (if is_arithmetic h then shown_ops (drop_op x os) else next (op h (shown_regions rs)) (shown_ops (drop_op x os))))
      show_it true = refl
      show_it false = refl

      both : (e a : Bool) → (if e then shown_ops (drop_op x os) else (if a then shown_ops (drop_op x os) else next (op h (shown_regions rs)) (shown_ops (drop_op x os)))) ≡ (if a then shown_ops (drop_op x os) else (if e then shown_ops (drop_op x os) else next (op h (shown_regions rs)) (shown_ops (drop_op x os))))
      both true true = refl
      both true false = refl
      both false true = refl
      both false false = refl

      drop_it : (a : Bool) → drop_op x (if a then shown_ops os else next (op h (shown_regions rs)) (shown_ops os)) ≡ (if a then drop_op x (shown_ops os) else (if eqb h.id x then drop_op x (shown_ops os) else next (op h (shown_regions rs)) (drop_op x (shown_ops os))))
      drop_it true = refl
      drop_it false = refl

  mutual
    pub shown_without : (p r : ℕ) (rs : Regions) → shown_regions (regions_each_list (λ p r os. drop_op x os) p r rs) ≡ regions_each_list (λ p r os. drop_op x os) p r (shown_regions rs)
    shown_without p r no_regions = refl
    shown_without p r (region g rs) = let first = region_without p r g in let rest = shown_without p (r + 1) rs in λ i. region (first i) (rest i)

    region_without : (p r : ℕ) (g : Region) → shown_region (region_each_list (λ p r os. drop_op x os) p r g) ≡ region_each_list (λ p r os. drop_op x os) p r (shown_region g)
    region_without p r empty = refl
    region_without p r (block args os) = ap (block args) (dropped (ops_each_list (λ p r os. drop_op x os) os) ∙ ap (drop_op x) (ops_without os))

    ops_without : (os : Ops) → shown_ops (ops_each_list (λ p r os. drop_op x os) os) ≡ ops_each_list (λ p r os. drop_op x os) (shown_ops os)
    ops_without no_ops = refl
    ops_without (next (op h rs) os) = go (is_arithmetic h) (shown_without h.id 0 rs) (ops_without os)
      where
        go : (b : Bool) → shown_regions (regions_each_list (λ p r os. drop_op x os) h.id 0 rs) ≡ regions_each_list (λ p r os. drop_op x os) h.id 0 (shown_regions rs) → shown_ops (ops_each_list (λ p r os. drop_op x os) os) ≡ ops_each_list (λ p r os. drop_op x os) (shown_ops os)
            → (if b then shown_ops (ops_each_list (λ p r os. drop_op x os) os) else next (op h (shown_regions (regions_each_list (λ p r os. drop_op x os) h.id 0 rs))) (shown_ops (ops_each_list (λ p r os. drop_op x os) os))) ≡ ops_each_list (λ p r os. drop_op x os) (if b then shown_ops os else next (op h (shown_regions rs)) (shown_ops os))
        go true r o = o
        go false r o = λ i. next (op h (r i)) (o i)

  -- an arithmetic operation isn't among the observable ones
  undropped : (os : Ops) → EachAmong (IsNumberAt x) os → drop_op x (shown_ops os) ≡ shown_ops os
  undropped no_ops s = refl
  undropped (next (op h rs) os) s = go (is_arithmetic h) refl (bool_cases (eqb h.id x)) (undropped os s.1)
    where
      go : (b : Bool) → is_arithmetic h ≡ b → (eqb h.id x ≡ true) ⊎ (eqb h.id x ≡ false) → drop_op x (shown_ops os) ≡ shown_ops os
          → drop_op x (if b then shown_ops os else next (op h (shown_regions rs)) (shown_ops os)) ≡ (if b then shown_ops os else next (op h (shown_regions rs)) (shown_ops os))
      go true i c o = o
      go false i (inl e) o = absurd (true≢false (sym (s.0.0 e) ∙ i))
      go false i (inr e) o =
          ap (λ b. if b then drop_op x (shown_ops os) else next (op h (shown_regions rs)) (drop_op x (shown_ops os))) e
          ∙ ap (next (op h (shown_regions rs))) o

  mutual
    pub shown_lacks : (p r : ℕ) (rs : Regions) → EachInRegions (IsNumberAt x) rs → regions_each_list (λ p r os. drop_op x os) p r (shown_regions rs) ≡ shown_regions rs
    shown_lacks p r no_regions s = refl
    shown_lacks p r (region g rs) s = let first = region_lacks p r g s.0 in let rest = shown_lacks p (r + 1) rs s.1 in λ i. region (first i) (rest i)

    region_lacks : (p r : ℕ) (g : Region) → EachInRegion (IsNumberAt x) g → region_each_list (λ p r os. drop_op x os) p r (shown_region g) ≡ shown_region g
    region_lacks p r empty s = refl
    region_lacks p r (block args os) s = ap (block args) (ap (drop_op x) (ops_lacks os s) ∙ undropped os s)

    ops_lacks : (os : Ops) → EachAmong (IsNumberAt x) os → ops_each_list (λ p r os. drop_op x os) (shown_ops os) ≡ shown_ops os
    ops_lacks no_ops s = refl
    ops_lacks (next (op h rs) os) s = go (is_arithmetic h) (shown_lacks h.id 0 rs s.0.1) (ops_lacks os s.1)
      where
        go : (b : Bool) → regions_each_list (λ p r os. drop_op x os) h.id 0 (shown_regions rs) ≡ shown_regions rs → ops_each_list (λ p r os. drop_op x os) (shown_ops os) ≡ shown_ops os
            → ops_each_list (λ p r os. drop_op x os) (if b then shown_ops os else next (op h (shown_regions rs)) (shown_ops os)) ≡ (if b then shown_ops os else next (op h (shown_regions rs)) (shown_ops os))
        go true r o = o
        go false r o = λ i. next (op h (r i)) (o i)
