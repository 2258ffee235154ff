-- Inserting and taking out operations that say nothing of blocks keeps scopes and lexical labels.
use Rattle.std.proofs.Common.{◌≡◌, refl, ap, sym, ◌∙◌, ℕ, ◌+◌, Bool, true, false, cond, not, ◌&&◌, ◌||◌, eqb, List, [], ◌∷◌, ◌++◌, map, Option, Some, None}
use Rattle.std.specs.List.{list_all}
use Rattle.ir_tree.specs.declared.place.Place.{Place}
use Rattle.ir_tree.specs.Tree.{op, no_regions, region, empty, block, no_ops, next, head, regions}
use Rattle.ir_tree.specs.Limits.{every, regions_every, region_every, ops_every}
use Rattle.ir_tree.specs.Meaning.{Operation}
use Rattle.ir_tree.specs.Places.{each_list, regions_each_list, region_each_list, ops_each_list, put_last, put_before, put_in, is_in_block, put_here, put, drop_op, without}
use Rattle.ir_tree_laws.proofs.Listed.{both, both_hold, not_false}
use Rattle.ir_tree_blocks.specs.Flat.{Head}
use Rattle.ir_tree_blocks.specs.Scopes.{is_scope, order_of, label_of, is_unreachable, successors_of}
use Rattle.ir_tree_blocks.specs.Nesting.{Regions, Region, Ops, all_differ}
use Rattle.ir_tree_blocks.specs.Form.{is_nil, PlacedBlock, named_in, placed_under, placed_in, placed_in_regions, placed_in_region, placed_blocks, all_regions, has_one_block, has_label, is_shaped, labels_differ, HasScopes, names_in_sight, is_lexical, HasLexicalLabels}
use Rattle.ir_tree_blocks.specs.Simple.{is_plain, is_other_or_plain, is_plain_op}

-- a test of the head of each operation of a list
abbrev tops : (Head → Bool) → Ops → Bool
tops test no_ops = true
tops test (next o os) = test (head o) && tops test os

nil_is : (ns : List ℕ) → is_nil ns ≡ true → ns ≡ []
nil_is [] e = refl
nil_is (n ∷ ns) e = absurd cc

pub plain_scope : (h : Head) → is_plain h ≡ true → is_scope h ≡ false
plain_scope h e = not_false (is_scope h) (both (not (is_scope h)) (is_nil (successors_of h)) e).0

plain_names : (h : Head) → is_plain h ≡ true → successors_of h ≡ []
plain_names h e = nil_is (successors_of h) (both (not (is_scope h)) (is_nil (successors_of h)) e).1

-- a concatenation over the operations of a list, to which plain operations add nothing
module _ {X : Type 0} (whole : Ops → List X) (one : Operation → List X) (step : (o : Operation) (os : Ops) → whole (next o os) ≡ one o ++ whole os) (none : (o : Operation) → is_plain (head o) ≡ true → one o ≡ []) where
  skips : (o : Operation) (os : Ops) → is_plain (head o) ≡ true → whole (next o os) ≡ whole os
  skips o os e = step o os ∙ ap (λ xs. xs ++ whole os) (none o e)

  along : (o : Operation) (os ps : Ops) → whole os ≡ whole ps → whole (next o os) ≡ whole (next o ps)
  along o os ps e = step o os ∙ ap (λ xs. one o ++ xs) e ∙ sym (step o ps)

  drop_case : (x : ℕ) (o : Operation) (os : Ops) → whole (drop_op x os) ≡ whole os → is_other_or_plain x (head o) ≡ true → (c : Bool) → eqb (head o).id x ≡ c → whole (cond c (drop_op x os) (next o (drop_op x os))) ≡ whole (next o os)
  drop_case x o os rest e true k = rest ∙ sym (skips o os (sym (ap (λ b. not b || is_plain (head o)) k) ∙ e))
  drop_case x o os rest e false k = along o (drop_op x os) os rest

  dropped : (x : ℕ) (os : Ops) → tops (is_other_or_plain x) os ≡ true → whole (drop_op x os) ≡ whole os
  dropped x no_ops e = refl
  dropped x (next o os) e =
      let a = both (is_other_or_plain x (head o)) (tops (is_other_or_plain x) os) e in
      drop_case x o os (dropped x os a.1) a.0 (eqb (head o).id x) refl

  module _ (o : Operation) (e : is_plain (head o) ≡ true) where
    at_end : (os : Ops) → whole (put_last o os) ≡ whole os
    at_end no_ops = skips o no_ops e
    at_end (next p os) = along p (put_last o os) os (at_end os)

    before : (b : ℕ) (os : Ops) → whole (put_before b o os) ≡ whole os
    before b no_ops = refl
    before b (next p os) = elim (eqb (head p).id b) as (λ c. whole (cond c (next o (next p os)) (next p (put_before b o os))) ≡ whole (next p os)) [
      | true ↦ skips o (next p os) e
      | false ↦ along p (put_before b o os) os (before b os)
    ]

    inserted : (b : Option ℕ) (os : Ops) → whole (put_in b o os) ≡ whole os
    inserted None os = at_end os
    inserted (Some b) os = before b os

    put_there : (place : Place) (p r : ℕ) (os : Ops) → whole (put_here place o p r os) ≡ whole os
    put_there place p r os = elim (is_in_block place p r) as (λ c. whole (cond c (put_in place.before o os) os) ≡ whole os) [ true ↦ inserted place.before os | false ↦ refl ]

abbrev names_of : Operation → List ℕ
names_of o = cond (is_scope (head o)) [] (successors_of (head o))

no_names : (o : Operation) → is_plain (head o) ≡ true → names_of o ≡ []
no_names o e = λ i. cond (plain_scope (head o) e i) [] (plain_names (head o) e i)

abbrev blocks_at : List ℕ → Bool → Operation → List PlacedBlock
blocks_at ls u o = cond (is_scope (head o)) (placed_in ls u o) []

no_blocks_at : (ls : List ℕ) (u : Bool) (o : Operation) → is_plain (head o) ≡ true → blocks_at ls u o ≡ []
no_blocks_at ls u o e = ap (λ c. cond c (placed_in ls u o) []) (plain_scope (head o) e)

one_list : (f : ℕ → ℕ → Ops → Ops) (p r : ℕ) (rs : Regions) → has_one_block (regions_each_list f p r rs) ≡ has_one_block rs
one_list f p r no_regions = refl
one_list f p r (region empty rs) = refl
one_list f p r (region (block args os) no_regions) = refl
one_list f p r (region (block args os) (region g rs)) = refl

head_list : (f : ℕ → ℕ → Ops → Ops) (o : Operation) → head (each_list f o) ≡ head o
head_list f (op h rs) = refl

-- an edit of lists that keeps what each list says of blocks
module _ (f : ℕ → ℕ → Ops → Ops) (test : Head → Bool) (names : (p r : ℕ) (os : Ops) → tops test os ≡ true → named_in (f p r os) ≡ named_in os)
    (blocks : (p r : ℕ) (os : Ops) → tops test os ≡ true → (ls : List ℕ) (u : Bool) → placed_under ls u (f p r os) ≡ placed_under ls u os) where
  abbrev tested : Operation → Bool
  tested o = test (head o)

  tops_of : (os : Ops) → ops_every tested os ≡ true → tops test (ops_each_list f os) ≡ true
  tops_of no_ops e = refl
  tops_of (next (op h rs) os) e =
      let a = both (every tested (op h rs)) (ops_every tested os) e in
      let b = both (test h) (regions_every tested rs) a.0 in
      both_hold (test h) (tops test (ops_each_list f os)) b.0 (tops_of os a.1)

  named_list : (os : Ops) → named_in (ops_each_list f os) ≡ named_in os
  named_list no_ops = refl
  named_list (next (op h rs) os) = ap (λ ns. cond (is_scope h) [] (successors_of h) ++ ns) (named_list os)

  mutual
    under_list : (ls : List ℕ) (u : Bool) (os : Ops) → ops_every tested os ≡ true → placed_under ls u (ops_each_list f os) ≡ placed_under ls u os
    under_list ls u no_ops e = refl
    under_list ls u (next o os) e =
        let a = both (every tested o) (ops_every tested os) e in
        λ i. cond (is_scope (head_list f o i)) (in_list ls u o a.0 i) [] ++ under_list ls u os a.1 i

    in_list : (ls : List ℕ) (u : Bool) (o : Operation) → every tested o ≡ true → placed_in ls u (each_list f o) ≡ placed_in ls u o
    in_list ls u (op h rs) e = regions_list h.id 0 (label_of h) ls (u || is_unreachable h) rs (both (test h) (regions_every tested rs) e).1

    regions_list : (p r l : ℕ) (ls : List ℕ) (u : Bool) (rs : Regions) → regions_every tested rs ≡ true → placed_in_regions l ls u (regions_each_list f p r rs) ≡ placed_in_regions l ls u rs
    regions_list p r l ls u no_regions e = refl
    regions_list p r l ls u (region g rs) e = region_list p r l ls u g (both (region_every tested g) (regions_every tested rs) e).0

    region_list : (p r l : ℕ) (ls : List ℕ) (u : Bool) (g : Region) → region_every tested g ≡ true → placed_in_region l ls u (region_each_list f p r g) ≡ placed_in_region l ls u g
    region_list p r l ls u empty e = refl
    region_list p r l ls u (block args os) e =
        let t = tops_of os e in
        let n : named_in (f p r (ops_each_list f os)) ≡ named_in os = names p r (ops_each_list f os) t ∙ named_list os in
        let b : placed_under (l ∷ ls) u (f p r (ops_each_list f os)) ≡ placed_under (l ∷ ls) u os = blocks p r (ops_each_list f os) t (l ∷ ls) u ∙ under_list (l ∷ ls) u os e in
        λ i. (let here : PlacedBlock = record { label = l; around = ls; unreachable = u; names = n i } in here) ∷ b i

  all_list : (q : Region → Bool) → ((g k : Region) → placed_blocks g ≡ placed_blocks k → q g ≡ q k) → (p r : ℕ) (rs : Regions) → regions_every tested rs ≡ true → all_regions q (regions_each_list f p r rs) ≡ all_regions q rs
  all_list q by p r no_regions e = refl
  all_list q by p r (region g rs) e =
      let a = both (region_every tested g) (regions_every tested rs) e in
      λ i. by (region_each_list f p r g) g (region_list p r 0 [] false g a.0) i && all_list q by p (r + 1) rs a.1 i

  -- a test of each operation
  module _ (k : Operation → Bool) (same : (h : Head) (rs : Regions) → regions_every tested rs ≡ true → k (op h (regions_each_list f h.id 0 rs)) ≡ k (op h rs))
      (more : (p r : ℕ) (os : Ops) → ops_every k os ≡ true → ops_every k (f p r os) ≡ true) where
    mutual
      every_list : (t : Operation) → every tested t ≡ true → every k t ≡ true → every k (each_list f t) ≡ true
      every_list (op h rs) a b =
          let c = both (test h) (regions_every tested rs) a in
          let d = both (k (op h rs)) (regions_every k rs) b in
          both_hold (k (op h (regions_each_list f h.id 0 rs))) (regions_every k (regions_each_list f h.id 0 rs)) (same h rs c.1 ∙ d.0) (regions_every_list h.id 0 rs c.1 d.1)

      regions_every_list : (p r : ℕ) (rs : Regions) → regions_every tested rs ≡ true → regions_every k rs ≡ true → regions_every k (regions_each_list f p r rs) ≡ true
      regions_every_list p r no_regions a b = refl
      regions_every_list p r (region g rs) a b =
          let c = both (region_every tested g) (regions_every tested rs) a in
          let d = both (region_every k g) (regions_every k rs) b in
          both_hold (region_every k (region_each_list f p r g)) (regions_every k (regions_each_list f p (r + 1) rs)) (region_every_list p r g c.0 d.0) (regions_every_list p (r + 1) rs c.1 d.1)

      region_every_list : (p r : ℕ) (g : Region) → region_every tested g ≡ true → region_every k g ≡ true → region_every k (region_each_list f p r g) ≡ true
      region_every_list p r empty a b = refl
      region_every_list p r (block args os) a b = more p r (ops_each_list f os) (ops_every_list os a b)

      ops_every_list : (os : Ops) → ops_every tested os ≡ true → ops_every k os ≡ true → ops_every k (ops_each_list f os) ≡ true
      ops_every_list no_ops a b = refl
      ops_every_list (next o os) a b =
          let c = both (every tested o) (ops_every tested os) a in
          let d = both (every k o) (ops_every k os) b in
          both_hold (every k (each_list f o)) (ops_every k (ops_each_list f os)) (every_list o c.0 d.0) (ops_every_list os c.1 d.1)

  shaped_list : (h : Head) (rs : Regions) → regions_every tested rs ≡ true → is_shaped (op h (regions_each_list f h.id 0 rs)) ≡ is_shaped (op h rs)
  shaped_list h rs e = ap (λ b. not (is_scope h) || (is_nil h.operands && (is_nil h.results && (has_label (order_of h) && b)))) (one_list f h.id 0 rs)

  differ_list : (h : Head) (rs : Regions) → regions_every tested rs ≡ true → (is_scope h || all_regions labels_differ (regions_each_list f h.id 0 rs)) ≡ (is_scope h || all_regions labels_differ rs)
  differ_list h rs e = ap (λ b. is_scope h || b) (all_list labels_differ (λ g k w. ap (λ ps. all_differ (map (λ (b : PlacedBlock). b.label) ps)) w) h.id 0 rs e)

  lexical_list : (h : Head) (rs : Regions) → regions_every tested rs ≡ true → (is_scope h || all_regions is_lexical (regions_each_list f h.id 0 rs)) ≡ (is_scope h || all_regions is_lexical rs)
  lexical_list h rs e = ap (λ b. is_scope h || b) (all_list is_lexical (λ g k w. ap (λ ps. list_all (names_in_sight ps) ps) w) h.id 0 rs e)

  list_scopes : (t : Operation) → every (λ o. test (head o)) t ≡ true → ((p r : ℕ) (os : Ops) → ops_every is_shaped os ≡ true → ops_every is_shaped (f p r os) ≡ true)
      → ((p r : ℕ) (os : Ops) → ops_every (λ o. is_scope (head o) || all_regions labels_differ (regions o)) os ≡ true → ops_every (λ o. is_scope (head o) || all_regions labels_differ (regions o)) (f p r os) ≡ true)
      → HasScopes t → HasScopes (each_list f t)
  list_scopes t e m n s = record {
    root = ap is_scope (head_list f t) ∙ s.root;
    shaped = every_list is_shaped shaped_list m t e s.shaped;
    labels = every_list (λ o. is_scope (head o) || all_regions labels_differ (regions o)) differ_list n t e s.labels;
  }

  list_lexical : (t : Operation) → every (λ o. test (head o)) t ≡ true
      → ((p r : ℕ) (os : Ops) → ops_every (λ o. is_scope (head o) || all_regions is_lexical (regions o)) os ≡ true → ops_every (λ o. is_scope (head o) || all_regions is_lexical (regions o)) (f p r os) ≡ true)
      → HasLexicalLabels t → HasLexicalLabels (each_list f t)
  list_lexical t e m l = every_list (λ o. is_scope (head o) || all_regions is_lexical (regions o)) lexical_list m t e l

-- a list without an operation
fewer_pass : (k : Operation → Bool) (x : ℕ) (os : Ops) → ops_every k os ≡ true → ops_every k (drop_op x os) ≡ true
fewer_pass k x no_ops e = refl
fewer_pass k x (next o os) e =
    let a = both (every k o) (ops_every k os) e in
    let rest = fewer_pass k x os a.1 in
    elim (eqb (head o).id x) as (λ c. ops_every k (cond c (drop_op x os) (next o (drop_op x os))) ≡ true) [ true ↦ rest | false ↦ both_hold (every k o) (ops_every k (drop_op x os)) a.0 rest ]

pub without_scopes : (x : ℕ) (t : Operation) → is_plain_op x t ≡ true → HasScopes t → HasScopes (without x t)
without_scopes x t e s =
    list_scopes (λ p r os. drop_op x os) (is_other_or_plain x) (λ p r os k. dropped named_in names_of (λ o os. refl) no_names x os k)
    (λ p r os k ls u. dropped (placed_under ls u) (blocks_at ls u) (λ o os. refl) (no_blocks_at ls u) x os k) t e
    (λ p r os k. fewer_pass is_shaped x os k) (λ p r os k. fewer_pass (λ o. is_scope (head o) || all_regions labels_differ (regions o)) x os k) s

pub without_lexical : (x : ℕ) (t : Operation) → is_plain_op x t ≡ true → HasLexicalLabels t → HasLexicalLabels (without x t)
without_lexical x t e l =
    list_lexical (λ p r os. drop_op x os) (is_other_or_plain x) (λ p r os k. dropped named_in names_of (λ o os. refl) no_names x os k)
    (λ p r os k ls u. dropped (placed_under ls u) (blocks_at ls u) (λ o os. refl) (no_blocks_at ls u) x os k) t e
    (λ p r os k. fewer_pass (λ o. is_scope (head o) || all_regions is_lexical (regions o)) x os k) l

-- a list with an operation
module _ (k : Operation → Bool) (o : Operation) (e : every k o ≡ true) where
  last_pass : (os : Ops) → ops_every k os ≡ true → ops_every k (put_last o os) ≡ true
  last_pass no_ops a = both_hold (every k o) true e refl
  last_pass (next p os) a = let b = both (every k p) (ops_every k os) a in both_hold (every k p) (ops_every k (put_last o os)) b.0 (last_pass os b.1)

  before_pass : (b : ℕ) (os : Ops) → ops_every k os ≡ true → ops_every k (put_before b o os) ≡ true
  before_pass b no_ops a = refl
  before_pass b (next p os) a =
      let d = both (every k p) (ops_every k os) a in
      let rest = before_pass b os d.1 in
      elim (eqb (head p).id b) as (λ c. ops_every k (cond c (next o (next p os)) (next p (put_before b o os))) ≡ true) [
        | true ↦ both_hold (every k o) (ops_every k (next p os)) e a
        | false ↦ both_hold (every k p) (ops_every k (put_before b o os)) d.0 rest
      ]

  in_pass : (b : Option ℕ) (os : Ops) → ops_every k os ≡ true → ops_every k (put_in b o os) ≡ true
  in_pass None os a = last_pass os a
  in_pass (Some b) os a = before_pass b os a

  here_pass : (place : Place) (p r : ℕ) (os : Ops) → ops_every k os ≡ true → ops_every k (put_here place o p r os) ≡ true
  here_pass place p r os a = elim (is_in_block place p r) as (λ c. ops_every k (cond c (put_in place.before o os) os) ≡ true) [ true ↦ in_pass place.before os a | false ↦ a ]

mutual
  all_pass : (t : Operation) → every (λ o. true) t ≡ true
  all_pass (op h rs) = regions_pass rs

  regions_pass : (rs : Regions) → regions_every (λ o. true) rs ≡ true
  regions_pass no_regions = refl
  regions_pass (region g rs) = both_hold (region_every (λ o. true) g) (regions_every (λ o. true) rs) (region_pass g) (regions_pass rs)

  region_pass : (g : Region) → region_every (λ o. true) g ≡ true
  region_pass empty = refl
  region_pass (block args os) = ops_pass os

  ops_pass : (os : Ops) → ops_every (λ o. true) os ≡ true
  ops_pass no_ops = refl
  ops_pass (next o os) = both_hold (every (λ o. true) o) (ops_every (λ o. true) os) (all_pass o) (ops_pass os)

pub put_scopes : (place : Place) (o t : Operation) → is_plain (head o) ≡ true → HasScopes o → HasScopes t → HasScopes (put place o t)
put_scopes place o t e a s =
    list_scopes (put_here place o) (λ h. true) (λ p r os k. put_there named_in names_of (λ o os. refl) no_names o e place p r os)
    (λ p r os k ls u. put_there (placed_under ls u) (blocks_at ls u) (λ o os. refl) (no_blocks_at ls u) o e place p r os) t (all_pass t)
    (λ p r os k. here_pass is_shaped o a.shaped place p r os k) (λ p r os k. here_pass (λ o. is_scope (head o) || all_regions labels_differ (regions o)) o a.labels place p r os k) s

pub put_lexical : (place : Place) (o t : Operation) → is_plain (head o) ≡ true → HasLexicalLabels o → HasLexicalLabels t → HasLexicalLabels (put place o t)
put_lexical place o t e a l =
    list_lexical (put_here place o) (λ h. true) (λ p r os k. put_there named_in names_of (λ o os. refl) no_names o e place p r os)
    (λ p r os k ls u. put_there (placed_under ls u) (blocks_at ls u) (λ o os. refl) (no_blocks_at ls u) o e place p r os) t (all_pass t)
    (λ p r os k. here_pass (λ o. is_scope (head o) || all_regions is_lexical (regions o)) o a place p r os k) l
