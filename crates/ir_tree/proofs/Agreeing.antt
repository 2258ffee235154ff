-- Trees of the same shape under functions that agree on the items of a tree, and under functions that are injective on
-- them.
use Rattle.std.proofs.Common.{◌≡◌, refl, ap, sym, Bool, true, false, ◌&&◌, List, [], ◌∷◌, map, true≢false}
use Rattle.std.specs.List.{list_all}
use Rattle.ir_tree.specs.Tree.{HeadOf, OpOf, op, RegionsOf, no_regions, region, RegionOf, empty, block, OpsOf, no_ops, next, head, regions}
use Rattle.ir_tree.specs.Limits.{every, regions_every, ops_every, all_arguments_pass}
use Rattle.ir_tree.specs.Maps.{map_entry, map_head, map_tree, map_regions, map_region, map_ops}
use Rattle.ir_tree.specs.Passing.{entry_passes, head_passes, op_passes, all_pass}
use Rattle.std.proofs.lemmas.Bool.{and_parts}

-- two functions that agree on the items that pass a test map a list of such items to the same list
pub map_agree : {X Y : Type 0} (p : X → Bool) (f g : X → Y) → ((x : X) → p x ≡ true → f x ≡ g x) → (xs : List X) → list_all p xs ≡ true → map f xs ≡ map g xs
map_agree p f g same [] h = refl
map_agree p f g same (x ∷ xs) h = let b = and_parts (p x) (list_all p xs) h in λ i. same x b.0 i ∷ map_agree p f g same xs b.1 i

-- a function that is injective on the items that pass a test is injective on lists of such items
pub map_apart : {X Y : Type 0} (p : X → Bool) (f : X → Y) → ((x y : X) → p x ≡ true → p y ≡ true → f x ≡ f y → x ≡ y) → (xs ys : List X) → list_all p xs ≡ true → list_all p ys ≡ true → map f xs ≡ map f ys → xs ≡ ys
map_apart p f apart [] [] h k e = refl
map_apart p f apart [] (y ∷ ys) h k e = cc
map_apart p f apart (x ∷ xs) [] h k e = cc
map_apart p f apart (x ∷ xs) (y ∷ ys) h k e =
    let b = and_parts (p x) (list_all p xs) h in
    let c = and_parts (p y) (list_all p ys) k in
    let first : f x ≡ f y = cc in
    let rest : map f xs ≡ map f ys = cc in
    λ i. apart x y b.0 c.0 first i ∷ map_apart p f apart xs ys b.1 c.1 rest i

module _ {N T A : Type 0} (n : N → Bool) (q : T → Bool) (a : A → Bool) where
  -- the tests that the parts of an operation pass
  own : (x : HeadOf N T A) (rs : RegionsOf N T A) → every (op_passes n q a) (op x rs) ≡ true → (head_passes n q a x ≡ true) × (all_arguments_pass (list_all q) rs ≡ true) × (regions_every (op_passes n q a) rs ≡ true)
  own x rs h =
      let b = and_parts (op_passes n q a (op x rs)) (regions_every (op_passes n q a) rs) h in
      let c = and_parts (head_passes n q a x) (all_arguments_pass (list_all q) rs) b.0 in
      (c.0, c.1, b.1)

module _ {N T A M U B : Type 0} (n : N → Bool) (q : T → Bool) (a : A → Bool) where
  module _ (f f' : N → M) (g g' : T → U) (h h' : A → B) (names : (x : N) → n x ≡ true → f x ≡ f' x) (types : (x : T) → q x ≡ true → g x ≡ g' x) (attrs : (x : A) → a x ≡ true → h x ≡ h' x) where
    entry_agrees : (e : N × A) → entry_passes n a e ≡ true → map_entry f h e ≡ map_entry f' h' e
    entry_agrees e k = let b = and_parts (n e.0) (a e.1) k in λ i. (names e.0 b.0 i, attrs e.1 b.1 i)

    head_agrees : (x : HeadOf N T A) → head_passes n q a x ≡ true → map_head f g h x ≡ map_head f' g' h' x
    head_agrees x k =
        let b = and_parts (n x.name) _ k in
        let c = and_parts (list_all q x.results) _ b.1 in
        let d = and_parts (list_all (entry_passes n a) x.properties) _ c.1 in
        λ i.
        record {
          id = x.id;
          name = names x.name b.0 i;
          operands = x.operands;
          results = map_agree q g g' types x.results c.0 i;
          properties = map_agree (entry_passes n a) (map_entry f h) (map_entry f' h') entry_agrees x.properties d.0 i;
          attributes = map_agree (entry_passes n a) (map_entry f h) (map_entry f' h') entry_agrees x.attributes d.1 i;
        }

    mutual
      tree_agrees : (t : OpOf N T A) → every (op_passes n q a) t ≡ true → map_tree f g h t ≡ map_tree f' g' h' t
      tree_agrees (op x rs) k = let b = own n q a x rs k in λ i. op (head_agrees x b.0 i) (regions_agree rs b.1 b.2 i)

      regions_agree : (rs : RegionsOf N T A) → all_arguments_pass (list_all q) rs ≡ true → regions_every (op_passes n q a) rs ≡ true → map_regions f g h rs ≡ map_regions f' g' h' rs
      regions_agree no_regions k l = refl
      regions_agree (region empty rs) k l = ap (region empty) (regions_agree rs k l)
      regions_agree (region (block args os) rs) k l =
          let b = and_parts (list_all q args) (all_arguments_pass (list_all q) rs) k in
          let c = and_parts (ops_every (op_passes n q a) os) (regions_every (op_passes n q a) rs) l in
          λ i. region (block (map_agree q g g' types args b.0 i) (ops_agree os c.0 i)) (regions_agree rs b.1 c.1 i)

      ops_agree : (os : OpsOf N T A) → ops_every (op_passes n q a) os ≡ true → map_ops f g h os ≡ map_ops f' g' h' os
      ops_agree no_ops l = refl
      ops_agree (next o os) l = let c = and_parts (every (op_passes n q a) o) (ops_every (op_passes n q a) os) l in λ i. next (tree_agrees o c.0 i) (ops_agree os c.1 i)

    -- functions that agree on the items of a tree give the same tree
    pub maps_agree : (t : OpOf N T A) → all_pass n q a t ≡ true → map_tree f g h t ≡ map_tree f' g' h' t
    maps_agree t k = tree_agrees t k

  module _ (f : N → M) (g : T → U) (h : A → B) (names : (x y : N) → n x ≡ true → n y ≡ true → f x ≡ f y → x ≡ y) (types : (x y : T) → q x ≡ true → q y ≡ true → g x ≡ g y → x ≡ y) (attrs : (x y : A) → a x ≡ true → a y ≡ true → h x ≡ h y → x ≡ y) where
    entry_apart : (d e : N × A) → entry_passes n a d ≡ true → entry_passes n a e ≡ true → map_entry f h d ≡ map_entry f h e → d ≡ e
    entry_apart d e k l p =
        let b = and_parts (n d.0) (a d.1) k in
        let c = and_parts (n e.0) (a e.1) l in
        λ i. (names d.0 e.0 b.0 c.0 (ap (λ w. w.0) p) i, attrs d.1 e.1 b.1 c.1 (ap (λ w. w.1) p) i)

    head_apart : (x y : HeadOf N T A) → head_passes n q a x ≡ true → head_passes n q a y ≡ true → map_head f g h x ≡ map_head f g h y → x ≡ y
    head_apart x y k l p =
        let b = and_parts (n x.name) _ k in
        let c = and_parts (list_all q x.results) _ b.1 in
        let d = and_parts (list_all (entry_passes n a) x.properties) _ c.1 in
        let b' = and_parts (n y.name) _ l in
        let c' = and_parts (list_all q y.results) _ b'.1 in
        let d' = and_parts (list_all (entry_passes n a) y.properties) _ c'.1 in
        λ i.
        record {
          id = (p i).id;
          name = names x.name y.name b.0 b'.0 (ap (λ w. w.name) p) i;
          operands = (p i).operands;
          results = map_apart q g types x.results y.results c.0 c'.0 (ap (λ w. w.results) p) i;
          properties = map_apart (entry_passes n a) (map_entry f h) entry_apart x.properties y.properties d.0 d'.0 (ap (λ w. w.properties) p) i;
          attributes = map_apart (entry_passes n a) (map_entry f h) entry_apart x.attributes y.attributes d.1 d'.1 (ap (λ w. w.attributes) p) i;
        }

    mutual
      tree_apart : (t u : OpOf N T A) → every (op_passes n q a) t ≡ true → every (op_passes n q a) u ≡ true → map_tree f g h t ≡ map_tree f g h u → t ≡ u
      tree_apart (op x rs) (op y ss) k l p =
          let b = own n q a x rs k in
          let c = own n q a y ss l in
          λ i. op (head_apart x y b.0 c.0 (ap head p) i) (regions_apart rs ss b.1 c.1 b.2 c.2 (ap regions p) i)

      regions_apart : (rs ss : RegionsOf N T A) → all_arguments_pass (list_all q) rs ≡ true → all_arguments_pass (list_all q) ss ≡ true → regions_every (op_passes n q a) rs ≡ true → regions_every (op_passes n q a) ss ≡ true
          → map_regions f g h rs ≡ map_regions f g h ss → rs ≡ ss
      regions_apart no_regions no_regions j k l m p = refl
      regions_apart no_regions (region s ss) j k l m p = cc
      regions_apart (region r rs) no_regions j k l m p = cc
      regions_apart (region empty rs) (region empty ss) j k l m p = let rest : map_regions f g h rs ≡ map_regions f g h ss = cc in ap (region empty) (regions_apart rs ss j k l m rest)
      regions_apart (region empty rs) (region (block args os) ss) j k l m p = cc
      regions_apart (region (block args os) rs) (region empty ss) j k l m p = cc
      regions_apart (region (block args os) rs) (region (block brgs ps) ss) j k l m p =
          let b = and_parts (list_all q args) (all_arguments_pass (list_all q) rs) j in
          let b' = and_parts (list_all q brgs) (all_arguments_pass (list_all q) ss) k in
          let c = and_parts (ops_every (op_passes n q a) os) (regions_every (op_passes n q a) rs) l in
          let c' = and_parts (ops_every (op_passes n q a) ps) (regions_every (op_passes n q a) ss) m in
          let first : map g args ≡ map g brgs = cc in
          let inner : map_ops f g h os ≡ map_ops f g h ps = cc in
          let rest : map_regions f g h rs ≡ map_regions f g h ss = cc in
          λ i. region (block (map_apart q g types args brgs b.0 b'.0 first i) (ops_apart os ps c.0 c'.0 inner i)) (regions_apart rs ss b.1 b'.1 c.1 c'.1 rest i)

      ops_apart : (os ps : OpsOf N T A) → ops_every (op_passes n q a) os ≡ true → ops_every (op_passes n q a) ps ≡ true → map_ops f g h os ≡ map_ops f g h ps → os ≡ ps
      ops_apart no_ops no_ops l m p = refl
      ops_apart no_ops (next o os) l m p = cc
      ops_apart (next o os) no_ops l m p = cc
      ops_apart (next o os) (next r ps) l m p =
          let c = and_parts (every (op_passes n q a) o) (ops_every (op_passes n q a) os) l in
          let c' = and_parts (every (op_passes n q a) r) (ops_every (op_passes n q a) ps) m in
          let first : map_tree f g h o ≡ map_tree f g h r = cc in
          let rest : map_ops f g h os ≡ map_ops f g h ps = cc in
          λ i. next (tree_apart o r c.0 c'.0 first i) (ops_apart os ps c.1 c'.1 rest i)

    -- functions that are injective on the items of two trees give different trees for different trees
    pub maps_apart : (t u : OpOf N T A) → all_pass n q a t ≡ true → all_pass n q a u ≡ true → map_tree f g h t ≡ map_tree f g h u → t ≡ u
    maps_apart t u k l p = tree_apart t u k l p

-- a tree of the same shape as one of the same shape
module _ {N T A M U B O V C : Type 0} (f : N → M) (g : T → U) (h : A → B) (f' : M → O) (g' : U → V) (h' : B → C) where
  map_twice : {X Y Z : Type 0} (k : X → Y) (l : Y → Z) (xs : List X) → map l (map k xs) ≡ map (λ x. l (k x)) xs
  map_twice k l [] = refl
  map_twice k l (x ∷ xs) = ap (λ w. l (k x) ∷ w) (map_twice k l xs)

  mutual
    pub map_tree_twice : (t : OpOf N T A) → map_tree f' g' h' (map_tree f g h t) ≡ map_tree (λ x. f' (f x)) (λ x. g' (g x)) (λ x. h' (h x)) t
    map_tree_twice (op x rs) = λ i.
        op
        (record {
          id = x.id;
          name = f' (f x.name);
          operands = x.operands;
          results = map_twice g g' x.results i;
          properties = map_twice (map_entry f h) (map_entry f' h') x.properties i;
          attributes = map_twice (map_entry f h) (map_entry f' h') x.attributes i;
        })
        (map_regions_twice rs i)

    map_regions_twice : (rs : RegionsOf N T A) → map_regions f' g' h' (map_regions f g h rs) ≡ map_regions (λ x. f' (f x)) (λ x. g' (g x)) (λ x. h' (h x)) rs
    map_regions_twice no_regions = refl
    map_regions_twice (region r rs) = λ i. region (map_region_twice r i) (map_regions_twice rs i)

    map_region_twice : (r : RegionOf N T A) → map_region f' g' h' (map_region f g h r) ≡ map_region (λ x. f' (f x)) (λ x. g' (g x)) (λ x. h' (h x)) r
    map_region_twice empty = refl
    map_region_twice (block args os) = λ i. block (map_twice g g' args i) (map_ops_twice os i)

    map_ops_twice : (os : OpsOf N T A) → map_ops f' g' h' (map_ops f g h os) ≡ map_ops (λ x. f' (f x)) (λ x. g' (g x)) (λ x. h' (h x)) os
    map_ops_twice no_ops = refl
    map_ops_twice (next o os) = λ i. next (map_tree_twice o i) (map_ops_twice os i)
