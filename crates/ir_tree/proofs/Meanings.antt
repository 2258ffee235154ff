-- The meaning of trees in an extended context, and in one context.
use Rattle.std.proofs.Common.{◌≡◌, refl, ap, sym, ◌∙◌, ℕ, ◌<◌, Bool, true, ◌&&◌, List, [], ◌∷◌, length, length-append, arith}
use Rattle.std.specs.List.{list_all}
use Rattle.std.proofs.lemmas.Bool.{ltb-true, lt-ltb, and_parts, and_from}
use Rattle.ir_types.specs.Things.{ContextModel, IsExtendedBy, IsPreceding}
use Rattle.ir_types.specs.Terms.{name_term, type_term, attr_term}
use Rattle.ir_types.specs.Sound.{Holds, IsSound}
use Rattle.ir_types.proofs.Terms.{name_stays, type_stays, attr_stays, name_term_one, type_term_one, attr_term_one}
use Rattle.ir_tree.specs.Tree.{OpOf, Op, op, RegionsOf, no_regions, region, RegionOf, empty, block, OpsOf, no_ops, next}
use Rattle.ir_tree.specs.Limits.{every, regions_every, region_every, ops_every, all_arguments_pass}
use Rattle.ir_tree.specs.Passing.{entry_passes, head_passes, op_passes}
use Rattle.ir_tree.specs.Meaning.{meaning, is_name, is_type, is_attr, key_before, key_before_in, rises, rises_after, dictionaries_rise, IsSoundIn}
use Rattle.ir_tree.proofs.Agreeing.{maps_agree, maps_apart}

pub stable : (c d : ContextModel) (t : Op) → Holds c → IsExtendedBy c d → IsSoundIn c t → meaning d t ≡ meaning c t
stable c d t holds g s =
    maps_agree (is_name c) (is_type c) (is_attr c) (name_term d) (name_term c) (type_term d) (type_term c) (attr_term d) (attr_term c)
    (λ n h. name_stays c d n g (ltb-true n (length c.names) h))
    (λ n h. type_stays c d n g (ltb-true n (length c.types) h))
    (λ n h. attr_stays c d n holds g (ltb-true n (length c.attrs) h))
    t s.known

pub apart : (c : ContextModel) (t u : Op) → IsSound c → IsSoundIn c t → IsSoundIn c u → meaning c t ≡ meaning c u → t ≡ u
apart c t u sound s r e =
    maps_apart (is_name c) (is_type c) (is_attr c) (name_term c) (type_term c) (attr_term c)
    (λ m n h k. name_term_one c m n sound (ltb-true m (length c.names) h) (ltb-true n (length c.names) k))
    (λ m n h k. type_term_one c m n sound (ltb-true m (length c.types) h) (ltb-true n (length c.types) k))
    (λ m n h k. attr_term_one c m n sound (ltb-true m (length c.attrs) h) (ltb-true n (length c.attrs) k))
    t u s.known r.known e

pub all_implied : {X : Type 0} (p q : X → Bool) → ((x : X) → p x ≡ true → q x ≡ true) → (xs : List X) → list_all p xs ≡ true → list_all q xs ≡ true
all_implied p q f [] h = refl
all_implied p q f (x ∷ xs) h = let b = and_parts (p x) (list_all p xs) h in and_from (q x) (list_all q xs) (f x b.0) (all_implied p q f xs b.1)

module _ {N T A : Type 0} (p q r : OpOf N T A → Bool) (follows : (t : OpOf N T A) → p t ≡ true → q t ≡ true → r t ≡ true) where
  mutual
    pub every_follows : (t : OpOf N T A) → every p t ≡ true → every q t ≡ true → every r t ≡ true
    every_follows (op h rs) k l =
        let b = and_parts (p (op h rs)) (regions_every p rs) k in
        let c = and_parts (q (op h rs)) (regions_every q rs) l in
        and_from (r (op h rs)) (regions_every r rs) (follows (op h rs) b.0 c.0) (regions_follow rs b.1 c.1)

    regions_follow : (rs : RegionsOf N T A) → regions_every p rs ≡ true → regions_every q rs ≡ true → regions_every r rs ≡ true
    regions_follow no_regions k l = refl
    regions_follow (region g rs) k l =
        let b = and_parts (region_every p g) (regions_every p rs) k in
        let c = and_parts (region_every q g) (regions_every q rs) l in
        and_from (region_every r g) (regions_every r rs) (region_follows g b.0 c.0) (regions_follow rs b.1 c.1)

    region_follows : (g : RegionOf N T A) → region_every p g ≡ true → region_every q g ≡ true → region_every r g ≡ true
    region_follows empty k l = refl
    region_follows (block args os) k l = ops_follow os k l

    ops_follow : (os : OpsOf N T A) → ops_every p os ≡ true → ops_every q os ≡ true → ops_every r os ≡ true
    ops_follow no_ops k l = refl
    ops_follow (next o os) k l =
        let b = and_parts (every p o) (ops_every p os) k in
        let c = and_parts (every q o) (ops_every q os) l in
        and_from (every r o) (ops_every r os) (every_follows o b.0 c.0) (ops_follow os b.1 c.1)

-- ids of a context are ids of an extended one
pub longer : {X : Type 0} (xs ys : List X) (n : ℕ) → IsPreceding xs ys → n < length xs → n < length ys
longer xs ys n f h = omega (arith, ap length f.1, length-append xs f.0)

module _ {N T A : Type 0} (n n' : N → Bool) (q q' : T → Bool) (a a' : A → Bool) (names : (x : N) → n x ≡ true → n' x ≡ true) (types : (x : T) → q x ≡ true → q' x ≡ true) (attrs : (x : A) → a x ≡ true → a' x ≡ true) where
  entries_more : (es : List (N × A)) → list_all (entry_passes n a) es ≡ true → list_all (entry_passes n' a') es ≡ true
  entries_more = all_implied (entry_passes n a) (entry_passes n' a') (λ e h. let b = and_parts (n e.0) (a e.1) h in and_from (n' e.0) (a' e.1) (names e.0 b.0) (attrs e.1 b.1))

  arguments_more : (rs : RegionsOf N T A) → all_arguments_pass (list_all q) rs ≡ true → all_arguments_pass (list_all q') rs ≡ true
  arguments_more no_regions h = refl
  arguments_more (region empty rs) h = arguments_more rs h
  arguments_more (region (block args os) rs) h =
      let b = and_parts (list_all q args) (all_arguments_pass (list_all q) rs) h in
      and_from (list_all q' args) (all_arguments_pass (list_all q') rs) (all_implied q q' types args b.0) (arguments_more rs b.1)

  pub op_more : (t : OpOf N T A) → op_passes n q a t ≡ true → op_passes n q a t ≡ true → op_passes n' q' a' t ≡ true
  op_more (op x rs) h k =
      let b = and_parts (head_passes n q a x) (all_arguments_pass (list_all q) rs) h in
      let c = and_parts (n x.name) _ b.0 in
      let d = and_parts (list_all q x.results) _ c.1 in
      let e = and_parts (list_all (entry_passes n a) x.properties) _ d.1 in
      and_from _ _
      (and_from _ _ (names x.name c.0) (and_from _ _ (all_implied q q' types x.results d.0) (and_from _ _ (entries_more x.properties e.0) (entries_more x.attributes e.1))))
      (arguments_more rs b.1)

-- sorted dictionaries stay sorted
module _ {N A : Type 0} (n : N → Bool) (a : A → Bool) (before before' : N → N → Bool) (same : (k l : N) → n k ≡ true → n l ≡ true → before k l ≡ before' k l) where
  rises_after_same : (k : N) (es : List (N × A)) → n k ≡ true → list_all (entry_passes n a) es ≡ true → rises_after before k es ≡ rises_after before' k es
  rises_after_same k [] h l = refl
  rises_after_same k (e ∷ es) h l =
      let b = and_parts (entry_passes n a e) (list_all (entry_passes n a) es) l in
      let c = and_parts (n e.0) (a e.1) b.0 in
      λ i. same k e.0 h c.0 i && rises_after_same e.0 es c.0 b.1 i

  pub rises_same : (es : List (N × A)) → list_all (entry_passes n a) es ≡ true → rises before es ≡ rises before' es
  rises_same [] l = refl
  rises_same (e ∷ es) l =
      let b = and_parts (entry_passes n a e) (list_all (entry_passes n a) es) l in
      let c = and_parts (n e.0) (a e.1) b.0 in
      rises_after_same e.0 es c.0 b.1

order_stays : (c d : ContextModel) → IsExtendedBy c d → (t : Op) → op_passes (is_name c) (is_type c) (is_attr c) t ≡ true → dictionaries_rise (key_before_in c) t ≡ true → dictionaries_rise (key_before_in d) t ≡ true
order_stays c d g (op x rs) h k =
    let n = is_name c in
    let b = and_parts (head_passes n (is_type c) (is_attr c) x) _ h in
    let p = and_parts (n x.name) _ b.0 in
    let q = and_parts (list_all (is_type c) x.results) _ p.1 in
    let e = and_parts (list_all (entry_passes n (is_attr c)) x.properties) _ q.1 in
    let same : (m l : ℕ) → n m ≡ true → n l ≡ true → key_before_in c m l ≡ key_before_in d m l =
    (λ m l i j. let u = name_stays c d m g (ltb-true m (length c.names) i) in let v = name_stays c d l g (ltb-true l (length c.names) j) in sym (λ w. key_before (u w) (v w))) in
    (λ w. sym (rises_same n (is_attr c) (key_before_in c) (key_before_in d) same x.properties e.0) w && sym (rises_same n (is_attr c) (key_before_in c) (key_before_in d) same x.attributes e.1) w) ∙ k

pub stays_sound : (c d : ContextModel) (t : Op) → IsExtendedBy c d → IsSoundIn c t → IsSoundIn d t
stays_sound c d t g s = record {
  known =
      every_follows (op_passes (is_name c) (is_type c) (is_attr c)) (op_passes (is_name c) (is_type c) (is_attr c)) (op_passes (is_name d) (is_type d) (is_attr d))
      (op_more (is_name c) (is_name d) (is_type c) (is_type d) (is_attr c) (is_attr d)
      (λ n h. lt-ltb n (length d.names) (longer c.names d.names n g.names (ltb-true n (length c.names) h)))
      (λ n h. lt-ltb n (length d.types) (longer c.types d.types n g.types (ltb-true n (length c.types) h)))
      (λ n h. lt-ltb n (length d.attrs) (longer c.attrs d.attrs n g.attrs (ltb-true n (length c.attrs) h))))
      t s.known s.known;
  sorted =
      every_follows (op_passes (is_name c) (is_type c) (is_attr c)) (dictionaries_rise (key_before_in c)) (dictionaries_rise (key_before_in d)) (order_stays c d g) t s.known s.sorted;
}
