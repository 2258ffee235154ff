-- Updating the facts about the operations near an event.
use Rattle.std.proofs.Common.{◌≡◌, refl, ap, sym, ◌∙◌, subst, ℕ, zero, suc, ◌+◌, ◌-◌, ◌*◌, ◌<◌, ◌≤◌, Bool, true, false, true≢false, cond, ◌||◌, eqb, eq-eqb, eqb-true, List, [], ◌∷◌, length, take, drop, get_or, Option, Some, None, Result, Ok, Err, arith}
use Rattle.std.specs.Prelude.{option_map, option_and_then, IfOk}
use Rattle.std.proofs.lemmas.List.{length-drop, drop_all, take_rest}
use Rattle.ir_event.specs.types.Things.{ContextModel}
use Rattle.ir_event.specs.types.Terms.{TypeTerm, AttrTerm, name_term, type_term, attr_term}
use Rattle.ir_event.specs.trees.Tree.{OpOf, Op, op, RegionsOf, no_regions, region, regions, region_count}
use Rattle.ir_event.specs.trees.Ids.{find}
use Rattle.ir_event.specs.trees.Meaning.{meaning}
use Rattle.ir_event.specs.trees.Maps.{map_regions}
use Rattle.ir_event.proofs.of_trees.Mapped.{map_find}
use Rattle.ir_event.specs.tree_laws.Values.{region_at}
use Rattle.ir_event.specs.tree_laws.Reads.{ops_in, last_id, last_at}
use Rattle.ir_event.specs.declared.event.Event.{Event}
use Rattle.ir_event.specs.declared.event.Event.TheVariants.{Put, Take, SetOperand, SetEntry, Shift}
use Rattle.listeners_support.specs.declared.op_context.OpContext.{OpContext}
use Rattle.listeners_support.specs.Surroundings.{SurroundingsOf, surroundings}
use Rattle.listeners_support.specs.Mapped.{map_surroundings}
use Rattle.listeners_support.specs.Near.{if_any, somes, lasts_of, lasts_in, lasts_found, near}
use Rattle.listeners_support.specs.Facts.{is_one_of, fact_of, looks_found, looks_at, looks_for, most_looks}
use Rattle.listeners_support.specs.Gathered.{gathered, gathered_in, gather_looks, gathers_for, regions_found, near_looks, from_on}
use Rattle.listeners_support.proofs.Meanings.{mapped_surroundings, map_near}

-- the fact of the gathered context
pub fact_gathered : {F : Type 0} (fact : SurroundingsOf (List ℕ) TypeTerm AttrTerm → F) (c : ContextModel) (t : Op) (x : ℕ) (r : Option OpContext) → option_map gathered r ≡ surroundings x t → option_map (λ a. fact (gathered_in c a)) r ≡ fact_of fact (meaning c t) x
fact_gathered {F} fact c t x r e = go r ∙ ap (λ o. option_map fact (option_map (map_surroundings (name_term c) (type_term c) (attr_term c)) o)) e ∙ ap (option_map fact) (sym (mapped_surroundings (name_term c) (type_term c) (attr_term c) x t))
  where
    go : (r : Option OpContext) → option_map (λ a. fact (gathered_in c a)) r ≡ option_map fact (option_map (map_surroundings (name_term c) (type_term c) (attr_term c)) (option_map gathered r))
    go None = refl
    go (Some a) = refl

-- a property that holds for both values of `fresh`
pub all_fresh : {X E : Type 0} (r : Result X E) (P : X → Bool → Type 0) (fresh : Bool) → IfOk r (λ v. (f : Bool) → P v f) → IfOk r (λ v. P v fresh)
all_fresh (Ok v) P fresh h = h fresh
all_fresh (Err e) P fresh h = tt

-- a list from index i on
pub somes_drop : (xs : List (Option ℕ)) (i : ℕ) (d : Option ℕ) → i < length xs → somes (drop i xs) ≡ if_any (get_or xs i d) (somes (drop (i + 1) xs))
somes_drop [] i d l = absurd (omega arith)
somes_drop (x ∷ xs) zero d l = refl
somes_drop (x ∷ xs) (suc i) d l =
    let m : i < length xs = omega arith in
    let s : suc i + 1 ≡ suc (i + 1) = omega arith in
    somes_drop xs i d m ∙ ap (λ k. if_any (get_or xs i d) (somes (drop k (x ∷ xs)))) (sym s)

first : (x : ℕ) (ys : List ℕ) → is_one_of x (x ∷ ys) ≡ true
first x ys = ap (λ b. b || is_one_of x ys) (eq-eqb x x refl)

less : (b : Bool) (m n p q : ℕ) → m ≤ n → p ≤ q → cond b 0 m + p ≤ cond b 0 n + q
less true m n p q h k = omega arith
less false m n p q h k = omega arith

module _ {N T A : Type 0} where
  -- the last operations of all blocks
  lasts_from : (rs : RegionsOf N T A) (f : ℕ → Option ℕ) (k : ℕ) → ((r : ℕ) → f (k + r) ≡ option_and_then last_id (option_and_then ops_in (region_at r rs))) → somes (from_on f k (region_count rs)) ≡ lasts_of rs
  lasts_from no_regions f k e = refl
  lasts_from (region g rs) f k e =
      let z : k + 0 ≡ k = omega arith in
      let count : region_count (region g rs) ≡ suc (region_count rs) = omega arith in
      ap (λ n. somes (from_on f k n)) count
      ∙ λ i. if_any ((ap f (sym z) ∙ e 0) i) (lasts_from rs f (k + 1) (λ r. let s : k + 1 + r ≡ k + suc r = omega arith in ap f s ∙ e (suc r)) i)

  pub lasts_read : (t : OpOf N T A) (x : ℕ) → somes (from_on (λ r. last_at x r t) 0 (regions_found (find x t))) ≡ lasts_in x t
  lasts_read t x = go (find x t) refl
    where
      go : (o : Option (OpOf N T A)) → find x t ≡ o → somes (from_on (λ r. last_at x r t) 0 (regions_found (find x t))) ≡ lasts_found (find x t)
      go None e = ap (λ o. somes (from_on (λ r. last_at x r t) 0 (regions_found o))) e ∙ sym (ap lasts_found e)
      go (Some (op h rs)) e =
          ap (λ o. somes (from_on (λ r. last_at x r t) 0 (regions_found o))) e
          ∙ lasts_from rs (λ r. last_at x r t) 0 (λ r. let z : 0 + r ≡ r = omega arith in
          ap (λ k. last_at x k t) z ∙ ap (λ o. option_and_then last_id (option_and_then (λ p. option_and_then ops_in (region_at r (regions p))) o)) e)
          ∙ sym (ap lasts_found e)

  -- looks
  gather_below : (o : Option (OpOf N T A)) → gather_looks o + (1 + regions_found o) ≤ looks_found o
  gather_below None = omega arith
  gather_below (Some o) = omega arith

  pub gathers_below : (t : OpOf N T A) (xs : List ℕ) → gathers_for t xs ≤ looks_for t xs
  gathers_below t [] = omega arith
  gathers_below t (x ∷ xs) = less (is_one_of x xs) _ _ _ _ (let h = gather_below (find x t) in omega arith) (gathers_below t xs)

  -- gathering an operation of the list leaves looks to spare
  pub gathers_spare : (t : OpOf N T A) (x : ℕ) (xs : List ℕ) → is_one_of x xs ≡ true → gathers_for t xs + (1 + regions_found (find x t)) ≤ looks_for t xs
  gathers_spare t x [] e = absurd (true≢false (sym e))
  gathers_spare t x (y ∷ xs) e = go (gathers_spare t x xs) (eqb y x) refl (is_one_of y xs) refl e
    where
      go : (is_one_of x xs ≡ true → gathers_for t xs + (1 + regions_found (find x t)) ≤ looks_for t xs) → (b : Bool) → eqb y x ≡ b → (d : Bool) → is_one_of y xs ≡ d → (b || is_one_of x xs) ≡ true
          → cond (is_one_of y xs) 0 (gather_looks (find y t)) + gathers_for t xs + (1 + regions_found (find x t)) ≤ cond (is_one_of y xs) 0 (looks_at t y) + looks_for t xs
      go later true i true j f =
          let h = later (ap (λ z. is_one_of z xs) (sym (eqb-true y x i)) ∙ j) in
          subst (λ z. cond z 0 (gather_looks (find y t)) + gathers_for t xs + (1 + regions_found (find x t)) ≤ cond z 0 (looks_at t y) + looks_for t xs) (sym j) (omega arith)
      go later false i true j f =
          let h = later f in
          subst (λ z. cond z 0 (gather_looks (find y t)) + gathers_for t xs + (1 + regions_found (find x t)) ≤ cond z 0 (looks_at t y) + looks_for t xs) (sym j) (omega arith)
      go later true i false j f =
          let h = gather_below (find y t) in
          let g = gathers_below t xs in
          let same = ap (λ z. regions_found (find z t)) (eqb-true y x i) in
          subst (λ z. cond z 0 (gather_looks (find y t)) + gathers_for t xs + (1 + regions_found (find x t)) ≤ cond z 0 (looks_at t y) + looks_for t xs) (sym j) (omega arith)
      go later false i false j f =
          let h = gather_below (find y t) in
          let g = later f in
          subst (λ z. cond z 0 (gather_looks (find y t)) + gathers_for t xs + (1 + regions_found (find x t)) ≤ cond z 0 (looks_at t y) + looks_for t xs) (sym j) (omega arith)

  -- the looks for the operations near an event, and for each of them, are within the limit
  pub within : (e : Event) (t : OpOf N T A) → near_looks e t + gathers_for t (near e t) ≤ most_looks e t
  within (Put x place fresh) t = let h = gathers_below t (near (Put x place fresh) t) in omega arith
  within (Take x place fresh) t = let h = gathers_below t (near (Take x place fresh) t) in omega arith
  within (SetOperand x k old new) t = let h = gathers_spare t x (near (SetOperand x k old new) t) (first x (lasts_in x t)) in omega arith
  within (SetEntry x part key old new) t = let h = gathers_spare t x (near (SetEntry x part key old new) t) (first x (lasts_in x t)) in omega arith
  within (Shift x old new) t = let h = gathers_below t (near (Shift x old new) t) in omega arith

  -- also if they couldn't all be listed
  pub near_within : (e : Event) (t : OpOf N T A) → near_looks e t ≤ most_looks e t
  near_within e t = let h = within e t in omega arith

-- in terms of contents
map_looks : (c : ContextModel) (x : ℕ) (t : Op) → looks_at (meaning c t) x ≡ looks_at t x
map_looks c x t = ap looks_found (map_find (name_term c) (type_term c) (attr_term c) x t) ∙ go (find x t)
  where
    counted : (rs : RegionsOf ℕ ℕ ℕ) → region_count (map_regions (name_term c) (type_term c) (attr_term c) rs) ≡ region_count rs
    counted no_regions = refl
    counted (region g rs) = ap (λ n. n + 1) (counted rs)

    go : (o : Option Op) → looks_found (option_map (meaning c) o) ≡ looks_found o
    go None = refl
    go (Some (op h rs)) = ap (λ n. 6 + length h.operands + 3 * n) (counted rs)

map_looks_for : (c : ContextModel) (t : Op) (xs : List ℕ) → looks_for (meaning c t) xs ≡ looks_for t xs
map_looks_for c t [] = refl
map_looks_for c t (x ∷ xs) = λ i. cond (is_one_of x xs) 0 (map_looks c x t i) + map_looks_for c t xs i

pub map_most : (c : ContextModel) (e : Event) (t : Op) → most_looks e (meaning c t) ≡ most_looks e t
map_most c e t = ap (λ n. 8 + n) (map_looks_for c t (near e (meaning c t)) ∙ ap (looks_for t) (map_near (name_term c) (type_term c) (attr_term c) e t))
