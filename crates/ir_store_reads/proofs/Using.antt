-- The walk over the uses of a value.
use Rattle.std.proofs.Common.{◌≡◌, ℕ, zero, suc, ◌+◌, ◌<◌, ◌≤◌, List, [], ◌∷◌, map, get_or, refl, sym, ap, ◌∙◌, subst, length, Bool, true, false, eqb, arith, Option, Some, None, slice_get}
use Rattle.std.specs.Prelude.{if◌then◌else◌}
use Rattle.std.proofs.lemmas.List.{length-map}
use Rattle.ir_store_slots.specs.Lists.{Lists, Laws, IsHead, IsItem, home_at, list_at, has, after, free}
use Rattle.ir_store_slots.proofs.Kept.{list_short}
use Rattle.ir_store_slots.specs.Rows.{Row}
use Rattle.ir_store_slots.specs.Using.{use_in, uses_at}
use Rattle.ir_store_slots.specs.Walks.{from_slot}
use Rattle.ir_store_slots.proofs.Walked.{after_in, from_first, goes, listed_item, walk_start}
use Rattle.ir_store_reads.specs.Uses.{uses_left, uses_of_each, IsNode}

-- a list from a slot on is at most as long as the list
from_short : (at : Option ℕ) (ks : List ℕ) → length (from_slot at ks) ≤ length ks
from_short None ks = omega arith
from_short (Some k) [] = omega arith
from_short (Some k) (q ∷ ks) = go (eqb q k) (from_short (Some k) ks)
  where
    go : (b : Bool) → length (from_slot (Some k) ks) ≤ length ks → length (if b then q ∷ ks else from_slot (Some k) ks) ≤ length (q ∷ ks)
    go true l = omega arith
    go false l = omega (arith, l)

-- the invariant of a walk that counts the remaining uses
pub record Counts (slots : List Row) (cells : List (ℕ × ℕ)) (chains : Lists) (total count : ℕ) (at : Option ℕ) : Type 0 where
  pub sum : count + length (uses_left slots cells chains at) ≡ total
  pub node : IsNode chains.homes at

module _ (slots : List Row) (cells : List (ℕ × ℕ)) (chains : Lists) (laws : Laws chains.lists chains.homes) where
  -- a node of the list of a head, if there is one
  abbrev InList : ℕ → Option ℕ → Type 0
  InList h at = (k : ℕ) → at ≡ Some k → has k (list_at chains.lists h) ≡ true

  left_in : (h : ℕ) (at : Option ℕ) → InList h at → uses_left slots cells chains at ≡ map (use_in slots cells) (from_slot at (list_at chains.lists h))
  left_in h None f = refl
  left_in h (Some n) f = ap (λ z. map (use_in slots cells) (from_slot (Some n) (list_at chains.lists z))) (laws.members h n (f n refl)).0

  node_in : (h : ℕ) → IsHead chains.homes h → (at : Option ℕ) → InList h at → IsNode chains.homes at
  node_in h p None f = tt
  node_in h p (Some n) f = listed_item chains.lists chains.homes laws h n p (f n refl)

  -- from the first node on, all uses remain
  module _ (h : ℕ) (p : IsHead chains.homes h) (at : Option ℕ) (e : at ≡ slice_get (list_at chains.lists h) 0) where
    there_first : InList h at
    there_first = (walk_start chains.lists (λ _. true) h at e).there

    pub first_left : uses_left slots cells chains at ≡ uses_at slots cells chains.lists (Some h)
    first_left = left_in h at there_first ∙ ap (λ z. map (use_in slots cells) (from_slot z (list_at chains.lists h))) e ∙ ap (map (use_in slots cells)) (from_first (list_at chains.lists h))

    pub first_node : IsNode chains.homes at
    first_node = node_in h p at there_first

  -- after a node, all uses but its own remain
  module _ (n : ℕ) (i : IsItem chains.homes n) (at : Option ℕ) (e : at ≡ after n (list_at chains.lists (home_at chains.homes n))) where
    there_next : InList (home_at chains.homes n) at
    there_next k f = after_in n k (list_at chains.lists (home_at chains.homes n)) (sym e ∙ f)

    pub next_left : uses_left slots cells chains (Some n) ≡ use_in slots cells n ∷ uses_left slots cells chains at
    next_left =
        let h = home_at chains.homes n in
        let ks = list_at chains.lists h in
        let g = goes n ks (laws.once h) (laws.covers n i) in
        ap (map (use_in slots cells)) g.is
        ∙ ap (λ z. use_in slots cells n ∷ z) (sym (left_in h at there_next ∙ ap (λ z. map (use_in slots cells) (from_slot z ks)) e ∙ ap (map (use_in slots cells)) g.later))

    pub next_node : IsNode chains.homes at
    next_node = node_in (home_at chains.homes n) (laws.heads n i) at there_next

  -- fewer uses remain than there are node numbers
  pub few_left : (at : Option ℕ) → length (uses_left slots cells chains at) < free
  few_left None = omega arith
  few_left (Some n) =
      let ks = list_at chains.lists (home_at chains.homes n) in
      let a : length (uses_left slots cells chains (Some n)) ≡ length (from_slot (Some n) ks) = length-map (from_slot (Some n) ks) (use_in slots cells) in
      omega (arith, a, from_short (Some n) ks, list_short chains (home_at chains.homes n) laws, laws.few)

  module _ (total count n : ℕ) (before : Option ℕ) (is : before ≡ Some n) (w : Counts slots cells chains total count before) where
    pub counts_node : IsItem chains.homes n
    counts_node = subst (IsNode chains.homes) is w.node

    module _ (at : Option ℕ) (e : at ≡ after n (list_at chains.lists (home_at chains.homes n))) where
      one_less : length (uses_left slots cells chains before) ≡ length (uses_left slots cells chains at) + 1
      one_less = ap (λ z. length (uses_left slots cells chains z)) is ∙ ap length (next_left n counts_node at e) ∙ omega arith

      pub counts_on : Counts slots cells chains total (count + 1) at
      counts_on = record { sum = omega (arith, one_less, w.sum); node = next_node n counts_node at e }

      pub counts_less : length (uses_left slots cells chains at) < length (uses_left slots cells chains before)
      counts_less = omega (arith, one_less)

    pub counts_short : count + 1 ≤ total
    counts_short = omega (arith, one_less (after n (list_at chains.lists (home_at chains.homes n))) refl, w.sum)

-- the uses of each of some heads
module _ (slots : List Row) (cells : List (ℕ × ℕ)) (lists : List (List ℕ)) where
  pub each_length : (b n : ℕ) → length (uses_of_each slots cells lists b n) ≡ n
  each_length b zero = refl
  each_length b (suc n) = ap suc (each_length (b + 1) n)

  pub each_at : (b n k : ℕ) → k < n → get_or (uses_of_each slots cells lists b n) k [] ≡ uses_at slots cells lists (Some (b + k))
  each_at b zero k l = absurd (omega (arith, l))
  each_at b (suc n) zero l =
      let same : b ≡ b + 0 = omega arith in
      ap (λ h. uses_at slots cells lists (Some h)) same
  each_at b (suc n) (suc k) l =
      let less : k < n = omega (arith, l) in
      let same : b + 1 + k ≡ b + suc k = omega arith in
      each_at (b + 1) n k less ∙ ap (λ h. uses_at slots cells lists (Some h)) same
