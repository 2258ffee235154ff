-- Linked lists of nodes, and the effects of edits.
use Rattle.std.specs.Prelude.{ℕ, List, [], ◌∷◌, ◌++◌, ◌≡◌, ◌<◌, ◌-◌, length, map, slice_set, eqb, cond, Bool, true, false, ◌||◌, get_or, refl, Option, None, Some, slice_get}
use Rattle.std.specs.Coded.{Coded, code_by, coded×, coded_ℕ, coded_list}

-- the home of a node in no list
abbrev pub free : ℕ
free = 4294967295

-- the list of each node that is a head (an empty list for other nodes), the head of each node's list, and the reserved
-- capacity in nodes
pub record Lists : Type 0 where
  pub lists : List (List ℕ)
  pub homes : List ℕ
  pub headroom : ℕ

-- they are stored as the tuple of the three
abbrev pub lists_code : Coded Lists
lists_code =
    code_by (List (List ℕ) × (List ℕ × ℕ)) (coded× (coded_list (coded_list coded_ℕ)) (coded× (coded_list coded_ℕ) coded_ℕ))
    (λ c. (c.lists, (c.homes, c.headroom))) (λ p. record { lists = p.0; homes = p.1.0; headroom = p.1.1 }) (λ _. refl)

-- the list of head h
abbrev pub list_at : List (List ℕ) → ℕ → List ℕ
list_at ls h = get_or ls h []

-- the head of the list of node i
abbrev pub home_at : List ℕ → ℕ → ℕ
home_at homes i = get_or homes i free

-- node h is a head
pub record IsHead (homes : List ℕ) (h : ℕ) : Type 0 where
  pub inside : h < length homes
  pub own : home_at homes h ≡ h

-- node i is in the list of a head
pub record IsItem (homes : List ℕ) (i : ℕ) : Type 0 where
  pub inside : i < length homes
  pub linked : home_at homes i ≡ free → ⊥
  pub other : home_at homes i ≡ i → ⊥

-- node i is in no list
pub record IsFree (homes : List ℕ) (i : ℕ) : Type 0 where
  pub inside : i < length homes
  pub unlinked : home_at homes i ≡ free

-- whether node i is in a list
abbrev pub has : ℕ → List ℕ → Bool
has i [] = false
has i (x ∷ xs) = eqb x i || has i xs

-- a list without node i
abbrev pub without : ℕ → List ℕ → List ℕ
without i [] = []
without i (x ∷ xs) = cond (eqb x i) (without i xs) (x ∷ without i xs)

-- a list with node i inserted before node `at`
abbrev pub put_before : ℕ → ℕ → List ℕ → List ℕ
put_before i at [] = []
put_before i at (x ∷ xs) = cond (eqb x at) (i ∷ x ∷ put_before i at xs) (x ∷ put_before i at xs)

-- a list without duplicates
abbrev pub Once : List ℕ → Type 0
Once [] = Unit {0}
Once (x ∷ xs) = (has x xs ≡ false) × Once xs

-- the invariants of all lists
pub record Laws (lists : List (List ℕ)) (homes : List ℕ) : Type 0 where
  pub few : length homes < free
  pub counted : length lists ≡ length homes
  pub heads : (i : ℕ) → IsItem homes i → IsHead homes (home_at homes i)
  pub members : (h i : ℕ) → has i (list_at lists h) ≡ true → (home_at homes i ≡ h) × (i ≡ h → ⊥)
  pub covers : (i : ℕ) → IsItem homes i → has i (list_at lists (home_at homes i)) ≡ true
  pub once : (h : ℕ) → Once (list_at lists h)

-- the node after i
abbrev pub after : ℕ → List ℕ → Option ℕ
after i [] = None
after i (x ∷ xs) = cond (eqb x i) (slice_get xs 0) (after i xs)

-- the node before i; `last` is the node before the list
abbrev pub before : ℕ → Option ℕ → List ℕ → Option ℕ
before i last [] = None
before i last (x ∷ xs) = cond (eqb x i) last (before i (Some x) xs)

-- the last node; `last` is the node before the list
abbrev pub last_of : Option ℕ → List ℕ → Option ℕ
last_of last [] = last
last_of last (x ∷ xs) = last_of (Some x) xs

-- a node leaves its list and is free
abbrev pub let_go : ℕ → Lists → Lists
let_go i c = record c { lists = map (without i) c.lists; homes = slice_set c.homes i free }

-- a new node with head h, in the reserved capacity or in new capacity
abbrev pub with_node : ℕ → Lists → Lists
with_node h c = record { lists = c.lists ++ [] ∷ []; homes = c.homes ++ h ∷ []; headroom = c.headroom - 1 }
