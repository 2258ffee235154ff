-- A dictionary with the slots of removed keys.
use Rattle.std.specs.Prelude.{◌≡◌, ◌⊎◌, ℕ, true, List, [], ◌∷◌, ◌++◌, map, take, drop, eqb, Bool, ◌||◌, if◌then◌else◌, Option, Some, None, refl}
use Rattle.std.specs.Coded.{Coded, code_by, coded×, coded_list, coded_ℕ}
use Rattle.std.specs.List.{list_any}
use Rattle.ir_tree_laws.specs.trees.Edits.{change_entry}

-- the entries in the order of their keys, and the removed keys that still have a slot, in the order in which they were
-- removed
pub record Slots : Type 0 where
  pub present : List (ℕ × ℕ)
  pub gone : List ℕ

-- they are stored as the pair of both
abbrev pub slots_code : Coded Slots
slots_code =
    code_by (List (ℕ × ℕ) × List ℕ) (coded× (coded_list (coded× coded_ℕ coded_ℕ)) (coded_list coded_ℕ))
    (λ s. (s.present, s.gone)) (λ p. record { present = p.0; gone = p.1 }) (λ _. refl)

-- the keys of entries
abbrev pub keys : List (ℕ × ℕ) → List ℕ
keys = map (λ e. e.0)

-- the first n of a list of entries, and the keys of the others
abbrev pub slots_of : ℕ → List (ℕ × ℕ) → Slots
slots_of n es = record { present = take n es; gone = keys (drop n es) }

-- whether a dictionary has a key
abbrev pub has_key : ℕ → List (ℕ × ℕ) → Bool
has_key k es = list_any (λ e. eqb e.0 k) es

-- whether a key is one of the removed keys
abbrev pub is_gone : ℕ → List ℕ → Bool
is_gone k ls = list_any (λ l. eqb l k) ls

-- whether there is a slot for key k: the dictionary has the key, or the slot of the removed key
abbrev pub has_slot : ℕ → Slots → Bool
has_slot k s = has_key k s.present || is_gone k s.gone

-- setting key k to a, or removing k, needs no new slot: k is removed, or has a slot
abbrev pub NeedsNoSlot : ℕ → Option ℕ → Slots → Type 0
NeedsNoSlot k a s = (a ≡ None) ⊎ (has_slot k s ≡ true)

-- the removed keys without the first that is k
abbrev pub keep_gone : ℕ → List ℕ → List ℕ
keep_gone k [] = []
keep_gone k (l ∷ ls) = if eqb l k then ls else l ∷ keep_gone k ls

-- the removed keys after key k is removed, or set again
abbrev pub gone_after : {A : Type 0} → ℕ → Option A → List ℕ → List ℕ
gone_after k None ls = ls ++ k ∷ []
gone_after k (Some a) ls = keep_gone k ls

-- key k set to a, or removed: the slot of a removed key is kept
abbrev pub with_change : (ℕ → ℕ → Bool) → ℕ → Option ℕ → Slots → Slots
with_change before k a s = record { present = change_entry before k a s.present; gone = gone_after k a s.gone }
