-- Slots of ids that were assigned in order, by pages of 64 ids.
use Rattle.std.specs.Prelude.{◌≡◌, ◌⊎◌, ℕ, ◌+◌, ◌<◌, ◌/◌, ◌%◌, List, get_or, nat_lt, if◌then◌else◌, Option, Some, None}
use Rattle.std.specs.Coded.{Coded-set, coded_option, coded_ℕ, Π_prop}
use Rattle.ir_store_lists.specs.declared.pages.IdPage.{IdPage}

-- a page that counts no id
abbrev pub no_page : IdPage
no_page = record { shift = 0; count = 0; first = 0; second = 0; third = 0 }

-- 1 from a cut on, and 0 before it
abbrev pub step_at : (cut place : ℕ) → ℕ
step_at cut place = if nat_lt place cut then 0 else 1

-- the slot of the id at a position of a page, minus the id: it grows by one at each cut
abbrev pub trailing : IdPage → ℕ → ℕ
trailing page place = page.shift + step_at page.first place + step_at page.second place + step_at page.third place

-- the slot of id x by its page, if x is among the first ids that are counted
abbrev pub slot_at : IdPage → ℕ → Option ℕ
slot_at page x = if nat_lt (x % 64) page.count then Some (x + trailing page (x % 64)) else None

abbrev pub slot_by : List IdPage → ℕ → Option ℕ
slot_by pages x = slot_at (get_or pages (x / 64) no_page) x

-- a page says only that the slot of its first id is the id plus `shift`
abbrev pub StoresFirstOnly : (shift : ℕ) → IdPage → Type 0
StoresFirstOnly shift page = (p : ℕ) → p < page.count → (p ≡ 0) × (trailing page p ≡ shift)

-- a page says only what it said before, and that the slot of the id at this position is the id plus `shift`
abbrev pub Counted : (place shift : ℕ) → (before after : IdPage) → Type 0
Counted place shift before after = (p : ℕ) → p < after.count → ((p < before.count) × (trailing after p ≡ trailing before p)) ⊎ ((p ≡ place) × (trailing after p ≡ shift))

-- the pages say only what they said before, and nothing about this id
abbrev pub Forgotten : ℕ → (before after : List IdPage) → Type 0
Forgotten id before after = (x n : ℕ) → slot_by after x ≡ Some n → (slot_by before x ≡ Some n) × (x ≡ id → ⊥)

-- the pages say only what they said before, and that this id has this slot
abbrev pub Learnt : (id slot : ℕ) → (before after : List IdPage) → Type 0
Learnt id slot before after = (x n : ℕ) → slot_by after x ≡ Some n → (slot_by before x ≡ Some n) ⊎ ((x ≡ id) × (slot ≡ n))

-- every slot of the pages is correct
abbrev pub AreSlots : List IdPage → (ℕ → Option ℕ) → Type 0
AreSlots pages slot = (x n : ℕ) → slot_by pages x ≡ Some n → slot x ≡ Some n

pub AreSlots-prop : (pages : List IdPage) (slot : ℕ → Option ℕ) → IsProp (AreSlots pages slot)
AreSlots-prop pages slot = Π_prop (λ x. Π_prop (λ n. Π_prop (λ h. Coded-set (coded_option coded_ℕ) (slot x) (Some n))))
