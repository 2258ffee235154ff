-- Sets that have each operation that passes a test, when the role of one operation changes.
use Rattle.std.proofs.Common.{◌≡◌, refl, ap, sym, ◌∙◌, subst, ◌⊎◌, inl, inr, ℕ, Bool, true, false, cond, true≢false, eqb, eqb-true, List, [], Option, Some, None}
use Rattle.std.specs.List.{list_any}
use Rattle.std.specs.Map.{lookup}
use Rattle.std.specs.Ordering.{nat_cmp, is_eq}
use Rattle.std.specs.BTreeMap.{is_at}
use Rattle.listeners_support.specs.Map.{IdMap}
use Rattle.listeners_support.specs.Map as idmap
use Rattle.std.specs.BTreeSet.{BTreeSet, contains}
use Rattle.std.specs.BTreeSet as set
use Rattle.ir_event.proofs.of_tree_laws.Listed.{bool_cases}
use Rattle.ir_event.proofs.of_types.Truths.{same_test}
use Rattle.listeners_symbols.specs.declared.role.Role.{Role as Numbers}
use Rattle.listeners_symbols.specs.Telling.{HasThose, said_at}

-- every set is large enough for an empty table
pub none_those : (test : Numbers → Bool) (m : IdMap Numbers) (s : BTreeSet ℕ) → m.entries ≡ [] → HasThose test m s
none_those test m s e x h = absurd (true≢false (sym h ∙ ap (λ (es : List (ℕ × Numbers)). said_at test (lookup (is_at (nat_cmp x)) es)) e))

-- a larger set is large enough
pub more_those : (test : Numbers → Bool) (m : IdMap Numbers) (s t : BTreeSet ℕ) → HasThose test m s → ((x : ℕ) → contains nat_cmp s x ≡ true → contains nat_cmp t x ≡ true) → HasThose test m t
more_those test m s t has more x h = more x (has x h)

pub same_those : (test : Numbers → Bool) (m n : IdMap Numbers) (s : BTreeSet ℕ) → n.entries ≡ m.entries → HasThose test m s → HasThose test n s
same_those test m n s e has x h = has x (ap (λ (es : List (ℕ × Numbers)). said_at test (lookup (is_at (nat_cmp x)) es)) (sym e) ∙ h)

-- if the role of operation k becomes o, a set is large enough that has k if o passes the test, and keeps its others
pub new_those : (test : Numbers → Bool) (m n : IdMap Numbers) (s t : BTreeSet ℕ) (k : ℕ) (o : Option Numbers) → HasThose test m s → idmap.Updates m n k o
    → (said_at test o ≡ true → contains nat_cmp t k ≡ true) → ((x : ℕ) → eqb k x ≡ false → contains nat_cmp s x ≡ true → contains nat_cmp t x ≡ true) → HasThose test n t
new_those test m n s t k o has updates own others x h = go (bool_cases (is_eq (nat_cmp k x)))
  where
    go : (is_eq (nat_cmp k x) ≡ true) ⊎ (is_eq (nat_cmp k x) ≡ false) → contains nat_cmp t x ≡ true
    go (inl e) =
        subst (λ y. contains nat_cmp t y ≡ true) (eqb-true k x (sym (same_test k x) ∙ e))
        (own (ap (λ b. said_at test (cond b o (idmap.get m x))) (sym e) ∙ ap (said_at test) (sym (updates x)) ∙ h))
    go (inr e) = others x (sym (same_test k x) ∙ e) (has x (ap (λ b. said_at test (cond b o (idmap.get m x))) (sym e) ∙ ap (said_at test) (sym (updates x)) ∙ h))

-- ---- sets
pub added_stays : (k : ℕ) (s t : BTreeSet ℕ) → set.Updates nat_cmp s t k true → (x : ℕ) → contains nat_cmp s x ≡ true → contains nat_cmp t x ≡ true
added_stays k s t u x h = u.0 x ∙ ap (cond (is_eq (nat_cmp k x)) true) h ∙ go (is_eq (nat_cmp k x))
  where
    go : (b : Bool) → cond b true true ≡ true
    go true = refl
    go false = refl

pub same_has : (s t : BTreeSet ℕ) → t.keys ≡ s.keys → (x : ℕ) → contains nat_cmp s x ≡ true → contains nat_cmp t x ≡ true
same_has s t e x h = ap (list_any (is_at (nat_cmp x))) e ∙ h

pub others_stay : (k : ℕ) (s t : BTreeSet ℕ) → set.Updates nat_cmp s t k false → (x : ℕ) → eqb k x ≡ false → contains nat_cmp s x ≡ true → contains nat_cmp t x ≡ true
others_stay k s t u x far h = u.0 x ∙ ap (λ b. cond b false (contains nat_cmp s x)) (same_test k x ∙ far) ∙ h
