-- Sets of names to which the names of operations are added.
use Rattle.std.proofs.Common.{◌≡◌, refl, ap, sym, ◌∙◌, ℕ, Bool, true, false, cond, ◌||◌, eqb, List, [], ◌∷◌, ◌++◌, Option}
use Rattle.std.specs.Ordering.{nat_cmp}
use Rattle.std.specs.BTreeSet.{BTreeSet, contains}
use Rattle.std.specs.BTreeSet as set
use Rattle.ir_event.proofs.of_types.Truths.{same_test}
use Rattle.ir_event.proofs.of_types.Sorting.{flips_eq}
use Rattle.listeners_symbols.specs.declared.role.Role.{Role as Numbers}
use Rattle.listeners_symbols.specs.Symbols.{is_among}
use Rattle.listeners_symbols.specs.Lines.{undefined_by}
use Rattle.listeners_symbols.specs.Telling.{contributions, contribution_at}

or_false : (b : Bool) → (b || false) ≡ b
or_false true = refl
or_false false = refl

or_assoc : (a b c : Bool) → ((a || b) || c) ≡ (a || (b || c))
or_assoc true b c = refl
or_assoc false b c = refl

-- one more name, or none
pub none_more : (s : BTreeSet ℕ) (n : ℕ) → contains nat_cmp s n ≡ (contains nat_cmp s n || is_among eqb [] n)
none_more s n = sym (or_false (contains nat_cmp s n))

pub one_more : (k : ℕ) (s t : BTreeSet ℕ) → set.Updates nat_cmp s t k true → (n : ℕ) → contains nat_cmp t n ≡ (contains nat_cmp s n || is_among eqb (k ∷ []) n)
one_more k s t u n =
    u.0 n ∙ ap (λ b. cond b true (contains nat_cmp s n)) (same_test k n ∙ flips_eq k n) ∙ go (eqb n k) (contains nat_cmp s n)
  where
    go : (b has : Bool) → cond b true has ≡ (has || (b || false))
    go true true = refl
    go true false = refl
    go false true = refl
    go false false = refl

among_append : (xs ys : List ℕ) (n : ℕ) → is_among eqb (xs ++ ys) n ≡ (is_among eqb xs n || is_among eqb ys n)
among_append [] ys n = refl
among_append (x ∷ xs) ys n = ap (λ b. eqb n x || b) (among_append xs ys n) ∙ sym (or_assoc (eqb n x) (is_among eqb xs n) (is_among eqb ys n))

-- the names of the remaining operations, with one less remaining
pub one_named : (kept : ℕ → Option Numbers) (x : ℕ) (xs all : List ℕ) (before after : BTreeSet ℕ) (whole : ℕ → Bool) → x ∷ xs ≡ all
    → ((n : ℕ) → contains nat_cmp after n ≡ (contains nat_cmp before n || is_among eqb (contribution_at undefined_by x (kept x)) n))
    → ((n : ℕ) → (contains nat_cmp before n || is_among eqb (contributions undefined_by kept all) n) ≡ whole n)
    → (n : ℕ) → (contains nat_cmp after n || is_among eqb (contributions undefined_by kept xs) n) ≡ whole n
one_named kept x xs all before after whole next one so_far n =
    ap (λ b. b || is_among eqb (contributions undefined_by kept xs) n) (one n)
    ∙ or_assoc (contains nat_cmp before n) (is_among eqb (contribution_at undefined_by x (kept x)) n) (is_among eqb (contributions undefined_by kept xs) n)
    ∙ ap (λ b. contains nat_cmp before n || b) (sym (among_append (contribution_at undefined_by x (kept x)) (contributions undefined_by kept xs) n))
    ∙ ap (λ l. contains nat_cmp before n || is_among eqb (contributions undefined_by kept l) n) next
    ∙ so_far n

pub none_named : (kept : ℕ → Option Numbers) (left : List ℕ) (s : BTreeSet ℕ) (whole : ℕ → Bool) → left ≡ []
    → ((n : ℕ) → (contains nat_cmp s n || is_among eqb (contributions undefined_by kept left) n) ≡ whole n) → (n : ℕ) → contains nat_cmp s n ≡ whole n
none_named kept left s whole none so_far n =
    sym (or_false (contains nat_cmp s n)) ∙ ap (λ l. contains nat_cmp s n || is_among eqb (contributions undefined_by kept l) n) (sym none) ∙ so_far n
