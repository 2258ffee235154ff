-- The names of a rule list, one by one.
use Rattle.std.proofs.Common.{◌≡◌, ◌∙◌, refl, ap, sym, ℕ, zero, suc, ◌+◌, ◌-◌, ◌<◌, ◌≤◌, Bool, true, false, List, [], ◌∷◌, ◌++◌, append-nil, append_assoc, arith, ◌&&◌, if◌then◌else◌, Option, Some, None}
use Rattle.std.specs.Prelude.{codes, nat_le, option_and_then}
use Rattle.std.specs.Char.{is_ascii_digit}
use Rattle.std.specs.Str.{bytes_eq}
use Rattle.ir_event.proofs.of_types.Growth.{name_is}
use Rattle.rewriter_machine.specs.Commands.{RuleName, Numbered, Worded}
use Rattle.mlir_work_script_base.specs.Numbers.{number_of}
use Rattle.mlir_work_script_base.specs.RuleNames.{name_or_none, numbered, rule_in}
use Rattle.mlir_work_script.specs.RuleLists.{canonical_numbers, each_opened, is_canon, names_in, names_of_items, names_or, numbers_from, numbers_of, opened, range_in}

-- ---- ranges

step_of : (n k : ℕ) → 1 ≤ k → numbers_from n k ≡ Numbered n ∷ numbers_from (n + 1) (k - 1)
unfolding numbers_from
step_of n zero h = absurd (omega (arith, h))
step_of n (suc k) h = let same : k ≡ suc k - 1 = omega arith in ap (λ j. Numbered n ∷ numbers_from (n + 1) j) same

-- a range that hasn't ended has its next number
pub numbers_step : (n end : ℕ) → n < end → numbers_from n (end - n) ≡ Numbered n ∷ numbers_from (n + 1) (end - (n + 1))
numbers_step n end h =
    let left : (end - n) - 1 ≡ end - (n + 1) = omega (arith, h) in
    step_of n (end - n) (omega (arith, h)) ∙ ap (λ k. Numbered n ∷ numbers_from (n + 1) k) left

pub numbers_end : (n end : ℕ) → end ≤ n → numbers_from n (end - n) ≡ []
unfolding numbers_from
numbers_end n end h = let none : end - n ≡ 0 = omega (arith, h) in ap (numbers_from n) none

-- ---- the word `canon`

each_append : (xs ys : List RuleName) → each_opened (xs ++ ys) ≡ each_opened xs ++ each_opened ys
each_append [] ys = refl
each_append (x ∷ xs) ys =
    let first = if is_canon x then canonical_numbers else x ∷ [] in
    ap (λ ns. first ++ ns) (each_append xs ys) ∙ sym (append_assoc first (each_opened xs) (each_opened ys))

pub opened_append : (own : Bool) (xs ys : List RuleName) → opened own (xs ++ ys) ≡ opened own xs ++ opened own ys
opened_append true xs ys = refl
opened_append false xs ys = each_append xs ys

each_numbers : (n k : ℕ) → each_opened (numbers_from n k) ≡ numbers_from n k
unfolding numbers_from
each_numbers n zero = refl
each_numbers n (suc k) = ap (λ ns. Numbered n ∷ ns) (each_numbers (n + 1) k)

pub opened_numbers : (own : Bool) (n k : ℕ) → opened own (numbers_from n k) ≡ numbers_from n k
opened_numbers true n k = refl
opened_numbers false n k = each_numbers n k

pub opened_none : (own : Bool) → opened own [] ≡ []
opened_none true = refl
opened_none false = refl

-- ---- items

-- the first item of a list after a range that has ended
pub item_left : (own : Bool) (n end : ℕ) (items left : List (List ℕ)) (item : List ℕ) (first : List RuleName) → end ≤ n → items ≡ item ∷ left → opened own (names_in item) ≡ first
    → numbers_from n (end - n) ++ opened own (names_of_items items) ≡ first ++ opened own (names_of_items left)
item_left own n end items left item first l is h =
    ap (λ ns. ns ++ opened own (names_of_items items)) (numbers_end n end l)
    ∙ ap (λ (xs : List (List ℕ)). opened own (names_of_items xs)) is
    ∙ opened_append own (names_in item) (names_of_items left)
    ∙ ap (λ ns. ns ++ opened own (names_of_items left)) h

-- an item that is a range
pub range_left : (own : Bool) (n end : ℕ) (items left : List (List ℕ)) (item : List ℕ) (a b : ℕ) → end ≤ n → items ≡ item ∷ left → opened own (names_in item) ≡ numbers_of (a, b) → a ≤ b
    → numbers_from n (end - n) ++ opened own (names_of_items items) ≡ Numbered a ∷ (numbers_from (a + 1) ((b + 1) - (a + 1)) ++ opened own (names_of_items left))
range_left own n end items left item a b l is h le =
    item_left own n end items left item (numbers_of (a, b)) l is h
    ∙ ap (λ ns. ns ++ opened own (names_of_items left)) (numbers_step a (b + 1) (omega (arith, le)))

-- an item that is a name
pub name_left : (own : Bool) (n end : ℕ) (items left : List (List ℕ)) (item : List ℕ) (name : RuleName) → end ≤ n → items ≡ item ∷ left → opened own (names_in item) ≡ name_or_none (rule_in item) ∷ [] → name ≡ name_or_none (rule_in item)
    → numbers_from n (end - n) ++ opened own (names_of_items items) ≡ name ∷ (numbers_from n (end - n) ++ opened own (names_of_items left))
name_left own n end items left item name l is h named =
    item_left own n end items left item (name_or_none (rule_in item) ∷ []) l is h
    ∙ (λ i. sym named i ∷ (sym (numbers_end n end l) i ++ opened own (names_of_items left)))

-- no item is left
pub none_left : (own : Bool) (n end : ℕ) → end ≤ n → numbers_from n (end - n) ++ opened own [] ≡ []
none_left own n end l = ap (λ ns. ns ++ opened own []) (numbers_end n end l) ∙ opened_none own

-- ---- the names of an item

canon_numbers : each_opened (names_in (codes "canon")) ≡ numbers_of (1, 24)
canon_numbers = append-nil canonical_numbers

pub canon_item : (item : List ℕ) → bytes_eq item (codes "canon") ≡ true → opened false (names_in item) ≡ numbers_of (1, 24)
canon_item item e = ap (λ (xs : List ℕ). each_opened (names_in xs)) (name_is item (codes "canon") e) ∙ canon_numbers

number_is_no_canon : (o : Option ℕ) → is_canon (name_or_none (option_and_then numbered o)) ≡ false
number_is_no_canon None = refl
number_is_no_canon (Some n) = go (nat_le 1 n && nat_le n 30)
  where
    go : (b : Bool) → is_canon (name_or_none (if b then Some (Numbered n) else None)) ≡ false
    go true = refl
    go false = refl

pub other_is_no_canon : (item : List ℕ) → bytes_eq item (codes "canon") ≡ false → is_canon (name_or_none (rule_in item)) ≡ false
other_is_no_canon [] e = refl
other_is_no_canon (b ∷ bs) e = go (is_ascii_digit b)
  where
    go : (d : Bool) → is_canon (name_or_none (if d then option_and_then numbered (number_of (b ∷ bs)) else Some (Worded (b ∷ bs)))) ≡ false
    go true = number_is_no_canon (number_of (b ∷ bs))
    go false = e

each_same : (o : Option (ℕ × ℕ)) (item : List ℕ) → is_canon (name_or_none (rule_in item)) ≡ false → each_opened (names_or o item) ≡ names_or o item
each_same None item e = ap (λ (b : Bool). (if b then canonical_numbers else name_or_none (rule_in item) ∷ []) ++ []) e
each_same (Some r) item e = each_numbers r.0 ((r.1 + 1) - r.0)

-- an item other than `canon`
pub other_item : (o : Option (ℕ × ℕ)) (item : List ℕ) → bytes_eq item (codes "canon") ≡ false → o ≡ range_in item → opened false (names_in item) ≡ names_or o item
other_item o item e is = each_same (range_in item) item (other_is_no_canon item e) ∙ ap (λ (p : Option (ℕ × ℕ)). names_or p item) (sym is)

-- each item, if a pattern is named `canon`
pub any_item : (o : Option (ℕ × ℕ)) (item : List ℕ) → o ≡ range_in item → opened true (names_in item) ≡ names_or o item
any_item o item is = ap (λ (p : Option (ℕ × ℕ)). names_or p item) (sym is)
