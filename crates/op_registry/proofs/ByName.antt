-- The item with a word's name in a list of words is the item at the word's id.
use Rattle.std.proofs.Common.{◌≡◌, ℕ, zero, suc, ◌+◌, ◌<◌, ◌≤◌, Bool, true, false, List, [], ◌∷◌, map, take, drop, slice_get, Some, None, sym, ap, refl, ◌∙◌, arith}
use Rattle.std.specs.Prelude.{◌==◌, ◌-◌, ◌||◌, Option, if◌then◌else◌, is_some, unwrap_or}
use Rattle.std.specs.List.{list_any}
use Rattle.std.specs.Str.{bytes_eq}
use Rattle.std.proofs.lemmas.Bool.Decides.{nat_tests}
use Rattle.ir_types.specs.Words.{operations, keys, visibilities, words, is_listed}
use Rattle.ir_types.specs.Things.{ContextModel}
use Rattle.ir_types.specs.Terms.{name_term}
use Rattle.ir_types.specs.Sound.{IsSound}
use Rattle.ir_types.proofs.WordNumbers.{word_test}
use Rattle.op_registry.specs.Rows.{Row, rows}
use Rattle.op_registry.specs.Registry.{next_to, row_of}
use Rattle.op_registry.specs.declared.property.PropertyKind.{PropertyKind}
use Rattle.op_registry.specs.declared.property.PropertyKind.TheVariants.{Any}
use Rattle.op_registry.specs.Properties.{property_kinds, kind_of}

module _ {A : Type 0} (op : List ℕ) (n : ℕ) where
  -- the tests for the names of a list are tests of the ids from one on
  abbrev AreTests : ℕ → List (List ℕ × A) → Type 0
  AreTests start list = (i : ℕ) (w : List ℕ) → slice_get (map (λ row. row.0) list) i ≡ Some w → bytes_eq op w ≡ (n == start + i)

  tests_after : (start : ℕ) (x : List ℕ × A) (xs : List (List ℕ × A)) → AreTests start (x ∷ xs) → AreTests (start + 1) xs
  tests_after start x xs each i w e = let k : start + suc i ≡ start + 1 + i = omega arith in each (suc i) w e ∙ ap (λ m. n == m) k

  next_to_at : (list : List (List ℕ × A)) (start d : ℕ) → n ≡ start + d → AreTests start list → next_to op list ≡ slice_get (map (λ row. row.1) list) d
  next_to_at [] start zero e each = refl
  next_to_at [] start (suc d) e each = refl
  next_to_at (row ∷ more) start zero e each =
      let here : bytes_eq op row.0 ≡ (n == start + 0) = each 0 row.0 refl in
      let yes : (n == start + 0) ≡ true = grind (arith, nat_tests) in
      rw (here, yes) refl
  next_to_at (row ∷ more) start (suc d) e each =
      let here : bytes_eq op row.0 ≡ (n == start + 0) = each 0 row.0 refl in
      let no_match : (n == start + 0) ≡ false = grind (arith, nat_tests) in
      let next : n ≡ start + 1 + d = omega arith in
      rw (here, no_match) (next_to_at more (start + 1) d next (tests_after start row more each))

  next_to_before : (list : List (List ℕ × A)) (start : ℕ) → n < start → AreTests start list → next_to op list ≡ None
  next_to_before [] start h each = refl
  next_to_before (row ∷ more) start h each =
      let here : bytes_eq op row.0 ≡ (n == start + 0) = each 0 row.0 refl in
      let no_match : (n == start + 0) ≡ false = grind (arith, nat_tests) in
      rw (here, no_match) (next_to_before more (start + 1) (omega arith) (tests_after start row more each))

-- some of the words from an id on
preceding : {X : Type 0} (xs : List X) (m k : ℕ) (x : X) → slice_get (take m xs) k ≡ Some x → slice_get xs k ≡ Some x
preceding [] zero k x e = absurd (cc)
preceding [] (suc m) k x e = absurd (cc)
preceding (y ∷ ys) zero k x e = absurd (cc)
preceding (y ∷ ys) (suc m) zero x e = e
preceding (y ∷ ys) (suc m) (suc k) x e = preceding ys m k x e

dropped : {X : Type 0} (xs : List X) (s k : ℕ) → slice_get (drop s xs) k ≡ slice_get xs (s + k)
dropped xs zero k = ap (slice_get xs) (omega arith)
dropped [] (suc s) zero = refl
dropped [] (suc s) (suc k) = refl
dropped (y ∷ ys) (suc s) k = let e : suc s + k ≡ suc (s + k) = omega arith in dropped ys s k ∙ ap (slice_get (y ∷ ys)) (sym e)

-- the names of a list are words, from an id on
abbrev pub AreWords : {A : Type 0} → ℕ → ℕ → List (List ℕ × A) → Type 0
AreWords {A} start count list = map (λ (row : List ℕ × A). row.0) list ≡ take count (drop start words)

tests : {A : Type 0} (c : ContextModel) (n start count : ℕ) (list : List (List ℕ × A)) → IsSound c → AreWords start count list → AreTests (name_term c n) n start list
tests c n start count list sound are i w e = word_test c n (start + i) w sound (sym (dropped words start i) ∙ preceding (drop start words) count i w (ap (λ l. slice_get l i) (sym are) ∙ e))

pub next_to_word : {A : Type 0} (c : ContextModel) (n start count : ℕ) (list : List (List ℕ × A)) → IsSound c → AreWords start count list → start ≤ n → next_to (name_term c n) list ≡ slice_get (map (λ (row : List ℕ × A). row.1) list) (n - start)
next_to_word c n start count list sound are h = next_to_at (name_term c n) n list start (n - start) (omega arith) (tests c n start count list sound are)

pub next_to_earlier : {A : Type 0} (c : ContextModel) (n start count : ℕ) (list : List (List ℕ × A)) → IsSound c → AreWords start count list → n < start → next_to (name_term c n) list ≡ None
next_to_earlier c n start count list sound are h = next_to_before (name_term c n) n list start h (tests c n start count list sound are)

-- the rows
rows_are : AreWords 0 39 rows
unfolding words operations keys visibilities rows
rows_are = refl

pub row_is : (c : ContextModel) (n : ℕ) → IsSound c → row_of (name_term c n) ≡ slice_get (map (λ (row : List ℕ × Row). row.1) rows) n
unfolding row_of
row_is c n sound =
    let e : n - 0 ≡ n = omega arith in
    next_to_word c n 0 39 rows sound rows_are (omega arith) ∙ ap (slice_get (map (λ (row : List ℕ × Row). row.1) rows)) e

-- the kinds of the keys
kinds_are : AreWords 39 12 property_kinds
unfolding words operations keys visibilities property_kinds
kinds_are = refl

pub kind_is : (c : ContextModel) (n : ℕ) → IsSound c → 39 ≤ n → kind_of (name_term c n) ≡ unwrap_or (slice_get (map (λ (row : List ℕ × PropertyKind). row.1) property_kinds) (n - 39)) Any
unfolding kind_of
kind_is c n sound h = ap (λ k. unwrap_or k Any) (next_to_word c n 39 12 property_kinds sound kinds_are h)

pub kind_of_operation : (c : ContextModel) (n : ℕ) → IsSound c → n < 39 → kind_of (name_term c n) ≡ Any
unfolding kind_of
kind_of_operation c n sound h = ap (λ k. unwrap_or k Any) (next_to_earlier c n 39 12 property_kinds sound kinds_are h)

-- an operation is registered exactly if it has a row
found : {A B : Type 0} (op : List ℕ) (xs : List (List ℕ × A)) (ys : List (List ℕ × B)) → map (λ (row : List ℕ × A). row.0) xs ≡ map (λ (row : List ℕ × B). row.0) ys → list_any (λ (row : List ℕ × A). bytes_eq op row.0) xs ≡ is_some (next_to op ys)
found op [] [] e = refl
found op [] (y ∷ ys) e = absurd (cc)
found op (x ∷ xs) [] e = absurd (cc)
found {A} {B} op (x ∷ xs) (y ∷ ys) e =
    let first : x.0 ≡ y.0 = cc in
    let rest : map (λ (row : List ℕ × A). row.0) xs ≡ map (λ (row : List ℕ × B). row.0) ys = cc in
    rw (first, found op xs ys rest) (by (bytes_eq op y.0) y.1 (next_to op ys))
  where
    by : (t : Bool) (y : B) (more : Option B) → (t || is_some more) ≡ is_some (if t then Some y else more)
    by true y more = refl
    by false y more = refl

names_are : map (λ (row : List ℕ × List (List ℕ)). row.0) operations ≡ map (λ (row : List ℕ × Row). row.0) rows
unfolding operations rows
names_are = refl

pub listed_is : (op : List ℕ) → is_listed op ≡ is_some (row_of op)
unfolding is_listed row_of
listed_is op = found op operations rows names_are
