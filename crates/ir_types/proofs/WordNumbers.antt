-- Each word has its id in every context, so a test of a name's bytes is a test of its id.
use Rattle.std.proofs.Common.{◌≡◌, ℕ, zero, suc, ◌+◌, ◌<◌, ◌≤◌, Bool, true, false, length, List, [], ◌∷◌, ◌++◌, get_or, slice_get, take, Some, map, sym, ap, refl, ◌∙◌, ⊎_elim, arith, ◌≢◌, ltb-true}
use Rattle.std.specs.Prelude.{◌==◌, ◌&&◌, ◌||◌, ◌-◌, nat_lt, nat_le, codes, ◌↔◌, slice_index_or}
use Rattle.std.specs.Cmp.{first_so, second_so}
use Rattle.std.specs.List.{AllPairs, list_any, list_all}
use Rattle.std.specs.Str.{bytes_eq}
use Rattle.std.specs.Cmp.Lexicographic.{nat_list_eq_equiv, bytes_decides}
use Rattle.std.proofs.lemmas.Slice.Eq.{bytes_eq-Decides}
use Rattle.std.proofs.lemmas.Map.Made.{AllPairs-from_IsDistinct, IsDistinct-from_count}
use Rattle.std.proofs.lemmas.List.{take_more, take-append-le, length-take, get_or_past}
use Rattle.std.proofs.lemmas.Option.{get_or_from_slice_get, slice_get_within, slice_get-get_or}
use Rattle.std.proofs.lemmas.Bool.{cases_lt, false_from_ne_true}
use Rattle.std.proofs.Math.Bool.{and-false}
use Rattle.std.proofs.lemmas.Bool.Decides.{nat_tests, same_from_decides, Decides-eqb}
use Rattle.ir_types_interner.specs.Interned.{AreApart, with_last}
use Rattle.ir_types_interner.proofs.Placed.{with_last-found, with_last-absent}
use Rattle.ir_types.specs.Words.{operations, keys, visibilities, words, row_keys, is_listed, is_table, is_isolated, is_inherent, is_listed_number, is_table_number, is_isolated_number, is_inherent_number}
use Rattle.ir_types.specs.Things.{ContextModel}
use Rattle.ir_types.specs.Terms.{name_term}
use Rattle.ir_types.specs.Sound.{Holds, IsSound}
use Rattle.ir_types.proofs.Holding.{enough_names}
use Rattle.ir_types.proofs.Building.{place_stays}

-- each item of a list of distinct items has one index
apart : {A : Type 0} (xs : List A) → AllPairs (λ x y. x ≢ y) xs → (i j : ℕ) (x : A) → slice_get xs i ≡ Some x → slice_get xs j ≡ Some x → i ≡ j
apart xs h i j x e f =
    let a = get_or_from_slice_get xs i x x e in
    let b = get_or_from_slice_get xs j x x f in
    ⊎_elim (λ l. absurd (h i j x l (slice_get_within xs j x f) (a ∙ sym b)))
    (λ l. ⊎_elim (λ m. absurd (h j i x m (slice_get_within xs i x e) (b ∙ sym a))) (λ m. omega arith) (cases_lt j i))
    (cases_lt i j)

pub word_count : length words ≡ 54
unfolding words operations keys visibilities
word_count = refl

pub words_apart : AreApart words
unfolding words operations keys visibilities
words_apart = apart words (AllPairs-from_IsDistinct bytes_decides words (IsDistinct-from_count nat_list_eq_equiv words refl))

-- no word is empty
abbrev has_bytes : List ℕ → Bool
has_bytes [] = false
has_bytes (b ∷ bs) = true

words_have_bytes : list_all has_bytes words ≡ true
unfolding words operations keys visibilities
words_have_bytes = refl

pub all_at : {A : Type 0} (p : A → Bool) (xs : List A) (i : ℕ) (x : A) → list_all p xs ≡ true → slice_get xs i ≡ Some x → p x ≡ true
all_at p [] zero x h e = absurd (cc)
all_at p [] (suc i) x h e = absurd (cc)
all_at p (y ∷ ys) zero x h e = let f : y ≡ x = cc in ap p (sym f) ∙ first_so (p y) (list_all p ys) h
all_at p (y ∷ ys) (suc i) x h e = all_at p ys i x (second_so (p y) (list_all p ys) h) e

preceding : {A : Type 0} (xs : List A) (i k : ℕ) (x : A) → slice_get (take i xs) k ≡ Some x → (k < i) × (slice_get xs k ≡ Some x)
preceding [] zero k x e = absurd (cc)
preceding [] (suc i) k x e = absurd (cc)
preceding (y ∷ ys) zero k x e = absurd (cc)
preceding (y ∷ ys) (suc i) zero x e = (omega arith, e)
preceding (y ∷ ys) (suc i) (suc k) x e = let r = preceding ys i k x e in (omega (arith, r.0), r.1)

-- a context has each word at its id
pub word_at_number : (c : ContextModel) (w : ℕ) (bytes : List ℕ) → Holds c → slice_get words w ≡ Some bytes → slice_get c.names w ≡ Some bytes
word_at_number c w bytes holds is = (preceding c.names 54 w bytes (ap (λ l. slice_get l w) holds.words_first ∙ is)).1

-- and at no other id
pub word_law : (c : ContextModel) (n w : ℕ) (bytes : List ℕ) → IsSound c → slice_get words w ≡ Some bytes → ((n < length c.names) × (name_term c n ≡ bytes)) ↔ (n ≡ w)
word_law c n w bytes sound is =
    let at : slice_get c.names w ≡ Some bytes = word_at_number c w bytes sound.holds is in (
      λ h. sound.names_apart n w bytes (slice_get-get_or c.names n [] h.0 ∙ ap Some h.1) at,
      λ e. let there : slice_get c.names n ≡ Some bytes = ap (slice_get c.names) e ∙ at in
          (slice_get_within c.names n bytes there, get_or_from_slice_get c.names n bytes [] there),
    )

-- so the test that a name's bytes are a word is the test of its id
pub word_test : (c : ContextModel) (n w : ℕ) (bytes : List ℕ) → IsSound c → slice_get words w ≡ Some bytes → bytes_eq (name_term c n) bytes ≡ (n == w)
word_test c n w bytes sound is =
    same_from_decides {P = n ≡ w} (bytes_eq (name_term c n) bytes) (n == w) (
      λ h. ⊎_elim
          (λ (l : n < length c.names). (word_law c n w bytes sound is).0 (l, (bytes_eq-Decides (name_term c n) bytes).0 h))
          (λ (l : length c.names ≤ n). absurd (no_bytes (sym (get_or_past c.names n [] l) ∙ (bytes_eq-Decides (name_term c n) bytes).0 h) (all_at has_bytes words w bytes words_have_bytes is)))
          (cases_lt n (length c.names)),
      λ e. (bytes_eq-Decides (name_term c n) bytes).1 ((word_law c n w bytes sound is).1 e).1,
    )
    (Decides-eqb n w)
  where
    no_bytes : [] ≡ bytes → has_bytes bytes ≡ true → ⊥
    no_bytes e h = let f : false ≡ true = ap has_bytes e ∙ h in absurd (cc f)

module _ (b : List ℕ) (n : ℕ) where
  -- the tests for the words from one id on are tests of the id
  abbrev AreTests : ℕ → List (List ℕ) → Type 0
  AreTests start names = (i : ℕ) (w : List ℕ) → slice_get names i ≡ Some w → bytes_eq b w ≡ (n == start + i)

  tests_after : (start : ℕ) (x : List ℕ) (xs : List (List ℕ)) → AreTests start (x ∷ xs) → AreTests (start + 1) xs
  tests_after start x xs each i w e = let k : start + suc i ≡ start + 1 + i = omega arith in each (suc i) w e ∙ ap (λ m. n == m) k

  listed_from : (rows : List (List ℕ × List (List ℕ))) (start : ℕ) → AreTests start (map (λ row. row.0) rows) → list_any (λ row. bytes_eq b row.0) rows ≡ (nat_le start n && nat_lt n (start + length rows))
  listed_from [] start each = grind (arith, nat_tests)
  listed_from (r ∷ rs) start each =
      let here : bytes_eq b r.0 ≡ (n == start + 0) = each 0 r.0 refl in
      let rest : list_any (λ row. bytes_eq b row.0) rs ≡ (nat_le (start + 1) n && nat_lt n (start + 1 + length rs)) = listed_from rs (start + 1) (tests_after start r.0 (map (λ row. row.0) rs) each) in
      rw (here, rest) (grind (arith, nat_tests))

  module _ (key : List ℕ) (k : ℕ) where
    one_more : (p : List ℕ → Bool) (ks : List ℕ) (kss : List (List ℕ)) (start d : ℕ) → d ≡ n - start → (((n == start + 0) && p ks) || (nat_le (start + 1) n && p (get_or kss (n - (start + 1)) []))) ≡ (nat_le start n && p (get_or (ks ∷ kss) d []))
    one_more p ks kss start zero e = grind (arith, nat_tests)
    one_more p ks kss start (suc d) e =
        let next : n - (start + 1) ≡ d = omega arith in
        let more : start + 1 ≤ n = omega arith in
        rw next (grind (arith, nat_tests))

    inherent_from : (rows : List (List ℕ × List (List ℕ))) (kss : List (List ℕ)) (start : ℕ)
        → AreTests start (map (λ row. row.0) rows)
        → map (λ (row : List ℕ × List (List ℕ)). list_any (bytes_eq key) row.1) rows ≡ map (list_any (λ j. j == k)) kss
        → list_any (λ row. bytes_eq b row.0 && list_any (bytes_eq key) row.1) rows ≡ (nat_le start n && list_any (λ j. j == k) (get_or kss (n - start) []))
    inherent_from [] [] start each same = sym (and-false (nat_le start n))
    inherent_from [] (ks ∷ kss) start each same = absurd (cc)
    inherent_from (r ∷ rs) [] start each same = absurd (cc)
    inherent_from (r ∷ rs) (ks ∷ kss) start each same =
        let here : bytes_eq b r.0 ≡ (n == start + 0) = each 0 r.0 refl in
        let this : list_any (bytes_eq key) r.1 ≡ list_any (λ j. j == k) ks = cc in
        let others : map (λ (row : List ℕ × List (List ℕ)). list_any (bytes_eq key) row.1) rs ≡ map (list_any (λ j. j == k)) kss = cc in
        let rest = inherent_from rs kss (start + 1) (tests_after start r.0 (map (λ row. row.0) rs) each) others in
        rw (here, this, rest) (one_more (list_any (λ j. j == k)) ks kss start (n - start) refl)

operation_at : (i : ℕ) (w : List ℕ) → slice_get (map (λ (row : List ℕ × List (List ℕ)). row.0) operations) i ≡ Some w → slice_get words i ≡ Some w
unfolding words operations keys visibilities
operation_at i w e = place_stays (map (λ (row : List ℕ × List (List ℕ)). row.0) operations) (keys ++ visibilities) i w e

operation_tests : (c : ContextModel) (n : ℕ) → IsSound c → (i : ℕ) (w : List ℕ) → slice_get (map (λ (row : List ℕ × List (List ℕ)). row.0) operations) i ≡ Some w → bytes_eq (name_term c n) w ≡ (n == 0 + i)
operation_tests c n sound i w e = let k : i ≡ 0 + i = omega arith in word_test c n i w sound (operation_at i w e) ∙ ap (λ m. n == m) k

operation_count : length operations ≡ 39
unfolding operations
operation_count = refl

pub listed_is : (c : ContextModel) (n : ℕ) → IsSound c → is_listed (name_term c n) ≡ is_listed_number n
unfolding is_listed
listed_is c n sound =
    listed_from (name_term c n) n operations 0 (operation_tests c n sound) ∙ rw operation_count (grind (arith, nat_tests))

word_0 : slice_get words 0 ≡ Some (codes "builtin.module")
unfolding words operations keys visibilities
word_0 = refl

word_2 : slice_get words 2 ≡ Some (codes "func.func")
unfolding words operations keys visibilities
word_2 = refl

pub table_is : (c : ContextModel) (n : ℕ) → IsSound c → is_table (name_term c n) ≡ is_table_number n
unfolding is_table
table_is c n sound = word_test c n 0 (codes "builtin.module") sound word_0

pub isolated_is : (c : ContextModel) (n : ℕ) → IsSound c → is_isolated (name_term c n) ≡ is_isolated_number n
unfolding is_isolated
isolated_is c n sound = rw (word_test c n 0 (codes "builtin.module") sound word_0, word_test c n 2 (codes "func.func") sound word_2) refl

abbrev word_of : ℕ → List ℕ
word_of j = slice_index_or words j []

pub rows_by_number : map (map word_of) row_keys ≡ map (λ (row : List ℕ × List (List ℕ)). row.1) operations
unfolding words operations keys visibilities row_keys
rows_by_number = refl

few_keys : list_all (list_all (λ j. nat_lt j 54)) row_keys ≡ true
unfolding row_keys
few_keys = refl

module _ (key : List ℕ) (k : ℕ) (each : (j : ℕ) → nat_lt j 54 ≡ true → bytes_eq key (word_of j) ≡ (j == k)) where
  key_row : (js : List ℕ) → list_all (λ j. nat_lt j 54) js ≡ true → list_any (bytes_eq key) (map word_of js) ≡ list_any (λ j. j == k) js
  key_row [] h = refl
  key_row (j ∷ js) h = rw (each j (first_so (nat_lt j 54) (list_all (λ j. nat_lt j 54) js) h), key_row js (second_so (nat_lt j 54) (list_all (λ j. nat_lt j 54) js) h)) refl

  key_rows : (kss : List (List ℕ)) → list_all (list_all (λ j. nat_lt j 54)) kss ≡ true → map (list_any (bytes_eq key)) (map (map word_of) kss) ≡ map (list_any (λ j. j == k)) kss
  key_rows [] h = refl
  key_rows (ks ∷ kss) h = rw (key_row ks (first_so (list_all (λ j. nat_lt j 54) ks) (list_all (list_all (λ j. nat_lt j 54)) kss) h), key_rows kss (second_so (list_all (λ j. nat_lt j 54) ks) (list_all (list_all (λ j. nat_lt j 54)) kss) h)) refl

map_second : (p : List (List ℕ) → Bool) (rows : List (List ℕ × List (List ℕ))) → map (λ (row : List ℕ × List (List ℕ)). p row.1) rows ≡ map p (map (λ (row : List ℕ × List (List ℕ)). row.1) rows)
map_second p [] = refl
map_second p (r ∷ rs) = ap (λ l. p r.1 ∷ l) (map_second p rs)

key_tests : (c : ContextModel) (k : ℕ) → IsSound c → (j : ℕ) → nat_lt j 54 ≡ true → bytes_eq (name_term c k) (word_of j) ≡ (j == k)
key_tests c k sound j h =
    let l : j < length words = rw word_count (omega (arith, ltb-true j 54 h)) in
    word_test c k j (word_of j) sound (slice_get-get_or words j [] l) ∙ grind (arith, nat_tests)

pub inherent_is : (c : ContextModel) (op key : ℕ) → IsSound c → is_inherent (name_term c op) (name_term c key) ≡ is_inherent_number op key
unfolding is_inherent is_inherent_number
inherent_is c op key sound =
    inherent_from (name_term c op) op (name_term c key) key operations row_keys 0 (operation_tests c op sound)
    (map_second (list_any (bytes_eq (name_term c key))) operations ∙ ap (map (list_any (bytes_eq (name_term c key)))) (sym rows_by_number) ∙ key_rows (name_term c key) key (key_tests c key sound) row_keys few_keys)
    ∙ whole (op - 0) (omega arith)
  where
    whole : (d : ℕ) → d ≡ op → (nat_le 0 op && list_any (λ j. j == key) (get_or row_keys d [])) ≡ list_any (λ j. j == key) (slice_index_or row_keys op [])
    whole d e = rw e (grind (arith, nat_tests))

-- the words are added one after the other
absent_from : (b : List ℕ) (xs : List (List ℕ)) → ((k : ℕ) (x : List ℕ) → slice_get xs k ≡ Some x → bytes_eq b x ≡ false) → list_any (bytes_eq b) xs ≡ false
absent_from b [] each = refl
absent_from b (x ∷ xs) each = rw (each 0 x refl, absent_from b xs (λ k y e. each (suc k) y e)) refl

pub next_word : (i : ℕ) (bytes : List ℕ) (names : List (List ℕ)) → names ≡ take i words → slice_get words i ≡ Some bytes → with_last (bytes_eq bytes) bytes names ≡ take (i + 1) words
next_word i bytes names before at =
    let new : list_any (bytes_eq bytes) (take i words) ≡ false = absent_from bytes (take i words) (λ k x e. false_from_ne_true (bytes_eq bytes x) (λ h.
    let f = preceding words i k x e in
    let same : k ≡ i = words_apart k i bytes (f.1 ∙ ap Some (sym ((bytes_eq-Decides bytes x).0 h))) at in
    absurd (omega (arith, f.0)))) in
    ap (with_last (bytes_eq bytes) bytes) before
    ∙ with_last-absent (bytes_eq bytes) bytes (take i words) new
    ∙ ap (λ x. take i words ++ x ∷ []) (sym (get_or_from_slice_get words i bytes bytes at))
    ∙ sym (take_more words i bytes (slice_get_within words i bytes at))

pub all_words : take 54 words ≡ words
unfolding words operations keys visibilities
all_words = refl

-- after 54 words all are in the context
pub first_words : (names : List (List ℕ)) (i : ℕ) → i ≡ 54 → names ≡ take i words → (names ≡ words) × (take 54 names ≡ words)
first_words names i e before =
    let all : names ≡ words = before ∙ ap (λ k. take k words) e ∙ all_words in
    (all, ap (take 54) all ∙ all_words)

-- and they stay first
pub words_stay : (names more : List (List ℕ)) → take 54 names ≡ words → take 54 (names ++ more) ≡ words
words_stay names more e = take-append-le 54 names more (enough_names names e) ∙ e

pub words_stay_first : (bytes : List ℕ) (names : List (List ℕ)) → take 54 names ≡ words → take 54 (with_last (bytes_eq bytes) bytes names) ≡ words
words_stay_first bytes names e = by (list_any (bytes_eq bytes) names) refl
  where
    by : (t : Bool) → list_any (bytes_eq bytes) names ≡ t → take 54 (with_last (bytes_eq bytes) bytes names) ≡ words
    by true h = ap (take 54) (with_last-found (bytes_eq bytes) bytes names h) ∙ e
    by false h = ap (take 54) (with_last-absent (bytes_eq bytes) bytes names h) ∙ words_stay names (bytes ∷ []) e

row_count : length row_keys ≡ 39
unfolding row_keys
row_count = refl

-- an operation that isn't registered has no row
pub no_row : (op key : ℕ) → 39 ≤ op → is_inherent_number op key ≡ false
unfolding is_inherent_number
no_row op key h = let l : length row_keys ≤ op = rw row_count h in rw (get_or_past row_keys op [] l) refl
