-- The first entry that is refused, by a walk over the entries.
use Rattle.std.proofs.Common.{◌≡◌, ◌∙◌, ap, sym, refl, ℕ, zero, suc, ◌+◌, ◌-◌, ◌≤◌, ◌<◌, List, [], ◌∷◌, ◌++◌, length, take, drop, get_or, Option, Some, None, arith}
use Rattle.ir_event.specs.types.Things.{ContextModel}
use Rattle.ir_event.specs.types.declared.refusal.Refusal.{Refusal}
use Rattle.ir_text_operations.specs.attributes.AttrReading.{Entries}
use Rattle.ir_text_operations.specs.Entries.{staying}
use Rattle.ir_text_operations.specs.EntryReading.{is_property_in}
use Rattle.mlir_work_c_read.specs.Headers.{entries_fault, entry_fault, first_of}
use Rattle.mlir_work_c_read.proofs.Joining.{rest_at, rest_length}

-- the first items and the others, one item later
split_at : {A : Type 0} (xs : List A) (count : ℕ) (x : A) (tail : List A) → drop count xs ≡ x ∷ tail → (take (suc count) xs ≡ take count xs ++ x ∷ []) × (drop (suc count) xs ≡ tail)
split_at [] zero x tail e = absurd cc
split_at [] (suc n) x tail e = absurd cc
split_at (y ∷ ys) zero x tail e = (ap (take 1) e, ap (drop 1) e)
split_at (y ∷ ys) (suc n) x tail e =
    let after = split_at ys n x tail e in
    (ap (λ l. y ∷ l) after.0, after.1)

nothing_left : {A : Type 0} (xs : List A) → length xs < 1 → xs ≡ []
nothing_left [] l = refl
nothing_left (x ∷ xs) l = absurd (omega (arith, l))

module _ (c : ContextModel) (op : Option ℕ) (ps : Entries) where
  -- the entries of `rest` follow the first `count` ones, none of which is refused
  pub record Walked (es rest : Entries) (count : ℕ) : Type 0 where
    pub rest_is : rest ≡ drop count es
    pub size : count + length rest ≡ length es
    pub reported : entries_fault c op ps (take count es) rest ≡ entries_fault c op ps [] es

  module _ (es rest : Entries) (count : ℕ) (x d : ℕ × ℕ) (l : 1 ≤ length rest) (z : x ≡ get_or rest 0 d) (h : Walked es rest count) where
    rest_splits : rest ≡ x ∷ take (length rest - 1) (drop 1 rest)
    rest_splits = rest_at rest x d l z

    pub walk_on : None ≡ entry_fault c op ps x.0 (take count es) → Walked es (take (length rest - 1) (drop 1 rest)) (count + 1)
    walk_on none =
        let parts = split_at es count x (take (length rest - 1) (drop 1 rest)) (sym h.rest_is ∙ rest_splits) in
        let one : count + 1 ≡ suc count = omega arith in
        let many = rest_length rest l in
        let sum = h.size in
        record {
          rest_is = sym parts.1 ∙ ap (λ n. drop n es) (sym one);
          size = omega (arith, sum, many);
          reported =
              ap (λ n. entries_fault c op ps (take n es) (take (length rest - 1) (drop 1 rest))) one
              ∙ ap (λ b. entries_fault c op ps b (take (length rest - 1) (drop 1 rest))) parts.0
              ∙ ap (λ f. first_of f (entries_fault c op ps (take count es ++ x ∷ []) (take (length rest - 1) (drop 1 rest)))) none
              ∙ ap (entries_fault c op ps (take count es)) (sym rest_splits) ∙ h.reported;
        }

    pub walk_stops : (refusal : Refusal) → Some refusal ≡ entry_fault c op ps x.0 (take count es) → Some refusal ≡ entries_fault c op ps [] es
    walk_stops refusal found =
        ap (λ f. first_of f (entries_fault c op ps (take count es ++ x ∷ []) (take (length rest - 1) (drop 1 rest)))) found
        ∙ ap (entries_fault c op ps (take count es)) (sym rest_splits) ∙ h.reported

  pub walk_ends : (es rest : Entries) (count : ℕ) → length rest < 1 → Walked es rest count → None ≡ entries_fault c op ps [] es
  walk_ends es rest count l h = ap (entries_fault c op ps (take count es)) (sym (nothing_left rest l)) ∙ h.reported

-- without a name no entry is a property
pub all_stay : (c : ContextModel) (es : Entries) → staying (is_property_in c None) es ≡ es
all_stay c [] = refl
all_stay c (e ∷ es) = ap (λ l. e ∷ l) (all_stay c es)
