-- Insertion of entries into a sorted list, by indexes.
use Rattle.std.specs.Prelude.{not}
use Rattle.std.specs.List.{prefix_len}
use Rattle.std.proofs.Common.{◌≡◌, ◌≤◌, ℕ, refl, ap, subst, suc, ◌+◌, arith, Bool, true, false, List, [], ◌∷◌, ◌++◌, length, take, drop}
use Rattle.ir_types.specs.Things.{ContextModel}
use Rattle.ir_text_attributes.specs.Keyed.{insert_sorted, insert_entries}
use Rattle.ir_text_attributes.specs.AttrReading.{Entries}
use Rattle.ir_text_operations.specs.Openings.{AreDictionaries}

module _ {K A : Type 0} (before : K → K → Bool) where
  -- an entry is inserted after the entries whose keys are not greater
  pub put_at : (e : K × A) (es : List (K × A)) → insert_sorted before e es ≡ take (prefix_len (λ f. not (before e.0 f.0)) es) es ++ e ∷ drop (prefix_len (λ f. not (before e.0 f.0)) es) es
  put_at e [] = refl
  put_at e (f ∷ fs) = by_test (put_at e fs) (before e.0 f.0) refl
    where
      by_test : insert_sorted before e fs ≡ take (prefix_len (λ g. not (before e.0 g.0)) fs) fs ++ e ∷ drop (prefix_len (λ g. not (before e.0 g.0)) fs) fs
          → (b : Bool) → before e.0 f.0 ≡ b → insert_sorted before e (f ∷ fs) ≡ take (prefix_len (λ g. not (before e.0 g.0)) (f ∷ fs)) (f ∷ fs) ++ e ∷ drop (prefix_len (λ g. not (before e.0 g.0)) (f ∷ fs)) (f ∷ fs)
      by_test rest true h = rw h refl
      by_test rest false h =
          let n = prefix_len (λ g. not (before e.0 g.0)) fs in
          let one : suc n ≡ 1 + n = omega arith in
          rw h (subst (λ m. f ∷ insert_sorted before e fs ≡ take m (f ∷ fs) ++ e ∷ drop m (f ∷ fs)) one (ap (λ (l : List (K × A)). f ∷ l) rest))

  -- inserting two lists: the second one is inserted first
  pub put_both : (done preceding back : List (K × A)) → insert_entries before done (preceding ++ back) ≡ insert_entries before (insert_entries before done back) preceding
  put_both done [] back = refl
  put_both done (f ∷ fs) back = ap (insert_sorted before f) (put_both done fs back)

-- a single property is sorted
pub lone_dictionaries : (c : ContextModel) (name : ℕ) (written others : Entries) → length written ≤ 1 → length others ≡ 0 → AreDictionaries c name written others written []
lone_dictionaries c name [] [] le e = (refl, refl)
lone_dictionaries c name (x ∷ []) [] le e = (refl, refl)
lone_dictionaries c name (x ∷ y ∷ zs) others le e = absurd (omega arith)
lone_dictionaries c name written (z ∷ zs) le e = absurd (omega arith)
