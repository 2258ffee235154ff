-- A node that isn't in a list is before no node of it.
use Rattle.std.proofs.Common.{◌≡◌, ℕ, List, [], ◌∷◌, refl, sym, ◌∙◌, Bool, true, false, eqb, cond, ◌||◌, ⊎_elim}
use Rattle.std.proofs.lemmas.Bool.{cases_Bool, false≢true}
use Rattle.ir_store_slots.specs.Lists.{Laws, has, list_at, home_at}
use Rattle.ir_store_slots.specs.Labels.{goes_before as slot_before}

-- no node of a list is before a node that isn't in the list
pub not_after : (a b : ℕ) (ks : List ℕ) → has b ks ≡ false → slot_before a b ks ≡ false
not_after a b [] e = refl
not_after a b (k ∷ ks) e = (λ i. cond (eqb k a) (rest e i) (not_after a b ks (rest e) i)) ∙ same (eqb k a)
  where
    half : (p q : Bool) → (p || q) ≡ false → q ≡ false
    half true q f = absurd (false≢true (sym f))
    half false q f = f

    rest : has b (k ∷ ks) ≡ false → has b ks ≡ false
    rest f = half (eqb k b) (has b ks) f

    same : (c : Bool) → cond c false false ≡ false
    same true = refl
    same false = refl

-- a node that has another home isn't in a list
pub apart : (lists : List (List ℕ)) (homes : List ℕ) → Laws lists homes → (a b h : ℕ) → (home_at homes b ≡ h → ⊥) → slot_before a b (list_at lists h) ≡ false
apart lists homes laws a b h n = not_after a b (list_at lists h) (⊎_elim (λ y. absurd (n (laws.members h b y).0)) (λ e. e) (cases_Bool (has b (list_at lists h))))
