-- The facts of the first phase in the forms that the code needs.
use Rattle.std.proofs.Common.{◌≡◌, ◌<◌, ◌≤◌, ◌+◌, ℕ, List, [], ◌∷◌, ◌++◌, length, get_or, take, Bool, true, false, true≢false, Option, Some, None, refl, sym, ap, ◌∙◌, subst, cond, arith}
use Rattle.std.proofs.lemmas.List.{append_assoc, append-nil, take_all, length_push}
use Rattle.ir_event.specs.types.declared.bits.Bits.{Bits}
use Rattle.ir_event.specs.tree_laws.Members.{In}
use Rattle.dialects_int.specs.Folds.{Known, known_of}
use Rattle.constants.specs.Facts.{Facts}
use Rattle.constants.specs.Phases.{Forgotten}
use Rattle.constants.proofs.Forgets.{forgot_none}
use Rattle.constants.specs.Tables.{users_of}
use Prim.Native.Nat.{suc}

pub never : {D : Type 0} → (b : Bool) → b ≡ false → b ≡ true → D
never b e f = absurd (true≢false (sym f ∙ e))

pub known_none : (o : Option Bits) (v : Option Known) → known_of o ≡ v → o ≡ None → v ≡ None
known_none o v e h = sym e ∙ ap known_of h

pub known_some : (o : Option Bits) (v : Option Known) (b : Bits) → known_of o ≡ v → o ≡ Some b → v ≡ Some (b.kind, b.value)
known_some o v b e h = sym e ∙ ap known_of h

-- the users of a list of uses: those so far, the next one, and the others
pub users_length : (us : List (ℕ × ℕ)) → length (users_of us) ≡ length us
users_length [] = refl
users_length (u ∷ us) = ap (λ n. suc n) (users_length us)

pub user_at : (us : List (ℕ × ℕ)) (u : ℕ × ℕ) (rest whole : List (ℕ × ℕ)) → us ++ u ∷ rest ≡ whole → u.0 ≡ get_or (users_of whole) (length us) u.0
user_at us u rest whole e = go us ∙ ap (λ (l : List (ℕ × ℕ)). get_or (users_of l) (length us) u.0) e
  where
    go : (us : List (ℕ × ℕ)) → u.0 ≡ get_or (users_of (us ++ u ∷ rest)) (length us) u.0
    go [] = refl
    go (w ∷ us) = go us

pub user_before : (us : List (ℕ × ℕ)) (u : ℕ × ℕ) (rest whole : List (ℕ × ℕ)) → us ++ u ∷ rest ≡ whole → length us < length (users_of whole)
user_before us u rest whole e = subst (λ (l : List (ℕ × ℕ)). length us < length (users_of l)) e (go us)
  where
    go : (us : List (ℕ × ℕ)) → length us < length (users_of (us ++ u ∷ rest))
    go [] = omega arith
    go (w ∷ us) = let h = go us in omega (arith, h)

pub user_passed : (us : List (ℕ × ℕ)) (u : ℕ × ℕ) (left rest whole : List (ℕ × ℕ)) → us ++ left ≡ whole → left ≡ u ∷ rest → (us ++ u ∷ []) ++ rest ≡ whole
user_passed us u left rest whole e f = append_assoc us (u ∷ []) rest ∙ ap (λ l. us ++ l) (sym f) ∙ e

pub user_next : (us : List (ℕ × ℕ)) (u : ℕ × ℕ) (left rest whole : List (ℕ × ℕ)) → us ++ left ≡ whole → left ≡ u ∷ rest → us ++ u ∷ rest ≡ whole
user_next us u left rest whole e f = ap (λ l. us ++ l) (sym f) ∙ e

pub read_whole : (us left whole : List (ℕ × ℕ)) → us ++ left ≡ whole → left ≡ [] → length us ≡ length whole
read_whole us left whole e f = ap length (sym (append-nil us) ∙ ap (λ l. us ++ l) (sym f) ∙ e)

pub all_read : (us left whole : List (ℕ × ℕ)) → us ++ left ≡ whole → left ≡ [] → length (users_of whole) ≤ length us
all_read us left whole e f =
    let size = users_length whole in
    let one = read_whole us left whole e f in
    omega (arith, size, one)

pub all_taken : (xs : List ℕ) (i : ℕ) (D : Type 0) (a b : Facts) (l m : List ℕ) → length xs ≤ i → Forgotten D (λ y. In y (take i xs)) a b l m → Forgotten D (λ y. In y xs) a b l m
all_taken xs i D a b l m le f = subst (λ (z : List ℕ). Forgotten D (λ y. In y z) a b l m) (take_all i xs le) f

pub pushed : (b : Bool) (x : ℕ) (l m : List ℕ) → m ≡ cond b (l ++ x ∷ []) l → b ≡ true → m ≡ l ++ x ∷ []
pushed b x l m e h = e ∙ ap (λ b. cond b (l ++ x ∷ []) l) h

pub not_pushed : (b : Bool) (x : ℕ) (l m : List ℕ) → m ≡ cond b (l ++ x ∷ []) l → b ≡ false → m ≡ l
not_pushed b x l m e h = e ∙ ap (λ b. cond b (l ++ x ∷ []) l) h

pub forgot_same : (D : Type 0) (P : ℕ → Type 0) (t : Facts) (l m : List ℕ) → (D → ⊥) → m ≡ l → Forgotten D P t t l m
forgot_same D P t l m not_done e = subst (λ z. Forgotten D P t t l z) (sym e) (forgot_none D P t l not_done)
