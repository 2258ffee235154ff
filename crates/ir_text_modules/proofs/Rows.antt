-- Lists that are printed with `, ` between their items are parsed back.
use Rattle.std.proofs.Common.{◌≡◌, ℕ, zero, suc, ◌≤◌, true, false, List, [], ◌∷◌, ◌++◌, map, length, refl, sym, ap, subst, append_assoc, arith, inl, inr}
use Rattle.std.specs.Prelude.{codes}
use Rattle.ir_text_tokens.specs.declared.token.Mark.{Mark}
use Rattle.ir_text_tokens.specs.declared.token.Mark.TheVariants.{Comma}
use Rattle.ir_text_tokens.specs.Printing.{mark_text}
use Rattle.ir_text_tokens.proofs.Printed.{mark_token}
use Rattle.ir_text_types.specs.Grammars.{Grammar, Not, IsMore, IsList, IsMark}
use Rattle.ir_text.specs.Rows.{parted}
use Rattle.ir_text_modules.proofs.Ahead.{Ahead, Lacks, more_ahead, space}

module _ {B : Type 0} (Fits : List B → B → Type 0) where
  -- each item fits after the items before it
  abbrev pub AllFit : List B → List B → Type 0
  AllFit preceding [] = Unit {0}
  AllFit preceding (y ∷ ys) = Fits preceding y × AllFit (preceding ++ y ∷ []) ys

-- items are parsed back, with the allowed texts after them
pub record Items {B : Type 0} (close : Mark) (P : List B → Grammar (List ℕ) B) (text : B → List ℕ) (Fits : List B → B → Type 0) (Ends : List ℕ → Type 0) : Type 0 where
  pub reads : (preceding : List B) (y : B) (rest : List ℕ) → Fits preceding y → Ends rest → P preceding y (text y ++ rest) rest
  pub ahead : (preceding : List B) → Ahead (P preceding)
  pub lacks : (preceding : List B) → Lacks close (P preceding)
  pub comma : (rest : List ℕ) → Ends (44 ∷ rest)
  pub closing : (rest : List ℕ) → Ends (mark_text close ++ rest)
  pub closes : (rest : List ℕ) → IsMark close (mark_text close ++ rest) rest
  pub open_yet : (rest : List ℕ) → Not IsMark close (44 ∷ rest)

module _ {B : Type 0} (close : Mark) (P : List B → Grammar (List ℕ) B) (text : B → List ℕ) (Fits : List B → B → Type 0) (Ends : List ℕ → Type 0) (items : Items close P text Fits Ends) where
  -- the text after an item: a comma and each other item, and the end
  abbrev others : List B → List ℕ → List ℕ
  others ys rest = parted (codes ", ") false (map text ys) ++ (mark_text close ++ rest)

  pub more_again : (headroom : ℕ) (preceding : List B) (y : B) (ys : List B) (rest : List ℕ) → AllFit Fits preceding (y ∷ ys) → length (y ∷ ys) ≤ headroom → IsMore IsMark close P headroom preceding (preceding ++ y ∷ ys) (text y ++ others ys rest) rest
  unfolding IsMore
  more_again zero preceding y ys rest fits_in le = absurd (omega (arith, le))
  more_again (suc headroom) preceding y [] rest fits_in le = (y, mark_text close ++ rest, items.reads preceding y (mark_text close ++ rest) fits_in.0 (items.closing rest), inl (items.closes rest, refl))
  more_again (suc headroom) preceding y (z ∷ zs) rest fits_in le =
      let tail = 32 ∷ (text z ++ others zs rest) in
      let apart : others (z ∷ zs) rest ≡ 44 ∷ tail = ap (λ (l : List ℕ). 44 ∷ 32 ∷ l) (append_assoc (text z) (parted (codes ", ") false (map text zs)) (mark_text close ++ rest)) in
      let all : preceding ++ y ∷ z ∷ zs ≡ (preceding ++ y ∷ []) ++ z ∷ zs = sym (append_assoc preceding (y ∷ []) (z ∷ zs)) in
      let more = more_again headroom (preceding ++ y ∷ []) z zs rest fits_in.1 (omega arith) in
      let spaced = space (IsMore IsMark close P headroom (preceding ++ y ∷ [])) (more_ahead close P items.ahead headroom (preceding ++ y ∷ [])) ((preceding ++ y ∷ []) ++ z ∷ zs) (text z ++ others zs rest) rest more in
      subst (λ l. IsMore IsMark close P (suc headroom) preceding (preceding ++ y ∷ z ∷ zs) (text y ++ l) rest) (sym apart)
      (y, 44 ∷ tail, items.reads preceding y (44 ∷ tail) fits_in.0 (items.comma tail), inr (items.open_yet tail, tail, mark_token Comma tail tt, subst (λ l. IsMore IsMark close P headroom (preceding ++ y ∷ []) l tail rest) (sym all) spaced))

  pub list_again : (headroom : ℕ) (ys : List B) (rest : List ℕ) → AllFit Fits [] ys → length ys ≤ headroom → IsList IsMark close P headroom ys (parted (codes ", ") true (map text ys) ++ (mark_text close ++ rest)) rest
  unfolding IsList
  list_again headroom [] rest fits_in le = inl (items.closes rest, refl)
  list_again headroom (y ∷ ys) rest fits_in le =
      let apart : (text y ++ parted (codes ", ") false (map text ys)) ++ (mark_text close ++ rest) ≡ text y ++ others ys rest = append_assoc (text y) (parted (codes ", ") false (map text ys)) (mark_text close ++ rest) in
      let more = more_again headroom [] y ys rest fits_in le in
      subst (λ l. IsList IsMark close P headroom (y ∷ ys) l rest) (sym apart) (inr (first headroom y ys rest fits_in, more))
    where
      ends_next : (ys : List B) (rest : List ℕ) → Ends (others ys rest)
      ends_next [] rest = items.closing rest
      ends_next (z ∷ zs) rest = items.comma _

      first : (headroom : ℕ) (y : B) (ys : List B) (rest : List ℕ) → AllFit Fits [] (y ∷ ys) → Not IsMark close (text y ++ others ys rest)
      first headroom y ys rest fits_in = items.lacks [] y (text y ++ others ys rest) (others ys rest) (items.reads [] y (others ys rest) fits_in.0 (ends_next ys rest))
