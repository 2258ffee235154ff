-- Lists and concatenations of texts with a property that ASCII texts have.
use Rattle.std.proofs.Common.{◌≡◌, ℕ, Bool, true, false, List, [], ◌∷◌, ◌++◌, refl}
use Rattle.std.specs.Prelude.{if◌then◌else◌, nat_lt, codes}
use Rattle.std.specs.List.{list_all, AllByRecursion}
use Rattle.std.specs.Str.{IsAscii}
use Rattle.std.proofs.lemmas.Str.Ascii.{IsAscii-nil}
use Rattle.ir_text_tokens.specs.Printing.{key_text}
use Rattle.ir_text.specs.AttrText.{entry_text, in_curly}
use Rattle.ir_text.specs.Rows.{parted}
use Rattle.ir_text.specs.TypeText.{in_round, outputs_text}
use Rattle.ir_text_modules.specs.WrittenAttributes.{are_bytes}
use Rattle.ir_text_modules.proofs.Ascii.{word, key}

module _ (P : List ℕ → Type 0) (ascii : (xs : List ℕ) → IsAscii xs → P xs) (append : (xs ys : List ℕ) → P xs → P ys → P (xs ++ ys)) where
  none : P []
  none = ascii [] IsAscii-nil

  pub says : (bs : List ℕ) → list_all (λ c. nat_lt c 128) bs ≡ true → P bs
  says bs e = ascii bs (word bs e)

  either : (b : Bool) (xs ys : List ℕ) → P xs → P ys → P (if b then xs else ys)
  either true xs ys h k = h
  either false xs ys h k = k

  abbrev pub All : List (List ℕ) → Type 0
  All ts = AllByRecursion P ts

  pub row : (mark : List ℕ) (first : Bool) (ts : List (List ℕ)) → P mark → All ts → P (parted mark first ts)
  row mark first [] m h = none
  row mark first (t ∷ ts) m h = append (if first then [] else mark) (t ++ parted mark false ts) (either first [] mark none m) (append t (parted mark false ts) h.0 (row mark false ts m h.1))

  pub round : (ts : List (List ℕ)) → All ts → P (in_round ts)
  round ts h = append (codes "(") (parted (codes ", ") true ts ++ codes ")") (says (codes "(") refl) (append (parted (codes ", ") true ts) (codes ")") (row (codes ", ") true ts (says (codes ", ") refl) h) (says (codes ")") refl))

  pub curly : (ts : List (List ℕ)) → All ts → P (in_curly ts)
  curly ts h = append (codes "{") (parted (codes ", ") true ts ++ codes "}") (says (codes "{") refl) (append (parted (codes ", ") true ts) (codes "}") (row (codes ", ") true ts (says (codes ", ") refl) h) (says (codes "}") refl))

  outputs : (lone : Bool) (ts : List (List ℕ)) → All ts → P (outputs_text lone ts)
  outputs true ts h = row (codes ", ") true ts (says (codes ", ") refl) h
  outputs false ts h = round ts h

  pub arrow : (ins : List (List ℕ)) (lone : Bool) (outs : List (List ℕ)) → All ins → All outs → P (in_round ins ++ (codes " -> " ++ outputs_text lone outs))
  arrow ins lone outs h k = append (in_round ins) (codes " -> " ++ outputs_text lone outs) (round ins h) (append (codes " -> ") (outputs_text lone outs) (says (codes " -> ") refl) (outputs lone outs k))

  pub entry : (k : List ℕ) (flag : Bool) (t : List ℕ) → are_bytes k ≡ true → P t → P (entry_text k flag t)
  entry k flag t e h = either flag (key_text k) (key_text k ++ (codes " = " ++ t)) (ascii (key_text k) (key k e)) (append (key_text k) (codes " = " ++ t) (ascii (key_text k) (key k e)) (append (codes " = ") t (says (codes " = ") refl) h))
