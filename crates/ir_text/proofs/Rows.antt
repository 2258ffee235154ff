-- A loop that prints a separated list of texts.
use Rattle.std.proofs.Common.{◌≡◌, ◌∙◌, sym, ap, ℕ, suc, ◌+◌, ◌<◌, ◌≤◌, Bool, false, if◌then◌else◌, List, [], ◌∷◌, ◌++◌, length, get_or, drop, refl, append_assoc, append-nil, add-one, drop-cons}
use Rattle.std.proofs.Math.ListN.{drop_of_length-le}
use Rattle.ir_text.specs.Rows.{parted}
use Rattle.std.proofs.lemmas.List.{drop_more}
use Rattle.ir_tree.proofs.Steps.{next_left}

-- one more text is printed, after the separator unless the text is the first
pub one_more : (mark whole before intermediate after text : List ℕ) (first : Bool) (now rest : List (List ℕ)) → now ≡ text ∷ rest → intermediate ≡ before ++ (if first then [] else mark) → after ≡ intermediate ++ text → before ++ parted mark first now ≡ whole → after ++ parted mark false rest ≡ whole
one_more mark whole before intermediate after text first now rest e p q s =
    let preceding = if first then [] else mark in
    let back = parted mark false rest in
    ap (λ l. l ++ back) (q ∙ ap (λ l. l ++ text) p) ∙ append_assoc (before ++ preceding) text back ∙ append_assoc before preceding (text ++ back) ∙ ap (λ ts. before ++ parted mark first ts) (sym e) ∙ s

-- the last text was printed
pub no_more : {A : Type 0} (mark whole before : List ℕ) (first : Bool) (f : List A → List (List ℕ)) (xs : List A) (i : ℕ) → length xs ≤ i → f [] ≡ [] → before ++ parted mark first (f (drop i xs)) ≡ whole → before ≡ whole
no_more mark whole before first f xs i h n s =
    let none : f (drop i xs) ≡ [] = ap f (drop_of_length-le xs h) ∙ n in
    sym (append-nil before) ∙ ap (λ ts. before ++ parted mark first ts) (sym none) ∙ s

-- the same before the text that closes the list
pub one_more_closed : (mark close whole before intermediate after text : List ℕ) (first : Bool) (now rest : List (List ℕ)) → now ≡ text ∷ rest → intermediate ≡ before ++ (if first then [] else mark) → after ≡ intermediate ++ text → before ++ (parted mark first now ++ close) ≡ whole → after ++ (parted mark false rest ++ close) ≡ whole
one_more_closed mark close whole before intermediate after text first now rest e p q s =
    sym (append_assoc after (parted mark false rest) close)
    ∙ ap (λ l. l ++ close) (one_more mark (before ++ parted mark first now) before intermediate after text first now rest e p q refl)
    ∙ append_assoc before (parted mark first now) close
    ∙ s

pub no_more_closed : {A : Type 0} (mark close whole before : List ℕ) (first : Bool) (f : List A → List (List ℕ)) (xs : List A) (i : ℕ) → length xs ≤ i → f [] ≡ [] → before ++ (parted mark first (f (drop i xs)) ++ close) ≡ whole → before ++ close ≡ whole
no_more_closed mark close whole before first f xs i h n s =
    let none : f (drop i xs) ≡ [] = ap f (drop_of_length-le xs h) ∙ n in
    ap (λ ts. before ++ (parted mark first ts ++ close)) (sym none) ∙ s
