-- A printed dense array is parsed back.
use Rattle.std.proofs.Common.{◌≡◌, ℕ, zero, suc, ◌≤◌, ℤ, pos, negsuc, Bool, true, false, List, [], ◌∷◌, ◌++◌, map, length, Option, Some, None, refl, sym, ap, subst, ◌∙◌, append_assoc, inl, inr, arith}
use Rattle.std.specs.Prelude.{◌⊎◌, ◌||◌, ◌&&◌, ◌==◌, not, is_some, option_map, option_and_then, codes, nat_le, nat_lt}
use Rattle.std.proofs.lemmas.Bool.Decides.{nat_tests}
use Rattle.ir_types.specs.Readings.{signed_of}
use Rattle.std.specs.List.{list_all}
use Rattle.std.specs.Fmt.{decimal, digits}
use Rattle.std.proofs.lemmas.Bool.{eqb-true, and_parts, or_cases, leb-true}
use Rattle.ir_types.specs.declared.node.Sign.TheVariants.{Signless, Signed, Unsigned}
use Rattle.ir_types.specs.Terms.{TypeTerm, Integer, Index, Function, Memref, OpaqueType, DenseArray}
use Rattle.ir_types.specs.Ranges.{is_value_number}
use Rattle.ir_types.specs.Reasons.{attr_fault}
use Rattle.ir_text_tokens.specs.declared.token.Mark.TheVariants.{Less, Greater, Comma, Colon, Minus}
use Rattle.ir_text_tokens.specs.Bytes.{is_word}
use Rattle.ir_text_tokens.specs.Tokens.{mark, integer, bare, next}
use Rattle.ir_text_types.specs.Marks.{after}
use Rattle.ir_text_types.proofs.TextLaws.{after_only}
use Rattle.ir_text_attributes.specs.declared.element.Element.{Element}
use Rattle.ir_text_attributes.specs.OpaqueAttributes.{begins_other, has_bad_width, is_other_element, is_so, opens_other, tail_of}
use Rattle.ir_text_tokens.specs.Printing.{Stops, extends_integer, is_bare_id}
use Rattle.ir_text_tokens.proofs.Decimals.{integer_again}
use Rattle.ir_text_tokens.proofs.Printed.{bare_token, decimal_token, mark_token, minus_token}
use Rattle.ir_text.specs.Rows.{parted}
use Rattle.ir_text.specs.TypeText.{type_text}
use Rattle.ir_text.specs.AttrText.{is_truth, number_text, items_text, dense_text}
use Rattle.ir_text_types.specs.Grammars.{IsMore, IsMark}
use Rattle.ir_text_types.specs.TypeReading.{many}
use Rattle.ir_text_attributes.specs.Literals.{true_word, false_word, array_word}
use Rattle.ir_text_attributes.specs.Elements.{element_named, element_of, type_of}
use Rattle.ir_text_attributes.specs.AttrGrammar.{IsItem, IsItems, IsDense}
use Rattle.ir_text_modules.specs.Written.{is_written_type}
use Rattle.ir_text_modules.specs.WrittenAttributes.{is_element}
use Rattle.ir_text_modules.proofs.Small.{lacks_token}
use Rattle.ir_text_modules.proofs.Ahead.{Ahead, Lacks, more_ahead, space}
use Rattle.ir_text_modules.proofs.Rows.{AllFit, Items, more_again}
use Rattle.ir_text_modules.proofs.Values.{IsPlain, simple}
use Rattle.ir_text_modules.proofs.Leaves.{Begins}
use Rattle.ir_text_modules.proofs.TypeWords.{word_after}
use Rattle.ir_text_tokens.proofs.Places.{is_below}
use Rattle.ir_tree.proofs.Counts.{and_false, below_none}

-- ---- items

item_ahead : (elem : TypeTerm) → Ahead (IsItem elem)
item_ahead elem y a b new e (inl h) = inl (h.0, h.1, sym e ∙ h.2, h.3, h.4, h.5)
item_ahead elem y a b new e (inr (inl h)) = inr (inl (h.0, sym e ∙ h.1, h.2))
item_ahead elem y a b new e (inr (inr h)) = inr (inr (h.0, h.1, sym e ∙ h.2, h.3, h.4))

item_lacks : (elem : TypeTerm) → Lacks Greater (IsItem elem)
item_lacks elem y a new (inl h) = lacks_token (bare h.0) Greater a new h.2 (λ e. absurd cc)
item_lacks elem y a new (inr (inl h)) = lacks_token (integer h.0) Greater a new h.1 (λ e. absurd cc)
item_lacks elem y a new (inr (inr h)) = lacks_token (mark Minus) Greater a h.1 h.2 (λ e. absurd cc)

abbrev EndsItem : List ℕ → Type 0
EndsItem rest = Stops is_word rest × Stops extends_integer rest

number_item : (elem : TypeTerm) (z : ℤ) (rest : List ℕ) → IsPlain elem z → Stops extends_integer rest → IsItem elem z (number_text false z ++ rest) rest
unfolding number_text
number_item elem (pos n) rest p s = inr (inl (decimal n, decimal_token n rest p.small s, (n, rw (integer_again n p.small) (is_below n p.small), p.bits, rw (below_none n) at p.literal, sym p.reading)))
number_item elem (negsuc n) rest p s =
    inr (inr (decimal (suc n), decimal (suc n) ++ rest, minus_token (suc n) rest p.small, decimal_token (suc n) rest p.small s, (suc n, rw (integer_again (suc n) p.small) (is_below (suc n) p.small), p.bits, p.literal, sym p.reading)))

-- the two values of one bit
truth_sign : (z : ℤ) → is_value_number (Integer Signless 1) z ≡ true → (z ≡ pos 0) ⊎ (z ≡ negsuc 0)
truth_sign (pos zero) v = inl refl
truth_sign (pos (suc n)) v = absurd (large n (rw (below_none (suc n)) at v))
  where
    large : (n : ℕ) → nat_lt (suc n) 1 ≡ true → ⊥
    large n e = grind (arith, nat_tests)
truth_sign (negsuc zero) v = inr refl
truth_sign (negsuc (suc n)) v = absurd (large n v)
  where
    large : (n : ℕ) → nat_le (suc (suc n)) 1 ≡ true → ⊥
    large n e = grind (arith, nat_tests)

truth_item : (z : ℤ) (rest : List ℕ) → is_value_number (Integer Signless 1) z ≡ true → Stops is_word rest → IsItem (Integer Signless 1) z (number_text true z ++ rest) rest
unfolding number_text signed_of
truth_item z rest v s = from (truth_sign z v)
  where
    from : (z ≡ pos 0) ⊎ (z ≡ negsuc 0) → IsItem (Integer Signless 1) z (number_text true z ++ rest) rest
    from (inl e) = rw e (inl (false_word, false, bare_token false_word rest refl s, refl, refl, refl))
    from (inr e) = rw e (inl (true_word, true, bare_token true_word rest refl s, refl, refl, refl))

-- facts about an element type
record IsNamed (elem : TypeTerm) : Type 0 where
  pub word : List ℕ
  pub text : type_text elem ≡ word
  pub bare : is_bare_id word ≡ true
  pub element : element_of word ≡ Some elem
  pub type : is_written_type false elem ≡ true
  pub truth : is_truth elem ≡ true → elem ≡ Integer Signless 1

one : IsNamed (Integer Signless 1)
unfolding digits
one = record { word = codes "i1"; text = refl; bare = refl; element = refl; type = refl; truth = λ e. refl }

eight : IsNamed (Integer Signless 8)
unfolding digits
eight = record { word = codes "i8"; text = refl; bare = refl; element = refl; type = refl; truth = λ e. absurd cc }

sixteen : IsNamed (Integer Signless 16)
unfolding digits
sixteen = record { word = codes "i16"; text = refl; bare = refl; element = refl; type = refl; truth = λ e. absurd cc }

thirty_two : IsNamed (Integer Signless 32)
unfolding digits
thirty_two = record { word = codes "i32"; text = refl; bare = refl; element = refl; type = refl; truth = λ e. absurd cc }

sixty_four : IsNamed (Integer Signless 64)
unfolding digits
sixty_four = record { word = codes "i64"; text = refl; bare = refl; element = refl; type = refl; truth = λ e. absurd cc }

named : (elem : TypeTerm) → is_element elem ≡ true → IsNamed elem
named (Integer Signless w) e = from (or_cases ((((w == 1) || (w == 8)) || (w == 16)) || (w == 32)) (w == 64) e)
  where
    size : (n : ℕ) → IsNamed (Integer Signless n) → (w == n) ≡ true → IsNamed (Integer Signless w)
    size n k t = rw (eqb-true w n t) k

    least : ((w == 1) ≡ true) ⊎ ((w == 8) ≡ true) → IsNamed (Integer Signless w)
    least (inl t) = size 1 one t
    least (inr t) = size 8 eight t

    less : ((w == 1 || w == 8) ≡ true) ⊎ ((w == 16) ≡ true) → IsNamed (Integer Signless w)
    less (inl t) = least (or_cases (w == 1) (w == 8) t)
    less (inr t) = size 16 sixteen t

    most : (((w == 1 || w == 8) || w == 16) ≡ true) ⊎ ((w == 32) ≡ true) → IsNamed (Integer Signless w)
    most (inl t) = less (or_cases (w == 1 || w == 8) (w == 16) t)
    most (inr t) = size 32 thirty_two t

    from : ((((w == 1 || w == 8) || w == 16) || w == 32) ≡ true) ⊎ ((w == 64) ≡ true) → IsNamed (Integer Signless w)
    from (inl t) = most (or_cases ((w == 1 || w == 8) || w == 16) (w == 32) t)
    from (inr t) = size 64 sixty_four t
named (Integer Signed w) e = absurd cc
named (Integer Unsigned w) e = absurd cc
named Index e = absurd cc
named (Function ins outs) e = absurd cc
named (Memref dims elem) e = absurd cc
named (OpaqueType text) e = absurd cc

-- ---- the items of an element type

abbrev FitsItem : TypeTerm → List ℤ → ℤ → Type 0
FitsItem elem before z = is_value_number elem z ≡ true

item_read : (elem : TypeTerm) (z : ℤ) (rest : List ℕ) → IsNamed elem → is_value_number elem z ≡ true → EndsItem rest → IsItem elem z (number_text (is_truth elem) z ++ rest) rest
item_read elem z rest k v s = from (is_truth elem) refl
  where
    from : (b : Bool) → is_truth elem ≡ b → IsItem elem z (number_text (is_truth elem) z ++ rest) rest
    from true e = subst (λ u. is_value_number u z ≡ true → IsItem u z (number_text (is_truth u) z ++ rest) rest) (sym (k.truth e)) (λ w. truth_item z rest w s.0) v
    from false e = subst (λ b. IsItem elem z (number_text b z ++ rest) rest) (sym e) (number_item elem z rest (simple false elem z k.type v) s.1)

dense_items : (elem : TypeTerm) → IsNamed elem → Items Greater (λ before. IsItem elem) (number_text (is_truth elem)) (FitsItem elem) EndsItem
dense_items elem k = record {
  reads = λ preceding z rest fits_in s. item_read elem z rest k fits_in s;
  ahead = λ preceding. item_ahead elem;
  lacks = λ preceding. item_lacks elem;
  comma = λ rest. (refl, refl);
  closing = λ rest. (refl, refl);
  closes = λ rest. mark_token Greater rest tt;
  open_yet = λ rest. lacks_token (mark Comma) Greater (44 ∷ rest) rest (mark_token Comma rest tt) (λ e. absurd cc);
}

all_fit : (elem : TypeTerm) (preceding zs : List ℤ) → list_all (is_value_number elem) zs ≡ true → AllFit (FitsItem elem) preceding zs
all_fit elem preceding [] e = tt
all_fit elem preceding (z ∷ zs) e = let p = and_parts (is_value_number elem z) (list_all (is_value_number elem) zs) e in (p.0, all_fit elem (preceding ++ z ∷ []) zs p.1)

items_read : (elem : TypeTerm) (zs : List ℤ) (rest : List ℕ) → IsNamed elem → list_all (is_value_number elem) zs ≡ true → length zs ≤ many → IsItems elem zs (items_text (is_truth elem) zs ++ 62 ∷ rest) rest
items_read elem [] rest k v le = inr (lacks_token (mark Greater) Colon (62 ∷ rest) rest (mark_token Greater rest tt) (λ e. absurd cc), (rest, mark_token Greater rest tt, (refl, refl)))
items_read elem (z ∷ zs) rest k v le =
    let text = number_text (is_truth elem) in
    let inside = text z ++ (parted (codes ", ") false (map text zs) ++ 62 ∷ rest) in
    let P = IsMore IsMark Greater (λ (before : List ℤ). IsItem elem) many [] in
    let more = more_again Greater (λ before. IsItem elem) text (FitsItem elem) EndsItem (dense_items elem k) many [] z zs rest (all_fit elem [] (z ∷ zs) v) le in
    let apart : items_text (is_truth elem) (z ∷ zs) ++ 62 ∷ rest ≡ 58 ∷ 32 ∷ inside = ap (λ (l : List ℕ). 58 ∷ 32 ∷ l) (append_assoc (text z) (parted (codes ", ") false (map text zs)) (62 ∷ rest)) in
    rw apart (inl (32 ∷ inside, mark_token Colon (32 ∷ inside) refl, space P (more_ahead Greater (λ before. IsItem elem) (λ preceding. item_ahead elem) many []) (z ∷ zs) inside rest more))

ends_word : (elem : TypeTerm) (zs : List ℤ) (rest : List ℕ) → Stops is_word (items_text (is_truth elem) zs ++ 62 ∷ rest)
ends_word elem [] rest = refl
ends_word elem (z ∷ zs) rest = refl

dense_fine : (elem : TypeTerm) (zs : List ℤ) → list_all (is_value_number elem) zs ≡ true → attr_fault (DenseArray elem zs) ≡ None
dense_fine elem zs e = rw e refl

-- an array of these elements isn't opaque
dense_known : (o : Bool) (elem : TypeTerm) (w back : List ℕ) → element_of w ≡ Some elem → next (w ++ back) ≡ Some (bare w, back) → (o && opens_other (60 ∷ w ++ back)) ≡ false
unfolding opens_other
dense_known o elem w back e t =
    let trailing : after Less (60 ∷ w ++ back) ≡ Some (w ++ back) = after_only Less (60 ∷ w ++ back) (w ++ back) (mark_token Less (w ++ back) tt) in
    let word : is_other_element (bare w) ≡ false = ap (λ b. not b && not (has_bad_width w)) (named_so (element_named w) e) in
    let other : is_so (option_and_then begins_other (after Less (60 ∷ w ++ back))) ≡ false = rw (trailing, t) word in
    ap (λ b. o && b) other ∙ and_false o
  where
    named_so : (n : Option Element) → option_map type_of n ≡ Some elem → is_some n ≡ true
    named_so None e = absurd cc
    named_so (Some n) e = refl

none_kept : tail_of array_word ≡ None
unfolding tail_of
none_kept = refl

pub dense_read : (o : Bool) (depth : ℕ) (elem : TypeTerm) (zs : List ℤ) (rest : List ℕ) → is_element elem ≡ true → nat_le (length zs) many ≡ true → list_all (is_value_number elem) zs ≡ true → Begins o depth (DenseArray elem zs) (dense_text elem zs ++ rest) rest
dense_read o depth elem zs rest e count v =
    let k = named elem e in
    let items = items_text (is_truth elem) zs in
    let back = items ++ 62 ∷ rest in
    let inside = k.word ++ back in
    let apart : dense_text elem zs ++ rest ≡ array_word ++ 60 ∷ inside = ap (λ (l : List ℕ). array_word ++ 60 ∷ l) (append_assoc (type_text elem) (items ++ 62 ∷ []) rest ∙ ap (λ (l : List ℕ). type_text elem ++ l) (append_assoc items (62 ∷ []) rest) ∙ ap (λ (l : List ℕ). l ++ back) k.text) in
    let token = bare_token k.word back k.bare (ends_word elem zs rest) in
    let dense : IsDense (DenseArray elem zs) (60 ∷ inside) rest =
    (inside, mark_token Less inside tt, (elem, back, (k.word, token, k.element), (zs, rest, items_read elem zs rest k v (leb-true (length zs) many count), (dense_fine elem zs v, refl, refl)))) in
    rw apart
    (bare array_word, 60 ∷ inside, bare_token array_word (60 ∷ inside) refl refl, word_after o depth array_word (60 ∷ inside) (DenseArray elem zs) (array_word ++ 60 ∷ inside) rest none_kept (inr (dense_known o elem k.word back k.element token, dense)))
