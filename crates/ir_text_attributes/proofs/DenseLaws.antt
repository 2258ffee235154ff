-- The parser and the grammar of dense arrays agree.
use Rattle.std.specs.Prelude.{option_map, option_and_then, ℤ}
use Rattle.std.proofs.Common.{◌≡◌, ℕ, Bool, true, false, List, [], ◌∷◌, Option, Some, None, refl, sym, ap, subst, ◌∙◌, inl, inr}
use Rattle.ir_text_tokens.specs.declared.token.Mark.{Mark}
use Rattle.ir_text_tokens.specs.declared.token.Mark.TheVariants.{Less, Greater, Colon, Minus}
use Rattle.ir_text_tokens.specs.Numbers.{integer_of, below_limit}
use Rattle.ir_text_tokens.specs.Tokens.{Lexeme, mark, integer, bare}
use Rattle.ir_types.specs.declared.node.Sign.TheVariants.{Signless}
use Rattle.ir_types.specs.declared.node.TypeNode.TheVariants as type
use Rattle.ir_types.specs.declared.node.AttrNode.TheVariants as attr
use Rattle.ir_types.specs.Things.{ContextModel}
use Rattle.ir_types.specs.Terms.{TypeTerm, Integer, AttrTerm, DenseArray}
use Rattle.ir_types.specs.Readings.{literal_bits, reading_of}
use Rattle.ir_types.specs.Dictionaries.{kept}
use Rattle.ir_types.specs.Reasons.{type_fault}
use Rattle.ir_types.proofs.Growth.{grows_trans}
use Rattle.ir_text_types.specs.Outcomes.{Read, ◌>>=◌, of_option}
use Rattle.ir_text_types.specs.Typed.{Text, after_typed}
use Rattle.ir_text_types.specs.TypeReading.{many, type_done}
use Rattle.ir_text_types.specs.Grammars.{Grammar, Then, Done, After, IsMore, IsMark, Token}
use Rattle.ir_text_types.specs.Denotation.{TypeDenotes, AttrDenotes}
use Rattle.ir_text_types.specs.Laws.{Each}
use Rattle.ir_text_types.proofs.Worlds.{Exact, exact_rendered, exact_for, nothing_exact, guard_exact, some_exact, then_exact, done_exact, after_exact, either_exact, more_exact}
use Rattle.ir_text_types.proofs.TextLaws.{things, Same, typed_marks}
use Rattle.ir_text_types.proofs.TokenLaws.{trailing_exact, token_exact}
use Rattle.ir_text_attributes.specs.declared.element.Element.{Element}
use Rattle.ir_text_attributes.specs.declared.element.Element.TheVariants.{I1, I8, I16, I32, I64}
use Rattle.ir_text_attributes.specs.Literals.{Word, Truth, word_of, truth_bits}
use Rattle.ir_text_attributes.specs.Elements.{bits_of, type_of, element_named, is_bit, item_value}
use Rattle.ir_text_attributes.specs.AttrReading.{attr_done, element_from, element_at, truth_item, number_item, minus_from, minus_item, mark_item, item_from, item_at, some_items_at, no_items_at, items_from, items_at, dense_done, dense_at}
use Rattle.ir_text_attributes.specs.AttrGrammar.{IsFine, IsElement, IsItemNumber, IsItem, IsItems, IsDense}
use Rattle.ir_text_attributes.proofs.NodeLaws.{IsNodeOf, attr_done_exact, done_then, then_done, exact_given}
use Rattle.ir_text_attributes.proofs.LeafLaws.{signless_exact}

-- ---- the element type

-- an element denotes its type
abbrev ElementDenotes : ContextModel → Element → TypeTerm → Type 0
ElementDenotes z e t = type_of e ≡ t

abbrev ElementOf : List ℕ → Grammar Text TypeTerm
ElementOf w y old new = (e : Element) × (element_named w ≡ Some e) × Done (type_of e) y old new

abbrev ElementFrom : Lexeme → Text → Grammar Text TypeTerm
ElementFrom (bare w) rest y old new = ElementOf w y rest new
ElementFrom _ rest y old new = ⊥

element_from_exact : (c : ContextModel) (l : Lexeme) (rest : Text) → Exact things Same c ElementDenotes (λ s. element_from s.1 l rest) (ElementFrom l rest)
element_from_exact c (bare w) rest =
    trailing_exact c ElementDenotes rest (λ s. of_option (element_named w) >>= λ e. Read (e, s)) (ElementOf w)
    (some_exact things Same c ElementDenotes (element_named w) (λ e s. Read (e, s)) (λ e. Done (type_of e)) (λ e. done_exact things Same c ElementDenotes e (type_of e) (λ z g k. refl)))
element_from_exact c _ rest = nothing_exact things Same c ElementDenotes

element_into : (y : TypeTerm) (t t' : Text) → (l : Lexeme) × (rest : Text) × Token l t rest × ElementFrom l rest y t t' → IsElement y t t'
element_into y t t' k = by_token k.0 k.1 k.2 k.3
  where
    by_token : (l : Lexeme) (rest : Text) → Token l t rest → ElementFrom l rest y t t' → IsElement y t t'
    by_token (bare w) rest token k = (w, subst (λ r. Token (bare w) t r) (sym k.2.1) token, ap (option_map type_of) k.1 ∙ ap Some (sym k.2.0))
    by_token _ rest token k = absurd k

element_back : (y : TypeTerm) (t t' : Text) → IsElement y t t' → (l : Lexeme) × (rest : Text) × Token l t rest × ElementFrom l rest y t t'
element_back y t t' k = (bare k.0, t', k.1, by_name (element_named k.0) refl k.2)
  where
    by_name : (o : Option Element) → element_named k.0 ≡ o → option_map type_of o ≡ Some y → ElementOf k.0 y t' t'
    by_name None e f = absurd cc
    by_name (Some x) e f = let same : type_of x ≡ y = cc (f) in (x, e, (sym same, refl))

element_exact : (c : ContextModel) → Exact things Same c ElementDenotes element_at IsElement
unfolding element_at
element_exact c =
    exact_rendered things Same c ElementDenotes element_at (λ y old new. (l : Lexeme) × (rest : Text) × Token l old rest × ElementFrom l rest y old new) IsElement element_into element_back
    (token_exact c ElementDenotes (λ s l rest. element_from s.1 l rest) ElementFrom (element_from_exact c))

-- ---- items

-- a number denotes itself
abbrev NumberDenotes : ContextModel → ℤ → ℤ → Type 0
NumberDenotes z v w = v ≡ w

abbrev NumbersDenote : ContextModel → List ℤ → List ℤ → Type 0
NumbersDenote z vs ws = vs ≡ ws

numbers_same : (z : ContextModel) (vs ws : List ℤ) → Each NumberDenotes z vs ws → vs ≡ ws
numbers_same z [] [] h = refl
numbers_same z [] (w ∷ ws) h = absurd h
numbers_same z (v ∷ vs) [] h = absurd h
numbers_same z (v ∷ vs) (w ∷ ws) h = λ i. h.0 i ∷ numbers_same z vs ws h.1 i

read_from : (elem : TypeTerm) (o : Option ℕ) (v : ℤ) → option_map (reading_of elem) o ≡ Some v → (bits : ℕ) × (o ≡ Some bits) × (v ≡ reading_of elem bits)
read_from elem None v e = absurd cc
read_from elem (Some bits) v e = let same : reading_of elem bits ≡ v = cc (e) in (bits, refl, sym same)

value_found : (elem : TypeTerm) (negative : Bool) (digits : List ℕ) (v : ℤ) → item_value elem negative digits ≡ Some v → IsItemNumber elem negative digits v
value_found elem negative digits v e = by_number (below_limit (integer_of digits)) refl e
  where
    by_number : (o : Option ℕ) → below_limit (integer_of digits) ≡ o → option_map (reading_of elem) (option_and_then (literal_bits elem negative) o) ≡ Some v → IsItemNumber elem negative digits v
    by_number None o e = absurd cc
    by_number (Some n) o e = let k = read_from elem (literal_bits elem negative n) v e in (n, o, k.0, k.1, k.2)

value_only : (elem : TypeTerm) (negative : Bool) (digits : List ℕ) (v : ℤ) → IsItemNumber elem negative digits v → item_value elem negative digits ≡ Some v
value_only elem negative digits v k =
    ap (λ o. option_map (reading_of elem) (option_and_then (literal_bits elem negative) o)) k.1
    ∙ ap (option_map (reading_of elem)) k.3
    ∙ ap Some (sym k.4)

module _ (elem : TypeTerm) where
  abbrev NumberItem : Bool → List ℕ → Grammar Text ℤ
  NumberItem negative digits v old new = (u : ℤ) × (item_value elem negative digits ≡ Some u) × Done u v old new

  number_exact : (negative : Bool) (digits : List ℕ) (c : ContextModel) → Exact things Same c NumberDenotes (number_item elem negative digits) (NumberItem negative digits)
  number_exact negative digits c =
      some_exact things Same c NumberDenotes (item_value elem negative digits) (λ v s. Read (v, s)) (λ v. Done v) (λ v. done_exact things Same c NumberDenotes v v (λ z g k. refl))

  abbrev TruthItem : Word → Grammar Text ℤ
  TruthItem (Truth b) v old new = (is_bit elem ≡ true) × Done (reading_of elem (truth_bits b)) v old new
  TruthItem _ v old new = ⊥

  truth_item_exact : (w : Word) (c : ContextModel) → Exact things Same c NumberDenotes (truth_item elem w) (TruthItem w)
  truth_item_exact (Truth b) c = guard_exact things Same c NumberDenotes (is_bit elem) (λ s. Read (reading_of elem (truth_bits b), s)) (Done (reading_of elem (truth_bits b))) (done_exact things Same c NumberDenotes (reading_of elem (truth_bits b)) (reading_of elem (truth_bits b)) (λ z g k. refl))
  truth_item_exact _ c = nothing_exact things Same c NumberDenotes

  abbrev MinusFrom : Lexeme → Text → Grammar Text ℤ
  MinusFrom (integer digits) rest v old new = NumberItem true digits v rest new
  MinusFrom _ rest v old new = ⊥

  minus_from_exact : (c : ContextModel) (l : Lexeme) (rest : Text) → Exact things Same c NumberDenotes (λ s. minus_from elem s.1 l rest) (MinusFrom l rest)
  minus_from_exact c (integer digits) rest = trailing_exact c NumberDenotes rest (number_item elem true digits) (NumberItem true digits) (number_exact true digits c)
  minus_from_exact c _ rest = nothing_exact things Same c NumberDenotes

  abbrev MinusItem : Grammar Text ℤ
  MinusItem v old new = (l : Lexeme) × (rest : Text) × Token l old rest × MinusFrom l rest v old new

  minus_exact : (c : ContextModel) → Exact things Same c NumberDenotes (minus_item elem) MinusItem
  unfolding minus_item
  minus_exact c = token_exact c NumberDenotes (λ s l rest. minus_from elem s.1 l rest) MinusFrom (minus_from_exact c)

  abbrev MarkItem : Mark → Grammar Text ℤ
  MarkItem Minus v old new = MinusItem v old new
  MarkItem _ v old new = ⊥

  mark_item_exact : (m : Mark) (c : ContextModel) → Exact things Same c NumberDenotes (mark_item elem m) (MarkItem m)
  mark_item_exact Minus c = minus_exact c
  mark_item_exact _ c = nothing_exact things Same c NumberDenotes

  abbrev ItemFrom : Lexeme → Text → Grammar Text ℤ
  ItemFrom (bare w) rest v old new = TruthItem (word_of w) v rest new
  ItemFrom (integer digits) rest v old new = NumberItem false digits v rest new
  ItemFrom (mark m) rest v old new = MarkItem m v rest new
  ItemFrom _ rest v old new = ⊥

  item_from_exact : (c : ContextModel) (l : Lexeme) (rest : Text) → Exact things Same c NumberDenotes (λ s. item_from elem s.1 l rest) (ItemFrom l rest)
  item_from_exact c (bare w) rest = trailing_exact c NumberDenotes rest (truth_item elem (word_of w)) (TruthItem (word_of w)) (truth_item_exact (word_of w) c)
  item_from_exact c (integer digits) rest = trailing_exact c NumberDenotes rest (number_item elem false digits) (NumberItem false digits) (number_exact false digits c)
  item_from_exact c (mark m) rest = trailing_exact c NumberDenotes rest (mark_item elem m) (MarkItem m) (mark_item_exact m c)
  item_from_exact c _ rest = nothing_exact things Same c NumberDenotes

  number_into : (negative : Bool) (digits : List ℕ) (v : ℤ) (old new : Text) → NumberItem negative digits v old new → IsItemNumber elem negative digits v × (new ≡ old)
  number_into negative digits v old new k = (value_found elem negative digits v (k.1 ∙ ap Some (sym k.2.0)), k.2.1)

  number_back : (negative : Bool) (digits : List ℕ) (v : ℤ) (t : Text) → IsItemNumber elem negative digits v → NumberItem negative digits v t t
  number_back negative digits v t k = (v, value_only elem negative digits v k, (refl, refl))

  item_into : (v : ℤ) (t t' : Text) → (l : Lexeme) × (rest : Text) × Token l t rest × ItemFrom l rest v t t' → IsItem elem v t t'
  item_into v t t' k = by_token k.0 k.1 k.2 k.3
    where
      by_word : (w : List ℕ) (rest : Text) (o : Word) → word_of w ≡ o → Token (bare w) t rest → TruthItem o v rest t' → IsItem elem v t t'
      by_word w rest (Truth b) e token k = inl (w, b, subst (λ r. Token (bare w) t r) (sym k.1.1) token, k.0, e, k.1.0)
      by_word w rest _ e token k = absurd k

      after_minus : (rest : Text) → Token (mark Minus) t rest → (l : Lexeme) (end : Text) → Token l rest end → MinusFrom l end v rest t' → IsItem elem v t t'
      after_minus rest sign (integer digits) end token k =
          let n = number_into true digits v end t' k in
          inr (inr (digits, rest, sign, subst (λ r. Token (integer digits) rest r) (sym n.1) token, n.0))
      after_minus rest sign _ end token k = absurd k

      by_mark : (m : Mark) (rest : Text) → Token (mark m) t rest → MarkItem m v rest t' → IsItem elem v t t'
      by_mark Minus rest token k = after_minus rest token k.0 k.1 k.2 k.3
      by_mark _ rest token k = absurd k

      by_token : (l : Lexeme) (rest : Text) → Token l t rest → ItemFrom l rest v t t' → IsItem elem v t t'
      by_token (bare w) rest token k = by_word w rest (word_of w) refl token k
      by_token (integer digits) rest token k =
          let n = number_into false digits v rest t' k in
          inr (inl (digits, subst (λ r. Token (integer digits) t r) (sym n.1) token, n.0))
      by_token (mark m) rest token k = by_mark m rest token k
      by_token _ rest token k = absurd k

  item_back : (v : ℤ) (t t' : Text) → IsItem elem v t t' → (l : Lexeme) × (rest : Text) × Token l t rest × ItemFrom l rest v t t'
  item_back v t t' (inl k) =
      let made : TruthItem (Truth k.1) v t' t' = (k.3, (k.5, refl)) in
      (bare k.0, t', k.2, subst (λ o. TruthItem o v t' t') (sym k.4) made)
  item_back v t t' (inr (inl k)) = (integer k.0, t', k.1, number_back false k.0 v t' k.2)
  item_back v t t' (inr (inr k)) = (mark Minus, k.1, k.2, (integer k.0, t', k.3, number_back true k.0 v t' k.4))

  item_exact : (c : ContextModel) → Exact things Same c NumberDenotes (item_at elem) (IsItem elem)
  unfolding item_at
  item_exact c =
      exact_rendered things Same c NumberDenotes (item_at elem) (λ v old new. (l : Lexeme) × (rest : Text) × Token l old rest × ItemFrom l rest v old new) (IsItem elem) item_into item_back
      (token_exact c NumberDenotes (λ s l rest. item_from elem s.1 l rest) ItemFrom (item_from_exact c))

  some_items_exact : (c : ContextModel) → Exact things Same c NumbersDenote (some_items_at elem) (IsMore IsMark Greater (λ before. IsItem elem) many [])
  unfolding some_items_at
  some_items_exact c =
      exact_for things Same c (Each NumberDenotes) NumbersDenote (some_items_at elem) (IsMore IsMark Greater (λ before. IsItem elem) many []) numbers_same
      (more_exact things Same after_typed IsMark typed_marks NumberDenotes Greater (λ before. item_at elem) (λ before. IsItem elem) (λ d vs ws r. item_exact d) many c [] [] (λ z g k. tt))

  no_items_exact : (c : ContextModel) → Exact things Same c NumbersDenote no_items_at (After IsMark Greater (Done []))
  unfolding no_items_at
  no_items_exact c = after_exact things Same after_typed IsMark typed_marks c NumbersDenote Greater (λ s. Read ([], s)) (Done []) (done_exact things Same c NumbersDenote [] [] (λ z g w. refl))

  items_exact : (c : ContextModel) → Exact things Same c NumbersDenote (items_at elem) (IsItems elem)
  unfolding items_at
  items_exact c =
      either_exact things Same after_typed IsMark typed_marks c NumbersDenote Colon (items_from elem) (some_items_at elem) no_items_at (IsMore IsMark Greater (λ before. IsItem elem) many []) (After IsMark Greater (Done [])) (λ s mid. refl) (λ s. refl)
      (some_items_exact c) (no_items_exact c)

-- ---- dense arrays

dense_node : (vs : List ℤ) (z : ContextModel) (n : ℕ) (y : TypeTerm) → TypeDenotes z n y → IsNodeOf (attr.Dense n vs) (DenseArray y vs) z
unfolding kept
dense_node vs z n y h = (h.0, ap (λ t. DenseArray t vs) h.1)

element_fine : (e : Element) → type_fault (Integer Signless (bits_of e)) ≡ None
element_fine I1 = refl
element_fine I8 = refl
element_fine I16 = refl
element_fine I32 = refl
element_fine I64 = refl

-- the array after the element type
abbrev DenseOf : TypeTerm → TypeTerm → Grammar Text AttrTerm
DenseOf elem y = Then (IsItems elem) (λ vs. IsFine (DenseArray y vs))

dense_of_exact : (e : Element) (c : ContextModel) → Exact things Same c AttrDenotes (dense_done e) (DenseOf (type_of e) (type_of e))
unfolding dense_done
dense_of_exact e c =
    exact_rendered things Same c AttrDenotes (λ s. type_done (type.Int Signless (bits_of e)) s >>= λ t. items_at (type_of e) t.1 >>= λ vs. attr_done (attr.Dense t.0 vs.0) vs.1)
    (Then (Done (type_of e)) (DenseOf (type_of e))) (DenseOf (type_of e) (type_of e)) (done_then (type_of e) (DenseOf (type_of e))) (then_done (type_of e) (DenseOf (type_of e)))
    (then_exact things Same c TypeDenotes AttrDenotes (type_done (type.Int Signless (bits_of e))) (Done (type_of e)) (λ t s. items_at (type_of e) s >>= λ vs. attr_done (attr.Dense t vs.0) vs.1) (DenseOf (type_of e))
    (signless_exact (bits_of e) (element_fine e) c) (λ d t y g r.
    then_exact things Same d NumbersDenote AttrDenotes (items_at (type_of e)) (IsItems (type_of e)) (λ vs. attr_done (attr.Dense t vs)) (λ vs. IsFine (DenseArray y vs)) (items_exact (type_of e) d) (λ d' vs ws h k.
    attr_done_exact d' (attr.Dense t vs) (DenseArray y ws) (refl, refl) (λ z l w. subst (λ us. IsNodeOf (attr.Dense t vs) (DenseArray y us) z) (k z l w) (dense_node vs z t y (r z (grows_trans d d' z h l) w))))))

pub dense_exact : (c : ContextModel) → Exact things Same c AttrDenotes dense_at IsDense
unfolding dense_at
dense_exact c =
    after_exact things Same after_typed IsMark typed_marks c AttrDenotes Less (λ s. element_at s >>= λ e. dense_done e.0 e.1) (Then IsElement (λ elem. DenseOf elem elem))
    (then_exact things Same c ElementDenotes AttrDenotes element_at IsElement (λ e. dense_done e) (λ elem. DenseOf elem elem) (element_exact c) (λ d e y g r.
    exact_given d AttrDenotes (dense_done e) (DenseOf y y) (λ z k sound. subst (λ t. Exact things Same z AttrDenotes (dense_done e) (DenseOf t t)) (r z k sound) (dense_of_exact e z))))
