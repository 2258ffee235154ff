-- The text printed from parts equals the text printed from the pattern.
use Rattle.std.proofs.Common.{◌≡◌, ◌∙◌, ℕ, Bool, true, false, List, [], ◌∷◌, ◌++◌, append_assoc, append-nil, map, Option, Some, None, Ok, refl, sym, ap, subst}
use Rattle.std.specs.Prelude.{codes}
use Rattle.std.specs.Fmt.{decimal}
use Rattle.ir_text_tokens.specs.Printing.{signed_text}
use Rattle.ir_text_types.specs.Typed.{Text}
use Rattle.user_patterns_text.specs.Syntax.{Number, Numbers, literal, named, called, no_numbers, next_number, numbers_of, Term, Terms, operation, value_of, constant_of, no_terms, next_term, Constraint, narrower, asking}
use Rattle.user_patterns_text.specs.Syntax as syntax
use Rattle.user_patterns_text.specs.Printing.{show_requested, show_condition, show_conditions, show_more, show_next, show_number, show_numbers, show_some_words, show_term, show_terms, show_type, show_where, show_words, signed, text_of}
use Rattle.user_patterns_text.specs.Recognizing.{read}
use Rattle.user_patterns_text.proofs.Printable.{pattern_fits}
use Rattle.user_patterns_text.proofs.Rendered.{pattern_exact}
use Rattle.user_patterns_text.proofs.Whole.{read_again}
use Rattle.user_patterns_text.specs.Parts.{AreParts, Part, Pattern, operation_part, value_part, literal_part, name_part, function_part, condition_part, type_part, end_part, closed, condition_parts, conditions_parts, number_parts, numbers_parts, term_parts, terms_parts, type_parts, unplaced}
use Rattle.user_patterns_text.specs.Printed.{IsTextOf, SpellsAgain, item, opens, part_text, parts_text, pattern_text, type_text, where_text}
use Rattle.user_patterns_text.proofs.Items.{item_then}

requested_then : (a : Option (List ℕ)) (x y : Text) → show_requested a (x ++ y) ≡ show_requested a x ++ y
requested_then None x y = refl
requested_then (Some w) x y = ap (λ (t : Text). 60 ∷ t) (sym (append_assoc w (62 ∷ x) y))

signed_then : (negative : Bool) (n : ℕ) (rest : Text) → signed negative (decimal n ++ rest) ≡ signed_text negative n ++ rest
signed_then true n rest = refl
signed_then false n rest = refl

-- the text of parts, followed by `end`
module _ (end : Text) where
  abbrev along : Bool → Bool → List Part → Text
  along items first ps = parts_text items first ps ++ end

  module _ (items first : Bool) (ps : List Part) where
    -- the text of a part and the parts after it
    one_more : (p : Part) → along items first (p ∷ ps) ≡ part_text items first p ++ along items (opens p) ps
    unfolding parts_text
    one_more p = append_assoc (part_text items first p) (parts_text items (opens p) ps) end

  closed_then : (ps qs : List Part) → closed ps ++ qs ≡ ps ++ end_part ∷ qs
  closed_then ps qs = append_assoc ps (end_part ∷ []) qs

  end_then : (items first : Bool) (ps : List Part) → along items first (end_part ∷ ps) ≡ 41 ∷ along items false ps
  end_then items first ps = one_more items first ps end_part

  -- ---- numbers

  module _ (items : Bool) where
    called_then : (first : Bool) (w : List ℕ) (rest : Text) → item first (w ++ 40 ∷ []) ++ rest ≡ item first (w ++ (40 ∷ rest))
    called_then first w rest = sym (item_then first (w ++ 40 ∷ []) rest) ∙ ap (item first) (append_assoc w (40 ∷ []) rest)

    mutual
      unfolding number_parts show_number numbers_parts show_numbers show_more

      number_is : (n : Number) (first : Bool) (ps : List Part) → along items first (number_parts n ++ ps) ≡ item first (show_number n (along items false ps))
      number_is (literal negative n) first ps =
          one_more items first ps (literal_part negative n)
          ∙ sym (item_then first (signed_text negative n) (along items false ps))
          ∙ ap (item first) (sym (signed_then negative n (along items false ps)))
      number_is (named w) first ps = one_more items first ps (name_part w) ∙ sym (item_then first w (along items false ps))
      number_is (called w ns) first ps =
          one_more items first (closed (numbers_parts ns) ++ ps) (function_part w)
          ∙ called_then first w (along items true (closed (numbers_parts ns) ++ ps))
          ∙ ap (λ (t : Text). item first (w ++ (40 ∷ t))) (ap (along items true) (closed_then (numbers_parts ns) ps) ∙ numbers_are ns ps)

      numbers_are : (ns : Numbers) (ps : List Part) → along items true (numbers_parts ns ++ end_part ∷ ps) ≡ show_numbers ns (along items false ps)
      numbers_are no_numbers ps = end_then items true ps
      numbers_are (next_number n ns) ps =
          ap (along items true) (append_assoc (number_parts n) (numbers_parts ns) (end_part ∷ ps))
          ∙ number_is n true (numbers_parts ns ++ end_part ∷ ps)
          ∙ ap (show_number n) (more_are ns ps)

      more_are : (ns : Numbers) (ps : List Part) → along items false (numbers_parts ns ++ end_part ∷ ps) ≡ show_more ns (along items false ps)
      more_are no_numbers ps = end_then items false ps
      more_are (next_number n ns) ps =
          ap (along items false) (append_assoc (number_parts n) (numbers_parts ns) (end_part ∷ ps))
          ∙ number_is n false (numbers_parts ns ++ end_part ∷ ps)
          ∙ ap (λ (t : Text). 44 ∷ 32 ∷ show_number n t) (more_are ns ps)

  -- ---- terms

  type_is : (ty : Option (List ℕ)) (ps : List Part) → along false false (type_parts ty ++ ps) ≡ show_type ty (along false false ps)
  type_is None ps = refl
  type_is (Some w) ps = one_more false false ps (type_part w)

  mutual
    unfolding term_parts show_term terms_parts show_terms show_next

    term_is : (t : Term) (first : Bool) (ps : List Part) → along false first (term_parts t ++ ps) ≡ item first (show_term t (along false false ps))
    term_is (operation name a ts ty) first ps =
        let trailing = (closed (terms_parts ts) ++ type_parts ty) ++ ps in
        let rest = show_type ty (along false false ps) in
        let e : along false true trailing ≡ show_terms ts rest =
        ap (along false true) (append_assoc (closed (terms_parts ts)) (type_parts ty) ps ∙ closed_then (terms_parts ts) (type_parts ty ++ ps))
        ∙ terms_are ts (type_parts ty ++ ps) ∙ ap (show_terms ts) (type_is ty ps) in
        one_more false first trailing (operation_part name a)
        ∙ sym (item_then first (name ++ show_requested a (40 ∷ [])) (along false true trailing))
        ∙ ap (item first) (append_assoc name (show_requested a (40 ∷ [])) (along false true trailing)
        ∙ ap (λ (t : Text). name ++ t) (sym (requested_then a (40 ∷ []) (along false true trailing)) ∙ ap (λ (t : Text). show_requested a (40 ∷ t)) e))
    term_is (value_of name ty) first ps =
        one_more false first (type_parts ty ++ ps) (value_part name)
        ∙ sym (item_then first (37 ∷ name) (along false false (type_parts ty ++ ps)))
        ∙ ap (λ (t : Text). item first (37 ∷ (name ++ t))) (type_is ty ps)
    term_is (constant_of n ty) first ps =
        ap (along false first) (append_assoc (number_parts n) (type_parts ty) ps)
        ∙ number_is false n first (type_parts ty ++ ps)
        ∙ ap (λ (t : Text). item first (show_number n t)) (type_is ty ps)

    terms_are : (ts : Terms) (ps : List Part) → along false true (terms_parts ts ++ end_part ∷ ps) ≡ show_terms ts (along false false ps)
    terms_are no_terms ps = end_then false true ps
    terms_are (next_term t ts) ps =
        ap (along false true) (append_assoc (term_parts t) (terms_parts ts) (end_part ∷ ps))
        ∙ term_is t true (terms_parts ts ++ end_part ∷ ps)
        ∙ ap (show_term t) (next_are ts ps)

    next_are : (ts : Terms) (ps : List Part) → along false false (terms_parts ts ++ end_part ∷ ps) ≡ show_next ts (along false false ps)
    next_are no_terms ps = end_then false false ps
    next_are (next_term t ts) ps =
        ap (along false false) (append_assoc (term_parts t) (terms_parts ts) (end_part ∷ ps))
        ∙ term_is t false (terms_parts ts ++ end_part ∷ ps)
        ∙ ap (λ (x : Text). 44 ∷ 32 ∷ show_term t x) (next_are ts ps)

  -- ---- conditions

  words_are : (ws : List (List ℕ)) (ps : List Part) → along true false (map type_part ws ++ end_part ∷ ps) ≡ show_words ws (along true false ps)
  words_are [] ps = end_then true false ps
  words_are (w ∷ ws) ps =
      one_more true false (map type_part ws ++ end_part ∷ ps) (type_part w)
      ∙ ap (λ (t : Text). 44 ∷ 32 ∷ (w ++ t)) (words_are ws ps)

  some_words_are : (ws : List (List ℕ)) (ps : List Part) → along true true (map type_part ws ++ end_part ∷ ps) ≡ show_some_words ws (along true false ps)
  some_words_are [] ps = end_then true true ps
  some_words_are (w ∷ ws) ps =
      one_more true true (map type_part ws ++ end_part ∷ ps) (type_part w) ∙ ap (λ (t : Text). w ++ t) (words_are ws ps)

  condition_is : (c : Constraint) (first : Bool) (ps : List Part) → along true first (condition_parts c ++ ps) ≡ item first (show_condition c (along true false ps))
  unfolding condition_parts
  condition_is (narrower ws) first ps =
      one_more true first (closed (map type_part ws) ++ ps) (condition_part (codes "narrower"))
      ∙ called_then true first (codes "narrower") (along true true (closed (map type_part ws) ++ ps))
      ∙ ap (λ (t : Text). item first (codes "narrower" ++ (40 ∷ t))) (ap (along true true) (closed_then (map type_part ws) ps) ∙ some_words_are ws ps)
  condition_is (asking w ns) first ps =
      one_more true first (closed (numbers_parts (numbers_of ns)) ++ ps) (condition_part w)
      ∙ called_then true first w (along true true (closed (numbers_parts (numbers_of ns)) ++ ps))
      ∙ ap (λ (t : Text). item first (w ++ (40 ∷ t))) (ap (along true true) (closed_then (numbers_parts (numbers_of ns)) ps) ∙ numbers_are true (numbers_of ns) ps)

-- ---- conditions, and a pattern

abbrev at_end : Bool → Bool → List Part → Text
at_end items first ps = parts_text items first ps ++ []

conditions_are : (cs : List Constraint) → at_end true false (conditions_parts cs) ≡ show_conditions cs
unfolding conditions_parts parts_text
conditions_are [] = refl
conditions_are (c ∷ cs) =
    condition_is [] c false (conditions_parts cs) ∙ ap (λ (t : Text). 44 ∷ 32 ∷ show_condition c t) (conditions_are cs)

where_first : (c : Constraint) (ps : List Part) → where_text (condition_parts c ++ ps) ≡ codes " where " ++ parts_text true true (condition_parts c ++ ps)
unfolding condition_parts
where_first (narrower ws) ps = refl
where_first (asking w ns) ps = refl

where_is : (cs : List Constraint) → where_text (conditions_parts cs) ≡ show_where cs
unfolding conditions_parts
where_is [] = refl
where_is (c ∷ cs) =
    where_first c (conditions_parts cs)
    ∙ ap (λ (t : Text). codes " where " ++ t)
    (sym (append-nil (parts_text true true (condition_parts c ++ conditions_parts cs))) ∙ condition_is [] c true (conditions_parts cs) ∙ ap (show_condition c) (conditions_are cs))

-- the text of a side, followed by `end`
side_is : (t : Term) (end : Text) → parts_text false true (term_parts t) ++ end ≡ show_term t end
unfolding parts_text
side_is t end = ap (λ (ps : List Part). parts_text false true ps ++ end) (sym (append-nil (term_parts t))) ∙ term_is end t true []

pub is_text_of : IsTextOf
unfolding pattern_text
is_text_of p q a =
    let old = side_is q.old (codes " => " ++ (parts_text false true (term_parts q.new) ++ where_text (conditions_parts q.conditions))) in
    let new = side_is q.new (where_text (conditions_parts q.conditions)) ∙ ap (show_term q.new) (where_is q.conditions) in
    (λ i.
    a.name i ++ (32 ∷ (parts_text false true (a.old i) ++ (codes " => " ++ (parts_text false true (a.new i) ++ where_text (a.conditions i))))))
    ∙ ap (λ (t : Text). q.name ++ (32 ∷ t)) (old ∙ ap (λ (t : Text). show_term q.old (codes " => " ++ t)) new)

-- ---- again

pub spells_again : SpellsAgain
spells_again text p q s a =
    let again = read_again q (pattern_fits q text s.1.0 s.1.1) in
    pattern_exact.found (pattern_text p) [] q (ap read (is_text_of p q a) ∙ again)
