-- The parser and the grammar of types agree.
use Rattle.std.proofs.Common.{◌≡◌, ◌<◌, ℕ, zero, suc, Bool, true, false, List, [], ◌∷◌, length, map, Option, Some, None, slice_get, refl, sym, ap, subst, ◌∙◌, ◌⊎◌, inl, inr, ⊎_elim}
use Rattle.std.specs.Prelude.{option_map, if◌then◌else◌, ◌&&◌, ◌==◌, not, nat_le}
use Rattle.std.specs.List.{All, AllByRecursion, list_any, list_all}
use Rattle.std.specs.Str.{bytes_eq}
use Rattle.std.specs.Char.{is_ascii_digit}
use Rattle.std.proofs.lemmas.Option.{slice_get_within}
use Rattle.std.proofs.lemmas.List.Elements.{All-from_recursion}
use Rattle.ir_text_tokens.specs.declared.token.Mark.TheVariants.{OpenRound, CloseRound, Less, Greater, Arrow}
use Rattle.ir_text_tokens.specs.Numbers.{integer_of}
use Rattle.ir_text_tokens.specs.Tokens.{Lexeme, bare, bang, next}
use Rattle.ir_types.specs.declared.node.Sign.{Sign}
use Rattle.ir_types.specs.declared.node.Sign.TheVariants.{Signless, Signed, Unsigned}
use Rattle.ir_types.specs.declared.node.TypeNode.{TypeNode}
use Rattle.ir_types.specs.declared.node.TypeNode.TheVariants as node
use Rattle.ir_types.specs.declared.refusal.Refusal.{Refusal}
use Rattle.ir_types.specs.declared.refusal.Refusal.TheVariants.{BadValue, TooMany}
use Rattle.ir_types.specs.Things.{ContextModel, TypeIsOf, IsExtendedBy}
use Rattle.ir_types.specs.Things as of
use Rattle.ir_types.specs.Terms.{TypeTerm, TypeTerms, Function, type_from, type_terms, type_term, type_node_term}
use Rattle.ir_types.specs.Terms as terms
use Rattle.ir_types.specs.Same.{same_type}
use Rattle.ir_types.specs.Interning.{with_type}
use Rattle.ir_types.specs.Reasons.{is_width, is_dimension, first_reason, full_reason, depth_reason, type_fault, type_reason}
use Rattle.ir_types.specs.Depths.{type_depth}
use Rattle.ir_types.specs.Sound.{IsSound}
use Rattle.ir_types.proofs.Growth.{grows_refl, grows_trans, grows_type}
use Rattle.ir_types.proofs.Terms.{type_term_is}
use Rattle.ir_types.proofs.CallNumbers.{type_stands, place_in}
use Rattle.ir_types.proofs.AcceptedCalls.{accepted_type, neither_back, neither}
use Rattle.ir_text_types.specs.Outcomes.{Outcome, Read, Wrong, Full, ◌>>=◌, of_option, interned, Parse}
use Rattle.ir_text_types.specs.Typed.{Typed, after_typed, type_step}
use Rattle.ir_text_types.specs.Scalars.{within, width_of, begins_zero, signed_of_word, integer_type_of, scalar_of, index_word, memref_word}
use Rattle.ir_text_types.specs.OpaqueTypes.{is_opaque_word, word_text, dialect_text}
use Rattle.ir_text_types.specs.ShapeGrammar.{IsShape}
use Rattle.ir_text_types.specs.ShapeReading.{dimensions_at}
use Rattle.ir_text_types.specs.TypeReading.{many, type_done, scalar_from, scalar_at, scalar_done, shape_at, opaque_done, word_from, word_type_from, word_type_at, element_at, memref_at, types_at, outputs_from, outputs_at, signature_at, function_at, type_from as type_read_from, type_at, function_type_at}
use Rattle.ir_text_types.specs.Grammars.{Grammar, Then, Done, DoneIf, After, IsMark, Token}
use Rattle.ir_text_types.specs.TypeGrammar.{types_of, IsScalar, IsOpaque, IsWordFrom, IsAfter, IsWordType, IsElement, IsMemref, IsTypes, IsOutputs, IsSignature, IsFunction, IsType, IsFunctionType}
use Rattle.ir_text_types.specs.Worlds.{From}
use Rattle.ir_text_types.specs.Denotation.{TypeDenotes}
use Rattle.ir_text_types.specs.Laws.{TypesDenote, SignatureDenotes}
use Rattle.ir_text_types.proofs.Worlds.{bind_read, option_read, Exact, Step, Comes, Reads, step_on, reads_on, exact_rendered, nothing_exact, choice_exact, guard_exact, some_exact, then_exact, done_exact, after_exact, either_exact, list_exact}
use Rattle.ir_text_types.proofs.TextLaws.{things, Same, text_now, typed_marks}
use Rattle.ir_text_types.proofs.TokenLaws.{text_exact, trailing_exact, token_exact}
use Rattle.ir_text_types.proofs.ShapeLaws.{dimensions_only, dimensions_found}

-- ---- a node that is interned

pub read_interned : {A : Type 0} (reason : Option Refusal) (x y : A) → interned reason x ≡ Read y → (reason ≡ None) × (x ≡ y)
read_interned None x y e = (refl, cc)
read_interned (Some TooMany) x y e = absurd cc
read_interned (Some _) x y e = absurd cc

-- a full list is refused for that reason alone
pub full_cases : {A : Type 0} (is : A → Bool) (xs : List A) → (full_reason is xs ≡ None) ⊎ (full_reason is xs ≡ Some TooMany)
full_cases is xs = by_case (not (list_any is xs) && nat_le 16777216 (length xs))
  where
    by_case : (b : Bool) → ((if b then Some TooMany else None) ≡ None) ⊎ ((if b then Some TooMany else None) ≡ Some TooMany)
    by_case true = inr refl
    by_case false = inl refl

-- the context z has the parts of the node, and the node denotes y
abbrev pub IsNodeOf : TypeNode → TypeTerm → ContextModel → Type 0
IsNodeOf node y z = TypeIsOf z node × (type_node_term z node ≡ y)

abbrev moved : Typed → ℕ × ContextModel → ℕ × Typed
moved s n = (n.0, (s.0, n.1))

abbrev done : ℕ × Typed → Outcome (ℕ × Typed)
done x = Read x

done_step : (node : TypeNode) (y : TypeTerm) (s : Typed) (t : List ℕ) → IsSound s.1 → s.0 ≡ t → From (IsNodeOf node y) s.1 → type_reason node s.1 ≡ None → Step things Same TypeDenotes s (with_type node s.1).0 y (s.0, (with_type node s.1).1) t
done_step node y s t sound same r fine = record {
  grows = grows_type node s.1;
  sound = accepted_type node s.1 sound (r s.1 (grows_refl s.1) sound).0 fine;
  stands = λ z g w.
      let n = (with_type node s.1).0 in
      let at : slice_get z.types n ≡ Some node = place_in ((with_type node s.1).1).types z.types n node g.types (type_stands node s.1) in
      (slice_get_within z.types n node at, type_term_is z n node w.holds at ∙ (r z (grows_trans s.1 (with_type node s.1).1 z (grows_type node s.1) g) w).1);
  agree = λ z g w. same;
}

pub type_done_exact : (c : ContextModel) (node : TypeNode) (y : TypeTerm) → From (IsNodeOf node y) c → Exact things Same c TypeDenotes (type_done node) (DoneIf (type_fault y ≡ None) y)
unfolding type_done type_step
type_done_exact c node y r = record {
  found = λ s t x s' g sound h e.
      let b = bind_read (type_step node s.1) (λ n. Read (moved s n)) (x, s') e in
      let a = read_interned (type_reason node s.1) (with_type node s.1) b.0 b.1 in
      let same : moved s (with_type node s.1) ≡ (x, s') = ap (moved s) a.1 ∙ cc (b.2) in
      let no_fault = (neither (type_fault (type_node_term s.1 node)) (full_reason (same_type node) s.1.types) a.0).0 in
      let r' : From (IsNodeOf node y) s.1 = λ z k w. r z (grows_trans c s.1 z g k) w in
      subst (λ (q : ℕ × Typed). Comes things Same TypeDenotes (DoneIf (type_fault y ≡ None) y) s t q.0 q.1) same
      (y, t, (subst (λ y'. type_fault y' ≡ None) (r s.1 g sound).1 no_fault, refl, refl), done_step node y s t sound (text_now s t sound h) r' a.0);
  only = λ s t y' t' g sound h k.
      let r' : From (IsNodeOf node y) s.1 = λ z k w. r z (grows_trans c s.1 z g k) w in
      let no_fault : type_fault (type_node_term s.1 node) ≡ None = subst (λ y'. type_fault y' ≡ None) (sym (r s.1 g sound).1) k.0 in
      rw (k.1, k.2) (⊎_elim
      (λ (f : full_reason (same_type node) s.1.types ≡ None).
      let fine : type_reason node s.1 ≡ None = neither_back (type_fault (type_node_term s.1 node)) (full_reason (same_type node) s.1.types) no_fault f in
      subst (λ o. Reads things Same TypeDenotes s (interned o (with_type node s.1) >>= λ n. Read (moved s n)) y t) (sym fine)
      (inr ((with_type node s.1).0, (s.0, (with_type node s.1).1), refl, done_step node y s t sound (text_now s t sound h) r' fine)))
      (λ (f : full_reason (same_type node) s.1.types ≡ Some TooMany). inl (rw (no_fault, f) refl))
      (full_cases (same_type node) s.1.types));
}

-- ---- types of one word

abbrev IsWord : TypeNode → Type 0
IsWord (node.Int sign width) = is_width width ≡ true
IsWord node.Index = Unit {0}
IsWord _ = ⊥

choose : (b : Bool) (x y : Option TypeNode) (z : TypeNode) → (x ≡ Some z → IsWord z) → (y ≡ Some z → IsWord z) → (if b then x else y) ≡ Some z → IsWord z
choose true x y z f g e = f e
choose false x y z f g e = g e

no_word : (z : TypeNode) → None ≡ Some z → IsWord z
no_word z e = absurd cc

width_word : (sign : Sign) (b : Bool) (w : ℕ) (z : TypeNode) → option_map (node.Int sign) (if b then within w else None) ≡ Some z → IsWord z
width_word sign false w z e = absurd cc
width_word sign true w z e = by_case (is_width w) refl e
  where
    by_case : (t : Bool) → is_width w ≡ t → option_map (node.Int sign) (if t then Some w else None) ≡ Some z → IsWord z
    by_case true h e = let same : node.Int sign w ≡ z = cc in subst IsWord same h
    by_case false h e = absurd cc

abbrev sized : Sign → List ℕ → Option TypeNode
sized sign ds = option_map (node.Int sign) (width_of ds)

sized_word : (sign : Sign) (ds : List ℕ) (z : TypeNode) → sized sign ds ≡ Some z → IsWord z
sized_word sign ds z e = width_word sign (not (begins_zero ds) && list_all is_ascii_digit ds) (integer_of ds) z e

abbrev unsigned_of : ℕ → List ℕ → Option TypeNode
unsigned_of c ds = if c == 117 then sized Unsigned ds else None

signed_word : (c : ℕ) (ds : List ℕ) (z : TypeNode) → signed_of_word c ds ≡ Some z → IsWord z
signed_word c [] z e = absurd cc
signed_word c (d ∷ ds) z e =
    choose (d == 105) (if c == 115 then sized Signed ds else unsigned_of c ds) None z
    (choose (c == 115) (sized Signed ds) (unsigned_of c ds) z (sized_word Signed ds z) (choose (c == 117) (sized Unsigned ds) None z (sized_word Unsigned ds z) (no_word z)))
    (no_word z) e

integer_word : (word : List ℕ) (z : TypeNode) → integer_type_of word ≡ Some z → IsWord z
integer_word [] z e = absurd cc
integer_word (c ∷ ds) z e = choose (c == 105) (sized Signless ds) (signed_of_word c ds) z (sized_word Signless ds z) (signed_word c ds z) e

pub scalar_word : (word : List ℕ) (z : TypeNode) → scalar_of word ≡ Some z → IsWord z
unfolding scalar_of
scalar_word word z e = choose (bytes_eq word index_word) (Some node.Index) (integer_type_of word) z (λ h. let same : node.Index ≡ z = cc in subst IsWord same tt) (integer_word word z) e

word_stands : (z : TypeNode) (c : ContextModel) → IsWord z → IsNodeOf z (type_from [] z) c
word_stands (node.Int sign width) c h = (tt, refl)
word_stands node.Index c h = (tt, refl)
word_stands (node.Func inputs outputs) c h = absurd h
word_stands (node.Memref dims elem) c h = absurd h
word_stands (node.Opaque text) c h = absurd h

word_fine : (z : TypeNode) → IsWord z → type_fault (type_from [] z) ≡ None
word_fine (node.Int sign width) h = rw h refl
word_fine node.Index h = refl
word_fine (node.Func inputs outputs) h = absurd h
word_fine (node.Memref dims elem) h = absurd h
word_fine (node.Opaque text) h = absurd h

scalar_found : (s : Typed) (t : List ℕ) (x : ℕ) (s' : Typed) (l : Lexeme) (rest : List ℕ) → next s.0 ≡ Some (l, rest) → IsSound s.1 → s.0 ≡ t → scalar_from s.1 l rest ≡ Read (x, s') → Comes things Same TypeDenotes IsScalar s t x s'
scalar_found s t x s' (bare word) rest token sound same e =
    let o = option_read (scalar_of word) (λ node. type_done node (rest, s.1)) (x, s') e in
    let w = scalar_word word o.0 o.1 in
    let n = (type_done_exact s.1 o.0 (type_from [] o.0) (λ z g k. word_stands o.0 z w)).found (rest, s.1) rest x s' (grows_refl s.1) sound (λ z g k. refl) o.2 in
    let read : Token (bare word) t n.1 = subst (λ b. Token (bare word) b n.1) same (rw n.2.2 token) in
    (n.0, n.1, (word, o.0, read, o.1, n.2.1), step_on things Same TypeDenotes s (rest, s.1) x n.0 s' n.1 (grows_refl s.1) n.3)
scalar_found s t x s' _ rest token sound same e = absurd cc

pub scalar_exact : (c : ContextModel) → Exact things Same c TypeDenotes scalar_at IsScalar
unfolding scalar_at
scalar_exact c = record {
  found = λ s t x s' g sound h e.
      let b = option_read (next s.0) (λ l. scalar_from s.1 l.0 l.1) (x, s') e in
      scalar_found s t x s' b.0.0 b.0.1 b.1 sound (text_now s t sound h) b.2;
  only = λ s t y t' g sound h k.
      let token : next s.0 ≡ Some (bare k.0, t') = subst (λ b. Token (bare k.0) b t') (sym (text_now s t sound h)) k.2 in
      let w = scalar_word k.0 k.1 k.3 in
      rw (token, k.3) (reads_on things Same TypeDenotes s (t', s.1) (type_done k.1 (t', s.1)) y t' (grows_refl s.1)
      ((type_done_exact s.1 k.1 (type_from [] k.1) (λ z g k'. word_stands k.1 z w)).only (t', s.1) t' y t' (grows_refl s.1) sound (λ z g k'. refl) (word_fine k.1 w, k.4, refl)));
}

-- ---- memrefs

-- no dimension is too large
abbrev IsGoodShape : Grammar (List ℕ) (List (Option ℕ))
IsGoodShape dims old new = (list_all is_dimension dims ≡ true) × IsShape many dims old new

shape_exact : (c : ContextModel) → Exact things Same c (λ z x y. x ≡ y) shape_at IsGoodShape
shape_exact c = text_exact c (dimensions_at many []) IsGoodShape found (λ t t' x k. dimensions_only many [] x t t' k.0 k.1.0 k.1.1)
  where
    found : (t t' : List ℕ) (x : List (Option ℕ)) → dimensions_at many [] t ≡ Some (x, t') → IsGoodShape x t t'
    found t t' x e =
        let f = dimensions_found many [] x t t' e in
        subst (λ ds. IsGoodShape ds t t') (sym f.1) (f.2, f.3)

dims_fine : (dims : List (Option ℕ)) (elem : TypeTerm) → type_fault (terms.Memref dims elem) ≡ None → list_all is_dimension dims ≡ true
dims_fine dims elem e = by_case (list_all is_dimension dims) refl e
  where
    by_case : (b : Bool) → list_all is_dimension dims ≡ b → first_reason (if b then None else Some BadValue) (depth_reason (type_depth (terms.Memref dims elem))) ≡ None → list_all is_dimension dims ≡ true
    by_case true h e = h
    by_case false h e = absurd cc

memref_stands : (z : ContextModel) (dims ds : List (Option ℕ)) (n : ℕ) (y : TypeTerm) → dims ≡ ds → TypeDenotes z n y → IsNodeOf (node.Memref dims n) (terms.Memref ds y) z
memref_stands z dims ds n y e h = (h.0, λ i. terms.Memref (e i) (h.1 i))

-- the type of a word, if it has one
node_exact : (word : List ℕ) (c : ContextModel) (o : Option TypeNode) → scalar_of word ≡ o
    → Exact things Same c TypeDenotes (λ s. of_option o >>= λ n. type_done n s) (λ y old new. (n : TypeNode) × (o ≡ Some n) × (y ≡ type_from [] n) × (new ≡ old))
node_exact word c None e =
    exact_rendered things Same c TypeDenotes (λ s. Wrong) (λ y old new. ⊥) (λ y old new. (n : TypeNode) × (None ≡ Some n) × (y ≡ type_from [] n) × (new ≡ old))
    (λ y t t' k. absurd k) (λ y t t' k. let no : None ≡ Some k.0 = k.1 in absurd cc) (nothing_exact things Same c TypeDenotes)
node_exact word c (Some v) e =
    let w = scalar_word word v e in
    exact_rendered things Same c TypeDenotes (type_done v) (DoneIf (type_fault (type_from [] v) ≡ None) (type_from [] v)) (λ y old new. (n : TypeNode) × (Some v ≡ Some n) × (y ≡ type_from [] n) × (new ≡ old))
    (λ y t t' k. (v, refl, k.1, k.2)) (λ y t t' k. let same : v ≡ k.0 = cc (k.1) in (word_fine v w, k.2 ∙ ap (type_from []) (sym same), k.3))
    (type_done_exact c v (type_from [] v) (λ z g k. word_stands v z w))

-- ---- opaque types

opaque_exact : (found : Option (List ℕ × List ℕ)) (c : ContextModel) → Exact things Same c TypeDenotes (λ s. opaque_done found s.1) (λ y old new. IsOpaque found y new)
opaque_exact found c =
    exact_rendered things Same c TypeDenotes (λ s. opaque_done found s.1)
    (λ y old new. (x : List ℕ × List ℕ) × (found ≡ Some x) × DoneIf (type_fault (terms.OpaqueType x.0) ≡ None) (terms.OpaqueType x.0) y x.1 new)
    (λ y old new. IsOpaque found y new)
    (λ y t t' k. (k.0, k.1, k.2.1, k.2.2)) (λ y t t' k. (k.0, k.1, (refl, k.2, k.3)))
    (some_exact things Same c TypeDenotes found (λ x s. type_done (node.Opaque x.0) (x.1, s.1)) (λ x y old new. DoneIf (type_fault (terms.OpaqueType x.0) ≡ None) (terms.OpaqueType x.0) y x.1 new)
    (λ x. trailing_exact c TypeDenotes x.1 (type_done (node.Opaque x.0)) (DoneIf (type_fault (terms.OpaqueType x.0) ≡ None) (terms.OpaqueType x.0)) (type_done_exact c (node.Opaque x.0) (terms.OpaqueType x.0) (λ z g w. (tt, refl)))))

-- ---- types that begin with a word or a dialect's name

module _ (o : Bool) (m : Parse Typed ℕ) (M : Grammar (List ℕ) TypeTerm) (inner : (c : ContextModel) → Exact things Same c TypeDenotes m M) where
  word_exact : (b memref : Bool) (word rest : List ℕ) (c : ContextModel) → Exact things Same c TypeDenotes (λ s. word_from m b memref word rest s.1) (λ y old new. IsWordFrom M b memref word y rest new)
  word_exact true memref word rest c = opaque_exact (word_text word rest) c
  word_exact false true word rest c = trailing_exact c TypeDenotes rest m M (inner c)
  word_exact false false word rest c =
      trailing_exact c TypeDenotes rest (scalar_done word) (λ y old new. (n : TypeNode) × (scalar_of word ≡ Some n) × (y ≡ type_from [] n) × (new ≡ old)) (node_exact word c (scalar_of word) refl)

  after_word : (c : ContextModel) (l : Lexeme) (rest : List ℕ) → Exact things Same c TypeDenotes (λ s. word_type_from o m s.1 l rest) (λ y old new. IsAfter o M l y rest new)
  after_word c (bare word) rest = word_exact (o && is_opaque_word word rest) (bytes_eq word memref_word) word rest c
  after_word c (bang name) rest = guard_exact things Same c TypeDenotes o (λ s. opaque_done (dialect_text 33 name rest) s.1) (λ y old new. IsOpaque (dialect_text 33 name rest) y new) (opaque_exact (dialect_text 33 name rest) c)
  after_word c _ rest = nothing_exact things Same c TypeDenotes

  pub word_type_exact : (c : ContextModel) → Exact things Same c TypeDenotes (word_type_at o m) (IsWordType o M)
  unfolding word_type_at
  word_type_exact c = token_exact c TypeDenotes (λ s l rest. word_type_from o m s.1 l rest) (λ l rest y old new. IsAfter o M l y rest new) (after_word c)

  pub element_exact : (c : ContextModel) → Exact things Same c TypeDenotes (element_at o m) (IsElement o M)
  element_exact c = choice_exact things Same c TypeDenotes o (word_type_at o m) scalar_at (IsWordType o M) IsScalar (word_type_exact c) (scalar_exact c)

-- the text after the dimensions
abbrev Elements : Bool → ℕ → List (Option ℕ) → Grammar (List ℕ) TypeTerm
Elements o depth dims = Then (IsElement o (IsMemref o depth)) (λ elem. After IsMark Greater (DoneIf (type_fault (terms.Memref dims elem) ≡ None) (terms.Memref dims elem)))

pub memref_exact : (o : Bool) (depth : ℕ) (c : ContextModel) → Exact things Same c TypeDenotes (memref_at o depth) (IsMemref o depth)
unfolding memref_at IsMemref
memref_exact o zero c = record { found = λ s t x s' g sound h e. absurd cc; only = λ s t y t' g sound h k. absurd k }
memref_exact o (suc depth) c =
    exact_rendered things Same c TypeDenotes (memref_at o (suc depth)) (After IsMark Less (Then IsGoodShape (Elements o depth))) (IsMemref o (suc depth))
    (λ y t t' k. (k.0, k.1, (k.2.0, k.2.1, k.2.2.1, k.2.3)))
    (λ y t t' k. (k.0, k.1, (k.2.0, k.2.1, (dims_fine k.2.0 k.2.3.0 k.2.3.3.2.0, k.2.2), k.2.3)))
    (after_exact things Same after_typed IsMark typed_marks c TypeDenotes Less _ _
    (then_exact things Same c (λ z x y. x ≡ y) TypeDenotes shape_at IsGoodShape _ (Elements o depth) (shape_exact c) (λ d dims ds g r.
    then_exact things Same d TypeDenotes TypeDenotes (element_at o (memref_at o depth)) (IsElement o (IsMemref o depth)) _ _ (element_exact o (memref_at o depth) (IsMemref o depth) (memref_exact o depth) d) (λ e n y h k.
    after_exact things Same after_typed IsMark typed_marks e TypeDenotes Greater _ _
    (type_done_exact e (node.Memref dims n) (terms.Memref ds y) (λ z l w. memref_stands z dims ds n y (r z (grows_trans d e z h l) w) (k z l w)))))))

-- ---- types in parentheses

each_below : (z : ContextModel) (xs : List ℕ) (ys : List TypeTerm) → TypesDenote z xs ys → AllByRecursion (λ t. t < length z.types) xs
each_below z [] [] h = tt
each_below z [] (y ∷ ys) h = absurd h
each_below z (x ∷ xs) [] h = absurd h
each_below z (x ∷ xs) (y ∷ ys) h = (h.0.0, each_below z xs ys h.1)

each_term : (z : ContextModel) (xs : List ℕ) (ys : List TypeTerm) → TypesDenote z xs ys → terms.types_at (type_terms z) xs ≡ types_of ys
each_term z [] [] h = refl
each_term z [] (y ∷ ys) h = absurd h
each_term z (x ∷ xs) [] h = absurd h
each_term z (x ∷ xs) (y ∷ ys) h = λ i. terms.next_type (h.0.1 i) (each_term z xs ys h.1 i)

pub func_stands : (z : ContextModel) (x : List ℕ × List ℕ) (y : List TypeTerm × List TypeTerm) → SignatureDenotes z x y → IsNodeOf (node.Func x.0 x.1) (Function (types_of y.0) (types_of y.1)) z
func_stands z x y h = (
  (All-from_recursion (λ t. t < length z.types) x.0 (each_below z x.0 y.0 h.0), All-from_recursion (λ t. t < length z.types) x.1 (each_below z x.1 y.1 h.1)),
  λ i. Function (each_term z x.0 y.0 h.0 i) (each_term z x.1 y.1 h.1 i),
)

module _ (p : Parse Typed ℕ) (P : Grammar (List ℕ) TypeTerm) (item : (c : ContextModel) → Exact things Same c TypeDenotes p P) where
  pub types_exact : (headroom : ℕ) (c : ContextModel) → Exact things Same c TypesDenote (types_at p headroom) (IsTypes P headroom)
  unfolding types_at IsTypes
  types_exact headroom c = list_exact things Same after_typed IsMark typed_marks TypeDenotes CloseRound (λ before. p) (λ before. P) (λ d xs ys r. item d) headroom c

  pub outputs_exact : (headroom : ℕ) (c : ContextModel) → Exact things Same c TypesDenote (outputs_at p headroom) (IsOutputs P headroom)
  unfolding outputs_at IsOutputs
  outputs_exact headroom c =
      either_exact things Same after_typed IsMark typed_marks c TypesDenote OpenRound (outputs_from p headroom) (types_at p headroom) (λ s. p s >>= λ x. Read (x.0 ∷ [], x.1)) (IsTypes P headroom) (Then P (λ y. Done (y ∷ [])))
      (λ s mid. refl) (λ s. refl) (types_exact headroom c)
      (then_exact things Same c TypeDenotes TypesDenote p P (λ x s. Read (x ∷ [], s)) (λ y. Done (y ∷ [])) (item c) (λ d x y g r.
      done_exact things Same d TypesDenote (x ∷ []) (y ∷ []) (λ z k w. (r z k w, tt))))

  pub signature_exact : (headroom : ℕ) (c : ContextModel) → Exact things Same c SignatureDenotes (signature_at p headroom) (IsSignature P headroom)
  unfolding signature_at IsSignature
  signature_exact headroom c =
      then_exact things Same c TypesDenote SignatureDenotes _ _ _ _ (types_exact many c) (λ d inputs ins g r.
      after_exact things Same after_typed IsMark typed_marks d SignatureDenotes Arrow _ _ (then_exact things Same d TypesDenote SignatureDenotes _ _ _ _ (outputs_exact headroom d) (λ e outputs outs h k.
      done_exact things Same e SignatureDenotes (inputs, outputs) (ins, outs) (λ z l w. (r z (grows_trans d e z h l) w, k z l w)))))

  pub function_exact : (c : ContextModel) → Exact things Same c TypeDenotes (function_at p) (IsFunction P)
  unfolding function_at IsFunction
  function_exact c =
      then_exact things Same c SignatureDenotes TypeDenotes (signature_at p many) (IsSignature P many) (λ x. type_done (node.Func x.0 x.1)) (λ y. DoneIf (type_fault (Function (types_of y.0) (types_of y.1)) ≡ None) (Function (types_of y.0) (types_of y.1)))
      (signature_exact many c) (λ d x y g r. type_done_exact d (node.Func x.0 x.1) (Function (types_of y.0) (types_of y.1)) (λ z k w. func_stands z x y (r z k w)))

-- ---- types, and the function types of operations

pub type_exact : (o : Bool) (depth : ℕ) (c : ContextModel) → Exact things Same c TypeDenotes (type_at o depth) (IsType o depth)
unfolding type_at IsType
type_exact o zero c = record { found = λ s t x s' g sound h e. absurd cc; only = λ s t y t' g sound h k. absurd k }
type_exact o (suc depth) c =
    either_exact things Same after_typed IsMark typed_marks c TypeDenotes OpenRound (type_read_from (type_at o depth) (word_type_at o (memref_at o (suc depth)))) (function_at (type_at o depth)) (word_type_at o (memref_at o (suc depth))) (IsFunction (IsType o depth)) (IsWordType o (IsMemref o (suc depth)))
    (λ s mid. refl) (λ s. refl) (function_exact (type_at o depth) (IsType o depth) (type_exact o depth) c) (word_type_exact o (memref_at o (suc depth)) (IsMemref o (suc depth)) (memref_exact o (suc depth)) c)

pub function_type_exact : (o : Bool) (c : ContextModel) → Exact things Same c SignatureDenotes (function_type_at o) (IsFunctionType o)
unfolding function_type_at IsFunctionType
function_type_exact o c =
    after_exact things Same after_typed IsMark typed_marks c SignatureDenotes OpenRound (signature_at (type_at o 32) 256) (IsSignature (IsType o 32) 256) (signature_exact (type_at o 32) (IsType o 32) (type_exact o 32) 256 c)

-- ---- from a text

pub type_read : (o : Bool) (depth : ℕ) (c d : ContextModel) (bytes rest : List ℕ) (n : ℕ) → IsSound c → type_at o depth (bytes, c) ≡ Read (n, (rest, d)) → IsExtendedBy c d × IsSound d × of.IsType d n × IsType o depth (type_term d n) bytes rest
type_read o depth c d bytes rest n sound e =
    let f = (type_exact o depth c).found (bytes, c) bytes n (rest, d) (grows_refl c) sound (λ z g w. refl) e in
    let r = f.3.stands d (grows_refl d) f.3.sound in
    let rendered : IsType o depth (type_term d n) bytes f.1 = subst (λ y. IsType o depth y bytes f.1) (sym r.1) f.2 in
    (f.3.grows, f.3.sound, r.0, subst (λ b. IsType o depth (type_term d n) bytes b) (sym (text_now (rest, d) f.1 f.3.sound f.3.agree)) rendered)

abbrev pair : {A : Type 0} → A → ContextModel → List ℕ → Outcome (A × Typed)
pair x d b = Read (x, (b, d))

pub type_rendered : (o : Bool) (depth : ℕ) (c : ContextModel) (bytes rest : List ℕ) (y : TypeTerm) → IsSound c → IsType o depth y bytes rest → (type_at o depth (bytes, c) ≡ Full) ⊎ ((n : ℕ) × (d : ContextModel) × (type_at o depth (bytes, c) ≡ Read (n, (rest, d))) × IsExtendedBy c d × IsSound d × TypeDenotes d n y)
type_rendered o depth c bytes rest y sound k = ⊎_elim
    (λ (e : type_at o depth (bytes, c) ≡ Full). inl e)
    (λ (f : (n : ℕ) × (s : Typed) × (type_at o depth (bytes, c) ≡ Read (n, s)) × Step things Same TypeDenotes (bytes, c) n y s rest).
    inr (f.0, f.1.1, f.2 ∙ ap (pair f.0 f.1.1) (text_now f.1 rest f.3.sound f.3.agree), f.3.grows, f.3.sound, f.3.stands f.1.1 (grows_refl f.1.1) f.3.sound))
    ((type_exact o depth c).only (bytes, c) bytes y rest (grows_refl c) sound (λ z g w. refl) k)

-- ---- and function types

stand_map : (z : ContextModel) (xs : List ℕ) (ys : List TypeTerm) → TypesDenote z xs ys → All (of.IsType z) xs × (map (type_term z) xs ≡ ys)
stand_map z xs ys h = (All-from_recursion (of.IsType z) xs (each_below z xs ys h), terms_are z xs ys h)
  where
    terms_are : (z : ContextModel) (xs : List ℕ) (ys : List TypeTerm) → TypesDenote z xs ys → map (type_term z) xs ≡ ys
    terms_are z [] [] h = refl
    terms_are z [] (y ∷ ys) h = absurd h
    terms_are z (x ∷ xs) [] h = absurd h
    terms_are z (x ∷ xs) (y ∷ ys) h = λ i. h.0.1 i ∷ terms_are z xs ys h.1 i

pub function_type_read : (o : Bool) (c d : ContextModel) (bytes rest : List ℕ) (x : List ℕ × List ℕ) → IsSound c → function_type_at o (bytes, c) ≡ Read (x, (rest, d))
    → IsExtendedBy c d × IsSound d × All (of.IsType d) x.0 × All (of.IsType d) x.1 × IsFunctionType o (map (type_term d) x.0, map (type_term d) x.1) bytes rest
function_type_read o c d bytes rest x sound e =
    let f = (function_type_exact o c).found (bytes, c) bytes x (rest, d) (grows_refl c) sound (λ z g w. refl) e in
    let r = f.3.stands d (grows_refl d) f.3.sound in
    let ins = stand_map d x.0 f.0.0 r.0 in
    let outs = stand_map d x.1 f.0.1 r.1 in
    let y : List TypeTerm × List TypeTerm = (map (type_term d) x.0, map (type_term d) x.1) in
    let same : f.0 ≡ y = λ i. (sym ins.1 i, sym outs.1 i) in
    let rendered : IsFunctionType o y bytes f.1 = subst (λ y'. IsFunctionType o y' bytes f.1) same f.2 in
    (f.3.grows, f.3.sound, ins.0, outs.0, subst (λ b. IsFunctionType o y bytes b) (sym (text_now (rest, d) f.1 f.3.sound f.3.agree)) rendered)

pub function_type_rendered : (o : Bool) (c : ContextModel) (bytes rest : List ℕ) (y : List TypeTerm × List TypeTerm) → IsSound c → IsFunctionType o y bytes rest
    → (function_type_at o (bytes, c) ≡ Full) ⊎ ((x : List ℕ × List ℕ) × (d : ContextModel) × (function_type_at o (bytes, c) ≡ Read (x, (rest, d))) × IsExtendedBy c d × IsSound d × SignatureDenotes d x y)
function_type_rendered o c bytes rest y sound k = ⊎_elim
    (λ (e : function_type_at o (bytes, c) ≡ Full). inl e)
    (λ (f : (x : List ℕ × List ℕ) × (s : Typed) × (function_type_at o (bytes, c) ≡ Read (x, s)) × Step things Same SignatureDenotes (bytes, c) x y s rest).
    inr (f.0, f.1.1, f.2 ∙ ap (pair f.0 f.1.1) (text_now f.1 rest f.3.sound f.3.agree), f.3.grows, f.3.sound, f.3.stands f.1.1 (grows_refl f.1.1) f.3.sound))
    ((function_type_exact o c).only (bytes, c) bytes y rest (grows_refl c) sound (λ z g w. refl) k)
