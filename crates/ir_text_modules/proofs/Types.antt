-- A printed type is parsed back. `o` says whether opaque types are allowed.
use Rattle.std.proofs.Common.{◌≡◌, ℕ, zero, suc, ◌+◌, ◌≤◌, Bool, true, false, List, [], ◌∷◌, ◌++◌, map, length, flat_map, Option, Some, None, refl, sym, ap, subst, ◌∙◌, append_assoc, arith, inl, inr}
use Rattle.std.specs.Prelude.{◌&&◌, nat_le, if◌then◌else◌, codes}
use Rattle.std.specs.Fmt.{decimal}
use Rattle.std.proofs.lemmas.Bool.Decides.{nat_tests}
use Rattle.ir_types.specs.declared.node.TypeNode.TheVariants.{Int}
use Rattle.ir_types.specs.declared.node.TypeNode.TheVariants as node
use Rattle.ir_types.specs.Terms.{TypeTerm, Integer, Index, Function, Memref, OpaqueType, TypeTerms, no_types, next_type}
use Rattle.ir_types.specs.Depths.{is_scalar, type_depth, types_depth}
use Rattle.std.specs.List.{AllByRecursion, list_all}
use Rattle.ir_types.specs.SameTypes.{type_list}
use Rattle.ir_types.specs.Reasons.{is_dimension, type_fault}
use Rattle.ir_tree.proofs.Counts.{and_false}
use Rattle.ir_text_tokens.specs.declared.token.Mark.{Mark}
use Rattle.ir_text_tokens.specs.declared.token.Mark.TheVariants.{OpenRound, CloseRound, Less, Greater, Comma, Arrow}
use Rattle.ir_text_tokens.specs.Bytes.{is_word}
use Rattle.ir_text_tokens.specs.Tokens.{Lexeme, mark, bare, bang}
use Rattle.ir_text_tokens.specs.Printing.{Stops}
use Rattle.ir_text_tokens.proofs.Printed.{bare_token, mark_token}
use Rattle.ir_text.specs.Rows.{parted}
use Rattle.ir_text.specs.TypeText.{sign_text, dimension_text, is_function, is_lone, in_round, outputs_text, type_text, type_texts}
use Rattle.ir_text_types.specs.OpaqueTypes.{is_opaque_word}
use Rattle.ir_text_types.specs.Scalars.{index_word, memref_word, scalar_of}
use Rattle.ir_text_types.specs.TypeReading.{many}
use Rattle.ir_text_types.specs.Grammars.{Grammar, Then, Done, After, Not, Token, IsMark}
use Rattle.ir_text_types.specs.Typed.{Text}
use Rattle.ir_text_types.specs.TypeGrammar.{types_of, IsScalar, IsMemref, IsWordFrom, IsAfter, IsWordType, IsTypes, IsOutputs, IsSignature, IsFunction, IsType, IsFunctionType}
use Rattle.std.specs.Str.{bytes_eq}
use Rattle.ir_text_modules.specs.Kept.{EndsType}
use Rattle.ir_text_modules.specs.Written.{may_stand, is_written_type, are_written_types, FitsType}
use Rattle.ir_text_modules.proofs.Ahead.{Ahead, Lacks, either_ahead, then_ahead, space, space_token}
use Rattle.ir_text_modules.proofs.Kept.{form_again, form_of, no_word}
use Rattle.ir_text_modules.proofs.Known.{memref_known, scalar_known}
use Rattle.ir_text_modules.proofs.Passed.{element_dimension, element_star, inner_text, memref_plain}
use Rattle.ir_text_modules.proofs.Rows.{AllFit, Items, list_again}
use Rattle.ir_text_modules.proofs.Small.{lacks_token}
use Rattle.ir_text_modules.proofs.Words.{scalar_again, scalar_word, scalar_no_memref}
use Rattle.ir_text_modules.proofs.Shapes.{dimensions_again, word_no_dimension}
use Rattle.std.proofs.lemmas.Bool.{and_parts, leb-true, not-true}

-- ---- depths

either_depth : (b : Bool) (n : ℕ) → 1 ≤ (if b then 1 else 1 + n)
either_depth true n = omega arith
either_depth false n = omega arith

pub some_depth : (o : Bool) (t : TypeTerm) → is_written_type o t ≡ true → 1 ≤ type_depth t
some_depth o (Integer sign w) e = omega arith
some_depth o Index e = omega arith
some_depth o (Function ins outs) e = omega arith
some_depth o (Memref dims elem) e = either_depth (is_scalar elem) (type_depth elem)
some_depth o (OpaqueType text) e = omega arith

-- the number of nested memrefs
abbrev nested : TypeTerm → ℕ
nested (Memref dims elem) = suc (nested elem)
nested _ = 0

nested_depth : (t : TypeTerm) → nested t ≤ type_depth t
nested_depth (Integer sign w) = omega arith
nested_depth Index = omega arith
nested_depth (Function ins outs) = omega arith
nested_depth (OpaqueType text) = omega arith
nested_depth (Memref dims (Integer sign w)) = omega arith
nested_depth (Memref dims Index) = omega arith
nested_depth (Memref dims (Function ins outs)) = omega arith
nested_depth (Memref dims (OpaqueType text)) = omega arith
nested_depth (Memref dims (Memref ds e)) = let k = nested_depth (Memref ds e) in omega (arith, k)

element_depth : (dims : List (Option ℕ)) (elem : TypeTerm) → type_depth (Memref dims elem) ≤ 32 → type_depth elem ≤ 32
element_depth dims (Integer sign w) le = omega arith
element_depth dims Index le = omega arith
element_depth dims (OpaqueType text) le = omega arith
element_depth dims (Function ins outs) le = omega (arith, le)
element_depth dims (Memref ds e) le = omega (arith, le)

-- ---- lists of types as terms

pub terms_again : (ts : TypeTerms) → types_of (type_list ts) ≡ ts
terms_again no_types = refl
terms_again (next_type t ts) = ap (next_type t) (terms_again ts)

texts_again : (ts : TypeTerms) → type_texts ts ≡ map type_text (type_list ts)
texts_again no_types = refl
texts_again (next_type t ts) = ap (λ (l : List (List ℕ)). type_text t ∷ l) (texts_again ts)

-- ---- words

word_ahead : (o : Bool) (M : Grammar Text TypeTerm) → Ahead (IsWordType o M)
word_ahead o M y a b new e h = (h.0, h.1, sym e ∙ h.2, h.3)

index_again : scalar_of index_word ≡ Some node.Index
unfolding scalar_of
index_again = refl

pub scalar_read : (t : TypeTerm) (rest : List ℕ) → is_scalar t ≡ true → is_written_type false t ≡ true → Stops is_word rest → IsScalar t (type_text t ++ rest) rest
scalar_read (Integer sign w) rest k e s = (sign_text sign ++ decimal w, Int sign w, bare_token (sign_text sign ++ decimal w) rest (scalar_word sign w e) s, scalar_again sign w e, refl)
scalar_read Index rest k e s = (index_word, node.Index, bare_token index_word rest refl s, index_again, refl)
scalar_read (Function ins outs) rest k e s = absurd cc
scalar_read (Memref dims elem) rest k e s = absurd cc
scalar_read (OpaqueType text) rest k e s = absurd cc

-- a word that is a type but no memref
word_read : (o : Bool) (M : Grammar Text TypeTerm) (t : TypeTerm) (rest : List ℕ) → (h : IsScalar t (type_text t ++ rest) rest) → bytes_eq h.0 memref_word ≡ false → IsWordType o M t (type_text t ++ rest) rest
word_read o M t rest h e =
    let known : (o && is_opaque_word h.0 rest) ≡ false = ap (λ b. o && b) (scalar_known h.0 h.1 rest h.3) ∙ and_false o in
    (bare h.0, rest, h.2, subst (λ p. IsWordFrom M p (bytes_eq h.0 memref_word) h.0 t rest rest) (sym known) (subst (λ b. IsWordFrom M false b h.0 t rest rest) (sym e) (h.1, h.3, h.4, refl)))

-- ---- memrefs

memref_fine : (dims : List (Option ℕ)) (elem : TypeTerm) → list_all is_dimension dims ≡ true → type_depth (Memref dims elem) ≤ 32 → type_fault (Memref dims elem) ≡ None
memref_fine dims elem e le = let k : nat_le (type_depth (Memref dims elem)) 32 ≡ true = grind (arith, nat_tests) in rw (e, k) refl

-- the parts of a writable memref, with and without opaque types
memref_parts : (o : Bool) (dims : List (Option ℕ)) (elem : TypeTerm) → is_written_type o (Memref dims elem) ≡ true → (length dims ≤ many) × (list_all is_dimension dims ≡ true) × (may_stand o elem ≡ true) × (is_written_type o elem ≡ true)
memref_parts o dims elem e =
    let p = and_parts (nat_le (length dims) many && list_all is_dimension dims) (may_stand o elem && is_written_type o elem) e in
    let d = and_parts (nat_le (length dims) many) (list_all is_dimension dims) p.0 in
    let k = and_parts (may_stand o elem) (is_written_type o elem) p.1 in
    (leb-true (length dims) many d.0, d.1, k.0, k.1)

known_word : (t : TypeTerm) (depth : ℕ) (rest : List ℕ) → is_function t ≡ false → nested t ≤ depth → type_depth t ≤ 32 → is_written_type false t ≡ true → Stops is_word rest → IsWordType false (IsMemref false depth) t (type_text t ++ rest) rest
unfolding IsMemref scalar_read
known_word (Integer sign w) depth rest n le small e s = word_read false (IsMemref false depth) (Integer sign w) rest (scalar_read (Integer sign w) rest refl e s) (scalar_no_memref sign w)
known_word Index depth rest n le small e s = word_read false (IsMemref false depth) Index rest (scalar_read Index rest refl e s) refl
known_word (Function ins outs) depth rest n le small e s = absurd cc
known_word (OpaqueType text) depth rest n le small e s = absurd cc
known_word (Memref dims elem) zero rest n le small e s = absurd (omega (arith, le))
known_word (Memref dims elem) (suc depth) rest n le small e s =
    let p = memref_parts false dims elem e in
    let mid = type_text elem ++ 62 ∷ rest in
    let back = flat_map dimension_text dims ++ mid in
    let scalar = scalar_read elem (62 ∷ rest) p.2 p.3 refl in
    let shaped_as = dimensions_again dims mid p.1 (word_no_dimension scalar.0 mid (62 ∷ rest) scalar.2) in
    let inside : IsMemref false (suc depth) (Memref dims elem) (60 ∷ back) rest =
    (back, mark_token Less back tt, (dims, mid, (p.0, shaped_as), (elem, 62 ∷ rest, inr (refl, scalar), (rest, mark_token Greater rest tt, (memref_fine dims elem p.1 small, refl, refl))))) in
    rw (inner_text dims elem rest) (bare memref_word, 60 ∷ back, bare_token memref_word (60 ∷ back) refl refl, inside)

kept_word : (t : TypeTerm) (depth : ℕ) (rest : List ℕ) → is_function t ≡ false → nested t ≤ depth → type_depth t ≤ 32 → is_written_type true t ≡ true → EndsType true rest → IsWordType true (IsMemref true depth) t (type_text t ++ rest) rest
unfolding IsMemref scalar_read
kept_word (Integer sign w) depth rest n le small e s = word_read true (IsMemref true depth) (Integer sign w) rest (scalar_read (Integer sign w) rest refl e (no_word rest s.0)) (scalar_no_memref sign w)
kept_word Index depth rest n le small e s = word_read true (IsMemref true depth) Index rest (scalar_read Index rest refl refl (no_word rest s.0)) refl
kept_word (Function ins outs) depth rest n le small e s = absurd cc
kept_word (OpaqueType text) depth rest n le small e s = form_again (IsMemref true depth) text rest (form_of text e) s
kept_word (Memref dims elem) zero rest n le small e s = absurd (omega (arith, le))
kept_word (Memref dims elem) (suc depth) rest n le small e s =
    let p = memref_parts true dims elem e in
    let mid = type_text elem ++ 62 ∷ rest in
    let back = flat_map dimension_text dims ++ mid in
    let simple = not-true (is_function elem) p.2 in
    let read = kept_word elem depth (62 ∷ rest) simple (omega (arith, le)) (element_depth dims elem small) p.3 (refl, refl) in
    let star = element_star (IsMemref true depth) read.0 elem mid read.1 (62 ∷ rest) read.2 read.3 in
    let shaped_as = dimensions_again dims mid p.1 (element_dimension (IsMemref true depth) read.0 elem mid read.1 (62 ∷ rest) read.2 read.3) in
    let known = memref_known (60 ∷ back) (memref_plain dims elem rest p.1 simple p.3 star) in
    let inside : IsMemref true (suc depth) (Memref dims elem) (60 ∷ back) rest =
    (back, mark_token Less back tt, (dims, mid, (p.0, shaped_as), (elem, 62 ∷ rest, inl (refl, read), (rest, mark_token Greater rest tt, (memref_fine dims elem p.1 small, refl, refl))))) in
    rw (inner_text dims elem rest)
    (bare memref_word, 60 ∷ back, bare_token memref_word (60 ∷ back) refl refl, subst (λ b. IsWordFrom (IsMemref true (suc depth)) b true memref_word (Memref dims elem) (60 ∷ back) rest) (sym known) inside)

-- a type that is no function type
pub word_again : (o : Bool) (t : TypeTerm) (depth : ℕ) (rest : List ℕ) → is_function t ≡ false → type_depth t ≤ depth → depth ≤ 32 → is_written_type o t ≡ true → EndsType o rest → IsWordType o (IsMemref o depth) t (type_text t ++ rest) rest
word_again false t depth rest n le small e s = let k = nested_depth t in known_word t depth rest n (omega (arith, k, le)) (omega (arith, le, small)) e s
word_again true t depth rest n le small e s = let k = nested_depth t in kept_word t depth rest n (omega (arith, k, le)) (omega (arith, le, small)) e s

-- ---- the first tokens of types

pub type_ahead : (o : Bool) (depth : ℕ) → Ahead (IsType o depth)
unfolding IsType
type_ahead o zero y a b new e h = absurd h
type_ahead o (suc depth) y a b new e h = either_ahead OpenRound (IsFunction (IsType o depth)) (IsWordType o (IsMemref o (suc depth))) (word_ahead o (IsMemref o (suc depth))) y a b new e h

-- a type that is no function type begins with a word or a dialect's name
word_lacks : (o : Bool) (M : Grammar Text TypeTerm) (m : Mark) (token : Lexeme) (y : TypeTerm) (a rest new : List ℕ) → Token token a rest → IsAfter o M token y rest new → Not IsMark m a
word_lacks o M m (bare w) y a rest new t h = lacks_token (bare w) m a rest t (λ e. absurd cc)
word_lacks o M m (bang name) y a rest new t h = lacks_token (bang name) m a rest t (λ e. absurd cc)
word_lacks o M m _ y a rest new t h = absurd h

pub type_lacks : (o : Bool) (m : Mark) → (mark OpenRound ≡ mark m → ⊥) → (depth : ℕ) → Lacks m (IsType o depth)
unfolding IsType
type_lacks o m other zero y a new h = absurd h
type_lacks o m other (suc depth) y a new (inl h) = lacks_token (mark OpenRound) m a h.0 h.1 other
type_lacks o m other (suc depth) y a new (inr h) = word_lacks o (IsMemref o (suc depth)) m h.1.0 y a h.1.1 new h.1.2 h.1.3

-- ---- what may follow

pub comma_ends : (o : Bool) (rest : List ℕ) → EndsType o (44 ∷ rest)
comma_ends false rest = refl
comma_ends true rest = (refl, refl)

pub round_ends : (o : Bool) (rest : List ℕ) → EndsType o (41 ∷ rest)
round_ends false rest = refl
round_ends true rest = (refl, refl)

pub line_ends : (o : Bool) (rest : List ℕ) → EndsType o (10 ∷ rest)
line_ends false rest = refl
line_ends true rest = (refl, refl)

-- ---- lists of types, where a type of this depth is read again

abbrev pub IsReadAgain : Bool → ℕ → Type 0
IsReadAgain o depth = (t : TypeTerm) (rest : List ℕ) → type_depth t ≤ depth → is_written_type o t ≡ true → EndsType o rest → IsType o depth t (type_text t ++ rest) rest

module _ (o : Bool) where
  all_fit : (depth : ℕ) (preceding : List TypeTerm) (ts : TypeTerms) → types_depth ts ≤ depth → are_written_types o ts ≡ true → AllFit (λ before. FitsType o depth) preceding (type_list ts)
  all_fit depth preceding no_types le e = tt
  all_fit depth preceding (next_type t ts) le e =
      let p = and_parts (is_written_type o t) (are_written_types o ts) e in
      ((omega arith, p.0), all_fit depth (preceding ++ t ∷ []) ts (omega arith) p.1)

  module _ (depth : ℕ) (item : IsReadAgain o depth) where
    type_items : Items CloseRound (λ before. IsType o depth) type_text (λ before. FitsType o depth) (EndsType o)
    type_items = record {
      reads = λ preceding y rest fits_in s. item y rest fits_in.0 fits_in.1 s;
      ahead = λ preceding. type_ahead o depth;
      lacks = λ preceding. type_lacks o CloseRound (λ e. absurd cc) depth;
      comma = λ rest. comma_ends o rest;
      closing = λ rest. round_ends o rest;
      closes = λ rest. mark_token CloseRound rest tt;
      open_yet = λ rest. lacks_token (mark Comma) CloseRound (44 ∷ rest) rest (mark_token Comma rest tt) (λ e. absurd cc);
    }

    -- types in parentheses
    round_again : (headroom : ℕ) (ts : TypeTerms) (rest : List ℕ) → types_depth ts ≤ depth → are_written_types o ts ≡ true → length (type_list ts) ≤ headroom → After IsMark OpenRound (IsTypes (IsType o depth) headroom) (type_list ts) (in_round (type_texts ts) ++ rest) rest
    unfolding IsTypes
    round_again headroom ts rest le e count =
        let row = parted (codes ", ") true (type_texts ts) in
        let inside = list_again CloseRound (λ before. IsType o depth) type_text (λ before. FitsType o depth) (EndsType o) type_items headroom (type_list ts) rest (all_fit depth [] ts le e) count in
        let apart : in_round (type_texts ts) ++ rest ≡ 40 ∷ (row ++ 41 ∷ rest) = ap (λ (l : List ℕ). 40 ∷ l) (append_assoc row (41 ∷ []) rest) in
        rw apart (row ++ 41 ∷ rest, mark_token OpenRound (row ++ 41 ∷ rest) tt, rw (texts_again ts) inside)

    -- a single output type
    lone_again : (headroom : ℕ) (t : TypeTerm) (rest : List ℕ) → is_function t ≡ false → depth ≤ 32 → type_depth t ≤ depth → is_written_type o t ≡ true → EndsType o rest → IsOutputs (IsType o depth) headroom (t ∷ []) ((type_text t ++ []) ++ rest) rest
    unfolding IsOutputs
    lone_again headroom t rest simple small le e s =
        let k = word_again o t depth rest simple le small e s in
        rw (append_assoc (type_text t) [] rest) (inr (word_lacks o (IsMemref o depth) OpenRound k.0 t (type_text t ++ rest) k.1 rest k.2 k.3, (t, rest, item t rest le e s, (refl, refl))))

    outputs_again : (headroom : ℕ) (ts : TypeTerms) (rest : List ℕ) → depth ≤ 32 → types_depth ts ≤ depth → are_written_types o ts ≡ true → length (type_list ts) ≤ headroom → EndsType o rest → IsOutputs (IsType o depth) headroom (type_list ts) (outputs_text (is_lone ts) (type_texts ts) ++ rest) rest
    unfolding IsOutputs
    outputs_again headroom no_types rest small le e count s = inl (round_again headroom no_types rest le e count)
    outputs_again headroom (next_type (Integer sign w) no_types) rest small le e count s = lone_again headroom (Integer sign w) rest refl small (omega arith) (and_parts _ _ e).0 s
    outputs_again headroom (next_type Index no_types) rest small le e count s = lone_again headroom Index rest refl small (omega arith) refl s
    outputs_again headroom (next_type (Memref dims elem) no_types) rest small le e count s = lone_again headroom (Memref dims elem) rest refl small (omega arith) (and_parts _ _ e).0 s
    outputs_again headroom (next_type (OpaqueType text) no_types) rest small le e count s = lone_again headroom (OpaqueType text) rest refl small (omega arith) (and_parts _ _ e).0 s
    outputs_again headroom (next_type (Function ins outs) no_types) rest small le e count s = inl (round_again headroom (next_type (Function ins outs) no_types) rest le e count)
    outputs_again headroom (next_type t (next_type u us)) rest small le e count s = inl (round_again headroom (next_type t (next_type u us)) rest le e count)

    outputs_ahead : (headroom : ℕ) → Ahead (IsOutputs (IsType o depth) headroom)
    unfolding IsOutputs
    outputs_ahead headroom = either_ahead OpenRound (IsTypes (IsType o depth) headroom) (Then (IsType o depth) (λ y. Done (y ∷ []))) (then_ahead (IsType o depth) (λ y. Done (y ∷ [])) (type_ahead o depth))

    -- inputs and outputs
    signature_again : (headroom : ℕ) (ins outs : TypeTerms) (rest : List ℕ) → depth ≤ 32 → types_depth ins ≤ depth → types_depth outs ≤ depth → are_written_types o ins ≡ true → are_written_types o outs ≡ true → length (type_list ins) ≤ many → length (type_list outs) ≤ headroom → EndsType o rest
        → After IsMark OpenRound (IsSignature (IsType o depth) headroom) (type_list ins, type_list outs) (type_text (Function ins outs) ++ rest) rest
    unfolding IsSignature
    signature_again headroom ins outs rest small li lo ei eo ci co s =
        let back = outputs_text (is_lone outs) (type_texts outs) ++ rest in
        let inputs = round_again many ins (32 ∷ 45 ∷ 62 ∷ 32 ∷ back) li ei ci in
        let outputs = space (IsOutputs (IsType o depth) headroom) (outputs_ahead headroom) (type_list outs) back rest (outputs_again headroom outs rest small lo eo co s) in
        let apart : type_text (Function ins outs) ++ rest ≡ in_round (type_texts ins) ++ (32 ∷ 45 ∷ 62 ∷ 32 ∷ back) = append_assoc (in_round (type_texts ins)) (codes " -> " ++ outputs_text (is_lone outs) (type_texts outs)) rest in
        rw apart (inputs.0, inputs.1, (type_list ins, 32 ∷ 45 ∷ 62 ∷ 32 ∷ back, inputs.2, (32 ∷ back, space_token (mark Arrow) (45 ∷ 62 ∷ 32 ∷ back) (32 ∷ back) (mark_token Arrow (32 ∷ back) tt), (type_list outs, rest, outputs, (refl, refl)))))

    function_again : (ins outs : TypeTerms) (rest : List ℕ) → depth ≤ 32 → type_depth (Function ins outs) ≤ 32 → types_depth ins ≤ depth → types_depth outs ≤ depth → is_written_type o (Function ins outs) ≡ true → EndsType o rest → After IsMark OpenRound (IsFunction (IsType o depth)) (Function ins outs) (type_text (Function ins outs) ++ rest) rest
    unfolding IsFunction
    function_again ins outs rest headroom small li lo e s =
        let p = and_parts (nat_le (length (type_list ins)) many && nat_le (length (type_list outs)) many) (are_written_types o ins && are_written_types o outs) e in
        let c = and_parts (nat_le (length (type_list ins)) many) (nat_le (length (type_list outs)) many) p.0 in
        let w = and_parts (are_written_types o ins) (are_written_types o outs) p.1 in
        let k = signature_again many ins outs rest headroom li lo w.0 w.1 (leb-true (length (type_list ins)) many c.0) (leb-true (length (type_list outs)) many c.1) s in
        (k.0, k.1, ((type_list ins, type_list outs), rest, k.2, (rw (terms_again ins, terms_again outs) (shallow ins outs small), rw (terms_again ins, terms_again outs) refl, refl)))
      where
        shallow : (ins outs : TypeTerms) → type_depth (Function ins outs) ≤ 32 → type_fault (Function ins outs) ≡ None
        shallow ins outs le = let e : nat_le (type_depth (Function ins outs)) 32 ≡ true = grind (arith, nat_tests) in rw e refl

-- ---- types

other_again : (o : Bool) (depth : ℕ) (t : TypeTerm) (rest : List ℕ) → suc depth ≤ 32 → is_function t ≡ false → type_depth t ≤ suc depth → is_written_type o t ≡ true → EndsType o rest → IsType o (suc depth) t (type_text t ++ rest) rest
unfolding IsType
other_again o depth t rest small simple le e s =
    let k = word_again o t (suc depth) rest simple le small e s in
    inr (word_lacks o (IsMemref o (suc depth)) OpenRound k.0 t (type_text t ++ rest) k.1 rest k.2 k.3, k)

pub type_again : (o : Bool) (depth : ℕ) → depth ≤ 32 → IsReadAgain o depth
unfolding IsType
type_again o zero small t rest le e s = absurd (omega (arith, some_depth o t e))
type_again o (suc depth) small (Integer sign w) rest le e s = other_again o depth (Integer sign w) rest small refl le e s
type_again o (suc depth) small Index rest le e s = other_again o depth Index rest small refl le e s
type_again o (suc depth) small (Memref dims elem) rest le e s = other_again o depth (Memref dims elem) rest small refl le e s
type_again o (suc depth) small (OpaqueType text) rest le e s = other_again o depth (OpaqueType text) rest small refl le e s
type_again o (suc depth) small (Function ins outs) rest le e s = inl (function_again o depth (type_again o depth (omega arith)) ins outs rest (omega arith) (omega arith) (omega arith) (omega arith) e s)

-- ---- the function types of operations

pub list_of : (ts : List TypeTerm) → type_list (types_of ts) ≡ ts
list_of [] = refl
list_of (t ∷ ts) = ap (λ (l : List TypeTerm). t ∷ l) (list_of ts)

pub parts_fit : (o : Bool) (depth : ℕ) (ts : List TypeTerm) → AllByRecursion (FitsType o depth) ts → (types_depth (types_of ts) ≤ depth) × (are_written_types o (types_of ts) ≡ true)
parts_fit o depth [] fits_in = (omega arith, refl)
parts_fit o depth (t ∷ ts) fits_in = let p = parts_fit o depth ts fits_in.1 in let q : is_written_type o t ≡ true = fits_in.0.1 in (omega (arith, p.0, fits_in.0.0), rw q p.1)

pub function_type_again : (o : Bool) (inputs outputs : List TypeTerm) (rest : List ℕ) → length inputs ≤ many → length outputs ≤ 256 → AllByRecursion (FitsType o 32) inputs → AllByRecursion (FitsType o 32) outputs → EndsType o rest
    → IsFunctionType o (inputs, outputs) (type_text (Function (types_of inputs) (types_of outputs)) ++ rest) rest
unfolding IsFunctionType
function_type_again o inputs outputs rest ci co fi fo s =
    let i = parts_fit o 32 inputs fi in
    let p = parts_fit o 32 outputs fo in
    let read = signature_again o 32 (type_again o 32 (omega arith)) 256 (types_of inputs) (types_of outputs) rest (omega arith) i.0 p.0 i.1 p.1 (rw (list_of inputs) ci) (rw (list_of outputs) co) s in
    subst (λ l. After IsMark OpenRound (IsSignature (IsType o 32) 256) (l, outputs) (type_text (Function (types_of inputs) (types_of outputs)) ++ rest) rest) (list_of inputs)
    (subst (λ l. After IsMark OpenRound (IsSignature (IsType o 32) 256) (type_list (types_of inputs), l) (type_text (Function (types_of inputs) (types_of outputs)) ++ rest) rest) (list_of outputs) read)
