-- Unambiguous grammars: a text has one parse.
use Rattle.std.proofs.Common.{◌≡◌, ℕ, zero, suc, Bool, true, false, true≢false, ◌&&◌, List, [], ◌∷◌, ◌++◌, Option, Some, None, sym, ap, subst, ◌∙◌, ◌⊎◌, inl, inr}
use Rattle.std.specs.Str.{bytes_eq}
use Rattle.std.proofs.lemmas.Option.{some_pair_parts}
use Rattle.ir_text_tokens.specs.declared.token.Mark.{Mark}
use Rattle.ir_text_tokens.specs.declared.token.Mark.TheVariants.{OpenRound, CloseRound, Less, Greater, Arrow, Comma}
use Rattle.ir_text_tokens.specs.Tokens.{Lexeme, mark, bare, bang}
use Rattle.ir_types.specs.Terms.{TypeTerm, Function, Memref, OpaqueType, type_from}
use Rattle.ir_types.specs.Reasons.{type_fault}
use Rattle.ir_text_types.specs.Scalars.{scalar_of, memref_word}
use Rattle.ir_text_types.specs.OpaqueTypes.{is_opaque_word, word_text, dialect_text}
use Rattle.ir_text_types.specs.ShapeGrammar.{IsShape}
use Rattle.ir_text_types.specs.TypeReading.{many}
use Rattle.ir_text_types.specs.Grammars.{Grammar, Then, Done, DoneIf, After, Not, Either, IsMore, IsList, Token, IsMark}
use Rattle.ir_text_types.specs.TypeGrammar.{types_of, IsScalar, IsOpaque, IsWordFrom, IsAfter, IsWordType, IsElement, IsMemref, IsTypes, IsOutputs, IsSignature, IsFunction, IsType, IsFunctionType}
use Rattle.ir_text_types.proofs.ShapeLaws.{dimensions_one}

module _ {T : Type 0} where
  -- the value and the end state of a derivation are unique
  abbrev pub IsOne : {B : Type 0} → Grammar T B → Type 0
  IsOne {B = B} P = (t : T) (y y' : B) (n n' : T) → P y t n → P y' t n' → (y ≡ y') × (n ≡ n')

  pub then_one : {A B : Type 0} (P : Grammar T A) (Q : A → Grammar T B) → IsOne P → ((x : A) → IsOne (Q x)) → IsOne (Then P Q)
  then_one P Q first second t y y' n n' k l =
      let e = first t k.0 l.0 k.1 l.1 k.2 l.2 in
      second k.0 k.1 y y' n n' k.3 (subst (λ m. Q k.0 y' m n') (sym e.1) (subst (λ x. Q x y' l.1 n') (sym e.0) l.3))

  pub done_one : {B : Type 0} (z : B) → IsOne (Done z)
  done_one z t y y' n n' k l = (k.0 ∙ sym l.0, k.1 ∙ sym l.1)

  pub done_if_one : {B : Type 0} (F : Type 0) (z : B) → IsOne (DoneIf F z)
  done_if_one F z t y y' n n' k l = (k.1 ∙ sym l.1, k.2 ∙ sym l.2)

  module _ (Tok : Mark → T → T → Type 0) (tok_one : (m : Mark) (t n n' : T) → Tok m t n → Tok m t n' → n ≡ n') where
    pub after_one : {B : Type 0} (m : Mark) (Q : Grammar T B) → IsOne Q → IsOne (After Tok m Q)
    after_one m Q one t y y' n n' k l =
        let e = tok_one m t k.0 l.0 k.1 l.1 in
        one k.0 y y' n n' k.2 (subst (λ mid. Q y' mid n') (sym e) l.2)

    pub either_one : {B : Type 0} (m : Mark) (P Q : Grammar T B) → IsOne P → IsOne Q → IsOne (Either Tok m P Q)
    either_one m P Q first second t y y' n n' (inl k) (inl l) = after_one m P first t y y' n n' k l
    either_one m P Q first second t y y' n n' (inl k) (inr l) = absurd (l.0 k.0 k.1)
    either_one m P Q first second t y y' n n' (inr k) (inl l) = absurd (k.0 l.0 l.1)
    either_one m P Q first second t y y' n n' (inr k) (inr l) = second t y y' n n' k.1 l.1

    module _ {B : Type 0} (close : Mark) (P : List B → Grammar T B) (item : (preceding : List B) → IsOne (P preceding)) where
      -- the end, or a comma and more items
      abbrev Ends : (ℕ → List B → Grammar T (List B)) → ℕ → List B → Grammar T (List B)
      Ends more headroom ys all mid new = (Tok close mid new × (all ≡ ys)) ⊎ (Not Tok close mid × (next : T) × Tok Comma mid next × more headroom ys all next new)

      ends_one : (headroom : ℕ) (ys : List B) → IsOne (IsMore Tok close P headroom ys) → IsOne (Ends (IsMore Tok close P) headroom ys)
      ends_one headroom ys more t y y' n n' (inl k) (inl l) = (k.1 ∙ sym l.1, tok_one close t n n' k.0 l.0)
      ends_one headroom ys more t y y' n n' (inl k) (inr l) = absurd (l.0 n k.0)
      ends_one headroom ys more t y y' n n' (inr k) (inl l) = absurd (k.0 n' l.0)
      ends_one headroom ys more t y y' n n' (inr k) (inr l) =
          let e = tok_one Comma t k.1 l.1 k.2 l.2 in
          more k.1 y y' n n' k.3 (subst (λ mid. IsMore Tok close P headroom ys y' mid n') (sym e) l.3)

      pub more_one : (headroom : ℕ) (preceding : List B) → IsOne (IsMore Tok close P headroom preceding)
      unfolding IsMore
      more_one zero preceding t y y' n n' k l = absurd k
      more_one (suc headroom) preceding t y y' n n' k l =
          let e = item preceding t k.0 l.0 k.1 l.1 k.2 l.2 in
          ends_one headroom (preceding ++ k.0 ∷ []) (more_one headroom (preceding ++ k.0 ∷ [])) k.1 y y' n n' k.3
          (subst (λ mid. Ends (IsMore Tok close P) headroom (preceding ++ k.0 ∷ []) y' mid n') (sym e.1) (subst (λ x. Ends (IsMore Tok close P) headroom (preceding ++ x ∷ []) y' l.1 n') (sym e.0) l.3))

      list_from_one : (headroom : ℕ) (t : T) (y y' : List B) (n n' : T)
          → (Tok close t n × (y ≡ [])) ⊎ (Not Tok close t × IsMore Tok close P headroom [] y t n) → (Tok close t n' × (y' ≡ [])) ⊎ (Not Tok close t × IsMore Tok close P headroom [] y' t n') → (y ≡ y') × (n ≡ n')
      list_from_one headroom t y y' n n' (inl k) (inl l) = (k.1 ∙ sym l.1, tok_one close t n n' k.0 l.0)
      list_from_one headroom t y y' n n' (inl k) (inr l) = absurd (l.0 n k.0)
      list_from_one headroom t y y' n n' (inr k) (inl l) = absurd (k.0 n' l.0)
      list_from_one headroom t y y' n n' (inr k) (inr l) = more_one headroom [] t y y' n n' k.1 l.1

      pub list_one : (headroom : ℕ) → IsOne (IsList Tok close P headroom)
      unfolding IsList
      list_one headroom = list_from_one headroom

-- ---- tokens and types

pub token_one : (a b : Lexeme) (t n n' : List ℕ) → Token a t n → Token b t n' → (a ≡ b) × (n ≡ n')
token_one a b t n n' k l = some_pair_parts a b n n' (sym k ∙ l)

pub mark_one : (m : Mark) (t n n' : List ℕ) → IsMark m t n → IsMark m t n' → n ≡ n'
mark_one m t n n' k l = (token_one (mark m) (mark m) t n n' k l).1

pub scalar_one : IsOne IsScalar
scalar_one t y y' n n' k l =
    let e = token_one (bare k.0) (bare l.0) t n n' k.2 l.2 in
    let word : k.0 ≡ l.0 = cc (e.0) in
    let some : Some k.1 ≡ Some l.1 = sym k.3 ∙ ap scalar_of word ∙ l.3 in
    let node : k.1 ≡ l.1 = cc (some) in
    (k.4 ∙ ap (type_from []) node ∙ sym l.4, e.1)

shape_one : (headroom : ℕ) → IsOne (IsShape headroom)
shape_one headroom t y y' n n' k l = dimensions_one y y' t n n' k.1 l.1

opaque_one : (found : Option (List ℕ × List ℕ)) (y y' : TypeTerm) (n n' : List ℕ) → IsOpaque found y n → IsOpaque found y' n' → (y ≡ y') × (n ≡ n')
opaque_one found y y' n n' k l =
    let some : Some k.0 ≡ Some l.0 = sym k.1 ∙ l.1 in
    let same : k.0 ≡ l.0 = cc (some) in
    (k.2 ∙ ap (λ (x : List ℕ × List ℕ). OpaqueType x.0) same ∙ sym l.2, k.3 ∙ ap (λ (x : List ℕ × List ℕ). x.1) same ∙ sym l.3)

module _ (o : Bool) (M : Grammar (List ℕ) TypeTerm) (inner : IsOne M) where
  word_one : (b memref : Bool) (word : List ℕ) → IsOne (IsWordFrom M b memref word)
  word_one true memref word t y y' n n' k l = opaque_one (word_text word t) y y' n n' k l
  word_one false true word t y y' n n' k l = inner t y y' n n' k l
  word_one false false word t y y' n n' k l =
      let some : Some k.0 ≡ Some l.0 = sym k.1 ∙ l.1 in
      let node : k.0 ≡ l.0 = cc (some) in
      (k.2 ∙ ap (type_from []) node ∙ sym l.2, k.3 ∙ sym l.3)

  trailing_one : (token : Lexeme) → IsOne (IsAfter o M token)
  trailing_one (bare word) t y y' n n' k l = word_one (o && is_opaque_word word t) (bytes_eq word memref_word) word t y y' n n' k l
  trailing_one (bang name) t y y' n n' k l = opaque_one (dialect_text 33 name t) y y' n n' k.1 l.1
  trailing_one _ t y y' n n' k l = absurd k

  pub word_type_one : IsOne (IsWordType o M)
  word_type_one t y y' n n' k l =
      let e = token_one k.0 l.0 t k.1 l.1 k.2 l.2 in
      trailing_one k.0 k.1 y y' n n' k.3 (subst (λ rest. IsAfter o M k.0 y' rest n') (sym e.1) (subst (λ token. IsAfter o M token y' l.1 n') (sym e.0) l.3))

  element_one : IsOne (IsElement o M)
  element_one t y y' n n' (inl k) (inl l) = word_type_one t y y' n n' k.1 l.1
  element_one t y y' n n' (inl k) (inr l) = absurd (true≢false (sym k.0 ∙ l.0))
  element_one t y y' n n' (inr k) (inl l) = absurd (true≢false (sym l.0 ∙ k.0))
  element_one t y y' n n' (inr k) (inr l) = scalar_one t y y' n n' k.1 l.1

memref_one : (o : Bool) (depth : ℕ) → IsOne (IsMemref o depth)
unfolding IsMemref
memref_one o zero t y y' n n' k l = absurd k
memref_one o (suc depth) t y y' n n' k l =
    after_one IsMark mark_one Less _ (then_one (IsShape many) _ (shape_one many) (λ dims. then_one (IsElement o (IsMemref o depth)) _ (element_one o (IsMemref o depth) (memref_one o depth)) (λ elem.
    after_one IsMark mark_one Greater _ (done_if_one (type_fault (Memref dims elem) ≡ None) (Memref dims elem))))) t y y' n n' k l

module _ (P : Grammar (List ℕ) TypeTerm) (item : IsOne P) where
  types_one : (headroom : ℕ) → IsOne (IsTypes P headroom)
  unfolding IsTypes
  types_one headroom = list_one IsMark mark_one CloseRound (λ before. P) (λ before. item) headroom

  outputs_one : (headroom : ℕ) → IsOne (IsOutputs P headroom)
  unfolding IsOutputs
  outputs_one headroom = either_one IsMark mark_one OpenRound (IsTypes P headroom) (Then P (λ y. Done (y ∷ []))) (types_one headroom) (then_one P (λ y. Done (y ∷ [])) item (λ y. done_one (y ∷ [])))

  signature_one : (headroom : ℕ) → IsOne (IsSignature P headroom)
  unfolding IsSignature
  signature_one headroom = then_one (IsTypes P many) _ (types_one many) (λ inputs. after_one IsMark mark_one Arrow _ (then_one (IsOutputs P headroom) _ (outputs_one headroom) (λ outputs. done_one (inputs, outputs))))

  function_one : IsOne (IsFunction P)
  unfolding IsFunction
  function_one = then_one (IsSignature P many) _ (signature_one many) (λ x. done_if_one (type_fault (Function (types_of x.0) (types_of x.1)) ≡ None) (Function (types_of x.0) (types_of x.1)))

pub type_one : (o : Bool) (depth : ℕ) → IsOne (IsType o depth)
unfolding IsType
type_one o zero t y y' n n' k l = absurd k
type_one o (suc depth) t y y' n n' k l =
    either_one IsMark mark_one OpenRound (IsFunction (IsType o depth)) (IsWordType o (IsMemref o (suc depth))) (function_one (IsType o depth) (type_one o depth)) (word_type_one o (IsMemref o (suc depth)) (memref_one o (suc depth))) t y y' n n' k l

pub function_type_one : (o : Bool) → IsOne (IsFunctionType o)
unfolding IsFunctionType
function_type_one o = after_one IsMark mark_one OpenRound (IsSignature (IsType o 32) 256) (signature_one (IsType o 32) (type_one o 32) 256)
