-- The printed entries of dictionaries are parsed back.
use Rattle.std.proofs.Common.{◌≡◌, ℕ, Bool, true, false, List, [], ◌∷◌, ◌++◌, map, refl, sym, ap, subst, ◌∙◌, append_assoc, inl, inr}
use Rattle.std.specs.Prelude.{codes}
use Rattle.ir_types.specs.Terms.{AttrTerm, IntegerOf, String, TypeOf, Flag, Array, Dictionary, Symbol, DenseArray, Overflow, OpaqueOf, EntryTerms, no_entries, next_entry}
use Rattle.ir_text_tokens.specs.declared.token.Mark.{Mark}
use Rattle.ir_text_tokens.specs.declared.token.Mark.TheVariants.{CloseCurly, CloseSquare, Colon, Comma, DoubleColon, Equal, End, Less}
use Rattle.ir_text_tokens.specs.Bytes.{is_word}
use Rattle.ir_text_tokens.specs.Tokens.{mark, bare, string}
use Rattle.ir_text_tokens.specs.Printing.{AreBytes, Stops, is_bare_id, key_text, raw_text}
use Rattle.ir_text_tokens.proofs.Escapes.{value_again}
use Rattle.ir_text_tokens.proofs.Printed.{mark_token, bare_key, string_key}
use Rattle.ir_text.specs.AttrText.{is_flag, entry_text, attr_text, entry_texts}
use Rattle.ir_text_types.specs.Grammars.{Grammar, Not, Either, IsMark}
use Rattle.ir_text_attributes.specs.AttrGrammar.{EntryTerm, IsKey}
use Rattle.ir_text_modules.specs.WrittenAttributes.{entries_list, EndsAttr}
use Rattle.ir_text_modules.proofs.Small.{lacks_token}
use Rattle.ir_text_modules.proofs.Ahead.{Ahead, Lacks, space, space_token}
use Rattle.std.proofs.lemmas.Bool.{cases_Bool}

-- ---- keys

pub key_ahead : Ahead IsKey
key_ahead y a b new e (inl h) = inl (sym e ∙ h)
key_ahead y a b new e (inr h) = inr (h.0, sym e ∙ h.1, h.2)

pub key_lacks : (m : Mark) → Lacks m IsKey
key_lacks m y a new (inl h) = lacks_token (bare y) m a new h (λ e. absurd cc)
key_lacks m y a new (inr h) = lacks_token (string h.0) m a new h.1 (λ e. absurd cc)

pub key_read : (key rest : List ℕ) → AreBytes key → Stops is_word rest → IsKey key (key_text key ++ rest) rest
key_read key rest h s = elim (cases_Bool (is_bare_id key)) [
  | inl t ↦ inl (bare_key key rest t s)
  | inr f ↦ inr (raw_text key, string_key key rest f h, sym (value_again key h))
]

-- ---- values

-- what may follow an entry
abbrev pub EndsEntry : Bool → List ℕ → Type 0
EndsEntry o rest = Stops is_word rest × Not IsMark Equal rest × EndsAttr o rest

-- a text that begins with another token
apart : (m k : Mark) (rest new : List ℕ) → IsMark m rest new → (mark m ≡ mark k → ⊥) → Not IsMark k rest
apart m k rest new t other = lacks_token (mark m) k rest new t other

pub comma_ends : (o : Bool) (rest : List ℕ) → EndsAttr o (44 ∷ rest)
comma_ends false rest = let t = mark_token Comma rest tt in (refl, apart Comma DoubleColon (44 ∷ rest) rest t (λ e. absurd cc))
comma_ends true rest =
    let t = mark_token Comma rest tt in
    (refl, apart Comma DoubleColon (44 ∷ rest) rest t (λ e. absurd cc), apart Comma Colon (44 ∷ rest) rest t (λ e. absurd cc), apart Comma Less (44 ∷ rest) rest t (λ e. absurd cc))

pub square_ends : (o : Bool) (rest : List ℕ) → EndsAttr o (93 ∷ rest)
square_ends false rest = let t = mark_token CloseSquare rest tt in (refl, apart CloseSquare DoubleColon (93 ∷ rest) rest t (λ e. absurd cc))
square_ends true rest =
    let t = mark_token CloseSquare rest tt in
    (refl, apart CloseSquare DoubleColon (93 ∷ rest) rest t (λ e. absurd cc), apart CloseSquare Colon (93 ∷ rest) rest t (λ e. absurd cc), apart CloseSquare Less (93 ∷ rest) rest t (λ e. absurd cc))

pub curly_ends : (o : Bool) (rest : List ℕ) → EndsAttr o (125 ∷ rest)
curly_ends false rest = let t = mark_token CloseCurly rest tt in (refl, apart CloseCurly DoubleColon (125 ∷ rest) rest t (λ e. absurd cc))
curly_ends true rest =
    let t = mark_token CloseCurly rest tt in
    (refl, apart CloseCurly DoubleColon (125 ∷ rest) rest t (λ e. absurd cc), apart CloseCurly Colon (125 ∷ rest) rest t (λ e. absurd cc), apart CloseCurly Less (125 ∷ rest) rest t (λ e. absurd cc))

pub nothing_ends : (o : Bool) → EndsAttr o []
nothing_ends false = let t = mark_token End [] refl in (tt, apart End DoubleColon [] [] t (λ e. absurd cc))
nothing_ends true = let t = mark_token End [] refl in (tt, apart End DoubleColon [] [] t (λ e. absurd cc), apart End Colon [] [] t (λ e. absurd cc), apart End Less [] [] t (λ e. absurd cc))

pub comma_entry : (o : Bool) (rest : List ℕ) → EndsEntry o (44 ∷ rest)
comma_entry o rest = (refl, apart Comma Equal (44 ∷ rest) rest (mark_token Comma rest tt) (λ e. absurd cc), comma_ends o rest)

pub close_entry : (o : Bool) (rest : List ℕ) → EndsEntry o (125 ∷ rest)
close_entry o rest = (refl, apart CloseCurly Equal (125 ∷ rest) rest (mark_token CloseCurly rest tt) (λ e. absurd cc), curly_ends o rest)

abbrev pub text_of_entry : EntryTerm → List ℕ
text_of_entry e = entry_text e.0 (is_flag e.1) (attr_text e.1)

pub texts_of_entries : (es : EntryTerms) → entry_texts es ≡ map text_of_entry (entries_list es)
texts_of_entries no_entries = refl
texts_of_entries (next_entry key a es) = ap (λ (l : List (List ℕ)). entry_text key (is_flag a) (attr_text a) ∷ l) (texts_of_entries es)

flag_is : (a : AttrTerm) → is_flag a ≡ true → a ≡ Flag
flag_is Flag e = refl
flag_is (IntegerOf ty bits) e = absurd cc
flag_is (String v) e = absurd cc
flag_is (TypeOf ty) e = absurd cc
flag_is (Array items) e = absurd cc
flag_is (Dictionary es) e = absurd cc
flag_is (Symbol parts) e = absurd cc
flag_is (DenseArray elem zs) e = absurd cc
flag_is (Overflow nsw nuw) e = absurd cc
flag_is (OpaqueOf text ty) e = absurd cc

-- a key and its value; P derives the attribute, and Q unit
module _ (o : Bool) (P Q : Grammar (List ℕ) AttrTerm) (ahead : Ahead P) where
  -- the value of the key and the rest of the text
  abbrev pub IsRest : List ℕ → AttrTerm → List ℕ → Type 0
  IsRest key a rest = (mid : List ℕ) × IsKey key (text_of_entry (key, a) ++ rest) mid × Either IsMark Equal P Q a mid rest

  pub entry_parts : (key : List ℕ) (a : AttrTerm) (rest : List ℕ) → AreBytes key → EndsEntry o rest → P a (attr_text a ++ rest) rest → (is_flag a ≡ true → Q Flag rest rest) → IsRest key a rest
  entry_parts key a rest h s read unit = from (is_flag a) refl
    where
      valued : is_flag a ≡ false → text_of_entry (key, a) ++ rest ≡ key_text key ++ (32 ∷ 61 ∷ 32 ∷ (attr_text a ++ rest))
      valued e = rw e (append_assoc (key_text key) (codes " = " ++ attr_text a) rest)

      lone : is_flag a ≡ true → text_of_entry (key, a) ++ rest ≡ key_text key ++ rest
      lone e = rw e refl

      from : (b : Bool) → is_flag a ≡ b → IsRest key a rest
      from true e = rw (lone e) (rest, key_read key rest h s.0, inr (s.1, subst (λ x. Q x rest rest) (sym (flag_is a e)) (unit e)))
      from false e =
          let back = 32 ∷ 61 ∷ 32 ∷ (attr_text a ++ rest) in
          rw (valued e) (back, key_read key back h refl, inl (32 ∷ (attr_text a ++ rest), space_token (mark Equal) (61 ∷ 32 ∷ (attr_text a ++ rest)) (32 ∷ (attr_text a ++ rest)) (mark_token Equal (32 ∷ (attr_text a ++ rest)) tt), space P ahead a (attr_text a ++ rest) rest read))
