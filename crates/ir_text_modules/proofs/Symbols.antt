-- Printed symbol references are parsed back.
use Rattle.std.proofs.Common.{◌≡◌, ℕ, zero, suc, ◌≤◌, Bool, true, false, List, [], ◌∷◌, ◌++◌, map, length, refl, sym, ap, subst, append_assoc, arith, inl, inr}
use Rattle.std.specs.Prelude.{◌&&◌, ◌==◌, not, codes, nat_le}
use Rattle.std.specs.List.{list_all}
use Rattle.ir_types.specs.Terms.{Symbol}
use Rattle.ir_text_tokens.specs.declared.token.Mark.TheVariants.{DoubleColon}
use Rattle.ir_text_tokens.specs.Bytes.{is_suffix}
use Rattle.ir_text_tokens.specs.Tokens.{Lexeme, symbol, quoted}
use Rattle.ir_text_tokens.specs.Printing.{AreBytes, Stops, is_bare_id, raw_text}
use Rattle.ir_text_tokens.proofs.Escapes.{value_again}
use Rattle.ir_text_tokens.proofs.Printed.{mark_token, symbol_token, quoted_token}
use Rattle.ir_text.specs.Rows.{parted}
use Rattle.ir_text.specs.AttrText.{part_text, attr_text}
use Rattle.ir_text_types.specs.Grammars.{Token}
use Rattle.ir_text_types.specs.TypeReading.{many}
use Rattle.ir_text_attributes.specs.AttrGrammar.{IsPart, IsParts, IsSymbol}
use Rattle.ir_text_modules.specs.WrittenAttributes.{are_bytes as are_bytes_test, are_parts, EndsAttr}
use Rattle.ir_text_modules.proofs.Small.{are_bytes}
use Rattle.ir_text_modules.proofs.Ends.{ends_colons, ends_suffix}
use Rattle.ir_text_modules.proofs.Leaves.{Begins}
use Rattle.std.proofs.lemmas.Bool.{and_parts, cases_Bool, leb-true}

-- the token of a part
record IsPartToken (n rest : List ℕ) : Type 0 where
  pub token : Lexeme
  pub stands : Token token (part_text n ++ rest) rest
  pub part : IsPart n (part_text n ++ rest) rest
  pub begins : (o : Bool) (depth : ℕ) (parts : List (List ℕ)) (new : List ℕ) → IsSymbol (Symbol parts) (part_text n ++ rest) new → Begins o depth (Symbol parts) (part_text n ++ rest) new

part_again : (n rest : List ℕ) → AreBytes n → Stops is_suffix rest → IsPartToken n rest
part_again n rest h s = elim (cases_Bool (is_bare_id n)) [
  | inl t ↦ let k = symbol_token n rest t s in record { token = symbol n; stands = k; part = inl k; begins = λ o depth parts new l. (symbol n, rest, k, l) }
  | inr f ↦ let k = quoted_token n rest f h in record { token = quoted (raw_text n); stands = k; part = inr (raw_text n, k, sym (value_again n h)); begins = λ o depth parts new l. (quoted (raw_text n), rest, k, l) }
]

-- the text after a part: `::` and each other part
abbrev others : List (List ℕ) → List ℕ → List ℕ
others ns rest = parted (codes "::") false (map part_text ns) ++ rest

ends_part : (ns : List (List ℕ)) (rest : List ℕ) → Stops is_suffix rest → Stops is_suffix (others ns rest)
ends_part [] rest s = s
ends_part (n ∷ ns) rest s = refl

parts_again : (o : Bool) (headroom : ℕ) (preceding : List (List ℕ)) (n : List ℕ) (ns : List (List ℕ)) (rest : List ℕ) → list_all are_bytes_test (n ∷ ns) ≡ true → length (n ∷ ns) ≤ headroom → EndsAttr o rest → IsParts headroom preceding (preceding ++ n ∷ ns) (part_text n ++ others ns rest) rest
unfolding IsParts
parts_again o zero preceding n ns rest e le s = absurd (omega (arith, le))
parts_again o (suc headroom) preceding n [] rest e le s = (n, rest, (part_again n rest (are_bytes n (and_parts _ _ e).0) (ends_suffix o rest s)).part, inl (ends_colons o rest s, refl, refl))
parts_again o (suc headroom) preceding n (m ∷ ms) rest e le s =
    let p = and_parts (are_bytes_test n) (list_all are_bytes_test (m ∷ ms)) e in
    let tail = part_text m ++ others ms rest in
    let apart : others (m ∷ ms) rest ≡ 58 ∷ 58 ∷ tail = ap (λ (l : List ℕ). 58 ∷ 58 ∷ l) (append_assoc (part_text m) (parted (codes "::") false (map part_text ms)) rest) in
    let all : preceding ++ n ∷ m ∷ ms ≡ (preceding ++ n ∷ []) ++ m ∷ ms = sym (append_assoc preceding (n ∷ []) (m ∷ ms)) in
    let more = parts_again o headroom (preceding ++ n ∷ []) m ms rest p.1 (omega arith) s in
    let here = part_again n (58 ∷ 58 ∷ tail) (are_bytes n p.0) refl in
    subst (λ l. IsParts (suc headroom) preceding (preceding ++ n ∷ m ∷ ms) (part_text n ++ l) rest) (sym apart)
    (n, 58 ∷ 58 ∷ tail, here.part, inr (tail, mark_token DoubleColon tail tt, subst (λ l. IsParts headroom (preceding ++ n ∷ []) l tail rest) (sym all) more))

pub symbol_read : (o : Bool) (depth : ℕ) (parts : List (List ℕ)) (rest : List ℕ) → are_parts parts ≡ true → EndsAttr o rest → Begins o depth (Symbol parts) (attr_text (Symbol parts) ++ rest) rest
symbol_read o depth [] rest e s = absurd cc
symbol_read o depth (n ∷ ns) rest e s =
    let p = and_parts (not (length (n ∷ ns) == 0) && nat_le (length (n ∷ ns)) many) (list_all are_bytes_test (n ∷ ns)) e in
    let count = leb-true (length (n ∷ ns)) many (and_parts (not (length (n ∷ ns) == 0)) (nat_le (length (n ∷ ns)) many) p.0).1 in
    let q = and_parts (are_bytes_test n) (list_all are_bytes_test ns) p.1 in
    let apart : attr_text (Symbol (n ∷ ns)) ++ rest ≡ part_text n ++ others ns rest = append_assoc (part_text n) (parted (codes "::") false (map part_text ns)) rest in
    let here = part_again n (others ns rest) (are_bytes n q.0) (ends_part ns rest (ends_suffix o rest s)) in
    let all = parts_again o many [] n ns rest p.1 count s in
    rw apart (here.begins o depth (n ∷ ns) rest (n ∷ ns, rest, all, (refl, refl, refl)))
