-- The parser and the grammar of symbol references agree.
use Rattle.std.specs.List.{AllByRecursion}
use Rattle.std.proofs.Common.{◌≡◌, ◌<◌, ℕ, zero, suc, List, [], ◌∷◌, ◌++◌, length, map, slice_index_or, refl, sym, ap, subst, ◌⊎◌, inl, inr}
use Rattle.std.proofs.lemmas.List.Elements.{All-from_recursion}
use Rattle.ir_text_tokens.specs.declared.token.Mark.TheVariants.{DoubleColon}
use Rattle.ir_text_tokens.specs.Strings.{string_bytes}
use Rattle.ir_text_tokens.specs.Tokens.{Lexeme, symbol, quoted}
use Rattle.ir_types.specs.declared.node.AttrNode.TheVariants as attr
use Rattle.ir_types.specs.Things.{ContextModel, AttrIsOf}
use Rattle.ir_types.specs.Terms.{Symbol}
use Rattle.ir_types.specs.Dictionaries.{kept}
use Rattle.ir_types.specs.Sound.{IsSound}
use Rattle.ir_types.proofs.Growth.{grows_refl, grows_trans}
use Rattle.ir_text_types.specs.Outcomes.{Read, ◌>>=◌}
use Rattle.ir_text_types.specs.Typed.{Text, after_typed}
use Rattle.ir_text_types.specs.TypeReading.{many}
use Rattle.ir_text_types.specs.Grammars.{Grammar, Then, Done, Either, Not, IsMark, Token}
use Rattle.ir_text_types.specs.Worlds.{From}
use Rattle.ir_text_types.specs.Denotation.{NameDenotes, AttrDenotes}
use Rattle.ir_text_types.specs.Laws.{Each}
use Rattle.ir_text_types.proofs.Worlds.{Exact, exact_rendered, nothing_exact, then_exact, done_exact, either_exact, each_push}
use Rattle.ir_text_types.proofs.TextLaws.{things, Same, typed_marks}
use Rattle.ir_text_types.proofs.TokenLaws.{trailing_exact, token_exact}
use Rattle.ir_text_attributes.specs.AttrReading.{name_done, attr_done, part_from, part_at, parts_from, parts_at, symbol_attr_at}
use Rattle.ir_text_attributes.specs.AttrGrammar.{IsFine, IsPart, IsParts, IsSymbol}
use Rattle.ir_text_attributes.proofs.NodeLaws.{IsNodeOf, name_done_exact, attr_done_exact}

abbrev PartFrom : Lexeme → Text → Grammar Text (List ℕ)
PartFrom (symbol n) rest y old new = Done n y rest new
PartFrom (quoted raw) rest y old new = Done (string_bytes raw) y rest new
PartFrom _ rest y old new = ⊥

part_from_exact : (c : ContextModel) (l : Lexeme) (rest : Text) → Exact things Same c NameDenotes (λ s. part_from s.1 l rest) (PartFrom l rest)
part_from_exact c (symbol n) rest = trailing_exact c NameDenotes rest (name_done n) (Done n) (name_done_exact c n)
part_from_exact c (quoted raw) rest = trailing_exact c NameDenotes rest (name_done (string_bytes raw)) (Done (string_bytes raw)) (name_done_exact c (string_bytes raw))
part_from_exact c _ rest = nothing_exact things Same c NameDenotes

part_into : (y : List ℕ) (t t' : Text) → (l : Lexeme) × (rest : Text) × Token l t rest × PartFrom l rest y t t' → IsPart y t t'
part_into y t t' k = by_token k.0 k.1 k.2 k.3
  where
    by_token : (l : Lexeme) (rest : Text) → Token l t rest → PartFrom l rest y t t' → IsPart y t t'
    by_token (symbol n) rest token k = rw (k.0, k.1) (inl token)
    by_token (quoted raw) rest token k = inr (raw, subst (λ r. Token (quoted raw) t r) (sym k.1) token, k.0)
    by_token _ rest token k = absurd k

part_back : (y : List ℕ) (t t' : Text) → IsPart y t t' → (l : Lexeme) × (rest : Text) × Token l t rest × PartFrom l rest y t t'
part_back y t t' (inl k) = (symbol y, t', k, (refl, refl))
part_back y t t' (inr k) = (quoted k.0, t', k.1, (k.2, refl))

part_exact : (c : ContextModel) → Exact things Same c NameDenotes part_at IsPart
unfolding part_at
part_exact c =
    exact_rendered things Same c NameDenotes part_at (λ y old new. (l : Lexeme) × (rest : Text) × Token l old rest × PartFrom l rest y old new) IsPart part_into part_back
    (token_exact c NameDenotes (λ s l rest. part_from s.1 l rest) PartFrom (part_from_exact c))

-- ---- parts

-- the end, or a `::` and more parts
abbrev More : ℕ → List (List ℕ) → Grammar Text (List (List ℕ))
More headroom ys = Either IsMark DoubleColon (IsParts headroom ys) (Done ys)

parts_into : (headroom : ℕ) (preceding ys : List (List ℕ)) (t t' : Text) → Then IsPart (λ n. More headroom (preceding ++ n ∷ [])) ys t t' → IsParts (suc headroom) preceding ys t t'
unfolding IsParts
parts_into headroom preceding ys t t' k = (k.0, k.1, k.2, by_case k.3)
  where
    by_case : More headroom (preceding ++ k.0 ∷ []) ys k.1 t'
        → (Not IsMark DoubleColon k.1 × (ys ≡ preceding ++ k.0 ∷ []) × (t' ≡ k.1)) ⊎ ((next : Text) × IsMark DoubleColon k.1 next × IsParts headroom (preceding ++ k.0 ∷ []) ys next t')
    by_case (inl j) = inr j
    by_case (inr j) = inl (j.0, j.1.0, j.1.1)

parts_back : (headroom : ℕ) (preceding ys : List (List ℕ)) (t t' : Text) → IsParts (suc headroom) preceding ys t t' → Then IsPart (λ n. More headroom (preceding ++ n ∷ [])) ys t t'
unfolding IsParts
parts_back headroom preceding ys t t' k = (k.0, k.1, k.2, by_case k.3)
  where
    by_case : (Not IsMark DoubleColon k.1 × (ys ≡ preceding ++ k.0 ∷ []) × (t' ≡ k.1)) ⊎ ((next : Text) × IsMark DoubleColon k.1 next × IsParts headroom (preceding ++ k.0 ∷ []) ys next t')
        → More headroom (preceding ++ k.0 ∷ []) ys k.1 t'
    by_case (inl j) = inr (j.0, (j.1, j.2))
    by_case (inr j) = inl j

pub parts_exact : (headroom : ℕ) (c : ContextModel) (ns : List ℕ) (ys : List (List ℕ)) → From (λ z. Each NameDenotes z ns ys) c → Exact things Same c (Each NameDenotes) (parts_at headroom ns) (IsParts headroom ys)
unfolding parts_at IsParts
parts_exact zero c ns ys r = nothing_exact things Same c (Each NameDenotes)
parts_exact (suc headroom) c ns ys r =
    exact_rendered things Same c (Each NameDenotes) (λ s. part_at s >>= λ x. parts_from (parts_at headroom (ns ++ x.0 ∷ [])) (ns ++ x.0 ∷ []) x.1 (after_typed DoubleColon x.1)) (Then IsPart (λ n. More headroom (ys ++ n ∷ []))) (IsParts (suc headroom) ys)
    (parts_into headroom ys) (parts_back headroom ys)
    (then_exact things Same c NameDenotes (Each NameDenotes) part_at IsPart (λ x s. parts_from (parts_at headroom (ns ++ x ∷ [])) (ns ++ x ∷ []) s (after_typed DoubleColon s)) (λ n. More headroom (ys ++ n ∷ [])) (part_exact c) (λ d x y g h.
    let preceding : From (λ z. Each NameDenotes z (ns ++ x ∷ []) (ys ++ y ∷ [])) d = λ z k w. each_push things Same after_typed IsMark typed_marks NameDenotes z ns ys x y (r z (grows_trans c d z g k) w) (h z k w) in
    either_exact things Same after_typed IsMark typed_marks d (Each NameDenotes) DoubleColon (parts_from (parts_at headroom (ns ++ x ∷ [])) (ns ++ x ∷ [])) (parts_at headroom (ns ++ x ∷ [])) (λ s. Read (ns ++ x ∷ [], s)) (IsParts headroom (ys ++ y ∷ [])) (Done (ys ++ y ∷ []))
    (λ s mid. refl) (λ s. refl) (parts_exact headroom d (ns ++ x ∷ []) (ys ++ y ∷ []) preceding) (done_exact things Same d (Each NameDenotes) (ns ++ x ∷ []) (ys ++ y ∷ []) preceding)))

names_below : (z : ContextModel) (ns : List ℕ) (ys : List (List ℕ)) → Each NameDenotes z ns ys → AllByRecursion (λ n. n < length z.names) ns
names_below z [] [] h = tt
names_below z [] (y ∷ ys) h = absurd h
names_below z (n ∷ ns) [] h = absurd h
names_below z (n ∷ ns) (y ∷ ys) h = (h.0.0, names_below z ns ys h.1)

names_term : (z : ContextModel) (ns : List ℕ) (ys : List (List ℕ)) → Each NameDenotes z ns ys → map (λ n. slice_index_or z.names n []) ns ≡ ys
names_term z [] [] h = refl
names_term z [] (y ∷ ys) h = absurd h
names_term z (n ∷ ns) [] h = absurd h
names_term z (n ∷ ns) (y ∷ ys) h = λ i. h.0.1 i ∷ names_term z ns ys h.1 i

symbol_node : (z : ContextModel) (ns : List ℕ) (ys : List (List ℕ)) → Each NameDenotes z ns ys → IsNodeOf (attr.Sym ns) (Symbol ys) z
unfolding kept
symbol_node z ns ys h = (All-from_recursion (λ n. n < length z.names) ns (names_below z ns ys h), ap Symbol (names_term z ns ys h))

pub symbol_exact : (c : ContextModel) → Exact things Same c AttrDenotes symbol_attr_at IsSymbol
unfolding symbol_attr_at
symbol_exact c =
    then_exact things Same c (Each NameDenotes) AttrDenotes (parts_at many []) (IsParts many []) (λ ns. attr_done (attr.Sym ns)) (λ ys. IsFine (Symbol ys)) (parts_exact many c [] [] (λ z g w. tt)) (λ d ns ys g r.
    attr_done_exact d (attr.Sym ns) (Symbol ys) (refl, refl) (λ z k w. symbol_node z ns ys (r z k w)))

-- the parts that are parsed are names of the grown context
pub parts_known : (bytes rest : List ℕ) (c d : ContextModel) (ns : List ℕ) → IsSound c → parts_at many [] (bytes, c) ≡ Read (ns, (rest, d)) → AttrIsOf d (attr.Sym ns)
parts_known bytes rest c d ns sound e =
    let f = (parts_exact many c [] [] (λ z g w. tt)).found (bytes, c) bytes ns (rest, d) (grows_refl c) sound (λ z g w. refl) e in
    (symbol_node d ns f.0 (f.3.stands d (grows_refl d) f.3.sound)).0
