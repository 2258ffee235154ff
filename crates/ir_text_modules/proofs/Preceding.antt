-- The printed text of an operation before its regions is parsed back.
use Rattle.std.proofs.Common.{◌≡◌, ℕ, zero, suc, ◌^◌, ◌<◌, ◌≤◌, Bool, true, false, List, [], ◌∷◌, ◌++◌, map, length, Option, Some, None, refl, sym, ap, subst, ◌∙◌, append_assoc, arith, inl, inr}
use Rattle.std.specs.Prelude.{codes, ◌==◌, if◌then◌else◌}
use Rattle.std.specs.Char.{is_ascii_digit}
use Rattle.std.specs.Fmt.{decimal}
use Rattle.std.specs.List.{AllByRecursion}
use Rattle.std.proofs.lemmas.Bool.{eqb-true}
use Rattle.std.proofs.lemmas.Bool.Decides.{nat_tests}
use Rattle.std.proofs.lemmas.Option.{some_pair_parts}
use Rattle.ir_types.specs.Terms.{TypeTerm}
use Rattle.ir_tree.specs.declared.value.Value.{Value}
use Rattle.ir_text_tokens.specs.declared.token.Mark.TheVariants.{OpenRound, CloseRound, Comma, Colon, Equal}
use Rattle.ir_text_tokens.specs.Bytes.{is_suffix}
use Rattle.ir_text_tokens.specs.Tokens.{Lexeme, mark, value, hash, string, next, digits_len, suffix_len}
use Rattle.ir_text_tokens.specs.Printing.{AreBytes, Stops, is_suffix_id, raw_text}
use Rattle.ir_text_tokens.proofs.Escapes.{value_again}
use Rattle.ir_text_tokens.proofs.Decimals.{decimal_number, integer_again, eqb_self, first_passes}
use Rattle.ir_text_tokens.proofs.Printed.{mark_token, value_token, hash_token, string_token, decimal_token, decimal_name, zero_test}
use Rattle.ir_text_types.specs.Grammars.{Not, IsMore, IsList, IsMark, Token}
use Rattle.ir_text_operations.specs.Free.{no_names, pack_denoted_by}
use Rattle.ir_text_names.specs.Packs.{Counted, counts}
use Rattle.ir_text_operations.specs.ParseState.{BoundTerm}
use Rattle.ir_text_operations.specs.OpGrammar.{IsCount, IsResult, IsResults, IsOpName, IsPlace, IsUse, IsStart, StartTerm}
use Rattle.ir_text.specs.declared.naming.ValueName.{ValueName}
use Rattle.ir_text.specs.declared.naming.ValueName.TheVariants.{Only, Part, Argument}
use Rattle.ir_text.specs.Naming.{Named, name_text, value_text, value_type}
use Rattle.ir_text.specs.Printing.{properties_text, results_text}
use Rattle.ir_text.specs.Rows.{parted}
use Rattle.ir_text.specs.TypeText.{in_round}
use Rattle.ir_text_modules.proofs.Ahead.{Ahead, more_ahead, space, space_token}
use Rattle.ir_text_modules.proofs.Small.{lacks_token}
use Rattle.ir_text_modules.proofs.Words.{run_within, all_digits, digit_word}
use Rattle.ir_tree_laws.specs.Renumbered.{value_with_id}
use Rattle.ir_text_modules.proofs.Texts.{Head, results_then, name_then}
use Rattle.ir_text_modules.proofs.ModuleWords.{argument_word}
use Rattle.ir_text_modules.proofs.Joined.{Here, IsSmall, IsParseState, word_of, place_of, term_of}

-- ---- names

digit_suffix : (c : ℕ) → is_ascii_digit c ≡ true → is_suffix c ≡ true
digit_suffix c e = rw (digit_word c e) refl

name_from : (w : List ℕ) → suffix_len w ≡ length w → 1 ≤ length w → is_suffix_id w ≡ true
name_from w e le = rw (e, zero_test (length w) le, eqb_self (length w)) refl

pub argument_name : (n : ℕ) → n < 2 ^ 128 → is_suffix_id (argument_word n) ≡ true
argument_name n lt =
    let run : suffix_len (argument_word n) ≡ length (argument_word n) = rw (run_within is_ascii_digit is_suffix digit_suffix (decimal n) (decimal_number n lt).digits) (omega arith) in
    name_from (argument_word n) run (omega arith)

-- what may follow the name of a value
pub record EndsName (rest : List ℕ) : Type 0 where
  pub stops : Stops is_suffix rest
  pub no_hash : (word new : List ℕ) → Token (hash word) rest new → ⊥

pub other_token : (t u : Lexeme) (a new other : List ℕ) → Token t a new → (t ≡ u → ⊥) → Token u a other → ⊥
other_token t u a new other h apart k = apart (some_pair_parts t u new other (sym h ∙ k)).0

pub comma_ends : (rest : List ℕ) → EndsName (44 ∷ rest)
comma_ends rest = record { stops = refl; no_hash = λ word new k. other_token (mark Comma) (hash word) (44 ∷ rest) rest new (mark_token Comma rest tt) (λ e. absurd cc) k }

pub close_ends : (rest : List ℕ) → EndsName (41 ∷ rest)
close_ends rest = record { stops = refl; no_hash = λ word new k. other_token (mark CloseRound) (hash word) (41 ∷ rest) rest new (mark_token CloseRound rest tt) (λ e. absurd cc) k }

-- a name is parsed back
record NameRead (name : ValueName) (rest : List ℕ) : Type 0 where
  pub mid : List ℕ
  pub token : Token (value (word_of name)) (name_text name ++ rest) mid
  pub place : IsPlace (place_of name) mid rest

name_read : (name : ValueName) (rest : List ℕ) → IsSmall name → EndsName rest → NameRead name rest
name_read (Only n) rest small ends = record { mid = rest; token = value_token (decimal n) rest (decimal_name n small) ends.stops; place = inr (ends.no_hash, refl, refl) }
name_read (Part n k) rest small ends =
    let back = 35 ∷ (decimal k ++ rest) in
    let apart : (decimal n ++ 35 ∷ decimal k) ++ rest ≡ decimal n ++ back = append_assoc (decimal n) (35 ∷ decimal k) rest in
    let d = decimal_number k small.1 in
    record {
      mid = back;
      token = subst (λ l. Token (value (decimal n)) (37 ∷ l) back) (sym apart) (value_token (decimal n) back (decimal_name n small.0) refl);
      place = inl (decimal k, hash_token (decimal k) rest (decimal_name k small.1) ends.stops, all_digits (decimal k) d.digits, sym d.value);
    }
name_read (Argument n) rest small ends = record { mid = rest; token = value_token (argument_word n) rest (argument_name n small) ends.stops; place = inr (ends.no_hash, refl, refl) }

-- ---- operands

module _ (f : ℕ → ℕ) (named : Named) (here : Here) where
  abbrev pub ParseState : Bool → Value → Type 0
  ParseState o v = IsParseState o f named here v

  -- the value with its type
  abbrev pub bound_of : Value → BoundTerm
  bound_of v = term_of f v (value_type named v)

  use_read : (o : Bool) (v : Value) (rest : List ℕ) → ParseState o v → EndsName rest → IsUse no_names here (bound_of v) (value_text named v ++ rest) rest
  use_read o v rest s ends =
      let r = s.read in
      let y = s.naming in
      let k = name_read y.name rest r.small ends in
      let seen : pack_denoted_by no_names here (word_of y.name) ≡ Some r.pack = rw r.bound refl in
      rw s.named (word_of y.name, k.mid, r.pack, place_of y.name, k.token, seen, k.place, r.place)

  use_ahead : Ahead (IsUse no_names here)
  use_ahead y a b new e h = (h.0, h.1, h.2, h.3, sym e ∙ h.4, h.5, h.6, h.7)

  use_lacks : (y : BoundTerm) (a new : List ℕ) → IsUse no_names here y a new → Not IsMark CloseRound a
  use_lacks y a new h = lacks_token (value h.0) CloseRound a h.1 h.4 (λ e. absurd cc)

  -- the text after an operand: a comma and each other operand, and the end
  abbrev others : List Value → List ℕ → List ℕ
  others vs rest = parted (codes ", ") false (map (value_text named) vs) ++ 41 ∷ rest

  ends_next : (vs : List Value) (rest : List ℕ) → EndsName (others vs rest)
  ends_next [] rest = close_ends rest
  ends_next (v ∷ vs) rest = comma_ends _

  uses_more : (o : Bool) (headroom : ℕ) (preceding : List BoundTerm) (v : Value) (vs : List Value) (rest : List ℕ) → AllByRecursion (ParseState o) (v ∷ vs) → length (v ∷ vs) ≤ headroom
      → IsMore IsMark CloseRound (λ before. IsUse no_names here) headroom preceding (preceding ++ map bound_of (v ∷ vs)) (value_text named v ++ others vs rest) rest
  unfolding IsMore
  uses_more o zero preceding v vs rest h le = absurd (omega (arith, le))
  uses_more o (suc headroom) preceding v [] rest h le = (bound_of v, 41 ∷ rest, use_read o v (41 ∷ rest) h.0 (close_ends rest), inl (mark_token CloseRound rest tt, refl))
  uses_more o (suc headroom) preceding v (w ∷ ws) rest h le =
      let tail = 32 ∷ (value_text named w ++ others ws rest) in
      let apart : others (w ∷ ws) rest ≡ 44 ∷ tail = ap (λ (l : List ℕ). 44 ∷ 32 ∷ l) (append_assoc (value_text named w) (parted (codes ", ") false (map (value_text named) ws)) (41 ∷ rest)) in
      let preceding' = preceding ++ bound_of v ∷ [] in
      let all : preceding ++ map bound_of (v ∷ w ∷ ws) ≡ preceding' ++ map bound_of (w ∷ ws) = sym (append_assoc preceding (bound_of v ∷ []) (map bound_of (w ∷ ws))) in
      let more = uses_more o headroom preceding' w ws rest h.1 (omega arith) in
      let spaced = space (IsMore IsMark CloseRound (λ before. IsUse no_names here) headroom preceding') (more_ahead CloseRound (λ before. IsUse no_names here) (λ before. use_ahead) headroom preceding') (preceding' ++ map bound_of (w ∷ ws)) (value_text named w ++ others ws rest) rest more in
      let open_yet = lacks_token (mark Comma) CloseRound (44 ∷ tail) tail (mark_token Comma tail tt) (λ e. absurd cc) in
      subst (λ l. IsMore IsMark CloseRound (λ before. IsUse no_names here) (suc headroom) preceding (preceding ++ map bound_of (v ∷ w ∷ ws)) (value_text named v ++ l) rest) (sym apart)
      (bound_of v, 44 ∷ tail, use_read o v (44 ∷ tail) h.0 (comma_ends tail), inr (open_yet, tail, mark_token Comma tail tt, subst (λ l. IsMore IsMark CloseRound (λ before. IsUse no_names here) headroom preceding' l tail rest) (sym all) spaced))

  pub uses_again : (o : Bool) (headroom : ℕ) (vs : List Value) (rest : List ℕ) → AllByRecursion (ParseState o) vs → length vs ≤ headroom → IsList IsMark CloseRound (λ before. IsUse no_names here) headroom (map bound_of vs) (parted (codes ", ") true (map (value_text named) vs) ++ 41 ∷ rest) rest
  unfolding IsList
  uses_again o headroom [] rest h le = inl (mark_token CloseRound rest tt, refl)
  uses_again o headroom (v ∷ vs) rest h le =
      let apart : (value_text named v ++ parted (codes ", ") false (map (value_text named) vs)) ++ 41 ∷ rest ≡ value_text named v ++ others vs rest = append_assoc (value_text named v) (parted (codes ", ") false (map (value_text named) vs)) (41 ∷ rest) in
      let first = use_lacks (bound_of v) (value_text named v ++ others vs rest) (others vs rest) (use_read o v (others vs rest) h.0 (ends_next vs rest)) in
      subst (λ l. IsList IsMark CloseRound (λ before. IsUse no_names here) headroom (map bound_of (v ∷ vs)) l rest) (sym apart) (inr (first, uses_more o headroom [] v vs rest h le))

  pub bound_types : (vs : List Value) → map (λ b. b.type) (map bound_of vs) ≡ map (value_type named) vs
  bound_types [] = refl
  bound_types (v ∷ vs) = ap (λ (l : List TypeTerm). value_type named v ∷ l) (bound_types vs)

  pub bound_values : (vs : List Value) → map (λ b. b.value) (map bound_of vs) ≡ map (value_with_id f) vs
  bound_values [] = refl
  bound_values (v ∷ vs) = ap (λ (l : List Value). value_with_id f v ∷ l) (bound_values vs)

-- ---- results

-- the names of the results before an operation
abbrev pub result_words : ℕ → List TypeTerm → Option (List Counted)
result_words m [] = None
result_words m (t ∷ ts) = Some ((decimal m, length (t ∷ ts)) ∷ [])

digits_stop : (ds rest : List ℕ) → digits_len ds ≡ length ds → 1 ≤ length ds → Stops (λ c. c == 58) (ds ++ rest)
digits_stop [] rest h le = absurd (omega (arith, le))
digits_stop (d ∷ ds) rest h le = no_colon d (first_passes is_ascii_digit d ds h)
  where
    no_colon : (c : ℕ) → is_ascii_digit c ≡ true → (c == 58) ≡ false
    no_colon c e = grind (arith, nat_tests)

abbrev equal_then : List ℕ → List ℕ
equal_then rest = 32 ∷ 61 ∷ 32 ∷ rest

equal_next : (rest : List ℕ) → Token (mark Equal) (equal_then rest) (32 ∷ rest)
equal_next rest = space_token (mark Equal) (61 ∷ 32 ∷ rest) (32 ∷ rest) (mark_token Equal (32 ∷ rest) tt)

-- a name with its count
pub record ResultRead (m many : ℕ) (rest : List ℕ) : Type 0 where
  pub mid : List ℕ
  pub name : Token (value (decimal m)) (results_text m many ++ rest) mid
  pub count : IsCount 0 many mid (equal_then rest)

pub result_read : (m count : ℕ) (rest : List ℕ) → m < 2 ^ 128 → 1 ≤ count → count ≤ 256 → ResultRead m count rest
result_read m count rest lt some few = from (count == 1) refl
  where
    back : Bool → List ℕ
    back only = if only then codes " = " else codes ":" ++ (decimal count ++ codes " = ")

    apart : (only : Bool) → (count == 1) ≡ only → results_text m count ++ rest ≡ 37 ∷ (decimal m ++ (back only ++ rest))
    apart only e = rw e (ap (λ (l : List ℕ). 37 ∷ l) (append_assoc (decimal m) (back only) rest))

    from : (only : Bool) → (count == 1) ≡ only → ResultRead m count rest
    from true e =
        let one : count ≡ 1 = eqb-true count 1 e in
        let lacks = lacks_token (mark Equal) Colon (equal_then rest) (32 ∷ rest) (equal_next rest) (λ k. absurd cc) in
        record {
          mid = equal_then rest;
          name = subst (λ l. Token (value (decimal m)) l (equal_then rest)) (sym (apart true e)) (value_token (decimal m) (equal_then rest) (decimal_name m lt) refl);
          count = (1, equal_then rest, inr (lacks, (refl, refl)), (omega arith, (one, refl)));
        }
    from false e =
        let d = decimal_number count (omega arith) in
        let tail = decimal count ++ equal_then rest in
        let joined : back false ++ rest ≡ 58 ∷ tail = ap (λ (l : List ℕ). 58 ∷ l) (append_assoc (decimal count) (codes " = ") rest) in
        let whole : results_text m count ++ rest ≡ 37 ∷ (decimal m ++ 58 ∷ tail) = apart false e ∙ ap (λ (l : List ℕ). 37 ∷ (decimal m ++ l)) joined in
        record {
          mid = 58 ∷ tail;
          name = subst (λ l. Token (value (decimal m)) l (58 ∷ tail)) (sym whole) (value_token (decimal m) (58 ∷ tail) (decimal_name m lt) refl);
          count = (count, equal_then rest, inl (tail, mark_token Colon tail (digits_stop (decimal count) (equal_then rest) d.digits d.some), (decimal count, decimal_token count (equal_then rest) (omega arith) refl, sym (integer_again count (omega arith)), some)), (omega (arith, few), (refl, refl)));
        }

names_read : (headroom m count : ℕ) (old rest : List ℕ) → next old ≡ next (results_text m count ++ rest) → ResultRead m count rest → IsMore IsMark Equal (λ before. IsResult (counts before)) (suc headroom) [] ((decimal m, count) ∷ []) old (32 ∷ rest)
unfolding IsMore
names_read headroom m count old rest e r = ((decimal m, count), equal_then rest, (decimal m, r.mid, e ∙ r.name, (count, equal_then rest, r.count, (refl, refl))), inl (equal_next rest, refl))

-- the text before the operation's name, which is a string
results_read : (m : ℕ) (ts : List TypeTerm) (old rest : List ℕ) (raw new : List ℕ) → m < 2 ^ 128 → length ts ≤ 256 → Token (string raw) rest new → next old ≡ next (results_then m ts rest) → (mid : List ℕ) × IsResults (result_words m ts) old mid × Token (string raw) mid new
results_read m [] old rest raw new lt few h e = (old, (string raw, new, e ∙ h, (refl, refl)), e ∙ h)
results_read m (t ∷ ts) old rest raw new lt few h e =
    let r = result_read m (length (t ∷ ts)) rest lt (omega arith) few in
    (32 ∷ rest, (value (decimal m), r.mid, e ∙ r.name, ((decimal m, length (t ∷ ts)) ∷ [], names_read 255 m (length (t ∷ ts)) old rest e r, refl)), space_token (string raw) rest new h)

-- ---- up to the properties

abbrev pub start_of : (ℕ → ℕ) → Named → ℕ → Head → StartTerm
start_of f named m h = record { results = result_words m h.results; name = h.name; operands = map (bound_of f named []) h.operands }

pub start_again : (o : Bool) (f : ℕ → ℕ) (named : Named) (here : Here) (m : ℕ) (h : Head) (old rest : List ℕ) → m < 2 ^ 128 → AreBytes h.name → (length h.name == 0) ≡ false → length h.operands ≤ 256 → length h.results ≤ 256 → AllByRecursion (IsParseState o f named here) h.operands
    → next old ≡ next (results_then m h.results (name_then h named rest)) → IsStart no_names here (start_of f named m h) old (properties_text h.properties ++ rest)
start_again o f named here m h old rest lt bytes some ops res seen e =
    let trailing = properties_text h.properties ++ rest in
    let row = parted (codes ", ") true (map (value_text named) h.operands) in
    let round = in_round (map (value_text named) h.operands) ++ trailing in
    let name = string_token h.name round bytes in
    let r = results_read m h.results old (name_then h named rest) (raw_text h.name) round lt res name e in
    let back = row ++ 41 ∷ trailing in
    let apart : round ≡ 40 ∷ back = ap (λ (l : List ℕ). 40 ∷ l) (append_assoc row (41 ∷ []) trailing) in
    let opened : Token (mark OpenRound) round back = subst (λ l. Token (mark OpenRound) l back) (sym apart) (mark_token OpenRound back tt) in
    let same = value_again h.name bytes in
    let named_so : IsOpName h.name r.0 round = (raw_text h.name, r.2, rw same some, sym same) in
    (result_words m h.results, r.0, r.1, (h.name, round, named_so, (back, opened, (map (bound_of f named []) h.operands, trailing, uses_again f named here o 256 h.operands trailing seen ops, (refl, refl)))))
