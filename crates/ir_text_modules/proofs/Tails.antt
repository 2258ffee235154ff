-- The printed text of an operation after its regions is parsed back.
use Rattle.std.proofs.Common.{◌≡◌, ℕ, ◌+◌, ◌≤◌, Bool, true, List, [], ◌∷◌, ◌++◌, map, length, Some, None, refl, sym, ap, ◌∙◌, arith}
use Rattle.std.specs.Prelude.{codes}
use Rattle.std.specs.Fmt.{decimal}
use Rattle.std.specs.List.{AllByRecursion}
use Rattle.std.proofs.Math.Seq.{take-length}
use Rattle.ir_types.specs.Terms.{TypeTerm, Function}
use Rattle.ir_tree.specs.Tree.{op, regions_of, region_list, no_regions, region}
use Rattle.ir_tree.specs.Meaning.{key_before}
use Rattle.ir_text_tokens.specs.declared.token.Mark.{Mark}
use Rattle.ir_text_tokens.specs.declared.token.Mark.TheVariants.{OpenCurly, Colon}
use Rattle.ir_text_tokens.specs.Tokens.{mark}
use Rattle.ir_text_tokens.specs.Scopes.{Scopes, find, bound}
use Rattle.ir_text_tokens.proofs.Printed.{mark_token}
use Rattle.ir_text_types.specs.Grammars.{Not, IsMark, Token}
use Rattle.ir_text_types.specs.TypeGrammar.{types_of, IsFunctionType}
use Rattle.ir_text_attributes.specs.AttrGrammar.{entries_of, EntryTerm}
use Rattle.ir_text_operations.specs.Made.{made}
use Rattle.ir_text_operations.specs.ParseState.{BoundTerm, PackTerm, ParseState, state_with_rest}
use Rattle.ir_text_operations.specs.OpGrammar.{is_property, result_terms, IsFinished, IsTail}
use Rattle.ir_text.specs.AttrText.{entry_texts}
use Rattle.ir_text.specs.Naming.{Named, value_type}
use Rattle.ir_text.specs.Printing.{attributes_text}
use Rattle.ir_text.specs.Rows.{parted}
use Rattle.ir_text.specs.TypeText.{type_text}
use Rattle.ir_text_modules.specs.Written.{FitsType}
use Rattle.ir_text_modules.proofs.Ahead.{space_token}
use Rattle.ir_text_modules.proofs.OpEntries.{attributes_again}
use Rattle.ir_text_modules.proofs.Small.{lacks_token}
use Rattle.ir_text_modules.proofs.Sorted.{properties_stay, attributes_stay}
use Rattle.ir_text_modules.proofs.Types.{function_type_again, line_ends}
use Rattle.ir_tree_laws.specs.Renumbered.{regions_with_ids, with_ids}
use Rattle.ir_text_modules.proofs.Fitting.{FitsHead}
use Rattle.ir_text_modules.proofs.Texts.{Head, Regions, tail_then}
use Rattle.ir_text_modules.proofs.Preceding.{start_of, bound_of, bound_types, bound_values, result_words}

-- the text after the attributes
abbrev pub types_then : Head → Named → List ℕ → List ℕ
types_then h named rest = type_text (Function (types_of (map (value_type named) h.operands)) (types_of h.results)) ++ 10 ∷ rest

abbrev pub colon_then : Head → Named → List ℕ → List ℕ
colon_then h named rest = 32 ∷ 58 ∷ 32 ∷ types_then h named rest

-- the text after the regions begins with a brace or a colon
pub tail_lacks : (m : Mark) → (mark OpenCurly ≡ mark m → ⊥) → (mark Colon ≡ mark m → ⊥) → (h : Head) (named : Named) (rest : List ℕ) → Not IsMark m (tail_then h named rest)
tail_lacks m curly colon h named rest = from h.attributes
  where
    from : (es : List EntryTerm) → Not IsMark m (attributes_text es ++ (32 ∷ 58 ∷ 32 ∷ types_then h named rest))
    from [] = lacks_token (mark Colon) m (32 ∷ 58 ∷ 32 ∷ types_then h named rest) (32 ∷ types_then h named rest) (space_token (mark Colon) (58 ∷ 32 ∷ types_then h named rest) (32 ∷ types_then h named rest) (mark_token Colon (32 ∷ types_then h named rest) refl)) colon
    from (a ∷ as') =
        let inner = (parted (codes ", ") true (entry_texts (entries_of (a ∷ as'))) ++ codes "}") ++ (32 ∷ 58 ∷ 32 ∷ types_then h named rest) in
        lacks_token (mark OpenCurly) m (32 ∷ 123 ∷ inner) inner (space_token (mark OpenCurly) (123 ∷ inner) inner (mark_token OpenCurly inner tt)) curly

-- the scopes after the results are bound
abbrev pub finished : ℕ → ℕ → List TypeTerm → Scopes PackTerm → Scopes PackTerm
finished m id [] s = s
finished m id (t ∷ ts) s = bound (decimal m) (result_terms id 0 (t ∷ ts)) s

pub finished_outer : (m id : ℕ) (ts : List TypeTerm) (s : Scopes PackTerm) → (finished m id ts s).outer ≡ s.outer
finished_outer m id [] s = refl
finished_outer m id (t ∷ ts) s = refl

finish_read : (m id : ℕ) (ts : List TypeTerm) (s : Scopes PackTerm) → find (decimal m) s.here ≡ None → IsFinished id (result_words m ts) ts s (finished m id ts s)
finish_read m id [] s e = refl
finish_read m id (t ∷ ts) s e =
    let all = take-length (t ∷ ts) in
    let count : length (t ∷ ts) + 0 ≡ length (t ∷ ts) = omega arith in
    (count, (finished m id (t ∷ ts) s, (e, ap (λ l. bound (decimal m) (result_terms id 0 l) s) (sym all)), refl))

pub regions_back : (rs : Regions) → regions_of (region_list rs) ≡ rs
regions_back no_regions = refl
regions_back (region g rs) = ap (region g) (regions_back rs)

-- the operation is built from the parts that were parsed
made_again : (o : Bool) (f : ℕ → ℕ) (id : ℕ) (named : Named) (h : Head) (rs : Regions) → FitsHead o h → f h.id ≡ id
    → with_ids f (op h rs) ≡ made (is_property (Some h.name)) key_before id h.name (map (λ (b : BoundTerm). b.value) (map (bound_of f named []) h.operands)) h.properties h.attributes h.results (region_list (regions_with_ids f rs))
made_again o f id named h rs fits_in e =
    let p = properties_stay h.name h.properties h.attributes fits_in.written.properties.sorted fits_in.written.others in
    let a = attributes_stay h.name h.properties h.attributes fits_in.written.attributes.sorted fits_in.written.others in
    rw (bound_values f named [] h.operands, p, a, regions_back (regions_with_ids f rs), sym e) refl

type_spaced : (o : Bool) (ins outs : List TypeTerm) (back rest : List ℕ) → IsFunctionType o (ins, outs) back rest → IsFunctionType o (ins, outs) (32 ∷ back) rest
unfolding IsFunctionType
type_spaced o ins outs back rest k = (k.0, space_token _ back k.0 k.1, k.2)

pub tail_again : (o : Bool) (f : ℕ → ℕ) (m : ℕ) (first named : Named) (h : Head) (rs : Regions) (id : ℕ) (s : ParseState) (rest : List ℕ) → FitsHead o h → AllByRecursion (FitsType o 32) (map (value_type named) h.operands) → length (map (value_type named) h.operands) ≤ 256 → map (value_type first) h.operands ≡ map (value_type named) h.operands → f h.id ≡ id
    → find (decimal m) s.scopes.here ≡ None → s.bytes ≡ tail_then h named rest → IsTail o id (start_of f first m h) h.properties (region_list (regions_with_ids f rs)) (with_ids f (op h rs)) s (record { bytes = 10 ∷ rest; scopes = finished m id h.results s.scopes; next = s.next })
tail_again o f m first named h rs id s rest fits_in types few same e fresh bytes =
    let ins = map (value_type named) h.operands in
    let back = types_then h named rest in
    let colon : Token (mark Colon) (colon_then h named rest) (32 ∷ back) = space_token (mark Colon) (58 ∷ 32 ∷ back) (32 ∷ back) (mark_token Colon (32 ∷ back) refl) in
    let lacks = lacks_token (mark Colon) OpenCurly (colon_then h named rest) (32 ∷ back) colon (λ k. absurd cc) in
    let attributes = attributes_again o h.name h.properties h.attributes (colon_then h named rest) fits_in.attributes fits_in.written.attributes fits_in.written.others lacks in
    let type = type_spaced o ins h.results back (10 ∷ rest) (function_type_again o ins h.results (10 ∷ rest) (omega (arith, few)) fits_in.results types fits_in.written.types (line_ends o rest)) in
    let inputs : map (λ (b : BoundTerm). b.type) (map (bound_of f first []) h.operands) ≡ ins = bound_types f first [] h.operands ∙ same in
    (h.attributes, state_with_rest s (colon_then h named rest), (colon_then h named rest, rw bytes attributes, refl), (state_with_rest s (32 ∷ back), (32 ∷ back, colon, refl), ((ins, h.results), state_with_rest s (10 ∷ rest), (10 ∷ rest, type, refl), (inputs, (finished m id h.results s.scopes, finish_read m id h.results s.scopes fresh, refl, made_again o f id first h rs fits_in e)))))
