-- The printed text of a writable tree is ASCII, or UTF-8 with opaque types and attributes.
use Rattle.std.proofs.Common.{◌≡◌, ◌≤◌, ◌+◌, ℕ, Bool, true, false, List, [], ◌∷◌, ◌++◌, length, map, Option, Some, None, refl, arith}
use Rattle.std.specs.Prelude.{if◌then◌else◌, ◌==◌, not, nat_lt, codes}
use Rattle.std.specs.Map.{lookup}
use Rattle.std.specs.List.{AllByRecursion}
use Rattle.std.specs.Fmt.{decimal}
use Rattle.std.specs.Str.{IsAscii, IsUtf8}
use Rattle.std.specs.Str.Lossy.{utf8_valid_len}
use Rattle.std.proofs.lemmas.Bool.Decides.{nat_tests}
use Rattle.std.proofs.lemmas.Str.{IsAscii-append, IsUtf8-append, IsUtf8-from_ascii, utf8_valid_len-IsUtf8}
use Rattle.std.proofs.lemmas.Str.Ascii.{IsAscii-nil}
use Rattle.indexmap.specs.IndexMap.{insert_entry}
use Rattle.ir_types.specs.Terms.{TypeTerm, Index, Function, AttrTerm}
use Rattle.ir_tree.specs.declared.value.Value.{Value}
use Rattle.ir_tree.specs.Meaning.{Operation}
use Rattle.ir_tree.specs.Tree.{op, no_regions, region, empty, block, no_ops, next}
use Rattle.ir_text_tokens.specs.declared.refusal.TextRefusal.{TextRefusal}
use Rattle.ir_text_tokens.specs.declared.refusal.TextRefusal.TheVariants.{TooMany, NotUtf8}
use Rattle.ir_text_tokens.specs.Limits.{most_bytes, text_reason}
use Rattle.ir_text_tokens.specs.Printing.{string_text}
use Rattle.ir_text_types.specs.TypeGrammar.{types_of}
use Rattle.ir_text_attributes.specs.AttrGrammar.{entries_of}
use Rattle.ir_text.specs.declared.naming.ValueName.TheVariants as name
use Rattle.ir_text.specs.declared.naming.Source.{Source}
use Rattle.ir_text.specs.declared.naming.Source.TheVariants.{Result, Argument}
use Rattle.ir_text.specs.AttrText.{is_flag, attr_text, entry_texts}
use Rattle.ir_text.specs.Naming.{Naming, Named, naming_type, value_text, value_type, source_of, same_source, result_name, name_result, name_results}
use Rattle.ir_text.specs.Printing.{Printed, append_text, deeper, results_text, print_results, print_operands, dictionary_text, properties_text, attributes_text, print_head, print_tail, comma_at, argument_text, print_argument, print_arguments, print_bare_label, print_label, opening, closing_text, printed_op, print_regions, print_region, print_ops, blank, text_of}
use Rattle.ir_text.specs.TypeText.{in_round, is_lone, type_text, type_texts}
use Rattle.ir_text_modules.specs.Written.{FitsType}
use Rattle.ir_text_modules.specs.WrittenAttributes.{IsWritableDictionary, are_bytes, FitsAttr}
use Rattle.ir_text_modules.specs.WrittenTrees.{AreEncoded, value_texts, IsWritableHead, IsWritable, AreWritableRegions, IsWritableRegion, AreWritableOps}
use Rattle.ir_text_modules.proofs.Texts.{Head, Regions, Region, Ops}
use Rattle.ir_text_modules.proofs.Ascii.{number, quoted, values, counted, comma, opened, closed}
use Rattle.ir_text_modules.proofs.AsciiRows.{says, round, curly, arrow, entry}
use Rattle.ir_text_modules.proofs.AsciiTerms.{type, attribute}

-- P holds for ASCII texts, for concatenations, and for the texts of opaque types and attributes, if they are allowed
module _ (P : List ℕ → Type 0) (ascii : (xs : List ℕ) → IsAscii xs → P xs) (append : (xs ys : List ℕ) → P xs → P ys → P (xs ++ ys)) (o : Bool) (kept : (xs : List ℕ) → o ≡ true → IsUtf8 xs → P xs) where
  abbrev All : List (List ℕ) → Type 0
  All ts = AllByRecursion P ts

  abbrev AllTypes : List TypeTerm → Type 0
  AllTypes ts = AllByRecursion (λ t. P (type_text t)) ts

  -- ---- types and dictionaries

  types_so : (b : Bool) → o ≡ b → (ts : List TypeTerm) → AllByRecursion (FitsType b 32) ts → AreEncoded b (map type_text ts) → AllTypes ts
  types_so b k [] f e = tt
  types_so false k (t ∷ ts) f e = (ascii (type_text t) (type t f.0.1), types_so false k ts f.1 tt)
  types_so true k (t ∷ ts) f e = (kept (type_text t) k e.0, types_so true k ts f.1 e.1)

  listed : (b : Bool) → o ≡ b → (es : List (List ℕ × AttrTerm)) → AllByRecursion (λ e. are_bytes e.0 ≡ true) es → AllByRecursion (λ e. FitsAttr b 32 e.1) es → AreEncoded b (value_texts es) → All (entry_texts (entries_of es))
  listed b k [] keys f e = tt
  listed false k (x ∷ xs) keys f e = (entry P ascii append x.0 (is_flag x.1) (attr_text x.1) keys.0 (ascii (attr_text x.1) (attribute x.1 f.0.1)), listed false k xs keys.1 f.1 tt)
  listed true k (x ∷ xs) keys f e = (entry P ascii append x.0 (is_flag x.1) (attr_text x.1) keys.0 (kept (attr_text x.1) k e.0), listed true k xs keys.1 f.1 e.1)

  -- a dictionary, with the text before and after it
  dictionary : (es : List (List ℕ × AttrTerm)) → IsWritableDictionary o es → AreEncoded o (value_texts es) → P (dictionary_text es)
  dictionary es w e = curly P ascii append (entry_texts (entries_of es)) (listed o refl es w.keys w.values e)

  properties_so : (es : List (List ℕ × AttrTerm)) → IsWritableDictionary o es → AreEncoded o (value_texts es) → P (properties_text es)
  properties_so [] w e = ascii [] IsAscii-nil
  properties_so (x ∷ xs) w e = append (codes " <") (dictionary_text (x ∷ xs) ++ codes ">") (says P ascii append (codes " <") refl) (append (dictionary_text (x ∷ xs)) (codes ">") (dictionary (x ∷ xs) w e) (says P ascii append (codes ">") refl))

  attributes_so : (es : List (List ℕ × AttrTerm)) → IsWritableDictionary o es → AreEncoded o (value_texts es) → P (attributes_text es)
  attributes_so [] w e = ascii [] IsAscii-nil
  attributes_so (x ∷ xs) w e = append (codes " ") (dictionary_text (x ∷ xs)) (says P ascii append (codes " ") refl) (dictionary (x ∷ xs) w e)

  -- ---- named values

  -- P holds for the texts of their types
  abbrev Typed : Named → Type 0
  Typed n = AllByRecursion (λ (e : Source × Naming). P (type_text e.1.type)) n

  typed_more : (named : Named) (s : Source) (n : Naming) → Typed named → P (type_text n.type) → Typed (insert_entry same_source named s n)
  typed_more [] s n h e = (e, tt)
  typed_more (x ∷ xs) s n h e = by (same_source s x.0) (typed_more xs s n h.1 e)
    where
      by : (b : Bool) → Typed (insert_entry same_source xs s n) → Typed (if b then (x.0, n) ∷ xs else x ∷ insert_entry same_source xs s n)
      by true k = (e, h.1)
      by false k = (h.0, k)

  typed_found : (test : Source → Bool) (named : Named) → Typed named → P (type_text (naming_type (lookup test named)))
  typed_found test [] h = says P ascii append (type_text Index) refl
  typed_found test (x ∷ xs) h = by (test x.0) (typed_found test xs h.1)
    where
      by : (b : Bool) → P (type_text (naming_type (lookup test xs))) → P (type_text (naming_type (if b then Some x.1 else lookup test xs)))
      by true k = h.0
      by false k = k

  typed_results : (x : ℕ) (only : Bool) (n k : ℕ) (ts : List TypeTerm) (named : Named) → AllTypes ts → Typed named → Typed (name_results x only n k ts named)
  typed_results x only n k [] named w h = h
  typed_results x only n k (t ∷ ts) named w h = typed_results x only n (k + 1) ts (name_result x only n k t named) w.1 (typed_more named (Result x k) (record { name = result_name only n k; type = t }) h w.0)

  typed_values : (n : Named) (vs : List Value) → Typed n → All (type_texts (types_of (map (value_type n) vs)))
  typed_values n [] h = tt
  typed_values n (v ∷ vs) h = (typed_found (same_source (source_of v)) n h, typed_values n vs h)

  typed_all : (ts : List TypeTerm) → AllTypes ts → All (type_texts (types_of ts))
  typed_all [] w = tt
  typed_all (t ∷ ts) w = (w.0, typed_all ts w.1)

  -- ---- operations

  -- P holds for the text so far, and for the texts of the types of the named values
  abbrev Held : Printed → Type 0
  Held p = P p.text × Typed p.named

  -- appending a text
  more : (t : List ℕ) (p : Printed) → Held p → P t → Held (append_text t p)
  more t p h k = (append p.text t h.0 k, h.1)

  written : (t : List ℕ) (p : Printed) → Held p → IsAscii t → Held (append_text t p)
  written t p h k = more t p h (ascii t k)

  results : (x : ℕ) (ts : List TypeTerm) (p : Printed) → AllTypes ts → Held p → Held (print_results x ts p)
  results x [] p w h = h
  results x (t ∷ ts) p w h = ((written (results_text p.results (length (t ∷ ts))) p h (counted p.results (length (t ∷ ts)))).0, typed_results x (length (t ∷ ts) == 1) p.results 0 (t ∷ ts) p.named w h.1)

  rows_so : (ts : List (List ℕ)) → AllByRecursion IsAscii ts → All ts
  rows_so [] h = tt
  rows_so (t ∷ ts) h = (ascii t h.0, rows_so ts h.1)

  heading : (margin : List ℕ) (h : Head) (p : Printed) → P margin → IsWritableHead o h → Held p → Held (print_head margin h p)
  heading margin h p m w k =
      let first = print_results h.id h.results (append_text margin p) in
      let second = append_text (string_text h.name) first in
      let third = print_operands h.operands second in
      let named = results h.id h.results (append_text margin p) (types_so o refl h.results w.types w.encoded.0) (more margin p k m) in
      let operands = round P ascii append (map (value_text second.named) h.operands) (rows_so (map (value_text second.named) h.operands) (values second.named h.operands)) in
      more (properties_text h.properties) third (more (in_round (map (value_text second.named) h.operands)) second (written (string_text h.name) first named (quoted h.name w.bytes)) operands) (properties_so h.properties w.properties w.encoded.1)

  ending : (h : Head) (p : Printed) → IsWritableHead o h → Held p → Held (print_tail h p)
  ending h p w k =
      let first = append_text (attributes_text h.attributes) p in
      let second = append_text (codes " : ") first in
      let ins = types_of (map (value_type second.named) h.operands) in
      let outs = types_of h.results in
      let ty = Function ins outs in
      let signature = arrow P ascii append (type_texts ins) (is_lone outs) (type_texts outs) (typed_values second.named h.operands k.1) (typed_all h.results (types_so o refl h.results w.types w.encoded.0)) in
      more (codes "\n") (append_text (type_text ty) second) (more (type_text ty) second (more (codes " : ") first (more (attributes_text h.attributes) p k (attributes_so h.attributes w.attributes w.encoded.2)) (says P ascii append (codes " : ") refl)) signature) (says P ascii append (codes "\n") refl)

  arguments : (x r k : ℕ) (ts : List TypeTerm) (p : Printed) → AllTypes ts → Held p → Held (print_arguments x r k ts p)
  arguments x r k [] p w h = h
  arguments x r k (t ∷ ts) p w h =
      let first = append_text (comma_at k) p in
      let text = append (codes "%arg") (decimal first.arguments ++ (codes ": " ++ type_text t)) (says P ascii append (codes "%arg") refl) (append (decimal first.arguments) (codes ": " ++ type_text t) (ascii (decimal first.arguments) (number first.arguments)) (append (codes ": ") (type_text t) (says P ascii append (codes ": ") refl) w.0)) in
      let said = more (argument_text first.arguments t) first (written (comma_at k) p h (comma k)) text in
      arguments x r (k + 1) ts (print_argument x r k t first) w.1 (said.0, typed_more p.named (Argument x r k) (record { name = name.Argument first.arguments; type = t }) h.1 w.0)

  bare_label : (margin : List ℕ) (os : Ops) (p : Printed) → P margin → Held p → Held (print_bare_label margin os p)
  bare_label margin no_ops p m h = more (codes "^bb0:\n") (append_text margin p) (more margin p h m) (says P ascii append (codes "^bb0:\n") refl)
  bare_label margin (next t ts) p m h = h

  label : (margin : List ℕ) (x r : ℕ) (ts : List TypeTerm) (os : Ops) (p : Printed) → P margin → AllTypes ts → Held p → Held (print_label margin x r ts os p)
  label margin x r [] os p m w h = bare_label margin os p m h
  label margin x r (t ∷ ts) os p m w h =
      let first = append_text (codes "^bb0(") (append_text margin p) in
      more (codes "):\n") (print_arguments x r 0 (t ∷ ts) first) (arguments x r 0 (t ∷ ts) first w (more (codes "^bb0(") (append_text margin p) (more margin p h m) (says P ascii append (codes "^bb0(") refl))) (says P ascii append (codes "):\n") refl)

  mutual
    op_so : (margin : List ℕ) (t : Operation) (p : Printed) → P margin → IsWritable o t → Held p → Held (printed_op margin t p)
    op_so margin (op h rs) p m w k =
        let first = print_head margin h p in
        let second = append_text (opening rs) first in
        let third = print_regions margin h.id 0 rs second in
        ending h (append_text (closing_text rs) third) w.0 (written (closing_text rs) third (regions_so margin h.id 0 rs second m w.1 (written (opening rs) first (heading margin h p m w.0 k) (opened rs))) (closed rs))

    regions_so : (margin : List ℕ) (x r : ℕ) (rs : Regions) (p : Printed) → P margin → AreWritableRegions o rs → Held p → Held (print_regions margin x r rs p)
    regions_so margin x r no_regions p m w k = k
    regions_so margin x r (region g rs) p m w k = regions_so margin x (r + 1) rs (print_region margin x r g (append_text (comma_at r) p)) m w.1 (region_so margin x r g (append_text (comma_at r) p) m w.0 (written (comma_at r) p k (comma r)))

    region_so : (margin : List ℕ) (x r : ℕ) (g : Region) (p : Printed) → P margin → IsWritableRegion o g → Held p → Held (print_region margin x r g p)
    region_so margin x r empty p m w k = more (codes "{}") p k (says P ascii append (codes "{}") refl)
    region_so margin x r (block args os) p m w k =
        let first = print_label margin x r args os (append_text (codes "{\n") p) in
        let second = print_ops (deeper margin) os first in
        let far = append margin (codes "  ") m (says P ascii append (codes "  ") refl) in
        let labelled = label margin x r args os (append_text (codes "{\n") p) m (types_so o refl args w.0 w.1) (more (codes "{\n") p k (says P ascii append (codes "{\n") refl)) in
        more (codes "}") (append_text margin second) (more margin second (ops_so (deeper margin) os first far w.2 labelled) m) (says P ascii append (codes "}") refl)

    ops_so : (margin : List ℕ) (os : Ops) (p : Printed) → P margin → AreWritableOps o os → Held p → Held (print_ops margin os p)
    ops_so margin no_ops p m w k = k
    ops_so margin (next t ts) p m w k = ops_so margin ts (printed_op margin t p) m w.1 (op_so margin t p m w.0 k)

  text_so : (t : Operation) → IsWritable o t → P (text_of t)
  text_so t w = (op_so [] t blank (ascii [] IsAscii-nil) w (ascii [] IsAscii-nil, tt)).0

-- ---- whole texts

pub text_is_ascii : (t : Operation) → IsWritable false t → IsAscii (text_of t)
text_is_ascii t w = text_so IsAscii (λ xs h. h) IsAscii-append false (λ xs e h. absurd cc) t w

pub text_is_utf8 : (o : Bool) (t : Operation) → IsWritable o t → IsUtf8 (text_of t)
text_is_utf8 o t w = text_so IsUtf8 IsUtf8-from_ascii IsUtf8-append o (λ xs e h. h) t w

-- such a text is refused only for its length
pub text_is_within : (o : Bool) (t : Operation) → IsWritable o t → length (text_of t) ≤ most_bytes → text_reason (text_of t) ≡ None
text_is_within o t w few =
    let e = utf8_valid_len-IsUtf8 (text_of t) (text_is_utf8 o t w) in
    by (nat_lt most_bytes (length (text_of t))) refl (utf8_valid_len (text_of t) == length (text_of t)) (rw e (same (length (text_of t))))
  where
    same : (n : ℕ) → (n == n) ≡ true
    same n = grind (arith, nat_tests)

    few_not : (n : ℕ) → n ≤ 16777216 → nat_lt 16777216 n ≡ true → ⊥
    few_not n h e = grind (arith, nat_tests)

    Reason : Type 0
    Reason = Option (TextRefusal × ℕ)

    too_many : Reason
    too_many = Some (TooMany, most_bytes)

    not_utf8 : Reason
    not_utf8 = Some (NotUtf8, utf8_valid_len (text_of t))

    by : (a : Bool) → nat_lt most_bytes (length (text_of t)) ≡ a → (b : Bool) → b ≡ true → (if a then too_many else if not b then not_utf8 else None) ≡ None
    by true h b k = absurd (few_not (length (text_of t)) few h)
    by false h true k = refl
    by false h false k = absurd cc
