-- The printed dictionaries of operations are parsed back.
use Rattle.std.proofs.Common.{◌≡◌, ℕ, ◌+◌, ◌≤◌, ◌<◌, Bool, true, false, List, [], ◌∷◌, ◌++◌, map, length, Option, Some, None, refl, ap, ◌∙◌, append_assoc, arith, inl, inr}
use Rattle.std.specs.Prelude.{codes, not, nat_le}
use Rattle.std.specs.List.{AllByRecursion, filter}
use Rattle.std.specs.Str.{bytes_eq}
use Rattle.std.proofs.lemmas.Bool.Decides.{nat_tests}
use Rattle.std.proofs.lemmas.List.{length-append}
use Rattle.ir_types.specs.Terms.{AttrTerm, Flag}
use Rattle.ir_tree.specs.Meaning.{key_before, rises}
use Rattle.ir_text_tokens.specs.declared.token.Mark.TheVariants.{OpenCurly, CloseCurly, Less, Greater, Comma}
use Rattle.ir_text_tokens.specs.Tokens.{mark}
use Rattle.ir_text_tokens.specs.Printing.{AreBytes}
use Rattle.ir_text_tokens.proofs.Printed.{mark_token}
use Rattle.ir_text.specs.Rows.{parted}
use Rattle.ir_text.specs.AttrText.{entry_texts}
use Rattle.ir_text.specs.Printing.{properties_text, attributes_text}
use Rattle.ir_text_types.specs.Grammars.{Not, IsMark}
use Rattle.ir_text_attributes.specs.AttrGrammar.{entries_of, EntryTerm, IsAttr, IsFine, IsKey}
use Rattle.ir_text_attributes.specs.Keyed.{has_key}
use Rattle.ir_text_operations.specs.Entries.{staying, is_refused}
use Rattle.ir_text_operations.specs.OpGrammar.{is_property, IsOpEntry, IsEntries, IsProperties, IsAttributes}
use Rattle.ir_text_modules.specs.WrittenAttributes.{entries_list, are_bytes as are_bytes_test, FitsAttr, IsWritableDictionary, AreOthers}
use Rattle.ir_text_modules.proofs.Small.{lacks_token, are_bytes}
use Rattle.ir_text_modules.proofs.Ahead.{then_ahead, space_token}
use Rattle.ir_text_modules.proofs.Rows.{AllFit, Items, list_again}
use Rattle.ir_text_modules.proofs.Keys.{AreBefore, AreBeforeFirst, next_before, no_key}
use Rattle.ir_text_modules.proofs.Entries.{key_ahead, key_lacks, comma_entry, close_entry, EndsEntry, text_of_entry, texts_of_entries, entry_parts}
use Rattle.ir_text_modules.proofs.Attributes.{attr_ahead, attr_again}
use Rattle.std.proofs.lemmas.Bool.{cases_Bool}

-- an entry fits if its key is allowed there
abbrev FitsEntry : Bool → Option (List ℕ) → List EntryTerm → List EntryTerm → EntryTerm → Type 0
FitsEntry o op properties before e = (is_refused bytes_eq (is_property op) properties e.0 before ≡ false) × AreBytes e.0 × FitsAttr o 32 e.1

entry_read : (o : Bool) (op : Option (List ℕ)) (properties preceding : List EntryTerm) (e : EntryTerm) (rest : List ℕ) → FitsEntry o op properties preceding e → EndsEntry o rest → IsOpEntry o op properties preceding e (text_of_entry e ++ rest) rest
entry_read o op properties preceding e rest fits_in s =
    let k = entry_parts o (IsAttr o 32) (IsFine Flag) (attr_ahead o 32) e.0 e.1 rest fits_in.1 s (attr_again o 32 (omega arith) e.1 rest fits_in.2 s.2) (λ f. (refl, refl, refl)) in
    (e.0, k.0, k.1, (fits_in.0, (e.1, rest, k.2, (refl, refl))))

entry_items : (o : Bool) (op : Option (List ℕ)) (properties : List EntryTerm) → Items CloseCurly (IsOpEntry o op properties) text_of_entry (FitsEntry o op properties) (EndsEntry o)
entry_items o op properties = record {
  reads = entry_read o op properties;
  ahead = λ preceding. then_ahead IsKey _ key_ahead;
  lacks = λ preceding y a new h. key_lacks CloseCurly h.0 a h.1 h.2;
  comma = comma_entry o;
  closing = close_entry o;
  closes = λ rest. mark_token CloseCurly rest tt;
  open_yet = λ rest. lacks_token (mark Comma) CloseCurly (44 ∷ rest) rest (mark_token Comma rest tt) (λ e. absurd cc);
}

list_of : (es : List EntryTerm) → entries_list (entries_of es) ≡ es
list_of [] = refl
list_of (e ∷ es) = ap (λ (l : List EntryTerm). e ∷ l) (list_of es)

texts_of : (es : List EntryTerm) → entry_texts (entries_of es) ≡ map text_of_entry es
texts_of es = texts_of_entries (entries_of es) ∙ ap (map text_of_entry) (list_of es)

-- a dictionary after its opening brace
entries_read : (o : Bool) (op : Option (List ℕ)) (properties es : List EntryTerm) (rest : List ℕ) → AllFit (FitsEntry o op properties) [] es → length es ≤ 513 → IsEntries o op properties es (parted (codes ", ") true (entry_texts (entries_of es)) ++ 125 ∷ rest) rest
entries_read o op properties es rest fits_in le = rw (texts_of es) (list_again CloseCurly (IsOpEntry o op properties) text_of_entry (FitsEntry o op properties) (EndsEntry o) (entry_items o op properties) 513 es rest fits_in le)

-- ---- the allowed keys

few_stay : (f : EntryTerm → Bool) (es : List EntryTerm) → length (filter f es) ≤ length es
few_stay f [] = omega arith
few_stay f (e ∷ es) = elim (cases_Bool (f e)) [
  | inl t ↦ rw t (omega (arith, few_stay f es))
  | inr n ↦ rw n (omega (arith, few_stay f es))
]

headroom : (n m : ℕ) → n ≤ m → m < 256 → nat_le 256 n ≡ false
headroom n m le lt = grind (arith, nat_tests)

admitted : (op : Option (List ℕ)) (properties preceding : List EntryTerm) (k : List ℕ) → AreBefore preceding k → length preceding < 256 → is_property op k ≡ false → has_key bytes_eq k properties ≡ false → is_refused bytes_eq (is_property op) properties k preceding ≡ false
admitted op properties preceding k before few other apart =
    rw (apart, no_key preceding k before, other) (headroom (length (staying (is_property op) preceding)) (length preceding) (few_stay (λ e. not (is_property op e.0)) preceding) few)

-- ---- dictionaries

all_fit : (o : Bool) (op : Option (List ℕ)) (properties preceding es : List EntryTerm) → AreBeforeFirst preceding es → rises key_before es ≡ true → length preceding + length es ≤ 256 → AllByRecursion (λ e. are_bytes_test e.0 ≡ true) es → AllByRecursion (λ e. FitsAttr o 32 e.1) es → AllByRecursion (λ e. (is_property op e.0 ≡ false) × (has_key bytes_eq e.0 properties ≡ false)) es → AllFit (FitsEntry o op properties) preceding es
all_fit o op properties preceding [] b r le keys values others = tt
all_fit o op properties preceding (e ∷ es) b r le keys values others =
    let n = next_before preceding e es b r in
    ((admitted op properties preceding e.0 b (omega arith) others.0.0 others.0.1, are_bytes e.0 keys.0, values.0), all_fit o op properties (preceding ++ e ∷ []) es n.0 n.1 (omega (arith, length-append preceding (e ∷ []))) keys.1 values.1 others.1)

no_others : (es : List EntryTerm) → AllByRecursion (λ e. (is_property None e.0 ≡ false) × (has_key {A = AttrTerm} bytes_eq e.0 [] ≡ false)) es
no_others [] = tt
no_others (e ∷ es) = ((refl, refl), no_others es)

first_before : (es : List EntryTerm) → AreBeforeFirst [] es
first_before [] = tt
first_before (e ∷ es) = tt

pub properties_again : (o : Bool) (es : List EntryTerm) (rest : List ℕ) → length es ≤ 256 → IsWritableDictionary o es → Not IsMark Less rest → IsProperties o es (properties_text es ++ rest) rest
properties_again o [] rest few w lacks = inr (lacks, (refl, refl))
properties_again o (e ∷ es) rest few w lacks =
    let row = parted (codes ", ") true (entry_texts (entries_of (e ∷ es))) in
    let back = row ++ 125 ∷ 62 ∷ rest in
    let inside = entries_read o None [] (e ∷ es) (62 ∷ rest) (all_fit o None [] [] (e ∷ es) tt w.sorted (omega (arith, few)) w.keys w.values (no_others (e ∷ es))) (omega (arith, few)) in
    let apart : properties_text (e ∷ es) ++ rest ≡ 32 ∷ 60 ∷ 123 ∷ back = ap (λ (l : List ℕ). 32 ∷ 60 ∷ 123 ∷ l) (append_assoc (row ++ 125 ∷ []) (62 ∷ []) rest ∙ append_assoc row (125 ∷ []) (62 ∷ rest)) in
    rw apart (inl (123 ∷ back, space_token (mark Less) (60 ∷ 123 ∷ back) (123 ∷ back) (mark_token Less (123 ∷ back) tt), (back, mark_token OpenCurly back tt, (e ∷ es, 62 ∷ rest, inside, (rest, mark_token Greater rest tt, (refl, refl))))))

pub attributes_again : (o : Bool) (op : List ℕ) (properties es : List EntryTerm) (rest : List ℕ) → length es ≤ 256 → IsWritableDictionary o es → AreOthers op properties es → Not IsMark OpenCurly rest → IsAttributes o op properties es (attributes_text es ++ rest) rest
attributes_again o op properties [] rest few w others lacks = inr (lacks, (refl, refl))
attributes_again o op properties (e ∷ es) rest few w others lacks =
    let row = parted (codes ", ") true (entry_texts (entries_of (e ∷ es))) in
    let back = row ++ 125 ∷ rest in
    let inside = entries_read o (Some op) properties (e ∷ es) rest (all_fit o (Some op) properties [] (e ∷ es) tt w.sorted (omega (arith, few)) w.keys w.values others) (omega (arith, few)) in
    let apart : attributes_text (e ∷ es) ++ rest ≡ 32 ∷ 123 ∷ back = ap (λ (l : List ℕ). 32 ∷ 123 ∷ l) (append_assoc row (125 ∷ []) rest) in
    rw apart (inl (back, space_token (mark OpenCurly) (123 ∷ back) back (mark_token OpenCurly back tt), inside))
