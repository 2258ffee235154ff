-- The text of a module denotes the module, with its ids in pre-order.
use Rattle.std.proofs.Common.{◌≡◌, ℕ, Bool, true, List, [], ◌∷◌, ◌++◌, ◌≤◌, map, length, ap, subst, ◌∙◌, arith, inl}
use Rattle.std.specs.Prelude.{◌==◌, ◌&&◌}
use Rattle.std.specs.Str.{bytes_eq}
use Rattle.std.proofs.lemmas.Bool.{eqb-true, and_parts}
use Rattle.std.proofs.lemmas.List.{length-map}
use Rattle.ir_types.specs.Terms.{TypeTerm}
use Rattle.ir_types.specs.Words.{is_isolated, is_table}
use Rattle.ir_tree.specs.Ids.{ids, HasDistinctIds, IsNumberedFrom}
use Rattle.ir_tree.specs.Meaning.{Operation, key_before, dictionaries_rise}
use Rattle.ir_tree.specs.Tree.{op}
use Rattle.ir_tree.specs.WellFormed.{IsValidTree}
use Rattle.ir_text_tokens.specs.Limits.{most_bytes}
use Rattle.ir_text_tokens.specs.Printing.{AreBytes}
use Rattle.ir_text_tokens.proofs.Escapes.{value_again}
use Rattle.ir_text_tokens.proofs.Printed.{string_token}
use Rattle.ir_text_operations.specs.Spelling.{module_word, begins_from, begins_module, is_root, IsExplicit, IsSingleOp, Spells}
use Rattle.ir_text_operations.specs.Free.{no_names}
use Rattle.ir_text.specs.Naming.{Named, value_text}
use Rattle.ir_text.specs.Printing.{text_of, blank, opening, closing_text, properties_text}
use Rattle.ir_text.specs.TypeText.{in_round}
use Rattle.ir_text_modules.proofs.Small.{are_bytes}
use Rattle.ir_tree_laws.specs.Renumbered.{value_with_id, with_ids, place_in, renumbered}
use Rattle.ir_tree_laws.proofs.RenumberedFixed.{renumbered_stays}
use Rattle.ir_tree_laws.proofs.RenumberedForm.{wellformed_renumbered}
use Rattle.ir_tree_laws.proofs.RenumberedSame.{numbered, every_with, rise_with}
use Rattle.ir_text_modules.specs.WrittenTrees.{IsWritable}
use Rattle.ir_text_modules.proofs.Encoded.{text_is_within}
use Rattle.ir_text_modules.proofs.Texts.{Head, names_of, results_then, name_then, results_names, op_names, regions_then, tail_then}
use Rattle.ir_text_modules.proofs.Numbered.{places_run, numbered_distinct}
use Rattle.ir_text_modules.proofs.Whole.{whole_text, single_again}
use Rattle.ir_text_modules.proofs.Writable.{fits, few_ops, sorted_op}

-- ---- roots

-- the text begins with the name of a module, because there are no results before it
begins_head : (m : ℕ) (ts : List TypeTerm) (h : Head) (named : Named) (rest : List ℕ) → (length ts == 0) ≡ true → is_table h.name ≡ true → AreBytes h.name → begins_module (results_then m ts (name_then h named rest)) ≡ true
unfolding is_table
begins_head m [] h named rest none table bytes =
    let trailing = in_round (map (value_text named) h.operands) ++ (properties_text h.properties ++ rest) in
    ap begins_from (string_token h.name trailing bytes) ∙ ap (λ (v : List ℕ). bytes_eq v module_word) (value_again h.name bytes) ∙ table
begins_head m (t ∷ ts) h named rest none table bytes = absurd (omega (arith, eqb-true (length (t ∷ ts)) 0 none))

-- the text of a module begins with its name
begins_so : (o : Bool) (t : Operation) → is_root t ≡ true → IsWritable o t → begins_module (text_of t) ≡ true
begins_so o (op h rs) root w =
    let a = and_parts (is_table h.name) (length h.operands == 0 && length h.results == 0) root in
    let b = and_parts (length h.operands == 0) (length h.results == 0) a.1 in
    let n = results_names h.id h.results (names_of blank) in
    let trailing = opening rs ++ regions_then [] h.id 0 rs n (closing_text rs ++ tail_then h (op_names (op h rs) (names_of blank)).named []) in
    ap begins_module (whole_text (op h rs)) ∙ begins_head 0 h.results h n.named trailing b.1 a.0 (are_bytes h.name w.0.bytes)

-- whether an operation is a root doesn't depend on its ids
root_with : (f : ℕ → ℕ) (t : Operation) → is_root (with_ids f t) ≡ is_root t
root_with f (op h rs) = ap (λ (n : ℕ). is_table h.name && (n == 0 && length h.results == 0)) (length-map h.operands (value_with_id f))

-- ---- modules

explicit : (o : Bool) (f : ℕ → ℕ) (t : Operation) → is_root t ≡ true → IsWritable o t → IsSingleOp o no_names 1048576 0 (text_of t) (with_ids f t) → IsExplicit o (text_of t) (with_ids f t)
unfolding IsExplicit IsSingleOp
explicit o f t root w single = (begins_so o t root w, single, root_with f t ∙ root)

pub module_again : (o : Bool) (t : Operation) → IsValidTree is_isolated t → HasDistinctIds t → is_root t ≡ true → IsWritable o t → length (text_of t) ≤ most_bytes → Spells o (text_of t) (renumbered t)
module_again o t wellformed distinct root w few =
    let f = place_in (ids t) in
    let test = dictionaries_rise key_before in
    let single = single_again o f t (fits o t wellformed.counts w) wellformed.visible (places_run (ids t) distinct) distinct wellformed.shallow (few_ops t wellformed.counts) in
    record {
      text = text_is_within o t w few;
      rendered = inl (explicit o f t root w single);
      wellformed = wellformed_renumbered is_isolated t wellformed;
      numbered = numbered t distinct;
      sorted = every_with f test test (rise_with f key_before) t ∙ sorted_op o t w;
    }

-- a module whose ids are in order is denoted unchanged
pub numbered_again : (o : Bool) (t : Operation) → IsValidTree is_isolated t → IsNumberedFrom 0 t → is_root t ≡ true → IsWritable o t → length (text_of t) ≤ most_bytes → Spells o (text_of t) t
numbered_again o t wellformed e root w few = subst (Spells o (text_of t)) (renumbered_stays is_isolated t wellformed e) (module_again o t wellformed (numbered_distinct 0 t e) root w few)
