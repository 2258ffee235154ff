-- An operation whose attributes name nothing has a role without names and references.
use Rattle.std.proofs.Common.{◌≡◌, refl, ap, sym, ◌∙◌, subst, ℕ, Bool, true, false, true≢false, ◌&&◌, ◌||◌, cond, List, [], ◌∷◌, map, Option, Some, None}
use Rattle.std.specs.Prelude.{codes, option_map, option_and_then, IfSome}
use Rattle.std.specs.List.{All}
use Rattle.std.specs.Str.{bytes_eq}
use Rattle.std.proofs.lemmas.List.Elements.{All-nil}
use Rattle.ir_event.specs.types.SameTypes.{function_of}
use Rattle.ir_event.specs.types.Things.{ContextModel, IsName}
use Rattle.ir_event.specs.types.Terms.{name_term, type_term, attr_term}
use Rattle.ir_event.specs.trees.Ids.{first_of}
use Rattle.ir_event.specs.types.Terms.{TypeTerm, AttrTerm, OpaqueOf, IntegerOf, String, TypeOf, Flag, Array, Dictionary, Symbol, DenseArray, Overflow}
use Rattle.op_registry.specs.Registry.{next_to}
use Rattle.op_registry.specs.Properties.{string_of, type_of}
use Rattle.listeners_symbols.specs.declared.role.Call.{Call}
use Rattle.listeners_symbols.specs.declared.role.Role.{Role as Numbers}
use Rattle.listeners_symbols.specs.declared.role.Tables.{Tables}
use Rattle.listeners_symbols.specs.Nameless.{is_nameless, are_nameless, IsNamelessRole, NamesNothing}
use Rattle.listeners_symbols.specs.Roles.{Head, References, call_of, is_private, name_of, references_of, says_private, signature_of, symbol_of, with_dictionary, with_symbols}
use Rattle.listeners_symbols.specs.Table.{CallIsOf, IsReadAs, ReferenceIsOf, SignatureIsOf, call_meaning, call_numbers, map_call, map_reference, map_signature, reference_of, signature_numbers}
use Rattle.listeners_symbols.proofs.Meant.{call_meant}

both_true : (a b : Bool) → (a && b) ≡ true → (a ≡ true) × (b ≡ true)
both_true true true e = (refl, refl)
both_true true false e = absurd (true≢false (sym e))
both_true false b e = absurd (true≢false (sym e))

no_string : (a : AttrTerm) → is_nameless a ≡ true → string_of a ≡ None
no_string (IntegerOf _ _) e = refl
no_string (String _) e = absurd (true≢false (sym e))
no_string (TypeOf _) e = refl
no_string Flag e = refl
no_string (Array _) e = refl
no_string (Dictionary _) e = refl
no_string (Symbol _) e = refl
no_string (DenseArray _ _) e = refl
no_string (Overflow _ _) e = refl
no_string (OpaqueOf _ _) e = refl

no_symbols : (a : AttrTerm) (seen : References) → is_nameless a ≡ true → with_symbols seen a ≡ seen
no_symbols (IntegerOf _ _) seen e = refl
no_symbols (String _) seen e = refl
no_symbols (TypeOf _) seen e = refl
no_symbols Flag seen e = refl
no_symbols (Array _) seen e = absurd (true≢false (sym e))
no_symbols (Dictionary _) seen e = absurd (true≢false (sym e))
no_symbols (Symbol _) seen e = absurd (true≢false (sym e))
no_symbols (DenseArray _ _) seen e = refl
no_symbols (Overflow _ _) seen e = refl
no_symbols (OpaqueOf _ _) seen e = refl

no_string_in : (b : Bool) (a : AttrTerm) (rest : Option AttrTerm) → string_of a ≡ None → option_and_then string_of rest ≡ None
    → option_and_then string_of (cond b (Some a) rest) ≡ None
no_string_in true a rest here later = here
no_string_in false a rest here later = later

-- no key of the dictionary has a string
pub no_strings : (key : List ℕ) (es : List (List ℕ × AttrTerm)) → are_nameless es ≡ true → option_and_then string_of (next_to key es) ≡ None
no_strings key [] e = refl
no_strings key (x ∷ xs) e =
    let h = both_true (is_nameless x.1) (are_nameless xs) e in
    no_string_in (bytes_eq key x.0) x.1 (next_to key xs) (no_string x.1 h.0) (no_strings key xs h.1)

-- the dictionary has no symbol references
pub no_references : (es : List (List ℕ × AttrTerm)) (seen : References) → are_nameless es ≡ true → with_dictionary seen es ≡ seen
no_references [] seen e = refl
no_references (x ∷ xs) seen e =
    let h = both_true (is_nameless x.1) (are_nameless xs) e in
    ap (λ s. with_dictionary s xs) (no_symbols x.1 seen h.0) ∙ no_references xs seen h.1

-- ---- the role of an operation that names nothing
module _ (h : Head) (n : NamesNothing h) where
  symbol : symbol_of h ≡ None
  symbol = λ i. cond (n.table i || n.function i) (option_and_then string_of (next_to (codes "sym_name") h.properties)) None

  name : name_of h ≡ None
  name = λ i. first_of (no_strings (codes "sym_name") h.properties n.properties i) (no_strings (codes "sym_name") h.attributes n.attributes i)

  shown : is_private h ≡ false
  shown = ap says_private (no_strings (codes "sym_visibility") h.properties n.properties)

  references : references_of h ≡ []
  references = ap (λ s. with_dictionary s h.attributes) (no_references h.properties [] n.properties) ∙ no_references h.attributes [] n.attributes

  function : signature_of h ≡ None
  function = λ i. cond (n.function i) (option_and_then function_of (option_and_then type_of (next_to (codes "function_type") h.properties))) None

  pub read_nameless : (c : ContextModel) (types : List (Option TypeTerm)) (tables : Tables) (call : Option Call) (r : Numbers) → IsNamelessRole tables call r
      → IfSome call (CallIsOf c) → option_map (call_meaning c) call ≡ call_of h types → IsReadAs c h types tables r
  read_nameless c types tables call r s known e = record {
    is = λ i. record {
      parent = s.parent i;
      home = s.home i;
      table = s.table i;
      is_table = (s.is_table ∙ sym n.table) i;
      symbol = (ap (option_map (name_term c)) s.symbol ∙ sym symbol) i;
      name = (ap (option_map (name_term c)) s.name ∙ sym name) i;
      is_private = (s.is_private ∙ sym shown) i;
      references = (ap (λ ps. map (map_reference (name_term c) (attr_term c)) (map reference_of ps)) s.references ∙ sym references) i;
      call = (ap (λ k. option_map (map_call (name_term c) (type_term c)) (option_map call_numbers k)) s.call ∙ call_meant c call ∙ e) i;
      function = (ap (λ k. option_map (map_signature (type_term c)) (option_map signature_numbers k)) s.function ∙ sym function) i;
    };
    known = record {
      symbol = subst (λ o. IfSome o (IsName c)) (sym s.symbol) tt;
      name = subst (λ o. IfSome o (IsName c)) (sym s.name) tt;
      references = subst (All (ReferenceIsOf c)) (sym s.references) (All-nil (ReferenceIsOf c));
      call = subst (λ o. IfSome o (CallIsOf c)) (sym s.call) known;
      function = subst (λ o. IfSome o (SignatureIsOf c)) (sym s.function) tt;
    };
  }
