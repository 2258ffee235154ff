-- Parsing keeps sorted dictionaries of operations.
use Rattle.std.proofs.Common.{◌≡◌, ℕ, true, List, [], ◌∷◌, ◌++◌, Some, refl, ap, ◌∙◌, append-nil}
use Rattle.ir_tree.specs.Meaning.{key_before, rises}
use Rattle.ir_text_operations.specs.Entries.{moved, staying, properties_of, attributes_of}
use Rattle.ir_text_attributes.specs.AttrGrammar.{EntryTerm}
use Rattle.ir_text_attributes.specs.Keyed.{in_order}
use Rattle.ir_text_operations.specs.OpGrammar.{is_property}
use Rattle.ir_text_modules.specs.WrittenAttributes.{AreOthers}
use Rattle.ir_text_modules.proofs.Keys.{in_order_again}

none_moved : (op : List ℕ) (properties es : List EntryTerm) → AreOthers op properties es → moved (is_property (Some op)) es ≡ []
none_moved op properties [] h = refl
none_moved op properties (e ∷ es) h = rw h.0.0 (none_moved op properties es h.1)

all_stay : (op : List ℕ) (properties es : List EntryTerm) → AreOthers op properties es → staying (is_property (Some op)) es ≡ es
all_stay op properties [] h = refl
all_stay op properties (e ∷ es) h = rw h.0.0 (ap (λ (l : List EntryTerm). e ∷ l) (all_stay op properties es h.1))

pub properties_stay : (op : List ℕ) (properties es : List EntryTerm) → rises key_before properties ≡ true → AreOthers op properties es → properties_of (is_property (Some op)) key_before properties es ≡ properties
properties_stay op properties es r h =
    ap (λ (l : List EntryTerm). in_order key_before (properties ++ l)) (none_moved op properties es h) ∙ ap (in_order key_before) (append-nil properties) ∙ in_order_again properties r

pub attributes_stay : (op : List ℕ) (properties es : List EntryTerm) → rises key_before es ≡ true → AreOthers op properties es → attributes_of (is_property (Some op)) key_before es ≡ es
attributes_stay op properties es r h = ap (in_order key_before) (all_stay op properties es h) ∙ in_order_again es r
