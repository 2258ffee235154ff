-- The values of constants in plain form.
use Rattle.std.proofs.Common.{◌≡◌, refl, ap, sym, ◌∙◌, ℕ, List, [], ◌∷◌, true, Option, Some, option_map}
use Rattle.std.specs.Prelude.{codes}
use Rattle.std.specs.List.{list_all}
use Rattle.ir_event.specs.types.Things.{ContextModel}
use Rattle.ir_event.specs.types.Words.{is_inherent, operations}
use Rattle.ir_event.specs.types.Terms.{AttrTerm, TypeTerm, IntegerOf}
use Rattle.ir_event.specs.types.declared.bits.BitsKind.{BitsKind}
use Rattle.ir_event.specs.trees.declared.value.Value.{Value}
use Rattle.ir_event.specs.trees.declared.value.Value.TheVariants.{Result}
use Rattle.ir_event.specs.trees.Ids.{find}
use Rattle.ir_event.specs.trees.Tree.{Op}
use Rattle.ir_event.specs.trees.Meaning.{meaning}
use Rattle.ir_event.specs.store.Nodes.{node_of}
use Rattle.ir_event.specs.store.Nodes.{Node as NumberNode}
use Rattle.op_registry.specs.Properties.{is_allowed, is_of_kind, property_kinds}
use Rattle.op_registry.specs.Properties as property_kind
use Rattle.dialects_int.specs.declared.operations.Rule.TheVariants as rule
use Rattle.dialects_int.specs.Folds.{Known, kind_of, rule_of, rules, fold_of}
use Rattle.dialects_int.proofs.KnownOperands.{constant_folds}
use Rattle.ir_verify_base.specs.Fits.{Node}
use Rattle.ir_verify_base.specs.Numbers.{node_in}
use Rattle.patterns_laws.specs.Made.{value_entry}
use Rattle.patterns_base.specs.Words.{named}
use Rattle.patterns_base.specs.Looks.{Header, constant_value, known}
use Rattle.patterns_matchers.specs.TriviallyVerified.{trivial_constant, IsConstantOf, GivesPlainly}
use Rattle.patterns_matchers.specs.Reads.{head_at, header_of_node}
use Rattle.patterns_matchers.proofs.Cleaned.{as_inherent, constant_is, known_some, source_yes}
use Rattle.patterns_matchers.proofs.Silent.{plain_is_unbroken}

by_constant : rule_of (codes "arith.constant") ≡ Some rule.Constant
unfolding rule_of rules
by_constant = refl

value_inherent : (ty : TypeTerm) (bits : ℕ) → true ≡ list_all (λ (e : List ℕ × AttrTerm). is_inherent (codes "arith.constant") e.0) (value_entry ty bits)
unfolding is_inherent operations
value_inherent ty bits = refl

is_named : true ≡ named (codes "arith.constant") (codes "arith.constant")
is_named = refl

plain_gives : (x : ℕ) (ty : TypeTerm) (bits : ℕ) (attributes : List (List ℕ × AttrTerm)) (k : BitsKind) → kind_of ty ≡ Some k → constant_value (trivial_constant x ty bits attributes).head ≡ Some (k, bits)
unfolding is_inherent operations is_allowed is_of_kind property_kind.kind_of property_kinds
plain_gives x ty bits attributes k e = constant_folds (codes "arith.constant") (value_entry ty bits) ty k (record { by = by_constant; fine = refl; kind = e }) bits refl

-- the known bits of the result of such a constant
pub known_plainly : (c : ContextModel) (t : Op) (v : Value) (x place : ℕ) (n : NumberNode) (k : BitsKind) (bits : ℕ) → v ≡ Result x place → Some n ≡ option_map node_of (find x t) → Some (header_of_node c n) ≡ head_at x (meaning c t)
    → GivesPlainly (node_in c n) k bits → Some (k, bits) ≡ known (meaning c t) v
known_plainly c t v x place n k bits e stored shown p =
    let own : Node = node_in c n in
    let h : Header = header_of_node c n in
    let is : own ≡ trivial_constant own.head.id p.0 bits own.head.attributes = p.2.1 in
    let inherent : true ≡ list_all (λ (e : List ℕ × AttrTerm). is_inherent h.name e.0) h.properties =
    value_inherent p.0 bits ∙ sym (ap (λ (m : Node). list_all (λ (e : List ℕ × AttrTerm). is_inherent m.head.name e.0) m.head.properties) is) in
    let unbroken = plain_is_unbroken c x t n stored (p.0, bits, p.2) in
    let verified = as_inherent (meaning c t) (record h { id = x }) true true (sym unbroken) refl inherent in
    let name : true ≡ named (codes "arith.constant") h.name = is_named ∙ sym (ap (λ (m : Node). named (codes "arith.constant") m.head.name) is) in
    let gives : Some (k, bits) ≡ constant_value h = sym (ap (λ (m : Node). constant_value m.head) is ∙ plain_gives own.head.id p.0 bits own.head.attributes k p.1) in
    known_some (meaning c t) v true (Some h) h (Some (k, bits)) (constant_is (meaning c t) v x place h true e shown name) refl (source_yes (meaning c t) v x place h true e shown verified refl) refl gives
