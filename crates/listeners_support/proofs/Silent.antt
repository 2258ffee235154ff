-- An operation whose name says that no fact about it is kept.
use Rattle.std.proofs.Common.{◌≡◌, ap, sym, ◌∙◌, ℕ, List, Bool, true, false, cond, Some, None}
use Rattle.std.specs.Prelude.{option_map, option_and_then}
use Rattle.ir_event.specs.types.Things.{ContextModel}
use Rattle.ir_event.specs.types.Terms.{TypeTerm, AttrTerm, name_term, type_term, attr_term}
use Rattle.ir_event.specs.trees.Ids.{HasDistinctIds, has_id}
use Rattle.ir_event.specs.trees.Meaning.{meaning}
use Rattle.ir_event.specs.store.Nodes.{Node, node_of}
use Rattle.ir_event.specs.store.Stored.{Stored, known}
use Rattle.listeners_support.specs.Surroundings.{SurroundingsOf, surround, surroundings}
use Rattle.listeners_support.specs.Mapped.{map_surroundings}
use Rattle.listeners_support.specs.Facts.{if_kept, kept_of}
use Rattle.listeners_support.proofs.Meanings.{mapped_surroundings}
use Rattle.listeners_support.proofs.Reading.{present}

pub unkept : {F : Type 0} (fact : SurroundingsOf (List ℕ) TypeTerm AttrTerm → F) (is_kept : F → Bool) (c : ContextModel) (s : Stored) → HasDistinctIds s.module_of.tree → (x : ℕ) (n : Node)
    → has_id x s.module_of.tree ≡ true → option_map node_of (known x s) ≡ Some n
    → ((u : SurroundingsOf (List ℕ) TypeTerm AttrTerm) → u.node.head.name ≡ name_term c n.head.name → is_kept (fact u) ≡ false)
    → None ≡ kept_of fact is_kept (meaning c s.module_of.tree) x
unkept fact is_kept c s d x n there shown reports_nothing =
    let t = s.module_of.tree in
    let p = present s d x n there shown in
    let m = map_surroundings (name_term c) (type_term c) (attr_term c) (surround t p.here) in
    let is : surroundings x (meaning c t) ≡ Some m = mapped_surroundings (name_term c) (type_term c) (attr_term c) x t ∙ ap (λ o. option_map (map_surroundings (name_term c) (type_term c) (attr_term c)) (option_map (surround t) o)) p.there in
    let none = reports_nothing m (ap (λ (k : Node). name_term c k.head.name) p.node) in
    sym (ap (λ o. option_and_then (if_kept is_kept) (option_map fact o)) is ∙ ap (λ b. cond b (Some (fact m)) None) none)
