-- Setting or removing an entry of a module of ids is a step of its meaning.
use Rattle.std.proofs.Common.{◌≡◌, refl, ap, sym, ◌∙◌, subst, ℕ, Bool, true, false, cond, ◌&&◌, List, [], ◌∷◌, length, Option, Some, None, option_map}
use Rattle.std.specs.List.{list_all}
use Rattle.std.proofs.lemmas.Bool.{ltb-true, lt-ltb}
use Rattle.op_registry.specs.types.Things.{ContextModel, IsName}
use Rattle.op_registry.specs.types.Terms.{AttrTerm, name_term, type_term, attr_term}
use Rattle.op_registry.specs.types.Words.{is_isolated}
use Rattle.ir_store.specs.trees.declared.place.Part.{Part}
use Rattle.ir_store.specs.trees.declared.place.Part.TheVariants.{Props, Attrs}
use Rattle.ir_store.specs.trees.Tree.{op, Op, head}
use Rattle.ir_store.specs.trees.Ids.{find}
use Rattle.ir_store.specs.trees.Limits.{all_arguments_pass}
use Rattle.ir_store.specs.trees.Passing.{entry_passes, head_passes, op_passes}
use Rattle.ir_store.specs.trees.Edits.{part_of, entry_at, same_key, with_entry}
use Rattle.ir_store.specs.trees.Meaning.{IsSoundIn, dictionaries_rise, is_attr, is_name, is_type, isolated_in, key_before, key_before_in, meaning}
use Rattle.ir_store.specs.trees.WellFormed.{IsWellFormed, Module as Numbered}
use Rattle.ir_store.proofs.of_trees.Mapped.{map_every}
use Rattle.ir_store.proofs.of_trees.MappedEdits.{map_with_entry}
use Rattle.ir_store.proofs.of_trees.SoundEdits.{entry_sound}
use Rattle.ir_store.specs.tree_laws.Changes.{SetsEntry, entry_in}
use Rattle.ir_store.specs.tree_laws.Reasons.{set_entry_reason}
use Rattle.ir_store.specs.tree_laws.Stands.{OpWithPathOf, stands}
use Rattle.ir_store.proofs.of_tree_laws.Contents.{map_dictionaries, map_entry_in, map_set_entry_reason}
use Rattle.ir_store.proofs.of_tree_laws.Entries.{entry_changes}
use Rattle.ir_store.proofs.of_tree_laws.HeadForm.{entry_keeps}
use Rattle.ir_store.proofs.of_tree_laws.Keys.{keys_ordered, key_before_trans}
use Rattle.ir_store.proofs.of_tree_laws.Listed.{all_each, both}
use Rattle.ir_store.proofs.of_tree_laws.Members.{found_stands}
use Rattle.ir_store.proofs.of_tree_laws.Readings.{stands_every}
use Rattle.ir_store.proofs.of_tree_laws.Reasoned.{NoEntryReason, no_entry_reason}
use Rattle.ir_event.specs.declared.event.Event.TheVariants.{SetEntry}
use Rattle.ir_event.specs.Modules.{Module, module_meaning}
use Rattle.ir_event.specs.Step.{IsAttrOrNone, Step}
use Rattle.ir_event.proofs.Steps.{wellformed_meaning, sorted_meaning}

-- an entry of a dictionary passes the test that all its entries pass
entry_passed : {N A : Type 0} (n : N → Bool) (q : A → Bool) (before : N → N → Bool) (k : N) (a : A) (es : List (N × A)) → list_all (entry_passes n q) es ≡ true → entry_at before k es ≡ Some a → q a ≡ true
entry_passed n q before k a [] h e = absurd cc
entry_passed n q before k a (d ∷ es) h e = go (same_key before k d.0) refl (entry_passed n q before k a es)
  where
    b : (entry_passes n q d ≡ true) × (list_all (entry_passes n q) es ≡ true)
    b = both (entry_passes n q d) (list_all (entry_passes n q) es) h

    go : (c : Bool) → same_key before k d.0 ≡ c → (list_all (entry_passes n q) es ≡ true → entry_at before k es ≡ Some a → q a ≡ true) → q a ≡ true
    go true s later = (let is : Some d.1 ≡ Some a = sym (ap (λ c. cond c (Some d.1) (entry_at before k es)) s) ∙ e in
        let one : d.1 ≡ a = cc in
        ap q (sym one) ∙ (both (n d.0) (q d.1) b.0).1)
    go false s later = later b.1 (sym (ap (λ c. cond c (Some d.1) (entry_at before k es)) s) ∙ e)

part_passes : (c : ContextModel) (part : Part) (o : Op) → op_passes (is_name c) (is_type c) (is_attr c) o ≡ true → list_all (entry_passes (is_name c) (is_attr c)) (part_of part (head o)) ≡ true
part_passes c part (op h rs) e = go part
  where
    passes : head_passes (is_name c) (is_type c) (is_attr c) h ≡ true
    passes = (both (head_passes (is_name c) (is_type c) (is_attr c) h) (all_arguments_pass (list_all (is_type c)) rs) e).0

    dictionaries : (list_all (entry_passes (is_name c) (is_attr c)) h.properties && list_all (entry_passes (is_name c) (is_attr c)) h.attributes) ≡ true
    dictionaries = (both (list_all (is_type c) h.results) _ (both (is_name c h.name) _ passes).1).1

    go : (part : Part) → list_all (entry_passes (is_name c) (is_attr c)) (part_of part h) ≡ true
    go Props = (both _ _ dictionaries).0
    go Attrs = (both _ _ dictionaries).1

-- an attribute in a dictionary of a sound tree is of the context
attr_there : (c : ContextModel) (x : ℕ) (part : Part) (k : ℕ) (t o : Op) → IsSoundIn c t → find x t ≡ Some o → (a : Option ℕ) → entry_at (key_before_in c) k (part_of part (head o)) ≡ a → IsAttrOrNone c a
attr_there c x part k t o sound f None e = tt
attr_there c x part k t o sound f (Some a) e =
    let w = found_stands x t o f in
    let p = all_each (λ (s : OpWithPathOf ℕ ℕ ℕ). op_passes (is_name c) (is_type c) (is_attr c) s.here) (stands [] t) (stands_every (op_passes (is_name c) (is_type c) (is_attr c)) [] t ∙ sound.known) w.0 w.1 in
    ltb-true a (length c.attrs) (entry_passed (is_name c) (is_attr c) (key_before_in c) k a (part_of part (head o)) (part_passes c part o (ap (op_passes (is_name c) (is_type c) (is_attr c)) (sym w.3) ∙ p)) e)

key_is : (c : ContextModel) (k : ℕ) → IsName c k → is_name c k ≡ true
key_is c k h = lt-ltb k (length c.names) h

pub attr_is : (c : ContextModel) (a : Option ℕ) → IsAttrOrNone c a → (b : ℕ) → a ≡ Some b → is_attr c b ≡ true
attr_is c None h b e = absurd cc
attr_is c (Some a) h b e = let one : a ≡ b = cc in subst (λ d. is_attr c d ≡ true) one (lt-ltb a (length c.attrs) h)

pub entry_steps : (c : ContextModel) (x : ℕ) (part : Part) (k : ℕ) (a : Option ℕ) (m : Numbered) → IsWellFormed (isolated_in c) m → IsSoundIn c m.tree → IsName c k → IsAttrOrNone c a → set_entry_reason (key_before_in c) x part k a m.tree ≡ None
    → (old : Option ℕ) × (entry_in (key_before_in c) x part k m.tree ≡ Some old) × Step c (SetEntry x part k old a) (module_meaning c m) (module_meaning c (record m { tree = with_entry (key_before_in c) x part k a m.tree }))
entry_steps c x part k a m w sound key attr e = (
  old,
  there,
  record {
    before = before;
    after = wellformed_meaning c n (entry_keeps (isolated_in c) (key_before_in c) (key_before_trans c) x part k a m w sound.sorted e);
    sorted_before = sorted_meaning c m sound;
    sorted_after = sorted_meaning c n (entry_sound c x part k a m.tree (key_is c k key) (attr_is c a attr) sound);
    numbers = (key, (attr_there c x part k m.tree r.here sound r.found old refl, attr));
    changes = subst (λ (u : Module). SetsEntry key_before x part (name_term c k) (option_map (attr_term c) old) (option_map (attr_term c) a) (module_meaning c m) u) tree
        (subst (λ q. SetsEntry key_before x part (name_term c k) q (option_map (attr_term c) a) (module_meaning c m) after) same s.1);
  },
)
  where
    r : NoEntryReason (key_before_in c) x part k a m.tree
    r = no_entry_reason (key_before_in c) x part k a m.tree e

    n : Numbered
    n = record m { tree = with_entry (key_before_in c) x part k a m.tree }

    old : Option ℕ
    old = entry_at (key_before_in c) k (part_of part (head r.here))

    there : entry_in (key_before_in c) x part k m.tree ≡ Some old
    there = ap (option_map (λ (o : Op). entry_at (key_before_in c) k (part_of part (head o)))) r.found

    before : IsWellFormed is_isolated (module_meaning c m)
    before = wellformed_meaning c m w

    after : Module
    after = record (module_meaning c m) { tree = with_entry key_before x part (name_term c k) (option_map (attr_term c) a) (meaning c m.tree) }

    s : (q : Option AttrTerm) × SetsEntry key_before x part (name_term c k) q (option_map (attr_term c) a) (module_meaning c m) after
    s = entry_changes key_before keys_ordered x part (name_term c k) (option_map (attr_term c) a) (module_meaning c m) before.distinct
        (map_every (name_term c) (type_term c) (attr_term c) (dictionaries_rise (key_before_in c)) (dictionaries_rise key_before) (map_dictionaries (name_term c) (type_term c) (attr_term c) key_before) m.tree ∙ sound.sorted)
        (map_set_entry_reason (name_term c) (type_term c) (attr_term c) key_before x part k a m.tree ∙ e)

    same : s.0 ≡ option_map (attr_term c) old
    same = (let two : Some s.0 ≡ Some (option_map (attr_term c) old) = sym s.1.was ∙ map_entry_in (name_term c) (type_term c) (attr_term c) key_before x part k m.tree ∙ ap (option_map (option_map (attr_term c))) there in cc)

    tree : after ≡ module_meaning c n
    tree = ap (λ t. record (module_meaning c m) { tree = t }) (map_with_entry (name_term c) (type_term c) (attr_term c) key_before x part k a m.tree)
