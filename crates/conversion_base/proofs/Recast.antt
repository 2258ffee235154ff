-- The edits that replace a cast with an `arith.index_cast`: their meaning, and when they exist.
use Rattle.std.proofs.Common.{◌≡◌, refl, ap, sym, ◌∙◌, ℕ, ◌<◌, ◌&&◌, Bool, true, false, List, [], ◌∷◌, Option, Some, None, option_map, length, length-take, map, take, min, arith, lt-ltb}
use Rattle.std.specs.Prelude.{codes}
use Rattle.std.specs.Cmp.{unsigned_Decides}
use Rattle.std.proofs.lemmas.Slice.Eq.{bytes_eq-Decides}
use Rattle.ir_event.specs.types.declared.word.Word.TheVariants.{ArithIndexCast}
use Rattle.ir_event.specs.types.WordNames.{word_bytes, word_number}
use Rattle.ir_event.specs.types.Things.{ContextModel, IsType}
use Rattle.ir_event.specs.types.Terms.{name_term, type_term, attr_term}
use Rattle.ir_event.specs.types.Sound.{IsSound}
use Rattle.ir_event.proofs.of_types.WordNumbers.{word_count}
use Rattle.ir_event.proofs.of_types.WordPlaces.{word_is}
use Rattle.ir_event.specs.trees.declared.value.Value.{Value}
use Rattle.ir_event.specs.trees.declared.place.Place.{Place}
use Rattle.ir_event.specs.trees.Tree.{HeadOf, Op, op, head}
use Rattle.ir_event.specs.trees.Ids.{find}
use Rattle.ir_event.specs.trees.Places.{place_of}
use Rattle.ir_event.specs.trees.Meaning.{Operation, meaning}
use Rattle.ir_event.proofs.of_trees.Mapped.{map_find, map_place}
use Rattle.ir_event.specs.store.Nodes.{Node, node_of}
use Rattle.ir_event.specs.Modules.{Module}
use Rattle.patterns_base.specs.Lists.{AllFit, edits_meaning}
use Rattle.patterns_base.specs.Contents.{Edit}
use Rattle.patterns_base.specs.Keeps.{given}
use Rattle.patterns_base.specs.Looks.{One, when, insertion_of, insertion_point, one, one_from}
use Rattle.patterns_base.specs.Made.{cast}
use Rattle.patterns_base.specs.Makes.{give_new}
use Rattle.conversion_base.specs.Reconciling.{index_edits, takes_index}
use Rattle.conversion_base.specs.declared.casts.CastTypes.{CastTypes}
use Rattle.conversion_base.specs.Numbers.{cast_edits, ends_from}
use Rattle.conversion_base.proofs.Shown.{found}

-- a word's number
word_is_name : (c : ContextModel) → IsSound c → (word_number ArithIndexCast < length c.names) × (name_term c (word_number ArithIndexCast) ≡ codes "arith.index_cast")
word_is_name c sound =
    let all : length (take 54 c.names) ≡ 54 = ap length sound.holds.words_first ∙ word_count in
    let some : length (take 54 c.names) ≡ min 54 (length c.names) = length-take 54 c.names in
    (omega (arith, all, some), (bytes_eq-Decides (name_term c (word_number ArithIndexCast)) (word_bytes ArithIndexCast)).0 (word_is c (word_number ArithIndexCast) ArithIndexCast sound ∙ (unsigned_Decides (word_number ArithIndexCast) (word_number ArithIndexCast)).1 refl))

pub cast_meant : (c : ContextModel) → IsSound c → (insertion : Place) (n x : ℕ) (v : Value) (ty : ℕ) → edits_meaning c (cast_edits insertion n x v ty) ≡ give_new insertion n x (cast (codes "arith.index_cast") (type_term c ty) v)
cast_meant c sound insertion n x v ty = ap (λ name. give_new insertion n x (cast name (type_term c ty) v)) (word_is_name c sound).1

pub cast_fits : (c : ContextModel) → IsSound c → (insertion : Place) (n x : ℕ) (v : Value) (ty : ℕ) → IsType c ty → AllFit c (cast_edits insertion n x v ty)
cast_fits c sound insertion n x v ty is =
    let name = (word_is_name c sound).0 in
    ((record { known = λ i. ((lt-ltb _ _ name i && ((lt-ltb _ _ is i && true) && (true && true))) && true) && true; sorted = refl }, refl), (tt, (tt, tt)))

-- ---- the edits at an operation, from the node that the store shows

one_meant : (c : ContextModel) (o : Op) → one (head (meaning c o)) ≡ option_map (λ (e : CastTypes). record { name = name_term c (head o).name; first = e.operand; ty = type_term c e.ty }) (ends_from (head o).operands (head o).results)
one_meant c (op h rs) = go h.operands h.results
  where
    go : (vs : List Value) (ts : List ℕ) → one_from (name_term c h.name) vs (map (type_term c) ts) ≡ option_map (λ (e : CastTypes). record { name = name_term c h.name; first = e.operand; ty = type_term c e.ty }) (ends_from vs ts)
    go [] ts = refl
    go (v ∷ []) [] = refl
    go (v ∷ []) (ty ∷ []) = refl
    go (v ∷ []) (ty ∷ u ∷ ts) = refl
    go (v ∷ w ∷ vs) ts = refl

module _ (c : ContextModel) (t : Op) (n x : ℕ) where
  abbrev m : Module
  m = record { tree = meaning c t; next = n }

  abbrev by_ends : Place → Option One → Option (List Edit)
  by_ends insertion q = given q (λ p. when (takes_index m.tree p.first p.ty) (Some (give_new insertion m.next x (cast (codes "arith.index_cast") p.ty p.first))))

  abbrev by_place : Operation → Option Place → Option (List Edit)
  by_place o f = given f (λ insertion. by_ends insertion (one (head o)))

  found_meant : find x m.tree ≡ option_map (meaning c) (find x t)
  found_meant = map_find (name_term c) (type_term c) (attr_term c) x t

  insertion_meant : insertion_of x m.tree ≡ option_map (insertion_point x) (place_of x t)
  insertion_meant = ap (option_map (insertion_point x)) (map_place (name_term c) (type_term c) (attr_term c) x t)

  pub none_there : None ≡ option_map node_of (find x t) → None ≡ index_edits m x
  none_there e = go (find x t) e ∙ sym (ap (λ o. given o (λ o. by_place o (insertion_of x m.tree))) found_meant)
    where
      go : (o : Option Op) → None ≡ option_map node_of o → None ≡ given (option_map (meaning c) o) (λ o. by_place o (insertion_of x m.tree))
      go None e = refl
      go (Some o) e = absurd cc

  pub none_placed : None ≡ place_of x t → None ≡ index_edits m x
  none_placed e = go (find x m.tree) ∙ sym (ap (λ f. given (find x m.tree) (λ o. by_place o f)) (insertion_meant ∙ ap (option_map (insertion_point x)) (sym e)))
    where
      go : (o : Option Operation) → None ≡ given o (λ o. by_place o None)
      go None = refl
      go (Some o) = refl

  module _ (node : Node) (is : Some node ≡ option_map node_of (find x t)) (place : Place) (at : Some place ≡ place_of x t) where
    here : by_ends (insertion_point x place) (option_map (λ (e : CastTypes). record { name = name_term c node.head.name; first = e.operand; ty = type_term c e.ty }) (ends_from node.head.operands node.head.results)) ≡ index_edits m x
    here =
        let w = found x t node is in
        let head_is : node.head ≡ head w.here = ap (λ (k : Node). k.head) w.same ∙ node_head w.here in
        ap (λ (h : HeadOf ℕ ℕ ℕ). by_ends (insertion_point x place) (option_map (λ (e : CastTypes). record { name = name_term c h.name; first = e.operand; ty = type_term c e.ty }) (ends_from h.operands h.results))) head_is
        ∙ ap (by_ends (insertion_point x place)) (sym (one_meant c w.here))
        ∙ ap (by_place (meaning c w.here)) (sym (insertion_meant ∙ ap (option_map (insertion_point x)) (sym at)))
        ∙ sym (ap (λ o. given o (λ o. by_place o (insertion_of x m.tree))) (found_meant ∙ ap (option_map (meaning c)) w.is))
      where
        node_head : (o : Op) → (node_of o).head ≡ head o
        node_head (op h rs) = refl

    abbrev by_shown : Option CastTypes → Option (List Edit)
    by_shown q = by_ends (insertion_point x place) (option_map (λ (e : CastTypes). record { name = name_term c node.head.name; first = e.operand; ty = type_term c e.ty }) q)

    pub none_ends : None ≡ ends_from node.head.operands node.head.results → None ≡ index_edits m x
    none_ends e = ap by_shown e ∙ here

    module _ (p : CastTypes) (e : Some p ≡ ends_from node.head.operands node.head.results) (b : Bool) (test : b ≡ takes_index m.tree p.operand (type_term c p.ty)) where
      pub none_taken : b ≡ false → None ≡ index_edits m x
      none_taken f = sym (ap (λ d. when d (Some (give_new (insertion_point x place) n x (cast (codes "arith.index_cast") (type_term c p.ty) p.operand)))) (sym test ∙ f)) ∙ ap by_shown e ∙ here

      pub some_taken : b ≡ true → Some (give_new (insertion_point x place) n x (cast (codes "arith.index_cast") (type_term c p.ty) p.operand)) ≡ index_edits m x
      some_taken f = sym (ap (λ d. when d (Some (give_new (insertion_point x place) n x (cast (codes "arith.index_cast") (type_term c p.ty) p.operand)))) (sym test ∙ f)) ∙ ap by_shown e ∙ here
