-- The type of a value, read from the node of its operation, is of the context.
use Rattle.std.proofs.Common.{◌≡◌, refl, ap, sym, ◌∙◌, ℕ, zero, suc, List, [], ◌∷◌, Option, Some, None, slice_get, subst}
use Rattle.std.specs.Prelude.{option_map, option_and_then}
use Rattle.std.specs.List.{All}
use Rattle.std.proofs.lemmas.List.Elements.{All-head, All-tail}
use Rattle.op_registry.specs.types.Things.{ContextModel, IsType}
use Rattle.ir_store.specs.trees.declared.value.Value.{Value}
use Rattle.ir_store.specs.trees.declared.value.Value.TheVariants.{Result, Arg}
use Rattle.ir_store.specs.trees.Tree.{OpOf, Op, op, RegionsOf, no_regions, region, RegionOf, head, regions}
use Rattle.ir_store.specs.trees.Ids.{find}
use Rattle.ir_store.specs.trees.Frames.{owner_of}
use Rattle.ir_store.specs.Nodes.{Node, node_of, regions_arguments}
use Rattle.ir_store.specs.tree_laws.Values.{type_of_value, arguments_of, arguments_at, region_at}
use Rattle.ir_event.specs.declared.world.World.{World}
use Rattle.ir_event.specs.Modules.{NodeIsOf}
use Rattle.ir_event.proofs.Sounds.{found_sound}
use Rattle.ir_event.proofs.Nodes.{node_known}

-- the types of results, and of arguments of blocks
abbrev pub types_of : {N T A : Type 0} → OpOf N T A → List T × List (Option (List T))
types_of o = ((head o).results, regions_arguments (regions o))

abbrev pub typed : {T : Type 0} → Value → List T × List (Option (List T)) → Option T
typed (Result x k) p = slice_get p.0 k
typed (Arg x r k) p = option_and_then (λ args. slice_get args k) (option_and_then (λ args. args) (slice_get p.1 r))

-- the arguments of a region by its index
by_number : {N T A : Type 0} (rs : RegionsOf N T A) (r : ℕ) → option_map arguments_of (region_at r rs) ≡ slice_get (regions_arguments rs) r
by_number no_regions zero = refl
by_number no_regions (suc r) = refl
by_number (region g rs) zero = refl
by_number (region g rs) (suc r) = by_number rs r

through : {N T A : Type 0} (g : Option (RegionOf N T A)) → option_and_then arguments_of g ≡ option_and_then (λ args. args) (option_map arguments_of g)
through None = refl
through (Some g) = refl

pub typed_value : {N T A : Type 0} (v : Value) (t : OpOf N T A) → type_of_value v t ≡ option_and_then (typed v) (option_map types_of (find (owner_of v).0 t))
typed_value (Result x k) t = elim (find x t) as (λ f. option_and_then (λ o. slice_get (head o).results k) f ≡ option_and_then (typed (Result x k)) (option_map types_of f)) [ None ↦ refl | Some o ↦ refl ]
typed_value (Arg x r k) t =
    elim (find x t) as (λ f. option_and_then (λ o. option_and_then (λ args. slice_get args k) (arguments_at r o)) f ≡ option_and_then (typed (Arg x r k)) (option_map types_of f)) [
      | None ↦ refl
      | Some o ↦ ap (option_and_then (λ args. slice_get args k)) (through (region_at r (regions o)) ∙ ap (option_and_then (λ args. args)) (by_number (regions o) r))
    ]

-- the types of values are of the context
got_of : (c : ContextModel) (xs : List ℕ) (k n : ℕ) → All (IsType c) xs → slice_get xs k ≡ Some n → IsType c n
got_of c [] zero n a e = absurd cc
got_of c [] (suc k) n a e = absurd cc
got_of c (x ∷ xs) zero n a e = (let one : x ≡ n = cc in subst (IsType c) one (All-head (IsType c) x xs a))
got_of c (x ∷ xs) (suc k) n a e = got_of c xs k n (All-tail (IsType c) x xs a) e

typed_known : (c : ContextModel) (m : Node) (v : Value) (n : ℕ) → NodeIsOf c m → typed v (m.head.results, m.arguments) ≡ Some n → IsType c n
typed_known c m (Result x k) n h e = got_of c m.head.results k n h.results e
typed_known c m (Arg x r k) n h e = go (slice_get m.arguments r) refl e
  where
    go : (o : Option (Option (List ℕ))) → slice_get m.arguments r ≡ o → option_and_then (λ args. slice_get args k) (option_and_then (λ args. args) o) ≡ Some n → IsType c n
    go None i f = absurd cc
    go (Some None) i f = absurd cc
    go (Some (Some args)) i f = got_of c args k n (h.arguments r args i) f

pub value_known : (w : World) (v : Value) (n : ℕ) → type_of_value v w.store.module_of.tree ≡ Some n → IsType w.ctx n
value_known w v n e = go (find (owner_of v).0 w.store.module_of.tree) refl (sym (typed_value v w.store.module_of.tree) ∙ e)
  where
    types_shown : (o : Op) → types_of o ≡ ((node_of o).head.results, (node_of o).arguments)
    types_shown (op h rs) = refl

    go : (o : Option Op) → find (owner_of v).0 w.store.module_of.tree ≡ o → option_and_then (typed v) (option_map types_of (find (owner_of v).0 w.store.module_of.tree)) ≡ Some n → IsType w.ctx n
    go None i f = (let no : None ≡ Some n = sym (ap (λ o. option_and_then (typed v) (option_map types_of o)) i) ∙ f in absurd cc)
    go (Some o) i f =
        typed_known w.ctx (node_of o) v n (node_known w.ctx o (found_sound w.ctx (owner_of v).0 w.store.module_of.tree o w.sound i))
        (ap (typed v) (sym (types_shown o)) ∙ sym (ap (λ o. option_and_then (typed v) (option_map types_of o)) i) ∙ f)
