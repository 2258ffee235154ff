-- The uses of a module are those of its operations, in order.
use Rattle.std.proofs.Common.{◌≡◌, refl, ap, sym, ◌∙◌, subst, ℕ, false, eqb, eq-eqb, List, [], ◌∷◌, ◌++◌, map, Option, Some, None, inl, inr}
use Rattle.std.specs.Prelude.{option_map}
use Rattle.std.specs.FinMap as finmap
use Rattle.std.specs.List.{IsDistinct, AllByRecursion}
use Rattle.std.proofs.lemmas.Bool.{cond-true, cond-false}
use Rattle.std.proofs.lemmas.Map.Keys.{IsDistinct-head, IsDistinct-tail}
use Rattle.ir_event.specs.trees.Tree.{Head, Op as Tree, op, head}
use Rattle.ir_event.specs.trees.Ids.{ids, find, first_of, HasDistinctIds}
use Rattle.ir_event.specs.tree_laws.Members.{In}
use Rattle.ir_event.specs.store.Nodes.{Node, node_of}
use Rattle.ir_event.specs.store.Stored.{Stored}
use Rattle.ir_event.specs.Heads.{heads}
use Rattle.ir_event.proofs.Flat.{first_head, heads_ids, found_head}
use Rattle.listeners.specs.Uses.{operand_uses, uses_in}
use Rattle.listeners.specs.Following.{operands_in}
use Rattle.listeners.specs.Collected.{if_any, uses_by}
use Rattle.listeners.proofs.Places.{uses_at, uses_by_heads}

-- a head in a list of distinct ids is the first with its id
apart : (x : ℕ) (hs : List Head) → AllByRecursion (λ z. eqb x z ≡ false) (map (λ (h : Head). h.id) hs) → (h : Head) → In h hs → eqb x h.id ≡ false
apart x [] a h m = absurd m
apart x (g ∷ hs) a h (inl e) = ap (λ (k : Head). eqb x k.id) e ∙ a.0
apart x (g ∷ hs) a h (inr m) = apart x hs a.1 h m

first_there : (hs : List Head) → IsDistinct eqb (map (λ (h : Head). h.id) hs) → (h : Head) → In h hs → first_head h.id hs ≡ Some h
first_there [] d h m = absurd m
first_there (g ∷ hs) d h (inl e) = cond-true (eqb g.id h.id) (Some g) (first_head h.id hs) (eq-eqb g.id h.id (ap (λ (k : Head). k.id) (sym e))) ∙ ap Some (sym e)
first_there (g ∷ hs) d h (inr m) =
    cond-false (eqb g.id h.id) (Some g) (first_head h.id hs) (apart g.id hs (IsDistinct-head eqb g.id (map (λ (k : Head). k.id) hs) d) h m)
    ∙ first_there hs (IsDistinct-tail eqb g.id (map (λ (k : Head). k.id) hs) d) h m

-- an operation of a store's module has the operands of its head
shown : (s : Stored) (x : ℕ) (h : Head) → option_map (λ (t : Tree). head t) (find x s.module_of.tree) ≡ Some h → operands_in s x ≡ Some h.operands
shown s x h e = go (find x s.module_of.tree) e
  where
    go : (q : Option Tree) → option_map (λ (t : Tree). head t) q ≡ Some h → option_map (λ (n : Node). n.head.operands) (option_map node_of (first_of q (finmap.get s.held x))) ≡ Some h.operands
    go None f = absurd cc
    go (Some (op g rs)) f = ap (option_map (λ (k : Head). k.operands)) f

along : (operands : ℕ → Option (List _)) (hs : List Head) → ((h : Head) → In h hs → operands h.id ≡ Some h.operands) → uses_by operands (map (λ (h : Head). h.id) hs) ≡ uses_at hs
along operands [] f = refl
along operands (h ∷ hs) f = λ i. operand_uses h.id 0 (if_any (f h (inl refl) i)) ++ along operands hs (λ k m. f k (inr m)) i

pub uses_listed : (s : Stored) (xs : List ℕ) → HasDistinctIds s.module_of.tree → xs ≡ ids s.module_of.tree → uses_by (operands_in s) xs ≡ uses_in s.module_of.tree
uses_listed s xs d e =
    let t = s.module_of.tree in
    let one : IsDistinct eqb (map (λ (h : Head). h.id) (heads t)) = subst (IsDistinct eqb) (sym (heads_ids t)) d in
    ap (uses_by (operands_in s)) (e ∙ sym (heads_ids t))
    ∙ along (operands_in s) (heads t) (λ h m. shown s h.id h (found_head h.id t ∙ first_there (heads t) one h m))
    ∙ sym (uses_by_heads t)
