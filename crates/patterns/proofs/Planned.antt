-- The edits of a rule, from what the store shows of an operation.
use Rattle.std.proofs.Common.{◌≡◌, refl, ap, sym, ◌∙◌, ℕ, List, Bool, true, false, Option, Some, None, option_map}
use Rattle.ir_event.specs.trees.declared.place.Place.{Place}
use Rattle.ir_event.specs.trees.Tree.{head}
use Rattle.ir_event.specs.trees.Ids.{find}
use Rattle.ir_event.specs.trees.Meaning.{Operation}
use Rattle.ir_event.proofs.of_tree_laws.Members.{found_stands}
use Rattle.ir_event.specs.Modules.{Module}
use Rattle.patterns_lowering.specs.Contents.{Edit}
use Rattle.patterns_soundness.specs.base.Keeps.{given}
use Rattle.patterns_soundness.specs.base.Looks.{Header, when, is_in_order, insertion_of}
use Rattle.patterns_soundness.specs.base.Rules.{rule}
use Rattle.patterns_soundness.specs.base.declared.rule.Rule.{Rule}
use Rattle.patterns_soundness.specs.base.Rewrites.{edits_of, eligible}
use Rattle.patterns_plans.specs.reads.Reads.{head_at}
use Rattle.patterns_soundness.proofs.of_base.Facts.{edits_are, unsuited}

pub none_there : (r : Rule) (m : Module) (x : ℕ) → None ≡ head_at x m.tree → None ≡ edits_of r m x
none_there r m x e = go (find x m.tree) e ∙ sym (edits_are r m x)
  where
    go : (o : Option Operation) → None ≡ option_map (λ o. head o) o → None ≡ given o (λ o. given (insertion_of x m.tree) (λ insertion. when (eligible r m.tree (head o)) (rule r m.tree m.next insertion o)))
    go None e = refl
    go (Some o) e = absurd cc

pub none_insertion : (r : Rule) (m : Module) (x : ℕ) → None ≡ insertion_of x m.tree → None ≡ edits_of r m x
none_insertion r m x e = go (find x m.tree) ∙ sym (edits_are r m x)
  where
    go : (o : Option Operation) → None ≡ given o (λ o. given (insertion_of x m.tree) (λ insertion. when (eligible r m.tree (head o)) (rule r m.tree m.next insertion o)))
    go None = refl
    go (Some o) = ap (λ f. given f (λ insertion. when (eligible r m.tree (head o)) (rule r m.tree m.next insertion o))) e

-- what the store shows of x, with its id, is its head
pub record Found (x : ℕ) (t : Operation) (h : Header) : Type 0 where
  pub here : Operation
  pub is : find x t ≡ Some here
  pub same : record h { id = x } ≡ head here

pub found : (x : ℕ) (t : Operation) (h : Header) → Some h ≡ head_at x t → Found x t h
found x t h e = go (find x t) refl e
  where
    go : (o : Option Operation) → find x t ≡ o → Some h ≡ option_map (λ o. head o) o → Found x t h
    go None f e = absurd cc
    go (Some o) f e =
        let w = found_stands x t o f in
        let one : h ≡ head o = cc in
        let id : x ≡ (head o).id = sym w.2 ∙ ap (λ (z : Operation). (head z).id) w.3 in
        record { here = o; is = f; same = λ i. record (one i) { id = id i } }

pub none_suited : (r : Rule) (m : Module) (x : ℕ) (h : Header) (b : Bool) → Some h ≡ head_at x m.tree → b ≡ eligible r m.tree (record h { id = x }) → b ≡ false → None ≡ edits_of r m x
none_suited r m x h b e c n =
    let w = found x m.tree h e in
    go w.here (ap (eligible r m.tree) (sym w.same) ∙ sym c ∙ n) (insertion_of x m.tree) ∙ sym (edits_are r m x ∙ ap (λ o. given o (λ o. given (insertion_of x m.tree) (λ insertion. when (eligible r m.tree (head o)) (rule r m.tree m.next insertion o)))) w.is)
  where
    go : (o : Operation) → eligible r m.tree (head o) ≡ false → (f : Option Place) → None ≡ given f (λ insertion. when (eligible r m.tree (head o)) (rule r m.tree m.next insertion o))
    go o e None = refl
    go o e (Some insertion) = sym (ap (λ c. when c (rule r m.tree m.next insertion o)) e)

-- an operation that isn't in order is eligible for no rule
pub none_in_order : (r : Rule) (m : Module) (x : ℕ) (h : Header) → Some h ≡ head_at x m.tree → is_in_order m.tree (record h { id = x }) ≡ false → None ≡ edits_of r m x
none_in_order r m x h e n = none_suited r m x h false e (sym (unsuited r m.tree (record h { id = x }) n)) refl

pub none_rule : (r : Rule) (m : Module) (x : ℕ) → ((o : Operation) → find x m.tree ≡ Some o → (n : ℕ) (insertion : Place) → None ≡ rule r m.tree n insertion o) → None ≡ edits_of r m x
none_rule r m x is = go (find x m.tree) refl ∙ sym (edits_are r m x)
  where
    none_when : (b : Bool) (p : Option (List Edit)) → None ≡ p → None ≡ when b p
    none_when true p e = e
    none_when false p e = refl

    none_in : (o : Operation) → find x m.tree ≡ Some o → (f : Option Place) → None ≡ given f (λ insertion. when (eligible r m.tree (head o)) (rule r m.tree m.next insertion o))
    none_in o e None = refl
    none_in o e (Some insertion) = none_when (eligible r m.tree (head o)) (rule r m.tree m.next insertion o) (is o e m.next insertion)

    go : (o : Option Operation) → find x m.tree ≡ o → None ≡ given o (λ o. given (insertion_of x m.tree) (λ insertion. when (eligible r m.tree (head o)) (rule r m.tree m.next insertion o)))
    go None e = refl
    go (Some o) e = none_in o e (insertion_of x m.tree)

pub by_rule : (r : Rule) (m : Module) (x : ℕ) (h : Header) (f : Place) (p : Option (List Edit)) → Some h ≡ head_at x m.tree → Some f ≡ insertion_of x m.tree → eligible r m.tree (record h { id = x }) ≡ true
    → ((o : Operation) → find x m.tree ≡ Some o → p ≡ rule r m.tree m.next f o) → p ≡ edits_of r m x
by_rule r m x h f p e g y is =
    let w = found x m.tree h e in
    is w.here w.is
    ∙ sym (edits_are r m x ∙ ap (λ o. given o (λ o. given (insertion_of x m.tree) (λ insertion. when (eligible r m.tree (head o)) (rule r m.tree m.next insertion o)))) w.is
    ∙ ap (λ k. given k (λ insertion. when (eligible r m.tree (head w.here)) (rule r m.tree m.next insertion w.here))) (sym g)
    ∙ ap (λ k. when k (rule r m.tree m.next f w.here)) (ap (eligible r m.tree) (sym w.same) ∙ y))
