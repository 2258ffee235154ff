-- Proofs about walking lists item by item, and about the targets that they denote.
use Rattle.std.proofs.Common.{◌≡◌, refl, ap, ◌∙◌, ℕ, Bool, List, [], ◌∷◌, ◌++◌, append_assoc, map, Option, Some, None, option_map}
use Rattle.std.specs.Prelude.{unwrap_or}
use Rattle.std.specs.Option.{option_copied}
use Rattle.ir_event.specs.types.Things.{ContextModel}
use Rattle.mlir_work_script_base.specs.Clauses.{clauses_of, target_of}
use Rattle.mlir_work_script_base.specs.Items.{items_after, items_of, number_or_zero, numbers_of}
use Rattle.mlir_work_script_base.specs.Numbers.{number_of}
use Rattle.mlir_work_script_base.specs.declared.clauses.Clauses.{Clauses as Written}
use Rattle.conversion.specs.Converting.{command_aim, rules_of}
use Rattle.conversion.specs.Rule.{Rule}
use Rattle.conversion.specs.Targets.{Aim, TargetOf, IsNamedIn, target_model}
use Rattle.mlir_work_transforms.specs.Interned.{AreNumbers, numbers_after}

-- ---- walking

abbrev pub number_at : List ℕ → ℕ
number_at item = number_or_zero (number_of item)

pub numbers_are : (list : Option (List ℕ)) → map number_at (items_after list) ≡ numbers_after list
numbers_are None = refl
numbers_are (Some text) = refl

-- an item moves from the remaining items to the done ones
pub item_done : {X : Type 0} (done : List X) (x : X) (left all : List X) → done ++ x ∷ left ≡ all → (done ++ x ∷ []) ++ left ≡ all
item_done done x left all e = append_assoc done (x ∷ []) left ∙ e

-- ---- targets

trailing : {X : Type 0} (now : X → List ℕ) (o : Option X) → items_after (option_map now o) ≡ unwrap_or (option_map (λ x. items_of (now x)) o) []
trailing now None = refl
trailing now (Some x) = refl

numbers_after_are : {X : Type 0} (now : X → List ℕ) (o : Option X) → numbers_after (option_map now o) ≡ unwrap_or (option_map (λ x. numbers_of (now x)) o) []
numbers_after_are now None = refl
numbers_after_are now (Some x) = refl

module _ (c : ContextModel) (g : TargetOf ℕ) (full : Bool) (w : Written) (legal : AreNumbers c g.legal (items_after (option_copied w.legal))) (illegal : AreNumbers c g.illegal (items_after (option_copied w.illegal)))
    (dynamic : AreNumbers c g.dynamic (items_after (option_copied w.dynamic))) where
  pub target_named : IsNamedIn c g
  target_named = record { legal = legal.known; illegal = illegal.known; dynamic = dynamic.known }

  pub target_aims : g.full ≡ full → Some g.rules ≡ rules_of (numbers_after (option_copied w.rules)) → g.depth ≡ unwrap_or w.depth 16 → Some (target_model c g) ≡ command_aim (target_of full (clauses_of w))
  target_aims is_full rules depth =
      (λ i. option_map (λ rs. record {
        full = is_full i;
        legal = (legal.are ∙ trailing (λ x. x.now) w.legal) i;
        illegal = (illegal.are ∙ trailing (λ x. x.now) w.illegal) i;
        dynamic = (dynamic.are ∙ trailing (λ x. x.now) w.dynamic) i;
        rules = rs;
        depth = depth i;
      }) ((rules ∙ ap rules_of (numbers_after_are (λ x. x.now) w.rules)) i))

-- a clause has a number that isn't a rule's
pub target_unaimed : (full : Bool) (w : Written) → None ≡ rules_of (numbers_after (option_copied w.rules)) → None ≡ command_aim (target_of full (clauses_of w))
target_unaimed full w e =
    let t = target_of full (clauses_of w) in
    let aim : List Rule → Aim = λ rs. record { full = t.full; legal = t.legal; illegal = t.illegal; dynamic = t.dynamic; rules = rs; depth = t.depth } in
    ap (option_map aim) (e ∙ ap rules_of (numbers_after_are (λ x. x.now) w.rules))
