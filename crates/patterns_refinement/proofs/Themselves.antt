-- Each value may represent itself, unless an arithmetic operation or a choice gives it.
use Rattle.std.proofs.Common.{◌≡◌, ℕ, ap, ◌∙◌, refl, sym, Bool, true, false, ◌&&◌, not, Option, Some, None}
use Rattle.std.specs.Prelude.{if◌then◌else◌, nat_lt}
use Rattle.std.proofs.lemmas.Bool.{le-ltb, lt-ltb}
use Rattle.std.proofs.lemmas.Option.{none-some}
use Rattle.ir_types.specs.Words.{is_isolated}
use Rattle.ir_tree.specs.declared.value.Value.{Value}
use Rattle.ir_tree.specs.declared.value.Value.TheVariants.{Result}
use Rattle.ir_tree.specs.Tree.{head}
use Rattle.ir_tree.specs.WellFormed.{IsWellFormed}
use Rattle.ir_event.specs.Modules.{Module}
use Rattle.patterns_refinement.specs.Meaning.{Assignment, owner}
use Rattle.patterns_refinement.specs.Choices.{AreOrigins, Chooses, MayStandForThemselves, Origins, is_choice_there, is_chosen}
use Rattle.patterns_refinement.specs.Observing.{is_computed}
use Rattle.patterns_refinement.proofs.Settling.{each_by_found}

module _ (m : Module) where
  abbrev own : Bool → Bool → Bool → Value → Option Value
  own old computed chosen v = if old && (not computed && not chosen) then Some v else None

  abbrev themselves : Origins
  themselves v = own (nat_lt (owner v) m.next) (is_computed m.tree v) (is_chosen m.tree v) v

  not_chosen : (p q : Bool) (v : Value) → own p q true v ≡ None
  not_chosen true true v = refl
  not_chosen true false v = refl
  not_chosen false q v = refl

  not_computed : (p r : Bool) (v : Value) → own p true r v ≡ None
  not_computed true r v = refl
  not_computed false r v = refl

  are_origins : IsWellFormed is_isolated m → (a : Assignment) (done : ℕ → Bool) → AreOrigins m.next a themselves done m.tree
  are_origins wellformed a done = record {
    chosen = each_by_found (Chooses a themselves done m.tree) m.tree wellformed.distinct (λ o e c y i.
        let v = Result (head o).id 0 in
        absurd (none-some y (sym (ap (λ b. own (nat_lt (head o).id m.next) (is_computed m.tree v) b v) (ap (is_choice_there m.tree) e ∙ c) ∙ not_chosen (nat_lt (head o).id m.next) (is_computed m.tree v) v) ∙ i)));
    computed = λ v e. ap (λ b. own (nat_lt (owner v) m.next) b (is_chosen m.tree v) v) e ∙ not_computed (nat_lt (owner v) m.next) (is_chosen m.tree v) v;
    unused = λ v l. ap (λ b. own b (is_computed m.tree v) (is_chosen m.tree v) v) (le-ltb (owner v) m.next l);
  }

pub may_stand_for_themselves : MayStandForThemselves
may_stand_for_themselves m wellformed a done = (
  themselves m,
  are_origins m wellformed a done,
  λ v l e f. (λ i. own m (lt-ltb (owner v) m.next l i) (e i) (f i) v),
)
