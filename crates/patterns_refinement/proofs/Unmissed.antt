-- A `select` may be erased if its result has no uses.
use Rattle.std.proofs.Common.{◌≡◌, sym, refl, ◌∙◌, List, ℕ, true, false, true≢false, ◌&&◌, not, Option, Some, None}
use Rattle.std.specs.Prelude.{codes}
use Rattle.std.proofs.lemmas.Bool.{and_parts}
use Rattle.ir_types.specs.Terms.{TypeTerm, AttrTerm}
use Rattle.ir_types.specs.Words as words
use Rattle.ir_tree.specs.Tree.{RegionsOf, head, op}
use Rattle.ir_tree.specs.Meaning.{Operation}
use Rattle.op_registry.specs.Registry as registry
use Rattle.op_registry.specs.Rows as rows
use Rattle.op_registry.specs.Registry.{own_of}
use Rattle.effects.specs.Dead.{is_kept, may_go}
use Rattle.effects.specs.Effects.{effects_by, regions_effects}
use Rattle.dialects_int.specs.declared.operations.Rule.{Rule as How}
use Rattle.dialects_int.specs.declared.operations.Rule.TheVariants as how
use Rattle.dialects_int.specs.Folds.{rule_of}
use Rattle.patterns_refinement.specs.Choices.{is_choice, is_select}
use Rattle.patterns_refinement.specs.Observing.{is_unmissed}
use Rattle.patterns_refinement.proofs.Forms.{named_is}
use Rattle.patterns_refinement.proofs.Verified.{named_select}

-- the name of a `select`
pub select_rule : (q : Option How) → is_select q ≡ true → q ≡ Some how.Select
select_rule None e = absurd (true≢false (sym e))
select_rule (Some how.Constant) e = absurd (true≢false (sym e))
select_rule (Some (how.Binary o)) e = absurd (true≢false (sym e))
select_rule (Some how.Compare) e = absurd (true≢false (sym e))
select_rule (Some how.Select) e = refl
select_rule (Some (how.IntegerCast c)) e = absurd (true≢false (sym e))
select_rule (Some (how.IndexCast c)) e = absurd (true≢false (sym e))

select_kept : is_kept (codes "arith.select") ≡ false
unfolding words.operations words.is_listed words.is_table words.is_isolated registry.row_of rows.rows
select_kept = refl

select_goes : (rs : RegionsOf (List ℕ) TypeTerm AttrTerm) → may_go (effects_by (own_of (codes "arith.select")) (regions_effects own_of rs)) ≡ true
unfolding words.operations words.is_listed words.is_table words.is_isolated registry.row_of rows.rows
select_goes rs = refl

pub select_unmissed : (o : Operation) → rule_of (head o).name ≡ Some how.Select → is_unmissed o ≡ true
select_unmissed (op h rs) e =
    let same = named_is (codes "arith.select") h.name (named_select h.name e) in
    (λ i. not (is_kept (same i)) && may_go (effects_by (own_of (same i)) (regions_effects own_of rs))) ∙ (λ j. not (select_kept j) && select_goes rs j)

pub choice_unmissed : (t o : Operation) → is_choice t (head o) ≡ true → is_unmissed o ≡ true
choice_unmissed t o e = select_unmissed o (select_rule (rule_of (head o).name) (and_parts (is_select (rule_of (head o).name)) _ e).0)
