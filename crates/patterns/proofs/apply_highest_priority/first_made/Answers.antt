use Rattle.std.proofs.Common.{◌∙◌, ◌-◌, ap, sym, subst, refl, List, Some, slice_index_or, take, drop, length}
use Rattle.std.specs.Prelude.{IfOk}
use Rattle.ir_event.specs.Modules.{module_in}
use Rattle.ir_event.proofs.of_types.Truths.{none_left, rest_at}
use Rattle.patterns.specs.FirstMatching.{first_matching_rule}
use Rattle.patterns_soundness.specs.base.declared.rule.Rule.{Rule}
use Rattle.patterns_soundness.specs.base.declared.rule.Rule.TheVariants.{EraseDead}
use Rattle.patterns.specs.HighestPriority.{BeginsLikely, IsFirst, FirstMatch, greedy}
use Rattle.patterns.proofs.Firsts.{none_first}
use Rattle.patterns.proofs.Lowering.{first_others_ok}
use Rattle.patterns.proofs.apply_highest_priority.first_made.Goals as goal

-- the first rule of a list that isn't empty
abbrev first : List Rule → Rule
first xs = slice_index_or xs 0 EraseDead

-- and the rules after it
abbrev others : List Rule → List Rule
others xs = take (length xs - 1) (drop 1 xs)

pub returns-in_default : goal.returns-in_default
returns-in_default c = ap (λ z. first_matching_rule (greedy z) (module_in c.args.world.now) c.args.op) (none_left c.args.rules.now c.in_default.len_below) ∙ none_first (module_in c.args.world.now) c.args.op

pub try_likely-requires-clause-likely : goal.try_likely-requires-clause-likely
try_likely-requires-clause-likely c =
    let xs = c.args.rules.now in
    subst (λ (rs : List Rule). BeginsLikely rs c.args.world.now c.args.op) (rest_at xs (first xs) EraseDead c.in-len1-up.len_at_least refl) c.requires.begins

pub returns-in-Some : goal.returns-in-Some
returns-in-Some c =
    let w = c.args.world.now in
    let xs = c.args.rules.now in
    let t = subst (FirstMatch (first xs) w c.args.op c.args.point.now) c.in-Some.is c.in_ok-made.ensures in
    subst (λ (rs : List Rule). IsFirst rs w c.args.op c.args.point.now (Some (first xs, c.in-Some.made))) (sym (rest_at xs (first xs) EraseDead c.in-len1-up.len_at_least refl)) (t.0, t.1 (others xs))

pub returns-in-None : goal.returns-in-None
returns-in-None c =
    let w = c.args.world.now in
    let xs = c.args.rules.now in
    let t = subst (FirstMatch (first xs) w c.args.op c.args.point.now) c.in-None.is c.in_ok-made.ensures in
    subst (λ (rs : List Rule). IfOk c.first_applying.result (IsFirst rs w c.args.op c.args.point.now)) (sym (rest_at xs (first xs) EraseDead c.in-len1-up.len_at_least refl))
    (first_others_ok w c.args.op c.args.point.now (first xs) (others xs) c.first_applying.result t c.first_applying.ensures)
