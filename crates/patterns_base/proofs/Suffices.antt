-- The table has all rules that may apply at operations of a name, by ascending number.
use Rattle.std.proofs.Common.{◌≡◌, ℕ, List, [], ◌∷◌, Bool, true, false, Some, None, refl, ap, ◌∙◌}
use Rattle.std.specs.Prelude.{Option, if◌then◌else◌}
use Rattle.std.specs.List.{filter}
use Rattle.ir_tree.specs.Tree.{head}
use Rattle.ir_tree.specs.Ids.{find}
use Rattle.ir_tree.specs.Meaning.{Operation}
use Rattle.rewriter_machine.specs.events.Modules.{Module}
use Rattle.op_registry.specs.Registry.{next_to}
use Rattle.patterns_laws.specs.Keeps.{given, Each}
use Rattle.patterns_base.specs.declared.rule.Rule.{Rule}
use Rattle.patterns_base.specs.RuleNames.{all_rules}
use Rattle.patterns_base.specs.Looks.{when, insertion_of}
use Rattle.patterns_base.specs.Rules.{table, rules_for, has_rule, rule}
use Rattle.patterns_base.specs.Rewrites.{none, rewrite_by, edits_of, rewrite_of, eligible}
use Rattle.patterns_base.specs.Canonicalization.{or_else, first_rule, greedy_rules, greedy_rules_for, TableSuffices}
use Rattle.patterns_base.proofs.Dispatch.{next_to_or, only_listed}

none_in_insertion : {X Y : Type 0} (x : Option X) (b : X → Bool) (f : X → Option Y) → ((y : X) → f y ≡ None) → given x (λ y. when (b y) (f y)) ≡ None
none_in_insertion None b f h = refl
none_in_insertion (Some y) b f h = by (b y)
  where
    by : (t : Bool) → when t (f y) ≡ None
    by true = h y
    by false = refl

no_edits : (r : Rule) (m : Module) (x : ℕ) (o : Operation) → find x m.tree ≡ Some o → has_rule r (head o).name ≡ false → edits_of r m x ≡ None
unfolding edits_of
no_edits r m x o e lacks =
    ap (λ z. given z (λ o. given (insertion_of x m.tree) (λ insertion. when (eligible r m.tree (head o)) (rule r m.tree m.next insertion o)))) e
    ∙ none_in_insertion (insertion_of x m.tree) (λ insertion. eligible r m.tree (head o)) (λ insertion. rule r m.tree m.next insertion o) (λ insertion. only_listed r m.tree m.next insertion o lacks)

no_rewrite : (r : Rule) (m : Module) (x : ℕ) (o : Operation) → find x m.tree ≡ Some o → has_rule r (head o).name ≡ false → rewrite_of r m x ≡ none
unfolding rewrite_of
no_rewrite r m x o e lacks = ap (λ es. rewrite_by es m) (no_edits r m x o e lacks)

-- rules that the table doesn't list may be left out
left_out : (rs : List Rule) (m : Module) (x : ℕ) (o : Operation) → find x m.tree ≡ Some o → first_rule rs m x ≡ first_rule (filter (λ r. has_rule r (head o).name) rs) m x
unfolding first_rule
left_out [] m x o e = refl
left_out (r ∷ rs) m x o e = by (has_rule r (head o).name) refl (left_out rs m x o e)
  where
    by : (t : Bool) → has_rule r (head o).name ≡ t → first_rule rs m x ≡ first_rule (filter (λ r. has_rule r (head o).name) rs) m x
        → or_else (rewrite_of r m x) (first_rule rs m x) ≡ first_rule (if t then r ∷ filter (λ r. has_rule r (head o).name) rs else filter (λ r. has_rule r (head o).name) rs) m x
    by true f rest = ap (or_else (rewrite_of r m x)) rest
    by false f rest = ap (λ z. or_else z (first_rule rs m x)) (no_rewrite r m x o e f) ∙ rest

-- the rules of each entry are in ascending order
abbrev pub Rises : List ℕ → Type 0
Rises name = filter (λ r. has_rule r name) greedy_rules ≡ greedy_rules_for name

rows_rise : Each (λ (row : List ℕ × List Rule). Rises row.0) table
unfolding all_rules rules_for table
rows_rise = (refl, (refl, (refl, (refl, (refl, (refl, (refl, (refl, (refl, (refl, (refl, (refl, (refl, (refl, (refl, (refl, (refl, (refl, (refl, (refl, (refl, (refl, (refl, (refl, (refl, (refl, (refl, (refl, (refl, (refl, (refl, (refl, (refl, (refl, (refl, (refl, (refl, (refl, (refl, tt)))))))))))))))))))))))))))))))))))))))

others_rise : (name : List ℕ) → next_to name table ≡ None → Rises name
unfolding all_rules rules_for
others_rise name e = rw (e) refl

pub rises : (name : List ℕ) → Rises name
rises name = next_to_or Rises table name rows_rise (others_rise name)

pub table_suffices : TableSuffices
table_suffices m x o e = left_out greedy_rules m x o e ∙ ap (λ rs. first_rule rs m x) (rises (head o).name)
