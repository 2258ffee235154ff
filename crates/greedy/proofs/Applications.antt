-- The pattern set of a run satisfies the driver's requirements.
use Rattle.std.proofs.Common.{◌≡◌, refl, ap, sym, ◌∙◌, subst, ℕ, ◌+◌, ◌<◌, inl, inr, Bool, List, [], ◌∷◌, Option, Some, None}
use Rattle.std.specs.Prelude.{All, option_map, if◌then◌else◌}
use Rattle.std.proofs.lemmas.Bool.{cases_Bool}
use Rattle.std.proofs.lemmas.List.Elements.{All-head, All-tail}
use Rattle.std.proofs.lemmas.Option.{none-some}
use Rattle.ir_event.specs.types.declared.refusal.Refusal.{Refusal}
use Rattle.ir_event.specs.trees.Tree.{head}
use Rattle.ir_event.specs.trees.Ids.{ids, HasDistinctIds}
use Rattle.ir_event.specs.Modules.{Module}
use Rattle.rewriter_machine.proofs.Trees.{found_id}
use Rattle.rewriter_machine.specs.Contents.{Edit}
use Rattle.patterns_base.specs.declared.rule.Rule.{Rule}
use Rattle.patterns_base.specs.Looks.{insertion_point}
use Rattle.patterns_base.specs.Rewrites.{Rewrite, none, refused, becomes, edits_of, rewrite_by, rewrite_of}
use Rattle.patterns_base.specs.Canonicalization.{or_else, first_rule, greedy_rules}
use Rattle.patterns.proofs.Firsts.{none_then}
use Rattle.patterns.specs.FirstMatching.{first_matching_rule, rule_or}
use Rattle.patterns.specs.Rows.{AreCanonical}
use Rattle.patterns.specs.soundness.Near.{Still}
use Rattle.user_patterns_data.specs.Shapes.{PatternModel}
use Rattle.user_patterns_data.specs.Depth.{is_shallow}
use Rattle.user_patterns_apply.specs.Own.{user_pattern_edits, user_pattern_rewrite}
use Rattle.greedy.specs.Listing.{Stayed}
use Rattle.greedy.specs.Orders.{Orderly}
use Rattle.greedy.specs.Ruled.{IsReady, IsReadyFor, MayTry, model_of, pattern_set_of, tried_at}
use Rattle.greedy.specs.Work.{Right}
use Rattle.greedy.specs.PatternSet.{MayUseAll, PatternSetModel, RuleOrPatternModel, MayUse, OfUserPattern, OfRule, rewrite_by_entry, patterns_of, pattern_set_from, by_or, by_rules, first_applicable_rewrite, first_matching_entry, traced_as}
use Rattle.greedy.specs.Applications.{IsApplied, IsLawful}
use Rattle.greedy.specs.declared.applied_rewrite.AppliedPattern.TheVariants as by
use Rattle.greedy.specs.declared.pattern_set.PatternSet.{PatternSet}
use Rattle.greedy.specs.declared.pattern_set.Entries.{Entries}
use Rattle.greedy.specs.declared.pattern_set.Entries.TheVariants.{Canonicalization, Rules, Patterns}
use Rattle.greedy.proofs.Comings.{IsCount, edits_count, either_refused, not_refused, rules_count}
use Rattle.greedy.proofs.Law.{carried, edits_orderly, first_orderly, rewrite_tried}
use Rattle.greedy.proofs.UserPatternsAlike.{user_patterns_planned, user_pattern_rootless}
use Rattle.greedy.proofs.Rootless.{no_edits as rootless_edits, no_rules, unplaced}
use Rattle.greedy.proofs.OnlyAt.{only_lawful}
use Rattle.greedy.proofs.Ruling.{canonical_rules}
use Rattle.greedy.proofs.Scans.{by_none, no_edits, no_rewrite, none_still, or_none, becomes_none}

-- ---- rules if rules make no rewrite, none of them applies
unfired : (rs : List Rule) (m : Module) (x : ℕ) → first_rule rs m x ≡ none → first_matching_rule rs m x ≡ None
unfolding first_rule first_matching_rule
unfired [] m x e = refl
unfired (r ∷ rs) m x e =
    let parts = or_none (rewrite_of r m x) (first_rule rs m x) e in
    ap (λ w. rule_or w r (first_matching_rule rs m x)) parts.0 ∙ unfired rs m x parts.1

unmapped : (a : Option Rule) → option_map by.Rule a ≡ None → a ≡ None
unmapped None e = refl
unmapped (Some r) e = absurd (none-some (by.Rule r) (sym e))

pub rules_fire : (rs : List Rule) → IsApplied (by_rules rs)
rules_fire rs m x = (λ e. ap (option_map by.Rule) (unfired rs m x e), λ e. none_then rs m x (unmapped (first_matching_rule rs m x) e))

pub rules_lawful : (rs : List Rule) → AreCanonical rs → IsLawful (by_rules rs)
rules_lawful rs canonical = record {
  away = λ m n x s e. none_still m n x rs canonical (λ r c. (s.applies r c).1) e;
  orderly = λ m d below x n e. first_orderly m d below x rs canonical n e;
  root = λ m d. no_rules rs m d;
  counts = λ m x e h. rules_count rs m x e h;
  applied = rules_fire rs;
}

-- ---- shallow user patterns
abbrev user_pattern_applied : Bool → PatternModel → Module → ℕ → Rewrite
user_pattern_applied b p m x = if b then user_pattern_rewrite p m x else none

own_none : (p : PatternModel) (m : Module) (x : ℕ) → user_pattern_rewrite p m x ≡ none → user_pattern_edits p m x ≡ None
unfolding user_pattern_rewrite
own_none p m x e = by_none (user_pattern_edits p m x) m e

user_pattern_no_rewrite : (p : PatternModel) (m : Module) (x : ℕ) → user_pattern_edits p m x ≡ None → user_pattern_rewrite p m x ≡ none
unfolding user_pattern_rewrite
user_pattern_no_rewrite p m x e = ap (λ es. rewrite_by es m) e

own_away : (p : PatternModel) (m n : Module) (x : ℕ) → Stayed m n x → rewrite_by_entry (OfUserPattern p) m x ≡ none → rewrite_by_entry (OfUserPattern p) n x ≡ none
own_away p m n x s e = elim (cases_Bool (is_shallow p)) [
  | inl h ↦ ap (λ b. user_pattern_applied b p n x) h ∙ user_pattern_no_rewrite p n x ((s.own p h).1 (own_none p m x (sym (ap (λ b. user_pattern_applied b p m x) h) ∙ e)))
  | inr h ↦ ap (λ b. user_pattern_applied b p n x) h
]

module _ (m : Module) (d : HasDistinctIds m.tree) (below : All (λ y. y < m.next) (ids m.tree)) (x : ℕ) where
  own_orderly : (p : PatternModel) (n : Module) → user_pattern_rewrite p m x ≡ becomes n → Orderly x m n
  unfolding user_pattern_rewrite
  own_orderly p n e = go (user_pattern_edits p m x) refl e
    where
      go : (a : Option (List Edit)) → user_pattern_edits p m x ≡ a → rewrite_by a m ≡ becomes n → Orderly x m n
      go None k e = absurd (becomes_none n (sym e))
      go (Some es) k e =
          let w = user_patterns_planned p m x es k in
          let id = found_id x m.tree w.here w.found in
          subst (Orderly x m) (carried es m n e) (edits_orderly m d below x es w.here w.place w.found w.insertion (inl (subst (λ y. Still y w.place es) (sym id) w.still)))

  tried_orderly : (a : RuleOrPatternModel) → MayUse a → (n : Module) → rewrite_by_entry a m x ≡ becomes n → Orderly x m n
  tried_orderly (OfRule r) h n e = rewrite_tried m d below x r h n e
  tried_orderly (OfUserPattern p) h n e = elim (cases_Bool (is_shallow p)) [
    | inl s ↦ own_orderly p n (sym (ap (λ b. user_pattern_applied b p m x) s) ∙ e)
    | inr s ↦ absurd (becomes_none n (sym e ∙ ap (λ b. user_pattern_applied b p m x) s))
  ]

own_root : (p : PatternModel) (m : Module) → HasDistinctIds m.tree → rewrite_by_entry (OfUserPattern p) m (head m.tree).id ≡ none
own_root p m d = elim (cases_Bool (is_shallow p)) [
  | inl h ↦ ap (λ b. user_pattern_applied b p m (head m.tree).id) h ∙ user_pattern_no_rewrite p m (head m.tree).id (user_pattern_rootless p m (head m.tree).id (ap (option_map (insertion_point (head m.tree).id)) (unplaced m.tree d)))
  | inr h ↦ ap (λ b. user_pattern_applied b p m (head m.tree).id) h
]

own_counts : (p : PatternModel) (m : Module) (x : ℕ) (e : Refusal) → user_pattern_rewrite p m x ≡ refused e → IsCount e
unfolding user_pattern_rewrite
own_counts p m x e h = edits_count (user_pattern_edits p m x) m e h

rule_counts : (r : Rule) (m : Module) (x : ℕ) (e : Refusal) → rewrite_of r m x ≡ refused e → IsCount e
unfolding rewrite_of
rule_counts r m x e h = edits_count (edits_of r m x) m e h

-- ---- one rule or pattern
tried_away : (a : RuleOrPatternModel) → MayUse a → (m n : Module) (x : ℕ) → Stayed m n x → rewrite_by_entry a m x ≡ none → rewrite_by_entry a n x ≡ none
tried_away (OfRule r) h m n x s e = no_rewrite n x r ((s.applies r h).1 (no_edits m x r e))
tried_away (OfUserPattern p) h m n x s e = own_away p m n x s e

rule_root : (r : Rule) (m : Module) → HasDistinctIds m.tree → rewrite_of r m (head m.tree).id ≡ none
unfolding rewrite_of
rule_root r m d = ap (λ es. rewrite_by es m) (rootless_edits r m d)

tried_root : (a : RuleOrPatternModel) (m : Module) → HasDistinctIds m.tree → rewrite_by_entry a m (head m.tree).id ≡ none
tried_root (OfRule r) m d = rule_root r m d
tried_root (OfUserPattern p) m d = own_root p m d

tried_counts : (a : RuleOrPatternModel) (m : Module) (x : ℕ) (e : Refusal) → rewrite_by_entry a m x ≡ refused e → IsCount e
tried_counts (OfRule r) m x e h = rule_counts r m x e h
tried_counts (OfUserPattern p) m x e h = elim (cases_Bool (is_shallow p)) [
  | inl s ↦ own_counts p m x e (sym (ap (λ b. user_pattern_applied b p m x) s) ∙ h)
  | inr s ↦ absurd (not_refused (rewrite_by_entry (OfUserPattern p) m x) e (ap (λ b. user_pattern_applied b p m x) s) h)
]

-- ---- a list of them
all_away : (rest : List RuleOrPatternModel) → MayUseAll rest → (m n : Module) (x : ℕ) → Stayed m n x → first_applicable_rewrite rest m x ≡ none → first_applicable_rewrite rest n x ≡ none
unfolding first_applicable_rewrite
all_away [] h m n x s e = refl
all_away (a ∷ rest) h m n x s e =
    let parts = or_none (rewrite_by_entry a m x) (first_applicable_rewrite rest m x) e in
    ap (λ w. or_else w (first_applicable_rewrite rest n x)) (tried_away a (All-head MayUse a rest h) m n x s parts.0) ∙ all_away rest (All-tail MayUse a rest h) m n x s parts.1

all_orderly : (m : Module) → HasDistinctIds m.tree → All (λ y. y < m.next) (ids m.tree) → (x : ℕ) (rest : List RuleOrPatternModel) → MayUseAll rest → (n : Module) → first_applicable_rewrite rest m x ≡ becomes n → Orderly x m n
unfolding first_applicable_rewrite
all_orderly m d below x [] h n e = absurd (becomes_none n (sym e))
all_orderly m d below x (a ∷ rest) h n e = go (rewrite_by_entry a m x) refl (all_orderly m d below x rest (All-tail MayUse a rest h) n) e
  where
    go : (w : Rewrite) → rewrite_by_entry a m x ≡ w → (first_applicable_rewrite rest m x ≡ becomes n → Orderly x m n) → or_else w (first_applicable_rewrite rest m x) ≡ becomes n → Orderly x m n
    go none k later e = later e
    go (refused f) k later e = absurd cc
    go (becomes p) k later e = tried_orderly m d below x a (All-head MayUse a rest h) n (k ∙ e)

all_root : (rest : List RuleOrPatternModel) (m : Module) → HasDistinctIds m.tree → first_applicable_rewrite rest m (head m.tree).id ≡ none
unfolding first_applicable_rewrite
all_root [] m d = refl
all_root (a ∷ rest) m d = ap (λ w. or_else w (first_applicable_rewrite rest m (head m.tree).id)) (tried_root a m d) ∙ all_root rest m d

all_counts : (rest : List RuleOrPatternModel) (m : Module) (x : ℕ) (e : Refusal) → first_applicable_rewrite rest m x ≡ refused e → IsCount e
unfolding first_applicable_rewrite
all_counts [] m x e h = absurd (not_refused none e refl h)
all_counts (a ∷ rest) m x e h = elim (either_refused (rewrite_by_entry a m x) (first_applicable_rewrite rest m x) e h) [
  | inl k ↦ tried_counts a m x e k
  | inr k ↦ all_counts rest m x e k
]

all_unfired : (k : ℕ) (rest : List RuleOrPatternModel) (m : Module) (x : ℕ) → first_applicable_rewrite rest m x ≡ none → first_matching_entry k rest m x ≡ None
unfolding first_applicable_rewrite first_matching_entry
all_unfired k [] m x e = refl
all_unfired k (a ∷ rest) m x e =
    let parts = or_none (rewrite_by_entry a m x) (first_applicable_rewrite rest m x) e in
    ap (λ w. by_or w (traced_as k a) (first_matching_entry (k + 1) rest m x)) parts.0 ∙ all_unfired (k + 1) rest m x parts.1

all_none : (k : ℕ) (rest : List RuleOrPatternModel) (m : Module) (x : ℕ) → first_matching_entry k rest m x ≡ None → first_applicable_rewrite rest m x ≡ none
unfolding first_applicable_rewrite first_matching_entry
all_none k [] m x e = refl
all_none k (a ∷ rest) m x e = go (rewrite_by_entry a m x) (λ i. all_none (k + 1) rest m x i) e
  where
    go : (w : Rewrite) → (first_matching_entry (k + 1) rest m x ≡ None → first_applicable_rewrite rest m x ≡ none) → by_or w (traced_as k a) (first_matching_entry (k + 1) rest m x) ≡ None → or_else w (first_applicable_rewrite rest m x) ≡ none
    go none more e = more e
    go (refused f) more e = absurd (none-some (traced_as k a) (sym e))
    go (becomes n) more e = absurd (none-some (traced_as k a) (sym e))

pub entries_lawful : (rest : List RuleOrPatternModel) → MayUseAll rest → IsLawful (pattern_set_from rest)
entries_lawful rest may = record {
  away = λ m n x s e. all_away rest may m n x s e;
  orderly = λ m d below x n e. all_orderly m d below x rest may n e;
  root = λ m d. all_root rest m d;
  counts = λ m x e h. all_counts rest m x e h;
  applied = λ m x. (all_unfired 0 rest m x, all_none 0 rest m x);
}

-- the rules and patterns of a run
pub entries_lawful_of : (t : Entries) → MayTry t → IsLawful (model_of t)
entries_lawful_of Canonicalization may = rules_lawful greedy_rules canonical_rules
entries_lawful_of (Rules rows) may = rules_lawful rows.now.rules.now may.canonical
entries_lawful_of (Patterns list) may = entries_lawful (patterns_of list.now) may

-- every pattern set of a run
tried_lawful : (o : Option ℕ) (a : PatternSetModel) → IsLawful a → IsLawful (tried_at o a)
tried_lawful None a l = l
tried_lawful (Some x) a l = only_lawful x a l

pub pattern_set_lawful : (t : PatternSet) → MayTry t.entries → IsLawful (pattern_set_of t)
pattern_set_lawful t may = tried_lawful t.at (model_of t.entries) (entries_lawful_of t.entries may)

ready_for : (o : Option ℕ) (a : PatternSetModel) (passed : ℕ) (again : List ℕ) (m : Module) → Right a passed again m → IsReadyFor o a passed again m
ready_for None a passed again m r = r
ready_for (Some x) a passed again m r = tt

-- a right worklist is right for a run
pub is_ready : (t : PatternSet) (passed : ℕ) (again : List ℕ) (m : Module) → Right (model_of t.entries) passed again m → IsReady t passed again m
is_ready t passed again m r = ready_for t.at (model_of t.entries) passed again m r
