-- Runs of rules and patterns that refine what is computed refine it, also if they do so only for modules with an
-- invariant.
use Rattle.std.proofs.Common.{◌≡◌, ℕ, zero, suc, ◌≤◌, refl, ap, sym, ◌∙◌, subst, List, [], ◌∷◌, ◌++◌, map, Bool, true, false, inl, inr, arith}
use Rattle.std.specs.Prelude.{if◌then◌else◌}
use Rattle.ir_tree_laws.specs.Members.{In}
use Rattle.ir_event.specs.Modules.{Module}
use Rattle.rewriter_machine.specs.Contents.{Edit, all_edited, edited}
use Rattle.rewriter_machine.specs.Edits.{DropAttr, Erase, Insert, Make, Move, Replace, SetAttr, SetOperand, next_edited}
use Rattle.patterns_base.specs.declared.rule.Rule.{Rule}
use Rattle.patterns_base.specs.Makes.{give}
use Rattle.patterns_base.specs.Rewrites.{Rewrite, becomes, none, rewrite_of}
use Rattle.user_patterns_data.specs.Shapes.{PatternModel}
use Rattle.user_patterns_apply.specs.Own.{user_pattern_rewrite}
use Rattle.greedy.specs.PatternSet.{RuleOrPatternModel, OfUserPattern, OfRule, rewrite_by_entry}
use Rattle.patterns_refinement.specs.Keeping.{IsReady, done_after}
use Rattle.patterns_refinement.specs.Runs.{ComputesThrough, Leads, RunsKeep}
use Rattle.patterns_refinement.specs.RuleListRuns.{KeptThrough, LeadsBy}
use Rattle.patterns_refinement.specs.Passing.{KeptAt}
use Rattle.patterns_refinement.proofs.Applying.{applies}
use Rattle.patterns_refinement.proofs.Giving.{after_old}
use Rattle.patterns_refinement.proofs.Monotone.{itself, through}
use Rattle.patterns_refinement.proofs.Ruled.{rule_edits}
use Rattle.patterns_refinement.proofs.Showing.{shows_itself, shows_through}

-- free ids are used up, and none becomes free
next_grows : (e : Edit) (n : ℕ) → n ≤ next_edited e n
next_grows (Insert place o) n = omega arith
next_grows (Make place o) n = omega arith
next_grows (Erase x) n = omega arith
next_grows (Move x place) n = omega arith
next_grows (SetOperand x k v) n = omega arith
next_grows (Replace old new) n = omega arith
next_grows (SetAttr x k a) n = omega arith
next_grows (DropAttr x k) n = omega arith

pub all_grow : (es : List Edit) (m : Module) → m.next ≤ (all_edited es m).next
all_grow [] m = omega arith
all_grow (e ∷ es) m = let h = next_grows e m.next in let ih = all_grow es (edited e m) in omega (arith, h, ih)

pub rewrite_grows : (r : Rule) (m n : Module) (x : ℕ) → rewrite_of r m x ≡ becomes n → m.next ≤ n.next
rewrite_grows r m n x e = let s = rule_edits r m n x e in subst (λ (n : Module). m.next ≤ n.next) s.1 (all_grow s.0 m)

pub none_never : {A : Type 0} (n : Module) → none ≡ becomes n → A
none_never n e = absurd (never e)
  where
    never : none ≡ becomes n → ⊥
    never e = cc

-- ---- rules and patterns at an operation
where_tried : (b : Bool) (r : Rewrite) (n : Module) → (if b then r else none) ≡ becomes n → r ≡ becomes n
where_tried true r n e = e
where_tried false r n e = none_never n e

pub own_of : (p : PatternModel) (m n : Module) (x : ℕ) → rewrite_by_entry (OfUserPattern p) m x ≡ becomes n → user_pattern_rewrite p m x ≡ becomes n
own_of p m n x e = where_tried _ (user_pattern_rewrite p m x) n e

pub own_grows : (p : PatternModel) (m n : Module) (x : ℕ) → user_pattern_rewrite p m x ≡ becomes n → m.next ≤ n.next
own_grows p m n x e =
    let q = applies p m n x e in
    subst (λ (n : Module). m.next ≤ n.next) q.module_is (all_grow (map (λ o. Make q.insertion o) q.made ++ give x q.value) m)

pattern_grows : (t : RuleOrPatternModel) (m n : Module) (x : ℕ) → rewrite_by_entry t m x ≡ becomes n → m.next ≤ n.next
pattern_grows (OfRule r) m n x e = rewrite_grows r m n x e
pattern_grows (OfUserPattern p) m n x e = own_grows p m n x (own_of p m n x e)

-- ---- runs that keep an invariant of modules
module _ (I : Module → Type 0) (ts : List RuleOrPatternModel) (keep : (t : RuleOrPatternModel) → In t ts → (m n : Module) (x : ℕ) → I m → IsReady m → rewrite_by_entry t m x ≡ becomes n → I n × KeptAt m n x) where
  pub runs_under : (k : ℕ) (m n : Module) → I m → IsReady m → LeadsBy ts k m n → I n × KeptThrough m n
  runs_under zero m n i ready leads = (
    subst I leads i,
    (
      subst IsReady leads ready,
      subst (λ (n : Module). m.next ≤ n.next) leads (omega arith),
      (λ a done c. subst (λ n. ComputesThrough a done m n) leads (record { later = done; same = λ y l. refl; improves = record { now = a; better = λ v l. itself (a v); stays = λ v l e. refl; free = λ v l e. e; computing = c; shows = shows_itself a a m done (λ v. itself (a v)) } })),
    ),
  )
  runs_under (suc k) m n i ready leads =
      let t = leads.0 in
      let x = leads.2 in
      let p = leads.3 in
      let kept = keep t leads.1 m p x i ready leads.4 in
      let ih = runs_under k p n kept.0 kept.1.0 leads.5 in
      let grows = pattern_grows t m p x leads.4 in
      let more = ih.1.1 in (
        ih.0,
        (
          ih.1.0,
          omega (arith, grows, more),
          (λ a done c.
              let r = kept.1.1 a done c in
              let j = ih.1.2 r.now (done_after m.next x done) r.computing in
              record {
                later = j.later;
                same = λ y l. j.same y (omega (arith, l, grows)) ∙ after_old m.next x done y l;
                improves = record {
                  now = j.improves.now;
                  better = λ v l. through (a v) (r.now v) (j.improves.now v) (r.better v l) (j.improves.better v (omega (arith, l, grows)));
                  stays = λ v l e. j.improves.stays v (omega (arith, l, grows)) (r.free v l e) ∙ r.stays v l e;
                  free = λ v l e. j.improves.free v (omega (arith, l, grows)) (r.free v l e);
                  computing = j.improves.computing;
                  shows = shows_through a r.now j.improves.now m p n.tree (done_after m.next x done) j.later ready.wellformed grows j.same r.shows j.improves.shows;
                };
              }),
        ),
      )

-- ---- rules alone
among_rules : (rs : List Rule) (r : Rule) → In r rs → In (OfRule r) (map OfRule rs)
among_rules [] r i = absurd i
among_rules (s ∷ rs) r (inl e) = inl (ap OfRule e)
among_rules (s ∷ rs) r (inr i) = inr (among_rules rs r i)

leads_as : (rs : List Rule) (k : ℕ) (m n : Module) → Leads rs k m n → LeadsBy (map OfRule rs) k m n
leads_as rs zero m n leads = leads
leads_as rs (suc k) m n leads = (OfRule leads.0, among_rules rs leads.0 leads.1, leads.2, leads.3, leads.4, leads_as rs k leads.3 n leads.5)

of_rules : (rs : List Rule) (P : RuleOrPatternModel → Type 0) → ((r : Rule) → In r rs → P (OfRule r)) → (t : RuleOrPatternModel) → In t (map OfRule rs) → P t
of_rules [] P f t i = absurd i
of_rules (r ∷ rs) P f t (inl e) = subst P (sym e) (f r (inl refl))
of_rules (r ∷ rs) P f t (inr i) = of_rules rs P (λ s j. f s (inr j)) t i

pub rules_under : (I : Module → Type 0) (rs : List Rule) → ((r : Rule) → In r rs → (m n : Module) (x : ℕ) → I m → IsReady m → rewrite_of r m x ≡ becomes n → I n × KeptAt m n x) → (k : ℕ) (m n : Module) → I m → IsReady m → Leads rs k m n → I n × KeptThrough m n
rules_under I rs keep k m n i ready leads =
    runs_under I (map OfRule rs) (of_rules rs (λ t. (m n : Module) (x : ℕ) → I m → IsReady m → rewrite_by_entry t m x ≡ becomes n → I n × KeptAt m n x) keep) k m n i ready (leads_as rs k m n leads)

pub runs_keep : RunsKeep
runs_keep rs keep k m n ready leads =
    (rules_under (λ m. Unit {0}) rs (λ r i m n x u ready e. (tt, ((keep r i).0 m n x ready e, (λ a done c. (keep r i).1 m n x a done ready c e)))) k m n tt ready leads).1
