-- A sequence of attempts.
use Rattle.std.proofs.Common.{◌≡◌, ◌≢◌, refl, ap, sym, ◌∙◌, subst, inl, inr, ℕ, zero, suc, ◌+◌, ◌-◌, ◌<◌, ◌≤◌, Bool, true, false, true≢false, List, [], ◌∷◌, ◌++◌, append-nil, append_assoc, ◌||◌, if◌then◌else◌, Result, Ok, Err, arith}
use Rattle.std.specs.List.{list_all, range_with_len}
use Rattle.std.proofs.Math.Bool.{or-false}
use Rattle.ir_event.specs.types.Things.{ContextModel, IsExtendedBy}
use Rattle.ir_event.specs.types.declared.refusal.Refusal.{Refusal}
use Rattle.ir_event.specs.types.declared.refusal.Refusal.TheVariants.{Memory}
use Rattle.ir_event.specs.trees.Ids.{has_id}
use Rattle.ir_event.proofs.of_tree_laws.Listed.{both}
use Rattle.ir_event.specs.Modules.{Module}
use Rattle.patterns.specs.rewriter.Held.{TransactionModel}
use Rattle.patterns.specs.rewriter.Rolling.{Dropped}
use Rattle.conversion.specs.declared.legalization.Legalization.{Legalization}
use Rattle.conversion_base.specs.Rewrites.{Rewrite, none, refused, becomes, rewrite_of}
use Rattle.conversion_base.specs.Rule.{Rule}
use Rattle.conversion_base.specs.declared.applied_rule.AppliedRule.{AppliedRule}
use Rattle.conversion_base.specs.RuleNames.{is_converting}
use Rattle.conversion_base.specs.Targets.{Aim, is_legal}
use Rattle.conversion_base.specs.Legalization.{Outcome, legalised, failed, aborted, trailing, and_then, or_else, standing, each_of, after_rule, first_rule, legalization_of, made_since}
use Rattle.conversion.specs.States.{State, Applied, IsOutOfCapacity, IsLegalization, ReportsAfter, Stops, Comes, ComesAfter, Closed, Leads, marked, marked_transaction, applied_since, went_well}
use Rattle.conversion.proofs.Noting.{noted_closed}

-- ---- outcomes after other outcomes

pub after_none : (o : Outcome) → trailing [] false o ≡ o
after_none (legalised m ks limit_reached) = refl
after_none (failed limit_reached) = refl
after_none (aborted e) = refl

or_assoc : (a b c : Bool) → ((a || b) || c) ≡ (a || (b || c))
or_assoc true b c = refl
or_assoc false b c = refl

pub after_both : (js ks : List AppliedRule) (limit_reached deep : Bool) (o : Outcome) → trailing (js ++ ks) (limit_reached || deep) o ≡ trailing js limit_reached (trailing ks deep o)
after_both js ks limit_reached deep (legalised m ns d) = λ i. legalised m (append_assoc js ks ns i) (or_assoc limit_reached deep d i)
after_both js ks limit_reached deep (failed d) = ap failed (or_assoc limit_reached deep d)
after_both js ks limit_reached deep (aborted e) = refl

wants : (o : Outcome) (c : ContextModel) (e : Refusal) → IsOutOfCapacity c e → Stops o c e
wants (legalised p ks deep) c e w = w
wants (failed deep) c e w = w
wants (aborted f) c e w = inr w

stops_after : (ks : List AppliedRule) (limit_reached : Bool) (o : Outcome) (c : ContextModel) (e : Refusal) → Stops o c e → Stops (trailing ks limit_reached o) c e
stops_after ks limit_reached (legalised p js deep) c e s = s
stops_after ks limit_reached (failed deep) c e s = s
stops_after ks limit_reached (aborted f) c e s = s

stops_else : (o p : Outcome) (c : ContextModel) (e : Refusal) → Stops o c e → Stops (or_else o p) c e
stops_else (legalised m ks limit_reached) p c e s = s
stops_else (failed limit_reached) p c e s = wants (trailing [] limit_reached p) c e s
stops_else (aborted f) p c e s = s

stops_then : (f : Module → Outcome) (o : Outcome) (c : ContextModel) (e : Refusal) → Stops o c e → Stops (and_then f o) c e
stops_then f (legalised m ks limit_reached) c e s = wants (trailing ks limit_reached (f m)) c e s
stops_then f (failed limit_reached) c e s = s
stops_then f (aborted g) c e s = s

-- ---- the rules of a list

-- the remaining rules, after the earlier attempts, give the same outcome as all rules; the module is unchanged
pub record Trying (go : Module → ℕ → Outcome) (x : ℕ) (all rest : List Rule) (start here : State) (limit_reached : Bool) : Type 0 where
  pub same : trailing [] limit_reached (first_rule go rest start.held x) ≡ first_rule go all start.held x
  pub held : here.held ≡ start.held
  pub rules_left : list_all is_converting rest ≡ true

pub trying_none : (go : Module → ℕ → Outcome) (x : ℕ) (all : List Rule) (start : State) → list_all is_converting all ≡ true → Trying go x all all start start false
trying_none go x all start a = record { same = after_none (first_rule go all start.held x); held = refl; rules_left = a }

module _ (go : Module → ℕ → Outcome) (x : ℕ) (all : List Rule) (start : State) where
  pub trying_rule : (r : Rule) (rest : List Rule) (here : State) (limit_reached : Bool) → Trying go x all (r ∷ rest) start here limit_reached → is_converting r ≡ true
  trying_rule r rest here limit_reached h = (both (is_converting r) (list_all is_converting rest) h.rules_left).0

  -- a rule is refused
  pub trying_stops : (r : Rule) (rest : List Rule) (here next : State) (limit_reached : Bool) (e : Refusal) → Trying go x all (r ∷ rest) start here limit_reached
      → Comes (after_rule go r x here.held (rewrite_of r here.held x)) (Err e) here next → Comes (first_rule go all start.held x) (Err e) start next
  trying_stops r rest here next limit_reached e h c =
      let o = after_rule go r x start.held (rewrite_of r start.held x) in
      let s : Stops o next.things e = subst (λ (m : Module). Stops (after_rule go r x m (rewrite_of r m x)) next.things e) h.held c.0 in
      (subst (λ (p : Outcome). Stops p next.things e) h.same (stops_after [] limit_reached _ next.things e (stops_else o (first_rule go rest start.held x) next.things e s)), c.1 ∙ h.held)

  -- the rule succeeds
  went : (o p : Outcome) (limit_reached : Bool) (t u : Legalization) (m n : Module) → IsLegalization o t m n → u.legal ≡ t.legal → u.applied.items ≡ t.applied.items → u.limit_reached ≡ (limit_reached || t.limit_reached) → u.legal ≡ true → IsLegalization (trailing [] limit_reached (or_else o p)) u m n
  went (legalised q ks deep) p limit_reached t u m n c l k2 d is =
      (is, (k2 ∙ c.1.0, (d ∙ ap (λ b. limit_reached || b) c.1.1.0, c.1.1.1)))
  went (failed deep) p limit_reached t u m n c l k2 d is = absurd (true≢false (sym is ∙ l ∙ c.0))
  went (aborted e) p limit_reached t u m n c l k2 d is = absurd c

  pub trying_well : (r : Rule) (rest : List Rule) (here next : State) (limit_reached : Bool) (t u : Legalization) → Trying go x all (r ∷ rest) start here limit_reached
      → Comes (after_rule go r x here.held (rewrite_of r here.held x)) (Ok t) here next → u.legal ≡ t.legal → u.applied.items ≡ t.applied.items → u.limit_reached ≡ (limit_reached || t.limit_reached) → u.legal ≡ true
      → Comes (first_rule go all start.held x) (Ok u) start next
  trying_well r rest here next limit_reached t u h c l k d is =
      let o = after_rule go r x start.held (rewrite_of r start.held x) in
      let s : IsLegalization o t start.held next.held = subst (λ (m : Module). IsLegalization (after_rule go r x m (rewrite_of r m x)) t m next.held) h.held c in
      subst (λ (p : Outcome). IsLegalization p u start.held next.held) h.same (went o (first_rule go rest start.held x) limit_reached t u start.held next.held s l k d is)

  -- the rule fails, and the next one is tried
  passed : (o p : Outcome) (limit_reached : Bool) (t u : Legalization) (m n : Module) → IsLegalization o t m n → u.legal ≡ t.legal → u.limit_reached ≡ (limit_reached || t.limit_reached) → u.legal ≡ false → (trailing [] u.limit_reached p ≡ trailing [] limit_reached (or_else o p)) × (n ≡ m)
  passed (legalised q ks deep) p limit_reached t u m n c l d is = absurd (true≢false (sym c.0 ∙ sym l ∙ is))
  passed (failed deep) p limit_reached t u m n c l d is = (ap (λ b. trailing [] b p) (d ∙ ap (λ b. limit_reached || b) c.1.0) ∙ after_both [] [] limit_reached deep p, c.1.1)
  passed (aborted e) p limit_reached t u m n c l d is = absurd c

  pub trying_more : (r : Rule) (rest : List Rule) (here next : State) (limit_reached : Bool) (t u : Legalization) → Trying go x all (r ∷ rest) start here limit_reached
      → Comes (after_rule go r x here.held (rewrite_of r here.held x)) (Ok t) here next → u.legal ≡ t.legal → u.limit_reached ≡ (limit_reached || t.limit_reached) → u.legal ≡ false → Trying go x all rest start next u.limit_reached
  trying_more r rest here next limit_reached t u h c l d is =
      let o = after_rule go r x start.held (rewrite_of r start.held x) in
      let s : IsLegalization o t start.held next.held = subst (λ (m : Module). IsLegalization (after_rule go r x m (rewrite_of r m x)) t m next.held) h.held c in
      let p = passed o (first_rule go rest start.held x) limit_reached t u start.held next.held s l d is in
      record { same = p.0 ∙ h.same; held = p.1; rules_left = (both (is_converting r) (list_all is_converting rest) h.rules_left).1 }

  -- no rule is left
  pub trying_fails : (here : State) (limit_reached : Bool) (u : Legalization) → Trying go x all [] start here limit_reached → u.legal ≡ false → u.limit_reached ≡ limit_reached → Comes (first_rule go all start.held x) (Ok u) start here
  trying_fails here limit_reached u h is d =
      let e : trailing [] limit_reached (failed false) ≡ failed limit_reached = ap failed (or-false limit_reached) in
      subst (λ (o : Outcome). IsLegalization o u start.held here.held) (sym e ∙ h.same) (is, (d, h.held))

-- ---- the operations that a rule made

-- the remaining ids, after the applied rules and the earlier attempts, give the same outcome as all ids
abbrev pub Making : (Module → ℕ → Outcome) → Outcome → ℕ → ℕ → State → List AppliedRule → Bool → Type 0
Making go all id end here ks limit_reached = trailing ks limit_reached (each_of go (range_with_len id (end - id)) here.held) ≡ all

pub making_none : (go : Module → ℕ → Outcome) (k : AppliedRule) (from end : ℕ) (start : State) (ks : List AppliedRule) → end ≡ start.held.next → ks ≡ k ∷ [] → Making go (trailing (k ∷ []) false (each_of go (made_since from start.held) start.held)) from end start ks false
making_none go k from end start ks e f = λ i. trailing (f i) false (each_of go (range_with_len from (e i - from)) start.held)

module _ (go : Module → ℕ → Outcome) (all : Outcome) (id end : ℕ) where
  range_more : id < end → range_with_len id (end - id) ≡ id ∷ range_with_len (id + 1) (end - (id + 1))
  range_more l = let e : end - id ≡ suc (end - (id + 1)) = omega arith in ap (range_with_len id) e

  split : (here : State) (ks : List AppliedRule) (limit_reached : Bool) → id < end → Making go all id end here ks limit_reached
      → trailing ks limit_reached (and_then (each_of go (range_with_len (id + 1) (end - (id + 1)))) (standing go here.held id)) ≡ all
  split here ks limit_reached l h = sym (ap (λ xs. trailing ks limit_reached (each_of go xs here.held)) (range_more l)) ∙ h

  pub making_stops : (here next : State) (ks : List AppliedRule) (limit_reached : Bool) (e : Refusal) → id < end → Making go all id end here ks limit_reached → Comes (standing go here.held id) (Err e) here next → ComesAfter all (Err e) next
  making_stops here next ks limit_reached e l h c =
      subst (λ (o : Outcome). Stops o next.things e) (split here ks limit_reached l h) (stops_after ks limit_reached _ next.things e (stops_then _ (standing go here.held id) next.things e c.0))

  fails : (f : Module → Outcome) (o : Outcome) (ks : List AppliedRule) (limit_reached : Bool) (t u : Legalization) (m n : Module) → IsLegalization o t m n → u.legal ≡ t.legal → u.limit_reached ≡ (limit_reached || t.limit_reached) → u.legal ≡ false → ReportsAfter (trailing ks limit_reached (and_then f o)) u n
  fails f (legalised q js deep) ks limit_reached t u m n c l d is = absurd (true≢false (sym c.0 ∙ sym l ∙ is))
  fails f (failed deep) ks limit_reached t u m n c l d is = (is, d ∙ ap (λ b. limit_reached || b) c.1.0)
  fails f (aborted e) ks limit_reached t u m n c l d is = absurd c

  pub making_fails : (here next : State) (ks : List AppliedRule) (limit_reached : Bool) (t u : Legalization) → id < end → Making go all id end here ks limit_reached → Comes (standing go here.held id) (Ok t) here next
      → u.legal ≡ t.legal → u.limit_reached ≡ (limit_reached || t.limit_reached) → u.legal ≡ false → ComesAfter all (Ok u) next
  making_fails here next ks limit_reached t u l h c legal d is =
      subst (λ (o : Outcome). ReportsAfter o u next.held) (split here ks limit_reached l h) (fails _ (standing go here.held id) ks limit_reached t u here.held next.held c legal d is)

  goes_on : (f : Module → Outcome) (o : Outcome) (ks : List AppliedRule) (limit_reached : Bool) (t u : Legalization) (m n : Module) → IsLegalization o t m n → u.legal ≡ t.legal → u.limit_reached ≡ (limit_reached || t.limit_reached) → u.legal ≡ true
      → trailing (ks ++ t.applied.items) u.limit_reached (f n) ≡ trailing ks limit_reached (and_then f o)
  goes_on f (legalised q js deep) ks limit_reached t u m n c l d is =
      (λ i. trailing (ks ++ c.1.0 i) ((d ∙ ap (λ b. limit_reached || b) c.1.1.0) i) (f (c.1.1.1 i))) ∙ after_both ks js limit_reached deep (f q)
  goes_on f (failed deep) ks limit_reached t u m n c l d is = absurd (true≢false (sym is ∙ l ∙ c.0))
  goes_on f (aborted e) ks limit_reached t u m n c l d is = absurd c

  pub making_more : (here next : State) (ks more : List AppliedRule) (limit_reached : Bool) (t u : Legalization) → id < end → Making go all id end here ks limit_reached → Comes (standing go here.held id) (Ok t) here next
      → u.legal ≡ t.legal → u.applied.items ≡ t.applied.items → u.limit_reached ≡ (limit_reached || t.limit_reached) → u.legal ≡ true → more ≡ ks ++ u.applied.items → Making go all (id + 1) end next more u.limit_reached
  making_more here next ks more limit_reached t u l h c legal k d is e =
      ap (λ ns. trailing ns u.limit_reached (each_of go (range_with_len (id + 1) (end - (id + 1))) next.held)) (e ∙ ap (λ ns. ks ++ ns) k)
      ∙ goes_on (each_of go (range_with_len (id + 1) (end - (id + 1)))) (standing go here.held id) ks limit_reached t u here.held next.held c legal d is ∙ split here ks limit_reached l h

  pub making_done : (here : State) (ks : List AppliedRule) (limit_reached : Bool) (u : Legalization) → end ≤ id → Making go all id end here ks limit_reached → u.legal ≡ true → u.applied.items ≡ ks → u.limit_reached ≡ limit_reached → ComesAfter all (Ok u) here
  making_done here ks limit_reached u l h is k d =
      let e : end - id ≡ 0 = omega arith in
      let o : legalised here.held ks limit_reached ≡ all = (λ i. legalised here.held (sym (append-nil ks) i) (sym (or-false limit_reached) i)) ∙ sym (ap (λ j. trailing ks limit_reached (each_of go (range_with_len id j) here.held)) e) ∙ h in
      subst (λ (p : Outcome). ReportsAfter p u here.held) o (is, (k, (d, refl)))

-- running out of memory ends the attempt, whatever its outcome
pub wanted_after : (o : Outcome) (e : Refusal) (here : State) → e ≡ Memory → ComesAfter o (Err e) here
wanted_after o e here m = wants o here.things e (inl m)

-- ---- a rule under a mark

-- an operation that is in the module, isn't legal, and is above the depth limit
pub goes_down : (g : Aim) (d : ℕ) (m : Module) (x : ℕ) → has_id x m.tree ≡ true → is_legal g x m.tree ≡ false → 0 < d
    → first_rule (legalization_of g (d - 1)) g.rules m x ≡ standing (legalization_of g d) m x
goes_down g zero m x there not_legal l = absurd (omega (arith, l))
goes_down g (suc d) m x there not_legal l =
    let e : suc d - 1 ≡ d = omega arith in
    ap (λ k. first_rule (legalization_of g k) g.rules m x) e
    ∙ sym (ap (λ b. if b then legalization_of g (suc d) m x else legalised m [] false) there ∙ ap (λ b. if b then legalised m [] false else first_rule (legalization_of g d) g.rules m x) not_legal)

-- a rule that applied once
pub applied_once : (go : Module → ℕ → Outcome) (r : Rule) (x : ℕ) (a : Rewrite) (m n : Module) → Applied a true m n → trailing (applied_since r x m.next n ∷ []) false (each_of go (made_since m.next n) n) ≡ after_rule go r x m a
applied_once go r x none m n h = absurd (true≢false h.0)
applied_once go r x (becomes p) m n h = ap (λ (q : Module). trailing (applied_since r x m.next q ∷ []) false (each_of go (made_since m.next q) q)) h.1
applied_once go r x (refused e) m n h = absurd h

module _ (start here end : State) (closing : (well : Bool) → Closed well here end → end ≡ record { things = here.things; held = if well then here.held else start.held; marks = start.marks }) where
  whole : (o : Outcome) (r : Result Legalization Refusal) → ComesAfter o r here → Closed (went_well r) here end → Comes o r start end
  whole (legalised p ks deep) (Ok t) c is = (c.0, (c.1.0, (c.1.1.0, ap (λ (s : State). s.held) (closing t.legal is) ∙ ap (λ b. if b then here.held else start.held) c.0 ∙ c.1.1.1)))
  whole (failed deep) (Ok t) c is = (c.0, (c.1, ap (λ (s : State). s.held) (closing t.legal is) ∙ ap (λ b. if b then here.held else start.held) c.0))
  whole (aborted e) (Ok t) c is = absurd c
  whole o (Err e) c is = (subst (λ (d : ContextModel). Stops o d e) (sym (ap (λ (s : State). s.things) (closing false is))) c, ap (λ (s : State). s.held) (closing false is))

pub noted : (start stepped here : State) → stepped ≡ marked start → here.marks ≡ stepped.marks → here.marks ≡ record { marked = start.held; counted = false } ∷ start.marks
noted start stepped here e m = m ∙ ap (λ (s : State). s.marks) e

pub tried_whole : (f : ContextModel → Module → Outcome) (r : Result Legalization Refusal) (start stepped here end : State) → stepped ≡ marked start → here.marks ≡ stepped.marks → ComesAfter (f stepped.things stepped.held) r here
    → (well : Bool) → well ≡ went_well r → Closed well here end → Comes (f start.things start.held) r start end
tried_whole f r start stepped here end e m c well w is =
    whole start here end (λ b k. k (record { marked = start.held; counted = false }) start.marks (noted start stepped here e m)) (f start.things start.held) r (subst (λ (s : State). ComesAfter (f s.things s.held) r here) e c)
    (subst (λ b. Closed b here end) w is)

module _ {S : Type 0} (state : S → State) (transaction : S → TransactionModel) (led : S → S → Type 0) (more : (a b c : S) → led a b → led b c → led a c) where
  pub leads_whole : (start stepped here end : S) → state stepped ≡ marked (state start) → led start stepped → Leads state transaction led stepped here → led here end → (well : Bool) → Closed well (state here) (state end)
      → ((transaction start).marks ≡ [] → (transaction start).journal ≡ []) → transaction stepped ≡ marked_transaction (transaction start) → ((transaction here).marks ≢ [] → Dropped well (transaction here) (transaction end)) → Leads state transaction led start end
  leads_whole start stepped here end e l h k well is unmarked begun dropped =
      let closed = is (record { marked = (state start).held; counted = false }) (state start).marks (noted (state start) (state stepped) (state here) e h.marks) in
      record {
        grows = subst (λ (d : ContextModel). IsExtendedBy (state start).things d) (sym (ap (λ (s : State). s.things) closed)) (subst (λ (s : State). IsExtendedBy s.things (state here).things) e h.grows);
        marks = ap (λ (s : State). s.marks) closed;
        noted = noted_closed (transaction start) (transaction stepped) (transaction here) (transaction end) unmarked begun h.noted well dropped;
        reported = more start here end (more start stepped here l h.reported) k;
      }
