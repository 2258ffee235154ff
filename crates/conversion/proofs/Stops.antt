-- The reason why an operation can't be legalized, as operations are legalized in turn.
use Rattle.std.proofs.Common.{◌≡◌, refl, ap, sym, ◌∙◌, subst, inl, inr, true≢false, ℕ, ◌-◌, ◌<◌, ◌≤◌, Bool, true, false, List, [], ◌∷◌, length, take, drop, get_or, if◌then◌else◌, Option, Some, None, Ok, Err, arith}
use Rattle.ir_event.specs.types.Things.{ContextModel}
use Rattle.ir_event.specs.types.declared.refusal.Refusal.TheVariants.{BadTarget}
use Rattle.ir_event.specs.trees.Ids.{ids}
use Rattle.ir_event.specs.Modules.{Module}
use Rattle.ir_event.proofs.of_types.Truths.{rest_at}
use Rattle.conversion_base.specs.Targets.{Aim, is_accepted}
use Rattle.conversion_base.specs.Legalization.{Outcome, legalised, failed, aborted, legalization_of, standing}
use Rattle.conversion_base.specs.Conversion.{Ended, given_up, all_parts, conversion_of, ended_at, ended_after, failing, in_turn, later_parts, legalised_at, next_part}
use Rattle.conversion_base.specs.Rule.{Rule}
use Rattle.conversion_base.specs.declared.applied_rule.AppliedRule.{AppliedRule}
use Rattle.conversion.specs.declared.fault.Fault.{Fault}
use Rattle.conversion.specs.declared.match_failure.MatchFailure.{MatchFailure}
use Rattle.conversion.specs.declared.conversion_error.ConversionError.{ConversionError}
use Rattle.conversion.specs.declared.legalization.Legalization.{Legalization}
use Rattle.conversion.specs.Converting.{conversion_to, match_failure_to}
use Rattle.conversion.specs.States.{State, Comes, Ends, Faults, StopsAt}
use Rattle.conversion.specs.MatchFailures.{last_rule, match_failure_by, unlegalised_op, reported_failure, staying, match_failure_after}
use Rattle.conversion.proofs.Turns.{failed_ends, wanted}

-- a refusal that isn't about an operation
pub none_stays : (e : ConversionError) (z : Option (ℕ × MatchFailure)) → e.fault.id ≡ None → e.failure ≡ None → e.failure ≡ reported_failure e.fault.id z
none_stays e z i s = s ∙ sym (ap (λ (x : Option ℕ). reported_failure x z) i)

-- a refusal without a match failure
reported_none : (i : Option ℕ) → reported_failure i None ≡ None
reported_none None = refl
reported_none (Some x) = refl

pub after_stays : (e : ConversionError) (z : Option (ℕ × MatchFailure)) → z ≡ None → e.failure ≡ None → e.failure ≡ reported_failure e.fault.id z
after_stays e z n s = s ∙ sym (reported_none e.fault.id) ∙ ap (λ (y : Option (ℕ × MatchFailure)). reported_failure e.fault.id y) (sym n)

-- ---- at an operation

-- no rule succeeded
pub failed_stays : (next : Module → Option (ℕ × MatchFailure)) (by : Module → MatchFailure) (x : ℕ) (o : Outcome) (t : Legalization) (a b : State) (e : ConversionError) → Comes o (Ok t) a b → t.legal ≡ false → StopsAt t.limit_reached x (by b.held) e
    → e.failure ≡ reported_failure e.fault.id (match_failure_after next x (by a.held) o)
failed_stays next by x (legalised p ks deep) t a b e c is h = absurd (true≢false (sym c.0 ∙ is))
failed_stays next by x (failed deep) t a b e c is (inl h) =
    h.1.1 ∙ sym (ap (λ (i : Option ℕ). reported_failure i (Some (x, by b.held))) h.1.0) ∙ ap (λ (m : Module). reported_failure e.fault.id (Some (x, by m))) c.1.1
failed_stays next by x (failed deep) t a b e c is (inr h) = none_stays e _ h.1.0 h.1.1
failed_stays next by x (aborted r) t a b e c is h = absurd c

pub failed_at : (x : ℕ) (o : Outcome) (t : Legalization) (a b : State) (s : MatchFailure) (e : ConversionError) → Comes o (Ok t) a b → t.legal ≡ false → StopsAt t.limit_reached x s e → Ends (ended_at x o) (Err e.fault) b
failed_at x o t a b s e c is (inl h) = failed_ends x o t a b e.fault c is h.0 h.1.0
failed_at x o t a b s e c is (inr h) = wanted (ended_at x o) e.fault b.things (h.1.0, inl h.0)

-- ---- operations in turn

goes_stay : (f : Module → Option (ℕ × MatchFailure)) (x : ℕ) (s : MatchFailure) (o : Outcome) (ks : List AppliedRule) (n : State) → Ends (ended_at x o) (Ok ks) n → f n.held ≡ match_failure_after f x s o
goes_stay f x s (legalised p js deep) ks n h = ap f h.1
goes_stay f x s (failed deep) ks n h = absurd h
goes_stay f x s (aborted e) ks n h = absurd h

module _ (g : Aim) (all : List ℕ) (start : State) where
  abbrev pub StillStays : List ℕ → State → Type 0
  StillStays xs here = staying g xs here.held ≡ staying g all start.held

  same_rest : (xs : List ℕ) (x : ℕ) (here : State) → 1 ≤ length xs → x ≡ get_or xs 0 x → StillStays xs here → StillStays (x ∷ take (length xs - 1) (drop 1 xs)) here
  same_rest xs x here l z h = sym (ap (λ ys. staying g ys here.held) (rest_at xs x x l z)) ∙ h

  pub stays_more : (xs : List ℕ) (x : ℕ) (ks : List AppliedRule) (here next : State) → 1 ≤ length xs → x ≡ get_or xs 0 x → StillStays xs here → Ends (legalised_at g here.held x) (Ok ks) next → StillStays (take (length xs - 1) (drop 1 xs)) next
  stays_more xs x ks here next l z h c =
      goes_stay (staying g (take (length xs - 1) (drop 1 xs))) x (match_failure_by (last_rule g.rules) here.held x) (standing (legalization_of g g.depth) here.held x) ks next c ∙ same_rest xs x here l z h

  pub stays_stops : (xs : List ℕ) (x : ℕ) (here : State) (e : ConversionError) → 1 ≤ length xs → x ≡ get_or xs 0 x → StillStays xs here
      → ((next : Module → Option (ℕ × MatchFailure)) → e.failure ≡ reported_failure e.fault.id (match_failure_after next x (match_failure_by (last_rule g.rules) here.held x) (standing (legalization_of g g.depth) here.held x)))
      → e.failure ≡ reported_failure e.fault.id (staying g all start.held)
  stays_stops xs x here e l z h k =
      k (staying g (take (length xs - 1) (drop 1 xs))) ∙ ap (λ (y : Option (ℕ × MatchFailure)). reported_failure e.fault.id y) (same_rest xs x here l z h)

  pub stays_done : (xs : List ℕ) (here : State) → length xs < 1 → StillStays xs here → staying g all start.held ≡ None
  stays_done [] here l h = sym h
  stays_done (x ∷ xs) here l h = absurd (omega (arith, l))

-- ---- the last rule

pub last_more : (r s : Rule) (xs all : List Rule) → 1 ≤ length xs → s ≡ get_or xs 0 s → last_rule (r ∷ xs) ≡ last_rule all → last_rule (s ∷ take (length xs - 1) (drop 1 xs)) ≡ last_rule all
last_more r s xs all l z h = sym (ap (λ ys. last_rule (r ∷ ys)) (rest_at xs s s l z)) ∙ h

-- ---- of a module

pub stay_accepted : (g : Aim) (m : Module) → is_accepted g ≡ true → unlegalised_op g m ≡ staying g (ids m.tree) m
stay_accepted g m a = ap (λ b. if b then staying g (ids m.tree) m else None) a

-- ---- the operation of the match failure is that of the fault

stay_step : (f : Module → Option (ℕ × MatchFailure)) (k : Module → Ended) (x : ℕ) (by : MatchFailure) (s : ℕ × MatchFailure) → ((m : Module) → f m ≡ Some s → (limit_reached : Bool) × (k m ≡ given_up (failing limit_reached) (Some s.0)))
    → (o : Outcome) → match_failure_after f x by o ≡ Some s → (limit_reached : Bool) × (next_part k (ended_at x o) ≡ given_up (failing limit_reached) (Some s.0))
stay_step f k x by s h (legalised n ks limit_reached) e = let r = h n e in (r.0, ap (ended_after ks) r.1)
stay_step f k x by s h (failed limit_reached) e =
    let is : (x, by) ≡ s = cc in
    (limit_reached, ap (λ (z : ℕ × MatchFailure). given_up (failing limit_reached) (Some z.0)) is)
stay_step f k x by s h (aborted r) e = absurd cc

pub stay_ends : (g : Aim) (xs : List ℕ) (m : Module) (s : ℕ × MatchFailure) → staying g xs m ≡ Some s → (limit_reached : Bool) × (in_turn (legalised_at g) xs m ≡ given_up (failing limit_reached) (Some s.0))
stay_ends g [] m s e = absurd cc
stay_ends g (x ∷ xs) m s e =
    stay_step (staying g xs) (in_turn (legalised_at g) xs) x (match_failure_by (last_rule g.rules) m x) s (λ n. stay_ends g xs n s) (standing (legalization_of g g.depth) m x) e

all_stay_ends : (g : Aim) (m : Module) (s : ℕ × MatchFailure) → unlegalised_op g m ≡ Some s → (limit_reached : Bool) × (conversion_of g m ≡ given_up (failing limit_reached) (Some s.0))
all_stay_ends g m s e = go (is_accepted g) e
  where
    go : (b : Bool) → (if b then staying g (ids m.tree) m else None) ≡ Some s → (limit_reached : Bool) × ((if b then all_parts g m else given_up BadTarget None) ≡ given_up (failing limit_reached) (Some s.0))
    go true h = (let r = stay_ends g (ids m.tree) m s h in (r.0, ap (later_parts g) r.1))
    go false h = absurd cc

-- a reported match failure is about the operation of the fault
pub fault_is_for : (o : Option Aim) (m : Module) (f : Fault) (c : ContextModel) (x : ℕ) (s : ℕ × MatchFailure) → Faults (conversion_to o m) f c → f.id ≡ Some x → match_failure_to o m ≡ Some s → s.0 ≡ x
fault_is_for None m f c x s h i k = absurd cc
fault_is_for (Some g) m f c x s h i k =
    let e = all_stay_ends g m s k in
    go e.0 (subst (λ (d : Ended). Faults d f c) e.1 h)
  where
    go : (limit_reached : Bool) → Faults (given_up (failing limit_reached) (Some s.0)) f c → s.0 ≡ x
    go limit_reached (inl (p, q)) = (let same : Some s.0 ≡ Some x = sym q ∙ i in cc)
    go limit_reached (inr w) = absurd (let none : None ≡ Some x = sym w.0 ∙ i in cc)

-- ---- the match failure that is reported with a fault

pub untold : (P : Option MatchFailure → Type 0) (f : Fault) (z : Option (ℕ × MatchFailure)) → f.id ≡ None → P None → P (reported_failure f.id z)
untold P f z i h = subst (λ (x : Option ℕ). P (reported_failure x z)) (sym i) h
