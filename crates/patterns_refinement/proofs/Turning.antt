-- Rules that change an operation in place keep modules ready and refine what they compute.
use Rattle.std.proofs.Common.{◌≡◌, ℕ, ◌<◌, refl, ap, sym, ◌∙◌, subst, List, map, Bool, true, false, true≢false, eqb, eqb-true, eq-eqb, Some, ◌⊎◌, inl, inr}
use Rattle.std.specs.Prelude.{if◌then◌else◌}
use Rattle.std.specs.List.{list_all}
use Rattle.std.proofs.lemmas.Option.{same_Some}
use Rattle.ir_types.specs.Words.{is_isolated}
use Rattle.ir_types.specs.Terms.{AttrTerm, TypeTerm}
use Rattle.ir_tree.specs.declared.value.Value.{Value}
use Rattle.ir_tree.specs.declared.value.Value.TheVariants.{Result}
use Rattle.ir_tree.specs.Tree.{head}
use Rattle.ir_tree.specs.Edits.{at, each_head}
use Rattle.ir_tree.specs.Ids.{find}
use Rattle.ir_tree.specs.WellFormed.{IsWellFormed}
use Rattle.ir_tree.specs.Meaning.{Operation}
use Rattle.ir_tree_laws.specs.Values.{has_value}
use Rattle.ir_tree_laws.proofs.Listed.{bool_cases}
use Rattle.ir_tree_laws.proofs.Reasoned.{some_there}
use Rattle.ir_event.specs.Modules.{Module}
use Rattle.dialects_int.specs.Folds.{rule_of}
use Rattle.user_patterns_check.specs.Checks.{refines}
use Rattle.user_patterns_data.specs.Matching.{Header}
use Rattle.user_patterns_check.specs.Outcomes.{Outcome}
use Rattle.patterns_refinement.proofs.FlagsKept.{obeys_unbroken}
use Rattle.patterns_refinement.specs.Meaning.{ArgumentsOfTypes, AreOfTypes, Assignment, Each, EachBlock, FitsDone, ResultsOfTypes, is_arithmetic, makes, owner, result_kind, Obeys, breaks_flags}
use Rattle.patterns_refinement.specs.Applied.{IsBelow}
use Rattle.patterns_refinement.specs.Better.{AllSure, AreKinded, GivesLess, GivesNoLess, IsSure, gives, is_arithmetic_there, is_kinded, kind_in, may_overflow, takes_its, KeepsFlags}
use Rattle.patterns_refinement.specs.Choices.{AreOrigins, Chooses, Origins}
use Rattle.patterns_refinement.specs.Keeping.{Computing, Improves, IsFed, IsReady, done_after, is_there}
use Rattle.patterns_refinement.proofs.Edited.{blocks_changed, each_both, each_changed}
use Rattle.patterns_refinement.proofs.Wellformed.{is_below, operands_stand}
use Rattle.patterns_refinement.proofs.Frees.{Was, free_still, was_old}
use Rattle.patterns_refinement.proofs.Giving.{after_old}
use Rattle.patterns_refinement.proofs.Monotone.{itself}
use Rattle.patterns_refinement.proofs.Readied.{AreKinds, HasKind, Rises, Takes, all_rise, each_rises, kinds_are, kinds_found, same_kinds_of}
use Rattle.patterns_refinement.proofs.Settling.{each_by_found, settles}
use Rattle.patterns_refinement.proofs.Origins.{Alike, IsOldKind, KeepsKinds, all_alike, kept_chooses, kinds_themselves, no_choice, origins_are}
use Rattle.patterns_refinement.proofs.Showing.{IsUnseen, at_unseen, kept_so, number_at, unseen_shows, unseen_through}
use Rattle.patterns_refinement.proofs.Swapping.{Low, fed_later, still_there}
use Rattle.patterns_refinement.proofs.Trees.{ArgumentsAre, ResultsAre}

-- ---- three changes of the head of operation x, which keep its id
at_it : (x : ℕ) (f : Header → Header) (h : Header) → eqb h.id x ≡ true → at x f h ≡ f h
at_it x f h e = ap (λ b. if b then f h else h) e

at_another : (x : ℕ) (f : Header → Header) (h : Header) → eqb h.id x ≡ false → at x f h ≡ h
at_another x f h e = ap (λ b. if b then f h else h) e

abbrev pub KeepsId : (Header → Header) → Type 0
KeepsId f = (h : Header) → h.id ≡ (f h).id

-- the change keeps whether the operation is arithmetic
abbrev pub KeepsNumber : (Header → Header) → Type 0
KeepsNumber f = (h : Header) → is_arithmetic (f h) ≡ is_arithmetic h

pub same_id : (x : ℕ) (f : Header → Header) → KeepsId f → (h : Header) → h.id ≡ (at x f h).id
same_id x f k h = go (eqb h.id x)
  where
    go : (b : Bool) → h.id ≡ (if b then f h else h).id
    go true = k h
    go false = refl

-- the tree after the three changes
abbrev pub turned_tree : ℕ → (Header → Header) → (Header → Header) → (Header → Header) → Operation → Operation
turned_tree x f g h t = each_head (at x h) (each_head (at x g) (each_head (at x f) t))

module _ (x : ℕ) (f g h : Header → Header) (own_f : KeepsId f) (own_g : KeepsId g) (own_h : KeepsId h) (o : Operation) (own : eqb (head o).id x ≡ true) (last : Header) (is : h (g (f (head o))) ≡ last) where
  abbrev changed : Header → Header
  changed j = at x h (at x g (at x f j))

  pub its_change : at x h (at x g (at x f (head o))) ≡ last
  its_change =
      let first = f (head o) in
      let at_first : eqb (f (head o)).id x ≡ true = ap (λ y. eqb y x) (sym (own_f (head o))) ∙ own in
      let at_second : eqb (g (f (head o))).id x ≡ true = ap (λ y. eqb y x) (sym (own_g (f (head o)))) ∙ at_first in
      ap (λ j. at x h (at x g j)) (at_it x f (head o) own) ∙ ap (at x h) (at_it x g (f (head o)) at_first) ∙ at_it x h (g (f (head o))) at_second ∙ is

  pub other_change : (j : Header) → eqb j.id x ≡ false → at x h (at x g (at x f j)) ≡ j
  other_change j e = ap (λ j. at x h (at x g j)) (at_another x f j e) ∙ ap (at x h) (at_another x g j e) ∙ at_another x h j e

  abbrev IsIt : Header → Type 0
  IsIt j = eqb j.id x ≡ true → j ≡ head o

  abbrev Was0 : (Header → Type 0) → Header → Type 0
  Was0 P j = P j × (eqb j.id x ≡ true → j ≡ head o)

  abbrev Was1 : (Header → Type 0) → Header → Type 0
  Was1 P j = (i : Header) × (j ≡ at x f i) × P i × (eqb i.id x ≡ true → i ≡ head o)

  abbrev Was2 : (Header → Type 0) → Header → Type 0
  Was2 P j = (i : Header) × (j ≡ at x g (at x f i)) × P i × (eqb i.id x ≡ true → i ≡ head o)

  pub turned_each : (P Q : Header → Type 0) → ((j : Header) → P j → Q j) → (P (head o) → Q last) → (t : Operation) → Each (λ j. eqb j.id x ≡ true → j ≡ head o) t → Each P t → Each Q (turned_tree x f g h t)
  turned_each P Q other its t it s =
      each_changed (Was2 P) Q (at x h) (λ j p. subst Q (sym (ap (at x h) p.1)) (go p.0 p.2 p.3 (bool_cases (eqb p.0.id x)))) (each_head (at x g) (each_head (at x f) t))
      (each_changed (Was1 P) (Was2 P) (at x g) (λ j p. (p.0, ap (at x g) p.1, p.2, p.3)) (each_head (at x f) t)
      (each_changed (Was0 P) (Was1 P) (at x f) (λ j p. (j, refl, p.0, p.1)) t (each_both P (λ j. eqb j.id x ≡ true → j ≡ head o) (Was0 P) (λ j p q. (p, q)) t s it)))
    where
      go : (j : Header) → P j → (eqb j.id x ≡ true → j ≡ head o) → (eqb j.id x ≡ true) ⊎ (eqb j.id x ≡ false) → Q (at x h (at x g (at x f j)))
      go j p i (inl e) = subst (λ j. Q (at x h (at x g (at x f j)))) (sym (i e)) (subst Q (sym its_change) (its (subst P (i e) p)))
      go j p i (inr e) = subst Q (sym (other_change j e)) (other j p)

  pub turned_blocks : (Q : ℕ → ℕ → List TypeTerm → Type 0) (t : Operation) → EachBlock Q t → EachBlock Q (turned_tree x f g h t)
  turned_blocks Q t s =
      blocks_changed Q (at x h) (same_id x h own_h) (each_head (at x g) (each_head (at x f) t))
      (blocks_changed Q (at x g) (same_id x g own_g) (each_head (at x f) t) (blocks_changed Q (at x f) (same_id x f own_f) t s))

-- ---- a rule that changes only operands and properties
pub record Turns (m n : Module) (x : ℕ) (o : Operation) : Type 0 where
  pub found : find x m.tree ≡ Some o
  pub own : (head o).id ≡ x
  pub first : Header → Header
  pub second : Header → Header
  pub third : Header → Header
  pub own_first : KeepsId first
  pub own_second : KeepsId second
  pub own_third : KeepsId third
  pub number_first : KeepsNumber first
  pub number_second : KeepsNumber second
  pub number_third : KeepsNumber third
  pub operands : List Value
  pub properties : List (List ℕ × AttrTerm)
  pub becomes : third (second (first (head o))) ≡ record (head o) { operands = operands; properties = properties }
  pub tree : turned_tree x first second third m.tree ≡ n.tree
  pub wellformed : IsWellFormed is_isolated n

module _ (m n : Module) (x : ℕ) (o : Operation) (w : Turns m n x o) (ready : IsReady m) where
  abbrev last : Header
  last = record (head o) { operands = w.operands; properties = w.properties }

  pub it : Each (λ j. eqb j.id x ≡ true → j ≡ head o) m.tree
  it = each_by_found (λ j. eqb j.id x ≡ true → j ≡ head o) m.tree ready.wellformed.distinct (λ p e i. ap head (same_Some _ _ (sym (ap (λ y. find y m.tree) (sym (eqb-true (head p).id x i)) ∙ e) ∙ w.found)))

  abbrev pub each : (P Q : Header → Type 0) → ((j : Header) → P j → Q j) → (P (head o) → Q (record (head o) { operands = w.operands; properties = w.properties })) → Each P m.tree → Each Q n.tree
  each P Q other its s =
      subst (λ t. Each Q t) w.tree
      (turned_each x w.first w.second w.third w.own_first w.own_second w.own_third o (eq-eqb (head o).id x w.own) (record (head o) { operands = w.operands; properties = w.properties }) w.becomes P Q other its m.tree it s)

  abbrev pub all_blocks : (Q : ℕ → ℕ → List TypeTerm → Type 0) → EachBlock Q m.tree → EachBlock Q n.tree
  all_blocks Q s =
      subst (λ t. EachBlock Q t) w.tree
      (turned_blocks x w.first w.second w.third w.own_first w.own_second w.own_third o (eq-eqb (head o).id x w.own) (record (head o) { operands = w.operands; properties = w.properties }) w.becomes Q m.tree s)

  pub turned_ready : Rises (record (head o) { operands = w.operands; properties = w.properties }) → Takes (kind_in m.tree) (record (head o) { operands = w.operands; properties = w.properties }) → IsReady n
  turned_ready risen taken =
      let value_types = kind_in m.tree in
      let old = kinds_are m.tree ready.wellformed.distinct in
      let are : AreKinds (kind_in m.tree) n.tree = record {
        results = each (ResultsAre (HasKind (kind_in m.tree))) (ResultsAre (HasKind (kind_in m.tree))) (λ h p. p) (λ p. p) old.results;
        arguments = all_blocks (ArgumentsAre (HasKind (kind_in m.tree))) old.arguments;
      } in
      record {
        wellformed = w.wellformed;
        sorted = all_rise n.tree w.wellformed.distinct (each Rises Rises (λ h p. p) (λ p. risen) (each_rises m.tree ready.sorted));
        kinded =
            each_both (Takes value_types) (λ h. list_all (λ v. has_value v n.tree) h.operands ≡ true) (λ h. is_kinded n.tree h ≡ true)
            (λ h p s. ap (takes_its (rule_of h.name) (result_kind h) h) (same_kinds_of (kind_in n.tree) value_types (λ v. has_value v n.tree) (kinds_found value_types n.tree are) h.operands s) ∙ p) n.tree
            (each (λ h. is_kinded m.tree h ≡ true) (Takes value_types) (λ h p. p) (λ p. taken) ready.kinded)
            (operands_stand is_isolated n.tree w.wellformed.distinct w.wellformed.wellformed.visible);
      }

  -- old values have the kinds that they had
  pub turned_kinds : KeepsKinds m.next m.tree n.tree
  turned_kinds =
      let old = kinds_themselves m.next m.tree ready.wellformed.distinct (is_below m.next m.tree ready.wellformed.below) in
      record {
        results = each (ResultsAre (IsOldKind m.next m.tree)) (ResultsAre (IsOldKind m.next m.tree)) (λ h p. p) (λ p. p) old.results;
        arguments = all_blocks (ArgumentsAre (IsOldKind m.next m.tree)) old.arguments;
      }

  -- the effect of the change
  pub record TurnsWell (a : Assignment) (done : ℕ → Bool) : Type 0 where
    pub arithmetic : is_arithmetic (head o) ≡ true
    pub gives_so : done x ≡ true → GivesNoLess (record (head o) { operands = w.operands; properties = w.properties }) (a (Result x 0)) (map a w.operands)
    pub unflagged : (xs : List Outcome) → breaks_flags (record (head o) { operands = w.operands; properties = w.properties }) xs ≡ false
    pub sure : done x ≡ true → may_overflow (record (head o) { operands = w.operands; properties = w.properties }) (map a w.operands) ≡ false
    pub values : list_all (λ v. has_value v m.tree) w.operands ≡ true
    pub fed : done x ≡ true → list_all (is_there done) w.operands ≡ true

  module _ (a : Assignment) (done : ℕ → Bool) (computing : Computing a done m.tree) (k : TurnsWell a done) where
    abbrev later : ℕ → Bool
    later = done_after m.next x done

    below : IsBelow m.next m.tree
    below = is_below m.next m.tree ready.wellformed.below

    was : (y : ℕ) → y < m.next → done_after m.next x done y ≡ true → done y ≡ true
    was y l i = sym (after_old m.next x done y l) ∙ i

    its_done : (head o).id < m.next → done_after m.next x done (head o).id ≡ true → done x ≡ true
    its_done l i = ap done (sym w.own) ∙ was (head o).id l i

    fitting : (h : Header) → FitsDone a done h → done h.id ≡ true → is_arithmetic h ≡ true → GivesNoLess h (a (Result h.id 0)) (map a h.operands) × KeepsFlags h (a (Result h.id 0)) (map a h.operands)
    fitting h p i j = (made (p i j), obeys_unbroken a h.id h (p i j))
      where
        made : Obeys a h.id h → GivesNoLess h (a (Result h.id 0)) (map a h.operands)
        made (inl e) = record { outcome = a (Result h.id 0); is_made = e.0; better = itself (a (Result h.id 0)) }
        made (inr b) = (let s = some_there (makes h (map a h.operands)) b.1 in record { outcome = s.0; is_made = s.1; better = subst (λ z. refines z s.0 ≡ true) (sym b.2) refl })

    all_give : Each (GivesLess a (done_after m.next x done)) n.tree
    all_give =
        each (Low m (FitsDone a done)) (GivesLess a (done_after m.next x done)) (λ h p i j. fitting h p.0 (was h.id p.1 i) j)
        (λ p i j.
        subst (λ y. GivesNoLess (record (head o) { operands = w.operands; properties = w.properties }) (a (Result y 0)) (map a w.operands) × KeepsFlags (record (head o) { operands = w.operands; properties = w.properties }) (a (Result y 0)) (map a w.operands))
        (sym w.own) (k.gives_so (its_done p.1 i), (λ l. k.unflagged (map a w.operands))))
        (each_both (FitsDone a done) (λ h. h.id < m.next) (Low m (FitsDone a done)) (λ h p l. (p, l)) m.tree computing.fits below)

    all_sure : AllSure a (done_after m.next x done) n.tree
    all_sure =
        each (Low m (IsSure a done)) (IsSure a (done_after m.next x done)) (λ h p i j. p.0 (was h.id p.1 i) j) (λ p i j. k.sure (its_done p.1 i))
        (each_both (IsSure a done) (λ h. h.id < m.next) (Low m (IsSure a done)) (λ h p l. (p, l)) m.tree computing.sure below)

    all_fed : Each (IsFed (done_after m.next x done)) n.tree
    all_fed =
        each (Low m (IsFed (done_after m.next x done))) (IsFed (done_after m.next x done)) (λ h p. p.0) (λ p i. still_there m x done below w.operands k.values (k.fed (its_done p.1 i)))
        (each_both (IsFed (done_after m.next x done)) (λ h. h.id < m.next) (Low m (IsFed (done_after m.next x done))) (λ h p l. (p, l)) m.tree
        (fed_later m x done below (operands_stand is_isolated m.tree ready.wellformed.distinct ready.wellformed.wellformed.visible) computing.fed) below)

    all_were : Each (Was m.next done (done_after m.next x done) m.tree) n.tree
    all_were = each (Was m.next done (done_after m.next x done) m.tree) (Was m.next done (done_after m.next x done) m.tree) (λ h p. p) (λ p i l j. p i l k.arithmetic) (was_old m.next done (done_after m.next x done) m.tree ready.wellformed.distinct was)

    all_plain : Each (Was m.next (λ y. true) (λ y. true) m.tree) n.tree
    all_plain = each (Was m.next (λ y. true) (λ y. true) m.tree) (Was m.next (λ y. true) (λ y. true) m.tree) (λ h p. p) (λ p i l j. p i l k.arithmetic) (was_old m.next (λ y. true) (λ y. true) m.tree ready.wellformed.distinct (λ y l i. refl))

    alike : Each (Alike m.tree n.tree) m.tree
    alike = all_alike m.next m.tree n.tree turned_kinds below (operands_stand is_isolated m.tree ready.wellformed.distinct ready.wellformed.wellformed.visible)

    -- a changed arithmetic operation is no choice
    turned_origins : (now : Assignment) → ((v : Value) → refines (a v) (now v) ≡ true) → (origin : Origins) → AreOrigins m.next a origin later m.tree → AreOrigins m.next now origin later n.tree
    turned_origins now better origin are =
        origins_are m.next a now origin later m.tree n.tree are (free_still m.next (λ y. true) (λ y. true) m.tree n.tree all_plain)
        (each (λ h. Alike m.tree n.tree h × Chooses a origin later m.tree h) (Chooses now origin later n.tree)
        (λ h p. kept_chooses h h (kept_so m.next m.tree n.tree a now later better h p.0) origin are p.1)
        (λ p i. absurd (true≢false (sym i ∙ no_choice n.tree (record (head o) { operands = w.operands; properties = w.properties }) k.arithmetic)))
        (each_both (Alike m.tree n.tree) (Chooses a origin later m.tree) (λ h. Alike m.tree n.tree h × Chooses a origin later m.tree h) (λ h p q. (p, q)) m.tree alike are.chosen))

    unseen : IsUnseen x m.tree n.tree
    unseen =
        let one = at_unseen x w.first w.number_first m.tree (number_at x m.tree ready.wellformed.distinct (ap is_arithmetic_there w.found ∙ k.arithmetic)) in
        let t = each_head (at x w.first) m.tree in
        let two = at_unseen x w.second w.number_second t one.numbers in
        let u = each_head (at x w.second) t in
        let three = at_unseen x w.third w.number_third u two.numbers in
        subst (IsUnseen x m.tree) w.tree
        (unseen_through x m.tree u (each_head (at x w.third) u) (unseen_through x m.tree t u one two) three)

    pub turned_improves : AreKinded n.tree → Improves a done m (done_after m.next x done) n.tree
    turned_improves kinded =
        let typed : AreOfTypes a n.tree = (
          each (ResultsOfTypes a) (ResultsOfTypes a) (λ h p. p) (λ p. p) computing.typed.0,
          all_blocks (ArgumentsOfTypes a) computing.typed.1,
        ) in
        let s = settles a (done_after m.next x done) n.tree w.wellformed.distinct kinded typed all_sure all_give in
        let free : (v : Value) → owner v < m.next → gives done m.tree v ≡ false → gives (done_after m.next x done) n.tree v ≡ false = free_still m.next done (done_after m.next x done) m.tree n.tree all_were in
        record {
          now = s.now;
          better = λ v l. s.better v;
          stays = λ v l e. s.stays v (free v l e);
          free = free;
          computing = record { fits = s.fits; typed = s.typed; sure = s.sure; fed = all_fed };
          shows = unseen_shows a s.now m (done_after m.next x done) x n.tree unseen s.better alike (free_still m.next (λ y. true) (λ y. true) m.tree n.tree all_plain) (turned_origins s.now s.better);
        }
