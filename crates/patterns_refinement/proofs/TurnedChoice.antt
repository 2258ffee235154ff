-- A rule that changes the operands of a choice in place keeps what the module shows.
use Rattle.std.proofs.Common.{◌≡◌, ℕ, ◌<◌, refl, ap, sym, ◌∙◌, subst, Bool, true, false, true≢false, eqb, eq-eqb, ◌⊎◌, inl, inr}
use Rattle.std.specs.Prelude.{if◌then◌else◌}
use Rattle.std.specs.List.{list_all}
use Rattle.ir_types.specs.Words.{is_isolated}
use Rattle.ir_tree.specs.declared.value.Value.{Value}
use Rattle.ir_tree.specs.Tree.{head, op, regions}
use Rattle.ir_tree.specs.Edits.{at, regions_each_head}
use Rattle.ir_tree.specs.Meaning.{Operation}
use Rattle.ir_tree_laws.specs.Values.{has_value}
use Rattle.ir_tree_laws.proofs.Listed.{bool_cases}
use Rattle.ir_event.specs.Modules.{Module}
use Rattle.user_patterns_data.specs.Matching.{Header}
use Rattle.patterns_refinement.specs.Meaning.{ArgumentsOfTypes, Assignment, Each, FitsDone, ResultsOfTypes, is_arithmetic, owner}
use Rattle.patterns_refinement.specs.After.{OperandsStand}
use Rattle.patterns_refinement.specs.Applied.{IsBelow}
use Rattle.patterns_refinement.specs.Better.{AllSure, IsSure}
use Rattle.patterns_refinement.specs.Choices.{AreOrigins, Chooses, Chosen, Origins, is_choice}
use Rattle.patterns_refinement.specs.Observing.{RegionsFollow, Shows, Stays, is_computed, shown_regions, without_operands}
use Rattle.patterns_refinement.specs.Keeping.{Computing, Improves, IsFed, IsReady, done_after, is_there}
use Rattle.patterns_refinement.proofs.Edited.{each_both}
use Rattle.patterns_refinement.proofs.Follows.{follows_turned}
use Rattle.patterns_refinement.proofs.Frees.{Was, free_still, was_old}
use Rattle.patterns_refinement.proofs.Giving.{after_old}
use Rattle.patterns_refinement.proofs.Monotone.{itself}
use Rattle.patterns_refinement.proofs.Origins.{Alike, all_alike, kept_chooses, no_choice, origins_are}
use Rattle.patterns_refinement.proofs.Showing.{at_root, inside, kept_so, stays_so}
use Rattle.patterns_refinement.proofs.Shown.{each_shown, shown_changed}
use Rattle.patterns_refinement.proofs.Swapping.{Low, fed_later, still_there}
use Rattle.patterns_refinement.proofs.Turning.{KeepsNumber, Turns, all_blocks, each, it, its_change, other_change, turned_kinds, turned_tree}
use Rattle.patterns_refinement.proofs.Wellformed.{is_below, operands_stand}

module _ (m n : Module) (x : ℕ) (o : Operation) (w : Turns m n x o) (ready : IsReady m) where
  abbrev each_turned : (P Q : Header → Type 0) → ((j : Header) → P j → Q j) → (P (head o) → Q (record (head o) { operands = w.operands; properties = w.properties })) → Each P m.tree → Each Q n.tree
  each_turned P Q other its s = each m n x o w ready P Q other its s

  -- ---- a choice with other operands that chooses the same operand
  pub record TurnsChoice (a : Assignment) (done : ℕ → Bool) : Type 0 where
    pub choice : is_choice m.tree (head o) ≡ true
    pub properties : w.properties ≡ (head o).properties
    pub values : list_all (λ v. has_value v m.tree) w.operands ≡ true
    pub fed : done x ≡ true → list_all (is_there done) w.operands ≡ true
    pub chooses : (origin : Origins) (y : Value) → done x ≡ true → Chosen a origin y (head o).operands → Chosen a origin y w.operands

  module _ (a : Assignment) (done : ℕ → Bool) (computing : Computing a done m.tree) (k : TurnsChoice a done) where
    abbrev later : ℕ → Bool
    later = done_after m.next x done

    below : IsBelow m.next m.tree
    below = is_below m.next m.tree ready.wellformed.below

    operands : OperandsStand m.tree
    operands = operands_stand is_isolated m.tree ready.wellformed.distinct ready.wellformed.wellformed.visible

    was : (y : ℕ) → y < m.next → done_after m.next x done y ≡ true → done y ≡ true
    was y l i = sym (after_old m.next x done y l) ∙ i

    its_done : (head o).id < m.next → done_after m.next x done (head o).id ≡ true → done x ≡ true
    its_done l i = ap done (sym w.own) ∙ was (head o).id l i

    -- a choice isn't arithmetic
    no_number : {A : Type 0} → is_arithmetic (head o) ≡ true → A
    no_number e = absurd (true≢false (sym k.choice ∙ no_choice m.tree (head o) e))

    all_fits : Each (FitsDone a (done_after m.next x done)) n.tree
    all_fits =
        each_turned (Low m (FitsDone a done)) (FitsDone a (done_after m.next x done)) (λ h p i j. p.0 (was h.id p.1 i) j) (λ p i j. no_number j)
        (each_both (FitsDone a done) (λ h. h.id < m.next) (Low m (FitsDone a done)) (λ h p l. (p, l)) m.tree computing.fits below)

    all_sure : AllSure a (done_after m.next x done) n.tree
    all_sure =
        each_turned (Low m (IsSure a done)) (IsSure a (done_after m.next x done)) (λ h p i j. p.0 (was h.id p.1 i) j) (λ p i j. no_number j)
        (each_both (IsSure a done) (λ h. h.id < m.next) (Low m (IsSure a done)) (λ h p l. (p, l)) m.tree computing.sure below)

    all_fed : Each (IsFed (done_after m.next x done)) n.tree
    all_fed =
        each_turned (Low m (IsFed (done_after m.next x done))) (IsFed (done_after m.next x done)) (λ h p. p.0) (λ p i. still_there m x done below w.operands k.values (k.fed (its_done p.1 i)))
        (each_both (IsFed (done_after m.next x done)) (λ h. h.id < m.next) (Low m (IsFed (done_after m.next x done))) (λ h p l. (p, l)) m.tree
        (fed_later m x done below operands computing.fed) below)

    all_were : (before after : ℕ → Bool) → ((y : ℕ) → y < m.next → after y ≡ true → before y ≡ true) → Each (Was m.next before after m.tree) n.tree
    all_were before after f = each_turned (Was m.next before after m.tree) (Was m.next before after m.tree) (λ h p. p) (λ p i l j. no_number j) (was_old m.next before after m.tree ready.wellformed.distinct f)

    simple : (v : Value) → owner v < m.next → is_computed m.tree v ≡ false → is_computed n.tree v ≡ false
    simple = free_still m.next (λ y. true) (λ y. true) m.tree n.tree (all_were (λ y. true) (λ y. true) (λ y l i. refl))

    alike : Each (Alike m.tree n.tree) m.tree
    alike = all_alike m.next m.tree n.tree (turned_kinds m n x o w ready) below operands

    abbrev Moves : Header → Type 0
    Moves j = Stays m.next m.tree n.tree a a (done_after m.next x done) j (at x w.third (at x w.second (at x w.first j)))

    own_stays : Stays m.next m.tree n.tree a a (done_after m.next x done) (head o) (record (head o) { operands = w.operands; properties = w.properties })
    own_stays = record {
      same = sym (ap (λ properties. record (without_operands (head o)) { properties = properties }) k.properties);
      choice = λ e. absurd (true≢false (sym k.choice ∙ e));
      still = λ e. absurd (true≢false (sym k.choice ∙ e));
      better = λ e. absurd (true≢false (sym k.choice ∙ e));
    }

    moves : Each Moves m.tree
    moves = each_both (Alike m.tree n.tree) (λ j. eqb j.id x ≡ true → j ≡ head o) Moves (λ j p i. go j p i (bool_cases (eqb j.id x))) m.tree alike (it m n x o w ready)
      where
        go : (j : Header) → Alike m.tree n.tree j → (eqb j.id x ≡ true → j ≡ head o) → (eqb j.id x ≡ true) ⊎ (eqb j.id x ≡ false) → Moves j
        go j p i (inl e) =
            subst Moves (sym (i e))
            (subst (Stays m.next m.tree n.tree a a later (head o)) (sym (its_change x w.first w.second w.third w.own_first w.own_second w.own_third o (eq-eqb (head o).id x w.own) (record (head o) { operands = w.operands; properties = w.properties }) w.becomes)) own_stays)
        go j p i (inr e) =
            subst (Stays m.next m.tree n.tree a a later j) (sym (other_change x w.first w.second w.third w.own_first w.own_second w.own_third o (eq-eqb (head o).id x w.own) (record (head o) { operands = w.operands; properties = w.properties }) w.becomes j e))
            (stays_so m.next m.tree n.tree a a later (λ v. itself (a v)) j p)

    chooses_still : (origin : Origins) → AreOrigins m.next a origin (done_after m.next x done) m.tree → AreOrigins m.next a origin (done_after m.next x done) n.tree
    chooses_still origin are =
        origins_are m.next a a origin later m.tree n.tree are simple
        (each_turned (λ h. Low m (Alike m.tree n.tree) h × Chooses a origin later m.tree h) (Chooses a origin later n.tree)
        (λ h p. kept_chooses h h (kept_so m.next m.tree n.tree a a later (λ v. itself (a v)) h p.0.0) origin are p.1)
        (λ p i y e. let g = p.1 k.choice y e in (g.0, k.chooses origin y (its_done p.0.1 g.0) g.1))
        (each_both (Low m (Alike m.tree n.tree)) (Chooses a origin later m.tree) (λ h. Low m (Alike m.tree n.tree) h × Chooses a origin later m.tree h) (λ h p q. (p, q)) m.tree
        (each_both (Alike m.tree n.tree) (λ h. h.id < m.next) (Low m (Alike m.tree n.tree)) (λ h p l. (p, l)) m.tree alike below) are.chosen))

    turned_head : head n.tree ≡ at x w.third (at x w.second (at x w.first (head m.tree)))
    turned_head = ap head (sym w.tree) ∙ one m.tree
      where
        one : (t : Operation) → head (turned_tree x w.first w.second w.third t) ≡ at x w.third (at x w.second (at x w.first (head t)))
        one (op h rs) = refl

    same_number : (f : Header → Header) → KeepsNumber f → (h : Header) → is_arithmetic (at x f h) ≡ is_arithmetic h
    same_number f keeps h = go (eqb h.id x)
      where
        go : (b : Bool) → is_arithmetic (if b then f h else h) ≡ is_arithmetic h
        go true = keeps h
        go false = refl

    turned_shown : shown_regions (regions n.tree) ≡ regions_each_head (at x w.third) (regions_each_head (at x w.second) (regions_each_head (at x w.first) (shown_regions (regions m.tree))))
    turned_shown = ap (λ t. shown_regions (regions t)) (sym w.tree) ∙ one m.tree
      where
        one : (t : Operation) → shown_regions (regions (turned_tree x w.first w.second w.third t)) ≡ regions_each_head (at x w.third) (regions_each_head (at x w.second) (regions_each_head (at x w.first) (shown_regions (regions t))))
        one (op h rs) =
            shown_changed (at x w.third) (same_number w.third w.number_third) (regions_each_head (at x w.second) (regions_each_head (at x w.first) rs))
            ∙ ap (regions_each_head (at x w.third)) (shown_changed (at x w.second) (same_number w.second w.number_second) (regions_each_head (at x w.first) rs)
            ∙ ap (regions_each_head (at x w.second)) (shown_changed (at x w.first) (same_number w.first w.number_first) rs))

    turned_shows : Shows a a m (done_after m.next x done) n.tree
    turned_shows = record {
      root = λ i. subst (Stays m.next m.tree n.tree a a later (head m.tree)) (sym turned_head) (at_root Moves m.tree moves);
      follows =
          subst (RegionsFollow (Stays m.next m.tree n.tree a a later) (shown_regions (regions m.tree))) (sym turned_shown)
          (follows_turned (Stays m.next m.tree n.tree a a later) (at x w.first) (at x w.second) (at x w.third) (shown_regions (regions m.tree)) (each_shown Moves (regions m.tree) (inside Moves m.tree moves)));
      simple = simple;
      origins = chooses_still;
    }

    pub choice_improves : Improves a done m (done_after m.next x done) n.tree
    choice_improves = record {
      now = a;
      better = λ v l. itself (a v);
      stays = λ v l e. refl;
      free = free_still m.next done (done_after m.next x done) m.tree n.tree (all_were done (done_after m.next x done) was);
      computing = record {
        fits = all_fits;
        typed = (
          each_turned (ResultsOfTypes a) (ResultsOfTypes a) (λ h p. p) (λ p. p) computing.typed.0,
          all_blocks m n x o w ready (ArgumentsOfTypes a) computing.typed.1,
        );
        sure = all_sure;
        fed = all_fed;
      };
      shows = turned_shows;
    }
