-- Casts and placeholders are inserted before x: x keeps its block, and the placeholders come before x.
use Rattle.std.proofs.Common.{◌≡◌, refl, ap, sym, ◌∙◌, subst, ℕ, suc, ◌+◌, ◌≤◌, Bool, true, false, List, [], ◌∷◌, ◌++◌, length, map, Option, Some, None, option_map, inl, inr, arith}
use Rattle.std.specs.List.{range_with_len}
use Rattle.ir_event.specs.types.Words.{is_isolated}
use Rattle.ir_event.specs.types.Terms.{TypeTerm, AttrTerm}
use Rattle.ir_event.proofs.of_types.SameTerms.{type_refl}
use Rattle.ir_event.specs.trees.declared.value.Value.{Value}
use Rattle.ir_event.specs.trees.declared.value.Value.TheVariants.{Result}
use Rattle.ir_event.specs.trees.declared.place.Place.{Place}
use Rattle.ir_event.specs.trees.Tree.{block, no_ops, head, regions}
use Rattle.ir_event.specs.trees.Ids.{find, has_id}
use Rattle.ir_event.specs.trees.Frames.{owner_of}
use Rattle.ir_event.specs.trees.Uses.{uses_of}
use Rattle.ir_event.specs.trees.Meaning.{Operation}
use Rattle.ir_event.specs.tree_laws.Members.{In}
use Rattle.ir_event.specs.tree_laws.Reasons.{with_id}
use Rattle.ir_event.specs.tree_laws.Values.{region_at}
use Rattle.ir_event.proofs.of_tree_laws.Members.{joined_ops}
use Rattle.ir_event.specs.Modules.{Module}
use Rattle.rewriter_machine.specs.Contents.{Edit, all_edited, edited}
use Rattle.rewriter_machine.specs.Edits.{Make}
use Rattle.patterns_base.specs.Lists.{Free}
use Rattle.patterns_base.proofs.Give.{there_is}
use Rattle.patterns_base.proofs.Made as made_there
use Rattle.patterns_base.proofs.Plans.{StandsAt, dominated_by}
use Rattle.patterns_soundness.specs.base.Looks.{Header}
use Rattle.patterns_soundness.specs.base.Made.{bridge, i64, placeholder}
use Rattle.patterns_soundness.specs.base.Lowering.{bridges, marked}
use Rattle.patterns_soundness.proofs.Arguments.{one_here}
use Rattle.patterns_soundness.proofs.CastsAccepted.{Headroom, made_one}
use Rattle.patterns_soundness.proofs.Kept as kept
use Rattle.patterns_soundness.proofs.Kept.{Kept, kept_none}
use Rattle.patterns_soundness.proofs.NearAccepted.{result_type, results_in}
use Rattle.patterns_soundness.proofs.Ordered.{Before}
use Rattle.patterns_soundness.proofs.Results.{AreGiven}
use Rattle.patterns_soundness.proofs.Started.{nothing_used, started, started_side}

abbrev pub holders_from : ℕ → List TypeTerm → List Value
holders_from n tys = map (λ i. Result i 0) (range_with_len n (length tys))

abbrev pub placeholders : Place → List TypeTerm → List Edit
placeholders insertion tys = map (λ ty. Make insertion (placeholder ty)) tys

module _ (x : ℕ) (insertion : Place) (q : ℕ) (args : List TypeTerm) (ws : List Operation) (lacks : (p : Operation) → In p ws → has_id insertion.parent p ≡ false) where
  abbrev pub Has : (m : Module) → StandsAt x insertion m → Type 0
  Has m s = region_at q (regions s.at.here) ≡ Some (block args (joined_ops ws no_ops))

  has_any : (m : Module) (s k : StandsAt x insertion m) → Has m s → Has m k
  has_any m s k h = ap (λ z. region_at q (regions z)) (one_here x insertion [] [] m k s) ∙ h

  -- x keeps its block after the casts are inserted
  pub bridged_has : (ms : List Bool) (vs : List Value) (m : Module) (s : StandsAt x insertion m) → ((v : Value) → In v vs → dominated_by x v m ≡ true) → Headroom (marked ms) m → Has m s → (k : StandsAt x insertion (all_edited (bridges i64 insertion ms vs) m)) → Has (all_edited (bridges i64 insertion ms vs) m) k
  bridged_has [] vs m s seen headroom h k = has_any m s k h
  bridged_has (true ∷ ms) [] m s seen headroom h k = has_any m s k h
  bridged_has (false ∷ ms) [] m s seen headroom h k = has_any m s k h
  bridged_has (false ∷ ms) (v ∷ vs) m s seen headroom h k = bridged_has ms vs m s (λ w i. seen w (inr i)) headroom h k
  bridged_has (true ∷ ms) (v ∷ vs) m s seen headroom h k =
      let one = made_one x insertion (λ b. ⊥) m s (bridge i64 v) refl refl only (marked ms) headroom in
      bridged_has ms vs (edited (Make insertion (bridge i64 v)) m) one.located (λ w i. one.dominance w (seen w (inr i))) (one.headrooms (marked ms) headroom) (started_side x insertion m s (bridge i64 v) refl only one.located q args ws lacks h) k
    where
      only : (w : Value) → In w (v ∷ []) → dominated_by x w m ≡ true
      only w (inl i) = seen w (inl i)
      only w (inr i) = absurd i

  -- placeholders, with ids from n on
  abbrev pub AreHeld : ℕ → List TypeTerm → Module → Type 0
  AreHeld n [] m = Unit {0}
  AreHeld n (ty ∷ tys) m = (Before n x m.tree × (results_in n m.tree ≡ Some (ty ∷ []))) × AreHeld (n + 1) tys m

  pub record Placed (tys : List TypeTerm) (m : Module) (s : StandsAt x insertion m) : Type 0 where
    pub free : (fs : List Edit) → Free fs (all_edited (placeholders insertion tys) m) → Free (placeholders insertion tys ++ fs) m
    pub located : StandsAt x insertion (all_edited (placeholders insertion tys) m)
    pub dominance : (v : Value) → dominated_by x v m ≡ true → dominated_by x v (all_edited (placeholders insertion tys) m) ≡ true
    pub has : Has m s → Has (all_edited (placeholders insertion tys) m) located
    pub given : AreGiven x insertion (holders_from m.next tys) tys (all_edited (placeholders insertion tys) m)
    pub held : AreHeld m.next tys (all_edited (placeholders insertion tys) m)
    pub unused : (v : Value) → uses_of v m.tree ≡ [] → uses_of v (all_edited (placeholders insertion tys) m).tree ≡ []
    pub stays : Kept is_isolated (λ b. has_id b m.tree ≡ true) m.tree (all_edited (placeholders insertion tys) m).tree
    pub next : (all_edited (placeholders insertion tys) m).next ≡ m.next + length tys
    pub headrooms : (k : ℕ) → Headroom (length tys + k) m → Headroom k (all_edited (placeholders insertion tys) m)

  pub placed_all : (tys : List TypeTerm) (m : Module) (s : StandsAt x insertion m) → Headroom (length tys) m → Placed tys m s
  placed_all [] m s headroom = record {
    free = λ fs k. k;
    located = s;
    dominance = λ v e. e;
    has = λ h. h;
    given = tt;
    held = tt;
    unused = λ v e. e;
    stays = kept_none is_isolated (λ b. has_id b m.tree ≡ true) m.tree (λ b h. h);
    next = omega arith;
    headrooms = λ k r. (let a = r.ops in let b = r.ids in record { ops = omega (arith, a); ids = omega (arith, b) });
  }
  placed_all (ty ∷ tys) m s headroom =
      let more : Headroom (length tys + 1) m = (let a = headroom.ops in let b = headroom.ids in record { ops = omega (arith, a); ids = omega (arith, b) }) in
      let none : (v : Value) → In v (head (placeholder ty)).operands → dominated_by x v m ≡ true = (λ v i. absurd i) in
      let one = made_one x insertion (λ b. has_id b m.tree ≡ true) m s (placeholder ty) refl refl none (length tys) more in
      let n = edited (Make insertion (placeholder ty)) m in
      let later = placed_all tys n one.located (one.headrooms (length tys) more) in
      let end = all_edited (placeholders insertion tys) n in
      let point = made_there.point is_isolated x insertion m s in
      let up = one.stays (λ b h. h) in
      let x_there = there_is is_isolated x insertion m s in
      let results : results_in m.next end.tree ≡ Some (ty ∷ []) = ap (option_map (λ (h : Header). h.results)) (later.stays.heads m.next one.new_there) ∙ ap (λ f. option_map (λ (h : Header). h.results) (option_map head f)) (kept.made_found is_isolated m s.wellformed insertion point (placeholder ty) refl) in
      record {
        free = λ fs k. one.free (placeholders insertion tys ++ fs) (later.free fs k);
        located = later.located;
        dominance = λ v e. later.dominance v (one.dominance v e);
        has = λ h. later.has (started_side x insertion m s (placeholder ty) refl none one.located q args ws lacks h);
        given = ((later.dominance (Result m.next 0) (one.new_dominance 0 refl), (ty, result_type m.next end.tree ty results, type_refl ty)), later.given);
        held = ((later.stays.before m.next x one.new_there (up.present x x_there) (started x insertion m s (placeholder ty) refl none one.located).before, results), later.held);
        unused = λ v e. later.unused v (nothing_used m s.wellformed insertion point (placeholder ty) refl v refl e);
        stays = record {
          present = λ b h. later.stays.present b (up.present b h);
          heads = λ b h. later.stays.heads b (up.present b h) ∙ up.heads b h;
          dominance = λ b h v g. later.stays.dominance b (up.present b h) v (up.present (owner_of v).0 g) ∙ up.dominance b h v g;
          before = λ a b g h e. later.stays.before a b (up.present a g) (up.present b h) (up.before a b g h e);
          inside = λ p r b h e. later.stays.inside p r b (up.present b h) (up.inside p r b h e);
          arounds = λ b h. later.stays.arounds b (up.present b h) ∙ up.arounds b h;
        };
        next = (let e = later.next in omega (arith, e));
        headrooms = λ k r. later.headrooms k (one.headrooms (length tys + k) (let a = r.ops in let b = r.ids in record { ops = omega (arith, a); ids = omega (arith, b) }));
      }
