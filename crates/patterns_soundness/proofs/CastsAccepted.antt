-- Casts of values that dominate an operation are inserted before it, and its results are replaced through casts.
use Rattle.std.proofs.Common.{◌≡◌, refl, ap, sym, ◌∙◌, subst, ℕ, zero, suc, ◌+◌, ◌≤◌, Bool, true, false, List, [], ◌∷◌, ◌++◌, length, map, Option, Some, None, option_map, inl, inr, arith, append_assoc}
use Rattle.std.specs.Prelude.{nat_lt, option_and_then, slice_get}
use Rattle.std.specs.List.{list_all}
use Rattle.std.proofs.lemmas.Bool.{lt-ltb}
use Rattle.ir_event.specs.types.Words.{is_isolated}
use Rattle.ir_event.specs.types.Terms.{TypeTerm, Index, Integer, Function, Memref}
use Rattle.ir_event.specs.types.SameTypes.{same_type}
use Rattle.ir_event.proofs.of_types.SameTerms.{type_refl}
use Rattle.ir_event.specs.trees.declared.value.Value.{Value}
use Rattle.ir_event.specs.trees.declared.value.Value.TheVariants.{Result}
use Rattle.ir_event.specs.trees.declared.place.Place.{Place}
use Rattle.ir_event.specs.trees.Tree.{head, regions}
use Rattle.ir_event.specs.trees.Ids.{find, has_id, op_count}
use Rattle.ir_event.specs.trees.Limits.{most_next, most_ops, op_fits}
use Rattle.ir_event.specs.trees.Sites.{visible}
use Rattle.ir_event.specs.trees.Meaning.{Operation}
use Rattle.ir_event.specs.tree_laws.Members.{In}
use Rattle.ir_event.specs.tree_laws.Reasons.{hold_none}
use Rattle.ir_event.specs.tree_laws.Values.{type_of_value}
use Rattle.ir_event.proofs.of_tree_laws.Around.{stand_present}
use Rattle.ir_event.proofs.of_tree_laws.Listed.{each_all}
use Rattle.ir_event.proofs.of_tree_laws.Members.{found_stands}
use Rattle.ir_event.specs.Modules.{Module}
use Rattle.rewriter_machine.specs.Contents.{Edit, all_edited, edited}
use Rattle.rewriter_machine.specs.Edits.{Erase, Make}
use Rattle.patterns_base.specs.Lists.{Free}
use Rattle.patterns_base.proofs.Give.{there_is}
use Rattle.patterns_base.proofs.Headed.{found_there}
use Rattle.patterns_base.proofs.Made as made_there
use Rattle.patterns_base.proofs.Plans as plans
use Rattle.patterns_base.proofs.Plans.{StandsAt, dominated_by}
use Rattle.patterns_soundness.specs.base.Keeps.{lowered_type}
use Rattle.patterns_soundness.specs.base.Looks.{Header, is_index}
use Rattle.patterns_soundness.specs.base.Made.{bridge}
use Rattle.patterns_soundness.specs.base.Makes.{replacing, results_from}
use Rattle.patterns_soundness.specs.base.Lowering.{bridges, crossed, indices, marked}
use Rattle.patterns_soundness.proofs.Kept as kept
use Rattle.patterns_soundness.proofs.Kept.{Kept, kept_both, kept_none}
use Rattle.patterns_soundness.proofs.Results.{AreGiven, results_free}
use Rattle.patterns_soundness.proofs.of_base.Facts.{kept_type}
use Rattle.std.proofs.lemmas.Option.{same_Some}

-- k more operations are within the limits
pub record Headroom (k : ℕ) (m : Module) : Type 0 where
  pub ops : op_count m.tree + k ≤ most_ops
  pub ids : m.next + k ≤ most_next

module _ (x : ℕ) (insertion : Place) where
  -- the marked ones of some values are cast to a type, with ids from n on: the results dominate x
  abbrev pub AreCrossed : TypeTerm → List Bool → List Value → ℕ → Module → Type 0
  AreCrossed ty (true ∷ ms) (v ∷ vs) n m = ((dominated_by x (Result n 0) m ≡ true) × (type_of_value (Result n 0) m.tree ≡ Some ty)) × AreCrossed ty ms vs (n + 1) m
  AreCrossed ty (false ∷ ms) (v ∷ vs) n m = (dominated_by x v m ≡ true) × AreCrossed ty ms vs n m
  AreCrossed ty _ _ n m = Unit {0}

module _ (x : ℕ) (insertion : Place) (B : ℕ → Type 0) where
  -- an operation is inserted before x
  pub record MadeThere (o : Operation) (m : Module) : Type 0 where
    pub free : (es : List Edit) → Free es (edited (Make insertion o) m) → Free (Make insertion o ∷ es) m
    pub located : StandsAt x insertion (edited (Make insertion o) m)
    pub stays : ((b : ℕ) → B b → has_id b m.tree ≡ true) → Kept is_isolated B m.tree (edited (Make insertion o) m).tree
    pub present : (b : ℕ) → has_id b m.tree ≡ true → has_id b (edited (Make insertion o) m).tree ≡ true
    pub dominance : (v : Value) → dominated_by x v m ≡ true → dominated_by x v (edited (Make insertion o) m) ≡ true
    pub new_dominance : (k : ℕ) → nat_lt k (length (head o).results) ≡ true → dominated_by x (Result m.next k) (edited (Make insertion o) m) ≡ true
    pub types : (y k : ℕ) → has_id y m.tree ≡ true → type_of_value (Result y k) (edited (Make insertion o) m).tree ≡ type_of_value (Result y k) m.tree
    pub new_types : (k : ℕ) → type_of_value (Result m.next k) (edited (Make insertion o) m).tree ≡ slice_get (head o).results k
    pub new_there : has_id m.next (edited (Make insertion o) m).tree ≡ true
    pub headrooms : (k : ℕ) → Headroom (k + 1) m → Headroom k (edited (Make insertion o) m)

  pub made_one : (m : Module) → StandsAt x insertion m → (o : Operation) → hold_none (regions o) ≡ true → op_fits o ≡ true → ((v : Value) → In v (head o).operands → dominated_by x v m ≡ true) → (k : ℕ) → Headroom (k + 1) m → MadeThere o m
  made_one m s o leaf fits seen k headroom =
      let all : list_all (visible is_isolated m.tree x) (head o).operands ≡ true = each_all (visible is_isolated m.tree x) (head o).operands seen in
      let ops = headroom.ops in
      let ids = headroom.ids in
      let few : nat_lt (op_count m.tree) most_ops ≡ true = lt-ltb (op_count m.tree) most_ops (omega (arith, ops)) in
      let more : nat_lt m.next most_next ≡ true = lt-ltb m.next most_next (omega (arith, ids)) in
      let point = made_there.point is_isolated x insertion m s in
      record {
        free = plans.make_free x insertion m s o leaf all fits few more;
        located = plans.make_stands x insertion m s o leaf all fits few more;
        stays = λ all. kept.made_kept is_isolated m s.wellformed insertion point o leaf B all;
        present = λ b h. (kept.made_kept is_isolated m s.wellformed insertion point o leaf (λ z. has_id z m.tree ≡ true) (λ z i. i)).present b h;
        dominance = plans.make_dominated_by x insertion m s o leaf all fits few more;
        new_dominance = plans.make_dominated_by_new x insertion m s o leaf all fits few more;
        types = plans.make_type x insertion m s o leaf all fits few more;
        new_types = plans.make_type_new x insertion m s o leaf all fits few more;
        new_there = present_by m.next _ (edited (Make insertion o) m).tree (kept.made_found is_isolated m s.wellformed insertion point o leaf);
        headrooms = λ j r. (let a = r.ops in let b = r.ids in let c = kept.made_count is_isolated m s.wellformed insertion point o leaf in record { ops = omega (arith, a, c); ids = omega (arith, b) });
      }
    where
      present_by : (n : ℕ) (q t : Operation) → find n t ≡ Some q → has_id n t ≡ true
      present_by n q t e = (let w = found_stands n t q e in ap (λ i. has_id i t) (sym w.2) ∙ stand_present [] t w.0 w.1)

  pub record Bridged (ty : TypeTerm) (ms : List Bool) (vs : List Value) (m : Module) : Type 0 where
    pub free : (es : List Edit) → Free es (all_edited (bridges ty insertion ms vs) m) → Free (bridges ty insertion ms vs ++ es) m
    pub located : StandsAt x insertion (all_edited (bridges ty insertion ms vs) m)
    pub stays : ((b : ℕ) → B b → has_id b m.tree ≡ true) → Kept is_isolated B m.tree (all_edited (bridges ty insertion ms vs) m).tree
    pub present : (b : ℕ) → has_id b m.tree ≡ true → has_id b (all_edited (bridges ty insertion ms vs) m).tree ≡ true
    pub dominance : (v : Value) → dominated_by x v m ≡ true → dominated_by x v (all_edited (bridges ty insertion ms vs) m) ≡ true
    pub types : (y k : ℕ) → has_id y m.tree ≡ true → type_of_value (Result y k) (all_edited (bridges ty insertion ms vs) m).tree ≡ type_of_value (Result y k) m.tree
    pub made : AreCrossed x insertion ty ms vs m.next (all_edited (bridges ty insertion ms vs) m)
    pub next : length ms ≡ length vs → (all_edited (bridges ty insertion ms vs) m).next ≡ m.next + marked ms
    pub headrooms : (k : ℕ) → Headroom (marked ms + k) m → Headroom k (all_edited (bridges ty insertion ms vs) m)

  pub bridged : (ty : TypeTerm) (ms : List Bool) (vs : List Value) (m : Module) → StandsAt x insertion m → ((v : Value) → In v vs → dominated_by x v m ≡ true) → Headroom (marked ms) m → Bridged ty ms vs m
  bridged ty [] vs m s seen headroom = record { free = λ es k. k; located = s; stays = λ all. kept_none is_isolated B m.tree all; present = λ b h. h; dominance = λ v e. e; types = λ y k h. refl; made = tt; next = λ e. omega arith; headrooms = λ k r. (let a = r.ops in let b = r.ids in record { ops = omega (arith, a); ids = omega (arith, b) }) }
  bridged ty (b ∷ ms) [] m s seen headroom = nothing b ms
    where
      nothing : (b : Bool) (ms : List Bool) → Bridged ty (b ∷ ms) [] m
      nothing true ms = record { free = λ es k. k; located = s; stays = λ all. kept_none is_isolated B m.tree all; present = λ b h. h; dominance = λ v e. e; types = λ y k h. refl; made = tt; next = λ e. absurd (omega (arith, e)); headrooms = λ k r. (let a = r.ops in let b = r.ids in record { ops = omega (arith, a); ids = omega (arith, b) }) }
      nothing false ms = record { free = λ es k. k; located = s; stays = λ all. kept_none is_isolated B m.tree all; present = λ b h. h; dominance = λ v e. e; types = λ y k h. refl; made = tt; next = λ e. absurd (omega (arith, e)); headrooms = λ k r. (let a = r.ops in let b = r.ids in record { ops = omega (arith, a); ids = omega (arith, b) }) }
  bridged ty (false ∷ ms) (v ∷ vs) m s seen headroom =
      let later = bridged ty ms vs m s (λ w i. seen w (inr i)) headroom in
      record {
        free = later.free;
        located = later.located;
        stays = later.stays;
        present = later.present;
        dominance = later.dominance;
        types = later.types;
        made = (later.dominance v (seen v (inl refl)), later.made);
        next = λ e. later.next (omega (arith, e));
        headrooms = later.headrooms;
      }
  bridged ty (true ∷ ms) (v ∷ vs) m s seen headroom =
      let one = made_one m s (bridge ty v) refl refl only (marked ms) headroom in
      let m1 = edited (Make insertion (bridge ty v)) m in
      let later = bridged ty ms vs m1 one.located (λ w i. one.dominance w (seen w (inr i))) (one.headrooms (marked ms) headroom) in
      record {
        free = λ es k. one.free (bridges ty insertion ms vs ++ es) (later.free es k);
        located = later.located;
        stays = λ all. kept_both is_isolated B m.tree m1.tree (all_edited (bridges ty insertion ms vs) m1).tree (one.stays all) (later.stays (one.stays all).present);
        present = λ b h. later.present b (one.present b h);
        dominance = λ w e. later.dominance w (one.dominance w e);
        types = λ y k h. later.types y k (one.present y h) ∙ one.types y k h;
        made = ((later.dominance (Result m.next 0) (one.new_dominance 0 refl), later.types m.next 0 one.new_there ∙ one.new_types 0), later.made);
        next = λ e. (let n = later.next (omega (arith, e)) in omega (arith, n));
        headrooms = λ k r. later.headrooms k (one.headrooms (marked ms + k) (let a = r.ops in let b = r.ids in record { ops = omega (arith, a); ids = omega (arith, b) }));
      }
    where
      only : (w : Value) → In w (v ∷ []) → dominated_by x w m ≡ true
      only w (inl i) = seen w (inl i)
      only w (inr i) = absurd i

-- the results of x are replaced, through casts, by those of operation y, whose types are lowered
module _ (x y : ℕ) (insertion : Place) where
  abbrev pub AreLowered : ℕ → List TypeTerm → Module → Type 0
  AreLowered k [] m = Unit {0}
  AreLowered k (ty ∷ tys) m = ((dominated_by x (Result y k) m ≡ true) × (type_of_value (Result y k) m.tree ≡ Some (lowered_type ty))) × AreLowered (k + 1) tys m

  same_index : (ty : TypeTerm) → is_index ty ≡ true → same_type ty Index ≡ true
  same_index ty e = e

  seen_lowered : (k : ℕ) (tys : List TypeTerm) (m : Module) → AreLowered k tys m → (v : Value) → In v (results_from y k tys) → dominated_by x v m ≡ true
  seen_lowered k [] m l v i = absurd i
  seen_lowered k (ty ∷ tys) m l v (inl e) = ap (λ z. dominated_by x z m) e ∙ l.0.0
  seen_lowered k (ty ∷ tys) m l v (inr i) = seen_lowered (k + 1) tys m l.1 v i

  given_lowered : (k n : ℕ) (tys : List TypeTerm) (m m1 : Module) → AreLowered k tys m → ((j : ℕ) → type_of_value (Result y j) m1.tree ≡ type_of_value (Result y j) m.tree) → AreCrossed x insertion Index (indices tys) (results_from y k tys) n m1
      → AreGiven x insertion (crossed n (indices tys) (results_from y k tys)) tys m1
  given_lowered k n [] m m1 l types made = tt
  given_lowered k n (ty ∷ tys) m m1 l types made = go (is_index ty) refl made (λ i c. given_lowered (k + 1) i tys m m1 l.1 types c)
    where
      go : (b : Bool) → is_index ty ≡ b → AreCrossed x insertion Index (b ∷ indices tys) (results_from y k (ty ∷ tys)) n m1
          → ((i : ℕ) → AreCrossed x insertion Index (indices tys) (results_from y (k + 1) tys) i m1 → AreGiven x insertion (crossed i (indices tys) (results_from y (k + 1) tys)) tys m1)
          → AreGiven x insertion (crossed n (b ∷ indices tys) (results_from y k (ty ∷ tys))) (ty ∷ tys) m1
      go true e c later = ((c.0.0, (Index, c.0.1, same_index ty e)), later (n + 1) c.1)
      go false e c later = ((c.0, (lowered_type ty, types k ∙ l.0.1, kept_type ty e)), later n c.1)

  lengths : (k : ℕ) (tys : List TypeTerm) → length (indices tys) ≡ length (results_from y k tys)
  lengths k [] = refl
  lengths k (ty ∷ tys) = (let e = lengths (k + 1) tys in omega (arith, e))

  as_many : (k n : ℕ) (ms : List Bool) (tys : List TypeTerm) → length ms ≡ length tys → results_from x k tys ≡ results_from x k (crossed n ms (results_from y k tys))
  as_many k n [] [] e = refl
  as_many k n [] (ty ∷ tys) e = absurd (omega (arith, e))
  as_many k n (b ∷ ms) [] e = absurd (omega (arith, e))
  as_many k n (true ∷ ms) (ty ∷ tys) e = ap (λ l. Result x k ∷ l) (as_many (k + 1) (n + 1) ms tys (omega (arith, e)))
  as_many k n (false ∷ ms) (ty ∷ tys) e = ap (λ l. Result x k ∷ l) (as_many (k + 1) n ms tys (omega (arith, e)))

  marks_length : (tys : List TypeTerm) → length (indices tys) ≡ length tys
  marks_length [] = refl
  marks_length (ty ∷ tys) = (let e = marks_length tys in omega (arith, e))

  pub given_free : (m : Module) (s : StandsAt x insertion m) (tys : List TypeTerm) → (head s.at.here).results ≡ tys → has_id y m.tree ≡ true → AreLowered 0 tys m → Headroom (marked (indices tys)) m
      → Free (bridges Index insertion (indices tys) (results_from y 0 tys) ++ replacing (results_from x 0 tys) (crossed m.next (indices tys) (results_from y 0 tys)) ++ Erase x ∷ []) m
  given_free m s tys is there l headroom =
      let vs = results_from y 0 tys in
      let b = bridged x insertion (λ z. has_id z m.tree ≡ true) Index (indices tys) vs m s (seen_lowered 0 tys m l) headroom in
      let m1 = all_edited (bridges Index insertion (indices tys) vs) m in
      let new = crossed m.next (indices tys) vs in
      let two : Some (head b.located.at.here) ≡ Some (head s.at.here) = ap (option_map head) (sym (found_there is_isolated x insertion m1 b.located)) ∙ (b.stays (λ z h. h)).heads x (there_is is_isolated x insertion m s) ∙ ap (option_map head) (found_there is_isolated x insertion m s) in
      let same : (head b.located.at.here).results ≡ tys = ap (λ (h : Header). h.results) (same_Some (head b.located.at.here) (head s.at.here) two) ∙ is in
      subst (λ es. Free es m) (sym (append_assoc (bridges Index insertion (indices tys) vs) (replacing (results_from x 0 tys) new) (Erase x ∷ [])))
      (b.free (replacing (results_from x 0 tys) new ++ Erase x ∷ [])
      (subst (λ old. Free (replacing old new ++ Erase x ∷ []) m1) (sym (as_many 0 m.next (indices tys) tys (marks_length tys)))
      (results_free x insertion new tys [] m1 b.located same (given_lowered 0 m.next tys m m1 l (λ j. b.types y j there) b.made) 0 refl (λ j n. absurd (omega (arith, n))))))
