-- Casts of the arguments of a block of y are inserted into it.
use Rattle.std.proofs.Common.{◌≡◌, refl, ap, sym, ◌∙◌, subst, ℕ, zero, suc, ◌+◌, ◌<◌, ◌≤◌, Bool, true, false, true≢false, cond, ◌||◌, eqb, List, [], ◌∷◌, ◌++◌, length, map, Option, Some, None, option_map, inl, inr, ◌⊎◌, arith, append_assoc, le-leb, lt-ltb, length-append}
use Rattle.std.proofs.lemmas.Cmp.{nat_eq_equiv}
use Rattle.std.proofs.lemmas.List.{length-map}
use Rattle.std.specs.Prelude.{is_some, nat_lt, option_and_then, slice_get}
use Rattle.ir_event.specs.types.Words.{is_isolated}
use Rattle.ir_event.specs.types.Terms.{TypeTerm, Index, AttrTerm}
use Rattle.ir_event.specs.trees.declared.value.Value.{Value}
use Rattle.ir_event.specs.trees.declared.value.Value.TheVariants.{Result, Arg}
use Rattle.ir_event.specs.trees.declared.place.Place.{Place}
use Rattle.ir_event.specs.trees.Tree.{block, no_ops, head, regions}
use Rattle.ir_event.specs.trees.Ids.{find, has_id, op_count}
use Rattle.ir_event.specs.trees.Limits.{most_around, most_next, most_ops}
use Rattle.ir_event.specs.trees.Frames.{owner_of}
use Rattle.ir_event.specs.trees.Places.{ops_each_list, put, put_here}
use Rattle.ir_event.specs.trees.Sites.{visible}
use Rattle.ir_event.specs.trees.Uses.{same_value, uses_of}
use Rattle.ir_event.specs.trees.Meaning.{Operation}
use Rattle.ir_event.specs.trees.WellFormed.{IsWellFormed}
use Rattle.ir_event.specs.tree_laws.Members.{In}
use Rattle.ir_event.specs.tree_laws.Reads.{around}
use Rattle.ir_event.specs.tree_laws.Reasons.{fits_around, has_place, with_id}
use Rattle.ir_event.specs.tree_laws.Values.{arguments_at, arguments_of, has_value, region_at, type_of_value}
use Rattle.ir_event.proofs.of_tree_laws.Around.{absent_find, stand_present}
use Rattle.ir_event.proofs.of_tree_laws.Members.{found_stands, joined_ops}
use Rattle.ir_event.proofs.of_tree_laws.Put.{of_point, put_find}
use Rattle.ir_event.specs.Modules.{Module}
use Rattle.rewriter_machine.specs.Contents.{Edit, all_edited, edit_reason, edited}
use Rattle.rewriter_machine.specs.Edits.{Make}
use Rattle.patterns_base.specs.Lists.{Free}
use Rattle.patterns_soundness.specs.base.Keeps.{lowered_type}
use Rattle.patterns_soundness.specs.base.Looks.{Header, is_index}
use Rattle.patterns_soundness.specs.base.Made.{bridge}
use Rattle.patterns_soundness.specs.base.Makes.{arguments_from}
use Rattle.patterns_soundness.specs.base.Lowering.{bridges, end_of, indices, marked}
use Rattle.patterns_soundness.proofs.CastsAccepted.{Headroom}
use Rattle.patterns_soundness.proofs.ChoicesAccepted.{cast_uses}
use Rattle.patterns_soundness.proofs.Kept as kept
use Rattle.patterns_soundness.proofs.Kept.{Kept, kept_both, kept_none}
use Rattle.patterns_soundness.proofs.Moving.{HasBlock}
use Rattle.patterns_soundness.proofs.NearAccepted.{results_in}
use Rattle.patterns_soundness.proofs.Ordered.{Inside, inner_shows, later_around, put_inside}
use Rattle.patterns_soundness.proofs.Steps.{Across, each_at}
use Rattle.patterns_soundness.proofs.Within as within_y
use Rattle.ir_event.proofs.of_tree_laws.Facts.{new_id}

slice_at : (done : List TypeTerm) (ty : TypeTerm) (tys : List TypeTerm) → slice_get (map lowered_type (done ++ ty ∷ tys)) (length done) ≡ Some (lowered_type ty)
slice_at [] ty tys = refl
slice_at (d ∷ done) ty tys = slice_at done ty tys

short : (done : List TypeTerm) (ty : TypeTerm) (tys : List TypeTerm) → length done < length (map lowered_type (done ++ ty ∷ tys))
short [] ty tys = omega arith
short (d ∷ done) ty tys = (let k = short done ty tys in omega (arith, k))

module _ (x y : ℕ) (insertion : Place) (hx hy : Header) (deep : ℕ) (y_opened : is_isolated hy.name ≡ false) (args zargs : List TypeTerm) (zs : List Operation) (lacks : (o : Operation) → In o zs → has_id y o ≡ false) (headroom_around : deep + 1 ≤ most_around) where
  -- y comes before x and has these block arguments, and x has these operations
  pub record Led (m : Module) : Type 0 where
    pub across : Across x y insertion hx hy deep m
    pub into : HasBlock y 0 m.tree
    pub args_are : into.args ≡ map lowered_type args
    pub side : region_at 0 (regions across.located.at.here) ≡ Some (block zargs (joined_ops zs no_ops))

  -- a cast in its block
  pub record Cast (c : ℕ) (m : Module) : Type 0 where
    pub inside : Inside y 0 c m.tree
    pub results : results_in c m.tree ≡ Some (Index ∷ [])

  abbrev pub NewOne : Bool → ℕ → ℕ → TypeTerm → Module → Type 0
  NewOne true k c ty m = Cast c m
  NewOne false k c ty m = type_of_value (Arg y 0 k) m.tree ≡ Some (lowered_type ty)

  -- the values that replace the arguments from number k on, where the next cast is c
  abbrev pub AreNew : List Bool → ℕ → ℕ → List TypeTerm → Module → Type 0
  AreNew (b ∷ ms) k c (ty ∷ tys) m = NewOne b k c ty m × AreNew ms (k + 1) (cond b (c + 1) c) tys m
  AreNew _ k c _ m = Unit {0}

  argument_type : (m : Module) → Led m → (k : ℕ) → type_of_value (Arg y 0 k) m.tree ≡ slice_get (map lowered_type args) k
  argument_type m s k =
      ap (λ f. option_and_then (λ o. option_and_then (λ args. slice_get args k) (arguments_at 0 o)) f) s.into.found
      ∙ ap (λ g. option_and_then (λ args. slice_get args k) (option_and_then arguments_of g)) s.into.is
      ∙ ap (λ l. slice_get l k) s.args_are

  -- one cast is made
  module _ (m : Module) (s : Led m) (k : ℕ) (few : k < length args) (rest : ℕ) (headroom : Headroom (rest + 1) m) where
    abbrev t : Operation
    t = m.tree

    abbrev w : IsWellFormed is_isolated m
    w = s.across.located.wellformed

    abbrev new : Operation
    new = bridge Index (Arg y 0 k)

    abbrev after : Module
    after = edited (Make (end_of y 0) (bridge Index (Arg y 0 k))) m

    point : has_place (end_of y 0) m.tree ≡ true
    point = of_point (end_of y 0) t (record { parent = s.into.here; found = s.into.found; args = s.into.args; list = s.into.list; is = s.into.is; among = refl })

    y_there : has_id y m.tree ≡ true
    y_there = (let q = found_stands y t s.into.here s.into.found in ap (λ i. has_id i t) (sym q.2) ∙ stand_present [] t q.0 q.1)

    unused : (j : ℕ) → uses_of (Result y j) (with_id m.next (bridge Index (Arg y 0 k))) ≡ []
    unused j = cast_uses m.next Index (Arg y 0 k) (Result y j) refl

    lowered_length : length (map lowered_type args) ≡ length args
    lowered_length = length-map args lowered_type

    got : (l : List TypeTerm) (k : ℕ) → k < length l → is_some (slice_get l k) ≡ true
    got [] k h = absurd (omega (arith, h))
    got (z ∷ l) zero h = refl
    got (z ∷ l) (suc k) h = got l k (omega (arith, h))

    there_now : has_value (Arg y 0 k) m.tree ≡ true
    there_now = ap is_some (argument_type m s k) ∙ got (map lowered_type args) k (let n = lowered_length in omega (arith, few, n))

    new_inside : Inside y 0 m.next (edited (Make (end_of y 0) (bridge Index (Arg y 0 k))) m).tree
    new_inside = within_put
      where
        within_put : Inside y 0 m.next (edited (Make (end_of y 0) (bridge Index (Arg y 0 k))) m).tree
        within_put = subst (λ i. Inside y 0 i (edited (Make (end_of y 0) (bridge Index (Arg y 0 k))) m).tree) (new_id m.next (bridge Index (Arg y 0 k))) (put_inside (end_of y 0) (with_id m.next (bridge Index (Arg y 0 k))) m.tree (kept.may is_isolated m w (end_of y 0) point (bridge Index (Arg y 0 k)) refl) y 0 refl refl)

    fresh_of : (b : ℕ) → has_id b m.tree ≡ true → has_id b (with_id m.next (bridge Index (Arg y 0 k))) ≡ false
    fresh_of b h = λ i. (nat_eq_equiv.symm m.next b ∙ kept.not_new is_isolated m w (end_of y 0) point (bridge Index (Arg y 0 k)) refl b h) i || false

    y_found : find y (edited (Make (end_of y 0) (bridge Index (Arg y 0 k))) m).tree ≡ Some (put (end_of y 0) (with_id m.next (bridge Index (Arg y 0 k))) s.into.here)
    y_found = put_find (end_of y 0) (with_id m.next new) y (absent_find y (with_id m.next new) (fresh_of y y_there)) t ∙ ap (option_map (put (end_of y 0) (with_id m.next new))) s.into.found

    seen : visible is_isolated (edited (Make (end_of y 0) (bridge Index (Arg y 0 k))) m).tree m.next (Arg y 0 k) ≡ true
    seen = inner_shows is_isolated after.tree (kept.made_distinct is_isolated m w (end_of y 0) point new refl) y 0 m.next new_inside (put (end_of y 0) (with_id m.next new) s.into.here) y_found s.into.args
        (put_here (end_of y 0) (with_id m.next new) (head s.into.here).id 0 (ops_each_list (put_here (end_of y 0) (with_id m.next new)) s.into.list)) (each_at (put_here (end_of y 0) (with_id m.next new)) 0 s.into.here s.into.args s.into.list s.into.is) k
        (lt-ltb k (length s.into.args) (let n = lowered_length in let a = ap length s.args_are in omega (arith, few, n, a)))

    levels : fits_around 0 (around y m.tree) ≡ true
    levels = ap (fits_around 0) (later_around t w.distinct y x s.across.before ∙ s.across.depths) ∙ le-leb (deep + 1 + 0) most_around (omega (arith, headroom_around))

    values : (v : Value) → In v (Arg y 0 k ∷ []) → has_value v m.tree ≡ true
    values v (inl e) = ap (λ z. has_value z t) e ∙ there_now
    values v (inr e) = absurd e

    all_seen : (v : Value) → In v (Arg y 0 k ∷ []) → visible is_isolated (edited (Make (end_of y 0) (bridge Index (Arg y 0 k))) m).tree m.next v ≡ true
    all_seen v (inl e) = ap (visible is_isolated after.tree m.next) e ∙ seen
    all_seen v (inr e) = absurd e

    roomy : nat_lt (op_count m.tree) most_ops ≡ true
    roomy = (let a = headroom.ops in lt-ltb (op_count m.tree) most_ops (omega (arith, a)))

    numbered : nat_lt m.next most_next ≡ true
    numbered = (let a = headroom.ids in lt-ltb m.next most_next (omega (arith, a)))

    pub lead_reason : edit_reason (Make (end_of y 0) (bridge Index (Arg y 0 k))) m ≡ None
    lead_reason = kept.made_free is_isolated m w (end_of y 0) point new refl y_there refl roomy numbered levels values all_seen

    lead_wellformed : IsWellFormed is_isolated (edited (Make (end_of y 0) (bridge Index (Arg y 0 k))) m)
    lead_wellformed = kept.made_wellformed is_isolated m w (end_of y 0) point new refl y_there refl roomy numbered levels values all_seen

    pub lead_on : Led (edited (Make (end_of y 0) (bridge Index (Arg y 0 k))) m)
    lead_on = record {
      across = within_y.across_made x y 0 insertion hx hy deep m s.across (end_of y 0) point refl refl new refl unused lead_wellformed;
      into = record {
        here = put (end_of y 0) (with_id m.next new) s.into.here;
        found = y_found;
        args = s.into.args;
        list = put_here (end_of y 0) (with_id m.next new) (head s.into.here).id 0 (ops_each_list (put_here (end_of y 0) (with_id m.next new)) s.into.list);
        is = each_at (put_here (end_of y 0) (with_id m.next new)) 0 s.into.here s.into.args s.into.list s.into.is;
      };
      args_are = s.args_are;
      side = within_y.side_made x y 0 insertion hx hy deep m s.across (end_of y 0) point refl refl new refl unused lead_wellformed (within_y.across_made x y 0 insertion hx hy deep m s.across (end_of y 0) point refl refl new refl unused lead_wellformed).located 0 zargs zs lacks s.side;
    }

    pub lead_cast : Cast m.next (edited (Make (end_of y 0) (bridge Index (Arg y 0 k))) m)
    lead_cast = record { inside = new_inside; results = ap (λ f. option_map (λ (h : Header). h.results) (option_map head f)) (kept.made_found is_isolated m w (end_of y 0) point new refl) }

    pub lead_kept : Kept is_isolated (λ b. has_id b m.tree ≡ true) m.tree (edited (Make (end_of y 0) (bridge Index (Arg y 0 k))) m).tree
    lead_kept = kept.made_kept is_isolated m w (end_of y 0) point new refl (λ b. has_id b m.tree ≡ true) (λ b h. h)

    pub lead_there : has_id m.next (edited (Make (end_of y 0) (bridge Index (Arg y 0 k))) m).tree ≡ true
    lead_there = (let q = found_stands m.next after.tree (with_id m.next new) (kept.made_found is_isolated m w (end_of y 0) point new refl) in ap (λ i. has_id i after.tree) (sym q.2) ∙ stand_present [] after.tree q.0 q.1)

    pub lead_uses : (v : Value) → same_value v (Arg y 0 k) ≡ false → (u : ℕ × ℕ) → In u (uses_of v (edited (Make (end_of y 0) (bridge Index (Arg y 0 k))) m).tree) → In u (uses_of v m.tree)
    lead_uses v apart u i = elim (kept.made_uses is_isolated m w (end_of y 0) point new refl v u i) [
      | inl e ↦ e
      | inr e ↦ absurd (subst (In u) (cast_uses m.next Index (Arg y 0 k) v apart) e)
    ]

    pub lead_headrooms : (j : ℕ) → Headroom (j + 1) m → Headroom j (edited (Make (end_of y 0) (bridge Index (Arg y 0 k))) m)
    lead_headrooms j r = (let a = r.ops in let b = r.ids in let c = kept.made_count is_isolated m w (end_of y 0) point new refl in record { ops = omega (arith, a, c); ids = omega (arith, b) })

  cast_kept : (m n : Module) → Kept is_isolated (λ b. has_id b m.tree ≡ true) m.tree n.tree → (c : ℕ) → has_id c m.tree ≡ true → Cast c m → Cast c n
  cast_kept m n k c h s = record { inside = k.inside y 0 c h s.inside; results = ap (option_map (λ (z : Header). z.results)) (k.heads c h) ∙ s.results }

  pub record LedOn (ms : List Bool) (k : ℕ) (tys : List TypeTerm) (m : Module) : Type 0 where
    pub free : (fs : List Edit) → Free fs (all_edited (bridges Index (end_of y 0) ms (arguments_from y k tys)) m) → Free (bridges Index (end_of y 0) ms (arguments_from y k tys) ++ fs) m
    pub led : Led (all_edited (bridges Index (end_of y 0) ms (arguments_from y k tys)) m)
    pub stays : Kept is_isolated (λ b. has_id b m.tree ≡ true) m.tree (all_edited (bridges Index (end_of y 0) ms (arguments_from y k tys)) m).tree
    pub made : AreNew ms k m.next tys (all_edited (bridges Index (end_of y 0) ms (arguments_from y k tys)) m)
    pub uses : (v : Value) → ((j : ℕ) → same_value v (Arg y 0 j) ≡ false) → (u : ℕ × ℕ) → In u (uses_of v (all_edited (bridges Index (end_of y 0) ms (arguments_from y k tys)) m).tree) → In u (uses_of v m.tree)
    pub next : (all_edited (bridges Index (end_of y 0) ms (arguments_from y k tys)) m).next ≡ m.next + marked ms
    pub headrooms : (j : ℕ) → Headroom (marked ms + j) m → Headroom j (all_edited (bridges Index (end_of y 0) ms (arguments_from y k tys)) m)

  pub lead_all : (ms : List Bool) (done tys : List TypeTerm) → length ms ≡ length tys → args ≡ done ++ tys → (k : ℕ) → k ≡ length done → (m : Module) → Led m → Headroom (marked ms) m → LedOn ms k tys m
  lead_all [] done [] l e k at m s headroom = record { free = λ fs f. f; led = s; stays = kept_none is_isolated (λ b. has_id b m.tree ≡ true) m.tree (λ b h. h); made = tt; uses = λ v a u i. i; next = omega arith; headrooms = λ j r. (let a = r.ops in let b = r.ids in record { ops = omega (arith, a); ids = omega (arith, b) }) }
  lead_all [] done (ty ∷ tys) l e k at m s headroom = absurd (omega (arith, l))
  lead_all (b ∷ ms) done [] l e k at m s headroom = absurd (omega (arith, l))
  lead_all (false ∷ ms) done (ty ∷ tys) l e k at m s headroom =
      let later = lead_all ms (done ++ ty ∷ []) tys (omega (arith, l)) (e ∙ sym (append_assoc done (ty ∷ []) tys)) (k + 1) (let z = length-append done (ty ∷ []) in omega (arith, z, at)) m s headroom in
      record {
        free = later.free;
        led = later.led;
        stays = later.stays;
        made = (argument_type (all_edited (bridges Index (end_of y 0) ms (arguments_from y (k + 1) tys)) m) later.led k ∙ (λ i. slice_get (map lowered_type (e i)) (at i)) ∙ slice_at done ty tys, later.made);
        uses = later.uses;
        next = later.next;
        headrooms = later.headrooms;
      }
  lead_all (true ∷ ms) done (ty ∷ tys) l e k at m s headroom =
      let few : k < length args = (let z = short done ty tys in let q = length-map (done ++ ty ∷ tys) lowered_type in let p = ap length e in omega (arith, z, q, p, at)) in
      let n = edited (Make (end_of y 0) (bridge Index (Arg y 0 k))) m in
      let later = lead_all ms (done ++ ty ∷ []) tys (omega (arith, l)) (e ∙ sym (append_assoc done (ty ∷ []) tys)) (k + 1) (let z = length-append done (ty ∷ []) in omega (arith, z, at)) n (lead_on m s k few (marked ms) headroom) (lead_headrooms m s k few (marked ms) headroom (marked ms) headroom) in
      let one = lead_kept m s k few (marked ms) headroom in
      let end = all_edited (bridges Index (end_of y 0) ms (arguments_from y (k + 1) tys)) n in
      record {
        free = λ fs f. (lead_reason m s k few (marked ms) headroom, later.free fs f);
        led = later.led;
        stays = kept_both is_isolated (λ b. has_id b m.tree ≡ true) m.tree n.tree end.tree one
            (record {
              present = λ b h. later.stays.present b (one.present b h);
              heads = λ b h. later.stays.heads b (one.present b h);
              dominance = λ b h v g. later.stays.dominance b (one.present b h) v (one.present (owner_of v).0 g);
              before = λ a b g h q. later.stays.before a b (one.present a g) (one.present b h) q;
              inside = λ p r b h q. later.stays.inside p r b (one.present b h) q;
              arounds = λ b h. later.stays.arounds b (one.present b h);
            });
        made = (cast_kept n end later.stays m.next (lead_there m s k few (marked ms) headroom) (lead_cast m s k few (marked ms) headroom), later.made);
        uses = λ v a u i. lead_uses m s k few (marked ms) headroom v (a k) u (later.uses v a u i);
        next = (let q = later.next in omega (arith, q));
        headrooms = λ j r. later.headrooms j (lead_headrooms m s k few (marked ms) headroom (marked ms + j) (let a = r.ops in let b = r.ids in record { ops = omega (arith, a); ids = omega (arith, b) }));
      }
