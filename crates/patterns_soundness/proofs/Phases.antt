-- All operations of a block of x move before y, which comes before x, and from there into a block of y.
use Rattle.std.proofs.Common.{◌≡◌, refl, ap, sym, ◌∙◌, subst, ℕ, ◌+◌, ◌≤◌, Bool, true, false, ◌&&◌, eqb, List, [], ◌∷◌, ◌++◌, length, map, Option, Some, None, option_map, inl, inr, arith}
use Rattle.ir_event.specs.types.Words.{is_isolated, is_table}
use Rattle.ir_event.specs.types.Terms.{TypeTerm, AttrTerm}
use Rattle.ir_event.specs.trees.declared.value.Value.{Value}
use Rattle.ir_event.specs.trees.declared.value.Value.TheVariants.{Arg}
use Rattle.ir_event.specs.trees.declared.place.Place.{Place}
use Rattle.ir_event.specs.trees.Tree.{block, no_ops, head, regions}
use Rattle.ir_event.specs.trees.Ids.{find, has_id, op_count}
use Rattle.ir_event.specs.trees.Frames.{owner_of}
use Rattle.ir_event.specs.trees.Places.{is_in_block, put, without}
use Rattle.ir_event.specs.trees.Uses.{uses_of}
use Rattle.ir_event.specs.trees.Meaning.{Operation}
use Rattle.ir_event.specs.tree_laws.Members.{In}
use Rattle.ir_event.specs.tree_laws.Values.{region_at, type_of_value}
use Rattle.ir_event.proofs.of_tree_laws.Members.{joined_ops}
use Rattle.ir_event.specs.Modules.{Module}
use Rattle.rewriter_machine.specs.Contents.{Edit, all_edited, edit_reason, edited}
use Rattle.rewriter_machine.specs.Edits.{Move}
use Rattle.patterns_base.specs.Lists.{Free}
use Rattle.patterns_base.proofs.Plans.{dominated_by}
use Rattle.patterns_soundness.specs.base.Looks.{Header}
use Rattle.patterns_soundness.specs.base.Makes.{moving}
use Rattle.patterns_soundness.specs.base.Lowering.{before_in, next_to, end_of, gathering}
use Rattle.patterns_soundness.proofs.Across.{not_parent}
use Rattle.patterns_soundness.proofs.CastsAccepted.{Headroom}
use Rattle.patterns_soundness.proofs.Inwards as inwards
use Rattle.patterns_soundness.proofs.Inwards.{Came, IsFirst, first_came}
use Rattle.patterns_soundness.proofs.Kept.{Kept, kept_both, kept_none}
use Rattle.patterns_soundness.proofs.Moving.{HasBlock}
use Rattle.patterns_soundness.proofs.Ordered.{Before, Inside}
use Rattle.patterns_soundness.proofs.Outwards as outwards
use Rattle.patterns_soundness.proofs.Shifts.{move_heads, move_types}
use Rattle.patterns_soundness.proofs.Steps.{Across, IsWithinLimits, Lack, UsedBy, nothing}

abbrev pub id_of : Operation → ℕ
id_of o = (head o).id

-- a list reversed onto another
abbrev pub turned_onto : List Operation → List Operation → List Operation
turned_onto [] rs = rs
turned_onto (z ∷ zs) rs = turned_onto zs (z ∷ rs)

-- operations that only later ones use, and that aren't inside one another
abbrev pub Rel : Operation → List Operation → Operation → Type 0
Rel z vs t = UsedBy z vs t × ((o : Operation) → In o vs → Lack z o)

abbrev pub AllRel : List Operation → Operation → Type 0
AllRel [] t = Unit {0}
AllRel (z ∷ vs) t = Rel z vs t × AllRel vs t

-- the same for operations before others, nearest first
abbrev pub AllTurned : List Operation → List Operation → Operation → Type 0
AllTurned [] vs t = Unit {0}
AllTurned (z ∷ rs) vs t = Rel z vs t × AllTurned rs (z ∷ vs) t

abbrev pub NoneMore : Operation → Operation → Type 0
NoneMore t u = (v : Value) (e : ℕ × ℕ) → In e (uses_of v u) → In e (uses_of v t)

rel_kept : (t u : Operation) → NoneMore t u → (z : Operation) (vs : List Operation) → Rel z vs t → Rel z vs u
rel_kept t u none z vs r = (λ k e i. r.0 k e (none _ e i), r.1)

all_kept : (t u : Operation) → NoneMore t u → (vs : List Operation) → AllRel vs t → AllRel vs u
all_kept t u none [] a = tt
all_kept t u none (z ∷ vs) a = (rel_kept t u none z vs a.0, all_kept t u none vs a.1)

turned_kept : (t u : Operation) → NoneMore t u → (rs vs : List Operation) → AllTurned rs vs t → AllTurned rs vs u
turned_kept t u none [] vs a = tt
turned_kept t u none (z ∷ rs) vs a = (rel_kept t u none z vs a.0, turned_kept t u none rs (z ∷ vs) a.1)

-- an operation of the first list isn't inside one of the second, nor the other way round
lack_turned : (t : Operation) (rs vs : List Operation) → AllTurned rs vs t → (o z : Operation) → In o rs → In z vs → Lack o z
lack_turned t [] vs a o z i j = absurd i
lack_turned t (p ∷ rs) vs a o z (inl e) j = subst (λ q. Lack q z) (sym e) (a.0.1 z j)
lack_turned t (p ∷ rs) vs a o z (inr i) j = lack_turned t rs (p ∷ vs) a.1 o z i (inr j)

pub turned_lack : (o z : Operation) → Lack o z → Lack z o
turned_lack o z l = (l.1, l.0)

module _ (x y r : ℕ) (insertion : Place) (hx hy : Header) (deep : ℕ) (x_opened : is_isolated hx.name ≡ false) (x_plain : is_table hx.name ≡ false) (y_opened : is_isolated hy.name ≡ false) (y_plain : is_table hy.name ≡ false) (args : List TypeTerm) (B : ℕ → Type 0) where
  -- the properties that moving some operations keeps
  pub record Stays (zs : List Operation) (m n : Module) : Type 0 where
    pub kept : ((b : ℕ) → B b → has_id b m.tree ≡ true) → ((b : ℕ) → B b → (o : Operation) → In o zs → has_id b o ≡ false) → Kept is_isolated B m.tree n.tree
    pub types : (v : Value) → type_of_value v n.tree ≡ type_of_value v m.tree
    pub heads : (b : ℕ) → option_map head (find b n.tree) ≡ option_map head (find b m.tree)
    pub blocks : (p q : ℕ) → ((o : Operation) → In o zs → has_id p o ≡ false) → HasBlock p q m.tree → HasBlock p q n.tree
    pub used : NoneMore m.tree n.tree
    pub headrooms : (k : ℕ) → Headroom k m → Headroom k n
    pub next : n.next ≡ m.next

  -- some operations are before y, nearest first, and the others are still in the block of x
  pub record Out (rs vs : List Operation) (m : Module) : Type 0 where
    pub across : Across x y insertion hx hy deep m
    pub into : HasBlock y r m.tree
    pub is : region_at r (regions across.located.at.here) ≡ Some (block args (joined_ops vs no_ops))
    pub spared : (k : ℕ) → uses_of (Arg x r k) m.tree ≡ []
    pub moved : (o : Operation) → In o rs → Before (head o).id y m.tree × (find (head o).id m.tree ≡ Some o)
    pub fits : (o : Operation) → In o vs → IsWithinLimits x y insertion hx hy deep o
    pub moved_fits : (o : Operation) → In o rs → IsWithinLimits x y insertion hx hy deep o
    pub rel : AllRel vs m.tree
    pub turned : AllTurned rs vs m.tree

  -- a block of x with other operations
  abbrev pub Side : ℕ → List TypeTerm → List Operation → (m : Module) → Across x y insertion hx hy deep m → Type 0
  Side q targs ws m s = region_at q (regions s.located.at.here) ≡ Some (block targs (joined_ops ws no_ops))

  pub record OutDone (rs vs : List Operation) (m : Module) (s : Across x y insertion hx hy deep m) : Type 0 where
    pub free : (es : List Edit) → Free es (all_edited (moving (next_to insertion y) (map (λ o. id_of o) vs)) m) → Free (moving (next_to insertion y) (map (λ o. id_of o) vs) ++ es) m
    pub out : Out (turned_onto vs rs) [] (all_edited (moving (next_to insertion y) (map (λ o. id_of o) vs)) m)
    pub stays : Stays vs m (all_edited (moving (next_to insertion y) (map (λ o. id_of o) vs)) m)
    pub sides : (q : ℕ) (targs : List TypeTerm) (ws : List Operation) → ((o : Operation) → In o ws → IsWithinLimits x y insertion hx hy deep o) → ((z o : Operation) → In z vs → In o ws → has_id (head z).id o ≡ false) → Side q targs ws m s → Side q targs ws (all_edited (moving (next_to insertion y) (map (λ o. id_of o) vs)) m) out.across

  module _ (rs : List Operation) (z : Operation) (vs : List Operation) (m : Module) (o : Out rs (z ∷ vs) m) where
    abbrev fits_in : IsWithinLimits x y insertion hx hy deep z
    fits_in = o.fits z (inl refl)

    abbrev fits : (p : Operation) → In p vs → IsWithinLimits x y insertion hx hy deep p
    fits = λ p i. o.fits p (inr i)

    abbrev next_one : Module
    next_one = record m { tree = put (next_to insertion y) z (without (head z).id m.tree) }

    none_more : NoneMore m.tree next_one.tree
    none_more = outwards.out_used x y r insertion hx hy deep x_opened x_plain m o.across z vs args o.is o.spared fits_in fits o.rel.0.1 o.rel.0.0

    -- after the first step
    pub step_out : Out (z ∷ rs) vs (record m { tree = put (next_to insertion y) z (without (head z).id m.tree) })
    step_out = record {
      across = outwards.out_across x y r insertion hx hy deep x_opened x_plain m o.across z vs args o.is o.spared fits_in fits o.rel.0.1 o.rel.0.0;
      into = outwards.out_block x y r insertion hx hy deep x_opened x_plain m o.across z vs args o.is o.spared fits_in fits o.rel.0.1 o.rel.0.0 y r fits_in.y_out o.into;
      is = outwards.out_list x y r insertion hx hy deep x_opened x_plain m o.across z vs args o.is o.spared fits_in fits o.rel.0.1 o.rel.0.0;
      spared = λ k. nothing (uses_of (Arg x r k) next_one.tree) (λ u i. subst (In u) (o.spared k) (none_more (Arg x r k) u i));
      moved = moved_now;
      fits = fits;
      moved_fits = fits_now;
      rel = all_kept m.tree next_one.tree none_more vs o.rel.1;
      turned = (rel_kept m.tree next_one.tree none_more z vs o.rel.0, turned_kept m.tree next_one.tree none_more rs (z ∷ vs) o.turned);
    }
      where
        fits_now : (p : Operation) → In p (z ∷ rs) → IsWithinLimits x y insertion hx hy deep p
        fits_now p (inl e) = subst (λ q. IsWithinLimits x y insertion hx hy deep q) (sym e) fits_in
        fits_now p (inr i) = o.moved_fits p i

        moved_now : (p : Operation) → In p (z ∷ rs) → Before (head p).id y next_one.tree × (find (head p).id next_one.tree ≡ Some p)
        moved_now p (inl e) = subst (λ (q : Operation). Before (head q).id y next_one.tree × (find (head q).id next_one.tree ≡ Some q)) (sym e)
            (outwards.now_before x y r insertion hx hy deep x_opened x_plain m o.across z vs args o.is o.spared fits_in fits o.rel.0.1 o.rel.0.0, outwards.now_found x y r insertion hx hy deep x_opened x_plain m o.across z vs args o.is o.spared fits_in fits o.rel.0.1 o.rel.0.0)
        moved_now p (inr i) = outwards.out_moved x y r insertion hx hy deep x_opened x_plain m o.across z vs args o.is o.spared fits_in fits o.rel.0.1 o.rel.0.0 p (turned_lack p z (lack_turned m.tree rs (z ∷ vs) o.turned p z i (inl refl))) (o.moved_fits p i).parent_out (o.moved p i).0 (o.moved p i).1

    step_is : edited (Move (head z).id (next_to insertion y)) m ≡ record m { tree = put (next_to insertion y) z (without (head z).id m.tree) }
    step_is = outwards.out_is x y r insertion hx hy deep x_opened x_plain m o.across z vs args o.is o.spared fits_in fits o.rel.0.1 o.rel.0.0

    reason : edit_reason (Move (head z).id (next_to insertion y)) m ≡ None
    reason = outwards.out_reason x y r insertion hx hy deep x_opened x_plain m o.across z vs args o.is o.spared fits_in fits o.rel.0.1 o.rel.0.0

    -- the properties that the first step keeps
    step_stays : Stays (z ∷ []) m (record m { tree = put (next_to insertion y) z (without (head z).id m.tree) })
    step_stays = record {
      kept = λ all out. outwards.out_kept x y r insertion hx hy deep x_opened x_plain m o.across z vs args o.is o.spared fits_in fits o.rel.0.1 o.rel.0.0 B all (λ b h. out b h z (inl refl));
      types = λ v. ap (λ (n : Module). type_of_value v n.tree) (sym step_is) ∙ move_types (head z).id (next_to insertion y) m o.across.located.wellformed.distinct reason v;
      heads = λ b. ap (λ (n : Module). option_map head (find b n.tree)) (sym step_is) ∙ move_heads (head z).id (next_to insertion y) m o.across.located.wellformed.distinct reason b;
      blocks = λ p q out b. outwards.out_block x y r insertion hx hy deep x_opened x_plain m o.across z vs args o.is o.spared fits_in fits o.rel.0.1 o.rel.0.0 p q (out z (inl refl)) b;
      used = none_more;
      headrooms = λ k w. (let c = outwards.out_count x y r insertion hx hy deep x_opened x_plain m o.across z vs args o.is o.spared fits_in fits o.rel.0.1 o.rel.0.0 in let a = w.ops in record { ops = omega (arith, a, c); ids = w.ids });
      next = refl;
    }

    step_side : (q : ℕ) (targs : List TypeTerm) (ws : List Operation) → ((p : Operation) → In p ws → IsWithinLimits x y insertion hx hy deep p) → ((p : Operation) → In p ws → has_id (head z).id p ≡ false) → Side q targs ws m o.across → Side q targs ws next_one step_out.across
    unfolding step_out
    step_side q targs ws wf lacks side = outwards.out_side x y r insertion hx hy deep x_opened x_plain m o.across z vs args o.is o.spared fits_in fits o.rel.0.1 o.rel.0.0 q targs ws (λ p i. (lacks p i, (wf p i).parent_out)) side

  pub stays_both : (ys zs : List Operation) (m n k : Module) → Stays ys m n → Stays zs n k → (all : List Operation) → ((o : Operation) → In o ys → In o all) → ((o : Operation) → In o zs → In o all) → Stays all m k
  stays_both ys zs m n k a b all f g = record {
    kept = λ h out. (let c = a.kept h (λ i j o w. out i j o (f o w)) in kept_both is_isolated B m.tree n.tree k.tree c (b.kept c.present (λ i j o w. out i j o (g o w))));
    types = λ v. b.types v ∙ a.types v;
    heads = λ i. b.heads i ∙ a.heads i;
    blocks = λ p q out h. b.blocks p q (λ o w. out o (g o w)) (a.blocks p q (λ o w. out o (f o w)) h);
    used = λ v e i. a.used v e (b.used v e i);
    headrooms = λ j w. b.headrooms j (a.headrooms j w);
    next = b.next ∙ a.next;
  }

  pub stays_none : (m : Module) → Stays [] m m
  stays_none m = record {
    kept = λ h out. kept_none is_isolated B m.tree h;
    types = λ v. refl;
    heads = λ i. refl;
    blocks = λ p q out h. h;
    used = λ v e i. i;
    headrooms = λ j w. w;
    next = refl;
  }

  -- the first step, as the edit makes it
  abbrev Stepped : List Operation → Operation → List Operation → (m : Module) → Across x y insertion hx hy deep m → Module → Type 0
  Stepped rs z vs m s n =
      (o : Out (z ∷ rs) vs n) × Stays (z ∷ []) m n
      × ((q : ℕ) (targs : List TypeTerm) (ws : List Operation) → ((p : Operation) → In p ws → IsWithinLimits x y insertion hx hy deep p) → ((p : Operation) → In p ws → has_id (head z).id p ≡ false) → Side q targs ws m s → Side q targs ws n o.across)

  stepped : (rs : List Operation) (z : Operation) (vs : List Operation) (m : Module) (o : Out rs (z ∷ vs) m) → Stepped rs z vs m o.across (edited (Move (head z).id (next_to insertion y)) m)
  stepped rs z vs m o = subst (Stepped rs z vs m o.across) (sym (step_is rs z vs m o)) (step_out rs z vs m o, step_stays rs z vs m o, step_side rs z vs m o)

  -- all of them move before y
  pub phase_out : (vs rs : List Operation) (m : Module) (o : Out rs vs m) → OutDone rs vs m o.across
  phase_out [] rs m o = record { free = λ es k. k; out = o; stays = stays_none m; sides = λ q targs ws wf lacks side. side }
  phase_out (z ∷ vs) rs m o =
      let n = edited (Move (head z).id (next_to insertion y)) m in
      let p = stepped rs z vs m o in
      let later = phase_out vs (z ∷ rs) n p.0 in
      record {
        free = λ es k. (reason rs z vs m o, later.free es k);
        out = later.out;
        stays = stays_both (z ∷ []) vs m n (all_edited (moving (next_to insertion y) (map (λ o. id_of o) vs)) n) p.1 later.stays (z ∷ vs) only (λ q i. inr i);
        sides = λ q targs ws wf lacks side. later.sides q targs ws wf (λ a b i j. lacks a b (inr i) j) (p.2 q targs ws wf (λ b j. lacks z b (inl refl) j) side);
      }
    where
      only : (q : Operation) → In q (z ∷ []) → In q (z ∷ vs)
      only q (inl e) = inl e
      only q (inr e) = absurd e

  module _ (News : Value → Type 0) where
    -- some operations are before y, nearest first, and the others moved into its block
    pub record Coming (rs vs : List Operation) (m : Module) : Type 0 where
      pub across : Across x y insertion hx hy deep m
      pub into : HasBlock y r m.tree
      pub moved : (o : Operation) → In o rs → Before (head o).id y m.tree × (find (head o).id m.tree ≡ Some o)
      pub came : (o : Operation) → In o vs → Came y r m.tree o
      pub first : IsFirst vs m.tree
      pub fits : (o : Operation) → In o vs → IsWithinLimits x y insertion hx hy deep o
      pub moved_fits : (o : Operation) → In o rs → IsWithinLimits x y insertion hx hy deep o
      pub turned : AllTurned rs vs m.tree
      pub news : (v : Value) → News v → (o : Operation) → In o vs → dominated_by (head o).id v m ≡ true

    -- one operation moves in
    module _ (z : Operation) (rs vs : List Operation) (m : Module) (c : Coming (z ∷ rs) vs m) where
      abbrev place : Place
      place = record { parent = y; region = r; before = first_came vs }

      abbrev next_in : Module
      next_in = record m { tree = put (record { parent = y; region = r; before = first_came vs }) z (without (head z).id m.tree) }

      abbrev zf : IsWithinLimits x y insertion hx hy deep z
      zf = c.moved_fits z (inl refl)

      in_more : NoneMore m.tree next_in.tree
      in_more = inwards.in_used x y r insertion hx hy deep y_opened y_plain m c.across c.into z (c.moved z (inl refl)).0 (c.moved z (inl refl)).1 vs c.came c.first zf c.fits c.turned.0.1 c.turned.0.0

      pub in_step : ((v : Value) → News v → (o : Operation) → In o (z ∷ vs) → dominated_by (head o).id v next_in ≡ true) → Coming rs (z ∷ vs) (record m { tree = put (record { parent = y; region = r; before = first_came vs }) z (without (head z).id m.tree) })
      in_step news = record {
        across = inwards.in_across x y r insertion hx hy deep y_opened y_plain m c.across c.into z (c.moved z (inl refl)).0 (c.moved z (inl refl)).1 vs c.came c.first zf c.fits c.turned.0.1 c.turned.0.0;
        into = inwards.in_block x y r insertion hx hy deep y_opened y_plain m c.across c.into z (c.moved z (inl refl)).0 (c.moved z (inl refl)).1 vs c.came c.first zf c.fits c.turned.0.1 c.turned.0.0 y r zf.y_out c.into;
        moved = λ p i. inwards.in_moved x y r insertion hx hy deep y_opened y_plain m c.across c.into z (c.moved z (inl refl)).0 (c.moved z (inl refl)).1 vs c.came c.first zf c.fits c.turned.0.1 c.turned.0.0 p (turned_lack p z (lack_turned m.tree rs (z ∷ vs) c.turned.1 p z i (inl refl))) (c.moved_fits p (inr i)).y_out
            (c.moved p (inr i)).0 (c.moved p (inr i)).1;
        came = came_now;
        first = inwards.now_first x y r insertion hx hy deep y_opened y_plain m c.across c.into z (c.moved z (inl refl)).0 (c.moved z (inl refl)).1 vs c.came c.first zf c.fits c.turned.0.1 c.turned.0.0;
        fits = fits_now;
        moved_fits = λ p i. c.moved_fits p (inr i);
        turned = turned_kept m.tree next_in.tree in_more rs (z ∷ vs) c.turned.1;
        news = news;
      }
        where
          fits_now : (p : Operation) → In p (z ∷ vs) → IsWithinLimits x y insertion hx hy deep p
          fits_now p (inl e) = subst (λ q. IsWithinLimits x y insertion hx hy deep q) (sym e) zf
          fits_now p (inr i) = c.fits p i

          came_now : (p : Operation) → In p (z ∷ vs) → Came y r next_in.tree p
          came_now p (inl e) = subst (λ q. Came y r next_in.tree q) (sym e)
              (inwards.now_inside x y r insertion hx hy deep y_opened y_plain m c.across c.into z (c.moved z (inl refl)).0 (c.moved z (inl refl)).1 vs c.came c.first zf c.fits c.turned.0.1 c.turned.0.0, inwards.now_found x y r insertion hx hy deep y_opened y_plain m c.across c.into z (c.moved z (inl refl)).0 (c.moved z (inl refl)).1 vs c.came c.first zf c.fits c.turned.0.1 c.turned.0.0)
          came_now p (inr i) = inwards.came_still x y r insertion hx hy deep y_opened y_plain m c.across c.into z (c.moved z (inl refl)).0 (c.moved z (inl refl)).1 vs c.came c.first zf c.fits c.turned.0.1 c.turned.0.0 p i

      pub in_step_is : edited (Move (head z).id (record { parent = y; region = r; before = first_came vs })) m ≡ record m { tree = put (record { parent = y; region = r; before = first_came vs }) z (without (head z).id m.tree) }
      in_step_is = inwards.in_is x y r insertion hx hy deep y_opened y_plain m c.across c.into z (c.moved z (inl refl)).0 (c.moved z (inl refl)).1 vs c.came c.first zf c.fits c.turned.0.1 c.turned.0.0

      pub in_step_reason : edit_reason (Move (head z).id (record { parent = y; region = r; before = first_came vs })) m ≡ None
      in_step_reason = inwards.in_reason x y r insertion hx hy deep y_opened y_plain m c.across c.into z (c.moved z (inl refl)).0 (c.moved z (inl refl)).1 vs c.came c.first zf c.fits c.turned.0.1 c.turned.0.0

      pub in_step_stays : Stays (z ∷ []) m (record m { tree = put (record { parent = y; region = r; before = first_came vs }) z (without (head z).id m.tree) })
      in_step_stays = record {
        kept = λ all out. inwards.in_kept x y r insertion hx hy deep y_opened y_plain m c.across c.into z (c.moved z (inl refl)).0 (c.moved z (inl refl)).1 vs c.came c.first zf c.fits c.turned.0.1 c.turned.0.0 B all (λ b h. out b h z (inl refl));
        types = λ v. ap (λ (n : Module). type_of_value v n.tree) (sym in_step_is) ∙ move_types (head z).id place m c.across.located.wellformed.distinct in_step_reason v;
        heads = λ b. ap (λ (n : Module). option_map head (find b n.tree)) (sym in_step_is) ∙ move_heads (head z).id place m c.across.located.wellformed.distinct in_step_reason b;
        blocks = λ p q out b. inwards.in_block x y r insertion hx hy deep y_opened y_plain m c.across c.into z (c.moved z (inl refl)).0 (c.moved z (inl refl)).1 vs c.came c.first zf c.fits c.turned.0.1 c.turned.0.0 p q (out z (inl refl)) b;
        used = in_more;
        headrooms = λ k w. (let n = inwards.in_count x y r insertion hx hy deep y_opened y_plain m c.across c.into z (c.moved z (inl refl)).0 (c.moved z (inl refl)).1 vs c.came c.first zf c.fits c.turned.0.1 c.turned.0.0 in let a = w.ops in record { ops = omega (arith, a, n); ids = w.ids });
        next = refl;
      }

      pub in_step_side : (news : (v : Value) → News v → (o : Operation) → In o (z ∷ vs) → dominated_by (head o).id v next_in ≡ true) (q : ℕ) (targs : List TypeTerm) (ws : List Operation) → ((p : Operation) → In p ws → IsWithinLimits x y insertion hx hy deep p) → ((p : Operation) → In p ws → has_id (head z).id p ≡ false)
          → Side q targs ws m c.across → Side q targs ws next_in (in_step news).across
      unfolding in_step
      in_step_side news q targs ws wf lacks side = inwards.in_side x y r insertion hx hy deep y_opened y_plain m c.across c.into z (c.moved z (inl refl)).0 (c.moved z (inl refl)).1 vs c.came c.first zf c.fits c.turned.0.1 c.turned.0.0 q targs ws (λ p i. (lacks p i, (wf p i).y_out)) side

      -- as the edit makes it
      abbrev pub Entered : Module → Type 0
      Entered n =
          (k : Coming rs (z ∷ vs) n) × Stays (z ∷ []) m n
          × ((q : ℕ) (targs : List TypeTerm) (ws : List Operation) → ((p : Operation) → In p ws → IsWithinLimits x y insertion hx hy deep p) → ((p : Operation) → In p ws → has_id (head z).id p ≡ false) → Side q targs ws m c.across → Side q targs ws n k.across)

      pub entered : ((v : Value) → News v → (o : Operation) → In o (z ∷ vs) → dominated_by (head o).id v next_in ≡ true) → Entered (edited (Move (head z).id (record { parent = y; region = r; before = first_came vs })) m)
      entered news = subst Entered (sym in_step_is) (in_step news, in_step_stays, in_step_side news)

    pub record InDone (es : List Edit) (rs vs : List Operation) (m : Module) (s : Across x y insertion hx hy deep m) : Type 0 where
      pub free : (fs : List Edit) → Free fs (all_edited es m) → Free (es ++ fs) m
      pub coming : Coming [] (turned_onto rs vs) (all_edited es m)
      pub stays : Stays rs m (all_edited es m)
      pub sides : (q : ℕ) (targs : List TypeTerm) (ws : List Operation) → ((o : Operation) → In o ws → IsWithinLimits x y insertion hx hy deep o) → ((z o : Operation) → In z rs → In o ws → has_id (head z).id o ≡ false) → Side q targs ws m s → Side q targs ws (all_edited es m) coming.across

    -- all operations before y move in, each before the one that moved last
    pub phase_in : (rs : List Operation) (p : Operation) (ws : List Operation) (m : Module) (c : Coming rs (p ∷ ws) m) → ((v : Value) → News v → (o : Operation) → In o rs → eqb (owner_of v).0 (head o).id ≡ false) → InDone (gathering y r (head p).id (map (λ o. id_of o) rs)) rs (p ∷ ws) m c.across
    phase_in [] p ws m c apart = record { free = λ es k. k; coming = c; stays = stays_none m; sides = λ q targs ws wf lacks side. side }
    phase_in (z ∷ rs) p ws m c apart =
        let n = edited (Move (head z).id (before_in y r (head p).id)) m in
        let e = entered z rs (p ∷ ws) m c (λ v h. inwards.in_dominated_by x y r insertion hx hy deep y_opened y_plain m c.across c.into z (c.moved z (inl refl)).0 (c.moved z (inl refl)).1 (p ∷ ws) c.came c.first (c.moved_fits z (inl refl)) c.fits c.turned.0.1 c.turned.0.0
        v (apart v h z (inl refl)) (λ o i. c.news v h o i) p ws refl) in
        let later = phase_in rs z (p ∷ ws) n e.0 (λ v h o i. apart v h o (inr i)) in
        record {
          free = λ es k. (in_step_reason z rs (p ∷ ws) m c, later.free es k);
          coming = later.coming;
          stays = stays_both (z ∷ []) rs m n (all_edited (gathering y r (head z).id (map (λ o. id_of o) rs)) n) e.1 later.stays (z ∷ rs) only (λ q i. inr i);
          sides = λ q targs ws wf lacks side. later.sides q targs ws wf (λ a b i j. lacks a b (inr i) j) (e.2 q targs ws wf (λ b j. lacks z b (inl refl) j) side);
        }
      where
        only : (q : Operation) → In q (z ∷ []) → In q (z ∷ rs)
        only q (inl e) = inl e
        only q (inr e) = absurd e
