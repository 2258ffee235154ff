-- Each header can be inserted during the insertion of a tree.
use Rattle.std.proofs.Common.{◌≡◌, refl, ap, sym, ◌∙◌, subst, ℕ, zero, suc, ◌+◌, ◌<◌, ◌≤◌, Bool, true, false, true≢false, not, eqb, List, [], ◌∷◌, ◌++◌, length, map, reverse, append_assoc, append-nil, length-append, None, arith}
use Rattle.std.specs.Prelude.{nat_le, nat_lt}
use Rattle.std.specs.List.{list_all, range_with_len}
use Rattle.std.proofs.lemmas.Bool.{leb-true, le-leb, lt-ltb, ne_eqb}
use Rattle.std.proofs.lemmas.List.{length-map, map-append, reverse-append}
use Rattle.ir_event.specs.types.declared.refusal.Refusal.TheVariants.{NoSuchOp, NoSuchValue, NotVisible, NoSuchIndex, Full, IdsExhausted, TooDeepHere}
use Rattle.ir_event.specs.trees.declared.place.Place.{Place}
use Rattle.ir_event.specs.trees.Tree.{OpOf, op, head, regions}
use Rattle.ir_event.specs.trees.Ids.{ids, has_id, op_count, IsNumberedFrom}
use Rattle.ir_event.specs.trees.Limits.{depth, every, op_fits, most_ops, most_around, most_next}
use Rattle.ir_event.specs.trees.Frames.{owner_of}
use Rattle.ir_event.specs.trees.Sites.{visible, operands_visible}
use Rattle.ir_event.specs.trees.Places.{put, without}
use Rattle.ir_event.specs.trees.WellFormed.{ModuleOf, IsWellFormed}
use Rattle.ir_event.proofs.of_trees.Moves.{take_put}
use Rattle.ir_event.specs.tree_laws.Members.{In}
use Rattle.ir_event.specs.tree_laws.Reads.{around}
use Rattle.ir_event.specs.tree_laws.Reasons.{has_place, fits_around, hold_none, leaves, put_reason, take_reason, with_id}
use Rattle.ir_event.specs.tree_laws.Restores.{MayPut}
use Rattle.ir_event.specs.tree_laws.Values.{has_value}
use Rattle.ir_event.specs.tree_laws.Stands.{StepOf, OpWithPathOf, stands, dominated_by}
use Rattle.ir_event.proofs.of_tree_laws.Listed.{all_each, each_all, both_hold}
use Rattle.ir_event.proofs.of_tree_laws.Readings.{stands_every}
use Rattle.ir_event.proofs.of_tree_laws.Members.{stand, within}
use Rattle.ir_event.proofs.of_tree_laws.Around.{stand_present}
use Rattle.ir_event.proofs.of_tree_laws.DominatedBy.{visible_there, all_same, operands_visible_each}
use Rattle.ir_event.proofs.of_tree_laws.Wellformed.{WellformedEach, from_wellformed}
use Rattle.ir_event.proofs.of_tree_laws.PutForm.{landed, put_distinct, put_found, put_around}
use Rattle.ir_event.proofs.of_tree_laws.Reasoned.{no_unless}
use Rattle.ir_event.proofs.of_tree_laws.Values.{seen_by}
use Rattle.ir_event.proofs.of_tree_laws.Changed.{take_changes, may_restore}
use Rattle.ir_event.proofs.of_tree_laws.Edited.{put_op_count}
use Rattle.ir_event.proofs.of_tree_laws.Reverted.{point_parent, passed}
use Rattle.ir_event.proofs.of_tree_laws.WellKept.{may_put_tree, insert_keeps, put_keeps}
use Rattle.rewriter_machine.specs.Edits.{TestsOf, Insert, Make, edited_by, reason_by}
use Rattle.rewriter_machine.specs.Erasing.{all_taken}
use Rattle.rewriter_machine.specs.Inserting.{headers, all_made}
use Rattle.rewriter_machine.proofs.Parts.{in_middle}
use Rattle.rewriter_machine.proofs.Taken.{taken_more, Erasing, each_may, each_wellformed}
use Rattle.rewriter_machine.proofs.Built.{header_id, header_ids, header_of, header_count, bare_holds, all_put, Lands, put_more, lands_rest, Builds, build}
use Rattle.ir_event.proofs.Facts.{own_id}

-- consecutive numbers, split in two
cut_range : (xs ys : List ℕ) (n k : ℕ) → xs ++ ys ≡ range_with_len n k → (xs ≡ range_with_len n (length xs)) × ((y : ℕ) (zs : List ℕ) → ys ≡ y ∷ zs → y ≡ n + length xs)
cut_range [] ys n k e = (refl, λ y zs h. first y zs k (sym h ∙ e))
  where
    first : (y : ℕ) (zs : List ℕ) (k : ℕ) → y ∷ zs ≡ range_with_len n k → y ≡ n + 0
    first y zs zero e = absurd cc
    first y zs (suc k) e = let s : y ≡ n = cc in omega (arith, s)
cut_range (x ∷ xs) ys n zero e = absurd cc
cut_range (x ∷ xs) ys n (suc k) e =
    let first : x ≡ n = cc in
    let later : xs ++ ys ≡ range_with_len (n + 1) k = cc in
    let r = cut_range xs ys (n + 1) k later in
    ((λ i. first i ∷ r.0 i), λ y zs h. let s = r.1 y zs h in omega (arith, s))

module _ {N T A : Type 0} where
  with_own : (x : ℕ) (o : OpOf N T A) → (head o).id ≡ x → with_id x o ≡ o
  with_own x (op h rs) e = λ i. op (record h { id = sym e i }) rs

  some_ops : (o : OpOf N T A) → 1 ≤ op_count o
  some_ops (op h rs) = omega arith

  -- insertions under the next ids
  made_is : (w : TestsOf N T) (us : List (Place × OpOf N T A)) (m : ModuleOf N T A) → map header_id us ≡ range_with_len m.next (length us) → all_made w us m ≡ record { tree = all_put us m.tree; next = m.next + length us }
  made_is w [] m e = (let n : m.next ≡ m.next + 0 = omega arith in λ i. record { tree = m.tree; next = n i })
  made_is w (u ∷ us) m e =
      let first : header_id u ≡ m.next = cc in
      let later : map header_id us ≡ range_with_len (m.next + 1) (length us) = cc in
      let n : m.next + 1 + length us ≡ m.next + length (u ∷ us) = omega arith in
      ap (λ (o : OpOf N T A). all_made w us (record { tree = put u.0 o m.tree; next = m.next + 1 })) (with_own m.next u.1 first)
      ∙ made_is w us (record { tree = put u.0 u.1 m.tree; next = m.next + 1 }) later
      ∙ λ i. record { tree = all_put us (put u.0 u.1 m.tree); next = n i }

  pub made_more : (w : TestsOf N T) (us vs : List (Place × OpOf N T A)) (m : ModuleOf N T A) → all_made w (us ++ vs) m ≡ all_made w vs (all_made w us m)
  made_more w [] vs m = refl
  made_more w (u ∷ us) vs m = made_more w us vs (edited_by w (Make u.0 u.1) m)

  -- the inserted operations are taken out, the last first
  taken_back : (vs : List (Place × OpOf N T A)) (t : OpOf N T A) → Lands vs t → all_taken (reverse (map header_id vs)) (all_put vs t) ≡ t
  taken_back [] t l = refl
  taken_back (u ∷ vs) t l =
      ap (λ ys. all_taken ys (all_put vs (put u.0 u.1 t))) (reverse-append (header_id u ∷ []) (map header_id vs))
      ∙ taken_more (reverse (map header_id vs)) (header_id u ∷ []) (all_put vs (put u.0 u.1 t))
      ∙ ap (without (header_id u)) (taken_back vs (put u.0 u.1 t) l.1)
      ∙ take_put u.0 u.1 t (l.0.apart (header_id u) (own_id u.1))

  -- a header that can be taken out again can be inserted
  module _ (isolated : N → Bool) (u : Place × OpOf N T A) (t : OpOf N T A) (free : ℕ) (may : MayPut u.0 u.1 t) (wellformed : IsWellFormed isolated (record { tree = put u.0 u.1 t; next = free })) (takes : take_reason (header_id u) (put u.0 u.1 t) ≡ None) where
    abbrev now : OpOf N T A
    now = put u.0 u.1 t

    abbrev path : List (StepOf N T A)
    path = (landed u.0 u.1 t may).step_in ∷ (landed u.0 u.1 t may).path

    each : WellformedEach isolated (put u.0 u.1 t)
    each = from_wellformed isolated now wellformed.wellformed

    there : In (stand u.1 path) (stands [] (put u.0 u.1 t))
    there = (landed u.0 u.1 t may).there

    values : list_all (λ v. has_value v t) (head u.1).operands ≡ true
    values =
        let c = take_changes (header_id u) false (record { tree = now; next = free }) (record { tree = t; next = free }) wellformed.distinct takes (sym (take_put u.0 u.1 t (may.apart (header_id u) (own_id u.1)))) refl in
        (may_restore isolated (header_id u) c.0 false (record { tree = t; next = free }) (record { tree = now; next = free }) wellformed c.1 u.1 (put_found u.0 u.1 t may)).values

    may_put_again : header_id u < most_next → put_reason isolated u.0 u.1 (header_id u) t ≡ None
    may_put_again low =
        passed _ NoSuchOp _ (point_parent u.0 t may.point)
        (passed _ NoSuchIndex _ may.point
        (passed _ Full _ (both_hold (nat_lt (op_count t) most_ops) (op_fits u.1)
        (lt-ltb (op_count t) most_ops (let a = each.count in let b = put_op_count u.0 u.1 t may in let c = some_ops u.1 in omega (arith, a, b, c)))
        (each.fits (stand u.1 path) there))
        (passed _ IdsExhausted _ (lt-ltb (header_id u) most_next low)
        (passed _ TooDeepHere _ (ap (fits_around 0) (put_around u.0 u.1 t may)
        ∙ le-leb (length (landed u.0 u.1 t may).path + 1 + 0) most_around (let a = each.shallow (stand u.1 path) there in omega (arith, a)))
        (passed _ NoSuchValue _ values
        (passed _ NotVisible None (ap (λ c. list_all (visible isolated (put u.0 c t) (header_id u)) (head u.1).operands) (with_own (header_id u) u.1 refl)
        ∙ all_same _ _ (head u.1).operands (λ v n. visible_there isolated now wellformed.distinct (stand u.1 path) there v)
        ∙ each.dominated_by_own (stand u.1 path) there) refl))))))

module _ {N T A : Type 0} (w : TestsOf N T) (place : Place) (o : OpOf N T A) (m : ModuleOf N T A) where
  -- the headers inserted so far
  module _ (numbered : IsNumberedFrom m.next o) (us vs : List (Place × OpOf N T A)) (k : us ++ vs ≡ headers place o) where
    numbers : map header_id us ++ map header_id vs ≡ range_with_len m.next (op_count o)
    numbers = sym (map-append header_id us vs) ∙ ap (map header_id) k ∙ header_ids place o ∙ numbered

    made_so_far : all_made w us m ≡ record { tree = all_put us m.tree; next = m.next + length us }
    made_so_far =
        made_is w us m ((cut_range (map header_id us) (map header_id vs) m.next (op_count o) numbers).0 ∙ ap (range_with_len m.next) (length-map us header_id))

  -- all headers
  pub made_whole : (f : IsWellFormed w.isolated m) (numbered : IsNumberedFrom m.next o) → has_place place m.tree ≡ true → all_made w (headers place o) m ≡ edited_by w (Insert place o) m
  made_whole f numbered point =
      let built = build place o m.tree (may_put_tree w.isolated place o m f numbered point) in
      made_so_far numbered (headers place o) [] (append-nil (headers place o)) ∙ λ i. record { tree = built.is i; next = m.next + header_count place o i }

module _ {N T A : Type 0} (w : TestsOf N T) (place : Place) (o : OpOf N T A) (m : ModuleOf N T A) (f : IsWellFormed w.isolated m) (numbered : IsNumberedFrom m.next o) (e : reason_by w (Insert place o) m ≡ None) where
  record Free : Type 0 where
    point : has_place place m.tree ≡ true
    headroom : nat_le (op_count m.tree + op_count o) most_ops ≡ true
    fits : every op_fits o ≡ true
    next : nat_le (m.next + op_count o) most_next ≡ true
    levels : fits_around (depth o) (around place.parent m.tree) ≡ true
    dominated_by_it : operands_visible w.isolated (put place o m.tree) ≡ true

  free : Free
  free =
      let a = no_unless (has_id place.parent m.tree) NoSuchOp _ e in
      let b = no_unless (has_place place m.tree) NoSuchIndex _ a.1 in
      let c = no_unless (nat_le (op_count m.tree + op_count o) most_ops) Full _ b.1 in
      let d = no_unless (every op_fits o) Full _ c.1 in
      let g = no_unless (nat_le (m.next + op_count o) most_next) IdsExhausted _ d.1 in
      let h = no_unless (fits_around (depth o) (around place.parent m.tree)) TooDeepHere _ g.1 in
      let i = no_unless (operands_visible w.isolated (put place o m.tree)) NotVisible None h.1 in
      record { point = b.0; headroom = c.0; fits = d.0; next = g.0; levels = h.0; dominated_by_it = i.0 }

  may : MayPut place o m.tree
  may = may_put_tree w.isolated place o m f numbered free.point

  abbrev point_path : List (StepOf N T A)
  point_path = (landed place o m.tree may).step_in ∷ (landed place o m.tree may).path

  -- the whole tree
  dominated_by_own : every (λ q. list_all (visible w.isolated (put place o m.tree) (head q).id) (head q).operands) o ≡ true
  dominated_by_own =
      let full = put place o m.tree in
      let p = λ (q : OpOf N T A). list_all (visible w.isolated (put place o m.tree) (head q).id) (head q).operands in
      sym (stands_every p point_path o)
      ∙ each_all (λ (s : OpWithPathOf N T A). p s.here) (stands point_path o) (λ s k.
      all_each (λ (s : OpWithPathOf N T A). p s.here) (stands [] full) (stands_every p [] full ∙ sym (operands_visible_each w.isolated full (put_distinct place o m.tree may)) ∙ free.dominated_by_it) s
      (within o point_path s k [] full (landed place o m.tree may).there))

  pub whole_wellformed : IsWellFormed w.isolated (record { tree = put place o m.tree; next = m.next + op_count o })
  whole_wellformed =
      insert_keeps w.isolated place o m f numbered free.point (record { dominated_by_own = dominated_by_own; levels = free.levels; count = leb-true (op_count m.tree + op_count o) most_ops free.headroom; fits = free.fits })
      (leb-true (m.next + op_count o) most_next free.next)

  spared : (y : ℕ) → has_id y o ≡ true → (s : OpWithPathOf N T A) → In s (stands [] m.tree) → leaves y (head s.here) ≡ true
  spared y h s k =
      let g = from_wellformed w.isolated m.tree f.wellformed in
      each_all (λ v. not (eqb (owner_of v).0 y)) (head s.here).operands (λ v n. ap not (ne_eqb (owner_of v).0 y (λ same.
      let q = seen_by w.isolated m.tree f.distinct s k v (all_each (dominated_by w.isolated s.path) (head s.here).operands (g.dominated_by_own s k) v n) in
      true≢false (sym (subst (λ z. has_id z m.tree ≡ true) (sym q.id ∙ same) (stand_present [] m.tree q.owner q.there)) ∙ may.apart y h))))

  goes : Erasing w.isolated place m.tree (m.next + op_count o) o
  goes = record { may = may; wellformed = whole_wellformed; spared = spared }

  built : Builds (headers place o) m.tree (put place o m.tree)
  built = build place o m.tree may

  module _ (us vs : List (Place × OpOf N T A)) (k : us ++ vs ≡ headers place o) where
    pub made_tree : (all_made w us m).tree ≡ all_put us m.tree
    made_tree = ap (λ (n : ModuleOf N T A). n.tree) (made_so_far w place o m numbered us vs k)

  module _ (us vs : List (Place × OpOf N T A)) (u : Place × OpOf N T A) (k : us ++ u ∷ vs ≡ headers place o) where
    next_id : header_id u ≡ m.next + length us
    next_id = (cut_range (map header_id us) (map header_id (u ∷ vs)) m.next (op_count o) (numbers w place o m numbered us (u ∷ vs) k)).1 (header_id u) (map header_id vs) refl ∙ ap (λ n. m.next + n) (length-map us header_id)

    lands : Lands (u ∷ vs) (all_put us m.tree)
    lands = lands_rest us (u ∷ vs) m.tree (subst (λ l. Lands l m.tree) (sym k) built.lands)

    back : all_taken (reverse (map header_id vs)) (put place o m.tree) ≡ put u.0 u.1 (all_put us m.tree)
    back =
        ap (all_taken (reverse (map header_id vs))) (sym (sym (put_more us (u ∷ vs) m.tree) ∙ ap (λ l. all_put l m.tree) k ∙ built.is))
        ∙ taken_back vs (put u.0 u.1 (all_put us m.tree)) lands.1

    order : reverse (map header_id vs) ++ header_id u ∷ reverse (map header_id us) ≡ reverse (ids o)
    order =
        sym (ap reverse (sym (header_ids place o) ∙ ap (map header_id) (sym k) ∙ map-append header_id us (u ∷ vs))
        ∙ reverse-append (map header_id us) (header_id u ∷ map header_id vs)
        ∙ ap (λ l. l ++ reverse (map header_id us)) (reverse-append (header_id u ∷ []) (map header_id vs))
        ∙ append_assoc (reverse (map header_id vs)) (header_id u ∷ []) (reverse (map header_id us)))

    low : header_id u < most_next
    low =
        let a = next_id in
        let b = leb-true (m.next + op_count o) most_next free.next in
        let c = header_count place o in
        let d = ap length k in
        let g = length-append us (u ∷ vs) in
        omega (arith, a, b, c, d, g)

    allowed : put_reason w.isolated u.0 u.1 (header_id u) (all_put us m.tree) ≡ None
    allowed = may_put_again w.isolated u (all_put us m.tree) (m.next + op_count o) lands.0
        (subst (λ (t : OpOf N T A). IsWellFormed w.isolated (record { tree = t; next = m.next + op_count o })) back
        (each_wellformed w.isolated place m.tree (m.next + op_count o) (reverse (map header_id vs)) (header_id u ∷ reverse (map header_id us)) o goes order))
        (sym (ap (take_reason (header_id u)) back) ∙ each_may w.isolated place m.tree (m.next + op_count o) (reverse (map header_id vs)) (header_id u) (reverse (map header_id us)) o goes order) low

    pub header_next : (head u.1).id ≡ (all_made w us m).next
    header_next = next_id ∙ sym (ap (λ (n : ModuleOf N T A). n.next) (made_so_far w place o m numbered us (u ∷ vs) k))

    pub header_allowed : put_reason w.isolated u.0 u.1 (all_made w us m).next (all_made w us m).tree ≡ None
    header_allowed =
        ap (λ (n : ModuleOf N T A). put_reason w.isolated u.0 u.1 n.next n.tree) (made_so_far w place o m numbered us (u ∷ vs) k)
        ∙ ap (λ n. put_reason w.isolated u.0 u.1 n (all_put us m.tree)) (sym next_id)
        ∙ allowed

    pub header_in : In u (headers place o)
    header_in = subst (In u) k (in_middle us vs u)

  pub all_made_whole : all_made w (headers place o) m ≡ edited_by w (Insert place o) m
  all_made_whole = made_whole w place o m f numbered free.point

pub header_bare : {N T A : Type 0} (place : Place) (o : OpOf N T A) (u : Place × OpOf N T A) → In u (headers place o) → hold_none (regions u.1) ≡ true
header_bare place o u h = let s = header_of [] place o u h in ap (λ z. hold_none (regions z)) s.2 ∙ bare_holds s.0.here

module _ {N T A : Type 0} (w : TestsOf N T) (place : Place) (o : OpOf N T A) (m : ModuleOf N T A) (f : IsWellFormed w.isolated m) (numbered : IsNumberedFrom m.next o) (e : reason_by w (Insert place o) m ≡ None) where
  more_wellformed : (ps us vs : List (Place × OpOf N T A)) → ps ++ (us ++ vs) ≡ headers place o → IsWellFormed w.isolated (all_made w ps m) → IsWellFormed w.isolated (all_made w (ps ++ us) m)
  more_wellformed ps [] vs k g = subst (λ l. IsWellFormed w.isolated (all_made w l m)) (sym (append-nil ps)) g
  more_wellformed ps (u ∷ us) vs k g =
      let kept = put_keeps w.isolated u.0 u.1 (all_made w ps m) g (header_bare place o u (header_in w place o m f numbered e ps (us ++ vs) u k)) (header_allowed w place o m f numbered e ps (us ++ vs) u k) in
      subst (λ l. IsWellFormed w.isolated (all_made w l m)) (append_assoc ps (u ∷ []) us)
      (more_wellformed (ps ++ u ∷ []) us vs (append_assoc ps (u ∷ []) (us ++ vs) ∙ k) (subst (IsWellFormed w.isolated) (sym (made_more w ps (u ∷ []) m)) kept))

  pub made_wellformed : (us vs : List (Place × OpOf N T A)) → us ++ vs ≡ headers place o → IsWellFormed w.isolated (all_made w us m)
  made_wellformed us vs k = more_wellformed [] us vs k f
