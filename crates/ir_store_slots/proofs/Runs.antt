-- The state after nodes and slots were added.
use Rattle.std.proofs.Common.{◌≡◌, ◌⊎◌, ℕ, zero, suc, ◌+◌, ◌<◌, ◌≤◌, List, [], ◌∷◌, ◌++◌, refl, sym, ap, ◌∙◌, subst, length, Bool, true, false, ⊎_elim, inl, inr, arith, get_or, ◌-◌}
use Rattle.std.specs.Prelude.{if◌then◌else◌}
use Rattle.std.proofs.lemmas.Bool.{cases_lt, cases_eq}
use Rattle.std.proofs.lemmas.List.{get_or_past, get_or_append_left, get_or_push, length-append, append_assoc, append-nil, map-append}
use Rattle.ir_store_lists.specs.Lists.{Lists, list_at, home_at, free}
use Rattle.ir_store_slots.specs.declared.row.UseNode.{UseNode}
use Rattle.ir_store_slots.specs.Rows.{Row, row_at, no_row}
use Rattle.ir_store_slots.specs.Index.{cell_at, cells_of}
use Rattle.ir_store_slots.specs.Grows.{Parts, IsEven, Wider, NewHead, NewUse, Runs, run_homes, run_cells, AddsSlot, KeepsSlots}
use Rattle.ir_store_slots.proofs.Wide.{wide_same}

-- one more item at the end
module _ {X : Type 0} (xs : List X) (y d : X) where
  pub push_old : (i : ℕ) → i < length xs → get_or (xs ++ y ∷ []) i d ≡ get_or xs i d
  push_old i l = get_or_append_left xs (y ∷ []) d i l

  pub push_new : (i : ℕ) → i ≡ length xs → get_or (xs ++ y ∷ []) i d ≡ y
  push_new i e = get_or_push xs y d i (sym e)

  pub push_past : (i : ℕ) → length xs < i → get_or (xs ++ y ∷ []) i d ≡ d
  push_past i l = get_or_past (xs ++ y ∷ []) i d (omega (arith, l, length-append xs (y ∷ [])))

  pub push_long : length (xs ++ y ∷ []) ≡ length xs + 1
  push_long = length-append xs (y ∷ [])

run_long : (heads : Bool) (b n : ℕ) → length (run_homes heads b n) ≡ n
run_long heads b zero = refl
run_long heads b (suc n) = push_long (run_homes heads b n) (if heads then b + n else free) 0 ∙ omega (arith, run_long heads b n)

cells_long : (row n : ℕ) → length (run_cells row n) ≡ n
cells_long row zero = refl
cells_long row (suc n) = push_long (run_cells row n) (row, n) (0, 0) ∙ omega (arith, cells_long row n)

pub run_none : (heads : Bool) (row : ℕ) (old : List ℕ) (cells : List (ℕ × ℕ)) → Runs heads row 0 old old cells cells
run_none heads row old cells = record { nodes = sym (append-nil old); meant = sym (append-nil cells) }

module _ (heads : Bool) (row n : ℕ) (old new : List ℕ) (cells more : List (ℕ × ℕ)) (r : Runs heads row n old new cells more) where
  pub run_length : length new ≡ length old + n
  run_length = ap length r.nodes ∙ length-append old (run_homes heads (length old) n) ∙ ap (λ z. length old + z) (run_long heads (length old) n)

  pub run_cells_length : length more ≡ length cells + n
  run_cells_length = ap length r.meant ∙ length-append cells (run_cells row n) ∙ ap (λ z. length cells + z) (cells_long row n)

  pub run_step : (new' : List ℕ) (more' : List (ℕ × ℕ)) → new' ≡ new ++ (if heads then length new else free) ∷ [] → more' ≡ more ++ (row, n) ∷ [] → Runs heads row (n + 1) old new' cells more'
  run_step new' more' en em = let one : suc n ≡ n + 1 = omega arith in subst (λ z. Runs heads row z old new' cells more') one (record {
    nodes = en ∙ (λ i. r.nodes i ++ (if heads then run_length i else free) ∷ []) ∙ append_assoc old (run_homes heads (length old) n) ((if heads then length old + n else free) ∷ []);
    meant = em ∙ ap (λ z. z ++ (row, n) ∷ []) r.meant ∙ append_assoc cells (run_cells row n) ((row, n) ∷ []);
  })

-- the nodes of a run
module _ (heads : Bool) (row : ℕ) (old : List ℕ) (cells : List (ℕ × ℕ)) where
  homes_at : ℕ → List ℕ
  homes_at n = old ++ run_homes heads (length old) n

  more_homes : (n : ℕ) → old ++ run_homes heads (length old) (suc n) ≡ (old ++ run_homes heads (length old) n) ++ (if heads then length old + n else free) ∷ []
  more_homes n = sym (append_assoc old (run_homes heads (length old) n) ((if heads then length old + n else free) ∷ []))

  more_cells : (n : ℕ) → cells ++ run_cells row (suc n) ≡ (cells ++ run_cells row n) ++ (row, n) ∷ []
  more_cells n = sym (append_assoc cells (run_cells row n) ((row, n) ∷ []))

  long : (n : ℕ) → length (old ++ run_homes heads (length old) n) ≡ length old + n
  long n = length-append old (run_homes heads (length old) n) ∙ ap (λ z. length old + z) (run_long heads (length old) n)

  long_cells : (n : ℕ) → length (cells ++ run_cells row n) ≡ length cells + n
  long_cells n = length-append cells (run_cells row n) ∙ ap (λ z. length cells + z) (cells_long row n)

  pub home_in_run : (n i : ℕ) → i < n → home_at (old ++ run_homes heads (length old) n) (length old + i) ≡ (if heads then length old + i else free)
  home_in_run zero i l = absurd (omega (arith, l))
  home_in_run (suc n) i l = ap (λ z. home_at z (length old + i)) (more_homes n) ∙ ⊎_elim
      (λ e. push_new (old ++ run_homes heads (length old) n) (if heads then length old + n else free) free (length old + i) (omega (arith, e, long n)) ∙ ap (λ z. if heads then length old + z else free) (sym e))
      (λ ne. push_old (old ++ run_homes heads (length old) n) (if heads then length old + n else free) free (length old + i) (omega (arith, l, ne, long n)) ∙ home_in_run n i (omega (arith, l, ne)))
      (cases_eq i n)

  pub cell_in_run : (n i : ℕ) → i < n → cell_at (cells ++ run_cells row n) (length cells + i) ≡ (row, i)
  cell_in_run zero i l = absurd (omega (arith, l))
  cell_in_run (suc n) i l = ap (λ z. cell_at z (length cells + i)) (more_cells n) ∙ ⊎_elim
      (λ e. push_new (cells ++ run_cells row n) (row, n) (0, 0) (length cells + i) (omega (arith, e, long_cells n)) ∙ ap (λ z. (row, z)) (sym e))
      (λ ne. push_old (cells ++ run_cells row n) (row, n) (0, 0) (length cells + i) (omega (arith, l, ne, long_cells n)) ∙ cell_in_run n i (omega (arith, l, ne)))
      (cases_eq i n)

  pub new_home : (n u : ℕ) → length old ≤ u → (home_at (old ++ run_homes heads (length old) n) u ≡ free) ⊎ (home_at (old ++ run_homes heads (length old) n) u ≡ u)
  new_home n u l = ⊎_elim
      (λ i.
      let e : u ≡ length old + (u - length old) = omega (arith, l) in
      let f = home_in_run n (u - length old) (omega (arith, l, i)) in
      let g : home_at (old ++ run_homes heads (length old) n) u ≡ (if heads then u else free) = ap (home_at (old ++ run_homes heads (length old) n)) e ∙ f ∙ ap (λ z. if heads then z else free) (sym e) in
      test heads u g)
      (λ i. inl (get_or_past (old ++ run_homes heads (length old) n) u free (omega (arith, i, long n))))
      (cases_lt u (length old + n))
    where
      test : (b : Bool) (u : ℕ) → home_at (old ++ run_homes heads (length old) n) u ≡ (if b then u else free) → (home_at (old ++ run_homes heads (length old) n) u ≡ free) ⊎ (home_at (old ++ run_homes heads (length old) n) u ≡ u)
      test true u e = inr e
      test false u e = inl e

-- the parts with a run of nodes added
module _ (p : Parts) (even : IsEven p) (heads : Bool) (row n : ℕ) (homes' : List ℕ) (cells' : List (ℕ × ℕ)) (r : Runs heads row n p.homes homes' p.cells cells') where
  abbrev pub ran : Parts
  ran = record p { homes = homes'; cells = cells' }

  pub run_wide : Wider p ran
  run_wide = record {
    even = record { long = even.long; lists = even.lists; counted = run_cells_length heads row n p.homes homes' p.cells cells' r ∙ ap (λ z. z + n) even.counted ∙ sym (run_length heads row n p.homes homes' p.cells cells' r) };
    more = omega arith;
    row = λ k l. refl;
    spare = (wide_same p even).spare;
    lists = λ k. refl;
    home = λ k l. refl;
    uses_more = omega (arith, run_length heads row n p.homes homes' p.cells cells' r);
    use_home = λ u l. ap (λ z. home_at z u) r.nodes ∙ get_or_append_left p.homes (run_homes heads (length p.homes) n) free u l;
    use_new = λ u l. subst (λ z. (home_at z u ≡ free) ⊎ (home_at z u ≡ u)) (sym r.nodes) (new_home heads row p.homes p.cells n u l);
    cell = λ u l. ap (λ z. cell_at z u) r.meant ∙ get_or_append_left p.cells (run_cells row n) (0, 0) u (omega (arith, l, even.counted));
  }

  in_run : (i : ℕ) → i < n → length p.homes + i < length homes'
  in_run i l = omega (arith, l, run_length heads row n p.homes homes' p.cells cells' r)

  cell_is : (i : ℕ) → i < n → cell_at cells' (length p.homes + i) ≡ (row, i)
  cell_is i l = ap (λ z. cell_at z (length p.homes + i)) r.meant ∙ ap (λ z. cell_at (p.cells ++ run_cells row n) (z + i)) (sym even.counted) ∙ cell_in_run heads row p.homes p.cells n i l

  home_is : (i : ℕ) → i < n → home_at homes' (length p.homes + i) ≡ (if heads then length p.homes + i else free)
  home_is i l = ap (λ z. home_at z (length p.homes + i)) r.nodes ∙ home_in_run heads row p.homes p.cells n i l

  pub run_heads : heads ≡ true → (bound : ℕ) → bound ≤ length p.homes → (b : ℕ) → b ≡ length p.homes → (i : ℕ) → i < n → NewHead ran bound row i (b + i)
  run_heads eh bound lb b eb i l = subst (λ z. NewHead ran bound row i (z + i)) (sym eb) (record {
    head = record { inside = in_run i l; own = home_is i l ∙ ap (λ c. if c then length p.homes + i else free) eh };
    cell = cell_is i l;
    new = omega (arith, lb);
  })

  pub run_uses : heads ≡ false → (b : ℕ) → b ≡ length p.homes → (i : ℕ) → i < n → NewUse ran row i (b + i)
  run_uses eh b eb i l = subst (λ z. NewUse ran row i (z + i)) (sym eb) (record {
    inside = in_run i l;
    cell = cell_is i l;
    unlinked_home = home_is i l ∙ ap (λ c. if c then length p.homes + i else free) eh;
  })

-- the parts with a slot added
module _ (p : Parts) (even : IsEven p) (heads : Bool) (w : Row) (slots' : List Row) (sibs' : Lists) (a : AddsSlot heads w p.slots slots' p.sibs sibs') where
  abbrev pub slotted : Parts
  slotted = record p { slots = slots'; sibs = sibs' }

  rows_long : length slots' ≡ length p.slots + 1
  rows_long = ap length a.row ∙ push_long p.slots w no_row

  homes_long : length sibs'.homes ≡ length p.sibs.homes + 1
  homes_long = ap length a.homes ∙ push_long p.sibs.homes (if heads then length p.sibs.homes else free) free

  pub slot_row : row_at slots' (length p.slots) ≡ w
  slot_row = ap (λ z. row_at z (length p.slots)) a.row ∙ push_new p.slots w no_row (length p.slots) refl

  pub slot_home : home_at sibs'.homes (length p.slots) ≡ (if heads then length p.slots else free)
  slot_home = ap (λ z. home_at z (length p.slots)) a.homes ∙ push_new p.sibs.homes (if heads then length p.sibs.homes else free) free (length p.slots) even.long ∙ ap (λ z. if heads then z else free) (sym even.long)

  lists_same : (k : ℕ) → list_at sibs'.lists k ≡ list_at p.sibs.lists k
  lists_same k = ap (λ z. list_at z k) a.lists ∙ ⊎_elim
      (λ l. push_old p.sibs.lists [] [] k l)
      (λ g. ⊎_elim
      (λ e. push_new p.sibs.lists [] [] k e)
      (λ ne. push_past p.sibs.lists [] [] k (omega (arith, g, ne)))
      (cases_eq k (length p.sibs.lists)) ∙ sym (get_or_past p.sibs.lists k [] g))
      (cases_lt k (length p.sibs.lists))

  pub slot_wide : w.used ≡ false → w.live ≡ false → Wider p slotted
  slot_wide eu el = record {
    even = record { long = rows_long ∙ ap (λ z. z + 1) even.long ∙ sym homes_long; lists = ap length a.lists ∙ push_long p.sibs.lists [] [] ∙ ap (λ z. z + 1) even.lists ∙ sym homes_long; counted = even.counted };
    more = omega (arith, rows_long);
    row = λ k l. ap (λ z. row_at z k) a.row ∙ push_old p.slots w no_row k l;
    spare = λ k l. ⊎_elim
        (λ e. let f = ap (row_at slots') e ∙ slot_row in record { used = ap (λ z. z.used) f ∙ eu; live = ap (λ z. z.live) f ∙ el })
        (λ ne.
        let f = ap (λ z. row_at z k) a.row ∙ push_past p.slots w no_row k (omega (arith, l, ne)) in
        record { used = ap (λ z. z.used) f; live = ap (λ z. z.live) f })
        (cases_eq k (length p.slots));
    lists = lists_same;
    home = λ k l. ap (λ z. home_at z k) a.homes ∙ push_old p.sibs.homes (if heads then length p.sibs.homes else free) free k (omega (arith, l, even.long));
    uses_more = omega arith;
    use_home = λ u l. refl;
    use_new = (wide_same p even).use_new;
    cell = λ u l. refl;
  }

pub keep_wide : (p : Parts) → IsEven p → (slots' : List Row) (sibs' : Lists) → KeepsSlots p.slots slots' p.sibs sibs' → Wider p (record p { slots = slots'; sibs = sibs' })
keep_wide p even slots' sibs' k = subst (λ z. Wider p (record p { slots = z; sibs = sibs' })) (sym k.same) (subst (λ z. Wider p (record p { sibs = z })) (sym k.kept) (wide_same p even))

pub cells_push : (cells : List UseNode) (more : List UseNode) (c : UseNode) → more ≡ cells ++ c ∷ [] → cells_of more ≡ cells_of cells ++ (c.row, c.place) ∷ []
cells_push cells more c e = ap cells_of e ∙ map-append (λ z. (z.row, z.place)) cells (c ∷ [])
