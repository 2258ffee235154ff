-- The cells of the heads of values.
use Rattle.std.proofs.Common.{◌≡◌, ℕ, ◌+◌, ◌<◌, List, sym, ap, ◌∙◌, subst, length, ⊎_elim, arith, Option, Some, None, slice_get}
use Rattle.std.specs.Prelude.{option_and_then, if◌then◌else◌}
use Rattle.std.proofs.lemmas.Bool.{cases_eq, cases_lt, false≢true}
use Rattle.ir_store_arena.specs.trees.declared.value.Value.{Value}
use Rattle.ir_store_arena.specs.trees.declared.value.Value.TheVariants.{Result, Arg}
use Rattle.ir_store_slots.specs.Rows.{Row, row_at}
use Rattle.ir_store_slots.specs.Right.{Used}
use Rattle.ir_store_slots.specs.Index.{argument_head, slot_head, value_head, cell_at, Index, Celled, lives}
use Rattle.ir_store_slots.specs.Grows.{Parts, Wider}
use Rattle.ir_store_slots.proofs.Idle.{is_below}
use Rattle.ir_store_slots.proofs.Wide.{Keyed}

-- rows of which no more are used than before, with the same values
pub celled_same : (slots slots' : List Row) (cells : List (ℕ × ℕ)) → Celled slots cells → ((k : ℕ) → Used slots' k → Used slots k) → ((k : ℕ) → Used slots' k → (row_at slots' k).head.results ≡ (row_at slots k).head.results)
    → ((k : ℕ) → Used slots' k → (row_at slots' k).shapes ≡ (row_at slots k).shapes) → ((k : ℕ) → (row_at slots' k).values ≡ (row_at slots k).values) → Celled slots' cells
celled_same slots slots' cells c used results shapes values = record {
  results = λ k i u l. subst (λ z. cell_at cells (z + i) ≡ (k, i)) (sym (values k)) (c.results k i (used k u) (subst (λ z. i < length z) (results k u) l));
  arguments = λ k r i a u e l. subst (λ z. cell_at cells (z + i) ≡ (a.1, i)) (sym (values a.1)) (c.arguments k r i a (used k u) (sym (ap (λ z. slice_get z r) (shapes k u)) ∙ e) l);
}

-- a row is written that has the values of the previous one
pub celled_edit : (slots slots' : List Row) (cells : List (ℕ × ℕ)) (k : ℕ) → Celled slots cells → ((q : ℕ) → (q ≡ k → ⊥) → row_at slots' q ≡ row_at slots q) → (row_at slots' k).used ≡ (row_at slots k).used
    → (row_at slots' k).head.results ≡ (row_at slots k).head.results → (row_at slots' k).shapes ≡ (row_at slots k).shapes → (row_at slots' k).values ≡ (row_at slots k).values → Celled slots' cells
celled_edit slots slots' cells k c same used results shapes values = celled_same slots slots' cells c (λ q u. record { used = sym (at (λ z. z.used) used q) ∙ u.used }) (λ q u. at (λ z. z.head.results) results q) (λ q u. at (λ z. z.shapes) shapes q) (at (λ z. z.values) values)
  where
    at : {A : Type 0} (f : Row → A) → f (row_at slots' k) ≡ f (row_at slots k) → (q : ℕ) → f (row_at slots' q) ≡ f (row_at slots q)
    at f e q = ⊎_elim (λ z. ap (λ w. f (row_at slots' w)) z ∙ e ∙ ap (λ w. f (row_at slots w)) (sym z)) (λ n. ap f (same q n)) (cases_eq q k)

-- slots are added
module _ (p q : Parts) (w : Wider p q) (keys : ℕ → Option ℕ) (r : Keyed p.slots keys p.sibs) (ix : Index p.slots keys p.homes p.cells (lives p.slots)) where
  was_in : (k : ℕ) → Used q.slots k → k < length p.slots
  was_in k u = ⊎_elim (λ l. l) (λ g. absurd (false≢true (sym (w.spare k g).used ∙ u.used))) (cases_lt k (length p.slots))

  was : (k : ℕ) → Used q.slots k → Used p.slots k
  was k u = record { used = sym (ap (λ z. z.used) (w.row k (was_in k u))) ∙ u.used }

  result_in : (k i : ℕ) → Used p.slots k → i < length (row_at p.slots k).head.results → (row_at p.slots k).values + i < length p.homes
  result_in k i u l =
      let v : Value = Result (row_at p.slots k).head.id i in
      let e : value_head p.slots keys v ≡ Some ((row_at p.slots k).values + i) = ap (option_and_then (slot_head p.slots v)) (r.keyed k u) ∙ ap (λ b. if b then Some ((row_at p.slots k).values + i) else None) (is_below i (length (row_at p.slots k).head.results) l) in
      (ix.heads v ((row_at p.slots k).values + i) e).inside

  argument_in : (k j i : ℕ) (a : List ℕ × ℕ) → Used p.slots k → slice_get (row_at p.slots k).shapes j ≡ Some (Some a) → i < length a.0 → (row_at p.slots a.1).values + i < length p.homes
  argument_in k j i a u f l =
      let v : Value = Arg (row_at p.slots k).head.id j i in
      let e : value_head p.slots keys v ≡ Some ((row_at p.slots a.1).values + i) =
      ap (option_and_then (slot_head p.slots v)) (r.keyed k u) ∙ ap (option_and_then (argument_head p.slots i)) f ∙ ap (λ b. if b then Some ((row_at p.slots a.1).values + i) else None) (is_below i (length a.0) l) in
      (ix.heads v ((row_at p.slots a.1).values + i) e).inside

  pub wide_celled : Celled p.slots p.cells → Celled q.slots q.cells
  wide_celled c = record {
    results = λ k i u l.
        let f = w.row k (was_in k u) in
        let m : i < length (row_at p.slots k).head.results = subst (λ z. i < length z.head.results) f l in
        ap (λ z. cell_at q.cells (z.values + i)) f ∙ w.cell ((row_at p.slots k).values + i) (result_in k i (was k u) m) ∙ c.results k i (was k u) m;
    arguments = λ k j i a u e l.
        let g = sym (ap (λ z. slice_get z.shapes j) (w.row k (was_in k u))) ∙ e in
        let b = r.blocks k j a (was k u) g in
        let f = w.row a.1 (let z = b.head.inside in omega (arith, z, r.long)) in
        ap (λ z. cell_at q.cells (z.values + i)) f ∙ w.cell ((row_at p.slots a.1).values + i) (argument_in k j i a (was k u) g l) ∙ c.arguments k j i a (was k u) g l;
  }
