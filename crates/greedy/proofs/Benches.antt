-- Lemmas about rewriters under the driver.
use Rattle.std.proofs.Common.{◌≡◌, refl, ap, sym, ◌∙◌, subst, ℕ, ◌<◌, ◌≤◌, Bool, true, ◌&&◌, eqb, List, [], ◌∷◌, length, length-append, arith}
use Rattle.std.specs.Prelude.{All, map, option_map, reverse, nat_le, ◌≢◌, Option, Some, None}
use Rattle.std.specs.List.{IsDistinct, list_any}
use Rattle.std.proofs.Math.Seq.{drop-length}
use Rattle.std.proofs.lemmas.Bool.{leb-true}
use Rattle.ir_event.specs.types.Sound.{Holds}
use Rattle.ir_event.specs.types.Terms.{name_term, type_term, attr_term}
use Rattle.ir_event.specs.trees.Tree.{OpOf, op, head, regions, region_count, Op}
use Rattle.ir_event.specs.trees.Ids.{find, ids, has_id}
use Rattle.ir_event.specs.trees.Limits.{head_fits, op_fits, items_fit, all_arguments_pass, most_regions}
use Rattle.ir_event.specs.trees.Meaning.{Operation, meaning, isolated_in}
use Rattle.ir_event.specs.trees.WellFormed.{ModuleOf, IsWellFormed}
use Rattle.ir_event.proofs.of_trees.Mapped.{map_find, map_ids}
use Rattle.ir_event.specs.tree_laws.Reads.{precedes, comes_after, is_within}
use Rattle.ir_event.proofs.of_tree_laws.Listed.{both}
use Rattle.ir_event.proofs.of_tree_laws.Members.{found_stands}
use Rattle.ir_event.proofs.of_tree_laws.Wellformed.{from_wellformed}
use Rattle.ir_event.specs.Listener.{Listener}
use Rattle.patterns.specs.RewriterCalls.{Benched, Led, Journaled}
use Rattle.patterns.specs.Held.{TransactionModel, module_held, module_at, open_marks, open_mark}
use Rattle.patterns.specs.rewriter.Journals.{before}
use Rattle.patterns.specs.rewriter.Moves.{all_noted}
use Rattle.patterns.specs.rewriter.declared.mark.JournalMark.{JournalMark}
use Rattle.greedy.specs.Benches.{Wellformed, Onward}
use Rattle.greedy.specs.Orders.{IsBeyond}
use Rattle.greedy.specs.Following.{HasFewRegions, comes_next, following}

-- ---- the module with terms, and the module with interned numbers
pub held_ids : (h : TransactionModel) → ids (module_held h).tree ≡ ids h.store.module_of.tree
held_ids h = map_ids (name_term h.ctx) (type_term h.ctx) (attr_term h.ctx) h.store.module_of.tree

pub held_root : (h : TransactionModel) → (head (module_held h).tree).id ≡ (head h.store.module_of.tree).id
held_root h = go h.store.module_of.tree
  where
    go : (t : Op) → (head (meaning h.ctx t)).id ≡ (head t).id
    go (op x rs) = refl

pub held_has : (h : TransactionModel) (x : ℕ) → has_id x (module_held h).tree ≡ has_id x h.store.module_of.tree
held_has h x = ap (list_any (λ y. eqb y x)) (held_ids h)

pub held_precedes : (h : TransactionModel) (a b : ℕ) → precedes a b (module_held h).tree ≡ precedes a b h.store.module_of.tree
held_precedes h a b = ap (comes_after a b) (held_ids h)

-- find, and the ids of what is found
found_ids : (f : Option Op) (g : Op → Operation) → ((o : Op) → ids (g o) ≡ ids o) → (y : ℕ) → is_within y (option_map g f) ≡ is_within y f
found_ids None g same y = refl
found_ids (Some o) g same y = ap (list_any (λ z. eqb z y)) (same o)

pub held_within : (h : TransactionModel) (x y : ℕ) → is_within y (find x (module_held h).tree) ≡ is_within y (find x h.store.module_of.tree)
held_within h x y =
    ap (is_within y) (map_find (name_term h.ctx) (type_term h.ctx) (attr_term h.ctx) x h.store.module_of.tree)
    ∙ found_ids (find x h.store.module_of.tree) (meaning h.ctx) (map_ids (name_term h.ctx) (type_term h.ctx) (attr_term h.ctx)) y

pub held_beyond : (h : TransactionModel) (x y : ℕ) → IsBeyond x y h.store.module_of.tree → IsBeyond x y (module_held h).tree
held_beyond h x y b z w = held_precedes h z y ∙ b z (sym (held_within h x z) ∙ w)

pub held_wellformed : (h : TransactionModel) → IsWellFormed (isolated_in h.ctx) h.store.module_of → Wellformed (module_held h)
held_wellformed h w = record { distinct = subst (IsDistinct eqb) (sym (held_ids h)) w.distinct; below = subst (All (λ y. y < h.store.module_of.next)) (sym (held_ids h)) w.below }

pub held_following : (h : TransactionModel) (x : ℕ) → following x h.store.module_of.tree ≡ following x (module_held h).tree
held_following h x = ap (comes_next x) (sym (held_ids h))

-- ---- no operation has more than `most_regions` regions
module _ {N T A : Type 0} where
  fits : (o : OpOf N T A) → op_fits o ≡ true → region_count (regions o) ≤ 16
  fits (op h rs) f = leb-true (region_count rs) most_regions (both (nat_le (region_count rs) most_regions) (all_arguments_pass items_fit rs) (both (head_fits h) (nat_le (region_count rs) most_regions && all_arguments_pass items_fit rs) f).1).0

  pub few_regions : (isolated : N → Bool) (m : ModuleOf N T A) → IsWellFormed isolated m → HasFewRegions m.tree
  few_regions isolated m w x o e =
      let s = found_stands x m.tree o e in
      fits o (ap op_fits (sym s.3) ∙ (from_wellformed isolated m.tree w.wellformed).fits s.0 s.1)

module _ {B : Type 0} (meaning : B → Listener) where
  pub led_onward : (a b : Benched B) → Holds b.transaction.ctx → Led meaning a b → Onward meaning a b
  led_onward a b h l = record { grows = l.1.grows; led = λ k. (h, l) }

  -- a call whose events the journal records
  pub noted_before : (a b : Benched B) → open_marks a.transaction ≢ [] → Journaled meaning a b → (length a.transaction.journal ≤ length b.transaction.journal) × (module_at (length a.transaction.journal) b.transaction ≡ module_held a.transaction)
  noted_before a b marked j = go a.transaction.marks refl
    where
      unmarked : a.transaction.marks ≡ [] → open_marks a.transaction ≡ []
      unmarked e = ap (λ l. reverse (map (open_mark a.transaction) l)) e

      some : a.transaction.marks ≢ []
      some e = marked (unmarked e)

      go : (ks : List JournalMark) → a.transaction.marks ≡ ks → (length a.transaction.journal ≤ length b.transaction.journal) × (module_at (length a.transaction.journal) b.transaction ≡ module_held a.transaction)
      go [] e = absurd (some e)
      go (k ∷ ks) e = (
        (let n = ap length (j.2.journal ∙ ap (λ l. all_noted l a.transaction.journal j.0) e) in let m = length-append a.transaction.journal j.0 in omega (arith, n, m)),
        j.2.trailing some (length a.transaction.journal) (omega arith) ∙ ap (λ l. before a.transaction.ctx l a.transaction.store) (drop-length a.transaction.journal),
      )
