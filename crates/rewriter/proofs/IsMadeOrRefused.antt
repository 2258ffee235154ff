-- Headers inserted one after another, until one is refused.
use Rattle.std.proofs.Common.{◌≡◌, ◌∙◌, sym, ap, refl, ◌⊎◌, inl, inr, ℕ, ◌+◌, ◌<◌, List, [], ◌∷◌, ◌++◌, length, get_or, take, drop, true, Some}
use Rattle.std.proofs.lemmas.List.{take-append-drop, take_more}
use Rattle.ir_event.specs.types.Things.{ContextModel}
use Rattle.ir_event.specs.types.Sound.{Holds}
use Rattle.ir_event.specs.types.declared.refusal.Refusal.{Refusal}
use Rattle.ir_event.specs.types.declared.refusal.Refusal.TheVariants.{Memory}
use Rattle.ir_event.specs.trees.declared.place.Place.{Place}
use Rattle.ir_event.specs.trees.Tree.{Op, regions}
use Rattle.ir_event.specs.trees.Meaning.{IsSoundIn, isolated_in}
use Rattle.ir_event.specs.trees.WellFormed.{Module}
use Rattle.ir_event.proofs.of_trees.Steps.{next_left}
use Rattle.ir_event.specs.tree_laws.Reasons.{hold_none, put_reason}
use Rattle.ir_event.specs.store.Calls.{after_put}
use Rattle.ir_event.specs.Listener.{Listener}
use Rattle.rewriter.specs.Contents.{tests_in}
use Rattle.rewriter.specs.Edits.{Make, TestsOf, edited_by}
use Rattle.rewriter_machine.specs.Inserting.{all_made}
use Rattle.rewriter.specs.RewriterCalls.{Benched, Made}
use Rattle.rewriter.specs.Wholes.{Onward}
use Rattle.rewriter.proofs.Noted.{made_module}
use Rattle.rewriter.proofs.Together.{Composes, Stays, onward_none, onward_made}
use Rattle.rewriter.specs.Creating.{AreHeadersOf, IsRefusedAmong}

-- an item of a list by its index
parted : {X : Type 0} (xs : List X) (n : ℕ) (x : X) → n < length xs → x ≡ get_or xs n x → take n xs ++ x ∷ drop (n + 1) xs ≡ xs
parted xs n x l e = ap (λ z. take n xs ++ z) (sym (next_left xs n x l e)) ∙ take-append-drop n xs

-- a prefix of the list, one item longer
taken_next : {X : Type 0} (xs : List X) (n : ℕ) (x : X) → n < length xs → x ≡ get_or xs n x → take (n + 1) xs ≡ take n xs ++ x ∷ []
taken_next xs n x l e = take_more xs n x l ∙ ap (λ z. take n xs ++ z ∷ []) (sym e)

-- inserting some headers, and then others
abbrev pub Parts : Type 0
Parts = (w : TestsOf ℕ ℕ) (us vs : List (Place × Op)) (m : Module) → all_made w (us ++ vs) m ≡ all_made w vs (all_made w us m)

pub header_there : (c : ContextModel) (hs : List (Place × Op)) (n : ℕ) (u : Place × Op) → AreHeadersOf c hs → n < length hs → u ≡ get_or hs n u → IsSoundIn c u.1 × (hold_none (regions u.1) ≡ true)
header_there c hs n u h l e = h (take n hs) (drop (n + 1) hs) u (parted hs n u l e)

module _ {B : Type 0} (meaning : B → Listener) where
  -- the first headers of a list are inserted
  pub record IsMade (hs : List (Place × Op)) (n : ℕ) (a b : Benched B) : Type 0 where
    pub onward : Onward meaning a b
    pub made : b.transaction.store.module_of ≡ all_made (tests_in a.transaction.ctx) (take n hs) a.transaction.store.module_of

  pub made_none : Stays meaning → (hs : List (Place × Op)) (a : Benched B) → IsMade hs 0 a a
  made_none none hs a = record { onward = onward_none meaning none a; made = refl }

  -- one more header is inserted
  pub made_more : Parts → Composes meaning → (hs : List (Place × Op)) (n : ℕ) (u : Place × Op) (a b d : Benched B) → Holds a.transaction.ctx → n < length hs → u ≡ get_or hs n u → IsMade hs n a b → Made meaning (after_put u.0 u.1 b.transaction.store) b d → IsMade hs (n + 1) a d
  made_more parts more hs n u a b d holds l e h m =
      let w = tests_in a.transaction.ctx in
      let is : d.transaction.store.module_of ≡ edited_by w (Make u.0 u.1) b.transaction.store.module_of = made_module meaning (after_put u.0 u.1 b.transaction.store) b d m in
      record {
        onward = onward_made meaning more (after_put u.0 u.1 b.transaction.store) a b d holds h.onward m;
        made =
            is ∙ ap (λ (m : Module). edited_by w (Make u.0 u.1) m) h.made ∙ sym (parts w (take n hs) (u ∷ []) a.transaction.store.module_of)
            ∙ ap (λ (us : List (Place × Op)). all_made w us a.transaction.store.module_of) (sym (taken_next hs n u l e));
      }

  -- a header is refused
  pub made_refused : (hs : List (Place × Op)) (n : ℕ) (u : Place × Op) (r : Refusal) (a b : Benched B) → n < length hs → u ≡ get_or hs n u → IsMade hs n a b
      → (put_reason (isolated_in b.transaction.ctx) u.0 u.1 b.transaction.store.module_of.next b.transaction.store.module_of.tree ≡ Some r) ⊎ ((r ≡ Memory) × Unit {0})
      → (r ≡ Memory) ⊎ IsRefusedAmong (tests_in a.transaction.ctx) hs a.transaction.store.module_of r
  made_refused hs n u r a b l e h why = elim why [
    | inl is ↦ inr (record {
      made = take n hs;
      refused = u;
      rest = drop (n + 1) hs;
      parts = parted hs n u l e;
      why = (λ i. put_reason (isolated_in (sym h.onward.ctx i)) u.0 u.1 (sym h.made i).next (sym h.made i).tree) ∙ is;
    })
    | inr memory ↦ inl memory.0
  ]
