-- Every state has a listing, since memory may run out.
use Rattle.std.proofs.Common.{◌≡◌, ℕ, ◌+◌, ◌<◌, ◌≤◌, List, [], ◌∷◌, ◌++◌, length, drop, get_or, Bool, true, false, inl, inr, refl, add-one, arith}
use Rattle.std.proofs.lemmas.Grind.{common_steps}
use Rattle.std.proofs.Math.Seq.{drop-cons}
use Rattle.ir_event.specs.trees.Meaning.{Operation}
use Rattle.ir_event.specs.Listener.{Listener}
use Rattle.mlir_work_script.specs.Replies.{stale_line, kind_memory_line, module_memory_line}
use Rattle.mlir_work_transforms.specs.rewriter.Machine.{State}
use Rattle.mlir_work_transforms.specs.rewriter.Panels.{Shown, shown, all_shown}
use Rattle.mlir_work_session.specs.Output.{IsKind, AreKinds, IsListing, IsListingIf}

some_kind : (t : Operation) (k : Shown) → (out : List ℕ) × IsKind t k out
some_kind t k = go k.stale refl
  where
    go : (stale : Bool) → k.stale ≡ stale → (out : List ℕ) × IsKind t k out
    go true e = (stale_line k.kind, inl (e, refl))
    go false e = (kind_memory_line k.kind, inr (e, inl refl))

pub some_kinds : (t : Operation) (ks : List Shown) → (out : List ℕ) × AreKinds t ks out
some_kinds t [] = ([], refl)
some_kinds t (k ∷ ks) = let rest = some_kinds t ks in let first = some_kind t k in (first.0 ++ rest.0, (first.0, rest.0, first.1, rest.1, refl))

pub some_listing : (s : State) → (out : List ℕ) × IsListing s out
some_listing s = let rest = some_kinds s.held.tree s.panel in (module_memory_line ++ rest.0, (module_memory_line, rest.0, inr refl, rest.1, refl))

pub some_listing_if : (listed : Bool) (s : State) → (out : List ℕ) × IsListingIf listed s out
some_listing_if true s = some_listing s
some_listing_if false s = ([], refl)

pub shown_step : {B : Type 0} (meaning : B → Listener) (bs : List B) (i : ℕ) (b : B) → i < length bs → b ≡ get_or bs i b → all_shown meaning (drop i bs) ≡ shown (meaning b) ∷ all_shown meaning (drop (i + 1) bs)
shown_step meaning bs i b h e = rw (add-one, drop-cons bs i b, ← e) refl

pub none_left : {B : Type 0} (meaning : B → Listener) (t : Operation) (bs : List B) (i : ℕ) → length bs ≤ i → AreKinds t (all_shown meaning (drop i bs)) []
none_left meaning t bs i h = let none : drop i bs ≡ [] = grind (arith, common_steps) in rw none refl
