-- Names of a context, and a rewriter whose context grows with them.
use Rattle.std.proofs.Common.{◌≡◌, refl, ap, sym, ◌∙◌, subst, inl, inr, ℕ, Bool, true, false, not, ◌&&◌, List, [], ◌∷◌, ◌++◌, length, map, Some, None, Result, Err, IfErr, arith}
use Rattle.std.specs.Prelude.{nat_le, if◌then◌else◌}
use Rattle.std.specs.List.{All, list_any}
use Rattle.std.specs.Str.{bytes_eq}
use Rattle.std.proofs.lemmas.Bool.{leb-true}
use Rattle.std.proofs.lemmas.List.{map-append}
use Rattle.std.proofs.lemmas.List.Elements.{All-nil, All-cons, All-head, All-tail, All-append}
use Rattle.ir_event.specs.types.Interning.{with_name}
use Rattle.ir_event.specs.types.Limits.{most_things}
use Rattle.ir_event.specs.types.Reasons.{IsRefusedFor, name_reason}
use Rattle.ir_event.specs.types.Sound.{Holds}
use Rattle.ir_event.specs.types.Terms.{name_term}
use Rattle.ir_event.specs.types.Things.{ContextModel, IsExtendedBy, IsName}
use Rattle.ir_event.specs.types.declared.refusal.Refusal.{Refusal}
use Rattle.ir_event.specs.types.declared.refusal.Refusal.TheVariants.{Full, Memory, TooMany}
use Rattle.ir_event.proofs.of_types.CallNumbers.{new_name, name_stands}
use Rattle.ir_event.proofs.of_types.Growth.{preceding_agree, preceding_length, grows_refl, grows_trans}
use Rattle.ir_event.specs.Listener.{Listener}
use Rattle.ir_event.proofs.of_tree_laws.Listed.{both}
use Rattle.conversion.proofs.of_rewriter.Noted.{recorded_more, recorded_none}
use Rattle.conversion.specs.rewriter.RewriterCalls.{Benched, Led}
use Rattle.conversion.specs.rewriter.Held.{TransactionModel}
use Rattle.conversion.specs.rewriter.Moves.{Grown, Recorded}
use Rattle.conversion.specs.rewriter.Panels.{all_shown}
use Rattle.conversion.specs.Benches.{led_more, led_none}
use Rattle.conversion.specs.States.{IsOutOfCapacity}
use Rattle.mlir_work_transforms.specs.Interned.{AreNumbers, Interned}
use Rattle.std.proofs.lemmas.Option.{slice_get_within}

-- ---- a rewriter whose context grows

grown_left : (a b : TransactionModel) → Grown a b → Recorded [] a b
grown_left a b grown =
    let none = recorded_none a in
    record {
      marks = ap (λ (h : TransactionModel). h.marks) grown.held;
      journal = ap (λ (h : TransactionModel). h.journal) grown.held ∙ none.journal;
      trailing = λ some k le. grown.trailing k;
    }

module _ {B : Type 0} (meaning : B → Listener) where
  pub interned_so : (a b : Benched B) → Grown a.transaction b.transaction → b.listeners ≡ a.listeners → Led meaning a b → Holds b.transaction.ctx → Interned meaning a b
  interned_so a b grown same led after = record {
    grows = grown.grows;
    same = λ i. record { held = grown.same i; marks = grown.marked i; panel = all_shown meaning (same i) };
    led = λ before. (after, led);
    left = grown_left a.transaction b.transaction grown;
  }

  pub interned_none : (a : Benched B) → Interned meaning a a
  interned_none a = record { grows = grows_refl a.transaction.ctx; same = refl; led = led_none meaning a; left = recorded_none a.transaction }

  pub interned_more : (a b c : Benched B) → Interned meaning a b → Interned meaning b c → Interned meaning a c
  interned_more a b c h k = record {
    grows = grows_trans a.transaction.ctx b.transaction.ctx c.transaction.ctx h.grows k.grows;
    same = k.same ∙ h.same;
    led = led_more meaning a b c h.led k.led;
    left = recorded_more [] [] a.transaction b.transaction c.transaction h.left.marks h.left k.left;
  }

-- ---- names

-- the number that a call returned is the number of the name
pub named_so : (bytes : List ℕ) (c d : ContextModel) (n : ℕ) → (n, d) ≡ with_name bytes c → AreNumbers d (n ∷ []) (bytes ∷ [])
named_so bytes c d n e = subst (λ (p : ℕ × ContextModel). AreNumbers p.1 (p.0 ∷ []) (bytes ∷ [])) (sym e) (record {
  known = All-cons (IsName (with_name bytes c).1) (with_name bytes c).0 [] (slice_get_within ((with_name bytes c).1).names (with_name bytes c).0 bytes (name_stands bytes c)) (All-nil (IsName (with_name bytes c).1));
  are = ap (λ name. name ∷ []) (new_name bytes c);
})

-- there is no room or no memory for a name
pub wants_full : (bytes : List ℕ) (c : ContextModel) (refusal : Refusal) (named : Result ℕ Refusal) → named ≡ Err refusal → refusal ≡ TooMany → IsRefusedFor (name_reason bytes c) named → IsOutOfCapacity c Full
wants_full bytes c refusal named is many = go (not (list_any (bytes_eq bytes) c.names) && nat_le most_things (length c.names)) refl
  where
    go : (b : Bool) → (not (list_any (bytes_eq bytes) c.names) && nat_le most_things (length c.names)) ≡ b → IsRefusedFor (if b then Some TooMany else None) named → IsOutOfCapacity c Full
    go true e h = inr (refl, inl (leb-true most_things (length c.names) (both (not (list_any (bytes_eq bytes) c.names)) (nat_le most_things (length c.names)) e).1))
    go false e h = absurd (let memory : refusal ≡ Memory = subst (λ (r : Result ℕ Refusal). IfErr r (λ e. e ≡ Memory)) is h in let wrong : TooMany ≡ Memory = sym many ∙ memory in cc)

-- ---- names keep their numbers as the context grows

same_map : (P : ℕ → Type 0) (f g : ℕ → List ℕ) → ((n : ℕ) → P n → f n ≡ g n) → (ns : List ℕ) → All P ns → map f ns ≡ map g ns
same_map P f g h [] a = refl
same_map P f g h (n ∷ ns) a = λ i. h n (All-head P n ns a) i ∷ same_map P f g h ns (All-tail P n ns a) i

still_all : (P Q : ℕ → Type 0) → ((n : ℕ) → P n → Q n) → (ns : List ℕ) → All P ns → All Q ns
still_all P Q h [] a = All-nil Q
still_all P Q h (n ∷ ns) a = All-cons Q n ns (h n (All-head P n ns a)) (still_all P Q h ns (All-tail P n ns a))

pub still_numbers : (c d : ContextModel) (ns : List ℕ) (names : List (List ℕ)) → IsExtendedBy c d → AreNumbers c ns names → AreNumbers d ns names
still_numbers c d ns names grows h = record {
  known = still_all (IsName c) (IsName d) (λ n k. let l = preceding_length c.names d.names grows.names in omega (arith, l, k)) ns h.known;
  are = same_map (IsName c) (name_term d) (name_term c) (λ n k. preceding_agree [] c.names d.names grows.names n k) ns h.known ∙ h.are;
}

pub no_numbers : (c : ContextModel) → AreNumbers c [] []
no_numbers c = record { known = All-nil (IsName c); are = refl }

pub more_numbers : (c : ContextModel) (ns ms : List ℕ) (names more : List (List ℕ)) → AreNumbers c ns names → AreNumbers c ms more → AreNumbers c (ns ++ ms) (names ++ more)
more_numbers c ns ms names more h k = record {
  known = All-append (IsName c) ns ms h.known k.known;
  are = map-append (name_term c) ns ms ∙ (λ i. h.are i ++ k.are i);
}
