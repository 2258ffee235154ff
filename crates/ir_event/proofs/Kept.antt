-- Listeners that each agree with a module or are stale.
use Rattle.std.proofs.Common.{◌≡◌, ℕ, List, get_or, true, inl, inr, ◌⊎◌, sym, subst, suc}
use Rattle.std.specs.Prelude.{All, take, drop}
use Rattle.std.proofs.lemmas.List.Elements.{All-push, All-append, All-take, All-drop, All-set}
use Rattle.op_registry.specs.types.Things.{ContextModel, IsExtendedBy}
use Rattle.op_registry.specs.types.Sound.{Holds}
use Rattle.op_registry.specs.types.declared.refusal.Refusal.{Refusal}
use Rattle.op_registry.specs.types.declared.refusal.Refusal.TheVariants.{NoSuchKind, Memory}
use Rattle.ir_event.specs.Modules.{Module}
use Rattle.ir_event.specs.Listener.{Listener}
use Rattle.ir_event.specs.Panels.{AllKept, AttachedLast, Detached, BegunAgain, NotBegunAgain}

module _ {B : Type 0} (meaning : B → Listener) (c : ContextModel) (m : Module) where
  abbrev Keeps : B → Type 0
  Keeps b = (meaning b).agrees c m ⊎ ((meaning b).stale ≡ true)

  pub kept_attached : (b : B) (xs ys : List B) → AttachedLast meaning c m b xs ys → AllKept meaning c m xs → AllKept meaning c m ys
  kept_attached b xs ys a kept = subst (All Keeps) (sym a.last) (All-push Keeps xs a.begun kept (inl a.agrees))

  pub kept_detached : (kind : ℕ) (xs ys : List B) → Detached meaning kind xs ys → AllKept meaning c m xs → AllKept meaning c m ys
  kept_detached kind xs ys d kept = subst (All Keeps) (sym d.rest) (All-append Keeps (take d.place xs) (drop (suc d.place) xs) (All-take Keeps d.place xs kept) (All-drop Keeps (suc d.place) xs kept))

  begun_kept : (kind : ℕ) (P : Listener → Type 0) (xs ys : List B) → ((b : B) → P (meaning b) → Keeps b) → BegunAgain meaning kind P xs ys → AllKept meaning c m xs → AllKept meaning c m ys
  begun_kept kind P xs ys f b kept = subst (All Keeps) (sym b.rest) (All-set Keeps xs b.place b.after (f b.after b.gives) kept)

  pub kept_begun : (kind : ℕ) (xs ys : List B) → BegunAgain meaning kind (λ b. b.agrees c m) xs ys → AllKept meaning c m xs → AllKept meaning c m ys
  kept_begun kind xs ys b kept = begun_kept kind (λ b. b.agrees c m) xs ys (λ b h. inl h) b kept

  pub kept_not_begun : (kind : ℕ) (xs ys : List B) (e : Refusal) → NotBegunAgain meaning kind xs ys e → AllKept meaning c m xs → AllKept meaning c m ys
  kept_not_begun kind xs ys NoSuchKind n kept = subst (All Keeps) (sym n.0) kept
  kept_not_begun kind xs ys Memory n kept = begun_kept kind (λ b. b.stale ≡ true) xs ys (λ b h. inr h) n kept
  kept_not_begun kind xs ys _ n kept = absurd n

  pub kept_grown : (d : ContextModel) (xs : List B) → Holds c → Holds d → IsExtendedBy c d → AllKept meaning c m xs → AllKept meaning d m xs
  kept_grown d xs holds also g kept k b lt = elim (kept k b lt) [ inl now ↦ inl ((meaning (get_or xs k b)).grows c d m holds also g now) | inr gone ↦ inr gone ]
