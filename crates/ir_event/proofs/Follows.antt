-- Listeners that follow the IR state from one module to another.
use Rattle.std.specs.Prelude.{◌≡◌, ℕ, ◌<◌, List, [], ◌∷◌, ◌++◌, length, Option, Some, None, refl}
use Rattle.std.specs.List.{AllZip}
use Rattle.std.proofs.Common.{inl, inr, sym, ◌∙◌, ap, append_assoc, append-nil, arith}
use Rattle.std.proofs.lemmas.List.Elements.{length_all_zip, AllZip-get_or}
use Rattle.op_registry.specs.types.Things.{ContextModel}
use Rattle.ir_event.specs.declared.event.Event.{Event}
use Rattle.ir_event.specs.Modules.{Module, Node}
use Rattle.ir_event.specs.Step.{Step}
use Rattle.ir_event.specs.Listener.{Listener, ShowsTaken, Notified, Followed, GrownBy}
use Rattle.ir_event.specs.Panels.{AllNotified, AllFollowed, AllKept, kinds_of}

-- ---- lists related item by item

pub zip_self : {B : Type 0} (R : B → B → Type 0) → ((b : B) → R b b) → (xs : List B) → AllZip R xs xs
zip_self R h [] = tt
zip_self R h (x ∷ xs) = (h x, zip_self R h xs)

pub zip_map : {B : Type 0} (R S : B → B → Type 0) → ((a b : B) → R a b → S a b) → (xs ys : List B) → AllZip R xs ys → AllZip S xs ys
zip_map R S h [] [] z = tt
zip_map R S h [] (y ∷ ys) z = absurd z
zip_map R S h (x ∷ xs) [] z = absurd z
zip_map R S h (x ∷ xs) (y ∷ ys) z = (h x y z.0, zip_map R S h xs ys z.1)

pub zip_join : {B : Type 0} (R S T : B → B → Type 0) → ((a b c : B) → R a b → S b c → T a c) → (xs ys zs : List B) → AllZip R xs ys → AllZip S ys zs → AllZip T xs zs
zip_join R S T h [] [] [] z w = tt
zip_join R S T h [] [] (c ∷ zs) z w = absurd w
zip_join R S T h [] (b ∷ ys) zs z w = absurd z
zip_join R S T h (a ∷ xs) [] zs z w = absurd z
zip_join R S T h (a ∷ xs) (b ∷ ys) [] z w = absurd w
zip_join R S T h (a ∷ xs) (b ∷ ys) (c ∷ zs) z w = (h a b c z.0 w.0, zip_join R S T h xs ys zs z.1 w.1)

-- ---- one listener

grown_none : (es : Option (List Event)) → GrownBy [] es es
grown_none None = refl
grown_none (Some es) = ap Some (sym (append-nil es))

grown_more : (es fs : List Event) (a b c : Option (List Event)) → GrownBy es a b → GrownBy fs b c → GrownBy (es ++ fs) a c
grown_more es fs None b c h k = let P : Option (List Event) → Type 0 = λ o. GrownBy fs o c in (rw h at k)
grown_more es fs (Some xs) b c h k = let k2 = rw h at k in k2 ∙ ap Some (append_assoc xs es fs)

pub follow_none : (c : ContextModel) (m : Module) (a : Listener) → Followed [] c m c m a a
follow_none c m a = record {
  same = record { kind = refl; analysis = λ t. refl; most = λ e m n. refl };
  agrees = λ h. inl h;
  stale = λ h. h;
  notified = inl (grown_none a.notified);
}

pub follow_notified : (e : Event) (c : ContextModel) (m n : Module) (shown : ℕ → Option Node) (a b : Listener) → Step c e m n → ShowsTaken e m shown → Notified e c n shown a b → Followed (e ∷ []) c m c n a b
follow_notified e c m n shown a b step shows reported = record { same = reported.same; agrees = reported.agrees m step shows; stale = reported.stale; notified = reported.notified }

pub follow_more : (es fs : List Event) (c d f : ContextModel) (m n p : Module) (x y z : Listener) →
    Followed es c m d n x y → Followed fs d n f p y z → Followed (es ++ fs) c m f p x z
follow_more es fs c d f m n p x y z h k = record {
  same = record { kind = k.same.kind ∙ h.same.kind; analysis = λ t. k.same.analysis t ∙ h.same.analysis t; most = λ e m n. k.same.most e m n ∙ h.same.most e m n };
  agrees = λ held. elim (h.agrees held) [ inl now ↦ k.agrees now | inr gone ↦ inr (k.stale gone) ];
  stale = λ gone. k.stale (h.stale gone);
  notified = elim h.notified [ inr gone ↦ inr (k.stale gone) | inl grown ↦ elim k.notified [ inr gone ↦ inr gone | inl more ↦ inl (grown_more es fs x.notified y.notified z.notified grown more) ] ];
}

-- ---- all listeners

module _ {B : Type 0} (meaning : B → Listener) where
  pub all_none : (c : ContextModel) (m : Module) (xs : List B) → AllFollowed meaning [] c m c m xs xs
  all_none c m xs = zip_self _ (λ b. follow_none c m (meaning b)) xs

  pub all_notified : (e : Event) (c : ContextModel) (m n : Module) (shown : ℕ → Option Node) (xs ys : List B) → Step c e m n → ShowsTaken e m shown → AllNotified meaning e c n shown xs ys → AllFollowed meaning (e ∷ []) c m c n xs ys
  all_notified e c m n shown xs ys step shows h = zip_map _ _ (λ a b. follow_notified e c m n shown (meaning a) (meaning b) step shows) xs ys h

  pub all_more : (es fs : List Event) (c d f : ContextModel) (m n p : Module) (xs ys zs : List B) →
      AllFollowed meaning es c m d n xs ys → AllFollowed meaning fs d n f p ys zs → AllFollowed meaning (es ++ fs) c m f p xs zs
  all_more es fs c d f m n p xs ys zs h k = zip_join _ _ _ (λ x y z. follow_more es fs c d f m n p (meaning x) (meaning y) (meaning z)) xs ys zs h k

  -- listeners that follow keep their invariant
  pub all_kept : (es : List Event) (c d : ContextModel) (m n : Module) (xs ys : List B) → AllFollowed meaning es c m d n xs ys → AllKept meaning c m xs → AllKept meaning d n ys
  all_kept es c d m n xs ys h kept k b lt =
      let long = length_all_zip _ xs ys h in
      let within : k < length xs = omega arith in
      let one = AllZip-get_or _ xs ys k b b h within in
      elim (kept k b within) [ inl now ↦ one.agrees now | inr gone ↦ inr (one.stale gone) ]

  pub all_kinds : (es : List Event) (c d : ContextModel) (m n : Module) (xs ys : List B) → AllFollowed meaning es c m d n xs ys → kinds_of meaning ys ≡ kinds_of meaning xs
  all_kinds es c d m n [] [] h = refl
  all_kinds es c d m n [] (y ∷ ys) h = absurd h
  all_kinds es c d m n (x ∷ xs) [] h = absurd h
  all_kinds es c d m n (x ∷ xs) (y ∷ ys) h = rw (h.0.same.kind, all_kinds es c d m n xs ys h.1) refl
