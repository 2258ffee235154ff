-- The results of a context's calls.
use Rattle.std.proofs.Common.{◌≡◌, ◌∙◌, refl, sym, ap, subst, ℕ, zero, suc, ◌+◌, ◌<◌, ◌≤◌, Bool, true, false, cond, List, [], ◌∷◌, ◌++◌, length, map, Some, None, Option, Ok, Err, slice_get, IsTrue, le-leb, leb-true, arith}
use Rattle.std.specs.Prelude.{slice_index_or, not, nat_le, ◌&&◌, ◌||◌, Result, IfErr, IsErrOf}
use Rattle.std.specs.List.{list_any, position_or_len}
use Rattle.std.specs.Str.{bytes_eq}
use Rattle.std.proofs.lemmas.Option.{slice_get_within}
use Rattle.std.specs.Map.{keys_of}
use Rattle.std.specs.List.{position}
use Rattle.std.proofs.lemmas.List.{length-map, map-append}
use Rattle.ir_types_interner.specs.Interned.{with_last}
use Rattle.ir_types_interner.proofs.Placed.{with_last-found, with_last-absent, found_at, absent_from}
use Rattle.ir_types.specs.declared.node.TypeNode.{TypeNode}
use Rattle.ir_types.specs.declared.node.TypeNode.TheVariants as type
use Rattle.ir_types_interner.specs.declared.intern.InternFault.{InternFault}
use Rattle.ir_types_interner.specs.declared.intern.InternFault.TheVariants as intern
use Rattle.ir_types.specs.Refusals.{not_interned}
use Rattle.ir_types.specs.declared.refusal.Refusal.{Refusal}
use Rattle.ir_types.specs.declared.refusal.Refusal.TheVariants.{TooMany, TooDeep, BadWidth, Memory}
use Rattle.ir_types.specs.Things.{ContextModel, IsExtendedBy, IsType, IsAttr}
use Rattle.ir_types.specs.Terms.{TypeTerm, Index, Flag, attr_terms, type_term, type_from, type_terms, attr_term}
use Rattle.ir_types.specs.Depths.{type_depth, attr_depth}
use Rattle.ir_types.specs.Reasons.{full_reason, first_reason, type_fault, depth_reason, is_width, IsRefusedFor, checked}
use Rattle.ir_types.specs.Interning.{with_name}
use Rattle.ir_types.specs.Bits.{HasWidth}
use Rattle.ir_types.specs.Sound.{Holds}
use Rattle.ir_types.proofs.Terms.{type_term_is}
use Rattle.ir_types.specs.Limits.{most_things, most_depth}
use Rattle.ir_types.proofs.AcceptedCalls.{neither}

-- when a list is full
module _ {A : Type 0} (is : A → Bool) (xs : List A) where
  pub full_found : list_any is xs ≡ true → full_reason is xs ≡ None
  full_found h = rw h refl

  pub full_absent : list_any is xs ≡ false → most_things ≤ length xs → full_reason is xs ≡ Some TooMany
  full_absent h k = rw (h, le-leb most_things (length xs) k) refl

  pub full_headroom : length xs < most_things → full_reason is xs ≡ None
  full_headroom h = go (nat_le most_things (length xs)) refl (list_any is xs)
    where
      go : (b : Bool) → nat_le most_things (length xs) ≡ b → (a : Bool) → cond (not a && nat_le most_things (length xs)) (Some TooMany) None ≡ None
      go true e a = absurd (omega (arith, leb-true most_things (length xs) e))
      go false e true = refl
      go false e false = rw e refl

-- a call without a reason against it is accepted, or memory runs out
pub accepted : {A : Type 0} (reason : Option Refusal) (x : A) → reason ≡ None → IsRefusedFor reason (Ok x)
accepted reason x e = subst (λ r. IsRefusedFor r (Ok x)) (sym e) tt

pub no_memory : {A : Type 0} (reason : Option Refusal) (result : Result A Refusal) → reason ≡ None → IfErr result (λ r. r ≡ Memory) → IsRefusedFor reason result
no_memory reason result e h = subst (λ r. IsRefusedFor r result) (sym e) h

pub refused : (A : Type 0) (reason : Option Refusal) (refusal : Refusal) → reason ≡ Some refusal → IsRefusedFor {A = A} reason (Err refusal)
refused A reason refusal e = subst (λ r. IsRefusedFor {A = A} r (Err refusal)) (sym e) refl

-- a known name, and a new one
pub name_there : (c : ContextModel) (bytes : List ℕ) (i : ℕ) → list_any (bytes_eq bytes) c.names ≡ true → i ≡ position_or_len (bytes_eq bytes) c.names → (i, c) ≡ with_name bytes c
unfolding with_name
name_there c bytes i h e = λ k. (e k, record c { names = sym (with_last-found (bytes_eq bytes) bytes c.names h) k })

pub name_new : (c d : ContextModel) (bytes : List ℕ) (i : ℕ) → list_any (bytes_eq bytes) c.names ≡ false → i ≡ position_or_len (bytes_eq bytes) c.names → d ≡ record c { names = c.names ++ bytes ∷ [] } → (i, d) ≡ with_name bytes c
unfolding with_name
name_new c d bytes i h e made = (λ k. (e k, made k)) ∙ (λ k. (position_or_len (bytes_eq bytes) c.names, record c { names = sym (with_last-absent (bytes_eq bytes) bytes c.names h) k }))

pub grown : (c d : ContextModel) (e : ContextModel) → IsExtendedBy c e → d ≡ e → IsExtendedBy c d
grown c d e g same = subst (IsExtendedBy c) (sym same) g

-- the width of a type without a fault is in range
pub fine_width : (known : List TypeTerm) (node : TypeNode) → type_fault (type_from known node) ≡ None → HasWidth node
fine_width known (type.Int sign width) e = go (is_width width) refl
  where
    go : (b : Bool) → is_width width ≡ b → IsTrue (is_width width)
    go true h = h
    go false h = absurd (let k : Some BadWidth ≡ None = rw h at e in cc)
fine_width known type.Index e = tt
fine_width known (type.Func is os) e = tt
fine_width known (type.Memref ds el) e = tt
fine_width known (type.Opaque text) e = tt

pub width_of_type : (c : ContextModel) (n : ℕ) (node : TypeNode) → Holds c → slice_get c.types n ≡ Some node → HasWidth node
width_of_type c n node h at = fine_width (type_terms c) node (ap type_fault (sym (type_term_is c n node h at)) ∙ h.types_fine n (slice_get_within c.types n node at))

depth_within : (n : ℕ) → depth_reason n ≡ None → n ≤ most_depth
depth_within n e = go (nat_le n most_depth) refl
  where
    go : (b : Bool) → nat_le n most_depth ≡ b → n ≤ most_depth
    go true h = leb-true n most_depth h
    go false h = absurd (let k : Some TooDeep ≡ None = rw h at e in cc)

-- the limit of the depths of types and attributes
pub shallow_type : (c : ContextModel) (n : ℕ) → Holds c → IsType c n → type_depth (type_term c n) ≤ most_depth
shallow_type c n h at = depth_within (type_depth (type_term c n)) (neither _ _ (h.types_fine n at)).1

pub shallow_attr : (c : ContextModel) (n : ℕ) → Holds c → IsAttr c n → attr_depth (attr_term c n) ≤ most_depth
shallow_attr c n h at = depth_within (attr_depth (attr_term c n)) (neither _ _ (h.attrs_fine n at)).1

-- a stored depth is the depth of its id
pub mapped_at : {A : Type 0} (f : A → ℕ) (xs : List A) (other : A) (vs : List ℕ) (n d : ℕ) → vs ≡ map f xs → slice_get vs n ≡ Some d → d ≡ f (slice_index_or xs n other)
mapped_at {A = A} f xs other vs n d e at = go xs n (sym (ap (λ l. slice_get l n) e) ∙ at)
  where
    go : (xs : List A) (n : ℕ) → slice_get (map f xs) n ≡ Some d → d ≡ f (slice_index_or xs n other)
    go [] zero h = absurd cc
    go [] (suc n) h = absurd cc
    go (x ∷ xs) zero h = cc
    go (x ∷ xs) (suc n) h = go xs n h

pub kept_type_depth : (c d : ContextModel) (vs : List ℕ) (n m : ℕ) → d ≡ c → Holds d → vs ≡ map type_depth (type_terms d) → slice_get vs n ≡ Some m → IsType c n → m ≤ most_depth
kept_type_depth c d vs n m e h kept at is =
    let k : m ≡ type_depth (type_term d n) = mapped_at type_depth (type_terms d) Index vs n m kept at in
    let l : type_depth (type_term d n) ≤ most_depth = shallow_type d n h (subst (λ (z : ContextModel). IsType z n) (sym e) is) in
    omega arith

pub kept_attr_depth : (c d : ContextModel) (vs : List ℕ) (n m : ℕ) → d ≡ c → Holds d → vs ≡ map attr_depth (attr_terms d) → slice_get vs n ≡ Some m → IsAttr c n → m ≤ most_depth
kept_attr_depth c d vs n m e h kept at is =
    let k : m ≡ attr_depth (attr_term d n) = mapped_at attr_depth (attr_terms d) Flag vs n m kept at in
    let l : attr_depth (attr_term d n) ≤ most_depth = shallow_attr d n h (subst (λ (z : ContextModel). IsAttr z n) (sym e) is) in
    omega arith

-- the result of an interning call that refuses
pub not_interned_reason : {A : Type 0} (is : A → Bool) (xs : List A) (fault : InternFault) (n : ℕ) → n ≡ length xs → (IsErrOf {T = ℕ} (Err fault) intern.TooMany → (most_things ≤ n) × (list_any is xs ≡ false)) × ((most_things ≤ n) × (list_any is xs ≡ false) → IsErrOf {T = ℕ} (Err fault) intern.TooMany) → IsRefusedFor {A = ℕ} (full_reason is xs) (Err (not_interned fault))
not_interned_reason is xs intern.TooMany n e full =
    let h = full.0 refl in
    refused ℕ (full_reason is xs) TooMany (full_absent is xs h.1 (omega (arith, h.0)))
not_interned_reason is xs intern.Memory n e full = no_memory (full_reason is xs) (Err Memory) (go (list_any is xs) refl (nat_le most_things (length xs)) refl) refl
  where
    go : (a : Bool) → list_any is xs ≡ a → (b : Bool) → nat_le most_things (length xs) ≡ b → full_reason is xs ≡ None
    go true h b k = rw h refl
    go false h true k = absurd (let z = full.1 (omega (arith, leb-true most_things (length xs) k), h) in cc)
    go false h false k = rw (h, k) refl

-- the result of an interning call that accepts
pub interned_reason : {A : Type 0} (is : A → Bool) (xs : List A) (place n : ℕ) → n ≡ length xs → ((most_things ≤ n) × (list_any is xs ≡ false) → IsErrOf {T = ℕ} {E = InternFault} (Ok place) intern.TooMany) → full_reason is xs ≡ None
interned_reason is xs place n e full = go (list_any is xs) refl (nat_le most_things (length xs)) refl
  where
    go : (a : Bool) → list_any is xs ≡ a → (b : Bool) → nat_le most_things (length xs) ≡ b → full_reason is xs ≡ None
    go true h b k = rw h refl
    go false h true k = absurd (let z = full (omega (arith, leb-true most_things (length xs) k), h) in cc)
    go false h false k = rw (h, k) refl

-- a derived `==` is the equality test
pub as_test : {A : Type 0} (D E : A → A → Bool) → ((x y : A) → D x y ≡ E x y) → (x : A) → D x ≡ E x
as_test D E same x = λ i y. same x y i

-- names, which are stored as vectors of bytes
module _ {V : Type 0} (f : V → List ℕ) (bytes : List ℕ) where
  place_map : (ks : List V) → position_or_len (bytes_eq bytes) (map f ks) ≡ position_or_len (λ v. bytes_eq bytes (f v)) ks
  place_map [] = refl
  place_map (k ∷ ks) = ap (λ n. cond (not (bytes_eq bytes (f k))) (1 + n) 0) (place_map ks)

  any_map : (ks : List V) → list_any (bytes_eq bytes) (map f ks) ≡ list_any (λ v. bytes_eq bytes (f v)) ks
  any_map [] = refl
  any_map (k ∷ ks) = ap (λ b. bytes_eq bytes (f k) || b) (any_map ks)

  pub names_found : (ks : List V) (i : ℕ) → position (λ v. bytes_eq bytes (f v)) ks ≡ Some i → (list_any (bytes_eq bytes) (map f ks) ≡ true) × (i ≡ position_or_len (bytes_eq bytes) (map f ks))
  names_found ks i e = let h = found_at (λ v. bytes_eq bytes (f v)) ks i e in (any_map ks ∙ h.0, h.1 ∙ sym (place_map ks))

  pub names_absent : (ks : List V) → position (λ v. bytes_eq bytes (f v)) ks ≡ None → (list_any (bytes_eq bytes) (map f ks) ≡ false) × (position_or_len (bytes_eq bytes) (map f ks) ≡ length (map f ks))
  names_absent ks e = let h = absent_from (λ v. bytes_eq bytes (f v)) ks e in (any_map ks ∙ h.0, place_map ks ∙ h.1 ∙ sym (length-map ks f))

  pub names_with : (ks : List V) (i : ℕ) → position (λ v. bytes_eq bytes (f v)) ks ≡ Some i → map f ks ≡ with_last (bytes_eq bytes) bytes (map f ks)
  names_with ks i e = sym (with_last-found (bytes_eq bytes) bytes (map f ks) (names_found ks i e).0)

  -- the list after an insertion
  pub names_inserted_at : (ks new : List V) (key : V) → f key ≡ bytes → new ≡ cond (list_any (λ v. bytes_eq (f key) (f v)) ks) ks (ks ++ key ∷ []) → map f new ≡ with_last (bytes_eq bytes) bytes (map f ks)
  names_inserted_at ks new key same e = go (list_any (λ v. bytes_eq (f key) (f v)) ks) refl
    where
      any : list_any (λ v. bytes_eq (f key) (f v)) ks ≡ list_any (bytes_eq bytes) (map f ks)
      any = ap (λ b. list_any (λ v. bytes_eq b (f v)) ks) same ∙ sym (any_map ks)

      go : (b : Bool) → list_any (λ v. bytes_eq (f key) (f v)) ks ≡ b → map f new ≡ with_last (bytes_eq bytes) bytes (map f ks)
      go true h = ap (map f) (e ∙ rw h refl) ∙ sym (with_last-found (bytes_eq bytes) bytes (map f ks) (sym any ∙ h))
      go false h = ap (map f) (e ∙ rw h refl) ∙ map-append f ks (key ∷ []) ∙ ap (λ b. map f ks ++ b ∷ []) same ∙ sym (with_last-absent (bytes_eq bytes) bytes (map f ks) (sym any ∙ h))

  pub names_push : (ks new : List V) (key : V) → position (λ v. bytes_eq bytes (f v)) ks ≡ None → f key ≡ bytes → new ≡ cond (list_any (λ v. bytes_eq (f key) (f v)) ks) ks (ks ++ key ∷ []) → map f new ≡ with_last (bytes_eq bytes) bytes (map f ks)
  names_push ks new key none same e =
      let h = names_absent ks none in
      let any : list_any (λ v. bytes_eq (f key) (f v)) ks ≡ false = ap (λ b. list_any (λ v. bytes_eq b (f v)) ks) same ∙ sym (any_map ks) ∙ h.0 in
      rw (with_last-absent (bytes_eq bytes) bytes (map f ks) h.0) (ap (map f) (e ∙ rw any refl) ∙ map-append f ks (key ∷ []) ∙ ap (λ b. map f ks ++ b ∷ []) same)

-- the result for a checked value
pub checked_ok : {A : Type 0} (reason : Option Refusal) (x y : A) → Ok y ≡ checked reason x → (reason ≡ None) × (y ≡ x)
checked_ok None x y e = (refl, cc)
checked_ok (Some refusal) x y e = absurd cc

pub checked_err : {A : Type 0} (reason : Option Refusal) (x : A) (refusal : Refusal) → Err refusal ≡ checked reason x → reason ≡ Some refusal
checked_err None x refusal e = absurd cc
checked_err (Some other) x refusal e = let h : refusal ≡ other = cc in ap Some (sym h)

-- the first of several reasons
pub first_is : (a b : Option Refusal) (refusal : Refusal) → a ≡ Some refusal → first_reason a b ≡ Some refusal
first_is a b refusal e = rw e refl

pub first_passes : (a b : Option Refusal) → a ≡ None → first_reason a b ≡ b
first_passes a b e = rw e refl

pub names_inserted : {V : Type 0} (f : V → List ℕ) (ks new : List V) (key : V) → new ≡ cond (list_any (λ v. bytes_eq (f key) (f v)) ks) ks (ks ++ key ∷ []) → map f new ≡ with_last (bytes_eq (f key)) (f key) (map f ks)
names_inserted f ks new key e = names_inserted_at f (f key) ks new key refl e

-- the key of an entry
pub key_at : {K V : Type 0} (es : List (K × V)) (n : ℕ) (e : K × V) → slice_get es n ≡ Some e → slice_get (keys_of es) n ≡ Some e.0
key_at [] zero e at = absurd cc
key_at [] (suc n) e at = absurd cc
key_at (x ∷ es) zero e at = let same : x ≡ e = cc in ap (λ z. Some z.0) same
key_at (x ∷ es) (suc n) e at = key_at es n e at
