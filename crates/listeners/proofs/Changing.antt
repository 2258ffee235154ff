-- A table of uses in which the operands of an operation change.
use Rattle.std.proofs.Common.{Result, Ok, Err, OnOk, ◌≡◌, refl, ap, sym, ◌∙◌, subst, ℕ, ◌<◌, Bool, true, false, cond, not, ◌&&◌, ◌+◌, eqb, eqb-true, eq-eqb, length, take, drop, List, [], ◌∷◌, ◌++◌, append_assoc, map, Option, Some, None, arith}
use Rattle.std.specs.Prelude.{is_some}
use Rattle.std.specs.declared.alloc.AllocError.{AllocError}
use Rattle.std.proofs.lemmas.List.{map-append}
use Rattle.std.specs.List.{AllByRecursion}
use Rattle.std.specs.List.Sorted.{IsStrictlySortedBy}
use Rattle.std.specs.declared.cmp.Ordering.{Ordering}
use Rattle.std.specs.declared.cmp.Ordering.TheVariants.{Less, Equal, Greater}
use Rattle.std.specs.Ordering.{nat_cmp, is_eq, match_ordering, MatchOrdering}
use Rattle.std.specs.Cmp.{nat_cmp_total, ranks}
use Rattle.std.specs.Map.{lookup}
use Rattle.std.specs.Map as entries
use Rattle.std.specs.BTreeMap.{is_at, insert_entry}
use Rattle.std.specs.FinMap.{nat_cmp-IsAntisymmetric}
use Rattle.listeners_support.specs.Map.{IdMap}
use Rattle.listeners_support.specs.Map as idmap
use Rattle.std.proofs.lemmas.Bool.{ne_eqb}
use Rattle.ir_event.specs.trees.declared.value.Value.{Value}
use Rattle.listeners.specs.declared.key.Use.{Use}
use Rattle.listeners.specs.declared.key.UseKey.{UseKey}
use Rattle.listeners.specs.declared.user.User.{User}
use Rattle.listeners.specs.declared.operand_change.OperandChange.{OperandChange}
use Rattle.listeners.specs.Uses.{operand_uses, in_order}
use Rattle.listeners.specs.Keys.{key_of, keys_of}
use Rattle.listeners.specs.Others.{is_other, only, others}
use Rattle.listeners.specs.Listings.{operand_count, listed_uses, user_uses, forgotten}
use Rattle.listeners.specs.Tables.{changed_uses, is_unchanged}
use Rattle.listeners.proofs.Cutting.{moved_preceding}
use Rattle.listeners.proofs.Listed.{keys_joined}
use Rattle.listeners.proofs.Others.{after_alike, only_append, only_both, only_same, only_turned, own_in, own_only, own_out}
use Rattle.ir_event.proofs.of_types.Sorting.{flips_eq}
use Rattle.ir_event.proofs.of_types.Truths.{same_test}

apart : (x y : ℕ) (r : Ordering) → nat_cmp x y ≡ r → is_eq r ≡ false → eqb x y ≡ false
apart x y r e f = sym (same_test x y) ∙ ap is_eq e ∙ f

extra : (x y : ℕ) (ks : List ℕ) → nat_cmp x y ≡ Less → AllByRecursion (λ z. nat_cmp y z ≡ Less) ks → AllByRecursion (λ z. nat_cmp x z ≡ Less) ks
extra x y [] l a = tt
extra x y (k ∷ ks) l a = (nat_cmp_total.trans x y k l a.0, extra x y ks l a.1)

module _ (x : ℕ) where
  -- operations with ids above x aren't x
  above : (es : List (ℕ × OperandChange)) → AllByRecursion (λ y. nat_cmp x y ≡ Less) (entries.keys_of es) → others x (changed_uses es) ≡ changed_uses es
  above [] a = refl
  above (e ∷ es) a = only_append (is_other x) (operand_uses e.0 0 e.1.operands.items) (changed_uses es) ∙ λ i. own_in x e.0 0 e.1.operands.items (apart x e.0 Less a.0 refl) i ++ above es a.1 i

  -- new operands replace the old operands of an operation
  put_entry : (v : OperandChange) (es : List (ℕ × OperandChange)) (ws : List Use) → IsStrictlySortedBy nat_cmp (entries.keys_of es)
      → in_order (changed_uses (insert_entry nat_cmp es x v) ++ ws) ≡ in_order (operand_uses x 0 v.operands.items ++ (others x (changed_uses es) ++ ws))
  unfolding IsStrictlySortedBy
  put_entry v [] ws s = ap in_order (append_assoc (operand_uses x 0 v.operands.items) [] ws)
  put_entry v (e ∷ es) ws s = go (put_entry v es ws s.1) s.0 (nat_cmp x e.0) refl
    where
      own : List Use
      own = operand_uses x 0 v.operands.items

      here : List Use
      here = operand_uses e.0 0 e.1.operands.items

      go : in_order (changed_uses (insert_entry nat_cmp es x v) ++ ws) ≡ in_order (own ++ (others x (changed_uses es) ++ ws)) → AllByRecursion (λ z. nat_cmp e.0 z ≡ Less) (entries.keys_of es) → (r : Ordering) → nat_cmp x e.0 ≡ r
          → in_order (changed_uses (insert_entry nat_cmp (e ∷ es) x v) ++ ws) ≡ in_order (own ++ (others x (changed_uses (e ∷ es)) ++ ws))
      go later a Less l =
          ap (λ r. in_order (changed_uses (match_ordering r ((x, v) ∷ e ∷ es) ((e.0, v) ∷ es) (e ∷ insert_entry nat_cmp es x v)) ++ ws)) l
          ∙ ap in_order (append_assoc own (changed_uses (e ∷ es)) ws ∙ ap (λ k. own ++ (k ++ ws)) (sym (above (e ∷ es) (l, extra x e.0 (entries.keys_of es) l a))))
      go later a Equal l =
          let id : x ≡ e.0 = nat_cmp-IsAntisymmetric x e.0 l in
          let trailing : AllByRecursion (λ z. nat_cmp x z ≡ Less) (entries.keys_of es) = subst (λ y. AllByRecursion (λ z. nat_cmp y z ≡ Less) (entries.keys_of es)) (sym id) a in
          let out : others x here ≡ [] = ap (λ y. others x (operand_uses y 0 e.1.operands.items)) (sym id) ∙ own_out x 0 e.1.operands.items in
          let left : others x (changed_uses (e ∷ es)) ≡ changed_uses es = only_append (is_other x) here (changed_uses es) ∙ λ i. out i ++ above es trailing i in
          ap (λ r. in_order (changed_uses (match_ordering r ((x, v) ∷ e ∷ es) ((e.0, v) ∷ es) (e ∷ insert_entry nat_cmp es x v)) ++ ws)) l
          ∙ (λ i. in_order ((operand_uses (sym id i) 0 v.operands.items ++ changed_uses es) ++ ws))
          ∙ ap in_order (append_assoc own (changed_uses es) ws ∙ ap (λ k. own ++ (k ++ ws)) (sym left))
      go later a Greater l =
          let put : List Use = changed_uses (insert_entry nat_cmp es x v) in
          let stays : others x (changed_uses (e ∷ es)) ≡ here ++ others x (changed_uses es) = only_append (is_other x) here (changed_uses es) ∙ ap (λ k. k ++ others x (changed_uses es)) (own_in x e.0 0 e.1.operands.items (apart x e.0 Greater l refl)) in
          ap (λ r. in_order (changed_uses (match_ordering r ((x, v) ∷ e ∷ es) ((e.0, v) ∷ es) (e ∷ insert_entry nat_cmp es x v)) ++ ws)) l
          ∙ ap in_order (append_assoc here put ws)
          ∙ after_alike here (put ++ ws) (own ++ (others x (changed_uses es) ++ ws)) later
          ∙ moved_preceding here own (others x (changed_uses es) ++ ws)
          ∙ ap (λ k. in_order (own ++ k)) (sym (append_assoc here (others x (changed_uses es)) ws) ∙ ap (λ k. k ++ ws) (sym stays))

  -- the listed uses of unchanged operations, if x changed too
  now_unchanged : (old new : IdMap OperandChange) (v : OperandChange) (listed : List Use) → ((q : ℕ) → idmap.get new q ≡ cond (is_at (nat_cmp x) q) (Some v) (idmap.get old q))
      → only (is_unchanged new) listed ≡ others x (only (is_unchanged old) listed)
  now_unchanged old new v listed gets =
      only_same (is_unchanged new) (λ y. is_unchanged old y && is_other x y) listed (λ y. ap (λ o. not (is_some o)) (gets y) ∙ ap (λ b. not (is_some (cond b (Some v) (idmap.get old y)))) (same_test x y) ∙ one (eqb x y) (idmap.get old y))
      ∙ sym (only_both (is_other x) (is_unchanged old) listed)
    where
      one : (b : Bool) (o : Option OperandChange) → not (is_some (cond b (Some v) o)) ≡ (not (is_some o) && not b)
      one true None = refl
      one true (Some w) = refl
      one false None = refl
      one false (Some w) = refl

  pub put_table : (old new : IdMap OperandChange) (v : OperandChange) (listed : List Use) → idmap.IsOrdered old → new.entries ≡ insert_entry nat_cmp old.entries x v
      → ((q : ℕ) → idmap.get new q ≡ cond (is_at (nat_cmp x) q) (Some v) (idmap.get old q))
      → in_order (changed_uses new.entries ++ only (is_unchanged new) listed) ≡ in_order (operand_uses x 0 v.operands.items ++ others x (changed_uses old.entries ++ only (is_unchanged old) listed))
  put_table old new v listed ordered is gets =
      ap (λ es. in_order (changed_uses es ++ only (is_unchanged new) listed)) is
      ∙ put_entry v old.entries (only (is_unchanged new) listed) ordered
      ∙ ap (λ l. in_order (operand_uses x 0 v.operands.items ++ l))
      (ap (λ l. others x (changed_uses old.entries) ++ l) (now_unchanged old new v listed gets) ∙ sym (only_append (is_other x) (changed_uses old.entries) (only (is_unchanged old) listed)))

  -- an operation that isn't changed has no uses among the changed ones
  absent : (es : List (ℕ × OperandChange)) → lookup (is_at (nat_cmp x)) es ≡ None → others x (changed_uses es) ≡ changed_uses es
  absent [] h = refl
  absent (e ∷ es) h = go (absent es) (is_eq (nat_cmp x e.0)) refl
    where
      go : (lookup (is_at (nat_cmp x)) es ≡ None → others x (changed_uses es) ≡ changed_uses es) → (b : Bool) → is_eq (nat_cmp x e.0) ≡ b → others x (changed_uses (e ∷ es)) ≡ changed_uses (e ∷ es)
      go later true is = let bad : Some e.1 ≡ None = sym (ap (λ b. cond b (Some e.1) (lookup (is_at (nat_cmp x)) es)) is) ∙ h in absurd cc
      go later false is =
          let rest : lookup (is_at (nat_cmp x)) es ≡ None = sym (ap (λ b. cond b (Some e.1) (lookup (is_at (nat_cmp x)) es)) is) ∙ h in
          only_append (is_other x) (operand_uses e.0 0 e.1.operands.items) (changed_uses es) ∙ λ i. own_in x e.0 0 e.1.operands.items (sym (same_test x e.0) ∙ is) i ++ later rest i

  -- a use that is removed from the listing is removed from the table, if the operation is unchanged
  pub forget_table : (old new : IdMap OperandChange) (listed left : List Use) → idmap.get old x ≡ None → new.entries ≡ old.entries → left ≡ others x listed
      → in_order (changed_uses new.entries ++ only (is_unchanged new) left) ≡ in_order (others x (changed_uses old.entries ++ only (is_unchanged old) listed))
  forget_table old new listed left none same is =
      (λ i. in_order (changed_uses (same i) ++ only (λ y. not (is_some (lookup (is_at (nat_cmp y)) (same i)))) (is i)))
      ∙ ap in_order ((λ i. sym (absent old.entries none) i ++ only_turned (is_unchanged old) (is_other x) listed i) ∙ sym (only_append (is_other x) (changed_uses old.entries) (only (is_unchanged old) listed)))

  -- a listing with a user that isn't live any more
  forgotten_size : (u : User) → (forgotten x u).count ≡ u.count
  forgotten_size u = elim (eqb u.id x) as (λ b. (cond b (record u { live = false }) u).count ≡ u.count) [ true ↦ refl | false ↦ refl ]

  forgotten_count : (us : List User) → operand_count (map (forgotten x) us) ≡ operand_count us
  forgotten_count [] = refl
  forgotten_count (u ∷ us) = λ i. forgotten_size u i + forgotten_count us i

  forgotten_user : (u : User) (vs : List Value) → user_uses (forgotten x u) vs ≡ others x (user_uses u vs)
  forgotten_user u vs = go (eqb u.id x) refl
    where
      out : (b : Bool) → others x (operand_uses u.id 0 vs) ≡ [] → [] ≡ others x (cond b (operand_uses u.id 0 vs) [])
      out true e = sym e
      out false e = refl

      stays : (b : Bool) → others x (operand_uses u.id 0 vs) ≡ operand_uses u.id 0 vs → cond b (operand_uses u.id 0 vs) [] ≡ others x (cond b (operand_uses u.id 0 vs) [])
      stays true e = sym e
      stays false e = refl

      go : (b : Bool) → eqb u.id x ≡ b → user_uses (forgotten x u) vs ≡ others x (user_uses u vs)
      go true is =
          ap (λ b. user_uses (cond b (record u { live = false }) u) vs) is
          ∙ out u.live (ap (λ y. others x (operand_uses y 0 vs)) (eqb-true u.id x is) ∙ own_out x 0 vs)
      go false is = ap (λ b. user_uses (cond b (record u { live = false }) u) vs) is ∙ stays u.live (own_in x u.id 0 vs (flips_eq x u.id ∙ is))

  forgotten_uses : (us : List User) (vs : List Value) → listed_uses (map (forgotten x) us) vs ≡ others x (listed_uses us vs)
  forgotten_uses [] vs = refl
  forgotten_uses (u ∷ us) vs =
      (λ i. user_uses (forgotten x u) (take (forgotten_size u i) vs) ++ listed_uses (map (forgotten x) us) (drop (forgotten_size u i) vs))
      ∙ (λ i. forgotten_user u (take u.count vs) i ++ forgotten_uses us (drop u.count vs) i)
      ∙ sym (only_append (is_other x) (user_uses u (take u.count vs)) (listed_uses us (drop u.count vs)))

  pub forgets_count : (us ps : List User) (vs : List Value) → ps ≡ map (forgotten x) us → operand_count us ≡ length vs → operand_count ps ≡ length vs
  forgets_count us ps vs is h = ap operand_count is ∙ forgotten_count us ∙ h

  pub forgets_uses : (us ps : List User) (vs : List Value) → ps ≡ map (forgotten x) us → listed_uses ps vs ≡ others x (listed_uses us vs)
  forgets_uses us ps vs is = ap (λ l. listed_uses l vs) is ∙ forgotten_uses us vs

-- a table of listed uses only
all_left : (us : List Use) → only (λ x. true) us ≡ us
all_left [] = refl
all_left (u ∷ us) = ap (λ l. u ∷ l) (all_left us)

pub new_table : (m : IdMap OperandChange) (listed : List Use) → m.entries ≡ [] → changed_uses m.entries ++ only (is_unchanged m) listed ≡ listed
new_table m listed none = (λ i. changed_uses (none i) ++ only (λ x. not (is_some (lookup (is_at (nat_cmp x)) (none i)))) listed) ∙ all_left listed

-- the uses of a user that count
pub user_only : (p : ℕ → Bool) (u : User) (vs : List Value) → only p (user_uses u vs) ≡ cond u.live (cond (p u.id) (operand_uses u.id 0 vs) []) []
user_only p u vs = elim u.live as (λ b. only p (cond b (operand_uses u.id 0 vs) []) ≡ cond b (cond (p u.id) (operand_uses u.id 0 vs) []) []) [ true ↦ own_only p u.id 0 vs | false ↦ refl ]

pub user_dead : (p : ℕ → Bool) (u : User) (vs : List Value) → u.live ≡ false → only p (user_uses u vs) ≡ []
user_dead p u vs e = ap (λ b. only p (cond b (operand_uses u.id 0 vs) [])) e

pub user_hidden : (p : ℕ → Bool) (u : User) (vs : List Value) → p u.id ≡ false → only p (user_uses u vs) ≡ []
user_hidden p u vs e = user_only p u vs ∙ ap (λ b. cond u.live (cond b (operand_uses u.id 0 vs) []) []) e ∙ none u.live
  where
    none : (b : Bool) → ◌≡◌ {A = List Use} (cond b [] []) []
    none true = refl
    none false = refl

pub user_counts : (p : ℕ → Bool) (u : User) (vs : List Value) → u.live ≡ true → p u.id ≡ true → only p (user_uses u vs) ≡ operand_uses u.id 0 vs
user_counts p u vs live counts = user_only p u vs ∙ λ i. cond (live i) (cond (counts i) (operand_uses u.id 0 vs) []) []

-- the keys of listed uses, user by user
pub next_user : (p : ℕ → Bool) (u : User) (us : List User) (vs own trailing : List Value) (old new start : List UseKey) → own ≡ take u.count vs → trailing ≡ drop u.count vs
    → old ++ keys_of (only p (listed_uses (u ∷ us) vs)) ≡ start → new ≡ old ++ keys_of (only p (user_uses u own)) → new ++ keys_of (only p (listed_uses us trailing)) ≡ start
next_user p u us vs own trailing old new start preceding back was is =
    (λ i. is i ++ keys_of (only p (listed_uses us (back i))))
    ∙ append_assoc old (keys_of (only p (user_uses u own))) (keys_of (only p (listed_uses us (drop u.count vs))))
    ∙ ap (λ l. old ++ l) (
    (λ i. keys_of (only p (user_uses u (preceding i))) ++ keys_of (only p (listed_uses us (drop u.count vs))))
    ∙ sym (ap keys_of (only_append p (user_uses u (take u.count vs)) (listed_uses us (drop u.count vs))) ∙ keys_joined (only p (user_uses u (take u.count vs))) (only p (listed_uses us (drop u.count vs))))
    )
    ∙ was

-- the uses of changed operations in both parts of a map
changed_joined : (es fs : List (ℕ × OperandChange)) → changed_uses (es ++ fs) ≡ changed_uses es ++ changed_uses fs
changed_joined [] fs = refl
changed_joined (e ∷ es) fs = ap (λ us. operand_uses e.0 0 e.1.operands.items ++ us) (changed_joined es fs) ∙ sym (append_assoc (operand_uses e.0 0 e.1.operands.items) (changed_uses es) (changed_uses fs))

pub both_parts : (r : Result (Unit {0}) AllocError) (old mid new : List UseKey) (near far all : List (ℕ × OperandChange)) → all ≡ near ++ far → mid ≡ old ++ keys_of (changed_uses near) → OnOk r (new ≡ mid ++ keys_of (changed_uses far))
    → OnOk r (new ≡ old ++ keys_of (changed_uses all))
both_parts (Ok u) old mid new near far all is preceding back =
    back
    ∙ ap (λ ks. ks ++ keys_of (changed_uses far)) preceding
    ∙ append_assoc old (keys_of (changed_uses near)) (keys_of (changed_uses far))
    ∙ ap (λ ks. old ++ ks) (sym (map-append key_of (changed_uses near) (changed_uses far)) ∙ ap keys_of (sym (changed_joined near far)) ∙ ap (λ es. keys_of (changed_uses es)) (sym is))
both_parts (Err u) old mid new near far all is preceding back = tt
