-- The stored form of a node, and the reason that a node is refused.
use Rattle.std.proofs.Common.{◌≡◌, ◌∙◌, refl, sym, ap, subst, ℕ, ◌<◌, ◌≤◌, Bool, true, false, true≢false, List, length, map, Some, None, Ok, Err, le-leb, leb-true, arith}
use Rattle.std.specs.Prelude.{IfOk, OnOk, OnErr, IsErr, nat_le, Option, Result, IsErrAnd, if◌then◌else◌}
use Rattle.std.specs.List.{list_any, position_or_len}
use Rattle.ir_types.specs.declared.node.AttrNode.{AttrNode}
use Rattle.ir_types.specs.declared.node.AttrNode.TheVariants as attr
use Rattle.ir_types.specs.declared.refusal.Refusal.TheVariants.{TooMany, DuplicateKey}
use Rattle.ir_types.specs.Dictionaries.{kept, sorted, has_duplicate}
use Rattle.ir_types.specs.Things.{ContextModel}
use Rattle.ir_types.specs.Terms.{attr_node_term}
use Rattle.ir_types.specs.Same.{same_attr}
use Rattle.ir_types.specs.declared.refusal.Refusal.{Refusal}
use Rattle.ir_types.specs.Reasons.{checked, dictionary_reason, first_reason, instead, count_reason, key_reason, full_reason, attr_fault, attr_reason, IsRefusedFor}
use Rattle.ir_types.specs.Sound.{Holds, IsKept}
use Rattle.ir_types.proofs.SameNodes.{same_attr_is}
use Rattle.ir_types.proofs.Placing.{found_there}
use Rattle.ir_types.proofs.Sorting.{moved_duplicate, sorted_moves, rising_twinless}
use Rattle.ir_types.specs.Limits.{most_things, most_entries}

-- a node that isn't a dictionary is stored unchanged
pub plain_kept : (names : List (List ℕ)) (n : ℕ) (node : AttrNode) → ((es : List (ℕ × ℕ)) → node ≡ attr.Dict es → ⊥) → (Ok node ≡ checked (dictionary_reason n node) (kept names node)) × IsKept names node
unfolding kept
plain_kept names n (attr.Dict es) other = absurd (other es refl)
plain_kept names n (attr.Int ty value) other = (refl, tt)
plain_kept names n (attr.Str name) other = (refl, tt)
plain_kept names n (attr.Ty ty) other = (refl, tt)
plain_kept names n attr.Unit other = (refl, tt)
plain_kept names n (attr.Array items) other = (refl, tt)
plain_kept names n (attr.Sym parts) other = (refl, tt)
plain_kept names n (attr.Dense elem values) other = (refl, tt)
plain_kept names n (attr.Overflow nsw nuw) other = (refl, tt)
plain_kept names n (attr.Opaque text ty) other = (refl, tt)

module _ (names : List (List ℕ)) (n : ℕ) (node : AttrNode) (es : List (ℕ × ℕ)) (is : node ≡ attr.Dict es) (few : length es ≤ most_entries) where
  -- a dictionary without duplicate keys is stored sorted
  pub dictionary_kept : (ns : List (ℕ × ℕ)) → has_duplicate (map (λ (e : ℕ × ℕ). e.0) es) ≡ false → ns ≡ sorted names es → Ok (attr.Dict ns) ≡ checked (dictionary_reason n node) (kept names node)
  unfolding kept
  dictionary_kept ns none e = rw (is, le-leb (length es) most_entries few, none) (ap (λ l. Ok (attr.Dict l)) e)

  -- a dictionary with a duplicate key is refused
  pub dictionary_duplicate : has_duplicate (map (λ (e : ℕ × ℕ). e.0) es) ≡ true → n < most_things → Err DuplicateKey ≡ checked (dictionary_reason n node) (kept names node)
  dictionary_duplicate duplicate headroom =
      let small : nat_le most_things n ≡ false = go (nat_le most_things n) refl in
      rw (is, le-leb (length es) most_entries few, duplicate, small) refl
    where
      go : (b : Bool) → nat_le most_things n ≡ b → nat_le most_things n ≡ false
      go true h = absurd (omega (arith, leb-true most_things n h))
      go false h = h

-- a dictionary with a duplicate key is never in the context
pub never_there : (c : ContextModel) → Holds c → (es : List (ℕ × ℕ)) → has_duplicate (map (λ (e : ℕ × ℕ). e.0) es) ≡ true → list_any (same_attr (attr.Dict (sorted c.names es))) c.attrs ≡ false
never_there c h es duplicate = go (list_any (same_attr (attr.Dict (sorted c.names es))) c.attrs) refl
  where
    go : (b : Bool) → list_any (same_attr (attr.Dict (sorted c.names es))) c.attrs ≡ b → list_any (same_attr (attr.Dict (sorted c.names es))) c.attrs ≡ false
    go false p = p
    go true p =
        let held : IsKept c.names (attr.Dict (sorted c.names es)) = h.attrs_kept (position_or_len (same_attr (attr.Dict (sorted c.names es))) c.attrs) (attr.Dict (sorted c.names es)) (found_there same_attr same_attr_is (attr.Dict (sorted c.names es)) c.attrs p) in
        absurd (true≢false (sym duplicate ∙ moved_duplicate es (sorted c.names es) (sorted_moves c.names es) ∙ rising_twinless c.names (sorted c.names es) held.1))

-- the reasons of the call and those of its parts
tail_of : (count full key : Option Refusal) (n : ℕ) → ((refusal : Refusal) → key ≡ Some refusal → full ≡ (if nat_le most_things n then Some TooMany else None)) → (refusal : Refusal) → first_reason count (instead n key) ≡ Some refusal → first_reason count (first_reason full key) ≡ Some refusal
tail_of (Some r) full key n there refusal e = e
tail_of None full None n there refusal e = absurd cc
tail_of None full (Some k) n there refusal e = go (nat_le most_things n) refl
  where
    go : (b : Bool) → nat_le most_things n ≡ b → first_reason full (Some k) ≡ Some refusal
    go true h = let l : full ≡ Some TooMany = there k refl ∙ rw h refl in let m : Some TooMany ≡ Some refusal = rw h at e in rw l m
    go false h = let l : full ≡ None = there k refl ∙ rw h refl in let m : Some k ≡ Some refusal = rw h at e in rw l m

nothing_tail : (count full key : Option Refusal) (n : ℕ) → first_reason count (instead n key) ≡ None → first_reason count (first_reason full key) ≡ full
nothing_tail (Some r) full key n e = absurd cc
nothing_tail None None None n e = refl
nothing_tail None (Some r) None n e = refl
nothing_tail None full (Some k) n e = go (nat_le most_things n) refl
  where
    go : (b : Bool) → nat_le most_things n ≡ b → first_reason full (Some k) ≡ full
    go true h = absurd (let m : Some TooMany ≡ None = rw h at e in cc)
    go false h = absurd (let m : Some k ≡ None = rw h at e in cc)

full_where : (c : ContextModel) → Holds c → (node : AttrNode) (refusal : Refusal) → key_reason node ≡ Some refusal → full_reason (same_attr (kept c.names node)) c.attrs ≡ (if nat_le most_things (length c.attrs) then Some TooMany else None)
unfolding kept
full_where c h (attr.Dict es) refusal e = go (has_duplicate (map (λ (x : ℕ × ℕ). x.0) es)) refl
  where
    go : (b : Bool) → has_duplicate (map (λ (x : ℕ × ℕ). x.0) es) ≡ b → full_reason (same_attr (attr.Dict (sorted c.names es))) c.attrs ≡ (if nat_le most_things (length c.attrs) then Some TooMany else None)
    go true p = rw (never_there c h es p) refl
    go false p = absurd (let m : None ≡ Some refusal = rw p at e in cc)
full_where c h _ refusal e = absurd cc

module _ (c : ContextModel) (h : Holds c) (node : AttrNode) where
  pub fault_refuses : (refusal : Refusal) → attr_fault (attr_node_term c node) ≡ Some refusal → attr_reason node c ≡ Some refusal
  fault_refuses refusal e = rw e refl

  pub dictionary_refuses : attr_fault (attr_node_term c node) ≡ None → (refusal : Refusal) → dictionary_reason (length c.attrs) node ≡ Some refusal → attr_reason node c ≡ Some refusal
  dictionary_refuses fine refusal e = rw fine (tail_of (count_reason node) (full_reason (same_attr (kept c.names node)) c.attrs) (key_reason node) (length c.attrs) (full_where c h node) refusal e)

  pub full_refuses : attr_fault (attr_node_term c node) ≡ None → dictionary_reason (length c.attrs) node ≡ None → attr_reason node c ≡ full_reason (same_attr (kept c.names node)) c.attrs
  full_refuses fine e = rw fine (nothing_tail (count_reason node) (full_reason (same_attr (kept c.names node)) c.attrs) (key_reason node) (length c.attrs) e)

-- the same refusal of another call
pub refused_as : (A B : Type 0) (reason : Option Refusal) (refusal : Refusal) → IsRefusedFor {A = A} reason (Err refusal) → IsRefusedFor {A = B} reason (Err refusal)
refused_as A B None refusal h = h
refused_as A B (Some r) refusal h = let e : refusal ≡ r = cc in ap Err e

-- `?` returns the refusal unchanged
pub handed_on : (A : Type 0) (result : Result A Refusal) (refusal : Refusal) → IsErrAnd result (λ r. r ≡ refusal) → result ≡ Err refusal
handed_on A (Ok x) refusal h = absurd h
handed_on A (Err r) refusal h = ap Err h

pub refused_by : (A : Type 0) (result : Result A Refusal) (reason : Option Refusal) (refusal : Refusal) → IsErrAnd result (λ r. r ≡ refusal) → IsRefusedFor {A = A} reason (Err refusal) → IsRefusedFor {A = A} reason result
refused_by A result reason refusal h k = subst (IsRefusedFor {A = A} reason) (sym (handed_on A result refusal h)) k

-- a call with a reason against it is refused
pub never : {A : Type 0} (reason : Option Refusal) (refusal : Refusal) → reason ≡ Some refusal → reason ≡ None → A
never reason refusal e f = absurd (let k : Some refusal ≡ None = sym e ∙ f in cc)

-- a call that returns a refusal isn't accepted, and satisfies the contract of a refusal
pub not_ok : (A : Type 0) (P : A → Type 0) (result : Result A Refusal) (refusal : Refusal) → IsErrAnd result (λ r. r ≡ refusal) → IfOk result P
not_ok A P (Ok x) refusal h = absurd h
not_ok A P (Err r) refusal h = tt

pub none_if_err : (A : Type 0) (P : A → Type 0) (result : Result A Refusal) → IsErr result → IfOk result P
none_if_err A P (Ok x) h = absurd (true≢false (sym h))
none_if_err A P (Err r) h = tt

pub none_on_err : (A : Type 0) (P : Type 0) (result : Result A Refusal) → IsErr result → OnOk result P
none_on_err A P (Ok x) h = absurd (true≢false (sym h))
none_on_err A P (Err r) h = tt

pub on_err : (A : Type 0) {P : Type 0} (result : Result A Refusal) → P → OnErr result P
on_err A (Ok x) p = tt
on_err A (Err r) p = p
