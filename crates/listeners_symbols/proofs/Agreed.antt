-- A table that was updated after an event keeps the roles of the module after it.
use Rattle.std.proofs.Common.{◌≡◌, refl, ap, sym, ◌∙◌, subst, ℕ, suc, true, false, true≢false, cond, eqb, eq-eqb, eqb-true, List, [], ◌∷◌, length, map, get_or, Option, Some, None, inl, inr, arith}
use Rattle.std.specs.Prelude.{option_map, option_and_then, is_some, IfSome}
use Rattle.std.specs.List.{All, list_any}
use Rattle.std.proofs.lemmas.List.Elements.{All-head, All-tail}
use Rattle.ir_event.specs.types.Things.{ContextModel, IsExtendedBy, IsName, IsType, IsAttr}
use Rattle.ir_event.specs.types.Sound.{Holds, IsSound}
use Rattle.ir_event.specs.types.Terms.{TypeTerm, AttrTerm, name_term, type_term}
use Rattle.ir_event.proofs.of_types.Growth.{preceding_length, grows_refl}
use Rattle.ir_event.proofs.of_types.Terms.{name_stays, type_stays, attr_stays}
use Rattle.ir_event.specs.trees.declared.place.Place.{Place}
use Rattle.ir_event.specs.trees.Tree.{head}
use Rattle.ir_event.specs.trees.Ids.{HasDistinctIds, ids, find, has_id}
use Rattle.ir_event.specs.trees.Places.{place_of, without}
use Rattle.ir_event.specs.trees.Meaning.{Operation}
use Rattle.ir_event.specs.tree_laws.Reads.{parent_of}
use Rattle.ir_event.specs.tree_laws.Stands.{StepOf, op_with_path_id, stands, find_op_with_path, op_with_path, place_in}
use Rattle.ir_event.specs.tree_laws.Members.{In}
use Rattle.ir_event.proofs.of_tree_laws.Listed.{bool_cases}
use Rattle.ir_event.proofs.of_tree_laws.Members.{stand, member, same_stand, found_stands, stand_of_member}
use Rattle.ir_event.proofs.of_tree_laws.Around.{member_of_place, present_stand, stand_present, left_apart}
use Rattle.ir_event.proofs.of_tree_laws.Readings.{stands_find}
use Rattle.ir_event.specs.Bounds.{op_of}
use Rattle.ir_event.specs.Listener.{is_take}
use Rattle.ir_event.proofs.of_tree_laws.Without.{member_left}
use Rattle.ir_event.specs.Rows.{IsSymbol}
use Rattle.ir_event.specs.declared.event.Event.{Event}
use Rattle.ir_event.specs.declared.event.Event.TheVariants.{Put, Take, SetOperand, SetEntry, Shift}
use Rattle.ir_event.specs.Modules.{Module}
use Rattle.ir_event.specs.Step.{Step}
use Rattle.listeners_support.proofs.Moves.{left_id}
use Rattle.listeners_symbols.specs.declared.role.Role.{Role as Numbers}
use Rattle.listeners_symbols.specs.declared.role.Reference.{Reference}
use Rattle.listeners_symbols.specs.declared.role.Call.{Call}
use Rattle.listeners_symbols.specs.declared.role.Signature.{Signature}
use Rattle.listeners_symbols.specs.Roles.{OpWithPath, Role, parent_in, role, role_of}
use Rattle.listeners_symbols.specs.Table.{Table, Says, MaySay, HasParents, Keeps, IsKept, Renewed, Followed, RoleIsOf, ReferenceIsOf, CallIsOf, SignatureIsOf, role_meaning, reference_meaning, call_meaning, signature_meaning}
use Rattle.listeners_symbols.proofs.Meant.{references_meant, call_meant, function_meant}
use Rattle.listeners_symbols.proofs.Local.{far_roles, own_role}
use Rattle.listeners_symbols.proofs.Gathered.{parent_placed}
use Rattle.listeners_symbols.proofs.Omitted.{some_more, said, present}
use Rattle.listeners_symbols.proofs.Added.{renewed_parents}

-- ---- a context that grows
pub map_all : {X Y : Type 0} (P : X → Type 0) (f g : X → Y) (xs : List X) → All P xs → ((x : X) → P x → f x ≡ g x) → map f xs ≡ map g xs
map_all P f g [] a h = refl
map_all P f g (x ∷ xs) a h = λ i. h x (All-head P x xs a) i ∷ map_all P f g xs (All-tail P x xs a) h i

pub all_more : {X : Type 0} (P Q : X → Type 0) (xs : List X) → All P xs → ((x : X) → P x → Q x) → All Q xs
all_more P Q xs a h = λ k d l. h (get_or xs k d) (a k d l)

option_stays : {X Y : Type 0} (P : X → Type 0) (f g : X → Y) (o : Option X) → IfSome o P → ((x : X) → P x → f x ≡ g x) → option_map f o ≡ option_map g o
option_stays P f g None a h = refl
option_stays P f g (Some x) a h = ap Some (h x a)

somes : {X Y : Type 0} (f : X → Y) (xs : List X) → map (option_map f) (map Some xs) ≡ map Some (map f xs)
somes f [] = refl
somes f (x ∷ xs) = ap (λ l. Some (f x) ∷ l) (somes f xs)

module _ (b c : ContextModel) (holds : Holds b) (g : IsExtendedBy b c) where
  pub name_more : (n : ℕ) → IsName b n → IsName c n
  name_more n h = let l = preceding_length b.names c.names g.names in omega (arith, l, h)

  type_more : (n : ℕ) → IsType b n → IsType c n
  type_more n h = let l = preceding_length b.types c.types g.types in omega (arith, l, h)

  pub attr_more : (n : ℕ) → IsAttr b n → IsAttr c n
  attr_more n h = let l = preceding_length b.attrs c.attrs g.attrs in omega (arith, l, h)

  names_stay : (ns : List ℕ) → All (IsName b) ns → map (name_term c) ns ≡ map (name_term b) ns
  names_stay ns a = map_all (IsName b) (name_term c) (name_term b) ns a (λ n h. name_stays b c n g h)

  types_stay : (ns : List ℕ) → All (IsType b) ns → map (type_term c) ns ≡ map (type_term b) ns
  types_stay ns a = map_all (IsType b) (type_term c) (type_term b) ns a (λ n h. type_stays b c n g h)

  reference_stays : (p : Reference) → ReferenceIsOf b p → reference_meaning c p ≡ reference_meaning b p
  reference_stays p k = λ i. (attr_stays b c p.path holds g k.path i, names_stay p.parts.items k.parts i)

  call_stays : (k : Call) → CallIsOf b k → call_meaning c k ≡ call_meaning b k
  call_stays k h = λ i. record {
    callee = names_stay k.callee.items h.callee i;
    inputs = (somes (type_term c) k.inputs.items ∙ ap (map Some) (types_stay k.inputs.items h.inputs) ∙ sym (somes (type_term b) k.inputs.items)) i;
    outputs = types_stay k.outputs.items h.outputs i;
  }

  signature_stays : (s : Signature) → SignatureIsOf b s → signature_meaning c s ≡ signature_meaning b s
  signature_stays s h = λ i. (types_stay s.inputs.items h.inputs i, types_stay s.outputs.items h.outputs i)

  role_stays : (r : Numbers) → RoleIsOf b r → role_meaning c r ≡ role_meaning b r
  role_stays r h = λ i. record {
    parent = r.parent;
    home = r.home;
    table = r.table;
    is_table = r.is_table;
    symbol = option_stays (IsName b) (name_term c) (name_term b) r.symbol h.symbol (λ n k. name_stays b c n g k) i;
    name = option_stays (IsName b) (name_term c) (name_term b) r.name h.name (λ n k. name_stays b c n g k) i;
    is_private = r.is_private;
    references = (references_meant c r.references.items ∙ map_all (ReferenceIsOf b) (reference_meaning c) (reference_meaning b) r.references.items h.references reference_stays ∙ sym (references_meant b r.references.items)) i;
    call = (call_meant c r.call ∙ option_stays (CallIsOf b) (call_meaning c) (call_meaning b) r.call h.call call_stays ∙ sym (call_meant b r.call)) i;
    function = (function_meant c r.function ∙ option_stays (SignatureIsOf b) (signature_meaning c) (signature_meaning b) r.function h.function signature_stays ∙ sym (function_meant b r.function)) i;
  }

  pub role_more : (r : Numbers) → RoleIsOf b r → RoleIsOf c r
  role_more r h = record {
    symbol = some_more (IsName b) (IsName c) r.symbol h.symbol name_more;
    name = some_more (IsName b) (IsName c) r.name h.name name_more;
    references = all_more (ReferenceIsOf b) (ReferenceIsOf c) r.references.items h.references (λ p k. record { path = attr_more p.path k.path; is = subst IsSymbol (sym (attr_stays b c p.path holds g k.path)) k.is; parts = all_more (IsName b) (IsName c) p.parts.items k.parts name_more });
    call = some_more (CallIsOf b) (CallIsOf c) r.call h.call (λ k l. record { callee = all_more (IsName b) (IsName c) k.callee.items l.callee name_more; inputs = all_more (IsType b) (IsType c) k.inputs.items l.inputs type_more; outputs = all_more (IsType b) (IsType c) k.outputs.items l.outputs type_more });
    function = some_more (SignatureIsOf b) (SignatureIsOf c) r.function h.function (λ k l. record { inputs = all_more (IsType b) (IsType c) k.inputs.items l.inputs type_more; outputs = all_more (IsType b) (IsType c) k.outputs.items l.outputs type_more });
  }

  says_more : (r : Option Role) (k : Option Numbers) → Says b r k → Says c r k
  says_more r None s = record { is = s.is; known = tt }
  says_more r (Some k) s = record { is = ap Some (role_stays k s.known) ∙ s.is; known = role_more k s.known }

  may_more : (r : Option Role) (k : Option Numbers) → MaySay b r k → MaySay c r k
  may_more r k (inl s) = inl (says_more r k s)
  may_more r k (inr e) = inr e

  pub keeps_more : (t : Operation) (f : Table) → Keeps b t f → Keeps c t f
  keeps_more t f h = record { says = λ x. may_more (role_of t x) (f x) (h.says x); parents = h.parents }

-- ---- the place of an event's operation
stand_there : (x : ℕ) (t : Operation) (s : OpWithPath) → In s (stands [] t) → op_with_path_id s ≡ x → has_id x t ≡ true
stand_there x t s h i = ap (λ y. list_any (λ z. eqb z y) (ids t)) (sym i) ∙ stand_present [] t s h

place_there : (x : ℕ) (t : Operation) (place : Place) → place_of x t ≡ Some place → has_id x t ≡ true
place_there x t place e = let u = member_of_place x place t e in stand_there x t u.0 u.1 u.2

find_there : (x : ℕ) (t o : Operation) → find x t ≡ Some o → has_id x t ≡ true
find_there x t o e = let s = found_stands x t o e in stand_there x t s.0 s.1 s.2

mapped_there : {X : Type 0} (x : ℕ) (t : Operation) (f : Operation → Option X) (y : X) → option_and_then f (find x t) ≡ Some y → has_id x t ≡ true
mapped_there x t f y e = go (find x t) refl
  where
    go : (o : Option Operation) → find x t ≡ o → has_id x t ≡ true
    go (Some o) i = find_there x t o i
    go None i = (let no : None ≡ Some y = sym (ap (option_and_then f) i) ∙ e in absurd cc)

entry_there : {X : Type 0} (x : ℕ) (t : Operation) (f : Operation → X) (y : X) → option_map f (find x t) ≡ Some y → has_id x t ≡ true
entry_there x t f y e = go (find x t) refl
  where
    go : (o : Option Operation) → find x t ≡ o → has_id x t ≡ true
    go (Some o) i = find_there x t o i
    go None i = (let no : None ≡ Some y = sym (ap (option_map f) i) ∙ e in absurd cc)

-- no operation is its own parent
parent_apart : (t : Operation) → HasDistinctIds t → (x p : ℕ) → parent_of x t ≡ Some p → eqb x p ≡ false
parent_apart t d x p e = go (place_of x t) refl
  where
    go : (o : Option Place) → place_of x t ≡ o → eqb x p ≡ false
    go None i = (let no : None ≡ Some p = sym (ap (option_map (λ (l : Place). l.parent)) i) ∙ e in absurd cc)
    go (Some l) i = (let u = member_of_place x l t i in at_path u.0 u.1 u.2 u.0.path refl u.3)
      where
        at_path : (s : OpWithPath) → In s (stands [] t) → op_with_path_id s ≡ x → (path : List (StepOf (List ℕ) TypeTerm AttrTerm)) → s.path ≡ path → place_in s.path ≡ Some l → eqb x p ≡ false
        at_path s h j [] f k = (let no : None ≡ Some l = sym (ap place_in f) ∙ k in absurd cc)
        at_path s h j (a ∷ q) f k = elim (bool_cases (eqb x p)) [
          | inr n ↦ n
          | inl n ↦ (let placed = parent_placed t d s h a q f in
              let two : Some (head a.parent).id ≡ Some p = sym (ap (λ y. parent_of y t) (sym j) ∙ placed.0) ∙ e in
              let one : (head a.parent).id ≡ p = cc in
              let same = same_stand t d s (stand a.parent q) h placed.1 (j ∙ eqb-true x p n ∙ sym one) in
              let long : suc (length q) ≡ length q = ap length (sym f ∙ ap (λ (z : OpWithPath). z.path) same) in
              absurd (omega (arith, long)))
        ]

-- a removed operation has no role
taken_none : (x : ℕ) (t w : Operation) → w ≡ without x t → eqb (head t).id x ≡ false → role_of w x ≡ None
taken_none x t w is inner = go (op_with_path x w) refl
  where
    go : (o : Option OpWithPath) → op_with_path x w ≡ o → role_of w x ≡ None
    go None e = ap (option_map (role w)) e
    go (Some r) e =
        let m = member x (stands [] w) r e in
        let b = member_left x t r (subst (λ z. In r (stands [] z)) is m.0) in
        absurd (left_apart x t b.0 b.1 b.2 inner (sym (left_id x b.0) ∙ ap (λ (s : OpWithPath). op_with_path_id s) (sym b.3) ∙ m.1))

-- the parent of an operation with a role has a role
parent_there : (t : Operation) → HasDistinctIds t → (y p : ℕ) (q : Role) → role_of t y ≡ Some q → q.parent ≡ Some p → role_of t p ≡ None → ⊥
parent_there t d y p q is above none = go (op_with_path y t) refl
  where
    go : (o : Option OpWithPath) → op_with_path y t ≡ o → ⊥
    go None e = (let no : None ≡ Some q = sym (ap (option_map (role t)) e) ∙ is in absurd cc)
    go (Some s) e = on_path s.path refl
      where
        above_s : parent_in s.path ≡ Some p
        above_s =
            let two : Some (role t s) ≡ Some q = sym (ap (option_map (role t)) e) ∙ is in
            let one : role t s ≡ q = cc in
            ap (λ (z : Role). z.parent) one ∙ above

        on_path : (path : List (StepOf (List ℕ) TypeTerm AttrTerm)) → s.path ≡ path → ⊥
        on_path [] f = (let no : None ≡ Some p = sym (ap parent_in f) ∙ above_s in absurd cc)
        on_path (a ∷ l) f =
            let two : Some (head a.parent).id ≡ Some p = sym (ap parent_in f) ∙ above_s in
            let id : (head a.parent).id ≡ p = cc in
            let placed = parent_placed t d s (member y (stands [] t) s e).0 a l f in
            let there : role_of t p ≡ Some (role t (stand a.parent l)) = ap (role_of t) (sym id) ∙ ap (option_map (role t)) (stand_of_member t d (stand a.parent l) placed.1) in
            let no : None ≡ Some (role t (stand a.parent l)) = sym none ∙ there in
            absurd cc

-- ---- events
module _ (c : ContextModel) (e : Event) (m n : Module) (s : Step c e m n) (f g : Table) (h : Keeps c m.tree f) where
  renewed_keeps : (x : ℕ) → ((y : ℕ) → eqb x y ≡ false → role_of n.tree y ≡ role_of m.tree y) → has_id x n.tree ≡ true → Renewed c n.tree x f g → Keeps c n.tree g
  renewed_keeps x far there r = record { says = says; parents = renewed_parents c n.tree x f g r h.parents }
    where
      says : (y : ℕ) → MaySay c (role_of n.tree y) (g y)
      says y = elim (bool_cases (eqb x y)) [
        | inr apart ↦ subst (λ z. MaySay c (role_of n.tree y) z) (sym (r.others y apart)) (subst (λ z. MaySay c z (f y)) (sym (far y apart)) (h.says y))
        | inl same ↦ subst (λ z. MaySay c (role_of n.tree z) (g z)) (eqb-true x y same) (r.own there (λ p k. subst (λ z. Says c z (f p)) (sym (far p (parent_apart n.tree s.after.distinct x p k))) (present c (role_of m.tree p) (f p) (h.says p) (r.parent p k))))
      ]

  -- the table without the entry of an operation that has no role now
  dropped_keeps : (x : ℕ) → ((y : ℕ) → eqb x y ≡ false → role_of n.tree y ≡ role_of m.tree y) → role_of n.tree x ≡ None → ((y : ℕ) → g y ≡ cond (eqb x y) None (f y)) → Keeps c n.tree g
  dropped_keeps x far none r = record { says = says; parents = parents }
    where
      stays : (y : ℕ) → eqb x y ≡ false → g y ≡ f y
      stays y apart = r y ∙ ap (λ b. cond b None (f y)) apart

      gone : (y : ℕ) → eqb x y ≡ true → g y ≡ None
      gone y same = r y ∙ ap (λ b. cond b None (f y)) same

      says : (y : ℕ) → MaySay c (role_of n.tree y) (g y)
      says y = elim (bool_cases (eqb x y)) [
        | inr apart ↦ subst (λ z. MaySay c (role_of n.tree y) z) (sym (stays y apart)) (subst (λ z. MaySay c z (f y)) (sym (far y apart)) (h.says y))
        | inl same ↦ inl (record {
          is = ap (option_map (role_meaning c)) (gone y same) ∙ sym (ap (role_of n.tree) (sym (eqb-true x y same)) ∙ none);
          known = subst (λ o. IfSome o (RoleIsOf c)) (sym (gone y same)) tt;
        })
      ]

      before : (y : ℕ) (k : Numbers) → g y ≡ Some k → f y ≡ Some k
      before y k i = elim (bool_cases (eqb x y)) [
        | inr apart ↦ sym (stays y apart) ∙ i
        | inl same ↦ (let no : None ≡ Some k = sym (gone y same) ∙ i in absurd cc)
      ]

      now : (y : ℕ) (k : Numbers) → g y ≡ Some k → Says c (role_of n.tree y) (Some k)
      now y k i = said c (role_of n.tree y) k (subst (MaySay c (role_of n.tree y)) i (says y))

      above : (y : ℕ) (k : Numbers) → g y ≡ Some k → (o : Option ℕ) → k.parent ≡ o → IfSome o (λ p. is_some (g p) ≡ true)
      above y k i None j = tt
      above y k i (Some p) j = elim (bool_cases (eqb x p)) [
        | inr apart ↦ ap is_some (stays p apart) ∙ subst (λ o. IfSome o (λ z. is_some (f z) ≡ true)) j (h.parents y k (before y k i))
        | inl same ↦ absurd (parent_there n.tree s.after.distinct y p (role_meaning c k) (sym (now y k i).is) j (ap (role_of n.tree) (sym (eqb-true x p same)) ∙ none))
      ]

      parents : HasParents g
      parents y k i = above y k i k.parent refl

pub followed_keeps : (c : ContextModel) (e : Event) (m n : Module) → Step c e m n → (f g : Table) → Keeps c m.tree f → Followed c n.tree e f g → Keeps c n.tree g
followed_keeps c (Put x place fresh) m n s f g h r = renewed_keeps c (Put x place fresh) m n s f g h x (far_roles c (Put x place fresh) m n s) (place_there x n.tree place s.changes.there) r
followed_keeps c (Take x place fresh) m n s f g h r = dropped_keeps c (Take x place fresh) m n s f g h x (far_roles c (Take x place fresh) m n s) (taken_none x m.tree n.tree s.changes.left s.changes.inner) r
followed_keeps c (SetOperand x k old new) m n s f g h (inl r) = renewed_keeps c (SetOperand x k old new) m n s f g h x (far_roles c (SetOperand x k old new) m n s) (mapped_there x n.tree _ new s.changes.is) r
followed_keeps c (SetOperand x k old new) m n s f g h (inr r) = record {
  says = λ y. subst (λ z. MaySay c (role_of n.tree y) z) (sym (r.1 y)) (subst (λ z. MaySay c z (f y)) (sym (same y)) (h.says y));
  parents = subst HasParents (λ i y. sym (r.1 y) i) h.parents;
}
  where
    same : (y : ℕ) → role_of n.tree y ≡ role_of m.tree y
    same y = elim (bool_cases (eqb x y)) [
      | inr apart ↦ far_roles c (SetOperand x k old new) m n s y apart
      | inl is ↦ subst (λ z. role_of n.tree z ≡ role_of m.tree z) (eqb-true x y is) (own_role x k new m.tree n.tree s.changes.after r.0)
    ]
followed_keeps c (SetEntry x part key old new) m n s f g h r = renewed_keeps c (SetEntry x part key old new) m n s f g h x (far_roles c (SetEntry x part key old new) m n s) (entry_there x n.tree _ _ s.changes.is) r
followed_keeps c (Shift x old new) m n s f g h r = renewed_keeps c (Shift x old new) m n s f g h x (far_roles c (Shift x old new) m n s) (place_there x n.tree new s.changes.is) r

-- the table of a listener
pub followed_is_kept : (c : ContextModel) (e : Event) (m n : Module) → IsSound c → Step c e m n → (f g : Table) → IsKept c m.tree f → Followed c n.tree e f g → IsKept c n.tree g
followed_is_kept c e m n sound s f g h r = record {
  from = c;
  sound = sound;
  grown = grows_refl c;
  keeps = followed_keeps c e m n s f g (keeps_more h.from c h.sound.holds h.grown m.tree f h.keeps) r;
}

-- unless the event removes its operation, the operation is in the module afterwards
pub op_there : (c : ContextModel) (e : Event) (m n : Module) → Step c e m n → is_take e ≡ false → has_id (op_of e) n.tree ≡ true
op_there c (Put x place fresh) m n s k = place_there x n.tree place s.changes.there
op_there c (Take x place fresh) m n s k = absurd (true≢false k)
op_there c (SetOperand x k old new) m n s l = mapped_there x n.tree _ new s.changes.is
op_there c (SetEntry x part key old new) m n s k = entry_there x n.tree _ _ s.changes.is
op_there c (Shift x old new) m n s k = place_there x n.tree new s.changes.is

pub found_there : (x : ℕ) (t : Operation) → has_id x t ≡ true → (o : Operation) × (find x t ≡ Some o)
found_there x t e = go (find x t) refl
  where
    go : (o : Option Operation) → find x t ≡ o → (o : Operation) × (find x t ≡ Some o)
    go (Some o) i = (o, i)
    go None i =
        let s = present_stand [] t x e in
        let there : (r : OpWithPath) × (op_with_path x t ≡ Some r) = first_stand (stands [] t) s.0 s.1 s.2 in
        let no : Some there.0.here ≡ None = sym (ap (option_map (λ (z : OpWithPath). z.here)) there.1) ∙ stands_find x [] t ∙ i in
        absurd cc
      where
        first_stand : (ss : List OpWithPath) (s : OpWithPath) → In s ss → op_with_path_id s ≡ x → (r : OpWithPath) × (find_op_with_path x ss ≡ Some r)
        first_stand [] s h j = absurd h
        first_stand (u ∷ us) s h j = elim (bool_cases (eqb (op_with_path_id u) x)) [
          | inl k ↦ (u, ap (λ b. cond b (Some u) (find_op_with_path x us)) k)
          | inr k ↦ elim h [
            | inl l ↦ absurd (true≢false (sym (eq-eqb (op_with_path_id u) x (ap (λ (z : OpWithPath). op_with_path_id z) (sym l) ∙ j)) ∙ k))
            | inr l ↦ (let w = first_stand us s l j in (w.0, ap (λ b. cond b (Some u) (find_op_with_path x us)) k ∙ w.1))
          ]
        ]
