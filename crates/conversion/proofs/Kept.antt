-- Casting back applies at a cast if it applied there before heads were changed and an operation was taken out, unless
-- the head of the cast or of its operand's defining operation changed.
use Rattle.std.proofs.Common.{◌≡◌, refl, ap, sym, ◌∙◌, subst, inl, inr, ◌⊎◌, ℕ, Bool, true, false, true≢false, cond, ◌&&◌, eqb, eq-eqb, List, [], ◌∷◌, Option, Some, None, option_map}
use Rattle.std.specs.Option.{option_eq}
use Rattle.std.proofs.lemmas.Slice.Eq.{bytes_eq-Decides}
use Rattle.ir_event.specs.types.SameTypes.{same_type}
use Rattle.ir_event.specs.types.Terms.{TypeTerm, AttrTerm}
use Rattle.ir_event.specs.trees.declared.value.Value.{Value}
use Rattle.ir_event.specs.trees.declared.value.Value.TheVariants.{Result, Arg}
use Rattle.ir_event.specs.trees.declared.place.Place.{Place}
use Rattle.ir_event.specs.trees.Tree.{op, head, regions}
use Rattle.ir_event.specs.trees.Ids.{HasDistinctIds, find, has_id}
use Rattle.ir_event.specs.trees.Places.{place_of}
use Rattle.ir_event.specs.trees.Meaning.{Operation}
use Rattle.ir_event.specs.store.Nodes.{NodeOf, node_of, regions_arguments}
use Rattle.ir_event.specs.tree_laws.Members.{In}
use Rattle.ir_event.specs.tree_laws.Stands.{OpWithPathOf, op_with_path_id, stands}
use Rattle.ir_event.proofs.of_tree_laws.Around.{place_of_member, present_stand}
use Rattle.ir_event.proofs.of_tree_laws.Listed.{both}
use Rattle.ir_event.proofs.of_tree_laws.Members.{stand, has_around}
use Rattle.ir_event.specs.Modules.{Module}
use Rattle.patterns_base.specs.Contents.{Edit}
use Rattle.patterns_base.specs.declared.rule.Rule.TheVariants.{CastBack}
use Rattle.patterns_base.specs.Casting.{cast_back, unrealized, back_from, through_index}
use Rattle.patterns_base.specs.Keeps.{given}
use Rattle.patterns_base.specs.Looks.{Header, One, insertion_of, defining_op, insertion_point, is_verified, is_of_type, one, one_from, source, type_of, when}
use Rattle.patterns_base.specs.Makes.{give}
use Rattle.patterns_base.specs.Rules.{rule}
use Rattle.patterns_base.specs.Rewrites.{edits_of, eligible}
use Rattle.patterns_base.specs.Words.{named, among, index_casts}
use Rattle.conversion_base.specs.Reconciling.{is_cast, is_cast_found}
use Rattle.conversion_base.specs.Targets.{cast_name}
use Rattle.conversion_base.proofs.Falls.{found_id, rule_is}
use Rattle.conversion_base.proofs.Makes.{given_some}
use Rattle.conversion.proofs.Verified.{verified_alike}
use Rattle.conversion.proofs.From.{From, type_back}
use Rattle.patterns_base.proofs.Facts.{when_some}

-- ---- when casting back applies at a cast

edits_are : (m : Module) (x : ℕ) → edits_of CastBack m x ≡ given (find x m.tree) (λ o. given (insertion_of x m.tree) (λ insertion. when (is_verified m.tree (head o)) (rule CastBack m.tree m.next insertion o)))
unfolding edits_of eligible
edits_are m x = refl

-- its operand has the type of the result; or a cast defines the operand, and the operand of that cast has that type
abbrev CastCases : Operation → One → Type 0
CastCases t p =
    (is_of_type t p.ty p.first ≡ true) ⊎ ((y : Header) × (q : One) × (defining_op t p.first ≡ Some y) × (named p.name y.name ≡ true) × (is_verified t y ≡ true) × (one y ≡ Some q) × (is_of_type t p.ty q.first ≡ true))

source_some : (t : Operation) (name : List ℕ) (v : Value) (y : Header) → source t name v ≡ Some y → (defining_op t v ≡ Some y) × (named name y.name ≡ true) × (is_verified t y ≡ true)
source_some t name v y e =
    let g = given_some (defining_op t v) (λ h. when (named name h.name && is_verified t h) (Some h)) y e in
    let w = when_some (named name g.0.name && is_verified t g.0) (Some g.0) y g.2 in
    let same : g.0 ≡ y = (let s : Some g.0 ≡ Some y = w.1 in cc) in
    let b = both (named name g.0.name) (is_verified t g.0) w.0 in
    (g.1 ∙ ap Some same, ap (λ (h : Header). named name h.name) (sym same) ∙ b.0, ap (is_verified t) (sym same) ∙ b.1)

module _ (t : Operation) (n : ℕ) (insertion : Place) (o : Operation) (p : One) where
  way_from : (es : List Edit) → unrealized t n insertion o p ≡ Some es → CastCases t p
  way_from es e = go (is_of_type t p.ty p.first) refl e
    where
      go : (b : Bool) → is_of_type t p.ty p.first ≡ b → cond b (Some (give (head o).id p.first)) (given (source t p.name p.first) (λ y. given (one y) (back_from t n insertion o p))) ≡ Some es → CastCases t p
      go true i k = inl i
      go false i k =
          (let y = given_some (source t p.name p.first) _ es k in
          let q = given_some (one y.0) _ es y.2 in
          let w = when_some (is_of_type t p.ty q.0.first) (Some (give (head o).id q.0.first)) es q.2 in
          let s = source_some t p.name p.first y.0 y.1 in
          inr (y.0, q.0, s.0, s.1, s.2, q.1, w.0))

  way_to : CastCases t p → unrealized t n insertion o p ≡ None → ⊥
  way_to (inl i) e = (let k : Some (give (head o).id p.first) ≡ None = sym (ap (λ b. cond b (Some (give (head o).id p.first)) (given (source t p.name p.first) (λ y. given (one y) (back_from t n insertion o p)))) i) ∙ e in absurd cc)
  way_to (inr w) e = go (is_of_type t p.ty p.first) e
    where
      some : Option (List Edit)
      some = Some (give (head o).id w.1.first)

      sourced : source t p.name p.first ≡ Some w.0
      sourced = ap (λ a. given a (λ h. when (named p.name h.name && is_verified t h) (Some h))) w.2 ∙ ap (λ b. when b (Some w.0)) (λ i. w.3 i && w.4 i)

      back : given (source t p.name p.first) (λ y. given (one y) (back_from t n insertion o p)) ≡ Some (give (head o).id w.1.first)
      back =
          ap (λ a. given a (λ y. given (one y) (back_from t n insertion o p))) sourced
          ∙ ap (λ a. given a (back_from t n insertion o p)) w.5
          ∙ ap (λ b. when b (Some (give (head o).id w.1.first))) w.6

      go : (b : Bool) → cond b (Some (give (head o).id p.first)) (given (source t p.name p.first) (λ y. given (one y) (back_from t n insertion o p))) ≡ None → ⊥
      go true k = absurd cc
      go false k = (let none : Some (give (head o).id w.1.first) ≡ None = sym back ∙ k in absurd cc)

-- casting back at a cast gives that
rule_at : (t : Operation) (n : ℕ) (insertion : Place) (o : Operation) (p : One) → one (head o) ≡ Some p → named cast_name p.name ≡ true → rule CastBack t n insertion o ≡ unrealized t n insertion o p
rule_at t n insertion o p e c = rule_is t n insertion o ∙ ap (λ a. given a of) e ∙ ap (λ b. cond b (unrealized t n insertion o p) (when (among index_casts p.name) (through_index t n insertion o p))) c
  where
    of : One → Option (List Edit)
    of q = cond (named cast_name q.name) (unrealized t n insertion o q) (when (among index_casts q.name) (through_index t n insertion o q))

session_setting_at : (t : Operation) (n : ℕ) (insertion : Place) (o : Operation) (p : One) → one (head o) ≡ Some p → named cast_name p.name ≡ true → (es : List Edit) → rule CastBack t n insertion o ≡ Some es → CastCases t p
session_setting_at t n insertion o p e c es r = way_from t n insertion o p es (sym (rule_at t n insertion o p e c) ∙ r)

one_name : (name : List ℕ) (vs : List Value) (ts : List TypeTerm) (p : One) → one_from name vs ts ≡ Some p → (p.name ≡ name) × (vs ≡ p.first ∷ [])
one_name name [] ts p e = absurd cc
one_name name (a ∷ []) [] p e = absurd cc
one_name name (a ∷ []) (ty ∷ []) p e = (let same : record { name = name; first = a; ty = ty } ≡ p = cc in (ap (λ (q : One). q.name) (sym same), ap (λ (q : One). q.first ∷ []) same))
one_name name (a ∷ []) (ty ∷ u ∷ ts) p e = absurd cc
one_name name (a ∷ b ∷ vs) ts p e = absurd cc

-- casting back applies at a cast
record Collapses (m : Module) (x : ℕ) : Type 0 where
  here : Operation
  insertion : Place
  found : find x m.tree ≡ Some here
  at : insertion_of x m.tree ≡ Some insertion
  verified : is_verified m.tree (head here) ≡ true
  ends : One
  one_is : one (head here) ≡ Some ends
  cast_case : CastCases m.tree ends

named_cast : (x : ℕ) (t o : Operation) → is_cast x t ≡ true → find x t ≡ Some o → named cast_name (head o).name ≡ true
named_cast x t o c f = sym (ap is_cast_found f) ∙ c

collapses_from : (m : Module) (x : ℕ) (es : List Edit) → is_cast x m.tree ≡ true → edits_of CastBack m x ≡ Some es → Collapses m x
collapses_from m x es c e =
    let o = given_some (find x m.tree) _ es (sym (edits_are m x) ∙ e) in
    let f = given_some (insertion_of x m.tree) _ es o.2 in
    let w = when_some (is_verified m.tree (head o.0)) _ es f.2 in
    let r : cast_back m.tree m.next f.0 o.0 ≡ Some es = sym (rule_is m.tree m.next f.0 o.0) ∙ w.1 in
    let p = given_some (one (head o.0)) _ es r in
    let name = one_name (head o.0).name (head o.0).operands (head o.0).results p.0 p.1 in
    let cast = ap (named cast_name) name.0 ∙ named_cast x m.tree o.0 c o.1 in
    record {
      here = o.0;
      insertion = f.0;
      found = o.1;
      at = f.1;
      verified = w.0;
      ends = p.0;
      one_is = p.1;
      cast_case = session_setting_at m.tree m.next f.0 o.0 p.0 p.1 cast es w.1;
    }

collapses_to : (m : Module) (x : ℕ) → is_cast x m.tree ≡ true → Collapses m x → edits_of CastBack m x ≡ None → ⊥
collapses_to m x c k e =
    let name = one_name (head k.here).name (head k.here).operands (head k.here).results k.ends k.one_is in
    let cast = ap (named cast_name) name.0 ∙ named_cast x m.tree k.here c k.found in
    way_to m.tree m.next k.insertion k.here k.ends k.cast_case (
    sym (rule_at m.tree m.next k.insertion k.here k.ends k.one_is cast)
    ∙ sym (ap (λ b. when b (rule CastBack m.tree m.next k.insertion k.here)) k.verified)
    ∙ sym (ap (λ a. given a (λ insertion. when (is_verified m.tree (head k.here)) (rule CastBack m.tree m.next insertion k.here))) k.at)
    ∙ sym (ap (λ a. given a (λ o. given (insertion_of x m.tree) (λ insertion. when (is_verified m.tree (head o)) (rule CastBack m.tree m.next insertion o)))) k.found)
    ∙ sym (edits_are m x)
    ∙ e)

-- an operation that isn't the root has a place
placed : (t : Operation) → HasDistinctIds t → (x : ℕ) → has_id x t ≡ true → eqb (head t).id x ≡ false → (f : Place) × (insertion_of x t ≡ Some f)
placed t d x h root =
    let s = present_stand [] t x h in
    elim (has_around [] t s.0 s.1) [
      | inl k ↦ absurd (true≢false (sym (eq-eqb (head t).id x (ap (λ (z : OpWithPathOf (List ℕ) TypeTerm AttrTerm). op_with_path_id z) (sym k) ∙ s.2)) ∙ root))
      | inr w ↦
          let mem : In (stand s.0.here (w.0 ∷ w.1)) (stands [] t) = subst (λ l. In (stand s.0.here l) (stands [] t)) w.2 s.1 in
          let at = place_of_member t d s.0.here w.0 w.1 mem in
          (_, ap (option_map (insertion_point x)) (ap (λ z. place_of z t) (sym s.2) ∙ at))
    ]

-- ---- from one tree to another

same_head : (o p : Operation) → node_of o ≡ node_of p → head o ≡ head p
same_head (op h rs) (op k qs) e = ap (λ (u : NodeOf (List ℕ) TypeTerm AttrTerm). u.head) e

same_node : (o p : Operation) → head o ≡ head p → regions_arguments (regions o) ≡ regions_arguments (regions p) → node_of o ≡ node_of p
same_node (op h rs) (op k qs) e f = λ i. record { head = e i; arguments = f i }

module _ (f : Header → Header) (results : (h : Header) → (f h).results ≡ h.results) (m n : Module) (from : From f m.tree n.tree) (d : HasDistinctIds m.tree) where
  of_type_back : (ty : TypeTerm) (v : Value) → is_of_type n.tree ty v ≡ true → is_of_type m.tree ty v ≡ true
  of_type_back ty v e = go (type_of n.tree v) refl e
    where
      go : (a : Option TypeTerm) → type_of n.tree v ≡ a → option_eq same_type a (Some ty) ≡ true → option_eq same_type (type_of m.tree v) (Some ty) ≡ true
      go None i k = absurd (true≢false (sym k))
      go (Some u) i k = ap (λ b. option_eq same_type b (Some ty)) (type_back f results m.tree n.tree from v u i) ∙ k

  -- the defining operation of a value keeps its head
  record Given (g : ℕ) (y : Header) : Type 0 where
    now : Operation
    was : Operation
    found : find g n.tree ≡ Some now
    found_was : find g m.tree ≡ Some was
    is : head now ≡ y
    same : node_of now ≡ node_of was

  module _ (z : ℕ) (fixed : (p : Operation) → find z m.tree ≡ Some p → f (head p) ≡ head p)
      (given_fixed : (p : Operation) → find z m.tree ≡ Some p → (g k : ℕ) → In (Result g k) (head p).operands → (q : Operation) → find g m.tree ≡ Some q → f (head q) ≡ head q) where
    defining_op_was : (p : Operation) → find z m.tree ≡ Some p → (g k : ℕ) → In (Result g k) (head p).operands → (y : Header) → (a : Option Operation) → find g n.tree ≡ a → option_map head a ≡ Some y → Given g y
    defining_op_was p e g k h y None i j = absurd cc
    defining_op_was p e g k h y (Some o) i j =
        (let w = from g o i in
        let same : head o ≡ y = cc in
        record { now = o; was = w.was; found = i; found_was = w.found; is = same; same = same_node o w.was (w.is ∙ given_fixed p e g k h w.was w.found) w.arguments })

    way_back : (p : Operation) → find z m.tree ≡ Some p → (ends : One) → In ends.first (head p).operands → named cast_name ends.name ≡ true → CastCases n.tree ends → CastCases m.tree ends
    way_back p e ends h c (inl i) = inl (of_type_back ends.ty ends.first i)
    way_back p e ends h c (inr w) = inr (given_back ends.first h w.0 w.1 w.2 w.3 w.4 w.5 w.6)
      where
        given_back : (v : Value) → In v (head p).operands → (y : Header) (q : One) → defining_op n.tree v ≡ Some y → named ends.name y.name ≡ true → is_verified n.tree y ≡ true → one y ≡ Some q → is_of_type n.tree ends.ty q.first ≡ true
            → (y : Header) × (q : One) × (defining_op m.tree v ≡ Some y) × (named ends.name y.name ≡ true) × (is_verified m.tree y ≡ true) × (one y ≡ Some q) × (is_of_type m.tree ends.ty q.first ≡ true)
        given_back (Arg g r k) h y q i name verified one_is ty = absurd cc
        given_back (Result g k) h y q i name verified one_is ty =
            (let w = defining_op_was p e g k h y (find g n.tree) refl i in
            let heads = same_head w.now w.was w.same in
            let id : y.id ≡ g = ap (λ (u : Header). u.id) (sym w.is) ∙ (found_id g n.tree w.now w.found).1 in
            let cast : named cast_name (head w.now).name ≡ true = ap (λ (u : Header). named cast_name u.name) w.is ∙ ap (named cast_name) ((bytes_eq-Decides y.name ends.name).0 name) ∙ c in
            let own : (head w.now).id ≡ g = ap (λ (u : Header). u.id) w.is ∙ id in
            let cleans : is_verified n.tree (head w.now) ≡ is_verified m.tree (head w.now) = verified_alike n.tree m.tree w.now w.was (ap (λ x. find x n.tree) own ∙ w.found) (ap (λ x. find x m.tree) own ∙ w.found_was) w.same cast in
            (y, q, ap (option_map head) w.found_was ∙ ap Some (sym heads ∙ w.is), name, ap (is_verified m.tree) (sym w.is) ∙ sym cleans ∙ ap (is_verified n.tree) w.is ∙ verified, one_is, of_type_back ends.ty q.first ty))

    pub rule_back : is_cast z n.tree ≡ true → is_cast z m.tree ≡ true → eqb (head m.tree).id z ≡ false → edits_of CastBack m z ≡ None → edits_of CastBack n z ≡ None
    rule_back c b root none = go (edits_of CastBack n z) refl
      where
        back : Collapses n z → Collapses m z
        back k =
            let w = from z k.here k.found in
            let same = same_node k.here w.was (w.is ∙ fixed w.was w.found) w.arguments in
            let heads : head k.here ≡ head w.was = w.is ∙ fixed w.was w.found in
            let id = found_id z n.tree k.here k.found in
            let there = found_id z m.tree w.was w.found in
            let at = placed m.tree d z there.0 root in
            let cleans = verified_alike n.tree m.tree k.here w.was (ap (λ x. find x n.tree) id.1 ∙ k.found) (ap (λ x. find x m.tree) id.1 ∙ w.found) same (named_cast z n.tree k.here c k.found) in
            let name = one_name (head k.here).name (head k.here).operands (head k.here).results k.ends k.one_is in
            let among_them : In k.ends.first (head w.was).operands = subst (λ l. In k.ends.first l) (sym name.1 ∙ ap (λ (h : Header). h.operands) heads) (inl refl) in
            record {
              here = w.was;
              insertion = at.0;
              found = w.found;
              at = at.1;
              verified = ap (is_verified m.tree) (sym heads) ∙ sym cleans ∙ k.verified;
              ends = k.ends;
              one_is = ap one (sym heads) ∙ k.one_is;
              cast_case = way_back w.was w.found k.ends among_them (ap (named cast_name) name.0 ∙ named_cast z n.tree k.here c k.found) k.cast_case;
            }

        go : (a : Option (List Edit)) → edits_of CastBack n z ≡ a → edits_of CastBack n z ≡ None
        go None i = i
        go (Some es) i = absurd (collapses_to m z b (back (collapses_from n z es c i)) none)
