-- A rule makes alike edits if the operations that it reads are alike.
use Rattle.std.proofs.Common.{◌≡◌, refl, ap, sym, ◌∙◌, ℕ, List, [], ◌∷◌, Bool, true, false, true≢false, ◌&&◌, not, eqb, cond, Option, Some, None, inl, inr, map}
use Rattle.std.specs.Prelude.{codes, is_some}
use Rattle.std.specs.List.{list_all}
use Rattle.std.specs.Option.{option_eq}
use Rattle.ir_event.specs.types.SameTypes.{same_type}
use Rattle.ir_event.specs.types.Terms.{TypeTerm}
use Rattle.ir_event.specs.trees.declared.value.Value.{Value}
use Rattle.ir_event.specs.trees.declared.place.Place.{Place}
use Rattle.ir_event.specs.trees.Tree.{head}
use Rattle.ir_event.specs.trees.Meaning.{Operation}
use Rattle.ir_event.specs.tree_laws.Members.{In}
use Rattle.dialects_int.specs.Folds.{Known}
use Rattle.rewriter_machine.specs.Contents.{Edit}
use Rattle.patterns_laws.specs.Keeps.{given}
use Rattle.patterns_laws.specs.Words.{named, among}
use Rattle.patterns_soundness.specs.base.Looks.{Header, One, Two, Three, when, is_verified, defining_op, source, source_among, is_of_constant, is_constant, constant_value, known, is_number, passes, type_of, is_of_type, one, one_from, two, two_from, three, three_from, predicate}
use Rattle.patterns_soundness.specs.base.Folding.{is_to_swap}
use Rattle.patterns_soundness.specs.Alike.{Same, ShowsAlike, DominatedByAlike}
use Rattle.ir_event.proofs.of_tree_laws.DominatedBy.{all_same}
use Rattle.listeners_support.proofs.Operands.{same_map}

-- ---- both exist, or neither does
pub given_same : {X Y : Type 0} (a b : Option X) (f g : X → Option Y) → a ≡ b → ((x : X) → a ≡ Some x → f x ≡ g x) → given a f ≡ given b g
given_same a b f g e h = go a refl ∙ ap (λ c. given c g) e
  where
    go : (c : Option _) → a ≡ c → given a f ≡ given a g
    go None i = ap (λ c. given c f) i ∙ sym (ap (λ c. given c g) i)
    go (Some x) i = ap (λ c. given c f) i ∙ h x i ∙ sym (ap (λ c. given c g) i)

pub given_alike : {X Y Z : Type 0} (a b : Option X) (f : X → Option Y) (g : X → Option Z) → a ≡ b → ((x : X) → a ≡ Some x → Same (f x) (g x)) → Same (given a f) (given b g)
given_alike a b f g e h = go a refl ∙ ap (λ c. is_some (given c g)) e
  where
    go : (c : Option _) → a ≡ c → is_some (given a f) ≡ is_some (given a g)
    go None i = ap (λ c. is_some (given c f)) i ∙ sym (ap (λ c. is_some (given c g)) i)
    go (Some x) i = ap (λ c. is_some (given c f)) i ∙ h x i ∙ sym (ap (λ c. is_some (given c g)) i)

pub when_alike : {X Y : Type 0} (b c : Bool) (r : Option X) (s : Option Y) → b ≡ c → Same r s → Same (when b r) (when c s)
when_alike b c r s e h = go b ∙ ap (λ d. is_some (when d s)) e
  where
    go : (d : Bool) → is_some (when d r) ≡ is_some (when d s)
    go true = h
    go false = refl

pub if_alike : {X Y : Type 0} (b c : Bool) (p q : Option X) (r s : Option Y) → b ≡ c → Same p r → Same q s → Same (cond b p q) (cond c r s)
if_alike b c p q r s e h k = go b ∙ ap (λ d. is_some (cond d r s)) e
  where
    go : (d : Bool) → is_some (cond d p q) ≡ is_some (cond d r s)
    go true = h
    go false = k

-- ---- the operands of operations of one, two and three
pub one_operand : (h : Header) (p : One) → one h ≡ Some p → In p.first h.operands
one_operand h p e = go h.operands h.results e
  where
    go : (vs : List Value) (ts : List TypeTerm) → one_from h.name vs ts ≡ Some p → In p.first vs
    go [] ts e = absurd cc
    go (a ∷ []) [] e = absurd cc
    go (a ∷ []) (ty ∷ []) e = let w : record { name = h.name; first = a; ty = ty } ≡ p = cc in inl (ap (λ (q : One). q.first) (sym w))
    go (a ∷ []) (ty ∷ s ∷ ts) e = absurd cc
    go (a ∷ b ∷ vs) ts e = absurd cc

pub two_operands : (h : Header) (p : Two) → two h ≡ Some p → In p.first h.operands × In p.second h.operands
two_operands h p e = go h.operands h.results e
  where
    go : (vs : List Value) (ts : List TypeTerm) → two_from h.name vs ts ≡ Some p → In p.first vs × In p.second vs
    go [] ts e = absurd cc
    go (a ∷ []) ts e = absurd cc
    go (a ∷ b ∷ []) [] e = absurd cc
    go (a ∷ b ∷ []) (ty ∷ []) e =
        let w : record { name = h.name; first = a; second = b; ty = ty } ≡ p = cc in
        (inl (ap (λ (q : Two). q.first) (sym w)), inr (inl (ap (λ (q : Two). q.second) (sym w))))
    go (a ∷ b ∷ []) (ty ∷ s ∷ ts) e = absurd cc
    go (a ∷ b ∷ c ∷ vs) ts e = absurd cc

pub three_operands : (h : Header) (p : Three) → three h ≡ Some p → In p.first h.operands × (In p.second h.operands × In p.third h.operands)
three_operands h p e = go h.operands h.results e
  where
    go : (vs : List Value) (ts : List TypeTerm) → three_from h.name vs ts ≡ Some p → In p.first vs × (In p.second vs × In p.third vs)
    go [] ts e = absurd cc
    go (a ∷ []) ts e = absurd cc
    go (a ∷ b ∷ []) ts e = absurd cc
    go (a ∷ b ∷ c ∷ []) [] e = absurd cc
    go (a ∷ b ∷ c ∷ []) (ty ∷ []) e =
        let w : record { name = h.name; first = a; second = b; third = c; ty = ty } ≡ p = cc in
        (inl (ap (λ (q : Three). q.first) (sym w)), (inr (inl (ap (λ (q : Three). q.second) (sym w))), inr (inr (inl (ap (λ (q : Three). q.third) (sym w))))))
    go (a ∷ b ∷ c ∷ []) (ty ∷ s ∷ ts) e = absurd cc
    go (a ∷ b ∷ c ∷ d ∷ vs) ts e = absurd cc

-- ---- what a rule reads of a value
module _ (t u : Operation) where
  pub source_alike : (name : List ℕ) (v : Value) → ShowsAlike t u v → source t name v ≡ source u name v
  source_alike name v s = given_same (defining_op t v) (defining_op u v) _ _ s.gives (λ h e. ap (λ b. when (named name h.name && b) (Some h)) (s.verified h e))

  pub among_alike : (names : List (List ℕ)) (v : Value) → ShowsAlike t u v → source_among t names v ≡ source_among u names v
  among_alike names v s = given_same (defining_op t v) (defining_op u v) _ _ s.gives (λ h e. ap (λ b. when (among names h.name && b) (Some h)) (s.verified h e))

  pub known_alike : (v : Value) → ShowsAlike t u v → known t v ≡ known u v
  unfolding known
  known_alike v s = ap (λ h. given h constant_value) (source_alike (codes "arith.constant") v s)

  pub constant_alike : (v : Value) → ShowsAlike t u v → is_constant t v ≡ is_constant u v
  constant_alike v s = ap is_of_constant s.gives

  pub number_alike : (n : ℕ) (v : Value) → ShowsAlike t u v → is_number t n v ≡ is_number u n v
  number_alike n v s = ap (passes (λ (k : Known). eqb k.1 n)) (known_alike v s)

  pub type_alike : (ty : TypeTerm) (v : Value) → type_of t v ≡ type_of u v → is_of_type t ty v ≡ is_of_type u ty v
  type_alike ty v e = ap (λ z. option_eq same_type z (Some ty)) e

-- a source is the defining operation of the value
pub when_some : {X : Type 0} (b : Bool) (x y : X) → when b (Some x) ≡ Some y → x ≡ y
when_some true x y e = cc
when_some false x y e = absurd cc

pub source_gives : (t : Operation) (name : List ℕ) (v : Value) (y : Header) → source t name v ≡ Some y → defining_op t v ≡ Some y
source_gives t name v y e = go (defining_op t v) refl e
  where
    go : (g : Option Header) → defining_op t v ≡ g → given g (λ h. when (named name h.name && is_verified t h) (Some h)) ≡ Some y → defining_op t v ≡ Some y
    go None i e = absurd cc
    go (Some h) i e = i ∙ ap Some (when_some (named name h.name && is_verified t h) h y e)

pub among_gives : (t : Operation) (names : List (List ℕ)) (v : Value) (y : Header) → source_among t names v ≡ Some y → defining_op t v ≡ Some y
among_gives t names v y e = go (defining_op t v) refl e
  where
    go : (g : Option Header) → defining_op t v ≡ g → given g (λ h. when (among names h.name && is_verified t h) (Some h)) ≡ Some y → defining_op t v ≡ Some y
    go None i e = absurd cc
    go (Some h) i e = i ∙ ap Some (when_some (among names h.name && is_verified t h) h y e)

pub given_both : {X Y Z W : Type 0} (a : Option X) (b : Option Y) (f : X → Option Z) (g : Y → Option W) → Same a b → ((x : X) (y : Y) → a ≡ Some x → b ≡ Some y → Same (f x) (g y)) → Same (given a f) (given b g)
given_both None None f g e h = refl
given_both None (Some y) f g e h = absurd (true≢false (sym e))
given_both (Some x) None f g e h = absurd (true≢false e)
given_both (Some x) (Some y) f g e h = h x y refl refl

module _ (t u o p : Operation) (same : head o ≡ head p) (dominated_by : DominatedByAlike t u (head o)) where
  -- of two operands
  pub on_two_alike : (a b : Two → Option (List Edit)) → ((q : Two) → ShowsAlike t u q.first → ShowsAlike t u q.second → two (head o) ≡ Some q → Same (a q) (b q)) → Same (given (two (head o)) a) (given (two (head p)) b)
  on_two_alike a b h = given_alike (two (head o)) (two (head p)) a b (ap two same) (λ q e. let w = two_operands (head o) q e in h q (dominated_by.operands q.first w.0) (dominated_by.operands q.second w.1) e)

  -- the operands of a source with two operands
  pub inner_two : (v : Value) → In v (head o).operands → (name : List ℕ) (y : Header) → source t name v ≡ Some y → (q : Two) → two y ≡ Some q → ShowsAlike t u q.second
  inner_two v h name y e q i = (dominated_by.inner v h y (source_gives t name v y e) q.second (two_operands y q i).1).0

  -- comparisons
  pub on_comparison_alike : (a b : Two → ℕ → Option (List Edit)) → ((q : Two) (asks : ℕ) → ShowsAlike t u q.first → ShowsAlike t u q.second → Same (a q asks) (b q asks))
      → Same (given (two (head o)) (λ q. when (named (codes "arith.cmpi") q.name) (given (predicate (head o)) (a q)))) (given (two (head p)) (λ q. when (named (codes "arith.cmpi") q.name) (given (predicate (head p)) (b q))))
  on_comparison_alike a b h = on_two_alike _ _ (λ q s r e. when_alike (named (codes "arith.cmpi") q.name) _ _ _ refl (given_alike (predicate (head o)) (predicate (head p)) (a q) (b q) (ap predicate same) (λ asks i. h q asks s r)))

  -- choices
  pub on_choice_alike : (a b : Three → Option (List Edit)) → ((q : Three) → In q.first (head o).operands → In q.second (head o).operands → In q.third (head o).operands → Same (a q) (b q))
      → Same (given (three (head o)) (λ q. when (named (codes "arith.select") q.name) (a q))) (given (three (head p)) (λ q. when (named (codes "arith.select") q.name) (b q)))
  on_choice_alike a b h = given_alike (three (head o)) (three (head p)) _ _ (ap three same) (λ q e. let w = three_operands (head o) q e in when_alike (named (codes "arith.select") q.name) _ _ _ refl (h q w.0 w.1.0 w.1.1))

  -- casts
  pub on_one_alike : (a b : One → Option (List Edit)) → ((q : One) → In q.first (head o).operands → Same (a q) (b q)) → Same (given (one (head o)) a) (given (one (head p)) b)
  on_one_alike a b h = given_alike (one (head o)) (one (head p)) a b (ap one same) (λ q e. h q (one_operand (head o) q e))

  -- the type of the operand of a source with one operand
  pub inner_type : (v : Value) → In v (head o).operands → (y : Header) → defining_op t v ≡ Some y → (q : One) → one y ≡ Some q → type_of t q.first ≡ type_of u q.first
  inner_type v h y e q i = (dominated_by.inner v h y e q.first (one_operand y q i)).1

module _ (t u : Operation) (n k : ℕ) (f g : Place) (o p : Operation) where
  -- whether the operands should be swapped
  pub swap_alike : (q : Two) → ShowsAlike t u q.first → ShowsAlike t u q.second → is_to_swap t n f o q ≡ is_to_swap u k g p q
  swap_alike q s r = λ i. is_some (known_alike t u q.first s i) && not (constant_alike t u q.second r i)
