-- Verified operations, and known values.
use Rattle.std.proofs.Common.{◌≡◌, refl, ap, sym, ◌∙◌, ℕ, List, Bool, true, false, ◌&&◌, Option, Some, None, option_map}
use Rattle.std.specs.Prelude.{codes}
use Rattle.std.specs.List.{list_all}
use Rattle.ir_event.specs.types.Things.{ContextModel}
use Rattle.ir_event.specs.types.Words.{is_inherent}
use Rattle.ir_event.specs.types.Terms.{AttrTerm, name_term}
use Rattle.ir_event.specs.trees.declared.value.Value.{Value}
use Rattle.ir_event.specs.trees.declared.value.Value.TheVariants.{Result}
use Rattle.ir_event.specs.trees.Tree.{head}
use Rattle.ir_event.specs.trees.Ids.{find}
use Rattle.ir_event.specs.trees.Meaning.{Operation}
use Rattle.ir_event.proofs.of_tree_laws.Members.{found_stands}
use Rattle.dialects_int.specs.Folds.{Known, entries_of}
use Rattle.patterns_base.specs.Keeps.{given}
use Rattle.patterns_base.specs.Words.{named}
use Rattle.patterns_base.specs.Diagnostics.{broken_at}
use Rattle.patterns_base.specs.Looks.{Header, when, breaks_none, is_verified, defining_op, source, is_of_constant, is_constant, constant_value, known}
use Rattle.ir_event.specs.store.Nodes.{Node}
use Rattle.patterns_matchers.specs.Reads.{head_at, header_of_node, verified_defining_op}

verified_is : (t : Operation) (h : Header) → is_verified t h ≡ (breaks_none (broken_at h.id t) && list_all (λ (e : List ℕ × AttrTerm). is_inherent h.name e.0) h.properties)
unfolding is_verified
verified_is t h = refl

known_is : (t : Operation) (v : Value) → known t v ≡ given (source t (codes "arith.constant") v) constant_value
unfolding known
known_is t v = refl

-- an operation that breaks a rule, and one that doesn't
pub not_verified : (t : Operation) (h : Header) (b : Bool) → b ≡ breaks_none (broken_at h.id t) → b ≡ false → false ≡ is_verified t h
not_verified t h b e f = sym (verified_is t h ∙ ap (λ c. c && list_all (λ (e : List ℕ × AttrTerm). is_inherent h.name e.0) h.properties) (sym e ∙ f))

pub as_inherent : (t : Operation) (h : Header) (b d : Bool) → b ≡ breaks_none (broken_at h.id t) → b ≡ true → d ≡ list_all (λ (e : List ℕ × AttrTerm). is_inherent h.name e.0) h.properties → d ≡ is_verified t h
as_inherent t h b d e f g = sym (verified_is t h ∙ ap (λ c. c && list_all (λ (e : List ℕ × AttrTerm). is_inherent h.name e.0) h.properties) (sym e ∙ f) ∙ sym g)

-- an operation that is found by an id has that id
own_id : (x : ℕ) (t : Operation) (h : Header) → Some h ≡ head_at x t → h.id ≡ x
own_id x t h e = go (find x t) refl e
  where
    go : (o : Option Operation) → find x t ≡ o → Some h ≡ option_map (λ o. head o) o → h.id ≡ x
    go None f e = absurd cc
    go (Some o) f e = (let w = found_stands x t o f in let one : h ≡ head o = cc in ap (λ (z : Header). z.id) one ∙ ap (λ (z : Operation). (head z).id) (sym w.3) ∙ w.2)

pub source_no : (t : Operation) (v : Value) (x k : ℕ) (h : Header) (b : Bool) → v ≡ Result x k → Some h ≡ head_at x t → b ≡ is_verified t (record h { id = x }) → b ≡ false → None ≡ verified_defining_op t v
source_no t v x k h b e f g n = sym (ap (verified_defining_op t) e ∙ ap (λ o. given o (λ h. when (is_verified t h) (Some h))) (sym f) ∙ ap (λ c. when c (Some h)) (ap (λ i. is_verified t (record h { id = i })) (own_id x t h f) ∙ sym g ∙ n))

pub source_yes : (t : Operation) (v : Value) (x k : ℕ) (h : Header) (b : Bool) → v ≡ Result x k → Some h ≡ head_at x t → b ≡ is_verified t (record h { id = x }) → b ≡ true → Some h ≡ verified_defining_op t v
source_yes t v x k h b e f g n = sym (ap (verified_defining_op t) e ∙ ap (λ o. given o (λ h. when (is_verified t h) (Some h))) (sym f) ∙ ap (λ c. when c (Some h)) (ap (λ i. is_verified t (record h { id = i })) (own_id x t h f) ∙ sym g ∙ n))

-- whether a value is the result of a constant, by the name of its defining operation
pub constant_is : (t : Operation) (v : Value) (x k : ℕ) (h : Header) (b : Bool) → v ≡ Result x k → Some h ≡ head_at x t → b ≡ named (codes "arith.constant") h.name → b ≡ is_constant t v
constant_is t v x k h b e f g = g ∙ ap is_of_constant f ∙ sym (ap (is_constant t) e)

-- the known bits of a value
pub known_not : (t : Operation) (v : Value) (b : Bool) → b ≡ is_constant t v → b ≡ false → None ≡ known t v
known_not t v b e f = go (defining_op t v) (sym e ∙ f) ∙ sym (known_is t v)
  where
    go : (o : Option Header) → is_of_constant o ≡ false → None ≡ given (given o (λ h. when (named (codes "arith.constant") h.name && is_verified t h) (Some h))) constant_value
    go None e = refl
    go (Some h) e = sym (ap (λ c. given (when (c && is_verified t h) (Some h)) constant_value) e)

pub known_some : (t : Operation) (v : Value) (b : Bool) (s : Option Header) (h : Header) (r : Option Known) → b ≡ is_constant t v → b ≡ true → s ≡ verified_defining_op t v → s ≡ Some h → r ≡ constant_value h → r ≡ known t v
known_some t v b s h r e f g i k = go (defining_op t v) (sym e ∙ f) (sym g ∙ i) ∙ sym (known_is t v)
  where
    go : (o : Option Header) → is_of_constant o ≡ true → given o (λ h. when (is_verified t h) (Some h)) ≡ Some h → r ≡ given (given o (λ h. when (named (codes "arith.constant") h.name && is_verified t h) (Some h))) constant_value
    go None e g = absurd cc
    go (Some j) e g = k ∙ ap (λ q. given q constant_value) (sym g) ∙ ap (λ c. given (when (c && is_verified t j) (Some j)) constant_value) (sym e)

pub known_none : (t : Operation) (v : Value) (b : Bool) (s : Option Header) → b ≡ is_constant t v → b ≡ true → s ≡ verified_defining_op t v → s ≡ None → None ≡ known t v
known_none t v b s e f g i = go (defining_op t v) (sym e ∙ f) (sym g ∙ i) ∙ sym (known_is t v)
  where
    go : (o : Option Header) → is_of_constant o ≡ true → given o (λ h. when (is_verified t h) (Some h)) ≡ None → None ≡ given (given o (λ h. when (named (codes "arith.constant") h.name && is_verified t h) (Some h))) constant_value
    go None e g = refl
    go (Some j) e g = ap (λ q. given q constant_value) (sym g) ∙ ap (λ c. given (when (c && is_verified t j) (Some j)) constant_value) (sym e)

-- the entries of a node
pub inherent_in : (c : ContextModel) (n : Node) (name : ℕ) (ps : List (ℕ × ℕ)) → name ≡ n.head.name → ps ≡ n.head.properties
    → list_all (λ (e : List ℕ × AttrTerm). is_inherent (name_term c name) e.0) (entries_of c ps) ≡ list_all (λ (e : List ℕ × AttrTerm). is_inherent (header_of_node c n).name e.0) (header_of_node c n).properties
inherent_in c n name ps e f = λ i. list_all (λ (q : List ℕ × AttrTerm). is_inherent (name_term c (e i)) q.0) (entries_of c (f i))

-- a source by its name
pub word_none : (t : Operation) (v : Value) (w : List ℕ) → None ≡ defining_op t v → None ≡ source t w v
word_none t v w e = ap (λ o. given o (λ h. when (named w h.name && is_verified t h) (Some h))) e

pub word_not : (t : Operation) (v : Value) (w : List ℕ) (h : Header) (b : Bool) → Some h ≡ defining_op t v → b ≡ named w h.name → b ≡ false → None ≡ source t w v
word_not t v w h b e f g = sym (ap (λ o. given o (λ h. when (named w h.name && is_verified t h) (Some h))) (sym e) ∙ ap (λ c. when (c && is_verified t h) (Some h)) (sym f ∙ g))

pub word_is : (t : Operation) (v : Value) (w : List ℕ) (h : Header) (b : Bool) (r : Option Header) → Some h ≡ defining_op t v → b ≡ named w h.name → b ≡ true → r ≡ verified_defining_op t v → r ≡ source t w v
word_is t v w h b r e f g k =
    k ∙ ap (λ o. given o (λ h. when (is_verified t h) (Some h))) (sym e)
    ∙ sym (ap (λ o. given o (λ h. when (named w h.name && is_verified t h) (Some h))) (sym e) ∙ ap (λ c. when (c && is_verified t h) (Some h)) (sym f ∙ g))
