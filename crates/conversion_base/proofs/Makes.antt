-- A rule that a conversion may try gives out ids if it applies.
use Rattle.std.proofs.Common.{◌≡◌, refl, ap, sym, ◌∙◌, ℕ, ◌+◌, ◌<◌, ◌≤◌, Bool, true, false, List, [], ◌∷◌, Option, Some, None, cond, arith}
use Rattle.std.specs.Prelude.{nat_le}
use Rattle.ir_event.specs.types.declared.refusal.Refusal.TheVariants.{Full, IdsExhausted}
use Rattle.ir_event.specs.trees.declared.place.Place.{Place}
use Rattle.ir_event.specs.trees.Tree.{head}
use Rattle.ir_event.specs.trees.Ids.{find, op_count}
use Rattle.ir_event.specs.trees.Limits.{most_ops, most_next}
use Rattle.ir_event.specs.trees.Meaning.{Operation}
use Rattle.ir_event.specs.Modules.{Module}
use Rattle.patterns_base.specs.Contents.{Edit, all_edited, edited}
use Rattle.patterns_base.specs.Edits.{Insert, Make, Erase, Move, SetOperand, Replace, SetAttr, DropAttr}
use Rattle.patterns_base.specs.Keeps.{given}
use Rattle.patterns_base.specs.Looks.{insertion_of}
use Rattle.patterns_base.specs.Makes.{makes, made_by}
use Rattle.patterns_base.specs.declared.rule.Rule.{Rule}
use Rattle.patterns_base.specs.RuleNames.{is_converting}
use Rattle.patterns_base.specs.Rules.{rule}
use Rattle.patterns_base.specs.Rewrites.{refused, becomes, edits_of, rewrite_of, rewrite_by, carried_out, eligible}
use Rattle.patterns_base.proofs.Making.{converting_rules_make}
use Rattle.patterns_base.proofs.Facts.{edits_are, rewrite_is, when_some}

pub given_some : {X Y : Type 0} (o : Option X) (f : X → Option Y) (y : Y) → given o f ≡ Some y → (x : X) × (o ≡ Some x) × (f x ≡ Some y)
given_some None f y e = absurd cc
given_some (Some x) f y e = (x, refl, e)

-- a rule applies at an operation with these edits
pub record Applies (r : Rule) (m : Module) (x : ℕ) (es : List Edit) : Type 0 where
  pub here : Operation
  pub insertion : Place
  pub found : find x m.tree ≡ Some here
  pub at : insertion_of x m.tree ≡ Some insertion
  pub is : rule r m.tree m.next insertion here ≡ Some es

pub applies : (r : Rule) (m : Module) (x : ℕ) (es : List Edit) → edits_of r m x ≡ Some es → Applies r m x es
applies r m x es e =
    let o = given_some (find x m.tree) _ es (sym (edits_are r m x) ∙ e) in
    let f = given_some (insertion_of x m.tree) _ es o.2 in
    record { here = o.0; insertion = f.0; found = o.1; at = f.1; is = (when_some (eligible r m.tree (head o.0)) _ es f.2).1 }

-- the module after the edits
pub carried : (es : List Edit) (m n : Module) → carried_out es m ≡ becomes n → n ≡ all_edited es m
carried es m n e = go (nat_le (op_count m.tree + made_by es) most_ops) (nat_le (m.next + made_by es) most_next) e
  where
    go : (a b : Bool) → cond a (cond b (becomes (all_edited es m)) (refused IdsExhausted)) (refused Full) ≡ becomes n → n ≡ all_edited es m
    go true true e = (let one : all_edited es m ≡ n = cc in sym one)
    go true false e = absurd cc
    go false b e = absurd cc

pub rewritten : (r : Rule) (m n : Module) (x : ℕ) → rewrite_of r m x ≡ becomes n → (es : List Edit) × (edits_of r m x ≡ Some es) × (n ≡ all_edited es m)
rewritten r m n x e = go (edits_of r m x) refl (sym (rewrite_is r m x) ∙ e)
  where
    go : (o : Option (List Edit)) → edits_of r m x ≡ o → rewrite_by o m ≡ becomes n → (es : List Edit) × (edits_of r m x ≡ Some es) × (n ≡ all_edited es m)
    go None f e = absurd cc
    go (Some es) f e = (es, f, carried es m n e)

-- the ids that edits give out
rises : (e : Edit) (m : Module) → makes e + m.next ≤ (edited e m).next
rises (Insert place o) m = omega arith
rises (Make place o) m = omega arith
rises (Erase x) m = omega arith
rises (Move x place) m = omega arith
rises (SetOperand x k v) m = omega arith
rises (Replace v w) m = omega arith
rises (SetAttr x k a) m = omega arith
rises (DropAttr x k) m = omega arith

all_rise : (es : List Edit) (m : Module) → made_by es + m.next ≤ (all_edited es m).next
all_rise [] m = omega arith
all_rise (e ∷ es) m = let one = rises e m in let rest = all_rise es (edited e m) in omega (arith, one, rest)

pub rules_make : (r : Rule) (x : ℕ) (m n : Module) → is_converting r ≡ true → rewrite_of r m x ≡ becomes n → m.next < n.next
rules_make r x m n e f =
    let w = rewritten r m n x f in
    let a = applies r m x w.0 w.1 in
    let some = converting_rules_make r m.tree m.next a.insertion a.here w.0 e a.is in
    let all = all_rise w.0 m in
    let same = ap (λ (q : Module). q.next) w.2 in
    omega (arith, some, all, same)
