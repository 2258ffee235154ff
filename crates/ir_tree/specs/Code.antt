-- A tree encoded as nested pairs of numbers, to compare trees in proofs.
use Rattle.std.specs.Prelude.{◌≡◌, ◌⊎◌, ℕ, List, refl}
use Rattle.std.proofs.Common.{ap, inl, inr}
use Rattle.std.specs.Coded.{Coded, code_by, coded_ℕ, coded×, coded_list, coded⊎}
use base.Stored.{Gv, gnil, gnum, gcons}
use Rattle.ir_tree.specs.declared.value.Value.{Value}
use Rattle.ir_tree.specs.declared.value.Value.TheVariants.{Result, Arg}
use Rattle.ir_tree.specs.Sites.{Frame, results, arguments}
use Rattle.ir_tree.specs.Tree.{Head, Op, op, Regions, no_regions, region, Region, empty, block, Ops, no_ops, next}

abbrev value_parts : Value → (ℕ × ℕ) ⊎ (ℕ × (ℕ × ℕ))
value_parts (Result x k) = inl (x, k)
value_parts (Arg x r k) = inr (x, (r, k))

abbrev value_from : (ℕ × ℕ) ⊎ (ℕ × (ℕ × ℕ)) → Value
value_from (inl p) = Result p.0 p.1
value_from (inr p) = Arg p.0 p.1.0 p.1.1

pub value_back : (v : Value) → value_from (value_parts v) ≡ v
value_back (Result x k) = refl
value_back (Arg x r k) = refl

abbrev pub value_code : Coded Value
value_code = code_by _ (coded⊎ (coded× coded_ℕ coded_ℕ) (coded× coded_ℕ (coded× coded_ℕ coded_ℕ))) value_parts value_from value_back

-- a dictionary
abbrev entries_code : Coded (List (ℕ × ℕ))
entries_code = coded_list (coded× coded_ℕ coded_ℕ)

abbrev pub head_code : Coded Head
head_code =
    code_by (ℕ × (ℕ × (List Value × (List ℕ × (List (ℕ × ℕ) × List (ℕ × ℕ))))))
    (coded× coded_ℕ (coded× coded_ℕ (coded× (coded_list value_code) (coded× (coded_list coded_ℕ) (coded× entries_code entries_code)))))
    (λ h. (h.id, (h.name, (h.operands, (h.results, (h.properties, h.attributes))))))
    (λ p. record { id = p.0; name = p.1.0; operands = p.1.1.0; results = p.1.1.1.0; properties = p.1.1.1.1.0; attributes = p.1.1.1.1.1 })
    (λ _. refl)

abbrev mutual
  pub op_tokens : Op → Gv
  op_tokens (op h rs) = gcons (head_code.code h) (regions_tokens rs)

  pub regions_tokens : Regions → Gv
  regions_tokens no_regions = gnil
  regions_tokens (region r rs) = gcons (region_tokens r) (regions_tokens rs)

  pub region_tokens : Region → Gv
  region_tokens empty = gnil
  region_tokens (block args os) = gcons ((coded_list coded_ℕ).code args) (ops_tokens os)

  pub ops_tokens : Ops → Gv
  ops_tokens no_ops = gnil
  ops_tokens (next o os) = gcons (op_tokens o) (ops_tokens os)

abbrev left : Gv → Gv
left gnil = gnil
left (gnum n) = gnil
left (gcons a b) = a

abbrev right : Gv → Gv
right gnil = gnil
right (gnum n) = gnil
right (gcons a b) = b

mutual
  pub op_inj : (x y : Op) → op_tokens x ≡ op_tokens y → x ≡ y
  op_inj (op g rs) (op h ss) p = λ i. op (head_code.inj g h (ap left p) i) (regions_inj rs ss (ap right p) i)

  pub regions_inj : (x y : Regions) → regions_tokens x ≡ regions_tokens y → x ≡ y
  regions_inj no_regions no_regions p = refl
  regions_inj no_regions (region r rs) p = cc
  regions_inj (region r rs) no_regions p = cc
  regions_inj (region r rs) (region s ss) p = λ i. region (region_inj r s (ap left p) i) (regions_inj rs ss (ap right p) i)

  pub region_inj : (x y : Region) → region_tokens x ≡ region_tokens y → x ≡ y
  region_inj empty empty p = refl
  region_inj empty (block b ps) p = cc
  region_inj (block a os) empty p = cc
  region_inj (block a os) (block b ps) p = λ i. block ((coded_list coded_ℕ).inj a b (ap left p) i) (ops_inj os ps (ap right p) i)

  pub ops_inj : (x y : Ops) → ops_tokens x ≡ ops_tokens y → x ≡ y
  ops_inj no_ops no_ops p = refl
  ops_inj no_ops (next o os) p = cc
  ops_inj (next o os) no_ops p = cc
  ops_inj (next o os) (next q qs) p = λ i. next (op_inj o q (ap left p) i) (ops_inj os qs (ap right p) i)

abbrev pub op_code : Coded Op
op_code = record { code = op_tokens; inj = op_inj }

abbrev frame_parts : Frame → (ℕ × ℕ) ⊎ (ℕ × (ℕ × ℕ))
frame_parts (results x n) = inl (x, n)
frame_parts (arguments x r n) = inr (x, (r, n))

abbrev frame_from : (ℕ × ℕ) ⊎ (ℕ × (ℕ × ℕ)) → Frame
frame_from (inl p) = results p.0 p.1
frame_from (inr p) = arguments p.0 p.1.0 p.1.1

pub frame_back : (f : Frame) → frame_from (frame_parts f) ≡ f
frame_back (results x n) = refl
frame_back (arguments x r n) = refl

abbrev pub frame_code : Coded Frame
frame_code = code_by _ (coded⊎ (coded× coded_ℕ coded_ℕ) (coded× coded_ℕ (coded× coded_ℕ coded_ℕ))) frame_parts frame_from frame_back
