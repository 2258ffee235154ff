-- The steps of expressions. Each value is a number of a width that is at least its own, and each type has a mask.
use Rattle.std.specs.Prelude.{ℕ, ◌+◌, List, [], ◌∷◌, ◌++◌, length}
use Rattle.width_claims.specs.declared.step.Step.{Step}
use Rattle.width_claims.specs.declared.step.Step.TheVariants as step
use Rattle.width_claims.specs.declared.form.Form.{Form}
use Rattle.width_claims.specs.declared.form.Form.TheVariants as form
use Rattle.width_claims.specs.declared.form.Expr.{Expr}
use Rattle.width_claims.specs.declared.width.Narrower.{Narrower}
use Rattle.width_claims.specs.declared.width.Width.{Width}
use Rattle.width_claims.specs.declared.width.Width.TheVariants as width
use Rattle.width_claims.specs.PatternOpValues.{at}

-- steps, the place of their result, and the counts of numbers and truths after them
pub record Block : Type 0 where
  pub steps : List Step
  pub result : ℕ
  pub numbers : ℕ
  pub truths : ℕ

abbrev pub block : List Step → ℕ → ℕ → ℕ → Block
block ss r n t = record { steps = ss; result = r; numbers = n; truths = t }

-- the steps of a form after n numbers and t truths: pl are the places of values, ms those of masks, m that of the
-- form's own mask; the numbers at places 0 and 1 are 0 and 1
abbrev pub block_of : ℕ → List ℕ → List ℕ → ℕ → ℕ → Form → Block
block_of m ms pl n t (form.Value i) = block (step.Variable i ∷ step.And n m ∷ []) (n + 1) (n + 2) t
block_of m ms pl n t (form.Literal k) = block (step.Literal k ∷ step.And n m ∷ []) (n + 1) (n + 2) t
block_of m ms pl n t (form.Negative k) = block (step.Literal k ∷ step.Subtract 0 n ∷ step.And (n + 1) m ∷ []) (n + 2) (n + 3) t
block_of m ms pl n t (form.Add i j) = block (step.Add (at pl i) (at pl j) ∷ step.And n m ∷ []) (n + 1) (n + 2) t
block_of m ms pl n t (form.Subtract i j) = block (step.Subtract (at pl i) (at pl j) ∷ step.And n m ∷ []) (n + 1) (n + 2) t
block_of m ms pl n t (form.And i j) = block (step.And (at pl i) (at pl j) ∷ []) n (n + 1) t
block_of m ms pl n t (form.Or i j) = block (step.Or (at pl i) (at pl j) ∷ []) n (n + 1) t
block_of m ms pl n t (form.ExclusiveOr i j) = block (step.ExclusiveOr (at pl i) (at pl j) ∷ []) n (n + 1) t
block_of m ms pl n t (form.Same i j) = block (step.Equal (at pl i) (at pl j) ∷ step.Select t 1 0 ∷ []) n (n + 1) (t + 1)
block_of m ms pl n t (form.Less i j) = block (step.Less (at pl i) (at pl j) ∷ step.Select t 1 0 ∷ []) n (n + 1) (t + 1)
block_of m ms pl n t (form.LessSigned u i j) =
    block (
    step.Subtract (at ms u) (at pl i)
    ∷ step.Subtract (at ms u) (at pl j)
    ∷ step.Less n (at pl i)
    ∷ step.Less (n + 1) (at pl j)
    ∷ step.Less (at pl i) (at pl j)
    ∷ step.Differ t (t + 1)
    ∷ step.Differ (t + 3) (t + 2)
    ∷ step.Select (t + 4) 1 0
    ∷ []
    )
    (n + 2) (n + 3) (t + 5)
block_of m ms pl n t (form.Select c i j) = block (step.Equal (at pl c) 0 ∷ step.Select t (at pl j) (at pl i) ∷ []) n (n + 1) (t + 1)
block_of m ms pl n t (form.Signs u i) =
    block (step.Subtract (at ms u) (at pl i) ∷ step.Less n (at pl i) ∷ step.ExclusiveOr m (at ms u) ∷ step.Or (at pl i) (n + 1) ∷ step.Select t (n + 2) (at pl i) ∷ []) (n + 3) (n + 4) (t + 1)
block_of m ms pl n t (form.Resize u i) =
    block (
    step.Subtract (at ms u) (at pl i)
    ∷ step.Less n (at pl i)
    ∷ step.Subtract 0 1
    ∷ step.ExclusiveOr (n + 1) (at ms u)
    ∷ step.Or (at pl i) (n + 2)
    ∷ step.Select t (n + 3) (at pl i)
    ∷ step.And (n + 4) m
    ∷ []
    )
    (n + 5) (n + 6) (t + 1)
block_of m ms pl n t (form.Zeros i) = block [] (at pl i) n t
block_of m ms pl n t (form.Cut i) = block (step.And (at pl i) m ∷ []) n (n + 1) t
block_of m ms pl n t (form.Quotient i k) = block (step.Quotient (at pl i) k ∷ []) n (n + 1) t

-- the steps of all expressions, and the places of their values
abbrev pub emitted : List ℕ → List Expr → List ℕ → ℕ → ℕ → List Step
emitted ms [] pl n t = []
emitted ms (p ∷ ps) pl n t =
    (block_of (at ms p.ty) ms pl n t p.form).steps
    ++ emitted ms ps (pl ++ ((block_of (at ms p.ty) ms pl n t p.form).result ∷ [])) ((block_of (at ms p.ty) ms pl n t p.form).numbers) ((block_of (at ms p.ty) ms pl n t p.form).truths)

abbrev pub places : List ℕ → List Expr → List ℕ → ℕ → ℕ → List ℕ
places ms [] pl n t = pl
places ms (p ∷ ps) pl n t =
    places ms ps (pl ++ ((block_of (at ms p.ty) ms pl n t p.form).result ∷ [])) ((block_of (at ms p.ty) ms pl n t p.form).numbers) ((block_of (at ms p.ty) ms pl n t p.form).truths)

-- the counts of numbers and truths after them
abbrev pub numbers_end : List ℕ → List Expr → List ℕ → ℕ → ℕ → ℕ
numbers_end ms [] pl n t = n
numbers_end ms (p ∷ ps) pl n t =
    numbers_end ms ps (pl ++ ((block_of (at ms p.ty) ms pl n t p.form).result ∷ [])) ((block_of (at ms p.ty) ms pl n t p.form).numbers) ((block_of (at ms p.ty) ms pl n t p.form).truths)

abbrev pub truths_end : List ℕ → List Expr → List ℕ → ℕ → ℕ → ℕ
truths_end ms [] pl n t = t
truths_end ms (p ∷ ps) pl n t =
    truths_end ms ps (pl ++ ((block_of (at ms p.ty) ms pl n t p.form).result ∷ [])) ((block_of (at ms p.ty) ms pl n t p.form).numbers) ((block_of (at ms p.ty) ms pl n t p.form).truths)

-- ---- a whole claim

-- the masks of types; the masks of free types are the variables from v on
abbrev pub type_steps : ℕ → List Width → ℕ → List Step
type_steps v [] n = []
type_steps v (width.Free ∷ ks) n =
    step.Variable v ∷ step.Add n 1 ∷ step.And n (n + 1) ∷ step.Suppose (n + 2) 0 ∷ step.And n 1 ∷ step.Suppose (n + 3) 1 ∷ type_steps (v + 1) ks (n + 4)
type_steps v (width.Fixed w ∷ ks) n = step.Ones w ∷ type_steps (v + 1) ks (n + 1)

abbrev pub mask_places : List Width → List ℕ → ℕ → List ℕ
mask_places [] ms n = ms
mask_places (width.Free ∷ ks) ms n = mask_places ks (ms ++ (n ∷ [])) (n + 4)
mask_places (width.Fixed w ∷ ks) ms n = mask_places ks (ms ++ (n ∷ [])) (n + 1)

abbrev pub type_numbers : List Width → ℕ → ℕ
type_numbers [] n = n
type_numbers (width.Free ∷ ks) n = type_numbers ks (n + 4)
type_numbers (width.Fixed w ∷ ks) n = type_numbers ks (n + 1)

abbrev pub type_truths : List Width → ℕ → ℕ
type_truths [] t = t
type_truths (width.Free ∷ ks) t = type_truths ks (t + 2)
type_truths (width.Fixed w ∷ ks) t = type_truths ks t

-- the assumptions that types are narrower than others, as numbers that must be 1
abbrev pub narrow_steps : List ℕ → List Narrower → ℕ → ℕ → List Step
narrow_steps ms [] n t = []
narrow_steps ms (p ∷ ps) n t = step.Less (at ms p.narrow) (at ms p.wide) ∷ step.Select t 1 0 ∷ step.Suppose n 1 ∷ narrow_steps ms ps (n + 1) (t + 2)

abbrev pub narrow_numbers : List Narrower → ℕ → ℕ
narrow_numbers [] n = n
narrow_numbers (p ∷ ps) n = narrow_numbers ps (n + 1)

abbrev pub narrow_truths : List Narrower → ℕ → ℕ
narrow_truths [] t = t
narrow_truths (p ∷ ps) t = narrow_truths ps (t + 2)

-- the assumptions that values are 1
abbrev pub condition_steps : List ℕ → List ℕ → List Step
condition_steps pl [] = []
condition_steps pl (h ∷ hs) = step.Suppose (at pl h) 1 ∷ condition_steps pl hs

-- the claim that two values are equal if the conditions hold
pub record Claim : Type 0 where
  pub first_mask : ℕ
  pub types : List Width
  pub narrower : List Narrower
  pub exprs : List Expr
  pub conditions : List ℕ
  pub left : ℕ
  pub right : ℕ

abbrev pub claim_masks : Claim → List ℕ
claim_masks c = mask_places c.types [] 2

-- the counts of numbers and truths before the expressions
abbrev pub claim_numbers : Claim → ℕ
claim_numbers c = narrow_numbers c.narrower (type_numbers c.types 2)

abbrev pub claim_truths : Claim → ℕ
claim_truths c = narrow_truths c.narrower (type_truths c.types 0)

abbrev pub claim_places : Claim → List ℕ
claim_places c = places (claim_masks c) c.exprs [] (claim_numbers c) (claim_truths c)

abbrev pub claim_steps : Claim → List Step
claim_steps c =
    step.Literal 0
    ∷ step.Literal 1
    ∷ (type_steps c.first_mask c.types 2
    ++ (narrow_steps (claim_masks c) c.narrower (type_numbers c.types 2) (type_truths c.types 0)
    ++ (emitted (claim_masks c) c.exprs [] (claim_numbers c) (claim_truths c)
    ++ (condition_steps (claim_places c) c.conditions ++ (step.Equal (at (claim_places c) c.left) (at (claim_places c) c.right) ∷ [])))))

abbrev pub claim_place : Claim → ℕ
claim_place c = truths_end (claim_masks c) c.exprs [] (claim_numbers c) (claim_truths c) + length c.conditions

abbrev pub claim_of : ℕ → List Width → List Narrower → List Expr → List ℕ → ℕ → ℕ → Claim
claim_of v ks ns ps hs l r = record { first_mask = v; types = ks; narrower = ns; exprs = ps; conditions = hs; left = l; right = r }
