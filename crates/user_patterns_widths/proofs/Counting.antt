-- The number of terms of a product, and coefficients of products of factors.
use Rattle.std.proofs.Common.{◌≡◌, ℕ, ◌+◌, ◌*◌, ◌<◌, ◌∷◌, List, [], Bool, true, false, Some, None, ◌&&◌, if◌then◌else◌, nat_le, refl, ap, ◌∙◌, zero-add, arith, length, length-append}
use Rattle.std.proofs.lemmas.Bool.{lt-leb}
use Rattle.std.proofs.lemmas.List.{length-map}
use Rattle.std.specs.List.{list_all}
use Rattle.user_patterns_widths.specs.Polynomials as polynomials
use Rattle.user_patterns_widths.specs.Views.{view, term_view}
use Rattle.user_patterns_widths.specs.declared.polynomials.Term.{Term}

-- a coefficient is a number modulo 2^128
whole_sum : (b : Bool) (n c : ℕ) → polynomials.coefficient c ≡ c → polynomials.coefficient (if b then polynomials.coefficient n else c) ≡ (if b then polynomials.coefficient n else c)
whole_sum true n c e = omega arith
whole_sum false n c e = e

pub whole_coefficient : (places : List ℕ) (p : polynomials.Polynomial) → polynomials.coefficient (polynomials.coefficient_of places p) ≡ polynomials.coefficient_of places p
whole_coefficient places [] = refl
whole_coefficient places (t ∷ ts) = whole_sum (polynomials.same_places places t.1) (t.0 + polynomials.coefficient_of places ts) (polynomials.coefficient_of places ts) (whole_coefficient places ts)

pub whole_at_first : (places : List ℕ) (p : polynomials.Polynomial) → polynomials.coefficient (0 + polynomials.coefficient_of places p) ≡ polynomials.coefficient_of places p
whole_at_first places p = ap polynomials.coefficient (zero-add (polynomials.coefficient_of places p)) ∙ whole_coefficient places p

as_many : (s : polynomials.Term) (q : polynomials.Polynomial) → length (polynomials.times_all s q) ≡ length q
as_many s [] = refl
as_many s (t ∷ ts) = omega (arith, as_many s ts)

many : (p q : polynomials.Polynomial) → length (polynomials.product p q) ≡ length p * length q
many [] q = omega arith
many (s ∷ p) q = omega (arith, many p q, as_many s q, length-append (polynomials.times_all s q) (polynomials.product p q))

none_of : (b c : Bool) (p : polynomials.Polynomial) → b ≡ false → None ≡ (if b && c then Some p else None)
none_of b c p e = rw e refl

pub too_many : (p q : polynomials.Polynomial) → 256 < length p * length q → None ≡ polynomials.if_small (polynomials.product p q)
too_many p q l =
    let r = polynomials.product p q in
    none_of (nat_le (length r) 256) (list_all polynomials.is_low r) r (lt-leb (length r) 256 (rw (many p q) l))

pub too_many_terms : (p q : List Term) → 256 < length p * length q → None ≡ polynomials.if_small (polynomials.product (view p) (view q))
too_many_terms p q l = too_many (view p) (view q) (rw (length-map p term_view, length-map q term_view) l)
