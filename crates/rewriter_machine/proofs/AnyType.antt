-- Each type equals itself.
use Rattle.std.proofs.Common.{◌≡◌, refl, ◌∙◌, ap, ℕ, true, ◌&&◌, List, [], ◌∷◌, Option, Some, None}
use Rattle.std.proofs.lemmas.Bool.{eq-eqb}
use Rattle.std.specs.Prelude.{◌==◌}
use Rattle.std.specs.Option.{option_eq}
use Rattle.std.specs.Cmp.Lexicographic.{pointwise}
use Rattle.ir_event.specs.types.declared.node.Sign.{Sign}
use Rattle.ir_event.specs.types.declared.node.Sign.TheVariants.{Signless, Signed, Unsigned}
use Rattle.ir_event.specs.types.Terms.{TypeTerm, Integer, Index, Function, Memref, TypeTerms, no_types, next_type}
use Rattle.ir_event.specs.types.Same.{same_sign}
use Rattle.ir_event.specs.types.SameTypes.{same_type, same_terms}
use Rattle.ir_event.proofs.of_types.SameTerms.{terms_refl, dims_refl, type_refl, sign_refl}
