-- The views of the types in the code.
use Rattle.std.specs.Prelude.{Option, Some, None}
use Rattle.ir_types.specs.declared.bits.BitsKind.TheVariants as bits
use Rattle.user_patterns_text.specs.Heads.{Written, integer_type, index_type, variable_type}
use Rattle.user_patterns_sema_base.specs.declared.types.TypeTable.{TypeTable as TypesCode}
use Rattle.user_patterns_sema_base.specs.declared.types.TypeExpression.{TypeExpression}
use Rattle.user_patterns_sema_base.specs.declared.types.TypeExpression.TheVariants as word
use Rattle.user_patterns_sema_base.specs.Views.{named_views}
use Rattle.user_patterns_sema_base.specs.Types.{Types}

abbrev pub types_view : TypesCode → Types
types_view t = record { value_types = t.value_types.items; named = named_views t.named.items }

abbrev pub word_view : TypeExpression → Option Written
word_view (word.Concrete (bits.Int w)) = Some (integer_type w)
word_view (word.Concrete bits.Index) = Some index_type
word_view (word.Name name) = Some (variable_type name.now)
word_view word.Inferred = None
