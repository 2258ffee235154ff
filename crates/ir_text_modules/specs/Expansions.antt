-- The model of the result.
use Rattle.ir_text_modules.specs.declared.expansion.Expansion.{Expansion}
use Rattle.ir_text_modules.specs.Expanded.{Expanded}

abbrev pub expansion_of : Expansion → Expanded
expansion_of e = record { text = e.text.items; marks = e.marks.items; fault = e.fault }
