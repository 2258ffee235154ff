-- The state of a printer.
use Rattle.std.specs.Prelude.{[]}
use Rattle.ir_text.specs.Printing.{Printed}

-- the same names, with no text
abbrev pub unwritten : Printed → Printed
unwritten o = record { text = []; named = o.named; results = o.results; arguments = o.arguments }
