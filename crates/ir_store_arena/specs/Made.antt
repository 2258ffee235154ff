-- The parts of an operation's data.
use Rattle.std.specs.Prelude.{map}
use Rattle.ir_store_arena.specs.declared.op_data.InlineData.{InlineData}
use Rattle.ir_store_arena.specs.declared.op_data.ListData.{ListData}
use Rattle.ir_store_arena.specs.declared.op_data.WithEntries.{WithEntries}
use Rattle.ir_store_arena.specs.declared.op_data.FullData.{FullData}
use Rattle.ir_store_arena.specs.declared.op_data.OpData.{OpData}
use Rattle.ir_store_arena.specs.declared.op_data.OpData.TheVariants.{Inline as Few, Lists as Many, WithEntries as Keyed, Full as Full}
use Rattle.ir_store_arena.specs.Shapes.{shape_of}
use Rattle.ir_store_arena.specs.Contents.{Contents, no_contents}

abbrev pub short_contents : InlineData → Contents
short_contents p = record no_contents {
  operands = p.operands.items;
  results = p.results.items;
}

abbrev pub plain_contents : ListData → Contents
plain_contents p = record no_contents {
  operands = p.operands.items;
  results = p.results.items;
}

abbrev pub entered_contents : WithEntries → Contents
entered_contents it = record no_contents {
  operands = it.simple.operands.items;
  results = it.simple.results.items;
  properties = it.entries.props;
  attributes = it.entries.attrs;
}

abbrev pub whole_contents : FullData → Contents
whole_contents it = record no_contents {
  operands = it.simple.operands.items;
  results = it.simple.results.items;
  properties = it.entries.props;
  attributes = it.entries.attrs;
  shapes = map shape_of it.areas.items;
}

abbrev pub made_contents : OpData → Contents
made_contents (Few p) = short_contents p
made_contents (Many p) = plain_contents p
made_contents (Keyed it) = entered_contents it
made_contents (Full it) = whole_contents it
