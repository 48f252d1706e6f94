use Rattle.std.proofs.Common.{take}
use Rattle.std.specs.Fmt.{HasWritten, IsPlainFormatter}
use Rattle.std.specs.List.{flat_map}
use Rattle.mad_draw.specs.Pieces.{pieces_bytes}
use Rattle.mad_draw.specs.TableRules.{junction}
use Rattle.mad_draw.proofs.table_rules.JunctionsDisplay.fmt.Given as goal

abbrev pub invariant-loop-width : goal.invariant-loop-width
invariant-loop-width g l =
    IsPlainFormatter l.initial.f
    → HasWritten g.W.Write.write_str_gives l.initial.f (pieces_bytes (flat_map (junction l.self.style l.self.chars) (take l.width-index l.self.widths.now))) l.f
