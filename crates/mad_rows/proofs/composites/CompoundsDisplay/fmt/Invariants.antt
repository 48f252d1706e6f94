use Rattle.std.proofs.Common.{map, take}
use Rattle.std.specs.Fmt.{HasWritten, IsPlainFormatter}
use Rattle.mad_draw.specs.Pieces.{pieces_bytes}
use Rattle.mad_rows.specs.Rows.{compound_piece}
use Rattle.mad_rows.proofs.composites.CompoundsDisplay.fmt.Given as goal

abbrev pub invariant-loop-compound : goal.invariant-loop-compound
invariant-loop-compound g l =
    IsPlainFormatter l.initial.f
    → HasWritten g.W.Write.write_str_gives l.initial.f (pieces_bytes (map (compound_piece l.self.skin.now l.self.style.now) (take l.compound-index l.self.compounds.now))) l.f
