use Rattle.std.proofs.Common.{◌≡◌, ◌++◌, [], drop, map, reverse}
use Rattle.std.specs.Str.{IsCharBoundary}
use Rattle.markdown_pieces.specs.Places.{AreCut}
use Rattle.markdown_inline_events.specs.Contents.{event_of}
use Rattle.markdown_inline_events.specs.Reading.{events_from}
use Rattle.markdown_inline_events.proofs.read.piece_events.Given as goal

abbrev pub invariant-loop-index : goal.invariant-loop-index
invariant-loop-index l = record {
  cut : AreCut l.text l.at (drop l.index l.pieces);
  begin : IsCharBoundary l.text l.at;
  events : map event_of l.events.items ++ events_from l.text l.spans (reverse l.around.items) l.at l.index (drop l.index l.pieces) (drop l.index l.left) (drop l.index l.overs)
      ≡ events_from l.text l.spans [] 0 0 l.pieces l.left l.overs;
}
