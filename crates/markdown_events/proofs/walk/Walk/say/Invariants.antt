use Rattle.std.proofs.Common.{◌≡◌, take, map}
use Rattle.markdown_marks.specs.Remaining.{remaining}
use Rattle.markdown_events.specs.Walks.{said, walking_of}
use Rattle.markdown_events.proofs.walk.Walk.say.Given as goal

abbrev pub invariant-loop-line : goal.invariant-loop-line
invariant-loop-line l = walking_of l.self ≡ said (map remaining (take l.line-index l.lines)) (walking_of l.fn.self)
