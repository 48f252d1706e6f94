use Rattle.std.proofs.Common.{◌≡◌, drop, length}
use Rattle.std.specs.Str.{chars}
use Rattle.mad_screen.specs.Terminal.{feed_all}
use Rattle.mad_screen.specs.Readers.{reading_of}
use Rattle.mad_screen.proofs.reader.Reader.feed_all.Given as goal

abbrev pub invariant-loop-c : goal.invariant-loop-c
invariant-loop-c l = feed_all (drop (length l.yielded) (chars l.text)) (reading_of l.self) ≡ feed_all (chars l.text) (reading_of l.fn.self)
