use Rattle.std.proofs.Common.{sym, ◌∙◌}
use Rattle.mad_stream.proofs.PrintedLemmas.{last_place, no_place}
use Rattle.mad_stream.proofs.printed.place_after.Goals as goal

pub returns-in-None : goal.returns-in-None
returns-in-None c = sym (no_place c.args.place c.args.piece.now c.in-None.ensures)

pub returns-in-Some : goal.returns-in-Some
returns-in-Some c = c.place_of.ensures ∙ sym (last_place c.args.place c.args.piece.now _ c.in-Some.c c.utf8.piece c.in-Some.ensures.0 c.in-Some.ensures.1)
