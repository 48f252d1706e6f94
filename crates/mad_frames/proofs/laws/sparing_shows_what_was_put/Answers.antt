use Rattle.mad_frames.proofs.ScrollLemmas.{plain_reads, reads_both}
use Rattle.mad_frames.proofs.SparingLemmas.{flushed_shown}
use Rattle.mad_frames.proofs.laws.sparing_shows_what_was_put.Goals as goal

pub returns : goal.returns
returns c = record { shown = flushed_shown; plain = plain_reads; in_turn = reads_both }
