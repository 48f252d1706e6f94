use Rattle.std.proofs.Common.{[], refl}
use Rattle.mad_term.proofs.Traces.{took_none}
use Rattle.mad_layout.proofs.parts_writing.send.Goals as goal

pub returns-else-len-ge-ROWS_TO_SEND : goal.returns-else-len-ge-ROWS_TO_SEND
returns-else-len-ge-ROWS_TO_SEND g c = ([], refl, took_none _)
