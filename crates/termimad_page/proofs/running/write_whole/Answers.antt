use Rattle.std.proofs.Common.{inr}
use Rattle.mad_term.specs.declared.errors.Error.TheVariants.{IO}
use Rattle.termimad_page.proofs.running.write_whole.Goals as goal

-- src/running.rt:139:1
pub returns-in-Err-flush : goal.returns-in-Err-flush
returns-in-Err-flush g c = (IO c.in-Err-flush.e, c.refusal_of-in-Err-flush.ensures, inr (record { written = _; rows = c.in_default.ensures; flush = c.in-Err-flush.ensures }))
