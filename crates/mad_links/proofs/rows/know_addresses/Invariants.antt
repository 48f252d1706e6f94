use Rattle.mad_links.proofs.WritingLemmas.{AreWrittenBefore}
use Rattle.mad_links.proofs.rows.know_addresses.Given as goal

abbrev pub invariant-loop-address : goal.invariant-loop-address
invariant-loop-address l = AreWrittenBefore l.address-index l.addresses
