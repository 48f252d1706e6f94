use Rattle.std.proofs.Common.{arith}
use Rattle.mad_links.proofs.WritingLemmas.{one_more_written, all_written}
use Rattle.mad_links.proofs.rows.know_addresses.Goals as goal

pub loop-address-init : goal.loop-address-init
loop-address-init c = λ k a below e. absurd (omega arith)

pub loop-address-preserved : goal.loop-address-preserved
loop-address-preserved c = one_more_written c.args.addresses.now c.loop-address.address-index c.address-item.result c.loop-address-test.true c.address-item.is c.know_address.ensures c.loop-address.invariant

pub returns : goal.returns
returns c = all_written c.args.addresses.now c.loop-address.address-index c.loop-address-test.false (omega arith) c.loop-address.invariant
