use Rattle.std.proofs.Common.{◌-◌, arith, sym}
use Rattle.mad_widths.proofs.ShareLemmas.{second_request_is}
use Rattle.mad_widths.proofs.sharing.second_request.Goals as goal

pub returns : goal.returns
returns c = rw c.saturating_sub-own.ensures (sym (second_request_is c.args.width (c.args.above - c.args.kept) c.args.kept c.args.above (omega arith) c.requires.some))
