use Rattle.std.proofs.Common.{None, ap, arith}
use Rattle.mad_format.proofs.wrap.composite_of.Goals as goal

pub returns : goal.returns
returns c = ap (λ n. record { kind = c.args.kind; compounds = c.args.line.compounds; visible_length = n; spacing = c.args.spacing; margins = None }) (omega (arith, c.saturating_add.ensures))
