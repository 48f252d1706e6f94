use Rattle.std.proofs.Common.{arith}
use Rattle.mad_style.specs.LineStyles.{line_in}
use Rattle.mad_layout.proofs.HeaderLemmas.{header_changed}
use Rattle.mad_layout.proofs.skin.MadSkin.set_headers_fg.Goals as goal

pub loop-header-preserved : goal.loop-header-preserved
loop-header-preserved c =
    header_changed (line_in c.args.fg) c.args.self.now.headers c.loop-header.header-items c.loop-header.header-index c.header-item.result _ (omega (arith, c.loop-header-test.true)) c.loop-header.invariant c.header-item.is c.set_fg.ensures
