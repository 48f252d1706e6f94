use Rattle.std.proofs.Common.{refl, rules}
use Rattle.mad_layout.specs.Inlines.{IsInlineOf}
use Rattle.mad_layout.specs.RowSkins.{row_skin}
use Rattle.mad_layout.proofs.InlineLemmas.{displayed}
use Rattle.mad_layout.proofs.skin.MadSkin.inline.Goals as goal

pub returns : goal.returns
returns c =
    let read : IsInlineOf (row_skin c.args.self.now) c.args.src.now c.from.result = search rules in
    record { skin = refl; composite = read; displayed = displayed (row_skin c.args.self.now) c.args.src.now c.from.result read }
