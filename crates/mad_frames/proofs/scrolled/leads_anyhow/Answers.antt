use Rattle.std.proofs.Common.{◌<◌, refl, rules}
use Rattle.mad_frames.proofs.TextLemmas.{text_brings}
use Rattle.mad_frames.proofs.scrolled.leads_anyhow.Goals as goal

pub returns : goal.returns
returns c = λ h read.
    let old = c.args.old.now in
    let new = c.args.new.now in
    let home = c.if-not-begins_home.ensures refl in
    let wide : 0 < old.width = search rules in
    let high : 0 < old.height = search rules in
    text_brings old new c.args.text.now home.0 c.is_plain.ensures.grid (c.if-not-is_plain.ensures.pen refl) (c.if-not-is_plain.ensures.whole refl) c.is_plain-2.ensures.grid (c.is_plain-2.ensures.pen h) (c.is_plain-2.ensures.whole h) wide high home.1 read
