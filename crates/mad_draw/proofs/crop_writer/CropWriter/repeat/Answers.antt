use Rattle.std.proofs.Common.{min, replicate, ap, refl, sym, ◌∙◌, arith}
use Rattle.std.proofs.lemmas.List.{length-replicate}
use Rattle.mad_style.specs.StyledChars.{styled_char}
use Rattle.mad_draw.specs.Crops.{Filled, filled_bytes, left_after}
use Rattle.mad_draw.specs.Fillings.{filling_pieces}
use Rattle.mad_draw.specs.Pieces.{pieces_bytes}
use Rattle.mad_draw.proofs.CropLemmas.{crops_nothing, crops_some, filled_none, filled_kept}
use Rattle.mad_draw.proofs.crop_writer.CropWriter.repeat.Goals as goal

pub returns-then-count-eq0-clause-crops : goal.returns-then-count-eq0-clause-crops
returns-then-count-eq0-clause-crops g c =
    let allowed = c.args.self.now.allowed in
    let filling = c.args.filling.now.filling_char in
    crops_nothing (filled_bytes (styled_char c.args.cs.now filling)) (Filled filling c.args.len) _ allowed (filled_none allowed filling c.args.len (omega (arith, c.min-count.ensures, c.if-count-eq0.true))) _ refl

pub returns-clause-crops : goal.returns-clause-crops
returns-clause-crops g c =
    let allowed = c.args.self.now.allowed in
    let filling = c.args.filling.now.filling_char in
    let count = min c.args.len allowed in
    let styled = styled_char c.args.cs.now filling in
    crops_some (filled_bytes styled) (Filled filling c.args.len) (replicate count filling) _ count _ _ _ allowed _ c.take_off.result c.queue_styled-written.result
    (filled_kept allowed filling c.args.len (omega (arith, c.min-count.ensures, c.if-count-eq0.false)))
    (ap (λ n. pieces_bytes (filling_pieces styled n)) (c.min-count.ensures ∙ sym (length-replicate count filling))) c.queue_styled-written.ensures.writes (c.queue_styled-written.ensures.early) (ap g.O.Out.seen c.take_off.ensures.device)
    (c.take_off.ensures.left ∙ ap (left_after c.queue_styled-written.result allowed) c.min-count.ensures) c.take_off.ensures.result
