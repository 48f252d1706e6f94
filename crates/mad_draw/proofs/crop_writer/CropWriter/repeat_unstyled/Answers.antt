use Rattle.std.proofs.Common.{refl, arith}
use Rattle.mad_draw.specs.Crops.{Filled, unstyled_bytes}
use Rattle.mad_draw.proofs.CropLemmas.{crops_nothing, filled_none}
use Rattle.mad_draw.proofs.crop_writer.CropWriter.repeat_unstyled.Goals as goal

pub returns-then-count-eq0-clause-crops : goal.returns-then-count-eq0-clause-crops
returns-then-count-eq0-clause-crops g c =
    let allowed = c.args.self.now.allowed in
    let filling = c.args.filling.now.filling_char in
    crops_nothing unstyled_bytes (Filled filling c.args.len) _ allowed (filled_none allowed filling c.args.len (omega (arith, c.min-count.ensures, c.if-count-eq0.true))) _ refl
