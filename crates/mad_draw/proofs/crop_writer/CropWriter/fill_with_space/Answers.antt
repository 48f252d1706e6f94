use Rattle.std.proofs.Common.{◌≡◌, min, replicate, ap, refl, sym, ◌∙◌, arith}
use Rattle.std.proofs.lemmas.List.{length-replicate}
use Rattle.mad_style.specs.StyledChars.{styled_char}
use Rattle.mad_draw.specs.Crops.{Filled, filled_bytes, left_after}
use Rattle.mad_draw.specs.Fillings.{filling_pieces}
use Rattle.mad_draw.specs.Pieces.{pieces_bytes}
use Rattle.mad_draw.proofs.CropLemmas.{crops_nothing, crops_some, none_left, some_left, filled_none, filled_kept}
use Rattle.mad_draw.proofs.crop_writer.CropWriter.fill_with_space.Goals as goal

pub returns-then-is_full-clause-crops : goal.returns-then-is_full-clause-crops
returns-then-is_full-clause-crops g c =
    let allowed = c.args.self.now.allowed in
    crops_nothing (filled_bytes (styled_char c.args.cs.now 32)) (Filled 32 allowed) _ allowed (filled_none allowed 32 allowed (omega (arith, none_left allowed (sym c.is_full.ensures ∙ c.if-is_full.true)))) _ refl

pub returns-clause-crops : goal.returns-clause-crops
returns-clause-crops g c =
    let allowed = c.args.self.now.allowed in
    let count = min allowed allowed in
    let styled = styled_char c.args.cs.now 32 in
    let all : allowed ≡ count = omega arith in
    crops_some (filled_bytes styled) (Filled 32 allowed) (replicate count 32) _ count _ _ _ allowed _ c.take_off.result c.queue_spaces-written.result
    (filled_kept allowed 32 allowed (omega (arith, some_left allowed (sym c.is_full.ensures ∙ c.if-is_full.false))))
    (ap (λ n. pieces_bytes (filling_pieces styled n)) (all ∙ sym (length-replicate count 32))) c.queue_spaces-written.ensures.writes (c.queue_spaces-written.ensures.early) (ap g.O.Out.seen c.take_off.ensures.device)
    (c.take_off.ensures.left ∙ ap (left_after c.queue_spaces-written.result allowed) all) c.take_off.ensures.result
