use Rattle.std.proofs.Common.{[], ◌∷◌, ap, refl, ◌∙◌, arith}
use Rattle.mad_term.specs.Styles.{piece_bytes}
use Rattle.mad_draw.specs.Crops.{Char, left_after, styled_bytes}
use Rattle.mad_draw.proofs.CropLemmas.{crops_nothing, crops_some, one_encoded, char_left_out, char_kept}
use Rattle.mad_draw.proofs.crop_writer.CropWriter.queue_char.Goals as goal

pub returns-in_default-clause-crops : goal.returns-in_default-clause-crops
returns-in_default-clause-crops g c =
    crops_nothing (styled_bytes c.args.cs.now) (Char c.args.c) _ c.args.self.now.allowed (char_left_out c.args.self.now.allowed c.args.c c.in_default.ensures) _ refl

pub returns-clause-crops : goal.returns-clause-crops
returns-clause-crops g c =
    let allowed = c.args.self.now.allowed in
    crops_some (styled_bytes c.args.cs.now) (Char c.args.c) (c.args.c ∷ []) _ _ _ _ _ allowed _ c.take_off.result c.queue_str-written.result
    (char_kept allowed c.args.c (omega (arith, c.in-Some.ensures.0, c.in-Some.ensures.1)))
    (ap (piece_bytes c.args.cs.now.object_style) (c.encode_utf8.ensures.value ∙ one_encoded c.args.c)) c.queue_str-written.ensures.writes (c.queue_str-written.ensures.early) (ap g.O.Out.seen c.take_off.ensures.device)
    (c.take_off.ensures.left ∙ ap (left_after c.queue_str-written.result allowed) c.in-Some.ensures.0) c.take_off.ensures.result
