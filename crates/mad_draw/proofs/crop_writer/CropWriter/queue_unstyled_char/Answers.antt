use Rattle.std.proofs.Common.{[], ◌∷◌, ap, refl, ◌∙◌, arith}
use Rattle.std.specs.Prelude.{chars}
use Rattle.mad_draw.specs.Crops.{Text, Char, left_after, unstyled_bytes}
use Rattle.mad_draw.proofs.CropLemmas.{crops_nothing, crops_some, crops_otherwise, one_encoded, char_left_out, char_kept}
use Rattle.mad_draw.proofs.crop_writer.CropWriter.queue_unstyled_char.Goals as goal

pub returns-in_default-clause-crops : goal.returns-in_default-clause-crops
returns-in_default-clause-crops g c =
    crops_otherwise unstyled_bytes c.args.c (Text (chars c.args.self.now.tab_replacement.now)) (Char c.args.c) _ _ _ _ _ c.if-c-eq9.false
    (crops_nothing (unstyled_bytes) (Char c.args.c) _ c.args.self.now.allowed (char_left_out c.args.self.now.allowed c.args.c c.in_default.ensures) _ refl)

pub returns-clause-crops : goal.returns-clause-crops
returns-clause-crops g c =
    let allowed = c.args.self.now.allowed in
    crops_otherwise unstyled_bytes c.args.c (Text (chars c.args.self.now.tab_replacement.now)) (Char c.args.c) _ _ _ _ _ c.if-c-eq9.false
    (crops_some (unstyled_bytes) (Char c.args.c) (c.args.c ∷ []) _ _ _ _ _ allowed _ c.take_off.result c.put_text-written.result
    (char_kept allowed c.args.c (omega (arith, c.in-Some.ensures.0, c.in-Some.ensures.1)))
    (c.encode_utf8.ensures.value ∙ one_encoded c.args.c) c.put_text-written.ensures.writes (λ h. absurd (c.put_text-written.ensures.without_memory h)) (ap g.O.Out.seen c.take_off.ensures.device)
    (c.take_off.ensures.left ∙ ap (left_after c.put_text-written.result allowed) c.in-Some.ensures.0) c.take_off.ensures.result)
