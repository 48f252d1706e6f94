use Rattle.std.proofs.Common.{take, min, length, ap, refl, sym, ◌∙◌}
use Rattle.std.specs.Prelude.{chars}
use Rattle.mad_draw.specs.Crops.{Counted, left_after, unstyled_bytes}
use Rattle.mad_draw.proofs.CropLemmas.{crops_nothing, crops_some, none_left, some_left, counted_full, counted_kept}
use Rattle.mad_draw.proofs.crop_writer.CropWriter.queue_unstyled_g_string.Goals as goal

pub returns-then-is_full-clause-crops : goal.returns-then-is_full-clause-crops
returns-then-is_full-clause-crops g c =
    crops_nothing (unstyled_bytes) (Counted (chars c.args.s.now)) _ c.args.self.now.allowed (counted_full c.args.self.now.allowed (chars c.args.s.now) (none_left c.args.self.now.allowed (sym c.is_full.ensures ∙ c.if-is_full.true))) _ refl

pub returns-clause-crops : goal.returns-clause-crops
returns-clause-crops g c =
    let allowed = c.args.self.now.allowed in
    let cs = chars c.args.s.now in
    crops_some (unstyled_bytes) (Counted cs) (take allowed cs) _ (min allowed (length cs)) _ _ _ allowed _ c.take_off.result c.put_text-written.result
    (counted_kept allowed cs (some_left allowed (sym c.is_full.ensures ∙ c.if-is_full.false)))
    (c.first_chars-count.ensures.front) c.put_text-written.ensures.writes (λ h. absurd (c.put_text-written.ensures.without_memory h)) (ap g.O.Out.seen c.take_off.ensures.device)
    (c.take_off.ensures.left ∙ ap (left_after c.put_text-written.result allowed) c.first_chars-count.ensures.count) c.take_off.ensures.result
