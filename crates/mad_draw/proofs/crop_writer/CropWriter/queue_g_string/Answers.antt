use Rattle.std.proofs.Common.{take, min, length, ap, refl, sym, ◌∙◌}
use Rattle.std.specs.Prelude.{chars}
use Rattle.mad_term.specs.Styles.{piece_bytes}
use Rattle.mad_draw.specs.Crops.{Counted, left_after, styled_bytes}
use Rattle.mad_draw.proofs.CropLemmas.{crops_nothing, crops_some, none_left, some_left, counted_full, counted_kept}
use Rattle.mad_draw.proofs.crop_writer.CropWriter.queue_g_string.Goals as goal

pub returns-then-is_full-clause-crops : goal.returns-then-is_full-clause-crops
returns-then-is_full-clause-crops g c =
    crops_nothing (styled_bytes c.args.cs.now) (Counted (chars c.args.s.now)) _ c.args.self.now.allowed (counted_full c.args.self.now.allowed (chars c.args.s.now) (none_left c.args.self.now.allowed (sym c.is_full.ensures ∙ c.if-is_full.true))) _ refl

pub returns-clause-crops : goal.returns-clause-crops
returns-clause-crops g c =
    let allowed = c.args.self.now.allowed in
    let cs = chars c.args.s.now in
    crops_some (styled_bytes c.args.cs.now) (Counted cs) (take allowed cs) _ (min allowed (length cs)) _ _ _ allowed _ c.take_off.result c.queue_str-written.result
    (counted_kept allowed cs (some_left allowed (sym c.is_full.ensures ∙ c.if-is_full.false)))
    (ap (piece_bytes c.args.cs.now.object_style) c.first_chars-count.ensures.front) c.queue_str-written.ensures.writes (c.queue_str-written.ensures.early) (ap g.O.Out.seen c.take_off.ensures.device)
    (c.take_off.ensures.left ∙ ap (left_after c.queue_str-written.result allowed) c.first_chars-count.ensures.count) c.take_off.ensures.result
