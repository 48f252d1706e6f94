use Rattle.std.proofs.Common.{ap, refl, sym, ◌∙◌, arith}
use Rattle.std.specs.Prelude.{chars}
use Rattle.mad_term.specs.Styles.{piece_bytes}
use Rattle.mad_draw.specs.Crops.{Text, left_after, styled_bytes}
use Rattle.mad_draw.proofs.CropLemmas.{crops_nothing, crops_memory, crops_some, none_left, some_left, text_full, text_kept, width_within}
use Rattle.mad_measure.specs.RunningWidths.{running_width, tabs_replaced}
use Rattle.mad_draw.proofs.crop_writer.CropWriter.queue_str.Goals as goal

pub returns-then-is_full-clause-crops : goal.returns-then-is_full-clause-crops
returns-then-is_full-clause-crops g c =
    crops_nothing (styled_bytes c.args.cs.now) (Text (chars c.args.s.now)) _ c.args.self.now.allowed (text_full c.args.self.now.allowed (chars c.args.s.now) (none_left c.args.self.now.allowed (sym c.is_full.ensures ∙ c.if-is_full.true))) _ refl

pub returns-in_err-text-clause-crops : goal.returns-in_err-text-clause-crops
returns-in_err-text-clause-crops g c =
    let allowed = c.args.self.now.allowed in
    let found = c.in_err-text.ensures.err in
    crops_memory (styled_bytes c.args.cs.now) (Text (chars c.args.s.now)) (tabs_replaced found.0) (running_width found.0) _ allowed _
    (text_kept allowed found.0 (chars c.args.s.now) (some_left allowed (sym c.is_full.ensures ∙ c.if-is_full.false)) found.1) c.from_residual.ensures.1

pub take_off-requires : goal.take_off-requires
take_off-requires g c =
    let cropped = c.in_ok-text.ensures.cropped in
    omega (arith, cropped.counts, width_within c.args.self.now.allowed cropped.front cropped.longest.within)

pub returns-clause-crops : goal.returns-clause-crops
returns-clause-crops g c =
    let allowed = c.args.self.now.allowed in
    let cropped = c.in_ok-text.ensures.cropped in
    crops_some (styled_bytes c.args.cs.now) (Text (chars c.args.s.now)) (tabs_replaced cropped.front) _ (running_width cropped.front) _ _ _ allowed _ c.take_off.result c.queue_str-written.result
    (text_kept allowed cropped.front (chars c.args.s.now) (some_left allowed (sym c.is_full.ensures ∙ c.if-is_full.false)) cropped.longest)
    (ap (piece_bytes c.args.cs.now.object_style) (c.deref.ensures.value ∙ cropped.replaced)) c.queue_str-written.ensures.writes (c.queue_str-written.ensures.early) (ap g.O.Out.seen c.take_off.ensures.device)
    (c.take_off.ensures.left ∙ ap (left_after c.queue_str-written.result allowed) cropped.counts) c.take_off.ensures.result
