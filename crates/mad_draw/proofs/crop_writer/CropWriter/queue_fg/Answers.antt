use Rattle.std.proofs.Common.{refl, sym, ◌∙◌}
use Rattle.mad_draw.proofs.CropLemmas.{command_left_out, command_written}
use Rattle.mad_draw.proofs.crop_writer.CropWriter.queue_fg.Goals as goal

pub returns-then-is_full-clause-writes : goal.returns-then-is_full-clause-writes
returns-then-is_full-clause-writes g c = command_left_out c.args.self.now.allowed _ _ _ (sym c.is_full.ensures ∙ c.if-is_full.true) refl

pub returns-clause-writes : goal.returns-clause-writes
returns-clause-writes g c = command_written c.args.self.now.allowed _ _ _ _ (sym c.is_full.ensures ∙ c.if-is_full.false) c.queue_fg.ensures.writes
