use Rattle.std.proofs.Common.{rules, sym, ap, ◌∙◌, Some}
use Rattle.std.proofs.Output.{has_written_of_eq}
use Rattle.mad_term.specs.Commands.{sgr_bytes}
use Rattle.mad_term.specs.Styles.{present_bytes, color_bytes}
use Rattle.mad_term.proofs.CommandBytes.{palette_written, mix_written, numbered}
use Rattle.mad_term.proofs.styles.ColorCommandDisplay.fmt.Goals as goal

pub returns-in-Rgb-clause-writes : goal.returns-in-Rgb-clause-writes
returns-in-Rgb-clause-writes g c = λ p ok.
    has_written_of_eq _ _ _ _ _ (mix_written _ _ _ _ ∙ sym (ap (present_bytes (color_bytes c.args.self.now.kind)) (c.in-Some.is ∙ ap Some c.in-Rgb.is)))
    (c.write.ensures.writes p ok)

pub returns-in-Some-number : goal.returns-in-Some-number
returns-in-Some-number g c = record {
  writes = λ p ok.
      has_written_of_eq _ _ _ _ _ (palette_written _ _
      ∙ ap sgr_bytes (sym (numbered c.args.self.now.kind c.in-Some.color c.in-Some-number.number (search rules)))
      ∙ sym (ap (present_bytes (color_bytes c.args.self.now.kind)) c.in-Some.is))
      (c.write-in-Some-number.ensures.writes p ok);
  styled = tt;
}
