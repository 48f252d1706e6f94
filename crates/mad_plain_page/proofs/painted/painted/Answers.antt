use Rattle.std.proofs.Common.{ap, ◌∙◌}
use Rattle.mad_term.specs.declared.styles.ContentStyle.{ContentStyle}
use Rattle.mad_style.specs.StyledChars.{styled_char}
use Rattle.mad_plain.specs.Styles.{content_style}
use Rattle.mad_plain_page.proofs.painted.painted.Goals as goal

pub returns : goal.returns
returns c =
    c.new.ensures
    ∙ ap (λ (style : ContentStyle). styled_char (record { object_style = style }) c.args.c) (c.content_style-object_style.ensures ∙ ap content_style c.pen_written.ensures)
