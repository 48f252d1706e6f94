use Rattle.std.proofs.Common.{◌∙◌, ap}
use Rattle.mad_term.specs.Styles.{opening_bytes}
use Rattle.mad_rows.proofs.StyleLemmas.{piece_after}
use Rattle.mad_rows.proofs.style_commands.StyleCommands.append.Goals as goal

pub returns : goal.returns
returns c =
    piece_after _ _ _ _ _ _ c.args.style (c.deref.ensures ∙ c.self.invariant ∙ ap opening_bytes (c.self.view_is ∙ c.in_ok-know.ensures)) c.closing_text.ensures c.append_three.ensures
