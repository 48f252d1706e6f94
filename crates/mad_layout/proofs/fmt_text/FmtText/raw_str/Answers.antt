use Rattle.std.proofs.lemmas.Result.{IfOk-weaker}
use Rattle.mad_md.specs.Lines.{contents}
use Rattle.mad_md.specs.ReadRaw.{IsReadRaw}
use Rattle.mad_md.specs.declared.text.Text.{Text}
use Rattle.mad_layout.specs.LaidOutTexts.{IsTextLaidOut}
use Rattle.mad_layout.proofs.fmt_text.FmtText.raw_str.Goals as goal

pub returns : goal.returns
returns c =
    let skin = c.args.skin.now in
    let read = c.in_ok-text.text in
    IfOk-weaker c.from_text.result (IsTextLaidOut skin c.args.width (contents read)) (λ laid_out. (text : Text) × IsReadRaw c.args.src.now text × IsTextLaidOut skin c.args.width (contents text) laid_out)
    (λ laid_out h. (read, c.in_ok-text.ensures, h)) c.from_text.ensures
