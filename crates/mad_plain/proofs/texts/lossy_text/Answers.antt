use Rattle.std.proofs.Common.{◌∙◌, sym}
use Rattle.std.proofs.lemmas.Str.{utf8_lossy-IsUtf8}
use Rattle.mad_plain.proofs.texts.lossy_text.Goals as goal

pub returns-in-Ok : goal.returns-in-Ok
returns-in-Ok c = c.in-Ok.ensures.cases.0 ∙ sym (utf8_lossy-IsUtf8 c.args.bytes.now c.in-Ok.ensures.cases.1)
