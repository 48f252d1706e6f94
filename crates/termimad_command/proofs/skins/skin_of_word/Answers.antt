use Rattle.std.proofs.Common.{◌∙◌, sym}
use Rattle.termimad_command.proofs.SkinLemmas.{named_skin, no_skin_named, said_skin}
use Rattle.termimad_command.proofs.skins.skin_of_word.Goals as goal

pub returns-then-is_said : goal.returns-then-is_said
returns-then-is_said g c = said_skin (g.T.Texts.holds c.args.texts.now) c.args.word.now c.skin_said.result (sym c.is_said.ensures ∙ c.if-is_said.true) c.skin_said.ensures

pub returns-in-Ok : goal.returns-in-Ok
returns-in-Ok g c =
    named_skin (g.T.Texts.holds c.args.texts.now) c.args.word.now c.in-Ok.bytes.items _ c.skin_in.result (sym c.is_said.ensures ∙ c.if-is_said.false) c.in-Ok.ensures c.as_slice.ensures.value c.skin_in.ensures

pub returns-in-Err : goal.returns-in-Err
returns-in-Err g c = no_skin_named c.args.word _ c.skin_unread.result (sym c.is_said.ensures ∙ c.if-is_said.false) c.skin_unread.ensures
