use Rattle.std.proofs.Common.{Some, subst}
use Rattle.termimad_words.specs.GivenSkins.{RefusesPageSkin}
use Rattle.termimad_command.proofs.SkinLemmas.{fault_refuses}
use Rattle.termimad_command.proofs.skins.skin_refusal.Goals as goal

pub returns-in-Skin : goal.returns-in-Skin
returns-in-Skin c = λ h. fault_refuses c.args.text.now _ (subst (RefusesPageSkin (Some c.args.text.now)) c.in-Skin.is h) c.faulty_skin.ensures
