use Rattle.markdown_page_laws.proofs.SkinTextLemmas.{text_is_told, skins_keep_text}
use Rattle.markdown_page_laws.proofs.skins_keep_text.Goals as goal

pub returns : goal.returns
returns c = record { told = text_is_told; alike = skins_keep_text }
