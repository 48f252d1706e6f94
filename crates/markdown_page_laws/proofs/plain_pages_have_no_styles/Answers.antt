use Rattle.markdown_page_laws.proofs.PlainPageLemmas.{plain_is_text, plain_has_no_escape}
use Rattle.markdown_page_laws.proofs.plain_pages_have_no_styles.Goals as goal

pub returns : goal.returns
returns c = record { text = plain_is_text; no_escape = plain_has_no_escape }
