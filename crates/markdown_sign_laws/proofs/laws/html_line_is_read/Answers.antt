use Rattle.markdown_sign_laws.proofs.HtmlLemmas.{html_line_read}
use Rattle.markdown_sign_laws.proofs.laws.html_line_is_read.Goals as goal

pub returns : goal.returns
returns c = html_line_read
