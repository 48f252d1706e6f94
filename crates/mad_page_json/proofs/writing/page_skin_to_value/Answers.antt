use Rattle.std.proofs.Common.{◌∙◌, ap, subst}
use Rattle.serde_json.specs.View.{view}
use Rattle.mad_page_json.specs.PageReadsBack.{PageReadsBack}
use Rattle.mad_page_json.specs.PageWriting.{with_page}
use Rattle.mad_page_json.proofs.WholeLemmas.{whole_back}
use Rattle.mad_page_json.proofs.writing.page_skin_to_value.Goals as goal

pub returns-clause-value : goal.returns-clause-value
returns-clause-value c = (view c.in_ok-text.text, c.in_ok-text.ensures.value, c.in_ok-value.ensures ∙ ap (with_page (view c.in_ok-text.text)) c.in_ok-page.ensures.value)

pub returns-clause-reads_back : goal.returns-clause-reads_back
returns-clause-reads_back c =
    let skin = c.args.skin.now in
    let text = c.in_ok-text.ensures.value in
    whole_back skin (view c.in_ok-text.text) (view c.in_ok-value.value) text.0 text.2 c.in_ok-text.ensures.reads_back (c.in_ok-value.ensures ∙ ap (with_page (view c.in_ok-text.text)) c.in_ok-page.ensures.value)
    (subst (PageReadsBack skin) c.in_ok-page.ensures.value c.in_ok-page.ensures.reads_back)
