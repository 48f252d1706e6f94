use Rattle.std.proofs.Common.{[], ap, sym, ◌∙◌}
use Rattle.std.proofs.lemmas.Result.{IfOk-weaker}
use Rattle.mad_outline.specs.Sources.{text_said}
use Rattle.mad_search.specs.declared.paged.PagedText.{PagedText}
use Rattle.mad_pager.specs.Following.{numbers_among}
use Rattle.mad_pager.specs.Sessions.{state_of}
use Rattle.mad_pager.proofs.FollowLemmas.{numbers_read}
use Rattle.mad_pager.proofs.session.Session.numbers_of.Goals as goal

pub returns-in-Markdown : goal.returns-in-Markdown
returns-in-Markdown c =
    let s = state_of c.args.self.now in
    IfOk-weaker c.link_numbers.result _ _
    (λ p h.
    h
    ∙ numbers_read c.in-Markdown.markdown.now [] s c.sections_shown-from.result c.as_slice.result.now c.as_slice-in-Markdown.result.now c.from.result c.sections_shown-from.ensures c.as_slice.ensures.value c.as_slice-in-Markdown.ensures.value (c.from.ensures ∙ c.body_rows.ensures)
    ∙ ap (λ (t : PagedText). numbers_among (text_said t).links (text_said t) s) (sym c.in-Markdown.is)) c.link_numbers.ensures
