use Rattle.markdown_live.proofs.LiveLemmas.{ends_live, shown_as, shown_from}
use Rattle.markdown_live.proofs.live_markdown.LiveMarkdown.finish.Goals as goal

pub returns-clause-ends : goal.returns-clause-ends
returns-clause-ends g c =
    ends_live c.args.self _ c.show.new.self _ _ c.show.result c.in-Ok.ensures.rows
    (shown_from c.args.self.rows c.last_rows.new.self.rows c.show.new.self _ _ _ _ c.show.result _ c.last_rows.ensures.rest (shown_as _ _ _ _ _ _ _ _ _ c.as_bytes.ensures.value c.show.ensures.shows))
