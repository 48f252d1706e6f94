use Rattle.std.proofs.Common.{sym, ◌∙◌}
use Rattle.markdown_live.proofs.LiveLemmas.{feeds_live, ok_of, refused_keeps}
use Rattle.markdown_live.proofs.live_markdown.LiveMarkdown.feed.Goals as goal

pub returns-clause-fed : goal.returns-clause-fed
returns-clause-fed g c =
    let takes = ok_of _ c.take.result (sym c.is_err.ensures.value ∙ c.if-is_err.false) c.take.ensures.takes in
    feeds_live c.args.self.now c.take.new.self c.show.new.self c.args.piece.now _ _ c.show.result takes c.take.ensures.skin c.take.ensures.width c.take.ensures.rows c.show.ensures.shows

pub returns-clause-kept : goal.returns-clause-kept
returns-clause-kept g c =
    let takes = ok_of _ c.take.result (sym c.is_err.ensures.value ∙ c.if-is_err.false) c.take.ensures.takes in
    refused_keeps c.args.self.now c.take.new.self c.show.new.self c.args.piece.now c.show.result takes c.take.ensures.skin c.take.ensures.width c.take.ensures.rows c.show.ensures.err
