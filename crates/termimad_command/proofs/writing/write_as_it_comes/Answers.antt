use Rattle.termimad_command.proofs.WriteLemmas.{text_shown, text_streamed}
use Rattle.termimad_command.proofs.writing.write_as_it_comes.Goals as goal

pub returns-in-Some : goal.returns-in-Some
returns-in-Some g c =
    text_shown c.args.look.now c.in-Some.screen _ _ _ _ _ _ _ _ c.in-Some.is c.with_words-skin.ensures c.columns_on-columns.ensures c.from-rows.ensures
    c.show_markdown_source_on.ensures.shows

pub returns-in-None : goal.returns-in-None
returns-in-None g c =
    text_streamed c.args.look.now _ _ _ _ _ _ _ c.in-None.is c.with_words-skin.ensures c.from-columns.ensures c.write_markdown_source_on.ensures.streams
