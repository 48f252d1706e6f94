use Rattle.std.proofs.Common.{refl, ap, ◌∙◌, inl}
use Rattle.mad_live.specs.declared.live_rows.LiveRows.{LiveRows}
use Rattle.mad_stream.specs.LiveTexts.{without_last}
use Rattle.markdown_live.proofs.LiveLemmas.{left_refused, none_memory, rows_of, shows_left, shown_as}
use Rattle.markdown_live.proofs.live_markdown.LiveMarkdown.show.Goals as goal

pub returns-in-Ok-show-clause-shows : goal.returns-in-Ok-show-clause-shows
returns-in-Ok-show-clause-shows g c =
    inl (shows_left c.args.self.now _ _ _ c.without_last-rows.result.now _ _ _ (rows_of c.args.self.now.skin c.args.self.now.width c.deref.result.now _ _ c.deref.ensures.value c.in-Ok.ensures) c.in-Ok-growing_rows.ensures (c.without_last-rows.ensures ∙ ap without_last c.as_bytes.ensures.value)
    (none_memory c.in-Ok-show.field-0 (shown_as _ _ _ _ _ _ _ _ _ c.as_bytes-2.ensures.value c.in-Ok-show.ensures.shows)) (refl, c.clear.ensures.items))

pub returns-clause-shows : goal.returns-clause-shows
returns-clause-shows g c =
    left_refused c.args.self.now _ _ _ c.without_last-rows.result.now _ _ c.in-Err.error (rows_of c.args.self.now.skin c.args.self.now.width c.deref.result.now _ _ c.deref.ensures.value c.in-Ok.ensures) c.in-Ok-growing_rows.ensures (c.without_last-rows.ensures ∙ ap without_last c.as_bytes.ensures.value)
    (shown_as _ _ _ _ _ _ _ _ _ c.as_bytes-2.ensures.value c.in-Err.ensures.shows)

pub returns-clause-err : goal.returns-clause-err
returns-clause-err g c = ap (λ (rows : LiveRows). record c.args.self.now { rows = rows }) c.in-Err.ensures.err
