use Rattle.markdown_linked_pages.proofs.linked_rows.append_linked_composite.Goals as goal

pub returns : goal.returns
returns c = rw c.no_tones-paint.ensures at c.append_open_composite.ensures
