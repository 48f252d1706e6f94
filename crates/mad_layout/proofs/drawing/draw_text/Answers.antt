use Rattle.mad_layout.proofs.drawing.draw_text.Goals as goal

pub returns-clause-writes : goal.returns-clause-writes
returns-clause-writes g c = rw c.row_skin-skin.ensures at c.draw_text_in.ensures.writes

pub returns-clause-shown : goal.returns-clause-shown
returns-clause-shown g c = rw c.row_skin-skin.ensures at c.draw_text_in.ensures.shown

pub returns-clause-shown_layout : goal.returns-clause-shown_layout
returns-clause-shown_layout g c = rw c.row_skin-skin.ensures at c.draw_text_in.ensures.shown_layout

pub returns-clause-headline : goal.returns-clause-headline
returns-clause-headline g c = rw c.row_skin-skin.ensures at c.draw_text_in.ensures.headline
