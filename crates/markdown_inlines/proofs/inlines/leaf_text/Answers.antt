use Rattle.std.proofs.Common.{ℕ, List, sym, ap, ◌∙◌}
use Rattle.markdown_emphasis.specs.declared.runs.Pair.{Pair}
use Rattle.markdown_pieces.specs.declared.pieces.Piece.{Piece}
use Rattle.markdown_pieces.specs.Cut.{CutText}
use Rattle.markdown_inlines.specs.Inlines.{links_from, shown_cut, are_shown}
use Rattle.markdown_inlines.proofs.QuietLemmas.{quiet_shown, quiet_printable, quiet_links}
use Rattle.markdown_inlines.proofs.inlines.leaf_text.Goals as goal

pub returns-then-is_quiet-clause-shown : goal.returns-then-is_quiet-clause-shown
returns-then-is_quiet-clause-shown c =
    let text : List ℕ = c.args.text.now in
    c.in_ok-quiet.ensures.shown ∙ quiet_shown text ∙ ap (λ (t : CutText). shown_cut t text) (sym (c.is_quiet.ensures c.if-is_quiet.true c.args.labels.now))

pub returns-then-is_quiet-clause-printable : goal.returns-then-is_quiet-clause-printable
returns-then-is_quiet-clause-printable c = ap are_shown (c.in_ok-quiet.ensures.shown ∙ quiet_shown c.args.text.now) ∙ quiet_printable c.args.text.now

pub returns-then-is_quiet-clause-links : goal.returns-then-is_quiet-clause-links
returns-then-is_quiet-clause-links c =
    c.in_ok-quiet.ensures.links ∙ sym (quiet_links c.args.text.now) ∙ ap (λ (t : CutText). links_from 0 t.pieces) (sym (c.is_quiet.ensures c.if-is_quiet.true c.args.labels.now))

pub returns-clause-shown : goal.returns-clause-shown
returns-clause-shown c =
    let text : List ℕ = c.args.text.now in
    c.in_ok-leaf.ensures.shown ∙ ap (λ (l : List Piece). shown_cut (record { pieces = l; pairs = c.deref-2.result.now }) text) c.deref.ensures.value
    ∙ ap (λ (l : List Pair). shown_cut (record { pieces = c.in_ok-cut.cut.pieces.items; pairs = l }) text) c.deref-2.ensures.value
    ∙ ap (λ (t : CutText). shown_cut t text) c.in_ok-cut.ensures.cut

pub returns-clause-links : goal.returns-clause-links
returns-clause-links c = c.in_ok-leaf.ensures.links ∙ ap (links_from 0) c.deref.ensures.value ∙ ap (λ (t : CutText). links_from 0 t.pieces) c.in_ok-cut.ensures.cut
