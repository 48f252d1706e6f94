use Rattle.std.proofs.Common.{◌≡◌, ℕ, List, length, map, IfOk, sym, ap, subst, ◌∙◌}
use Rattle.markdown_emphasis.specs.declared.runs.Pair.{Pair}
use Rattle.markdown_pieces.specs.declared.pieces.Piece.{Piece}
use Rattle.markdown_pieces.specs.Cut.{CutText, cut_of}
use Rattle.markdown_inlines.specs.Inlines.{left_of}
use Rattle.markdown_inlines.specs.Links.{overs_of}
use Rattle.markdown_inline_events.specs.Contents.{EventContent, event_of}
use Rattle.markdown_inline_events.specs.Reading.{cut_events}
use Rattle.markdown_inline_events.specs.Spans.{spans_of}
use Rattle.markdown_inline_events.proofs.ReadLemmas.{events_all, left_is}
use Rattle.markdown_inline_events.proofs.ShownLemmas.{overs_length}
use Rattle.markdown_inline_events.proofs.read.read_inlines.Goals as goal

pub piece_events-requires-clause-overs : goal.piece_events-requires-clause-overs
piece_events-requires-clause-overs c = ap length (c.deref-9.ensures.value ∙ c.in_ok-overs.ensures) ∙ overs_length 0 0 c.deref-5.result.now ∙ ap length (c.deref-5.ensures.value ∙ sym c.deref-7.ensures.value)

pub returns : goal.returns
returns c =
    let text : List ℕ = c.args.text.now in
    let pieces : List Piece = c.in_ok-cut.cut.pieces.items in
    let pairs : List Pair = c.in_ok-cut.cut.pairs.items in
    let cut : CutText = cut_of c.in_ok-cut.cut in
    let spans : c.deref-6.result.now ≡ spans_of pairs pieces =
    c.deref-6.ensures.value ∙ c.in_ok-spans.ensures ∙ ap (λ (l : List Pair). spans_of l c.deref-2.result.now) c.deref.ensures.value ∙ ap (λ (l : List Piece). spans_of pairs l) c.deref-2.ensures.value in
    let left : c.deref-8.result.now ≡ left_of pairs pieces =
    c.deref-8.ensures.value ∙ left_is c.deref-4.result.now c.deref-3.result.now c.in_ok-left.left.items c.in_ok-left.ensures.size c.in_ok-left.ensures.left
    ∙ ap (λ (l : List Pair). left_of l c.deref-3.result.now) c.deref-4.ensures.value ∙ ap (λ (l : List Piece). left_of pairs l) c.deref-3.ensures.value in
    let overs : c.deref-9.result.now ≡ overs_of pieces = c.deref-9.ensures.value ∙ c.in_ok-overs.ensures ∙ ap overs_of c.deref-5.ensures.value in
    let all = events_all text cut c.deref-6.result.now c.deref-7.result.now c.deref-8.result.now c.deref-9.result.now spans c.deref-7.ensures.value left overs ∙ ap (λ (t : CutText). cut_events t text) c.in_ok-cut.ensures.cut in
    subst (λ (l : List EventContent). IfOk c.piece_events.result (λ events. map event_of events.items ≡ l)) all c.piece_events.ensures
