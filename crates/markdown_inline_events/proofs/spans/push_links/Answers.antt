use Rattle.std.proofs.Common.{◌<◌, ℕ, ◌+◌, ◌++◌, List, drop, length, get_or, sym, ap, ◌∙◌, arith}
use Rattle.markdown_pieces.specs.declared.pieces.Piece.{Piece}
use Rattle.markdown_inline_events.specs.declared.spans.Span.{Span}
use Rattle.markdown_inline_events.specs.Spans.{link_spans}
use Rattle.markdown_inline_events.proofs.ReadLemmas.{no_piece, cut_next, links_next, links_end}
use Rattle.markdown_inline_events.proofs.spans.push_links.Goals as goal

pub push_link-requires-clause-few : goal.push_link-requires-clause-few
push_link-requires-clause-few c =
    let within = (cut_next c.args.text.now c.loop-index.at c.loop-index.index c.args.pieces.now no_piece (omega arith) c.loop-index.invariant.cut).1 in omega (arith, within)

pub loop-index-preserved : goal.loop-index-preserved
loop-index-preserved c =
    let at : ℕ = c.loop-index.at in
    let i : ℕ = c.loop-index.index in
    let ps : List Piece = c.args.pieces.now in
    let p : Piece = get_or ps i no_piece in
    let within : i < length ps = omega arith in
    let behind : List Span = link_spans (i + 1) (at + (p.more + 1)) (drop (i + 1) ps) in
    record {
      cut = (cut_next c.args.text.now at i ps no_piece within c.loop-index.invariant.cut).3;
      links = c.in_ok-push_link.ensures behind ∙ ap (λ (l : List Span). c.loop-index.spans.items ++ l) (sym (links_next i at ps no_piece within)) ∙ c.loop-index.invariant.links;
    }

pub returns : goal.returns
returns c = links_end c.loop-index.index c.loop-index.at c.args.pieces.now c.loop-index.spans.items _ (omega arith) c.loop-index.invariant.links
