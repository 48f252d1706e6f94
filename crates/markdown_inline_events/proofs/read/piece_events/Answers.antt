use Rattle.std.proofs.Common.{◌≡◌, ◌<◌, ℕ, ◌+◌, ◌++◌, List, length, map, reverse, get_or, refl, ap, ◌∙◌, arith}
use Rattle.std.proofs.lemmas.Str.{IsCharBoundary-start}
use Rattle.std.specs.Global.{Vec}
use Rattle.markdown_pieces.specs.declared.pieces.Piece.{Piece}
use Rattle.markdown_inlines.specs.declared.links.Over.{Over}
use Rattle.markdown_inline_events.specs.declared.events.InlineEvent.{InlineEvent}
use Rattle.markdown_inline_events.specs.declared.shares.Share.{Share}
use Rattle.markdown_inline_events.specs.declared.spans.Span.{Span}
use Rattle.markdown_inline_events.specs.Contents.{EventContent, event_of}
use Rattle.markdown_inline_events.specs.Reading.{events_from}
use Rattle.markdown_inline_events.specs.Shares.{ShareContent, end_share, own_shares, piece_shares, placed, share_of}
use Rattle.markdown_inline_events.specs.Spans.{begun, ended}
use Rattle.markdown_inline_events.proofs.ListLemmas.{list_at}
use Rattle.markdown_inline_events.proofs.ReadLemmas.{cut_next, no_over, no_piece, pieces_end, pieces_step}
use Rattle.markdown_inline_events.proofs.read.piece_events.Goals as goal

pub loop-index-init : goal.loop-index-init
loop-index-init c =
    let text : List ℕ = c.args.text.now in
    let rest : List Span → List EventContent = λ around. events_from text c.args.spans.now around 0 0 c.args.pieces.now c.args.left.now c.args.overs.now in
    record {
      cut = c.requires.cut;
      begin = IsCharBoundary-start text c.utf8.text;
      events = ap (λ (l : List InlineEvent). map event_of l ++ rest (reverse c.new-around.result.items)) c.new-events.ensures.items ∙ ap (λ (l : List Span). rest (reverse l)) c.new-around.ensures.items;
    }

pub loop-index-preserved : goal.loop-index-preserved
loop-index-preserved c =
    let text : List ℕ = c.args.text.now in
    let spans : List Span = c.args.spans.now in
    let at : ℕ = c.loop-index.at in
    let i : ℕ = c.loop-index.index in
    let ps : List Piece = c.args.pieces.now in
    let ns : List ℕ = c.args.left.now in
    let os : List Over = c.args.overs.now in
    let p : Piece = get_or ps i no_piece in
    let n : ℕ = get_or ns i 0 in
    let o : Over = get_or os i no_over in
    let within : i < length ps = omega arith in
    let next = cut_next text at i ps no_piece within c.loop-index.invariant.cut in
    let around : List Span = reverse c.loop-index.around.items in
    let began : List Span = c.deref.result.now in
    let now : List EventContent = map event_of c.loop-index.events.items in
    let said : List ShareContent = piece_shares p.kind (ended i around) (own_shares p.kind text at p.more n o.opens) began in
    let lists : List (Vec Span) = c.in_ok-begun.begun.items in
    let is_begun : began ≡ begun spans i =
    c.deref.ensures.value ∙ ap (λ (v : Vec Span). v.items) c.index.ensures ∙ list_at lists i c.index.result.now (omega (arith, within, c.in_ok-begun.ensures.size)) ∙ c.in_ok-begun.ensures.lists i within in
    let shares : map share_of c.deref-in-loop-index.result.now ≡ said =
    ap (λ (l : List Share). map share_of l) c.deref-in-loop-index.ensures.value ∙ c.in_ok-push_piece.ensures.shares ∙ ap (λ (l : List Share). map share_of l ++ said) c.clear.ensures.items in
    record {
      cut = next.3;
      begin = next.2;
      events = pieces_step text spans around (reverse c.push_piece.new.around.items) began at i ps ns os p n o now (map event_of c.push_placed.new.events.items) _ within (omega (arith, within, c.requires.left)) (omega (arith, within, c.requires.overs))
          refl refl refl is_begun c.in_ok-push_piece.ensures.around (c.in_ok-push_placed.ensures ∙ ap (λ (l : List ShareContent). now ++ placed at (at + (p.more + 1)) l) shares) c.loop-index.invariant.events;
    }

pub returns : goal.returns
returns c =
    let around : List Span = reverse c.loop-index.around.items in
    let shares : List ShareContent = map share_of c.deref-3.result.now in
    let ends : shares ≡ map end_share around =
    ap (λ (l : List Share). map share_of l) c.deref-3.ensures.value ∙ c.in_ok-push_ends.ensures ∙ ap (λ (l : List Share). map share_of l ++ map end_share c.deref-2.result.now) c.clear-2.ensures.items
    ∙ ap (λ (l : List Span). map end_share l) (c.deref-2.ensures.value ∙ c.reverse.ensures.items) in
    pieces_end c.args.text.now c.args.spans.now around c.loop-index.at c.loop-index.index c.args.pieces.now _ _ (map event_of c.loop-index.events.items) (map event_of c.push_placed-2.new.events.items) _ shares (omega arith)
    ends c.in_ok-push_placed-2.ensures c.loop-index.invariant.events
