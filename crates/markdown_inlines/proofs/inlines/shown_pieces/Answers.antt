use Rattle.std.proofs.Common.{◌≡◌, ◌<◌, ℕ, ◌+◌, ◌++◌, List, drop, length, map, get_or, sym, ap, ◌∙◌, arith}
use Rattle.std.proofs.lemmas.Str.{IsCharBoundary-start}
use Rattle.markdown_emphasis.specs.declared.flags.Flags.{Flags}
use Rattle.markdown_pieces.specs.declared.pieces.Piece.{Piece}
use Rattle.markdown_inlines.specs.declared.looks.Look.{Look}
use Rattle.markdown_inlines.specs.declared.links.Over.{Over}
use Rattle.markdown_inlines.specs.declared.inlines.LinkTarget.{LinkTarget}
use Rattle.markdown_inlines.specs.Parts.{piece_shown}
use Rattle.markdown_inlines.specs.Inlines.{look_at, shown_piece, shown_from, links_from}
use Rattle.markdown_inlines.specs.Styled.{Shown, shown_with, spelled_of}
use Rattle.markdown_inlines.proofs.LinkLemmas.{no_piece}
use Rattle.markdown_inlines.proofs.ShownLemmas.{no_flags, no_over, shown_next, shown_step, shown_end, links_next, links_end, cut_next}
use Rattle.markdown_inlines.proofs.inlines.shown_pieces.Goals as goal

pub loop-index-init : goal.loop-index-init
loop-index-init c =
    let whole : List Shown = shown_from c.args.text.now 0 c.args.pieces.now c.args.flags.now c.args.left.now c.args.overs.now in
    record {
      cut = c.requires.cut;
      begin = IsCharBoundary-start c.args.text.now c.utf8.text;
      shown = ap (λ (l : List Shown). l ++ whole) c.in_ok-styled.ensures.nothing;
      styled = c.in_ok-styled.ensures.styled;
      links = ap (λ (l : List LinkTarget). l ++ links_from 0 c.args.pieces.now) c.new-links.ensures.items;
    }

pub push_piece-requires-clause-within : goal.push_piece-requires-clause-within
push_piece-requires-clause-within c = (cut_next c.args.text.now c.loop-index.at c.loop-index.index c.args.pieces.now no_piece (omega arith) c.loop-index.invariant.cut).1

pub push_piece-requires-clause-end : goal.push_piece-requires-clause-end
push_piece-requires-clause-end c = (cut_next c.args.text.now c.loop-index.at c.loop-index.index c.args.pieces.now no_piece (omega arith) c.loop-index.invariant.cut).2

pub push_piece-requires-clause-inside : goal.push_piece-requires-clause-inside
push_piece-requires-clause-inside c = (cut_next c.args.text.now c.loop-index.at c.loop-index.index c.args.pieces.now no_piece (omega arith) c.loop-index.invariant.cut).0

pub loop-index-preserved : goal.loop-index-preserved
loop-index-preserved c =
    let text : List ℕ = c.args.text.now in
    let at : ℕ = c.loop-index.at in
    let i : ℕ = c.loop-index.index in
    let ps : List Piece = c.args.pieces.now in
    let fs : List Flags = c.args.flags.now in
    let ns : List ℕ = c.args.left.now in
    let os : List Over = c.args.overs.now in
    let p : Piece = get_or ps i no_piece in
    let f : Flags = get_or fs i no_flags in
    let n : ℕ = get_or ns i 0 in
    let o : Over = get_or os i no_over in
    let held = c.loop-index.invariant in
    let within : i < length ps = omega arith in
    let next = cut_next text at i ps no_piece within held.cut in
    let look : c.look_at-look.result ≡ look_at f p o = c.look_at-look.ensures in
    let pushed : spelled_of c.push_piece.new.styled ≡ spelled_of c.loop-index.styled ++ shown_piece text at p f n o =
    c.in_ok-push_piece.ensures.pushed ∙ ap (λ (l : Look). spelled_of c.loop-index.styled ++ map (shown_with l) (piece_shown text at p n o)) look in
    let behind : List LinkTarget = links_from (at + (p.more + 1)) (drop (i + 1) ps) in
    record {
      cut = next.3;
      begin = next.2;
      shown = shown_step (spelled_of c.loop-index.styled) (spelled_of c.push_piece.new.styled) (shown_piece text at p f n o) _ _ _
          (shown_next text at i ps fs ns os no_piece no_flags 0 no_over within (omega (arith, c.requires.flags)) (omega (arith, c.requires.left)) (omega (arith, c.requires.overs))) pushed held.shown;
      styled = c.in_ok-push_piece.ensures.styled;
      links = c.in_ok-add_link.ensures behind ∙ ap (λ (l : List LinkTarget). c.loop-index.links.items ++ l) (sym (links_next at i ps no_piece within)) ∙ held.links;
    }

pub returns-clause-shown : goal.returns-clause-shown
returns-clause-shown c =
    shown_end c.args.text.now c.loop-index.at c.loop-index.index c.args.pieces.now _ _ _ (spelled_of c.loop-index.styled) _ (omega arith) c.loop-index.invariant.shown

pub returns-clause-links : goal.returns-clause-links
returns-clause-links c = links_end c.loop-index.at c.loop-index.index c.args.pieces.now c.loop-index.links.items _ (omega arith) c.loop-index.invariant.links
