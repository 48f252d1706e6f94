use Rattle.std.proofs.Common.{◌≡◌, ◌+◌, ◌-◌, ◌<◌, ◌≤◌, true, List, length, get_or, take, drop, string_bytes, ap, sym, ◌∙◌, subst, arith, length-drop}
use Rattle.std.proofs.lemmas.List.{get_or_read, drop-drop, take_rest}
use Rattle.mad_term.specs.Styles.{piece_bytes}
use Rattle.mad_screen.specs.Glyph.{Glyph, Look, look_of}
use Rattle.mad_screen.specs.Grid.{blank, plain_pen}
use Rattle.mad_screen.specs.Painting.{look_of_style, Paints}
use Rattle.mad_screen.specs.Pictures.{row_text}
use Rattle.mad_frames.specs.RunBytes.{style_bytes}
use Rattle.mad_frames.specs.Whole.{are_whole, is_writable}
use Rattle.mad_frames.proofs.PieceLemmas.{adds_none, adds_more, piece_painted, in_pen_front}
use Rattle.mad_frames.proofs.WholeLemmas.{whole_cut, first_writable}
use Rattle.mad_frames.proofs.PieceBytes.{IsPiece, piece_taken, other_after}
use Rattle.mad_frames.proofs.pieces.push_cells.Goals as goal

pub loop-from-init : goal.loop-from-init
loop-from-init c = record { within = omega arith; done = adds_none (string_bytes c.args.out.now); rest = c.requires; bytes = omega arith; other = λ below some. absurd (omega arith) }

pub loop-from-preserved : goal.loop-from-preserved
loop-from-preserved c =
    let cells = c.args.cells.now in
    let from = c.loop-from.from in
    let rest = take (length cells - from) (drop from cells) in
    let rest_is : rest ≡ drop from cells = take_rest cells from in
    let count : length rest ≡ length cells - from = ap length rest_is ∙ length-drop from cells in
    let are : are_whole rest ≡ true = ap are_whole rest_is ∙ c.loop-from.invariant.rest in
    let n = c.piece_length-length.result in
    let some : 0 < length rest = omega arith in
    let within : n ≤ length rest = c.piece_length-length.ensures.within in
    let cut = whole_cut rest n plain_pen plain_pen within c.piece_length-length.ensures.head are in
    let p : Look = (get_or rest 0 blank).pen in
    let first : c.index-rest-0.result ≡ get_or rest 0 blank = get_or_read rest 0 c.index-rest-0.result some c.index-rest-0.is blank in
    let pen : look_of c.first.inside.pen ≡ p = ap (λ (g : Glyph). g.pen) c.first.view_is ∙ ap (λ (g : Glyph). g.pen) first in
    let writable : is_writable p ≡ true = first_writable rest plain_pen some are in
    let look : look_of_style c.style_of.result ≡ p = c.style_of.ensures.look (ap is_writable pen ∙ writable) ∙ pen in
    let written : c.as_str.result.now ≡ row_text (take n rest) = c.as_str.ensures.value ∙ c.in_ok-text.ensures in
    let paints : Paints (piece_bytes c.style_of.result c.as_str.result.now) (take n rest) =
    piece_painted c.style_of.result c.as_str.result.now p (take n rest) c.push_styled.ensures.bytes look c.as_str.utf8 written cut.0
    (in_pen_front rest n p within c.piece_length-length.ensures.pen) in
    let piece = piece_bytes c.style_of.result c.as_str.result.now in
    let is : IsPiece cells rest from n = record { after = rest_is; whole = c.requires; some = c.piece_length-length.ensures.some; within = within; pen = c.piece_length-length.ensures.pen } in
    let bytes : length piece ≤ style_bytes p + length c.as_str.result.now =
    subst (λ (q : Look). length piece ≤ style_bytes q + length c.as_str.result.now) pen (c.style_of.ensures.bound (ap is_writable pen ∙ writable) c.push_styled.ensures.bytes c.as_str.result.now) in
    record {
      within = omega arith;
      bytes = piece_taken cells rest from n (string_bytes c.loop-from.out) (string_bytes c.push_styled.new.row) piece c.as_str.result.now (length (string_bytes c.args.out.now)) is
          (c.loop-from.invariant.other (omega arith)) written bytes c.in_ok-push_styled.ensures.writes c.loop-from.invariant.bytes;
      other = λ below _. other_after cells rest from n is c.piece_length-length.ensures.other below;
      done = adds_more (string_bytes c.args.out.now) (string_bytes c.loop-from.out) (string_bytes c.push_styled.new.row) (piece_bytes c.style_of.result c.as_str.result.now) cells from n c.loop-from.invariant.done c.in_ok-push_styled.ensures.writes (subst (λ (l : List Glyph). Paints (piece_bytes c.style_of.result c.as_str.result.now) (take n l)) rest_is paints);
      rest = ap are_whole (sym (drop-drop n from cells)) ∙ ap (λ (l : List Glyph). are_whole (drop n l)) (sym rest_is) ∙ cut.1;
    }
