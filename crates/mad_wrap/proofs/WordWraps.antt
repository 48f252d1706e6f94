-- Placed words are a wrap of their compounds.
use Rattle.std.proofs.Common.{◌≡◌, ℕ, ◌<◌, ◌+◌, List, [], ◌∷◌, map, length, sym, ap, ◌∙◌, arith, subst}
use Rattle.std.specs.List.{AllByRecursion}
use Rattle.mad_md.specs.Flagged.{flagged_text}
use Rattle.mad_md.specs.declared.compound.Compound.{Compound}
use Rattle.mad_measure.specs.TextColumns.{width_of}
use Rattle.mad_measure.specs.Tokens.{tokens_text}
use Rattle.mad_measure.specs.declared.tokens.Token.{Token}
use Rattle.mad_measure.proofs.TokenTexts.{IsHonest, text_of_all, all_honest}
use Rattle.mad_measure.proofs.UniqueLemmas.{all_unique}
use Rattle.mad_wrap.specs.Breaks.{LineAndGap, lines_and_gaps, TrimmingBreak}
use Rattle.mad_wrap.specs.Keeps.{Keeps}
use Rattle.mad_wrap.specs.LeastWords.{IsLeastWordBreak, IsWordWrap}
use Rattle.mad_wrap.specs.LeastWrap.{AreTokensIn}
use Rattle.mad_wrap.specs.Placings.{IsPlacing}
use Rattle.mad_wrap.specs.Rooms.{token_limit}
use Rattle.mad_wrap.specs.WordLines.{AreWordLines}
use Rattle.mad_wrap.specs.Words.{Piece, as_token, pieces_tokens, pieces_of, token_break, piece_break}
use Rattle.mad_wrap.specs.WrapLines.{compounds_of, AreCounted, HasRoom, LinesFit}
use Rattle.mad_wrap.specs.declared.room.Room.{Room}
use Rattle.mad_wrap.specs.declared.wrapped_line.WrappedLine.{WrappedLine}
use Rattle.mad_wrap.proofs.KeepLemmas.{texts_are, lengths_are, runs_are, keeps_break, fit_break, some_lines, counted_are, parts_are, filled_lines}
use Rattle.mad_wrap.proofs.LeastLemmas.{least, fits_with_room, some_with_room}
use Rattle.mad_wrap.proofs.WordLemmas.{IsLone, all_tokens, pieces_lone, room_for_pieces, token_break_covers, piece_break_covers, length-token_break, length-piece_break, token_gaps, token_fits, piece_fits, token_some}
use Rattle.mad_wrap.proofs.WrapLemmas.{room_for_tokens, some_tokens, total_is, one_list, lengths_of}

-- the tokens of the lines and gaps are all tokens
covers_tokens : (r : Room) (ts : List Token) (bs : List (LineAndGap Piece)) → lines_and_gaps bs ≡ pieces_of (token_limit r) ts → lines_and_gaps (token_break bs) ≡ ts
covers_tokens r ts bs covers = token_break_covers bs ∙ ap pieces_tokens covers ∙ all_tokens (token_limit r) ts

lone_pieces : (r : Room) (ts : List Token) (bs : List (LineAndGap Piece)) → lines_and_gaps bs ≡ pieces_of (token_limit r) ts → AllByRecursion IsLone (lines_and_gaps bs)
lone_pieces r ts bs covers = subst (AllByRecursion IsLone) (sym covers) (pieces_lone (token_limit r) ts)

-- the lines' tokens are placed
placing_is : (r : Room) (ts : List Token) (lines : List WrappedLine) (h : AreWordLines r ts lines) → IsPlacing r ts (token_break h.breaks)
placing_is r ts lines h = record {
  some_line = omega (arith, length-token_break h.breaks, length-piece_break h.breaks, h.first_fit.placing.some_line);
  covers = covers_tokens r ts h.breaks h.covers;
  gaps = token_gaps r.first r h.breaks (lone_pieces r ts h.breaks h.covers) h.first_fit.placing.gaps;
}

-- a break of the tokens that parts no piece is one of the pieces
pieces_break : (r : Room) (ts : List Token) (bs : List (LineAndGap Piece)) → lines_and_gaps bs ≡ pieces_of (token_limit r) ts → TrimmingBreak r ts (token_break bs) → TrimmingBreak r (map as_token (pieces_of (token_limit r) ts)) (piece_break bs)
pieces_break r ts bs covers h = record {
  some_line = omega (arith, h.some_line, length-token_break bs, length-piece_break bs);
  covers = piece_break_covers bs ∙ ap (map as_token) covers;
  fits = piece_fits r.first r bs h.fits;
}

-- lines that hold the first fit of the pieces are a least break
words_least : (r : Room) (ps : List Compound) (ts : List Token) (lines : List WrappedLine) → AreWordLines r ts lines → IsLeastWordBreak r ps ts (compounds_of lines)
words_least r ps ts lines h =
    let size : length (compounds_of lines) ≡ length (piece_break h.breaks) = omega (arith, lengths_of lines, lengths_are (token_break h.breaks) lines h.holds, length-token_break h.breaks, length-piece_break h.breaks) in
    record {
      parts = parts_are ps ts [] (token_break h.breaks) lines h.holds (covers_tokens r ts h.breaks h.covers);
      placed = record { breaks = token_break h.breaks; placing = placing_is r ts lines h; texts_are = texts_are (token_break h.breaks) lines h.holds };
      first_fit = record { breaks = h.breaks; covers = h.covers; first_fit = h.first_fit; runs_are = sym (runs_are (token_break h.breaks) lines h.holds) };
      least = λ bs covers trimming.
          omega (arith, size, length-piece_break bs, least r (map as_token (pieces_of (token_limit r) ts)) (piece_break h.breaks) (piece_break bs) h.first_fit (pieces_break r ts bs covers trimming));
    }

-- the tokens of the lines are those of the compounds
honest_lines : (r : Room) (ps : List Compound) (ts : List Token) (lines : List WrappedLine) → AreTokensIn r ps ts → (h : AreWordLines r ts lines) → AllByRecursion (IsHonest (token_limit r)) (lines_and_gaps (token_break h.breaks))
honest_lines r ps ts lines tokens h = subst (AllByRecursion (IsHonest (token_limit r))) (sym (covers_tokens r ts h.breaks h.covers)) (all_honest (token_limit r) ps ts tokens)

-- the columns of the lines of placed words are counted right
pub words_counted : (r : Room) (ps : List Compound) (ts : List Token) (lines : List WrappedLine) → AreTokensIn r ps ts → AreWordLines r ts lines → AreCounted lines
words_counted r ps ts lines tokens h = counted_are (token_limit r) (token_break h.breaks) lines h.holds (honest_lines r ps ts lines tokens h)

some_as : (qs : List Piece) → 0 < length (pieces_tokens qs) → 0 < length (map as_token qs)
some_as [] some = absurd (omega arith)
some_as (q ∷ qs) some = omega arith

some_pieces : (limit : ℕ) (ts : List Token) → 0 < length ts → 0 < length (map as_token (pieces_of limit ts))
some_pieces limit ts some = some_as (pieces_of limit ts) (omega (arith, some, ap length (all_tokens limit ts)))

-- placed words are a wrap
pub words_wrap : (r : Room) (ps : List Compound) (ts : List Token) (lines : List WrappedLine) → r.width < r.first + width_of (flagged_text ps) → AreTokensIn r ps ts → AreWordLines r ts lines → IsWordWrap r ps (compounds_of lines)
words_wrap r ps ts lines wide tokens h =
    let max = token_limit r in
    let bs = token_break h.breaks in
    let honest = honest_lines r ps ts lines tokens h in
    let placing = placing_is r ts lines h in
    let text = ap tokens_text placing.covers ∙ text_of_all max ps ts tokens in
    let texts = texts_are bs lines h.holds in
    let room = λ (has : HasRoom r (flagged_text ps)). room_for_pieces r ts (room_for_tokens r ps ts tokens has) in
    record {
      keeps = subst (λ x. Keeps x (map flagged_text (compounds_of lines))) text (subst (Keeps (tokens_text (lines_and_gaps bs))) texts (keeps_break max r.first r bs placing.gaps honest));
      fits = λ has.
          let fit = fits_with_room r (map as_token (pieces_of max ts)) (piece_break h.breaks) h.first_fit (room has) in
          subst (LinesFit r.first r) texts (fit_break max r.first r bs honest (token_fits r.first r h.breaks (lone_pieces r ts h.breaks h.covers) fit));
      some = λ has.
          let there = some_pieces max ts (some_tokens r ts (omega (arith, wide, total_is r ps ts tokens)) has.indent) in
          some_lines max bs lines h.holds honest (token_some h.breaks (some_with_room r (map as_token (pieces_of max ts)) (piece_break h.breaks) h.first_fit (room has) there));
      none_empty = filled_lines max bs lines h.holds honest;
      tokenized = one_list r ps ts tokens;
      least = λ us others. subst (λ x. IsLeastWordBreak r ps x (compounds_of lines)) (all_unique max ps ts us tokens others) (words_least r ps ts lines h);
    }
