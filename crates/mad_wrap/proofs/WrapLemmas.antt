-- Placed tokens are a wrap of their compounds.
use Rattle.std.proofs.Common.{◌≡◌, ◌≤◌, ◌<◌, ◌+◌, List, [], ◌∷◌, map, length, None, refl, sym, ap, ◌∙◌, arith, subst}
use Rattle.std.specs.List.{AllByRecursion}
use Rattle.mad_characters.specs.Columns.{char_columns}
use Rattle.mad_md.specs.Flagged.{flagged_text}
use Rattle.mad_md.specs.declared.compound.Compound.{Compound}
use Rattle.mad_measure.specs.TextColumns.{width_of}
use Rattle.mad_measure.specs.Tokens.{tokens_text}
use Rattle.mad_measure.specs.declared.tokens.Token.{Token}
use Rattle.mad_measure.proofs.TokenTexts.{IsHonest, text_of_all, all_honest}
use Rattle.mad_measure.proofs.UniqueLemmas.{all_unique}
use Rattle.mad_wrap.specs.Breaks.{lines_and_gaps, total_width}
use Rattle.mad_wrap.specs.CleanCut.{clean_cut}
use Rattle.mad_wrap.specs.Keeps.{Keeps}
use Rattle.mad_wrap.specs.LeastWrap.{AreTokensIn, AreTokenized, IsLeastBreak, IsWrap}
use Rattle.mad_wrap.specs.WrapLines.{compounds_of, AreCounted}
use Rattle.mad_wrap.specs.TokenLines.{ArePlacedLines}
use Rattle.mad_wrap.specs.Rooms.{most_indent, token_limit}
use Rattle.mad_wrap.specs.WrapLines.{HasRoom, LinesFit}
use Rattle.mad_wrap.specs.declared.room.Room.{Room}
use Rattle.mad_wrap.specs.declared.wrapped_line.WrappedLine.{WrappedLine}
use Rattle.mad_wrap.proofs.KeepLemmas.{texts_are, lengths_are, runs_are, keeps_break, tokens_room, width_is, fit_break, some_lines, counted_are, parts_are, filled_lines}
use Rattle.mad_wrap.proofs.LeastLemmas.{TokensHaveRoom, least, fits_with_room, some_with_room}

-- room for each character is room for each token
pub room_for_tokens : (r : Room) (ps : List Compound) (ts : List Token) → AreTokensIn r ps ts → HasRoom r (flagged_text ps) → TokensHaveRoom r ts
room_for_tokens r ps ts tokens room = record {
  indent = room.indent;
  each = tokens_room (most_indent r) r.width ts room.indent (all_honest (token_limit r) ps ts tokens)
      (subst (AllByRecursion (λ x. most_indent r + char_columns x.char ≤ r.width)) (sym (text_of_all (token_limit r) ps ts tokens)) room.each);
}

-- there is a token where all are too wide for the first line, and it has room for its indent
pub some_tokens : (r : Room) (ts : List Token) → r.width < r.first + total_width ts → most_indent r ≤ r.width → 0 < length ts
some_tokens r [] wide l = absurd (omega arith)
some_tokens r (t ∷ ts) wide l = omega arith

-- tokens take as many columns as their compounds
pub total_is : (r : Room) (ps : List Compound) (ts : List Token) → AreTokensIn r ps ts → total_width ts ≡ width_of (flagged_text ps)
total_is r ps ts tokens = width_is (token_limit r) ts (all_honest (token_limit r) ps ts tokens) ∙ ap width_of (text_of_all (token_limit r) ps ts tokens)

-- there are as many lists of compounds as lines
pub lengths_of : (lines : List WrappedLine) → length (compounds_of lines) ≡ length lines
lengths_of [] = refl
lengths_of (l ∷ ls) = omega (arith, lengths_of ls)

-- the lines' columns are counted right
pub placed_counted : (r : Room) (ps : List Compound) (ts : List Token) (lines : List WrappedLine) → AreTokensIn r ps ts → ArePlacedLines r ts lines → AreCounted lines
placed_counted r ps ts lines tokens h =
    counted_are (token_limit r) h.breaks lines h.holds (subst (AllByRecursion (IsHonest (token_limit r))) (sym h.first_fit.placing.covers) (all_honest (token_limit r) ps ts tokens))

-- there are no other tokens
pub one_list : (r : Room) (ps : List Compound) (ts : List Token) → AreTokensIn r ps ts → AreTokenized r ps
one_list r ps ts tokens = record { tokens = ts; cut = tokens; only = λ us others. all_unique (token_limit r) ps us ts others tokens }

-- lines that hold the first fit are a least break
placed_least : (r : Room) (ps : List Compound) (ts : List Token) (lines : List WrappedLine) → ArePlacedLines r ts lines → IsLeastBreak r ps ts (compounds_of lines)
placed_least r ps ts lines h =
    let placing = h.first_fit.placing in
    let size : length (compounds_of lines) ≡ length h.breaks = omega (arith, lengths_of lines, lengths_are h.breaks lines h.holds) in
    record {
      parts = parts_are ps ts [] h.breaks lines h.holds placing.covers;
      placed = λ _. record { breaks = h.breaks; placing = placing; texts_are = texts_are h.breaks lines h.holds };
      first_fit = λ _. record { breaks = h.breaks; first_fit = h.first_fit; runs_are = sym (runs_are h.breaks lines h.holds) };
      least = λ breaks fitting. omega (arith, size, least r ts h.breaks breaks h.first_fit fitting.trimming);
      least_trimming = λ _ breaks trimming. omega (arith, size, least r ts h.breaks breaks h.first_fit trimming);
    }

-- placed tokens are a wrap
pub placed_wrap : (r : Room) (ps : List Compound) (ts : List Token) (lines : List WrappedLine) → r.width < r.first + width_of (flagged_text ps) → clean_cut r ps ≡ None → AreTokensIn r ps ts
    → ArePlacedLines r ts lines → IsWrap r ps (compounds_of lines)
placed_wrap r ps ts lines wide uncut tokens h =
    let max = token_limit r in
    let placing = h.first_fit.placing in
    let honest = subst (AllByRecursion (IsHonest max)) (sym placing.covers) (all_honest max ps ts tokens) in
    let text = ap tokens_text placing.covers ∙ text_of_all max ps ts tokens in
    let texts = texts_are h.breaks lines h.holds in
    record {
      keeps = subst (λ x. Keeps x (map flagged_text (compounds_of lines))) text (subst (Keeps (tokens_text (lines_and_gaps h.breaks))) texts (keeps_break max r.first r h.breaks placing.gaps honest));
      fits = λ room. subst (LinesFit r.first r) texts (fit_break max r.first r h.breaks honest (fits_with_room r ts h.breaks h.first_fit (room_for_tokens r ps ts tokens room)));
      some = λ room _.
          let there = some_tokens r ts (omega (arith, wide, total_is r ps ts tokens)) room.indent in
          some_lines max h.breaks lines h.holds honest (some_with_room r ts h.breaks h.first_fit (room_for_tokens r ps ts tokens room) there);
      cut = λ front back is. absurd (cc);
      tokenized = one_list r ps ts tokens;
      none_empty = λ _. filled_lines max h.breaks lines h.holds honest;
      least = λ us others. subst (λ x. IsLeastBreak r ps x (compounds_of lines)) (all_unique max ps ts us tokens others) (placed_least r ps ts lines h);
    }
