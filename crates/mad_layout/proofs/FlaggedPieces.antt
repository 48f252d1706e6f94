-- Where words stay whole: the pieces of tokens as texts, and breaks between these.
use Rattle.std.proofs.Common.{◌≡◌, ℕ, ◌<◌, Bool, true, false, nat_le, if◌then◌else◌, List, [], ◌∷◌, ◌++◌, map, length, refl, sym, ap, ◌∙◌, subst, arith, append-nil}
use Rattle.std.specs.Prelude.{◌&&◌}
use Rattle.std.specs.List.{AllByRecursion, list_all}
use Rattle.std.proofs.lemmas.List.{length-map, map-append}
use Rattle.std.proofs.lemmas.List.Concat.{flat_map-append}
use Rattle.mad_md.specs.Flagged.{FlaggedChar, flagged_of, is_blank}
use Rattle.mad_md.specs.declared.compound.Compound.{Compound}
use Rattle.mad_measure.specs.Tokens.{AreTokensOf, flagged_token}
use Rattle.mad_measure.specs.declared.tokens.Token.{Token}
use Rattle.mad_measure.proofs.AllLemmas.{all_push}
use Rattle.mad_measure.proofs.TokenTexts.{IsHonest, all_honest, some_flagged}
use Rattle.mad_wrap.specs.Breaks.{LineAndGap, lines_and_gaps, total_width, TrimmingBreak}
use Rattle.mad_wrap.specs.Rooms.{token_limit}
use Rattle.mad_wrap.specs.Words.{Piece, piece_tokens, pieces_tokens, alone, together, word_pieces, pieces_after, pieces_of, token_break}
use Rattle.mad_wrap.specs.WrapLines.{LinesFit}
use Rattle.mad_wrap.specs.declared.room.Room.{Room}
use Rattle.mad_wrap.proofs.WordLemmas.{after_blank, after_solid, all_tokens, token_break_covers, length-token_break}
use Rattle.mad_layout.specs.FlaggedRows.{whole, tokens_of, pieces_of_word, pieces_from, pieces_of_line, IsFittingBreak}
use Rattle.mad_layout.proofs.FlaggedBreaks.{piece_by, flagged_piece, lift, width_of-tokens, fits_back}
use Rattle.mad_layout.proofs.FlaggedTokens.{tokens_agree}
use Rattle.mad_blocks.proofs.LayoutJoins.{by_bool}

-- ---- the pieces of tokens say what those of their texts are

-- the text of a piece
abbrev pub piece_text : Piece → List FlaggedChar
piece_text p = whole (map flagged_token (piece_tokens p))

all_alike : (b : Bool) (xs : List FlaggedChar) → AllByRecursion (λ x. is_blank x ≡ b) xs → b ≡ true → list_all is_blank xs ≡ true
all_alike b [] h on = refl
all_alike b (x ∷ xs) h on = ap (λ c. c && list_all is_blank xs) (h.0 ∙ on) ∙ all_alike b xs h.1 on

-- a token is blank where its text is
blank_is : (b : Bool) (xs : List FlaggedChar) → 0 < length xs → AllByRecursion (λ x. is_blank x ≡ b) xs → list_all is_blank xs ≡ b
blank_is b [] some h = absurd (omega (arith, some))
blank_is true (x ∷ xs) some h = all_alike true (x ∷ xs) h refl
blank_is false (x ∷ xs) some h = ap (λ c. c && list_all is_blank xs) h.0

alone_texts : (word : List Token) → map piece_text (map alone word) ≡ map flagged_token word
alone_texts [] = refl
alone_texts (t ∷ ts) = ap (λ l. l ∷ map piece_text (map alone ts)) (append-nil (flagged_token t)) ∙ ap (λ l. flagged_token t ∷ l) (alone_texts ts)

word_agrees : (limit max : ℕ) (word : List Token) → AllByRecursion (IsHonest max) word → map piece_text (word_pieces limit word) ≡ pieces_of_word limit (map flagged_token word)
word_agrees limit max [] honest = by_bool (λ b. map piece_text (if b then together [] else map alone []) ≡ []) (nat_le (total_width []) limit) (λ on. refl) (λ off. refl)
word_agrees limit max (t ∷ ts) honest =
    let text : List FlaggedChar = whole (map flagged_token (t ∷ ts)) in
    by_bool (λ b. map piece_text (if b then together (t ∷ ts) else map alone (t ∷ ts)) ≡ (if b then text ∷ [] else map flagged_token (t ∷ ts))) (nat_le (total_width (t ∷ ts)) limit)
    (λ on. refl) (λ off. alone_texts (t ∷ ts))
    ∙ ap (λ n. if nat_le n limit then text ∷ [] else map flagged_token (t ∷ ts)) (sym (width_of-tokens max (t ∷ ts) honest))

-- tokens of which the first is blank, and tokens of which it isn't
from_blank : (limit : ℕ) (word ts : List (List FlaggedChar)) (t : List FlaggedChar) → list_all is_blank t ≡ true → pieces_from limit word (t ∷ ts) ≡ pieces_of_word limit word ++ (t ∷ pieces_from limit [] ts)
from_blank limit word ts t e = ap (λ b. if b then pieces_of_word limit word ++ (t ∷ pieces_from limit [] ts) else pieces_from limit (word ++ t ∷ []) ts) e

from_solid : (limit : ℕ) (word ts : List (List FlaggedChar)) (t : List FlaggedChar) → list_all is_blank t ≡ false → pieces_from limit word (t ∷ ts) ≡ pieces_from limit (word ++ t ∷ []) ts
from_solid limit word ts t e = ap (λ b. if b then pieces_of_word limit word ++ (t ∷ pieces_from limit [] ts) else pieces_from limit (word ++ t ∷ []) ts) e

Agree : ℕ → List Token → List Token → Type 0
Agree limit word ts = map piece_text (pieces_after limit word ts) ≡ pieces_from limit (map flagged_token word) (map flagged_token ts)

agree_by : (limit max : ℕ) (word ts : List Token) (t : Token) (b : Bool) → AllByRecursion (IsHonest max) word → IsHonest max t → t.blank ≡ b → Agree limit [] ts → Agree limit (word ++ t ∷ []) ts → Agree limit word (t ∷ ts)
unfolding Agree
agree_by limit max word ts t true begun honest e after more =
    let own : List FlaggedChar = flagged_token t in
    ap (map piece_text) (after_blank limit word ts t e) ∙ map-append piece_text (word_pieces limit word) (alone t ∷ pieces_after limit [] ts)
    ∙ ap (λ l. l ++ (piece_text (alone t) ∷ map piece_text (pieces_after limit [] ts))) (word_agrees limit max word begun)
    ∙ ap (λ l. pieces_of_word limit (map flagged_token word) ++ (l ∷ map piece_text (pieces_after limit [] ts))) (append-nil own)
    ∙ ap (λ l. pieces_of_word limit (map flagged_token word) ++ (own ∷ l)) after
    ∙ sym (from_blank limit (map flagged_token word) (map flagged_token ts) own (blank_is t.blank own (some_flagged t honest.within) honest.alike.alike ∙ e))
agree_by limit max word ts t false begun honest e after more =
    let own : List FlaggedChar = flagged_token t in
    ap (map piece_text) (after_solid limit word ts t e) ∙ more ∙ ap (λ l. pieces_from limit l (map flagged_token ts)) (map-append flagged_token word (t ∷ []))
    ∙ sym (from_solid limit (map flagged_token word) (map flagged_token ts) own (blank_is t.blank own (some_flagged t honest.within) honest.alike.alike ∙ e))

agree : (limit max : ℕ) (word ts : List Token) → AllByRecursion (IsHonest max) word → AllByRecursion (IsHonest max) ts → Agree limit word ts
unfolding Agree
agree limit max word [] begun honest = word_agrees limit max word begun
agree limit max word (t ∷ ts) begun honest =
    agree_by limit max word ts t t.blank begun honest.0 refl (agree limit max [] ts tt honest.1) (agree limit max (word ++ t ∷ []) ts (all_push (IsHonest max) word t begun honest.0) honest.1)

-- where words stay whole, the pieces are those of the tokens
pub word_pieces_of : (r : Room) (parts : List (List FlaggedChar)) → r.whole_words ≡ true → pieces_of_line r parts ≡ pieces_from (token_limit r) [] (tokens_of r parts)
word_pieces_of r parts on = ap (λ b. if b then pieces_from (token_limit r) [] (tokens_of r parts) else tokens_of r parts) on

-- the texts of the tokens' pieces are the pieces of the flagged text
pub pieces_agree : (r : Room) (ps : List Compound) (ts : List Token) → r.whole_words ≡ true → AreTokensOf (token_limit r) ps ts → map piece_text (pieces_of (token_limit r) ts) ≡ pieces_of_line r (map flagged_of ps)
unfolding Agree
pieces_agree r ps ts on cut =
    agree (token_limit r) (token_limit r) [] ts tt (all_honest (token_limit r) ps ts cut) ∙ ap (pieces_from (token_limit r) []) (tokens_agree r ps ts cut) ∙ sym (word_pieces_of r (map flagged_of ps) on)

-- ---- breaks

-- a line and its gap, each piece as its text
abbrev pub text_piece : LineAndGap Piece → LineAndGap (List FlaggedChar)
text_piece q = piece_by piece_text q

-- the tokens of pieces have their texts
same_text : (ps : List Piece) → whole (map flagged_token (pieces_tokens ps)) ≡ whole (map piece_text ps)
same_text [] = refl
same_text (p ∷ ps) =
    ap whole (map-append flagged_token (piece_tokens p) (pieces_tokens ps)) ∙ flat_map-append (λ (t : List FlaggedChar). t) (map flagged_token (piece_tokens p)) (map flagged_token (pieces_tokens ps))
    ∙ ap (λ l. piece_text p ++ l) (same_text ps)

-- the lines of pieces have the texts of their tokens' lines
pub same_lines : (qs : List (LineAndGap Piece)) → map (λ (p : LineAndGap (List FlaggedChar)). whole p.line) (map flagged_piece (token_break qs)) ≡ map (λ p. whole p.line) (map text_piece qs)
same_lines [] = refl
same_lines (q ∷ qs) = ap (λ l. l ∷ map (λ (p : LineAndGap (List FlaggedChar)). whole p.line) (map flagged_piece (token_break qs))) (same_text q.line) ∙ ap (λ l. whole (map piece_text q.line) ∷ l) (same_lines qs)

-- what holds of the text of each gap
pub gaps_back : (P : List FlaggedChar → Type 0) (qs : List (LineAndGap Piece)) → AllByRecursion (λ (p : LineAndGap (List FlaggedChar)). P (whole p.gap)) (map text_piece qs)
    → AllByRecursion (λ (p : LineAndGap (List FlaggedChar)). P (whole p.gap)) (map flagged_piece (token_break qs))
gaps_back P [] h = tt
gaps_back P (q ∷ qs) h = (subst P (sym (same_text q.gap)) h.0, gaps_back P qs h.1)

-- the same from the tokens back to the pieces
pub gaps_over : (P : List FlaggedChar → Type 0) (qs : List (LineAndGap Piece)) → AllByRecursion (λ (p : LineAndGap (List FlaggedChar)). P (whole p.gap)) (map flagged_piece (token_break qs))
    → AllByRecursion (λ (p : LineAndGap (List FlaggedChar)). P (whole p.gap)) (map text_piece qs)
gaps_over P [] h = tt
gaps_over P (q ∷ qs) h = (subst P (same_text q.gap) h.0, gaps_over P qs h.1)

-- the tokens of the lines and gaps are all tokens
pub covers_tokens : (limit : ℕ) (ts : List Token) (qs : List (LineAndGap Piece)) → lines_and_gaps qs ≡ pieces_of limit ts → lines_and_gaps (token_break qs) ≡ ts
covers_tokens limit ts qs covers = token_break_covers qs ∙ ap pieces_tokens covers ∙ all_tokens limit ts

-- a fitting break has as many lines as some break of the tokens that parts no piece
pub words_lift : (r : Room) (ps : List Compound) (ts : List Token) (breaks : List (LineAndGap (List FlaggedChar))) → r.whole_words ≡ true → AreTokensOf (token_limit r) ps ts → IsFittingBreak r (map flagged_of ps) breaks
    → (qs : List (LineAndGap Piece)) × (lines_and_gaps qs ≡ pieces_of (token_limit r) ts) × TrimmingBreak r ts (token_break qs) × (length qs ≡ length breaks)
words_lift r ps ts breaks on cut b =
    let max : ℕ = token_limit r in
    let IsAllBlank : List FlaggedChar → Type 0 = λ t. AllByRecursion (λ x. is_blank x ≡ true) t in
    let lifted = lift piece_text breaks (pieces_of max ts) (pieces_agree r ps ts on cut ∙ sym b.covers) in
    let qs = lifted.0 in
    let same : breaks ≡ map text_piece qs = sym lifted.2 in
    let covers : lines_and_gaps (token_break qs) ≡ ts = covers_tokens max ts qs lifted.1 in
    let count : length qs ≡ length breaks = sym (length-map qs text_piece) ∙ ap length lifted.2 in (
      qs,
      lifted.1,
      record {
        some_line = omega (arith, count, b.some, length-token_break qs);
        covers = covers;
        fits = fits_back max r.first r (token_break qs) (subst (AllByRecursion (IsHonest max)) (sym covers) (all_honest max ps ts cut))
            (subst (LinesFit r.first r) (ap (map (λ (p : LineAndGap (List FlaggedChar)). whole p.line)) same ∙ sym (same_lines qs)) b.fits)
            (gaps_back IsAllBlank qs (subst (AllByRecursion (λ (p : LineAndGap (List FlaggedChar)). IsAllBlank (whole p.gap))) same b.dropped));
      },
      count,
    )
