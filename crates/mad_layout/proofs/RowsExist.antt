-- Every line of flagged characters has rows.
use Rattle.std.proofs.Common.{◌≡◌, ℕ, ◌+◌, ◌<◌, ◌≤◌, Bool, true, false, List, [], ◌∷◌, ◌++◌, map, length, length-append, if◌then◌else◌, nat_le, refl, sym, ap, ◌∙◌, subst, arith, append_assoc}
use Rattle.std.specs.Prelude.{not, ◌&&◌}
use Rattle.std.specs.List.{AllByRecursion, list_all}
use Rattle.std.specs.Char.{is_whitespace}
use Rattle.std.proofs.lemmas.Bool.{leb-true}
use Rattle.std.proofs.lemmas.Bool.Decides.{nat_tests}
use Rattle.std.proofs.lemmas.List.{append-nil, length-map}
use Rattle.std.proofs.lemmas.List.Concat.{flat_map-append}
use Rattle.mad_characters.specs.Columns.{char_columns}
use Rattle.mad_md.specs.Flagged.{FlaggedChar, is_blank}
use Rattle.mad_measure.specs.TextColumns.{width_of}
use Rattle.mad_measure.proofs.AllLemmas.{all_push, all_front, all_back, all_joined}
use Rattle.mad_measure.proofs.FlaggedLemmas.{width_of-append}
use Rattle.mad_measure.specs.declared.tokens.Token.{Token}
use Rattle.mad_wrap.proofs.LeastLemmas.{least_from}
use Rattle.mad_wrap.specs.Breaks.{LineAndGap, lines_and_gaps, total_width, AllBlank, FitsFrom}
use Rattle.mad_wrap.specs.Keeps.{Keeps, AllWhite}
use Rattle.mad_wrap.specs.Placings.{LinesForced}
use Rattle.mad_wrap.specs.Rooms.{most_indent, token_limit}
use Rattle.mad_wrap.specs.WrapLines.{LinesFit}
use Rattle.mad_wrap.specs.declared.room.Room.{Room}
use Rattle.mad_layout.specs.FlaggedRows.{whole, goes_on, tokens_from, tokens_of, pieces_of_word, pieces_from, pieces_of_line, IsFittingBreak, AreRowsOf}
use Rattle.mad_layout.proofs.FlaggedBreaks.{piece_by, joined_by}
use Rattle.mad_blocks.proofs.LayoutJoins.{by_bool}

-- each of the characters is blank
abbrev pub all_blank : List FlaggedChar → Bool
all_blank t = list_all is_blank t

-- the rows of pieces, of which the first is after an indent and has begun; it has ended where a blank didn't fit
abbrev pub rows : Room → ℕ → List FlaggedChar → Bool → List (List FlaggedChar) → List (List FlaggedChar)
rows r i line ended [] = line ∷ []
rows r i line true (t ∷ ts) = if all_blank t then rows r i line true ts else line ∷ rows r r.other t false ts
rows r i line false (t ∷ ts) =
    if nat_le (i + width_of line + width_of t) r.width then rows r i (line ++ t) false ts
    else (if all_blank t then rows r i line true ts else line ∷ rows r r.other t false ts)

-- the rows of a line's parts
abbrev pub rows_of : Room → List (List FlaggedChar) → List (List FlaggedChar)
rows_of r parts = rows r r.first [] false (pieces_of_line r parts)

and_both : (a b : Bool) → (a && b) ≡ true → (a ≡ true) × (b ≡ true)
and_both true true e = (refl, refl)
and_both true false e = absurd (cc)
and_both false b e = absurd (cc)

-- ---- they keep the text

white_of : (t : List FlaggedChar) → all_blank t ≡ true → AllWhite t
white_of [] e = tt
white_of (x ∷ xs) e =
    let both = and_both (is_blank x) (all_blank xs) e in
    ((and_both (is_whitespace x.char) (not x.flags.code) both.0).0, white_of xs both.1)

abbrev IsWhiteChar : FlaggedChar → Type 0
IsWhiteChar x = is_whitespace x.char ≡ true

rows_keep : (r : Room) (i : ℕ) (line gap : List FlaggedChar) (ended : Bool) (ts : List (List FlaggedChar)) → AllWhite gap → (ended ≡ false → gap ≡ []) → Keeps (line ++ (gap ++ whole ts)) (rows r i line ended ts)
rows_keep r i line gap ended [] white none = (gap, [], refl, white, refl)
rows_keep r i line gap true (t ∷ ts) white none =
    by_bool (λ b. Keeps (line ++ (gap ++ whole (t ∷ ts))) (if b then rows r i line true ts else line ∷ rows r r.other t false ts)) (all_blank t)
    (λ on. subst (λ l. Keeps (line ++ l) (rows r i line true ts)) (append_assoc gap t (whole ts))
    (rows_keep r i line (gap ++ t) true ts (all_joined IsWhiteChar gap t white (white_of t on)) (λ e. absurd (cc))))
    (λ off. (gap, t ++ whole ts, refl, white, rows_keep r r.other t [] false ts tt (λ e. refl)))
rows_keep r i line gap false (t ∷ ts) white none =
    let no_gap : gap ≡ [] = none refl in
    let text : line ++ (t ++ whole ts) ≡ line ++ (gap ++ whole (t ∷ ts)) = ap (λ g. line ++ (g ++ (t ++ whole ts))) (sym no_gap) in
    by_bool (λ f. Keeps (line ++ (gap ++ whole (t ∷ ts))) (if f then rows r i (line ++ t) false ts else (if all_blank t then rows r i line true ts else line ∷ rows r r.other t false ts)))
    (nat_le (i + width_of line + width_of t) r.width)
    (λ on. subst (λ l. Keeps l (rows r i (line ++ t) false ts)) (append_assoc line t (whole ts) ∙ text) (rows_keep r i (line ++ t) [] false ts tt (λ e. refl)))
    (λ off. by_bool (λ b. Keeps (line ++ (gap ++ whole (t ∷ ts))) (if b then rows r i line true ts else line ∷ rows r r.other t false ts)) (all_blank t)
    (λ blank. subst (λ l. Keeps l (rows r i line true ts)) text (rows_keep r i line t true ts (white_of t blank) (λ e. absurd (cc))))
    (λ solid. (gap, t ++ whole ts, refl, white, rows_keep r r.other t [] false ts tt (λ e. refl))))

-- the tokens of characters are all of them
pub whole_tokens : (limit : ℕ) (u cs : List FlaggedChar) → whole (tokens_from limit u cs) ≡ u ++ cs
whole_tokens limit [] [] = refl
whole_tokens limit (x ∷ xs) [] = refl
whole_tokens limit u (y ∷ ys) =
    by_bool (λ b. whole (if b then tokens_from limit (u ++ y ∷ []) ys else u ∷ tokens_from limit (y ∷ []) ys) ≡ u ++ y ∷ ys) (goes_on limit u y)
    (λ on. whole_tokens limit (u ++ y ∷ []) ys ∙ append_assoc u (y ∷ []) ys)
    (λ off. ap (λ l. u ++ l) (whole_tokens limit (y ∷ []) ys))

-- the tokens of a line's parts are all of its characters
pub whole_tokens_of : (r : Room) (parts : List (List FlaggedChar)) → whole (tokens_of r parts) ≡ whole parts
whole_tokens_of r [] = refl
whole_tokens_of r (p ∷ ps) =
    flat_map-append (λ (t : List FlaggedChar). t) (tokens_from (token_limit r) [] p) (tokens_of r ps) ∙ ap (λ l. l ++ whole (tokens_of r ps)) (whole_tokens (token_limit r) [] p)
    ∙ ap (λ l. p ++ l) (whole_tokens_of r ps)

whole_of_word : (limit : ℕ) (word : List (List FlaggedChar)) → whole (pieces_of_word limit word) ≡ whole word
whole_of_word limit [] = refl
whole_of_word limit (t ∷ ts) =
    by_bool (λ b. whole (if b then whole (t ∷ ts) ∷ [] else t ∷ ts) ≡ whole (t ∷ ts)) (nat_le (width_of (whole (t ∷ ts))) limit) (λ on. append-nil (whole (t ∷ ts))) (λ off. refl)

whole_from : (limit : ℕ) (word ts : List (List FlaggedChar)) → whole (pieces_from limit word ts) ≡ whole word ++ whole ts
whole_from limit word [] = whole_of_word limit word ∙ sym (append-nil (whole word))
whole_from limit word (t ∷ ts) =
    by_bool (λ b. whole (if b then pieces_of_word limit word ++ (t ∷ pieces_from limit [] ts) else pieces_from limit (word ++ t ∷ []) ts) ≡ whole word ++ (t ++ whole ts)) (list_all is_blank t)
    (λ on. flat_map-append (λ (t : List FlaggedChar). t) (pieces_of_word limit word) (t ∷ pieces_from limit [] ts) ∙ ap (λ l. l ++ (t ++ whole (pieces_from limit [] ts))) (whole_of_word limit word)
    ∙ ap (λ l. whole word ++ (t ++ l)) (whole_from limit [] ts))
    (λ off. whole_from limit (word ++ t ∷ []) ts ∙ ap (λ l. l ++ whole ts) (flat_map-append (λ (t : List FlaggedChar). t) word (t ∷ []) ∙ ap (λ l. whole word ++ l) (append-nil t)) ∙ append_assoc (whole word) t (whole ts))

-- so are its pieces
pub whole_pieces : (r : Room) (parts : List (List FlaggedChar)) → whole (pieces_of_line r parts) ≡ whole parts
whole_pieces r parts =
    by_bool (λ b. whole (if b then pieces_from (token_limit r) [] (tokens_of r parts) else tokens_of r parts) ≡ whole parts) r.whole_words
    (λ on. whole_from (token_limit r) [] (tokens_of r parts) ∙ whole_tokens_of r parts) (λ off. whole_tokens_of r parts)

-- ---- they are lines of pieces

-- the text of a line of pieces
abbrev pub line_text : LineAndGap (List FlaggedChar) → List FlaggedChar
line_text p = whole p.line

-- each gap is whitespace
abbrev pub WhiteGaps : List (LineAndGap (List FlaggedChar)) → Type 0
WhiteGaps ps = AllByRecursion (λ p. AllWhite (whole p.gap)) ps

-- what breaking looks at of a piece: its columns, and whether it is blank
abbrev sized : List FlaggedChar → Token
sized t = record { compound = record { src = record { ref_ptr = (0, 0); now = [] }; bold = false; italic = false; code = false; strikeout = false; link = false; picture = false; picture_sign = false }; blank = all_blank t; width = width_of t; start_in_compound = 0; end_in_compound = 0 }

abbrev sized_pieces : List (LineAndGap (List FlaggedChar)) → List (LineAndGap Token)
sized_pieces ps = map (piece_by sized) ps

sizes_wide : (ts : List (List FlaggedChar)) → total_width (map sized ts) ≡ width_of (whole ts)
sizes_wide [] = refl
sizes_wide (t ∷ ts) = ap (λ n. width_of t + n) (sizes_wide ts) ∙ sym (width_of-append t (whole ts))

-- The rows are lines of pieces, the first of which begins with these. Each line but the first begins where the one before has no room.
record Broken (r : Room) (i : ℕ) (begun ts rs : List (List FlaggedChar)) : Type 0 where
  first : LineAndGap (List FlaggedChar)
  others : List (LineAndGap (List FlaggedChar))
  more : List (List FlaggedChar)
  begins : first.line ≡ begun ++ more
  covers : lines_and_gaps (first ∷ others) ≡ ts
  rows_are : map line_text (first ∷ others) ≡ rs
  dropped : WhiteGaps (first ∷ others)
  forced : LinesForced i r (sized_pieces (first ∷ others))

whole_more : (ts : List (List FlaggedChar)) (t : List FlaggedChar) → whole (ts ++ t ∷ []) ≡ whole ts ++ t
whole_more ts t = flat_map-append (λ (t : List FlaggedChar). t) ts (t ∷ []) ∙ ap (λ l. whole ts ++ l) (append-nil t)

-- a piece that isn't blank and doesn't fit begins the next line
line_ends : (r : Room) (i : ℕ) (line gap : List (List FlaggedChar)) (t : List FlaggedChar) (ts : List (List FlaggedChar)) → AllWhite (whole gap) → all_blank t ≡ false → r.width < i + width_of (whole line) + width_of (whole gap) + width_of t
    → Broken r r.other (t ∷ []) (t ∷ ts) (rows r r.other (whole (t ∷ [])) false ts) → Broken r i line (line ++ (gap ++ t ∷ ts)) (whole line ∷ rows r r.other t false ts)
line_ends r i line gap t ts white solid past next = record {
  first = record { line = line; gap = gap };
  others = next.first ∷ next.others;
  more = [];
  begins = sym (append-nil line);
  covers = ap (λ l. line ++ (gap ++ l)) next.covers;
  rows_are = ap (λ l. whole line ∷ l) (next.rows_are ∙ ap (λ l. rows r r.other l false ts) (append-nil t));
  dropped = (white, next.dropped);
  forced = (record { first = sized t; others = map sized next.more; begins = ap (map sized) next.begins; solid = solid; passes = omega (arith, past, sizes_wide line, sizes_wide gap) }, next.forced);
}

longer : (r : Room) (i : ℕ) (line ts rs : List (List FlaggedChar)) (t : List FlaggedChar) → Broken r i (line ++ t ∷ []) ts rs → Broken r i line ts rs
longer r i line ts rs t b = record {
  first = b.first;
  others = b.others;
  more = t ∷ b.more;
  begins = b.begins ∙ append_assoc line (t ∷ []) b.more;
  covers = b.covers;
  rows_are = b.rows_are;
  dropped = b.dropped;
  forced = b.forced;
}

rows_broken : (r : Room) (i : ℕ) (line gap : List (List FlaggedChar)) (ended : Bool) (ts : List (List FlaggedChar)) → AllWhite (whole gap) → (ended ≡ false → gap ≡ [])
    → (ended ≡ true → r.width < i + width_of (whole line) + width_of (whole gap)) → Broken r i line (line ++ (gap ++ ts)) (rows r i (whole line) ended ts)
rows_broken r i line gap ended [] white none past = record { first = record { line = line; gap = gap }; others = []; more = []; begins = sym (append-nil line); covers = refl; rows_are = refl; dropped = (white, tt); forced = tt }
rows_broken r i line gap true (t ∷ ts) white none past =
    by_bool (λ b. Broken r i line (line ++ (gap ++ t ∷ ts)) (if b then rows r i (whole line) true ts else whole line ∷ rows r r.other t false ts)) (all_blank t)
    (λ on. subst (λ l. Broken r i line (line ++ l) (rows r i (whole line) true ts)) (append_assoc gap (t ∷ []) ts)
    (rows_broken r i line (gap ++ t ∷ []) true ts (subst AllWhite (sym (whole_more gap t)) (all_joined IsWhiteChar (whole gap) t white (white_of t on))) (λ e. absurd (cc))
    (λ e. omega (arith, past refl, ap width_of (whole_more gap t), width_of-append (whole gap) t))))
    (λ off. line_ends r i line gap t ts white off (omega (arith, past refl)) (rows_broken r r.other (t ∷ []) [] false ts tt (λ e. refl) (λ e. absurd (cc))))
rows_broken r i line gap false (t ∷ ts) white none past =
    let text : line ++ (t ∷ ts) ≡ line ++ (gap ++ t ∷ ts) = ap (λ g. line ++ (g ++ t ∷ ts)) (sym (none refl)) in
    by_bool (λ f. nat_le (i + width_of (whole line) + width_of t) r.width ≡ f
    → Broken r i line (line ++ (gap ++ t ∷ ts)) (if f then rows r i (whole line ++ t) false ts else (if all_blank t then rows r i (whole line) true ts else whole line ∷ rows r r.other t false ts)))
    (nat_le (i + width_of (whole line) + width_of t) r.width)
    (λ on e. subst (λ l. Broken r i line l (rows r i (whole line ++ t) false ts)) (append_assoc line (t ∷ []) ts ∙ text)
    (longer r i line ((line ++ t ∷ []) ++ ts) (rows r i (whole line ++ t) false ts) t
    (subst (λ l. Broken r i (line ++ t ∷ []) ((line ++ t ∷ []) ++ ts) (rows r i l false ts)) (whole_more line t) (rows_broken r i (line ++ t ∷ []) [] false ts tt (λ e. refl) (λ e. absurd (cc))))))
    (λ off e.
    let past : r.width < i + width_of (whole line) + width_of t = grind (arith, nat_tests) in
    by_bool (λ b. Broken r i line (line ++ (gap ++ t ∷ ts)) (if b then rows r i (whole line) true ts else whole line ∷ rows r r.other t false ts)) (all_blank t)
    (λ blank. subst (λ l. Broken r i line l (rows r i (whole line) true ts)) text
    (rows_broken r i line (t ∷ []) true ts (subst AllWhite (sym (append-nil t)) (white_of t blank)) (λ e. absurd (cc)) (λ e. omega (arith, past, ap width_of (append-nil t)))))
    (λ solid. line_ends r i line gap t ts white solid (omega (arith, past)) (rows_broken r r.other (t ∷ []) [] false ts tt (λ e. refl) (λ e. absurd (cc)))))
    refl

lines_broken : (r : Room) (parts : List (List FlaggedChar)) → Broken r r.first [] (pieces_of_line r parts) (rows_of r parts)
lines_broken r parts = rows_broken r r.first [] [] false (pieces_of_line r parts) tt (λ e. refl) (λ e. absurd (cc))

-- ---- what holds of each piece

-- what holds of each token, and then of a word of some that is within the limit
IsOfWords : (List FlaggedChar → Type 0) → ℕ → Type 0
IsOfWords P limit = (t : List FlaggedChar) (ts : List (List FlaggedChar)) → P t → width_of (whole (t ∷ ts)) ≤ limit → P (whole (t ∷ ts))

each_of_word : (P : List FlaggedChar → Type 0) (limit : ℕ) → IsOfWords P limit → (word : List (List FlaggedChar)) → AllByRecursion P word → AllByRecursion P (pieces_of_word limit word)
unfolding IsOfWords
each_of_word P limit words [] h = tt
each_of_word P limit words (t ∷ ts) h =
    by_bool (λ b. AllByRecursion P (if b then whole (t ∷ ts) ∷ [] else t ∷ ts)) (nat_le (width_of (whole (t ∷ ts))) limit)
    (λ on. (words t ts h.0 (leb-true (width_of (whole (t ∷ ts))) limit on), tt)) (λ off. h)

each_from : (P : List FlaggedChar → Type 0) (limit : ℕ) → IsOfWords P limit → (word ts : List (List FlaggedChar)) → AllByRecursion P word → AllByRecursion P ts → AllByRecursion P (pieces_from limit word ts)
each_from P limit words word [] begun each = each_of_word P limit words word begun
each_from P limit words word (t ∷ ts) begun each =
    by_bool (λ b. AllByRecursion P (if b then pieces_of_word limit word ++ (t ∷ pieces_from limit [] ts) else pieces_from limit (word ++ t ∷ []) ts)) (list_all is_blank t)
    (λ on. all_joined P (pieces_of_word limit word) (t ∷ pieces_from limit [] ts) (each_of_word P limit words word begun) (each.0, each_from P limit words [] ts tt each.1))
    (λ off. each_from P limit words (word ++ t ∷ []) ts (all_push P word t begun each.0) each.1)

each_piece : (P : List FlaggedChar → Type 0) (r : Room) (parts : List (List FlaggedChar)) → IsOfWords P (token_limit r) → AllByRecursion P (tokens_of r parts) → AllByRecursion P (pieces_of_line r parts)
each_piece P r parts words each =
    by_bool (λ b. AllByRecursion P (if b then pieces_from (token_limit r) [] (tokens_of r parts) else tokens_of r parts)) r.whole_words
    (λ on. each_from P (token_limit r) words [] (tokens_of r parts) tt each) (λ off. each)

-- ---- they fit

rows_fit : (r : Room) (i : ℕ) (line : List FlaggedChar) (ended : Bool) (ts : List (List FlaggedChar)) → i + width_of line ≤ r.width → AllByRecursion (λ t. r.other + width_of t ≤ r.width) ts → LinesFit i r (rows r i line ended ts)
rows_fit r i line ended [] fits each = (fits, tt)
rows_fit r i line true (t ∷ ts) fits each =
    by_bool (λ b. LinesFit i r (if b then rows r i line true ts else line ∷ rows r r.other t false ts)) (all_blank t)
    (λ on. rows_fit r i line true ts fits each.1) (λ off. (fits, rows_fit r r.other t false ts each.0 each.1))
rows_fit r i line false (t ∷ ts) fits each =
    by_bool (λ f. LinesFit i r (if f then rows r i (line ++ t) false ts else (if all_blank t then rows r i line true ts else line ∷ rows r r.other t false ts)))
    (nat_le (i + width_of line + width_of t) r.width)
    (λ on. let within : i + width_of line + width_of t ≤ r.width = grind (arith, nat_tests) in rows_fit r i (line ++ t) false ts (omega (arith, within, width_of-append line t)) each.1)
    (λ off. by_bool (λ b. LinesFit i r (if b then rows r i line true ts else line ∷ rows r r.other t false ts)) (all_blank t)
    (λ blank. rows_fit r i line true ts fits each.1) (λ solid. (fits, rows_fit r r.other t false ts each.0 each.1)))

goes_within : (limit : ℕ) (u : List FlaggedChar) (y : FlaggedChar) → goes_on limit u y ≡ true → char_columns y.char ≤ limit → width_of (u ++ y ∷ []) ≤ limit
goes_within limit [] y on narrow = omega (arith, narrow)
goes_within limit (x ∷ xs) y on narrow =
    let test : nat_le (width_of (x ∷ xs) + char_columns y.char) limit ≡ true = (and_both (if is_blank x then is_blank y else not (is_blank y)) _ on).1 in
    let within : width_of (x ∷ xs) + char_columns y.char ≤ limit = grind (arith, nat_tests) in
    omega (arith, within, width_of-append (x ∷ xs) (y ∷ []))

tokens_within : (limit : ℕ) (u cs : List FlaggedChar) → width_of u ≤ limit → AllByRecursion (λ x. char_columns x.char ≤ limit) cs → AllByRecursion (λ t. width_of t ≤ limit) (tokens_from limit u cs)
tokens_within limit [] [] fits narrow = tt
tokens_within limit (x ∷ xs) [] fits narrow = (fits, tt)
tokens_within limit u (y ∷ ys) fits narrow =
    by_bool (λ b. AllByRecursion (λ t. width_of t ≤ limit) (if b then tokens_from limit (u ++ y ∷ []) ys else u ∷ tokens_from limit (y ∷ []) ys)) (goes_on limit u y)
    (λ on. tokens_within limit (u ++ y ∷ []) ys (goes_within limit u y on narrow.0) narrow.1)
    (λ off. (fits, tokens_within limit (y ∷ []) ys (omega (arith, narrow.0)) narrow.1))

tokens_of_within : (r : Room) (parts : List (List FlaggedChar)) → AllByRecursion (λ x. char_columns x.char ≤ token_limit r) (whole parts) → AllByRecursion (λ t. width_of t ≤ token_limit r) (tokens_of r parts)
tokens_of_within r [] narrow = tt
tokens_of_within r (p ∷ ps) narrow =
    let limit : ℕ = token_limit r in
    let is : FlaggedChar → Type 0 = λ x. char_columns x.char ≤ limit in
    all_joined (λ (t : List FlaggedChar). width_of t ≤ limit) (tokens_from limit [] p) (tokens_of r ps)
    (tokens_within limit [] p (omega arith) (all_front is p (whole ps) narrow)) (tokens_of_within r ps (all_back is p (whole ps) narrow))

pieces_within : (r : Room) (parts : List (List FlaggedChar)) → AllByRecursion (λ x. char_columns x.char ≤ token_limit r) (whole parts) → AllByRecursion (λ t. width_of t ≤ token_limit r) (pieces_of_line r parts)
unfolding IsOfWords
pieces_within r parts narrow = each_piece (λ t. width_of t ≤ token_limit r) r parts (λ t ts own within. within) (tokens_of_within r parts narrow)

-- ---- no fitting break has fewer lines

blank_of : (t : List FlaggedChar) → AllByRecursion (λ x. is_blank x ≡ true) t → all_blank t ≡ true
blank_of [] h = refl
blank_of (x ∷ xs) h = ap (λ b. b && all_blank xs) h.0 ∙ blank_of xs h.1

sizes_blank : (ts : List (List FlaggedChar)) → AllByRecursion (λ x. is_blank x ≡ true) (whole ts) → AllBlank (map sized ts)
sizes_blank [] h = tt
sizes_blank (t ∷ ts) h =
    let is : FlaggedChar → Type 0 = λ x. is_blank x ≡ true in
    (blank_of t (all_front is t (whole ts) h), sizes_blank ts (all_back is t (whole ts) h))

sizes_fit : (i : ℕ) (r : Room) (ps : List (LineAndGap (List FlaggedChar))) → LinesFit i r (map (λ p. whole p.line) ps) → AllByRecursion (λ p. AllByRecursion (λ x. is_blank x ≡ true) (whole p.gap)) ps → FitsFrom i r (sized_pieces ps)
sizes_fit i r [] fits dropped = tt
sizes_fit i r (p ∷ ps) fits dropped = (omega (arith, fits.0, sizes_wide p.line), sizes_blank p.gap dropped.0, sizes_fit r.other r ps fits.1 dropped.1)

rows_least : (r : Room) (parts : List (List FlaggedChar)) (ps : List (LineAndGap (List FlaggedChar))) → IsFittingBreak r parts ps → length (rows_of r parts) ≤ length ps
rows_least r parts ps b =
    let broken = lines_broken r parts in
    let lines : List (LineAndGap (List FlaggedChar)) = broken.first ∷ broken.others in
    let same : lines_and_gaps (sized_pieces ps) ≡ lines_and_gaps (sized_pieces lines) = joined_by sized ps ∙ ap (map sized) (b.covers ∙ sym broken.covers) ∙ sym (joined_by sized lines) in
    let fewest = least_from r.first r [] (sized_pieces lines) (sized_pieces ps) (omega (arith, b.some, length-map ps (piece_by sized))) broken.forced (sizes_fit r.first r ps b.fits b.dropped) same in
    omega (arith, fewest, length-map ps (piece_by sized), length-map lines (piece_by sized), ap length broken.rows_are, length-map lines line_text)

-- ---- a line that fits is its one row

rows_alone : (r : Room) (i : ℕ) (line : List FlaggedChar) (ts : List (List FlaggedChar)) → i + width_of line + width_of (whole ts) ≤ r.width → rows r i line false ts ≡ (line ++ whole ts) ∷ []
rows_alone r i line [] fits = ap (λ l. l ∷ []) (sym (append-nil line))
rows_alone r i line (t ∷ ts) fits =
    let within : i + width_of line + width_of t ≤ r.width = omega (arith, fits, width_of-append t (whole ts)) in
    let left : i + width_of (line ++ t) + width_of (whole ts) ≤ r.width = omega (arith, fits, width_of-append t (whole ts), width_of-append line t) in
    by_bool (λ f. (if f then rows r i (line ++ t) false ts else (if all_blank t then rows r i line true ts else line ∷ rows r r.other t false ts)) ≡ (line ++ (t ++ whole ts)) ∷ [])
    (nat_le (i + width_of line + width_of t) r.width)
    (λ on. rows_alone r i (line ++ t) ts left ∙ ap (λ l. l ∷ []) (append_assoc line t (whole ts)))
    (λ off. let test : nat_le (i + width_of line + width_of t) r.width ≡ true = grind (arith, nat_tests) in absurd (cc))

-- ---- no row is empty

-- the text isn't empty
abbrev pub IsSome : List FlaggedChar → Type 0
IsSome t = 0 < length t

rows_filled : (r : Room) (i : ℕ) (line : List FlaggedChar) (ended : Bool) (ts : List (List FlaggedChar)) → IsSome line → AllByRecursion IsSome ts → AllByRecursion IsSome (rows r i line ended ts)
rows_filled r i line ended [] some each = (some, tt)
rows_filled r i line true (t ∷ ts) some each =
    by_bool (λ b. AllByRecursion IsSome (if b then rows r i line true ts else line ∷ rows r r.other t false ts)) (all_blank t)
    (λ on. rows_filled r i line true ts some each.1) (λ off. (some, rows_filled r r.other t false ts each.0 each.1))
rows_filled r i line false (t ∷ ts) some each =
    by_bool (λ f. AllByRecursion IsSome (if f then rows r i (line ++ t) false ts else (if all_blank t then rows r i line true ts else line ∷ rows r r.other t false ts)))
    (nat_le (i + width_of line + width_of t) r.width)
    (λ on. rows_filled r i (line ++ t) false ts (omega (arith, some, length-append line t)) each.1)
    (λ off. by_bool (λ b. AllByRecursion IsSome (if b then rows r i line true ts else line ∷ rows r r.other t false ts)) (all_blank t)
    (λ blank. rows_filled r i line true ts some each.1) (λ solid. (some, rows_filled r r.other t false ts each.0 each.1)))

tokens_some : (limit : ℕ) (u cs : List FlaggedChar) → AllByRecursion IsSome (tokens_from limit u cs)
tokens_some limit [] [] = tt
tokens_some limit (x ∷ xs) [] = (omega arith, tt)
tokens_some limit [] (y ∷ ys) = tokens_some limit (y ∷ []) ys
tokens_some limit (x ∷ xs) (y ∷ ys) =
    by_bool (λ b. AllByRecursion IsSome (if b then tokens_from limit ((x ∷ xs) ++ y ∷ []) ys else (x ∷ xs) ∷ tokens_from limit (y ∷ []) ys)) (goes_on limit (x ∷ xs) y)
    (λ on. tokens_some limit ((x ∷ xs) ++ y ∷ []) ys) (λ off. (omega arith, tokens_some limit (y ∷ []) ys))

tokens_of_some : (r : Room) (parts : List (List FlaggedChar)) → AllByRecursion IsSome (tokens_of r parts)
tokens_of_some r [] = tt
tokens_of_some r (p ∷ ps) = all_joined IsSome (tokens_from (token_limit r) [] p) (tokens_of r ps) (tokens_some (token_limit r) [] p) (tokens_of_some r ps)

pieces_of_some : (r : Room) (parts : List (List FlaggedChar)) → AllByRecursion IsSome (pieces_of_line r parts)
unfolding IsOfWords
pieces_of_some r parts = each_piece IsSome r parts (λ t ts own within. omega (arith, own, length-append t (whole ts))) (tokens_of_some r parts)

-- parts that aren't empty, one at least, aren't empty together
pub whole_some : (parts : List (List FlaggedChar)) → 0 < length parts → AllByRecursion IsSome parts → IsSome (whole parts)
whole_some [] some each = absurd (omega (arith, some))
whole_some (p ∷ ps) some each = omega (arith, each.0, length-append p (whole ps))

first_filled : (r : Room) (ts : List (List FlaggedChar)) → most_indent r ≤ r.width → IsSome (whole ts) → AllByRecursion (λ t. width_of t ≤ token_limit r) ts → AllByRecursion IsSome ts → AllByRecursion IsSome (rows r r.first [] false ts)
first_filled r [] room some within each = absurd (omega (arith, some))
first_filled r (t ∷ ts) room some within each =
    let inside : r.first + 0 + width_of t ≤ r.width = omega (arith, room, within.0) in
    let test : nat_le (r.first + 0 + width_of t) r.width ≡ true = grind (arith, nat_tests) in
    subst (λ (f : Bool). AllByRecursion IsSome (if f then rows r r.first t false ts else (if all_blank t then rows r r.first [] true ts else [] ∷ rows r r.other t false ts))) (sym test)
    (rows_filled r r.first t false ts each.0 each.1)

-- ---- every line has rows

each_narrow : (r : Room) (xs : List FlaggedChar) → AllByRecursion (λ x. most_indent r + char_columns x.char ≤ r.width) xs → AllByRecursion (λ x. char_columns x.char ≤ token_limit r) xs
each_narrow r [] h = tt
each_narrow r (x ∷ xs) h = (omega (arith, h.0), each_narrow r xs h.1)

each_fits : (r : Room) (ts : List (List FlaggedChar)) → most_indent r ≤ r.width → AllByRecursion (λ t. width_of t ≤ token_limit r) ts → AllByRecursion (λ t. r.other + width_of t ≤ r.width) ts
each_fits r [] some h = tt
each_fits r (t ∷ ts) some h = (omega (arith, some, h.0), each_fits r ts some h.1)

-- such rows are those of a line's parts
pub rows_exist : (r : Room) (parts : List (List FlaggedChar)) → AreRowsOf r parts (rows_of r parts)
rows_exist r parts =
    let pieces = pieces_of_line r parts in
    let same = whole_pieces r parts in
    let broken = lines_broken r parts in
    record {
      keeps = subst (λ l. Keeps l (rows_of r parts)) same (rows_keep r r.first [] [] false pieces tt (λ e. refl));
      broken = record {
        breaks = broken.first ∷ broken.others;
        some = omega arith;
        covers = broken.covers;
        rows_are = broken.rows_are;
        dropped = broken.dropped;
      };
      alone = λ fits. rows_alone r r.first [] pieces (omega (arith, fits, ap width_of same)) ∙ ap (λ l. l ∷ []) same;
      fits = λ room. rows_fit r r.first [] false pieces (omega (arith, room.indent)) (each_fits r pieces room.indent (pieces_within r parts (each_narrow r (whole parts) room.each)));
      filled = λ room some each.
          let within = pieces_within r parts (each_narrow r (whole parts) room.each) in
          first_filled r pieces room.indent (subst IsSome (sym same) (whole_some parts some each)) within (pieces_of_some r parts);
      least = λ breaks b. rows_least r parts breaks b;
    }
