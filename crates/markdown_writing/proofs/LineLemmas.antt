-- The lines of a page that was written.
use Rattle.std.proofs.Common.{◌≡◌, ℕ, zero, suc, Bool, true, false, not, ◌||◌, ◌&&◌, ◌==◌, List, [], ◌∷◌, ◌++◌, length, map, replicate, flat_map, refl, sym, ap, ◌∙◌, append_assoc, arith}
use Rattle.std.proofs.lemmas.Bool.Decides.{nat_tests}
use Rattle.std.proofs.lemmas.Bool.{and_parts}
use Rattle.std.proofs.lemmas.Grind.{flat_map-append}
use Rattle.std.specs.Char.{is_ascii_punctuation}
use Rattle.std.specs.List.{list_all, onto_first}
use Rattle.mad_md.specs.declared.alignment.Alignment.{Alignment}
use Rattle.mad_md.specs.declared.alignment.Alignment.TheVariants.{Unspecified, Left, Center, Right}
use Rattle.markdown_blocks.specs.Lines.{text_lines}
use Rattle.markdown_writing.specs.Pages.{Page, Written, block_lines, code, ended, gap, heading, items, longest, markdown_from, no_more, paragraph, quotes, shows, stars, table, thematic_break}
use Rattle.markdown_writing.specs.Tables.{barred, cell_text, delimiter, delimiters, row_text}
use Rattle.markdown_writing.specs.Phrases.{Phrase, plain, code_span, emphasis, emphasis_text, fence, first_text, line_text, link, link_text, most_ticks, needs_room, phrase_text, room, roomy, star_marks}
use Rattle.markdown_writing.specs.Fronts.{itemized, quoted}
use Rattle.markdown_writing.specs.Reading.{AreLines, AreWritable, IsWritable, has_block}
use Rattle.markdown_writing.specs.Words.{escaped, escaped_byte, escaped_if, is_mark}
use Rattle.markdown_writing.specs.Writable.{AreCells, AreRows, IsCell, empty_cell, full_cell, is_destination, is_direct, is_line, is_phrase, is_some_line, is_tab_or_end}
use Rattle.markdown_writing.proofs.FrontLemmas.{all_fronted, indented_line, item_lines, items_are, lines_itemized, lines_quoted, no_end, quoted_is, quoted_line}
use Rattle.markdown_writing.proofs.WordLemmas.{by_escape, no_other}

-- ---- bytes of lines

and_true : (p q : Bool) → p ≡ true → q ≡ true → (p && q) ≡ true
and_true true q f g = g
and_true false q f g = f

-- what holds of each of two lists holds of both together
both_lines : (xs ys : List ℕ) → is_line xs ≡ true → is_line ys ≡ true → is_line (xs ++ ys) ≡ true
both_lines [] ys h k = k
both_lines (x ∷ xs) ys h k = let parts = and_parts (not (is_tab_or_end x)) (is_line xs) h in and_true _ _ parts.0 (both_lines xs ys parts.1 k)

signs_line : (n b : ℕ) → not (is_tab_or_end b) ≡ true → is_line (replicate n b) ≡ true
signs_line zero b h = refl
signs_line (suc n) b h = and_true _ _ h (signs_line n b h)

escape_line : (t : Bool) (b : ℕ) → not (is_tab_or_end b) ≡ true → is_line (escaped_if t b) ≡ true
escape_line t b h = by_escape (λ (bs : List ℕ). is_line bs ≡ true) t b (λ e. and_true _ true h refl) (λ e. and_true _ true h refl)

rest_line : (words : List ℕ) → is_line words ≡ true → is_line (flat_map escaped_byte words) ≡ true
rest_line [] h = refl
rest_line (b ∷ bs) h = let parts = and_parts (not (is_tab_or_end b)) (is_line bs) h in both_lines (escaped_byte b) (flat_map escaped_byte bs) (escape_line (is_mark b) b parts.0) (rest_line bs parts.1)

-- escaped words are a line
words_line : (words : List ℕ) → is_line words ≡ true → is_line (escaped words) ≡ true
words_line [] h = refl
words_line (b ∷ bs) h =
    let parts = and_parts (not (is_tab_or_end b)) (is_line bs) h in
    both_lines (escaped_if (is_ascii_punctuation b) b) (flat_map escaped_byte bs) (escape_line (is_ascii_punctuation b) b parts.0) (rest_line bs parts.1)

fence_line : (most : ℕ) → is_line (fence most) ≡ true
fence_line most = signs_line most 96 refl

room_line : (t : Bool) → is_line (room t) ≡ true
room_line true = refl
room_line false = refl

some_line : (bytes : List ℕ) → is_some_line bytes ≡ true → is_line bytes ≡ true
some_line [] h = refl
some_line (b ∷ bs) h = h

span_line : (bytes : List ℕ) → is_line bytes ≡ true → is_line (phrase_text (code_span bytes)) ≡ true
span_line bytes h =
    let most = most_ticks 0 0 bytes in
    let t = needs_room bytes in
    both_lines (fence most) (roomy bytes ++ fence most) (fence_line most)
    (both_lines (roomy bytes) (fence most) (both_lines (room t) (bytes ++ room t) (room_line t) (both_lines bytes (room t) h (room_line t))) (fence_line most))

stars_line : (strong : Bool) → is_line (star_marks strong) ≡ true
stars_line true = refl
stars_line false = refl

emphasis_line : (strong : Bool) (words : List ℕ) → is_line words ≡ true → is_line (emphasis_text strong words) ≡ true
emphasis_line strong words h =
    let stars = star_marks strong in
    let bytes = flat_map escaped_byte words in
    both_lines stars (bytes ++ stars) (stars_line strong) (both_lines bytes stars (rest_line words h) (stars_line strong))

-- a byte that isn't in a destination
abbrev other_than_direct : ℕ → Bool
other_than_direct b = not (is_direct b)

direct_line : (bs : List ℕ) → list_all is_direct bs ≡ true → is_line bs ≡ true
direct_line [] h = refl
direct_line (b ∷ bs) h =
    let parts = and_parts (is_direct b) (list_all is_direct bs) h in
    let direct : other_than_direct b ≡ false = ap not parts.0 in
    and_true (not (is_tab_or_end b)) (is_line bs) (rw (no_other other_than_direct b 9 refl direct) (rw (no_other other_than_direct b 10 refl direct) (rw (no_other other_than_direct b 13 refl direct) refl)))
    (direct_line bs parts.1)

destination_line : (bs : List ℕ) → is_destination bs ≡ true → is_line bs ≡ true
destination_line [] h = refl
destination_line (b ∷ bs) h = direct_line (b ∷ bs) h

link_line : (words destination : List ℕ) → is_line words ≡ true → is_line destination ≡ true → is_line (link_text words destination) ≡ true
link_line words destination h k = both_lines (flat_map escaped_byte words) (93 ∷ 40 ∷ (destination ++ 41 ∷ [])) (rest_line words h) (both_lines destination (41 ∷ []) k refl)

both_link : (words destination : List ℕ) → (is_some_line words && is_destination destination) ≡ true → is_line (link_text words destination) ≡ true
both_link words destination h =
    let parts = and_parts (is_some_line words) (is_destination destination) h in
    link_line words destination (some_line words parts.0) (destination_line destination parts.1)

phrase_line : (p : Phrase) → is_phrase p ≡ true → is_line (phrase_text p) ≡ true
phrase_line (plain words) h = rest_line words (some_line words h)
phrase_line (code_span bytes) h = span_line bytes (some_line bytes h)
phrase_line (emphasis strong words) h = emphasis_line strong words (some_line words h)
phrase_line (link words destination) h = both_link words destination h

first_line : (p : Phrase) → is_phrase p ≡ true → is_line (first_text p) ≡ true
first_line (plain words) h = words_line words (some_line words h)
first_line (code_span bytes) h = span_line bytes (some_line bytes h)
first_line (emphasis strong words) h = emphasis_line strong words (some_line words h)
first_line (link words destination) h = both_link words destination h

others_line : (ps : List Phrase) → list_all is_phrase ps ≡ true → is_line (flat_map phrase_text ps) ≡ true
others_line [] h = refl
others_line (p ∷ ps) h = let parts = and_parts (is_phrase p) (list_all is_phrase ps) h in both_lines (phrase_text p) (flat_map phrase_text ps) (phrase_line p parts.0) (others_line ps parts.1)

-- phrases are a line
phrases_line : (ps : List Phrase) → list_all is_phrase ps ≡ true → is_line (line_text ps) ≡ true
phrases_line [] h = refl
phrases_line (p ∷ ps) h = let parts = and_parts (is_phrase p) (list_all is_phrase ps) h in both_lines (first_text p) (flat_map phrase_text ps) (first_line p parts.0) (others_line ps parts.1)

all_lines : (xs : List (List ℕ)) (ys : List (List ℕ)) → list_all is_line xs ≡ true → list_all is_line ys ≡ true → list_all is_line (xs ++ ys) ≡ true
all_lines [] ys h k = k
all_lines (x ∷ xs) ys h k = let parts = and_parts (is_line x) (list_all is_line xs) h in and_true _ _ parts.0 (all_lines xs ys parts.1 k)

are_lines : (lines : List (List Phrase)) → AreLines lines → list_all is_line (map line_text lines) ≡ true
are_lines [] h = refl
are_lines (line ∷ lines) h = and_true (is_line (line_text line)) (list_all is_line (map line_text lines)) (phrases_line line h.0.are.each) (are_lines lines h.1)

-- ---- tables

barred_line : (bytes : List ℕ) → is_line bytes ≡ true → is_line (barred bytes) ≡ true
barred_line [] h = refl
barred_line (b ∷ bs) h = let parts = and_parts (not (is_tab_or_end b)) (is_line bs) h in both_lines (escaped_if (b == 124) b) (barred bs) (escape_line (b == 124) b parts.0) (barred_line bs parts.1)

cell_line : (phrases : List Phrase) → IsCell phrases → is_line (line_text phrases) ≡ true
cell_line phrases empty_cell = refl
cell_line phrases (full_cell ps are begins ends) = phrases_line ps are.each

cells_line : (cells : List (List Phrase)) → AreCells cells → is_line (flat_map cell_text cells) ≡ true
cells_line [] h = refl
cells_line (cell ∷ cells) h =
    both_lines (cell_text cell) (flat_map cell_text cells) (both_lines (barred (line_text cell)) (32 ∷ 124 ∷ []) (barred_line (line_text cell) (cell_line cell h.0)) refl) (cells_line cells h.1)

rows_line : (columns : ℕ) (rows : List (List (List Phrase))) → AreRows columns rows → list_all is_line (map row_text rows) ≡ true
rows_line columns [] h = refl
rows_line columns (row ∷ rows) h = and_true (is_line (row_text row)) (list_all is_line (map row_text rows)) (cells_line row h.1) (rows_line columns rows h.2)

delimiter_line : (a : Alignment) → is_line (delimiter a) ≡ true
delimiter_line Unspecified = refl
delimiter_line Left = refl
delimiter_line Center = refl
delimiter_line Right = refl

rule_line : (rule : List Alignment) → is_line (flat_map delimiter rule) ≡ true
rule_line [] = refl
rule_line (a ∷ rule) = both_lines (delimiter a) (flat_map delimiter rule) (delimiter_line a) (rule_line rule)

-- ---- blocks

block_is_lines : (block : Written) → IsWritable block → list_all is_line (block_lines block) ≡ true
block_is_lines (heading level phrases) h = and_true _ true (both_lines (replicate level 35) (32 ∷ line_text phrases) (signs_line level 35 refl) (phrases_line phrases h.2.are.each)) refl
block_is_lines (paragraph lines) h = are_lines lines h.1
block_is_lines (code language lines) h =
    and_true _ _ (both_lines (fence (longest lines)) language (fence_line (longest lines)) h.1) (all_lines lines (fence (longest lines) ∷ []) h.2 (and_true _ true (fence_line (longest lines)) refl))
block_is_lines thematic_break h = refl
block_is_lines (table rule head rows) h =
    and_true (is_line (row_text head)) _ (cells_line head h.1.1) (and_true (is_line (delimiters rule)) (list_all is_line (map row_text rows)) (rule_line rule) (rows_line (length rule) rows h.1.2))

-- ---- a text that is these lines

line_cut : (line rest : List ℕ) → is_line line ≡ true → text_lines (line ++ 10 ∷ rest) ≡ line ∷ text_lines rest
unfolding text_lines
line_cut [] rest h = refl
line_cut (b ∷ bs) rest h =
    let parts = and_parts (not (is_tab_or_end b)) (is_line bs) h in
    let none = no_end b parts.0 in
    rw none.1 (rw none.0 (ap (onto_first b) (line_cut bs rest parts.1)))

lines_cut : (lines : List (List ℕ)) → list_all is_line lines ≡ true → text_lines (flat_map ended lines) ≡ lines
unfolding text_lines
lines_cut [] h = refl
lines_cut (line ∷ lines) h =
    let parts = and_parts (is_line line) (list_all is_line lines) h in
    ap text_lines (append_assoc line (10 ∷ []) (flat_map ended lines))
    ∙ line_cut line (flat_map ended lines) parts.0
    ∙ ap (λ (ls : List (List ℕ)). line ∷ ls) (lines_cut lines parts.1)

-- ---- a page

-- an empty line, where blocks stand before
abbrev pub gap_lines : Bool → List (List ℕ)
gap_lines true = [] ∷ []
gap_lines false = []

-- the lines of blocks, with an empty line before each but the first, and one behind them or none
abbrev pub page_lines : (some trail : Bool) → Page → List (List ℕ)
page_lines some trail no_more = gap_lines trail
page_lines some trail (shows block after) = gap_lines some ++ (block_lines block ++ page_lines true trail after)
page_lines some trail (quotes inner after) = gap_lines some ++ (map quoted_line (page_lines false false inner) ++ page_lines true trail after)
page_lines some trail (items inner after) = gap_lines some ++ (item_lines (page_lines false false inner) ++ page_lines true trail after)

back : (gaps lines others others' : List (List ℕ)) → others ≡ others' ++ [] ∷ [] → gaps ++ (lines ++ others) ≡ (gaps ++ (lines ++ others')) ++ [] ∷ []
back gaps lines others others' e =
    ap (λ (ls : List (List ℕ)). gaps ++ (lines ++ ls)) e
    ∙ ap (λ (ls : List (List ℕ)). gaps ++ ls) (sym (append_assoc lines others' ([] ∷ [])))
    ∙ sym (append_assoc gaps (lines ++ others') ([] ∷ []))

-- the empty line behind them is the last
pub trailed : (some : Bool) (page : Page) → page_lines some true page ≡ page_lines some false page ++ [] ∷ []
trailed some no_more = refl
trailed some (shows block after) = back (gap_lines some) (block_lines block) (page_lines true true after) (page_lines true false after) (trailed true after)
trailed some (quotes inner after) = back (gap_lines some) (map quoted_line (page_lines false false inner)) (page_lines true true after) (page_lines true false after) (trailed true after)
trailed some (items inner after) = back (gap_lines some) (item_lines (page_lines false false inner)) (page_lines true true after) (page_lines true false after) (trailed true after)

gap_line : (some : Bool) → list_all is_line (gap_lines some) ≡ true
gap_line true = refl
gap_line false = refl

three_lines : (some : Bool) (lines others : List (List ℕ)) → list_all is_line lines ≡ true → list_all is_line others ≡ true → list_all is_line (gap_lines some ++ (lines ++ others)) ≡ true
three_lines some lines others h k = all_lines (gap_lines some) (lines ++ others) (gap_line some) (all_lines lines others h k)

-- they are lines without tabs
pub page_is_lines : (some trail : Bool) (page : Page) → AreWritable page → list_all is_line (page_lines some trail page) ≡ true
page_is_lines some trail no_more h = gap_line trail
page_is_lines some trail (shows block after) h = three_lines some (block_lines block) (page_lines true trail after) (block_is_lines block h.0) (page_is_lines true trail after h.1)
page_is_lines some trail (quotes inner after) h =
    let held = page_lines false false inner in
    three_lines some (map quoted_line held) (page_lines true trail after) (all_fronted quoted_line held quoted_is (page_is_lines false false inner h.1)) (page_is_lines true trail after h.2)
page_is_lines some trail (items inner after) h =
    let held = page_lines false false inner in
    three_lines some (item_lines held) (page_lines true trail after) (items_are held (page_is_lines false false inner h.1)) (page_is_lines true trail after h.2)

-- ---- some blocks have some lines

not_none : (line : List ℕ) (lines : List (List ℕ)) → (length (line ∷ lines) == 0) ≡ false
not_none line lines = grind (arith, nat_tests)

block_some : (b : Written) → IsWritable b → (lines : List (List ℕ)) → (length (block_lines b ++ lines) == 0) ≡ false
block_some (heading level phrases) h lines = not_none (replicate level 35 ++ 32 ∷ line_text phrases) lines
block_some (paragraph []) h lines = let no : true ≡ false = h.0 in absurd (cc)
block_some (paragraph (one ∷ others)) h lines = not_none (line_text one) (map line_text others ++ lines)
block_some (code language ls) h lines = not_none (fence (longest ls) ++ language) ((ls ++ fence (longest ls) ∷ []) ++ lines)
block_some thematic_break h lines = not_none stars lines
block_some (table rule head rows) h lines = not_none (row_text head) ((delimiters rule ∷ map row_text rows) ++ lines)

quoted_some : (lines others : List (List ℕ)) → (length lines == 0) ≡ false → (length (map quoted_line lines ++ others) == 0) ≡ false
quoted_some [] others h = let no : true ≡ false = h in absurd (cc)
quoted_some (line ∷ lines) others h = not_none (quoted_line line) (map quoted_line lines ++ others)

items_some : (lines others : List (List ℕ)) → (length lines == 0) ≡ false → (length (item_lines lines ++ others) == 0) ≡ false
items_some [] others h = let no : true ≡ false = h in absurd (cc)
items_some (line ∷ lines) others h = not_none (45 ∷ 32 ∷ line) (map indented_line lines ++ others)

pub some_lines : (trail : Bool) (page : Page) → AreWritable page → has_block page ≡ true → (length (page_lines false trail page) == 0) ≡ false
some_lines trail no_more h some = let no : false ≡ true = some in absurd (cc)
some_lines trail (shows b after) h some = block_some b h.0 (page_lines true trail after)
some_lines trail (quotes inner after) h some = quoted_some (page_lines false false inner) (page_lines true trail after) (some_lines false inner h.1 h.0)
some_lines trail (items inner after) h some = items_some (page_lines false false inner) (page_lines true trail after) (some_lines false inner h.1 h.0)

-- ---- the text

gap_text : (some : Bool) → gap some ≡ flat_map ended (gap_lines some)
gap_text true = refl
gap_text false = refl

-- some lines behind the gap, and others
both_text : (some : Bool) (lines others : List (List ℕ)) (text : List ℕ) → text ≡ flat_map ended others → gap some ++ (flat_map ended lines ++ text) ≡ flat_map ended (gap_lines some ++ (lines ++ others))
both_text some lines others text e =
    ap (λ (bs : List ℕ). gap some ++ (flat_map ended lines ++ bs)) e
    ∙ ap (λ (bs : List ℕ). gap some ++ bs) (sym (flat_map-append ended lines others))
    ∙ ap (λ (bs : List ℕ). bs ++ flat_map ended (lines ++ others)) (gap_text some)
    ∙ sym (flat_map-append ended (gap_lines some) (lines ++ others))

page_text : (some : Bool) (page : Page) → AreWritable page → markdown_from some page ≡ flat_map ended (page_lines some false page)
page_text some no_more h = refl
page_text some (shows block after) h = both_text some (block_lines block) (page_lines true false after) (markdown_from true after) (page_text true after h.1)
page_text some (quotes inner after) h =
    let lines = page_lines false false inner in
    ap (λ (bs : List ℕ). gap some ++ (quoted bs ++ markdown_from true after)) (page_text false inner h.1)
    ∙ ap (λ (bs : List ℕ). gap some ++ (bs ++ markdown_from true after)) (lines_quoted lines (page_is_lines false false inner h.1))
    ∙ both_text some (map quoted_line lines) (page_lines true false after) (markdown_from true after) (page_text true after h.2)
page_text some (items inner after) h =
    let lines = page_lines false false inner in
    ap (λ (bs : List ℕ). gap some ++ (itemized bs ++ markdown_from true after)) (page_text false inner h.1)
    ∙ ap (λ (bs : List ℕ). gap some ++ (bs ++ markdown_from true after)) (lines_itemized lines (some_lines false inner h.1 h.0) (page_is_lines false false inner h.1))
    ∙ both_text some (item_lines lines) (page_lines true false after) (markdown_from true after) (page_text true after h.2)

-- a text of blocks is their lines
pub page_cut : (page : Page) → AreWritable page → text_lines (markdown_from false page) ≡ page_lines false false page
page_cut page h = ap text_lines (page_text false page h) ∙ lines_cut (page_lines false false page) (page_is_lines false false page h)
