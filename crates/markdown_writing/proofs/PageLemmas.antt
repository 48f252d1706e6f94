-- A page is read block by block.
use Rattle.std.proofs.Common.{◌≡◌, ℕ, zero, suc, ◌<◌, ◌≤◌, Bool, true, false, ◌||◌, ◌&&◌, not, ◌==◌, List, [], ◌∷◌, ◌++◌, map, length, replicate, flat_map, refl, sym, ap, subst, ◌∙◌, append_assoc, append-nil, arith}
use Rattle.std.proofs.Math.Nat.{le-max_left, le-max_right}
use Rattle.std.proofs.lemmas.Bool.{and_parts}
use Rattle.std.proofs.lemmas.List.{map-append}
use Rattle.std.specs.List.{list_all, list_any}
use Rattle.mad_md.specs.declared.alignment.Alignment.{Alignment}
use Rattle.markdown_marks.specs.Bytes.{without_blanks}
use Rattle.markdown_marks.specs.Headings.{without_end}
use Rattle.markdown_marks.specs.Remaining.{Remaining, whole}
use Rattle.markdown_blocks.specs.Events.{events_from}
use Rattle.markdown_blocks.specs.Leaves.{is_paragraph}
use Rattle.markdown_blocks.specs.declared.containers.Container.{Container}
use Rattle.markdown_blocks.specs.declared.containers.Container.TheVariants.{Quote}
use Rattle.markdown_blocks.proofs.WithinLemmas.{at_first}
use Rattle.markdown_leaves.specs.Gather.{Gathering, closed, nothing_told, trimmed}
use Rattle.markdown_leaves.specs.Parts.{PartContent, begins, block, ends}
use Rattle.markdown_leaves.specs.Told.{told}
use Rattle.markdown_leaves.specs.declared.parts.Kind.TheVariants.{Heading, Rule}
use Rattle.markdown_laws.specs.Fences.{text_of}
use Rattle.markdown_laws.specs.Quotes.{has_no_tab, has_room, spelled}
use Rattle.markdown_laws.proofs.BehindLemmas.{behind, closed_behind, told_behind}
use Rattle.markdown_laws.proofs.FenceLemmas.{ended, read_of}
use Rattle.markdown_laws.proofs.FlatLemmas.{closed_flat, flat_event, flat_part, flat_told, spelled_flat, told_flat}
use Rattle.markdown_laws.proofs.HeldLemmas.{IsOutside, behind_lines, ended_flat}
use Rattle.markdown_laws.proofs.RoomLemmas.{rooms, rooms_of}
use Rattle.markdown_part_laws.proofs.ParagraphLemmas.{outside_of, words_of}
use Rattle.markdown_writing.specs.Pages.{Page, Written, block_lines, code, heading, items, longest, markdown_of, no_more, paragraph, quotes, shows, stars, table, thematic_break}
use Rattle.markdown_writing.specs.Tables.{cell_text, delimiters, row_text, table_lines}
use Rattle.markdown_writing.specs.Phrases.{Phrase, fence, line_text}
use Rattle.markdown_writing.specs.Reading.{AreLines, AreWritable, IsWritable, PageIsReadBack, depth, has_block, part_of, parts_from}
use Rattle.markdown_writing.specs.Writable.{IsLine, is_line, is_tab_or_end}
use Rattle.markdown_writing.proofs.CodeLemmas.{all_inside, code_block, code_told, opening, two_at_least}
use Rattle.markdown_writing.proofs.FrontLemmas.{indented_line, item_lines, more_indented, quoted_line}
use Rattle.markdown_writing.proofs.ItemLemmas.{BeginsFull, hyphen_item, is_outside, item_told, none_open}
use Rattle.markdown_writing.proofs.LineLemmas.{gap_lines, page_cut, page_is_lines, page_lines, some_lines, trailed}
use Rattle.markdown_writing.proofs.MarkLemmas.{break_told, heading_at, heading_told, one_line}
use Rattle.markdown_writing.proofs.ParagraphLemmas.{BeginWords, Behind, blank_told, last, more, paragraph_told, told_of}
use Rattle.markdown_writing.proofs.PhraseLemmas.{line_begins, line_ends}
use Rattle.markdown_writing.proofs.QuoteLemmas.{flat_of, quote_told}
use Rattle.markdown_writing.proofs.RowLemmas.{table_part, table_told}
use Rattle.markdown_writing.proofs.WordLemmas.{BeginsWords, is_other_sign, no_other}

-- ---- a block

-- A block is one part, behind an empty line or not, whatever is told before it.
record IsRead (block : Written) : Type 0 where
  one : Bool → PartContent
  is : (apart : Bool) → spelled (one apart) ≡ part_of apart block
  told : (parts : List PartContent) (apart passed : Bool) (lines : List (List ℕ)) → Behind lines
      → told_of (outside_of parts apart passed) (block_lines block ++ lines) ≡ told_of (outside_of (parts ++ one passed ∷ []) passed false) lines

read_heading : (level : ℕ) (phrases : List Phrase) → 0 < level → level ≤ 6 → IsLine phrases → IsRead (heading level phrases)
read_heading level phrases some few h =
    let bytes = line_text phrases in
    let found = heading_told level bytes some few (line_begins phrases h) (line_ends phrases h) in
    record {
      one = λ apart. one_line (Heading level) apart (heading_at found.0 bytes);
      is = λ apart. refl;
      told = λ parts apart passed lines behind. found.1 parts apart passed lines;
    }

-- a line as it is told
abbrev spelled_line : Remaining → Remaining
spelled_line line = whole (text_of line)

same_lines : (lines : List (List ℕ)) → map spelled_line (map whole lines) ≡ map whole lines
same_lines [] = refl
same_lines (line ∷ lines) = ap (λ (ls : List Remaining). whole line ∷ ls) (same_lines lines)

words_begin : (lines : List (List Phrase)) → AreLines lines → BeginWords (map line_text lines)
words_begin [] h = tt
words_begin (line ∷ lines) h = (line_begins line h.0, words_begin lines h.1)

read_paragraph : (line : List Phrase) (lines : List (List Phrase)) → IsLine line → AreLines lines → IsRead (paragraph (line ∷ lines))
read_paragraph line lines h others =
    let bytes = line_text line in
    let texts = map line_text lines in
    record {
      one = λ apart. words_of apart (whole bytes ∷ map whole texts);
      is = λ apart. ap (λ (ls : List Remaining). words_of apart (whole bytes ∷ ls)) (same_lines texts);
      told = λ parts apart passed after behind. paragraph_told bytes texts (line_begins line h) (words_begin lines others) parts apart passed after behind;
    }

read_code : (language : List ℕ) (lines : List (List ℕ)) → list_any (λ b. b == 96) language ≡ false → list_all is_line lines ≡ true → IsRead (code language lines)
read_code language lines none h =
    let most = longest lines in
    let found = code_told most language lines (two_at_least lines) none (all_inside lines h) in
    record {
      one = λ apart. code_block apart (trimmed found.0 ∷ map whole lines);
      is = λ apart.
          ap (λ (bs : List ℕ). code_block apart (whole (without_end 32 9 (without_blanks bs)) ∷ map spelled_line (map whole lines))) found.1
          ∙ ap (λ (ls : List Remaining). code_block apart (whole (without_end 32 9 (without_blanks language)) ∷ ls)) (same_lines lines);
      told = λ parts apart passed others behind.
          ap (λ (ls : List (List ℕ)). told_of (outside_of parts apart passed) (opening most language ∷ ls)) (append_assoc lines (fence most ∷ []) others)
          ∙ found.2 parts apart passed others;
    }

read_break : IsRead thematic_break
read_break = record {
  one = λ apart. one_line Rule apart (whole stars);
  is = λ apart. refl;
  told = λ parts apart passed lines behind. break_told parts apart passed lines;
}

read_table : (rule : List Alignment) (head : List (List Phrase)) (rows : List (List (List Phrase))) → (length rule == 0) ≡ false → length head ≡ length rule → IsRead (table rule head rows)
read_table rule head rows some same =
    let lines = table_lines rule head rows in
    record {
      one = λ apart. table_part apart (length rule) (map whole lines);
      is = λ apart. ap (λ (ls : List Remaining). table_part apart (length rule) ls) (same_lines lines);
      told = λ parts apart passed after behind. table_told rule head rows some same parts apart passed after behind;
    }

-- each block is read
is_read : (block : Written) → IsWritable block → IsRead block
is_read (heading level phrases) h = read_heading level phrases h.0 h.1 h.2
is_read (paragraph []) h = let no : true ≡ false = h.0 in absurd (cc)
is_read (paragraph (line ∷ lines)) h = read_paragraph line lines h.1.0 h.1.1
is_read (code language lines) h = read_code language lines h.0 h.2
is_read thematic_break h = read_break
is_read (table rule head rows) h = read_table rule head rows h.0 h.1.0

-- ---- at whatever column the lines stand

flattened : (g : Gathering) (lines : List (List ℕ)) → flat_of (flat_told g) lines ≡ flat_told (told_of g lines)
flattened g lines = let events = events_from at_first lines in ap closed (told_flat events g) ∙ closed_flat (told g events)

flat_behind : (parts : List PartContent) (g : Gathering) (lines : List (List ℕ)) → flat_of (behind parts g) lines ≡ behind parts (flat_of g lines)
flat_behind parts g lines = let events = map flat_event (events_from at_first lines) in ap closed (told_behind events parts g) ∙ closed_behind parts (told g events)

-- lines that are told as others are so behind any parts
flat_same : (xs ys : List PartContent) (a b p q : Bool) (lines others : List (List ℕ)) → told_of (outside_of xs a p) lines ≡ told_of (outside_of ys b q) others → (parts : List PartContent)
    → flat_of (outside_of (parts ++ map flat_part xs) a p) lines ≡ flat_of (outside_of (parts ++ map flat_part ys) b q) others
flat_same xs ys a b p q lines others e parts =
    flat_behind parts (flat_told (outside_of xs a p)) lines
    ∙ ap (behind parts) (flattened (outside_of xs a p) lines ∙ ap flat_told e ∙ sym (flattened (outside_of ys b q) others))
    ∙ sym (flat_behind parts (flat_told (outside_of ys b q)) others)

-- a block is told, and then others
flat_block : (one : PartContent) (apart passed : Bool) (lines others : List (List ℕ)) → told_of (outside_of [] apart passed) lines ≡ told_of (outside_of (one ∷ []) passed false) others → (parts : List PartContent)
    → flat_of (outside_of parts apart passed) lines ≡ flat_of (outside_of (parts ++ flat_part one ∷ []) passed false) others
flat_block one apart passed lines others e parts =
    ap (λ (ps : List PartContent). flat_of (outside_of ps apart passed) lines) (sym (append-nil parts)) ∙ flat_same [] (one ∷ []) apart passed passed false lines others e parts

-- an empty line passes
flat_blank : (parts : List PartContent) (apart passed : Bool) (lines : List (List ℕ)) → flat_of (outside_of parts apart passed) ([] ∷ lines) ≡ flat_of (outside_of parts apart true) lines
flat_blank parts apart passed lines =
    ap (λ (ps : List PartContent). flat_of (outside_of ps apart passed) ([] ∷ lines)) (sym (append-nil parts))
    ∙ flat_same [] [] apart apart passed true ([] ∷ lines) lines (blank_told [] apart passed lines) parts
    ∙ ap (λ (ps : List PartContent). flat_of (outside_of ps apart true) lines) (append-nil parts)

abbrev first_of : List PartContent → PartContent
first_of [] = ends
first_of (p ∷ ps) = p

same_spelled : (p : PartContent) → spelled (flat_part p) ≡ spelled p
same_spelled (begins container apart) = refl
same_spelled ends = refl
same_spelled (block leaf) = ap first_of (spelled_flat (block leaf ∷ []))

-- ---- room for quotes and items

part_room : (room : ℕ) (apart : Bool) (b : Written) (parts : List PartContent) → has_room room (part_of apart b ∷ parts) ≡ has_room room parts
part_room room apart (heading level phrases) parts = refl
part_room room apart (paragraph phrases) parts = refl
part_room room apart (code language lines) parts = refl
part_room room apart thematic_break parts = refl
part_room room apart (table rule head rows) parts = refl

-- they leave as much room as is behind them
room_for : (page : Page) (room : ℕ) (apart : Bool) (others : List PartContent) → depth page ≤ room → has_room room (parts_from apart page ++ others) ≡ has_room room others
room_for no_more room apart others h = refl
room_for (shows b after) room apart others h = part_room room apart b (parts_from true after ++ others) ∙ room_for after room true others h
room_for (quotes inner after) zero apart others h = absurd (omega (arith, h, le-max_left (suc (depth inner)) (depth after)))
room_for (quotes inner after) (suc room) apart others h =
    ap (has_room room) (append_assoc (parts_from false inner) (ends ∷ parts_from true after) others)
    ∙ room_for inner room false (ends ∷ (parts_from true after ++ others)) (omega (arith, h, le-max_left (suc (depth inner)) (depth after)))
    ∙ room_for after (suc room) true others (omega (arith, h, le-max_right (suc (depth inner)) (depth after)))
room_for (items inner after) zero apart others h = absurd (omega (arith, h, le-max_left (suc (depth inner)) (depth after)))
room_for (items inner after) (suc room) apart others h =
    ap (has_room room) (append_assoc (parts_from false inner) (ends ∷ parts_from true after) others)
    ∙ room_for inner room false (ends ∷ (parts_from true after ++ others)) (omega (arith, h, le-max_left (suc (depth inner)) (depth after)))
    ∙ room_for after (suc room) true others (omega (arith, h, le-max_right (suc (depth inner)) (depth after)))

room_spelled : (parts : List PartContent) (room : ℕ) → has_room room (map spelled parts) ≡ has_room room parts
room_spelled [] room = refl
room_spelled (begins container apart ∷ parts) zero = refl
room_spelled (begins container apart ∷ parts) (suc room) = room_spelled parts room
room_spelled (ends ∷ parts) room = room_spelled parts (suc room)
room_spelled (block leaf ∷ parts) room = room_spelled parts room

-- ---- blocks

behind_of : (trail : Bool) (page : Page) → Behind (page_lines true trail page)
behind_of true no_more = more []
behind_of false no_more = last
behind_of trail (shows b after) = more (block_lines b ++ page_lines true trail after)
behind_of trail (quotes inner after) = more (map quoted_line (page_lines false false inner) ++ page_lines true trail after)
behind_of trail (items inner after) = more (item_lines (page_lines false false inner) ++ page_lines true trail after)

-- what is read of blocks, behind any parts; an empty line behind them passes
record IsToldAs (trail : Bool) (lines : List (List ℕ)) (parts told_parts : List PartContent) (apart passed : Bool) : Type 0 where
  all : List PartContent
  still : Bool
  later : Bool
  passes : trail ≡ true → later ≡ true
  spell : map spelled all ≡ told_parts
  told_as : flat_of (outside_of parts apart passed) lines ≡ outside_of (parts ++ all) still later

abbrev Reads : Page → Type 0
Reads page = (trail : Bool) (parts : List PartContent) (apart passed : Bool) → IsToldAs trail (page_lines false trail page) parts (parts_from passed page) apart passed

abbrev ReadsBelow : Page → Type 0
ReadsBelow page = (trail : Bool) (parts : List PartContent) (apart passed : Bool) → IsToldAs trail (page_lines true trail page) parts (parts_from true page) apart passed

nothing_told_more : (trail : Bool) (parts : List PartContent) (apart passed : Bool) → (trail ≡ true → passed ≡ true) → IsToldAs trail [] parts [] apart passed
unfolding events_from told closed
nothing_told_more trail parts apart passed h = record { all = []; still = apart; later = passed; passes = h; spell = refl; told_as = ap (λ (ps : List PartContent). outside_of ps apart passed) (sym (append-nil parts)) }

behind_blank : (trail : Bool) (lines : List (List ℕ)) (parts told_parts : List PartContent) (apart passed : Bool) → IsToldAs trail lines parts told_parts apart true → IsToldAs trail ([] ∷ lines) parts told_parts apart passed
behind_blank trail lines parts told_parts apart passed r = record { all = r.all; still = r.still; later = r.later; passes = r.passes; spell = r.spell; told_as = flat_blank parts apart passed lines ∙ r.told_as }

none_told : (trail : Bool) (parts : List PartContent) (apart passed : Bool) → IsToldAs trail (gap_lines trail) parts [] apart passed
none_told true parts apart passed = behind_blank true [] parts [] apart passed (nothing_told_more true parts apart true (λ e. refl))
none_told false parts apart passed = nothing_told_more false parts apart passed (λ e. let no : false ≡ true = e in absurd (cc))

below : (page : Page) → Reads page → ReadsBelow page
below no_more r trail parts apart passed = none_told trail parts apart passed
below (shows b after) r trail parts apart passed = behind_blank trail (block_lines b ++ page_lines true trail after) parts (parts_from true (shows b after)) apart passed (r trail parts apart true)
below (quotes inner after) r trail parts apart passed =
    behind_blank trail (map quoted_line (page_lines false false inner) ++ page_lines true trail after) parts (parts_from true (quotes inner after)) apart passed (r trail parts apart true)
below (items inner after) r trail parts apart passed =
    behind_blank trail (item_lines (page_lines false false inner) ++ page_lines true trail after) parts (parts_from true (items inner after)) apart passed (r trail parts apart true)

block_then : (b : Written) (after : Page) → IsRead b → ReadsBelow after → Reads (shows b after)
block_then b after r later trail parts apart passed =
    let lines = page_lines true trail after in
    let one = flat_part (r.one passed) in
    let next = later trail (parts ++ one ∷ []) passed false in
    record {
      all = one ∷ next.all;
      still = next.still;
      later = next.later;
      passes = next.passes;
      spell = ap (λ (p : PartContent). p ∷ map spelled next.all) (same_spelled (r.one passed) ∙ r.is passed) ∙ ap (λ (ps : List PartContent). part_of passed b ∷ ps) next.spell;
      told_as = flat_block (r.one passed) apart passed (block_lines b ++ lines) lines (r.told [] apart passed lines (behind_of trail after)) parts
          ∙ next.told_as
          ∙ ap (λ (ps : List PartContent). outside_of ps next.still next.later) (append_assoc parts (one ∷ []) next.all);
    }

no_tab : (b : ℕ) → not (is_tab_or_end b) ≡ true → not (b == 9) ≡ true
no_tab b h = first_of_three (b == 9) (b == 10) (b == 13) h
  where
    first_of_three : (p q r : Bool) → not (p || q || r) ≡ true → not p ≡ true
    first_of_three true q r k = k
    first_of_three false q r k = refl

both_true : (p q : Bool) → p ≡ true → q ≡ true → (p && q) ≡ true
both_true true q f g = g
both_true false q f g = f

line_tabs : (line : List ℕ) → is_line line ≡ true → has_no_tab line ≡ true
line_tabs [] h = refl
line_tabs (b ∷ bs) h = let parts = and_parts (not (is_tab_or_end b)) (is_line bs) h in both_true _ _ (no_tab b parts.0) (line_tabs bs parts.1)

lines_tabs : (lines : List (List ℕ)) → list_all is_line lines ≡ true → list_all has_no_tab lines ≡ true
lines_tabs [] h = refl
lines_tabs (line ∷ lines) h = let parts = and_parts (is_line line) (list_all is_line lines) h in both_true _ _ (line_tabs line parts.0) (lines_tabs lines parts.1)

-- the lines in a quote or an item leave room for it
inner_room : (trail : Bool) (inner : Page) → Reads inner → depth inner ≤ 63 → rooms 63 (events_from at_first (page_lines false trail inner)) ≡ true
inner_room trail inner r h =
    let events = events_from at_first (page_lines false trail inner) in
    let found = r trail [] false false in
    let flat_parts : map flat_part (ended nothing_told events) ≡ found.all = ended_flat events ∙ ap (λ (g : Gathering). g.parts) found.told_as in
    let spell : map spelled (ended nothing_told events) ≡ parts_from false inner = sym (spelled_flat (ended nothing_told events)) ∙ ap (map spelled) flat_parts ∙ found.spell in
    rooms_of events 63 nothing_told refl
    (sym (room_spelled (ended nothing_told events) 63) ∙ ap (has_room 63) (spell ∙ sym (append-nil (parts_from false inner))) ∙ room_for inner 63 false [] h)

-- a container and what it holds, and then others, as they are told
held_spelled : (container : Container) (apart : Bool) (held others : List PartContent) (inner after : List PartContent) → map spelled held ≡ inner → map spelled others ≡ after
    → map spelled (begins container apart ∷ (held ++ ends ∷ others)) ≡ begins container apart ∷ (inner ++ ends ∷ after)
held_spelled container apart held others inner after e f =
    ap (λ (ps : List PartContent). begins container apart ∷ ps) (map-append spelled held (ends ∷ others)
    ∙ ap (λ (ps : List PartContent). ps ++ ends ∷ map spelled others) e
    ∙ ap (λ (ps : List PartContent). inner ++ ends ∷ ps) f)

-- the parts before it, its own and those behind it
all_parts : (parts held others : List PartContent) (container : Container) (apart : Bool) → (((parts ++ begins container apart ∷ []) ++ held) ++ ends ∷ []) ++ others ≡ parts ++ begins container apart ∷ (held ++ ends ∷ others)
all_parts parts held others container apart =
    append_assoc ((parts ++ begins container apart ∷ []) ++ held) (ends ∷ []) others ∙ append_assoc (parts ++ begins container apart ∷ []) held (ends ∷ others) ∙ append_assoc parts (begins container apart ∷ []) (held ++ ends ∷ others)

quote_then : (inner after : Page) → AreWritable inner → has_block inner ≡ true → depth inner ≤ 63 → Reads inner → ReadsBelow after → Reads (quotes inner after)
quote_then inner after h some few r later trail parts apart passed =
    let lines = page_lines false false inner in
    let front = parts ++ begins Quote passed ∷ [] in
    let found = r false front apart false in
    let next = later trail ((front ++ found.all) ++ ends ∷ []) found.still false in
    record {
      all = begins Quote passed ∷ (found.all ++ ends ∷ next.all);
      still = next.still;
      later = next.later;
      passes = next.passes;
      spell = held_spelled Quote passed found.all next.all (parts_from false inner) (parts_from true after) found.spell next.spell;
      told_as = quote_told lines (page_lines true trail after) parts (front ++ found.all) apart passed found.still found.later (some_lines false inner h some) (lines_tabs lines (page_is_lines false false inner h)) (inner_room false inner r few) (behind_of trail after) found.told_as
          ∙ next.told_as
          ∙ ap (λ (ps : List PartContent). outside_of ps next.still next.later) (all_parts parts found.all next.all Quote passed);
    }

-- ---- items

words_full : (bytes : List ℕ) (others : List (List ℕ)) → BeginsWords bytes → BeginsFull (bytes ∷ others)
words_full bytes others f = record {
  b = f.b;
  bs = f.bs;
  others = others;
  is = ap (λ (l : List ℕ). l ∷ others) f.whole;
  blank = rw (no_other is_other_sign f.b 32 refl f.sign) (no_other is_other_sign f.b 9 refl f.sign);
  full = rw (no_other is_other_sign f.b 32 refl f.sign) (rw (no_other is_other_sign f.b 9 refl f.sign) (rw (no_other is_other_sign f.b 45 refl f.sign) (rw (no_other is_other_sign f.b 62 refl f.sign) refl)));
}

block_full : (b : Written) → IsWritable b → (others : List (List ℕ)) → BeginsFull (block_lines b ++ others)
block_full (heading zero phrases) h others = absurd (omega (arith, h.0))
block_full (heading (suc n) phrases) h others = record { b = 35; bs = replicate n 35 ++ 32 ∷ line_text phrases; others = others; is = refl; blank = refl; full = refl }
block_full (paragraph []) h others = let no : true ≡ false = h.0 in absurd (cc)
block_full (paragraph (line ∷ lines)) h others = words_full (line_text line) (map line_text lines ++ others) (line_begins line h.1.0)
block_full (code language lines) h others =
    record { b = 96; bs = replicate (longest lines) 96 ++ language; others = (lines ++ fence (longest lines) ∷ []) ++ others; is = refl; blank = refl; full = refl }
block_full thematic_break h others = record { b = 42; bs = 42 ∷ 42 ∷ []; others = others; is = refl; blank = refl; full = refl }
block_full (table rule head rows) h others = record { b = 124; bs = flat_map cell_text head; others = (delimiters rule ∷ map row_text rows) ++ others; is = refl; blank = refl; full = refl }

-- the first line of some blocks begins with no blank, and has more than the signs of items and quotes
page_full : (trail : Bool) (page : Page) → AreWritable page → has_block page ≡ true → BeginsFull (page_lines false trail page)
page_full trail no_more h some = let no : false ≡ true = some in absurd (cc)
page_full trail (shows b after) h some = block_full b h.0 (page_lines true trail after)
page_full trail (quotes inner after) h some =
    let found = page_full false inner h.1 h.0 in
    let others = page_lines true trail after in
    record { b = 62; bs = 32 ∷ found.b ∷ found.bs; others = map quoted_line found.others ++ others; is = ap (λ (ls : List (List ℕ)). map quoted_line ls ++ others) found.is; blank = refl; full = found.full }
page_full trail (items inner after) h some =
    let found = page_full false inner h.1 h.0 in
    let others = page_lines true trail after in
    record { b = 45; bs = 32 ∷ found.b ∷ found.bs; others = map indented_line found.others ++ others; is = ap (λ (ls : List (List ℕ)). item_lines ls ++ others) found.is; blank = refl; full = found.full }

-- an item whose lines end with an empty one or don't, and then other lines
item_then : (inner : Page) (between trail : Bool) (others : List (List ℕ)) (after : List PartContent) → AreWritable inner → has_block inner ≡ true → depth inner ≤ 63 → Reads inner
    → IsOutside hyphen_item (behind_lines at_first (page_lines false between inner)) others → ((parts : List PartContent) (apart passed : Bool) → (between ≡ true → passed ≡ true) → IsToldAs trail others parts after apart passed)
    → (parts : List PartContent) (apart passed : Bool) → IsToldAs trail (item_lines (page_lines false between inner) ++ others) parts (begins hyphen_item passed ∷ (parts_from false inner ++ ends ∷ after)) apart passed
item_then inner between trail others after h some few r out later parts apart passed =
    let lines = page_lines false between inner in
    let front = parts ++ begins hyphen_item passed ∷ [] in
    let found = r between front apart false in
    let next = later ((front ++ found.all) ++ ends ∷ []) found.still found.later found.passes in
    record {
      all = begins hyphen_item passed ∷ (found.all ++ ends ∷ next.all);
      still = next.still;
      later = next.later;
      passes = next.passes;
      spell = held_spelled hyphen_item passed found.all next.all (parts_from false inner) after found.spell next.spell;
      told_as = item_told lines others parts (front ++ found.all) apart passed found.still found.later (page_full between inner h some) (lines_tabs lines (page_is_lines false between inner h)) (inner_room between inner r few) out found.told_as
          ∙ next.told_as
          ∙ ap (λ (ps : List PartContent). outside_of ps next.still next.later) (all_parts parts found.all next.all hyphen_item passed);
    }

trail_of : (lines : List (List ℕ)) → (length lines == 0) ≡ false → item_lines (lines ++ [] ∷ []) ≡ item_lines lines ++ [] ∷ []
trail_of [] h = let no : true ≡ false = h in absurd (cc)
trail_of (line ∷ lines) h = more_indented line lines []

-- the empty line behind its blocks is the last of an item
item_trailed : (inner : Page) → AreWritable inner → has_block inner ≡ true → item_lines (page_lines false true inner) ≡ item_lines (page_lines false false inner) ++ [] ∷ []
item_trailed inner h some = ap item_lines (trailed false inner) ∙ trail_of (page_lines false false inner) (some_lines false inner h some)

-- an item that is the last of its blocks
last_item : (inner : Page) → AreWritable inner → has_block inner ≡ true → depth inner ≤ 63 → Reads inner → Reads (items inner no_more)
last_item inner h some few r true parts apart passed =
    subst (λ (ls : List (List ℕ)). IsToldAs true ls parts (parts_from passed (items inner no_more)) apart passed) (append-nil (item_lines (page_lines false true inner)) ∙ item_trailed inner h some)
    (item_then inner true true [] [] h some few r tt (nothing_told_more true) parts apart passed)
last_item inner h some few r false parts apart passed = item_then inner false false [] [] h some few r tt (nothing_told_more false) parts apart passed

-- an item above others, which takes the empty line between
item_above : (inner after : Page) → AreWritable inner → has_block inner ≡ true → depth inner ≤ 63 → Reads inner → AreWritable after → has_block after ≡ true → Reads after → (trail : Bool) (parts : List PartContent) (apart passed : Bool)
    → IsToldAs trail (item_lines (page_lines false false inner) ++ [] ∷ page_lines false trail after) parts (parts_from passed (items inner after)) apart passed
item_above inner after h some few r k more_blocks next trail parts apart passed =
    let others = page_lines false trail after in
    let lines = page_lines false false inner in
    let none : is_paragraph (behind_lines at_first (page_lines false true inner)).leaf ≡ false = ap (λ (ls : List (List ℕ)). is_paragraph (behind_lines at_first ls).leaf) (trailed false inner) ∙ none_open lines at_first in
    subst (λ (ls : List (List ℕ)). IsToldAs trail ls parts (parts_from passed (items inner after)) apart passed)
    (ap (λ (ls : List (List ℕ)). ls ++ others) (item_trailed inner h some) ∙ append_assoc (item_lines lines) ([] ∷ []) others)
    (item_then inner true trail others (parts_from true after) h some few r (is_outside (behind_lines at_first (page_lines false true inner)) others (page_full trail after k more_blocks) none)
    (λ ps a p e. subst (λ (t : Bool). IsToldAs trail others ps (parts_from true after) a t) (sym (e refl)) (next trail ps a true)) parts apart passed)

item_first : (inner after : Page) → AreWritable inner → has_block inner ≡ true → depth inner ≤ 63 → Reads inner → AreWritable after → Reads after → Reads (items inner after)
item_first inner no_more h some few r k next trail parts apart passed = last_item inner h some few r trail parts apart passed
item_first inner (shows b after) h some few r k next trail parts apart passed = item_above inner (shows b after) h some few r k refl next trail parts apart passed
item_first inner (quotes held after) h some few r k next trail parts apart passed = item_above inner (quotes held after) h some few r k refl next trail parts apart passed
item_first inner (items held after) h some few r k next trail parts apart passed = item_above inner (items held after) h some few r k refl next trail parts apart passed

-- ---- a page

reads : (page : Page) → AreWritable page → depth page ≤ 64 → Reads page
reads no_more h few = λ trail parts apart passed. none_told trail parts apart passed
reads (shows b after) h few = block_then b after (is_read b h.0) (below after (reads after h.1 few))
reads (quotes inner after) h few =
    let inside : depth inner ≤ 63 = omega (arith, few, le-max_left (suc (depth inner)) (depth after)) in
    quote_then inner after h.1 h.0 inside (reads inner h.1 (omega (arith, inside))) (below after (reads after h.2 (omega (arith, few, le-max_right (suc (depth inner)) (depth after)))))
reads (items inner after) h few =
    let inside : depth inner ≤ 63 = omega (arith, few, le-max_left (suc (depth inner)) (depth after)) in
    item_first inner after h.1 h.0 inside (reads inner h.1 (omega (arith, inside))) h.2 (reads after h.2 (omega (arith, few, le-max_right (suc (depth inner)) (depth after))))

-- a page is read as its blocks
pub read_back : PageIsReadBack
read_back page h few =
    let events = events_from at_first (page_lines false false page) in
    let found = reads page h few false [] false false in
    ap (map spelled) (read_of (markdown_of page) ∙ ap (λ (ls : List (List ℕ)). ended nothing_told (events_from at_first ls)) (page_cut page h))
    ∙ sym (spelled_flat (ended nothing_told events))
    ∙ ap (map spelled) (ended_flat events ∙ ap (λ (g : Gathering). g.parts) found.told_as)
    ∙ found.spell
