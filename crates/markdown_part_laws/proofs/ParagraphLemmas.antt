-- Lines of paragraphs are read one after the other: outside of a paragraph, or inside of one.
use Rattle.std.proofs.Common.{◌≡◌, ℕ, suc, ◌<◌, Bool, true, false, ◌||◌, ◌&&◌, ◌==◌, List, [], ◌∷◌, ◌++◌, map, length, replicate, refl, sym, ap, subst, ◌∙◌, append_assoc, append-nil, arith}
use Rattle.std.proofs.lemmas.List.{map-append}
use Rattle.std.proofs.lemmas.Bool.Decides.{nat_tests}
use Rattle.std.specs.List.{slice_split, onto_first}
use Rattle.markdown_marks.specs.Bytes.{is_blank}
use Rattle.markdown_marks.specs.Remaining.{Remaining, whole}
use Rattle.markdown_marks.specs.Tables.{cell_count}
use Rattle.markdown_blocks.specs.Events.{events_from}
use Rattle.markdown_blocks.specs.Lines.{text_lines}
use Rattle.markdown_blocks.specs.Steps.{step}
use Rattle.markdown_blocks.specs.declared.leaves.Deed.{Deed}
use Rattle.markdown_blocks.specs.declared.leaves.Deed.TheVariants.{Blank, Begins, GoesOn}
use Rattle.markdown_blocks.specs.declared.leaves.Leaf.{Leaf}
use Rattle.markdown_blocks.specs.declared.leaves.Leaf.TheVariants.{Nothing as NothingLeaf, Paragraph as ParagraphLeaf}
use Rattle.markdown_leaves.specs.Defining.{kept_lines, cut_lines}
use Rattle.markdown_leaves.specs.Gather.{Gathering, add_block, blank_in, closed, line_done, words_from}
use Rattle.markdown_leaves.specs.Parts.{PartContent, block}
use Rattle.markdown_leaves.specs.Told.{told}
use Rattle.markdown_leaves.specs.declared.parts.Kind.{Kind}
use Rattle.markdown_leaves.specs.declared.parts.Kind.TheVariants.{Nothing, Paragraph}
use Rattle.markdown_laws.specs.Fences.{text_of}
use Rattle.markdown_laws.specs.Plain.{is_empty, is_special, paragraph, paragraphs}
use Rattle.markdown_laws.specs.Quotes.{spelled}
use Rattle.markdown_laws.proofs.FenceLemmas.{ended, read_of}
use Rattle.markdown_laws.proofs.LineLemmas.{no_sign, state_with}
use Rattle.markdown_part_laws.specs.Paragraphs.{HasText, HaveTexts, ParagraphIsItsLines}
use Rattle.markdown_part_laws.proofs.TextLemmas.{at, begun, blank_inside, blank_outside, done_at, gone_on}

-- ---- what is gathered

-- between paragraphs
abbrev pub outside_of : List PartContent → (apart passed : Bool) → Gathering
outside_of parts apart passed = record { parts = parts; kind = Nothing; apart = apart; lines = []; passed = passed; fresh = false; around = [] }

-- in a paragraph with these lines
abbrev pub inside_of : List PartContent → (apart : Bool) → List Remaining → Gathering
inside_of parts apart lines = record { parts = parts; kind = Paragraph; apart = apart; lines = lines; passed = false; fresh = false; around = [] }

-- a paragraph with these lines
abbrev pub words_of : Bool → List Remaining → PartContent
words_of apart lines = block (record { kind = Paragraph; apart = apart; lines = lines })

and_true : (b : Bool) → (b && true) ≡ b
and_true true = refl
and_true false = refl

-- a paragraph that begins with no bracket has no definitions
no_definitions : (column b : ℕ) (bs : List ℕ) (lines : List Remaining) → (b == 91) ≡ false → cut_lines (at column (b ∷ bs) ∷ lines) ≡ 0
unfolding kept_lines
no_definitions column b bs lines e = rw e (omega arith)

not_none : (n : ℕ) → (suc n == 0) ≡ false
not_none n = grind (arith, nat_tests)

all_words : (kind : Kind) (apart : Bool) (line : Remaining) (lines : List Remaining) (parts : List PartContent) → words_from 0 kind apart (line ∷ lines) parts ≡ add_block kind apart (line ∷ lines) parts
all_words kind apart line lines parts = rw (not_none (length lines)) (rw (and_true apart) refl)

pub closed_inside : (parts : List PartContent) (apart : Bool) (column b : ℕ) (bs : List ℕ) (lines : List Remaining) → (b == 91) ≡ false
    → closed (inside_of parts apart (at column (b ∷ bs) ∷ lines)) ≡ outside_of (parts ++ words_of apart (at column (b ∷ bs) ∷ lines) ∷ []) apart false
unfolding closed
closed_inside parts apart column b bs lines e = rw (no_definitions column b bs lines e) (rw (all_words Paragraph apart (at column (b ∷ bs)) lines parts) refl)

closed_outside : (parts : List PartContent) (apart passed : Bool) → closed (outside_of parts apart passed) ≡ outside_of parts apart passed
unfolding closed
closed_outside parts apart passed = refl

-- ---- lines

-- the line that is read, and then those after it
abbrev pub after_line : Deed → Remaining → Gathering → Gathering
after_line deed text g = record (line_done deed text g) { fresh = false }

pub line_read : (g : Gathering) (leaf next : Leaf) (cells counted : ℕ) (deed : Deed) (text : Remaining) (line : List ℕ) (lines : List (List ℕ)) → step (state_with leaf cells) line ≡ done_at next counted deed text
    → ended g (events_from (state_with leaf cells) (line ∷ lines)) ≡ ended (after_line deed text g) (events_from (state_with next counted) lines)
unfolding events_from told
line_read g leaf next cells counted deed text line lines e = rw e refl

or_true : (b : Bool) → (b || true) ≡ true
or_true true = refl
or_true false = refl

blank_after_outside : (text : Remaining) (parts : List PartContent) (apart passed : Bool) → after_line Blank text (outside_of parts apart passed) ≡ outside_of parts apart true
unfolding line_done closed
blank_after_outside text parts apart true = refl
blank_after_outside text parts apart false = refl

blank_after_inside : (text : Remaining) (parts : List PartContent) (apart : Bool) (column b : ℕ) (bs : List ℕ) (lines : List Remaining) → (b == 91) ≡ false
    → after_line Blank text (inside_of parts apart (at column (b ∷ bs) ∷ lines)) ≡ outside_of (parts ++ words_of apart (at column (b ∷ bs) ∷ lines) ∷ []) apart true
unfolding line_done
blank_after_inside text parts apart column b bs lines e = ap (λ (g : Gathering). record (blank_in g) { fresh = false }) (closed_inside parts apart column b bs lines e)

pub words_after_outside : (parts : List PartContent) (apart passed : Bool) (text : Remaining) → after_line (Begins ParagraphLeaf) text (outside_of parts apart passed) ≡ inside_of parts passed (text ∷ [])
unfolding line_done closed
words_after_outside parts apart passed text = refl

pub words_after_inside : (parts : List PartContent) (apart : Bool) (lines : List Remaining) (text : Remaining) → after_line GoesOn text (inside_of parts apart lines) ≡ inside_of parts apart (lines ++ text ∷ [])
unfolding line_done
words_after_inside parts apart lines text = refl

-- ---- what is told

-- the line at the first column
abbrev pub flat : Remaining → Remaining
flat line = whole (text_of line)

abbrev Groups : Type 0
Groups = List (List (List ℕ))

abbrev groups : List (List ℕ) → Groups
groups texts = slice_split is_empty texts

-- a paragraph that has begun takes the first group
abbrev going_on : (apart : Bool) → List (List ℕ) → Groups → List PartContent
going_on apart texts [] = paragraph apart texts ∷ []
going_on apart texts (group ∷ others) = paragraph apart (texts ++ group) ∷ paragraphs true others

first_line : (apart : Bool) (line : List ℕ) (gs : Groups) → paragraphs apart (onto_first line gs) ≡ going_on apart (line ∷ []) gs
first_line apart line [] = refl
first_line apart line (g ∷ gs) = refl

next_line : (apart : Bool) (texts : List (List ℕ)) (line : List ℕ) (gs : Groups) → going_on apart texts (onto_first line gs) ≡ going_on apart (texts ++ line ∷ []) gs
next_line apart texts line [] = refl
next_line apart texts line (g ∷ gs) = ap (λ (ls : List (List ℕ)). paragraph apart ls ∷ paragraphs true gs) (sym (append_assoc texts (line ∷ []) g))

-- a paragraph more
told_more : (parts : List PartContent) (apart : Bool) (lines : List Remaining) (texts : List (List ℕ)) → map flat lines ≡ map whole texts → map spelled (parts ++ words_of apart lines ∷ []) ≡ map spelled parts ++ paragraph apart texts ∷ []
told_more parts apart lines texts e = map-append spelled parts (words_of apart lines ∷ []) ∙ ap (λ (ls : List Remaining). map spelled parts ++ words_of apart ls ∷ []) e

pub lines_more : (lines : List Remaining) (texts : List (List ℕ)) (column b : ℕ) (bs : List ℕ) → map flat lines ≡ map whole texts → map flat (lines ++ at column (b ∷ bs) ∷ []) ≡ map whole (texts ++ (b ∷ bs) ∷ [])
lines_more lines texts column b bs e =
    map-append flat lines (at column (b ∷ bs) ∷ []) ∙ ap (λ (ls : List Remaining). ls ++ whole (b ∷ bs) ∷ []) e ∙ sym (map-append whole texts ((b ∷ bs) ∷ []))

-- what is read from a place between two lines on, where no paragraph is open
abbrev ReadsOutside : (lines texts : List (List ℕ)) → Type 0
ReadsOutside lines texts =
    (parts : List PartContent) (apart passed : Bool) (cells : ℕ) → map spelled (ended (outside_of parts apart passed) (events_from (state_with NothingLeaf cells) lines)) ≡ map spelled parts ++ paragraphs passed (groups texts)

-- and where one is open
abbrev ReadsInside : (lines texts : List (List ℕ)) → Type 0
ReadsInside lines texts =
    (parts : List PartContent) (apart : Bool) (column b : ℕ) (bs : List ℕ) (more : List Remaining) (before : List (List ℕ)) (cells : ℕ) → (b == 91) ≡ false → map flat (at column (b ∷ bs) ∷ more) ≡ map whole before
    → map spelled (ended (inside_of parts apart (at column (b ∷ bs) ∷ more)) (events_from (state_with ParagraphLeaf cells) lines)) ≡ map spelled parts ++ going_on apart before (groups texts)

abbrev Reads : Bool → (lines texts : List (List ℕ)) → Type 0
Reads true lines texts = ReadsOutside lines texts
Reads false lines texts = ReadsInside lines texts

-- what the lines behind this one tell
abbrev told_by : Leaf → ℕ → List (List ℕ) → Gathering → List PartContent
told_by leaf cells lines g = map spelled (ended g (events_from (state_with leaf cells) lines))

none_outside : ReadsOutside [] []
unfolding events_from told
none_outside parts apart passed cells = ap (λ (g : Gathering). map spelled g.parts) (closed_outside parts apart passed) ∙ sym (append-nil (map spelled parts))

none_inside : ReadsInside [] []
unfolding events_from told
none_inside parts apart column b bs more before cells e are =
    ap (λ (g : Gathering). map spelled g.parts) (closed_inside parts apart column b bs more e) ∙ told_more parts apart (at column (b ∷ bs) ∷ more) before are
    ∙ ap (λ (ls : List (List ℕ)). map spelled parts ++ paragraph apart ls ∷ []) (sym (append-nil before))

blank_outside_read : (line : List ℕ) (lines texts : List (List ℕ)) → is_blank line ≡ true → ReadsOutside lines texts → ReadsOutside (line ∷ lines) ([] ∷ texts)
blank_outside_read line lines texts h later parts apart passed cells =
    ap (map spelled) (line_read (outside_of parts apart passed) NothingLeaf NothingLeaf cells 0 Blank (whole line) line lines (blank_outside cells line h))
    ∙ ap (told_by NothingLeaf 0 lines) (blank_after_outside (whole line) parts apart passed) ∙ later parts apart true 0

blank_inside_read : (line : List ℕ) (lines texts : List (List ℕ)) → is_blank line ≡ true → ReadsOutside lines texts → ReadsInside (line ∷ lines) ([] ∷ texts)
blank_inside_read line lines texts h later parts apart column b bs more before cells e are =
    let words = at column (b ∷ bs) ∷ more in
    ap (map spelled) (line_read (inside_of parts apart words) ParagraphLeaf NothingLeaf cells 0 Blank (whole line) line lines (blank_inside cells line h))
    ∙ ap (told_by NothingLeaf 0 lines) (blank_after_inside (whole line) parts apart column b bs more e)
    ∙ later (parts ++ words_of apart words ∷ []) apart true 0
    ∙ ap (λ (ps : List PartContent). ps ++ paragraphs true (groups texts)) (told_more parts apart words before are)
    ∙ append_assoc (map spelled parts) (paragraph apart before ∷ []) (paragraphs true (groups texts))
    ∙ ap (λ (ls : List (List ℕ)). map spelled parts ++ paragraph apart ls ∷ paragraphs true (groups texts)) (sym (append-nil before))

begins_read : (indent c : ℕ) (cs : List ℕ) (lines texts : List (List ℕ)) → indent < 4 → is_special c ≡ false → ReadsInside lines texts → ReadsOutside ((replicate indent 32 ++ c ∷ cs) ∷ lines) ((c ∷ cs) ∷ texts)
begins_read indent c cs lines texts few h later parts apart passed cells =
    let counted = cell_count (c ∷ cs) in
    let text = at indent (c ∷ cs) in
    ap (map spelled) (line_read (outside_of parts apart passed) NothingLeaf ParagraphLeaf cells counted (Begins ParagraphLeaf) text (replicate indent 32 ++ c ∷ cs) lines (begun indent c cells cs few h))
    ∙ ap (told_by ParagraphLeaf counted lines) (words_after_outside parts apart passed text)
    ∙ later parts passed indent c cs [] ((c ∷ cs) ∷ []) counted (no_sign c 91 refl h) refl
    ∙ ap (λ (ps : List PartContent). map spelled parts ++ ps) (sym (first_line passed (c ∷ cs) (groups texts)))

goes_read : (front : List ℕ) (c : ℕ) (cs : List ℕ) (lines texts : List (List ℕ)) → is_blank front ≡ true → is_special c ≡ false → ReadsInside lines texts → ReadsInside ((front ++ c ∷ cs) ∷ lines) ((c ∷ cs) ∷ texts)
goes_read front c cs lines texts blank h later parts apart column b bs more before cells e are =
    let counted = cell_count (c ∷ cs) in
    let words = at column (b ∷ bs) ∷ more in
    let found = gone_on front c cells cs blank h in
    let text = at found.0 (c ∷ cs) in
    ap (map spelled) (line_read (inside_of parts apart words) ParagraphLeaf ParagraphLeaf cells counted GoesOn text (front ++ c ∷ cs) lines found.1)
    ∙ ap (told_by ParagraphLeaf counted lines) (words_after_inside parts apart words text)
    ∙ later parts apart column b bs (more ++ text ∷ []) (before ++ (c ∷ cs) ∷ []) counted e (lines_more words before found.0 c cs are)
    ∙ ap (λ (ps : List PartContent). map spelled parts ++ ps) (sym (next_line apart before (c ∷ cs) (groups texts)))

begins_where : (line : List ℕ) (c : ℕ) (cs : List ℕ) (lines texts : List (List ℕ)) → is_special c ≡ false → HasText true line (c ∷ cs) → ReadsInside lines texts → ReadsOutside (line ∷ lines) ((c ∷ cs) ∷ texts)
begins_where line c cs lines texts h t later =
    let few = t.few refl in
    subst (λ (l : List ℕ). ReadsOutside (l ∷ lines) ((c ∷ cs) ∷ texts)) (sym (t.whole ∙ ap (λ (bs : List ℕ). bs ++ c ∷ cs) few.2)) (begins_read few.0 c cs lines texts few.1 h later)

goes_where : (line : List ℕ) (c : ℕ) (cs : List ℕ) (lines texts : List (List ℕ)) → is_special c ≡ false → HasText false line (c ∷ cs) → ReadsInside lines texts → ReadsInside (line ∷ lines) ((c ∷ cs) ∷ texts)
goes_where line c cs lines texts h t later = subst (λ (l : List ℕ). ReadsInside (l ∷ lines) ((c ∷ cs) ∷ texts)) (sym t.whole) (goes_read t.front c cs lines texts t.blank h later)

reads : (first : Bool) (lines texts : List (List ℕ)) → HaveTexts first lines texts → Reads first lines texts
reads true [] [] h = none_outside
reads false [] [] h = none_inside
reads first [] (t ∷ texts) h = absurd h
reads first (line ∷ lines) [] h = absurd h
reads true (line ∷ lines) ([] ∷ texts) h = blank_outside_read line lines texts h.0 (reads true lines texts h.1)
reads false (line ∷ lines) ([] ∷ texts) h = blank_inside_read line lines texts h.0 (reads true lines texts h.1)
reads true (line ∷ lines) ((c ∷ cs) ∷ texts) h = begins_where line c cs lines texts h.0 h.1 (reads false lines texts h.2)
reads false (line ∷ lines) ((c ∷ cs) ∷ texts) h = goes_where line c cs lines texts h.0 h.1 (reads false lines texts h.2)

-- a paragraph is its lines
pub paragraph_lines : ParagraphIsItsLines
paragraph_lines text texts h = ap (map spelled) (read_of text) ∙ reads true (text_lines text) texts h [] false false 0
