-- Lines of escaped words are a paragraph.
use Rattle.std.proofs.Common.{◌≡◌, ℕ, Bool, true, false, not, ◌&&◌, ◌==◌, List, [], ◌∷◌, ◌++◌, map, None, refl, sym, ap, ◌∙◌, append_assoc, append-nil, arith}
use Rattle.std.proofs.lemmas.Bool.Decides.{nat_tests}
use Rattle.markdown_marks.specs.Bytes.{count_in_front, is_blank, is_run_alone, without_blanks}
use Rattle.markdown_marks.specs.Items.{marker_start}
use Rattle.markdown_marks.specs.Marks.{fence_start, heading_level, is_rule, underline_level}
use Rattle.markdown_marks.specs.Remaining.{Remaining, whole, one_column, take_columns, columns_in_front}
use Rattle.markdown_marks.specs.Tables.{back_spot, cell_count, columns_from, delimited_columns}
use Rattle.markdown_html.specs.Starts.{html_start}
use Rattle.markdown_blocks.specs.Containers.{container_start, matched, opened, ends_in_item}
use Rattle.markdown_blocks.specs.Events.{Event, events_from}
use Rattle.markdown_blocks.specs.Leaves.{joining_of, rule_start, leaf_start, mark_start, going_on}
use Rattle.markdown_blocks.specs.Steps.{step, line_step, begun_line}
use Rattle.markdown_blocks.specs.declared.leaves.Deed.{Deed}
use Rattle.markdown_blocks.specs.declared.leaves.Deed.TheVariants.{Blank, Begins, GoesOn}
use Rattle.markdown_blocks.specs.declared.leaves.Leaf.{Leaf}
use Rattle.markdown_blocks.specs.declared.leaves.Leaf.TheVariants.{Nothing as NothingLeaf, Paragraph as ParagraphLeaf}
use Rattle.markdown_leaves.specs.Gather.{Gathering, blank_in, closed, line_done}
use Rattle.markdown_leaves.specs.Parts.{PartContent}
use Rattle.markdown_leaves.specs.Told.{told}
use Rattle.markdown_laws.proofs.LineLemmas.{done, state_with}
use Rattle.markdown_part_laws.proofs.ParagraphLemmas.{after_line, closed_inside, inside_of, outside_of, words_after_inside, words_after_outside, words_of}
use Rattle.markdown_part_laws.proofs.TextLemmas.{blank_inside, blank_outside, done_at}
use Rattle.markdown_writing.proofs.WordLemmas.{BeginsWords, is_other_sign, no_other}

-- ---- the line

none : (b k : ℕ) → is_other_sign k ≡ true → is_other_sign b ≡ false → (b == k) ≡ false
none b k special h = no_other is_other_sign b k special h

none_taken : (b : ℕ) (bs : List ℕ) → is_other_sign b ≡ false → one_column (whole (b ∷ bs)) ≡ None
unfolding one_column
none_taken b bs h = rw (none b 32 refl h) (rw (none b 9 refl h) refl)

no_columns : (b : ℕ) (bs : List ℕ) → is_other_sign b ≡ false → columns_in_front 4 (whole (b ∷ bs)) ≡ 0
unfolding columns_in_front
no_columns b bs h = rw (none_taken b bs h) refl

all_left : (b : ℕ) (bs : List ℕ) → is_other_sign b ≡ false → take_columns 4 (whole (b ∷ bs)) ≡ whole (b ∷ bs)
unfolding take_columns
all_left b bs h = rw (none_taken b bs h) refl

no_run : (b k : ℕ) (bs : List ℕ) → (b == k) ≡ false → count_in_front k (b ∷ bs) ≡ 0
unfolding count_in_front
no_run b k bs e = rw e refl

no_heading : (b : ℕ) (bs : List ℕ) → is_other_sign b ≡ false → heading_level (b ∷ bs) ≡ None
unfolding heading_level
no_heading b bs h = rw (no_run b 35 bs (none b 35 refl h)) refl

no_html : (b : ℕ) (bs : List ℕ) → is_other_sign b ≡ false → html_start false (b ∷ bs) ≡ None
unfolding html_start
no_html b bs h = rw (none b 60 refl h) refl

not_blank : (b : ℕ) (bs : List ℕ) → is_other_sign b ≡ false → is_blank (b ∷ bs) ≡ false
unfolding is_blank
not_blank b bs h = rw (none b 32 refl h) (rw (none b 9 refl h) refl)

no_container : (b : ℕ) (bs : List ℕ) → is_other_sign b ≡ false → is_rule (b ∷ bs) ≡ false → marker_start (b ∷ bs) ≡ None → container_start false (whole (b ∷ bs)) ≡ None
unfolding container_start
no_container b bs h r m = rw (no_columns b bs h) (rw (all_left b bs h) (rw (none b 62 refl h) (rw r (rw m refl))))

words_apart : (b : ℕ) (bs : List ℕ) → is_other_sign b ≡ false → fence_start (b ∷ bs) ≡ None → leaf_start (joining_of false true) (whole (b ∷ bs)) ≡ rule_start (whole (b ∷ bs))
unfolding leaf_start mark_start
words_apart b bs h f =
    rw (not_blank b bs h) (rw (no_columns b bs h) (rw (all_left b bs h) (rw (no_heading b bs h) (rw f (rw (no_html b bs h) refl)))))

begun : (b : ℕ) (bs : List ℕ) → is_other_sign b ≡ false → is_rule (b ∷ bs) ≡ false → fence_start (b ∷ bs) ≡ None → marker_start (b ∷ bs) ≡ None → step (state_with NothingLeaf 0) (b ∷ bs) ≡ done ParagraphLeaf (cell_count (b ∷ bs)) (Begins ParagraphLeaf) (b ∷ bs)
unfolding step line_step begun_line matched opened going_on ends_in_item
begun b bs h r f m = rw (no_container b bs h r m) (rw (words_apart b bs h f) (rw r (rw (none b 91 refl h) refl)))

-- ---- the next line

no_underline : (b : ℕ) (bs : List ℕ) → is_other_sign b ≡ false → underline_level (b ∷ bs) ≡ None
unfolding underline_level is_run_alone
no_underline b bs h = rw (no_run b 61 bs (none b 61 refl h)) (rw (no_run b 45 bs (none b 45 refl h)) refl)

no_html_on : (b : ℕ) (bs : List ℕ) → is_other_sign b ≡ false → html_start true (b ∷ bs) ≡ None
unfolding html_start
no_html_on b bs h = rw (none b 60 refl h) refl

-- after a letter, as here A, no row of delimiters is left
stays_nowhere : (count : ℕ) (bs : List ℕ) → columns_from (back_spot 65) count bs ≡ 0
unfolding columns_from
stays_nowhere count [] = refl
stays_nowhere count (b ∷ bs) = stays_nowhere count bs

no_delimiters : (b : ℕ) (bs : List ℕ) → is_other_sign b ≡ false → delimited_columns (b ∷ bs) ≡ 0
unfolding delimited_columns without_blanks columns_from
no_delimiters b bs h =
    rw (none b 32 refl h) (rw (none b 9 refl h) (rw (none b 124 refl h) (rw (none b 32 refl h) (rw (none b 9 refl h) (rw (none b 58 refl h) (rw (none b 45 refl h) (stays_nowhere 0 bs)))))))

no_container_on : (b : ℕ) (bs : List ℕ) → is_other_sign b ≡ false → is_rule (b ∷ bs) ≡ false → marker_start (b ∷ bs) ≡ None → container_start true (whole (b ∷ bs)) ≡ None
unfolding container_start
no_container_on b bs h r m = rw (no_columns b bs h) (rw (all_left b bs h) (rw (none b 62 refl h) (rw r (rw (no_underline b bs h) (rw m refl)))))

words_on : (b : ℕ) (bs : List ℕ) → is_other_sign b ≡ false → fence_start (b ∷ bs) ≡ None → leaf_start (joining_of true true) (whole (b ∷ bs)) ≡ rule_start (whole (b ∷ bs))
unfolding leaf_start mark_start
words_on b bs h f =
    rw (not_blank b bs h) (rw (no_columns b bs h) (rw (all_left b bs h) (rw (no_heading b bs h) (rw f (rw (no_html_on b bs h) (rw (no_underline b bs h) refl))))))

not_as_many : (cells : ℕ) → (not (cells == 0) && (0 == cells)) ≡ false
not_as_many cells = grind (arith, nat_tests)

gone_on : (b : ℕ) (bs : List ℕ) (cells : ℕ) → is_other_sign b ≡ false → is_rule (b ∷ bs) ≡ false → fence_start (b ∷ bs) ≡ None → marker_start (b ∷ bs) ≡ None
    → step (state_with ParagraphLeaf cells) (b ∷ bs) ≡ done ParagraphLeaf (cell_count (b ∷ bs)) GoesOn (b ∷ bs)
unfolding step line_step begun_line matched opened going_on ends_in_item
gone_on b bs cells h r f m = rw (no_container_on b bs h r m) (rw (words_on b bs h f) (rw r (rw (no_delimiters b bs h) (rw (not_as_many cells) refl))))

-- ---- what is told

-- what is gathered at the end
abbrev pub finished : Gathering → List Event → Gathering
finished g events = closed (told g events)

-- what is gathered of lines where nothing is open
abbrev pub told_of : Gathering → List (List ℕ) → Gathering
told_of g lines = finished g (events_from (state_with NothingLeaf 0) lines)

-- a line, and those after it
pub line_went : (g : Gathering) (leaf next : Leaf) (cells counted : ℕ) (deed : Deed) (text : Remaining) (line : List ℕ) (lines : List (List ℕ)) → step (state_with leaf cells) line ≡ done_at next counted deed text
    → finished g (events_from (state_with leaf cells) (line ∷ lines)) ≡ finished (after_line deed text g) (events_from (state_with next counted) lines)
unfolding events_from told
line_went g leaf next cells counted deed text line lines e = rw e refl

-- at the end nothing is told
pub ends_told : (parts : List PartContent) (apart passed : Bool) → told_of (outside_of parts apart passed) [] ≡ outside_of parts apart passed
unfolding events_from told closed
ends_told parts apart passed = refl

blank_after_outside : (text : Remaining) (parts : List PartContent) (apart passed : Bool) → after_line Blank text (outside_of parts apart passed) ≡ outside_of parts apart true
unfolding line_done closed
blank_after_outside text parts apart true = refl
blank_after_outside text parts apart false = refl

-- an empty line passes where nothing is open
pub blank_told : (parts : List PartContent) (apart passed : Bool) (lines : List (List ℕ)) → told_of (outside_of parts apart passed) ([] ∷ lines) ≡ told_of (outside_of parts apart true) lines
unfolding is_blank
blank_told parts apart passed lines =
    line_went (outside_of parts apart passed) NothingLeaf NothingLeaf 0 0 Blank (whole []) [] lines (blank_outside 0 [] refl)
    ∙ ap (λ (g : Gathering). told_of g lines) (blank_after_outside (whole []) parts apart passed)

-- Nothing comes behind some lines, or an empty line does and then others.
pub data Behind : List (List ℕ) → Type 0 where
  last : Behind []
  more : (lines : List (List ℕ)) → Behind ([] ∷ lines)

-- a paragraph with these lines, the first of which has a byte
abbrev lines_of : ℕ → List ℕ → List Remaining → List Remaining
lines_of b bs others = whole (b ∷ bs) ∷ others

blank_after_inside : (text : Remaining) (parts : List PartContent) (apart : Bool) (b : ℕ) (bs : List ℕ) (others : List Remaining) → (b == 91) ≡ false
    → after_line Blank text (inside_of parts apart (lines_of b bs others)) ≡ outside_of (parts ++ words_of apart (lines_of b bs others) ∷ []) apart true
unfolding line_done
blank_after_inside text parts apart b bs others e = ap (λ (g : Gathering). record (blank_in g) { fresh = false }) (closed_inside parts apart 0 b bs others e)

open_told : (parts : List PartContent) (apart : Bool) (b : ℕ) (bs : List ℕ) (before : List Remaining) → (b == 91) ≡ false → (cells : ℕ) (lines : List (List ℕ)) → Behind lines
    → finished (inside_of parts apart (lines_of b bs before)) (events_from (state_with ParagraphLeaf cells) lines) ≡ told_of (outside_of (parts ++ words_of apart (lines_of b bs before) ∷ []) apart false) lines
unfolding events_from told is_blank
open_told parts apart b bs before e cells lines last =
    closed_inside parts apart 0 b bs before e ∙ sym (ends_told (parts ++ words_of apart (lines_of b bs before) ∷ []) apart false)
open_told parts apart b bs before e cells lines (more others) =
    let after = parts ++ words_of apart (lines_of b bs before) ∷ [] in
    line_went (inside_of parts apart (lines_of b bs before)) ParagraphLeaf NothingLeaf cells 0 Blank (whole []) [] others (blank_inside cells [] refl)
    ∙ ap (λ (g : Gathering). told_of g others) (blank_after_inside (whole []) parts apart b bs before e)
    ∙ sym (blank_told after apart false others)

-- each line begins with words
abbrev pub BeginWords : List (List ℕ) → Type 0
BeginWords [] = Unit {0}
BeginWords (line ∷ lines) = BeginsWords line × BeginWords lines

-- the lines behind the first are of the paragraph
next_told : (parts : List PartContent) (apart : Bool) (b : ℕ) (bs : List ℕ) (before : List Remaining) → (b == 91) ≡ false → (texts : List (List ℕ)) → BeginWords texts → (cells : ℕ) (lines : List (List ℕ)) → Behind lines
    → finished (inside_of parts apart (lines_of b bs before)) (events_from (state_with ParagraphLeaf cells) (texts ++ lines)) ≡ told_of (outside_of (parts ++ words_of apart (lines_of b bs (before ++ map whole texts)) ∷ []) apart false) lines
next_told parts apart b bs before e [] f cells lines behind =
    open_told parts apart b bs before e cells lines behind ∙ ap (λ (ls : List Remaining). told_of (outside_of (parts ++ words_of apart (lines_of b bs ls) ∷ []) apart false) lines) (sym (append-nil before))
next_told parts apart b bs before e (text ∷ texts) f cells lines behind =
    let line = f.0.b ∷ f.0.bs in
    let counted = cell_count line in
    let front = lines_of b bs before in
    ap (λ (l : List ℕ). finished (inside_of parts apart front) (events_from (state_with ParagraphLeaf cells) (l ∷ (texts ++ lines)))) f.0.whole
    ∙ line_went (inside_of parts apart front) ParagraphLeaf ParagraphLeaf cells counted GoesOn (whole line) line (texts ++ lines) (gone_on f.0.b f.0.bs cells f.0.sign f.0.rule f.0.fence f.0.marker)
    ∙ ap (λ (g : Gathering). finished g (events_from (state_with ParagraphLeaf counted) (texts ++ lines))) (words_after_inside parts apart front (whole line))
    ∙ next_told parts apart b bs (before ++ whole line ∷ []) e texts f.1 counted lines behind
    ∙ ap (λ (ls : List Remaining). told_of (outside_of (parts ++ words_of apart (lines_of b bs ls) ∷ []) apart false) lines) (append_assoc before (whole line ∷ []) (map whole texts))
    ∙ ap (λ (l : List ℕ). told_of (outside_of (parts ++ words_of apart (lines_of b bs (before ++ whole l ∷ map whole texts)) ∷ []) apart false) lines) (sym f.0.whole)

-- lines of words are a paragraph
pub paragraph_told : (bytes : List ℕ) (texts : List (List ℕ)) → BeginsWords bytes → BeginWords texts → (parts : List PartContent) (apart passed : Bool) (lines : List (List ℕ)) → Behind lines
    → told_of (outside_of parts apart passed) (bytes ∷ (texts ++ lines)) ≡ told_of (outside_of (parts ++ words_of passed (whole bytes ∷ map whole texts) ∷ []) passed false) lines
paragraph_told bytes texts f others parts apart passed lines behind =
    let cells = cell_count (f.b ∷ f.bs) in
    let line = f.b ∷ f.bs in
    ap (λ (bs : List ℕ). told_of (outside_of parts apart passed) (bs ∷ (texts ++ lines))) f.whole
    ∙ line_went (outside_of parts apart passed) NothingLeaf ParagraphLeaf 0 cells (Begins ParagraphLeaf) (whole line) line (texts ++ lines) (begun f.b f.bs f.sign f.rule f.fence f.marker)
    ∙ ap (λ (g : Gathering). finished g (events_from (state_with ParagraphLeaf cells) (texts ++ lines))) (words_after_outside parts apart passed (whole line))
    ∙ next_told parts passed f.b f.bs [] (none f.b 91 refl f.sign) texts others cells lines behind
    ∙ ap (λ (bs : List ℕ). told_of (outside_of (parts ++ words_of passed (whole bs ∷ map whole texts) ∷ []) passed false) lines) (sym f.whole)
