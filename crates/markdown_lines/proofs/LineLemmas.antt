-- Lines of runs, and runs that are added.
use Rattle.std.proofs.Common.{◌≡◌, ℕ, ◌+◌, ◌-◌, ◌<◌, ◌≤◌, Bool, true, false, ◌&&◌, List, [], ◌∷◌, ◌++◌, map, length, take, drop, get_or, refl, sym, ap, ◌∙◌, arith, append_assoc, append-nil, if◌then◌else◌}
use Rattle.std.specs.Prelude.{nat_le}
use Rattle.std.specs.List.{list_all}
use Rattle.std.proofs.lemmas.Bool.{and_parts}
use Rattle.std.proofs.lemmas.Bool.Decides.{nat_tests}
use Rattle.std.proofs.lemmas.List.{take-append-le, drop-append-le, length-append, length-drop, map-append, length-map, take_all, drop_more, drop_all}
use Rattle.std.proofs.lemmas.List.Folds.{list_all-append}
use Rattle.std.proofs.Math.Seq.{drop-append_seam}
use Rattle.mad_md.specs.Flagged.{Run}
use Rattle.mad_md.specs.Lines.{StyledRuns, LineContent, normal, table_row}
use Rattle.mad_md.specs.declared.composite.CompositeStyle.{CompositeStyle}
use Rattle.markdown_lines.specs.Lines.{cell_said, line_said, lines_said, range_of, is_within, line_within, all_within}
use Rattle.markdown_lines.specs.Restyled.{row_runs, restyled}
use Rattle.markdown_lines.specs.Said.{range_said}
use Rattle.markdown_lines.specs.declared.lines.MarkdownLine.{MarkdownLine}
use Rattle.markdown_lines.specs.declared.lines.MarkdownLine.TheVariants.{Normal, Row, Rule, HorizontalRule}
use Rattle.markdown_lines.specs.declared.places.RunRange.{RunRange}

-- ---- more runs

test_more : (a m n : ℕ) → m ≤ n → nat_le a m ≡ true → nat_le a n ≡ true
test_more a m n l e = grind (arith, nat_tests)

-- ranges that are among some runs are among more
pub ranges_more : (m n : ℕ) (ranges : List RunRange) → m ≤ n → list_all (is_within m) ranges ≡ true → list_all (is_within n) ranges ≡ true
ranges_more m n [] l e = refl
ranges_more m n (range ∷ ranges) l e =
    let parts = and_parts (is_within m range) (list_all (is_within m) ranges) e in
    ap (λ (b : Bool). b && list_all (is_within n) ranges) (test_more (range.start + range.count) m n l parts.0) ∙ ranges_more m n ranges l parts.1

line_more : (m n : ℕ) (line : MarkdownLine) → m ≤ n → line_within m line ≡ true → line_within n line ≡ true
line_more m n (Normal style range) l e = test_more (range.start + range.count) m n l e
line_more m n (Row cells) l e = ranges_more m n cells.items l e
line_more m n (Rule alignments) l e = refl
line_more m n HorizontalRule l e = refl

-- the runs of lines that are among some are among more
pub within_more : (m n : ℕ) (lines : List MarkdownLine) → m ≤ n → all_within m lines ≡ true → all_within n lines ≡ true
unfolding all_within
within_more m n [] l e = refl
within_more m n (line ∷ lines) l e =
    let parts = and_parts (line_within m line) (list_all (line_within m) lines) e in
    ap (λ (b : Bool). b && list_all (line_within n) lines) (line_more m n line l parts.0) ∙ within_more m n lines l parts.1

range_same : (all more : List Run) (range : RunRange) → is_within (length all) range ≡ true → range_said (all ++ more) range ≡ range_said all range
range_same all more range e =
    let within : range.start + range.count ≤ length all = grind (arith, nat_tests) in
    ap (take range.count) (drop-append-le range.start all more (omega arith)) ∙ take-append-le range.count (drop range.start all) more (omega (arith, length-drop range.start all))

-- cells say the same where more runs stand behind
pub cells_same : (all more : List Run) (cells : List RunRange) → list_all (is_within (length all)) cells ≡ true → map (cell_said (all ++ more)) cells ≡ map (cell_said all) cells
cells_same all more [] e = refl
cells_same all more (cell ∷ cells) e =
    let parts = and_parts (is_within (length all) cell) (list_all (is_within (length all)) cells) e in
    ap (λ (rs : List Run). record { style = (cell_said all cell).style; runs = rs } ∷ map (cell_said (all ++ more)) cells) (range_same all more cell parts.0)
    ∙ ap (λ (cs : List StyledRuns). cell_said all cell ∷ cs) (cells_same all more cells parts.1)

line_same : (all more : List Run) (line : MarkdownLine) → line_within (length all) line ≡ true → line_said (all ++ more) line ≡ line_said all line
line_same all more (Normal style range) e = ap (λ (rs : List Run). normal (record { style = style; runs = rs })) (range_same all more range e)
line_same all more (Row cells) e = ap table_row (cells_same all more cells.items e)
line_same all more (Rule alignments) e = refl
line_same all more HorizontalRule e = refl

-- so do lines
pub lines_same : (all more : List Run) (lines : List MarkdownLine) → all_within (length all) lines ≡ true → lines_said (all ++ more) lines ≡ lines_said all lines
unfolding all_within lines_said
lines_same all more [] e = refl
lines_same all more (line ∷ lines) e =
    let parts = and_parts (line_within (length all) line) (list_all (line_within (length all)) lines) e in
    ap (λ (l : LineContent). l ∷ map (line_said (all ++ more)) lines) (line_same all more line parts.0) ∙ ap (λ (ls : List LineContent). line_said all line ∷ ls) (lines_same all more lines parts.1)

-- ---- a line more

-- one more line says its own behind what the others say
pub line_pushed : (all : List Run) (lines whole : List MarkdownLine) (line : MarkdownLine) → whole ≡ lines ++ line ∷ [] → lines_said all whole ≡ lines_said all lines ++ line_said all line ∷ []
unfolding lines_said
line_pushed all lines whole line e = ap (map (line_said all)) e ∙ map-append (line_said all) lines (line ∷ [])

-- where one more line is put or isn't, the runs of each are among so many
pub within_by : (b : Bool) (n : ℕ) (lines whole : List MarkdownLine) (line : MarkdownLine) → whole ≡ (if b then lines ++ line ∷ [] else lines) → all_within n lines ≡ true → line_within n line ≡ true → all_within n whole ≡ true
unfolding all_within
within_by true n lines whole line e held here =
    ap (list_all (line_within n)) e ∙ list_all-append (line_within n) lines (line ∷ []) ∙ ap (λ (c : Bool). c && (line_within n line && true)) held ∙ ap (λ (c : Bool). true && (c && true)) here
within_by false n lines whole line e held here = ap (list_all (line_within n)) e ∙ held

-- ---- runs, and then a line of them

-- a range that goes up to the last run is among the runs
pub within_new : (start count len : ℕ) → count ≡ len - start → start ≤ len → nat_le (start + count) len ≡ true
within_new start count len e l = let h : start + count ≤ len = omega arith in grind (arith, nat_tests)

-- a range behind some runs, up to the last, has those that were added
pub range_new : (all more whole : List Run) (start count : ℕ) → whole ≡ all ++ more → start ≡ length all → count ≡ length whole - start → take count (drop start whole) ≡ more
range_new all more whole start count is s e =
    ap (λ (n : ℕ). take count (drop n whole)) s ∙ ap (λ (w : List Run). take count (drop (length all) w)) is ∙ ap (take count) (drop-append_seam all more)
    ∙ take_all count more (omega (arith, e, s, ap length is, length-append all more))

-- a line of the runs that were added
pub row_pushed : (all more whole : List Run) (lines : List MarkdownLine) (style : CompositeStyle) (start count : ℕ) (now : List LineContent) → all_within (length all) lines ≡ true
    → whole ≡ all ++ more → start ≡ length all → count ≡ length whole - start → now ≡ lines_said whole lines ++ normal (record { style = style; runs = take count (drop start whole) }) ∷ []
    → now ≡ lines_said all lines ++ normal (record { style = style; runs = more }) ∷ []
row_pushed all more whole lines style start count now held is s e now_is =
    now_is
    ∙ ap (λ (ls : List LineContent). ls ++ normal (record { style = style; runs = take count (drop start whole) }) ∷ []) (ap (λ (w : List Run). lines_said w lines) is ∙ lines_same all more lines held)
    ∙ ap (λ (rs : List Run). lines_said all lines ++ normal (record { style = style; runs = rs }) ∷ []) (range_new all more whole start count is s e)

-- a range up to the last run
pub range_end : (all : List Run) (start count : ℕ) → count ≡ length all - start → take count (drop start all) ≡ drop start all
range_end all start count e = take_all count (drop start all) (omega (arith, e, length-drop start all))

-- as many lines are said as there are
pub count_lines : (all : List Run) (lines : List MarkdownLine) → length (lines_said all lines) ≡ length lines
unfolding lines_said
count_lines all lines = length-map lines (line_said all)

-- ---- a row more in another style

row_runs_of : (all : List Run) (line : MarkdownLine) → range_said all (range_of line) ≡ row_runs (line_said all line)
row_runs_of all (Normal style range) = refl
row_runs_of all (Row cells) = refl
row_runs_of all (Rule alignments) = refl
row_runs_of all HorizontalRule = refl

-- one more row is put in its style, and those behind it are to come
pub rows_more : (done now : List LineContent) (style others : CompositeStyle) (all : List Run) (line : MarkdownLine) (lines : List MarkdownLine) (range : RunRange) → range ≡ range_of line
    → now ≡ done ++ normal (record { style = style; runs = range_said all range }) ∷ []
    → now ++ restyled others others (lines_said all lines) ≡ done ++ restyled style others (lines_said all (line ∷ lines))
unfolding lines_said restyled
rows_more done now style others all line lines range is now_is =
    let rest = restyled others others (lines_said all lines) in
    ap (λ (ls : List LineContent). ls ++ rest) now_is
    ∙ append_assoc done (normal (record { style = style; runs = range_said all range }) ∷ []) rest
    ∙ ap (λ (r : RunRange). done ++ normal (record { style = style; runs = range_said all r }) ∷ rest) is
    ∙ ap (λ (rs : List Run). done ++ normal (record { style = style; runs = rs }) ∷ rest) (row_runs_of all line)

-- the row at an index is put so
pub rows_next : (done now : List LineContent) (style others : CompositeStyle) (all : List Run) (lines : List MarkdownLine) (index : ℕ) (line : MarkdownLine) (range : RunRange) → index < length lines → line ≡ get_or lines index line
    → range ≡ range_of line → now ≡ done ++ normal (record { style = style; runs = range_said all range }) ∷ []
    → now ++ restyled others others (lines_said all (drop (index + 1) lines)) ≡ done ++ restyled style others (lines_said all (drop index lines))
rows_next done now style others all lines index line range within is range_is now_is =
    rows_more done now style others all line (drop (index + 1) lines) range range_is now_is
    ∙ ap (λ (l : MarkdownLine). done ++ restyled style others (lines_said all (l ∷ drop (index + 1) lines))) is
    ∙ ap (λ (ls : List MarkdownLine). done ++ restyled style others (lines_said all ls)) (sym (drop_more lines index line within))

-- where no row is to come, all are put
pub rows_done : (now : List LineContent) (style others : CompositeStyle) (all : List Run) (lines : List MarkdownLine) (index : ℕ) → length lines ≤ index → now ++ restyled style others (lines_said all (drop index lines)) ≡ now
unfolding lines_said restyled
rows_done now style others all lines index past = ap (λ (ls : List MarkdownLine). now ++ restyled style others (lines_said all ls)) (drop_all index lines past) ∙ append-nil now
