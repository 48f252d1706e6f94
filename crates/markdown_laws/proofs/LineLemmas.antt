-- A line that begins with no special sign is a paragraph's: its first one, or the next one.
use Rattle.std.proofs.Common.{◌≡◌, ℕ, Bool, true, false, not, ◌||◌, ◌&&◌, ◌==◌, List, [], ◌∷◌, None, refl, sym, ap, ◌∙◌, arith}
use Rattle.std.specs.Char.{is_ascii_digit}
use Rattle.std.proofs.lemmas.Bool.{eqb-true}
use Rattle.std.proofs.lemmas.Bool.Decides.{nat_tests}
use Rattle.markdown_marks.specs.Bytes.{is_blank, count_in_front, is_run_alone, without_blanks}
use Rattle.markdown_marks.specs.Items.{marker_start}
use Rattle.markdown_marks.specs.Marks.{is_rule, heading_level, fence_start, underline_level}
use Rattle.markdown_marks.specs.Remaining.{whole, one_column, take_columns, columns_in_front}
use Rattle.markdown_marks.specs.Tables.{cell_count, back_spot, columns_from, delimited_columns}
use Rattle.markdown_html.specs.Starts.{html_start}
use Rattle.markdown_blocks.specs.Containers.{container_start, matched, opened, ends_in_item}
use Rattle.markdown_blocks.specs.Leaves.{joining_of, rule_start, leaf_start, mark_start, going_on}
use Rattle.markdown_blocks.specs.Steps.{State, Step, step, line_step, begun_line}
use Rattle.markdown_blocks.specs.declared.leaves.Leaf.{Leaf}
use Rattle.markdown_blocks.specs.declared.leaves.Leaf.TheVariants.{Nothing, Paragraph}
use Rattle.markdown_blocks.specs.declared.leaves.Deed.{Deed}
use Rattle.markdown_blocks.specs.declared.leaves.Deed.TheVariants.{Blank, Begins, GoesOn}
use Rattle.markdown_laws.specs.Plain.{is_sign, is_special}

is_false : (b : Bool) → (b ≡ true → false ≡ true) → b ≡ false
is_false true h = let e : false ≡ true = h refl in absurd (cc)
is_false false h = refl

-- another byte than a special one
pub no_sign : (b k : ℕ) → is_special k ≡ true → is_special b ≡ false → (b == k) ≡ false
no_sign b k special h = is_false (b == k) (λ e. sym h ∙ ap is_special (eqb-true b k e) ∙ special)

not_first : (p q : Bool) → (p || q) ≡ false → p ≡ false
not_first true q h = h
not_first false q h = refl

no_digit : (b : ℕ) → is_special b ≡ false → is_ascii_digit b ≡ false
no_digit b h = not_first (is_ascii_digit b) (is_sign b) h

-- ---- nothing begins

none_taken : (b : ℕ) (bs : List ℕ) → is_special b ≡ false → one_column (whole (b ∷ bs)) ≡ None
unfolding one_column
none_taken b bs h = rw (no_sign b 32 refl h) (rw (no_sign b 9 refl h) refl)

no_columns : (b : ℕ) (bs : List ℕ) → is_special b ≡ false → columns_in_front 4 (whole (b ∷ bs)) ≡ 0
unfolding columns_in_front
no_columns b bs h = rw (none_taken b bs h) refl

all_left : (b : ℕ) (bs : List ℕ) → is_special b ≡ false → take_columns 4 (whole (b ∷ bs)) ≡ whole (b ∷ bs)
unfolding take_columns
all_left b bs h = rw (none_taken b bs h) refl

no_run : (b k : ℕ) (bs : List ℕ) → (b == k) ≡ false → count_in_front k (b ∷ bs) ≡ 0
unfolding count_in_front
no_run b k bs e = rw e refl

no_rule : (b : ℕ) (bs : List ℕ) → is_special b ≡ false → is_rule (b ∷ bs) ≡ false
unfolding is_rule
no_rule b bs h = rw (no_sign b 42 refl h) (rw (no_sign b 45 refl h) (rw (no_sign b 95 refl h) refl))

no_underline : (b : ℕ) (bs : List ℕ) → is_special b ≡ false → underline_level (b ∷ bs) ≡ None
unfolding underline_level is_run_alone
no_underline b bs h = rw (no_run b 61 bs (no_sign b 61 refl h)) (rw (no_run b 45 bs (no_sign b 45 refl h)) refl)

no_heading : (b : ℕ) (bs : List ℕ) → is_special b ≡ false → heading_level (b ∷ bs) ≡ None
unfolding heading_level
no_heading b bs h = rw (no_run b 35 bs (no_sign b 35 refl h)) refl

no_fence : (b : ℕ) (bs : List ℕ) → is_special b ≡ false → fence_start (b ∷ bs) ≡ None
unfolding fence_start
no_fence b bs h = rw (no_sign b 96 refl h) (rw (no_sign b 126 refl h) refl)

no_html : (in_paragraph : Bool) (b : ℕ) (bs : List ℕ) → is_special b ≡ false → html_start in_paragraph (b ∷ bs) ≡ None
unfolding html_start
no_html in_paragraph b bs h = rw (no_sign b 60 refl h) refl

not_blank : (b : ℕ) (bs : List ℕ) → is_special b ≡ false → is_blank (b ∷ bs) ≡ false
unfolding is_blank
not_blank b bs h = rw (no_sign b 32 refl h) (rw (no_sign b 9 refl h) refl)

no_marker : (b : ℕ) (bs : List ℕ) → is_special b ≡ false → marker_start (b ∷ bs) ≡ None
no_marker b bs h = rw (no_sign b 42 refl h) (rw (no_sign b 43 refl h) (rw (no_sign b 45 refl h) (rw (no_digit b h) refl)))

-- after a letter, as here A, no row of delimiters is left
stays_nowhere : (count : ℕ) (bs : List ℕ) → columns_from (back_spot 65) count bs ≡ 0
unfolding columns_from
stays_nowhere count [] = refl
stays_nowhere count (b ∷ bs) = stays_nowhere count bs

no_delimiters : (b : ℕ) (bs : List ℕ) → is_special b ≡ false → delimited_columns (b ∷ bs) ≡ 0
unfolding delimited_columns without_blanks columns_from
no_delimiters b bs h =
    rw (no_sign b 32 refl h) (rw (no_sign b 9 refl h) (rw (no_sign b 124 refl h) (rw (no_sign b 32 refl h) (rw (no_sign b 9 refl h) (rw (no_sign b 58 refl h) (rw (no_sign b 45 refl h) (stays_nowhere 0 bs)))))))

-- ---- the containers and the leaf that begin

no_container : (in_paragraph : Bool) (b : ℕ) (bs : List ℕ) → is_special b ≡ false → container_start in_paragraph (whole (b ∷ bs)) ≡ None
unfolding container_start
no_container true b bs h =
    rw (no_columns b bs h) (rw (all_left b bs h) (rw (no_sign b 62 refl h) (rw (no_rule b bs h) (rw (no_underline b bs h) (rw (no_marker b bs h) refl)))))
no_container false b bs h = rw (no_columns b bs h) (rw (all_left b bs h) (rw (no_sign b 62 refl h) (rw (no_rule b bs h) (rw (no_marker b bs h) refl))))

words_apart : (b : ℕ) (bs : List ℕ) → is_special b ≡ false → leaf_start (joining_of false true) (whole (b ∷ bs)) ≡ rule_start (whole (b ∷ bs))
unfolding leaf_start mark_start
words_apart b bs h =
    rw (not_blank b bs h) (rw (no_columns b bs h) (rw (all_left b bs h) (rw (no_heading b bs h) (rw (no_fence b bs h) (rw (no_html false b bs h) refl)))))

words_on : (b : ℕ) (bs : List ℕ) → is_special b ≡ false → leaf_start (joining_of true true) (whole (b ∷ bs)) ≡ rule_start (whole (b ∷ bs))
unfolding leaf_start mark_start
words_on b bs h =
    rw (not_blank b bs h) (rw (no_columns b bs h) (rw (all_left b bs h) (rw (no_heading b bs h) (rw (no_fence b bs h) (rw (no_html true b bs h) (rw (no_underline b bs h) refl))))))

-- ---- the step of a line

-- this leaf is open in no container, and its last line has so many cells
abbrev pub state_with : Leaf → ℕ → State
state_with leaf cells = record { containers = []; leaf = leaf; defining = []; cells = cells }

-- a step in no container, which does this with the whole line
abbrev pub done : Leaf → ℕ → Deed → List ℕ → Step
done leaf cells deed line = record { state = state_with leaf cells; line = record { kept = 0; opened = 0; deed = deed; text = whole line } }

-- a line that begins with no special sign begins a paragraph where none is open
pub begun : (b : ℕ) (bs : List ℕ) (cells : ℕ) → is_special b ≡ false → step (state_with Nothing cells) (b ∷ bs) ≡ done Paragraph (cell_count (b ∷ bs)) (Begins Paragraph) (b ∷ bs)
unfolding step line_step begun_line matched opened going_on ends_in_item
begun b bs cells h =
    rw (no_container false b bs h) (rw (words_apart b bs h) (rw (no_rule b bs h) (rw (no_sign b 91 refl h) refl)))

not_as_many : (cells : ℕ) → (not (cells == 0) && (0 == cells)) ≡ false
not_as_many cells = grind (arith, nat_tests)

-- a line that begins with no special sign goes on with a paragraph that is open
pub gone_on : (b : ℕ) (bs : List ℕ) (cells : ℕ) → is_special b ≡ false → step (state_with Paragraph cells) (b ∷ bs) ≡ done Paragraph (cell_count (b ∷ bs)) GoesOn (b ∷ bs)
unfolding step line_step begun_line matched opened going_on ends_in_item
gone_on b bs cells h =
    rw (no_container true b bs h) (rw (words_on b bs h) (rw (no_rule b bs h) (rw (no_delimiters b bs h) (rw (not_as_many cells) refl))))

-- an empty line leaves nothing open where nothing was
pub blank_outside : (cells : ℕ) → step (state_with Nothing cells) [] ≡ done Nothing 0 Blank []
unfolding step line_step begun_line matched opened going_on ends_in_item container_start leaf_start columns_in_front take_columns one_column is_blank is_rule underline_level is_run_alone count_in_front
blank_outside cells = refl

-- an empty line ends a paragraph
pub blank_inside : (cells : ℕ) → step (state_with Paragraph cells) [] ≡ done Nothing 0 Blank []
unfolding step line_step begun_line matched opened going_on ends_in_item container_start leaf_start columns_in_front take_columns one_column is_blank is_rule underline_level is_run_alone count_in_front
blank_inside cells = refl
