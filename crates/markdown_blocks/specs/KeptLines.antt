-- What is told of a line, beside the line itself.
use Rattle.std.specs.Prelude.{◌≡◌, ℕ, Bool, true, ◌||◌, ◌==◌, List, ◌++◌, Some}
use Rattle.std.specs.Char.{is_ascii_digit}
use Rattle.std.specs.List.{AllByRecursion}
use Rattle.markdown_marks.specs.Bytes.{is_blank, is_blank_byte}
use Rattle.markdown_marks.specs.Items.{is_bullet}
use Rattle.markdown_marks.specs.Marks.{is_rule, underline_level}
use Rattle.markdown_marks.specs.Remaining.{Remaining}
use Rattle.markdown_marks.specs.Tables.{delimited_columns}
use Rattle.markdown_blocks.specs.Leaves.{closes_fence}
use Rattle.markdown_blocks.specs.Steps.{State, Line, step}
use Rattle.markdown_blocks.specs.declared.leaves.Deed.{Deed}
use Rattle.markdown_blocks.specs.declared.leaves.Deed.TheVariants.{Blank, Closes, Underlines, Tabulates, Rule}

-- a byte that may stand in front of a line's text: a blank, or one of a sign > of a quote, a marker of an item, the signs # of a heading, or a fence
abbrev pub is_markup : ℕ → Bool
is_markup b = is_blank_byte b || is_bullet b || is_ascii_digit b || (b == 62) || (b == 46) || (b == 41) || (b == 35) || (b == 96) || (b == 126)

-- these bytes end with those, and only markup is in front
pub record IsEndOf (bytes end : List ℕ) : Type 0 where
  pub front : List ℕ
  pub whole : bytes ≡ front ++ end
  pub markup : AllByRecursion (λ b. is_markup b ≡ true) front

-- A line that does this to the leaves, and that none of them keeps, is markup alone: blanks, the end of a fence, an underline, a row of delimiters, or
-- a thematic break.
abbrev pub IsMarkupAlone : Deed → Remaining → Type 0
IsMarkupAlone Blank text = is_blank text.bytes ≡ true
IsMarkupAlone Closes text = (sign : ℕ) × (length : ℕ) × (closes_fence sign length text ≡ true)
IsMarkupAlone (Underlines level) text = underline_level text.bytes ≡ Some level
IsMarkupAlone (Tabulates columns) text = delimited_columns text.bytes ≡ columns
IsMarkupAlone Rule text = is_rule text.bytes ≡ true
IsMarkupAlone _ text = Unit {0}

-- nothing of this line is lost
pub record KeepsLine (bytes : List ℕ) (line : Line) : Type 0 where
  pub text : IsEndOf bytes line.text.bytes
  pub alone : IsMarkupAlone line.deed line.text

-- whatever is open before it
abbrev pub NothingIsLost : Type 0
NothingIsLost = (state : State) (bytes : List ℕ) → KeepsLine bytes (step state bytes).line
