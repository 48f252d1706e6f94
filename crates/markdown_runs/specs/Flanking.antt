-- Whether a run opens and closes, by what stands beside it, as CommonMark has it.
use Rattle.std.specs.Prelude.{ℕ, ◌==◌, ◌&&◌, ◌||◌, not, Bool, true, false, if◌then◌else◌, Option, Some, None}
use Rattle.ucd_category.specs.GeneralCategory.{general_category, general_category_number}
use Rattle.ucd_category.specs.GeneralCategoryGroup.{in_group}
use Rattle.ucd_category.specs.declared.GeneralCategoryGroup.TheVariants.{Punctuation as PunctuationGroup, Symbol}
use Rattle.markdown_emphasis.specs.declared.runs.Sign.{Sign}
use Rattle.markdown_emphasis.specs.declared.runs.Sign.TheVariants.{Underscore}
use Rattle.markdown_emphasis.specs.declared.runs.Run.{Run}
use Rattle.markdown_runs.specs.declared.flanking.Neighbor.{Neighbor}
use Rattle.markdown_runs.specs.declared.flanking.Neighbor.TheVariants.{Blank, Punctuation, Other}

-- whitespace of Unicode: the category Zs (22), tab, newline, form feed and carriage return
abbrev pub is_blank : ℕ → Bool
is_blank c = c == 9 || c == 10 || c == 12 || c == 13 || (general_category_number (general_category c) == 22)

-- punctuation, and symbols, which count as such: the categories P and S of Unicode
abbrev pub is_punctuation : ℕ → Bool
is_punctuation c = in_group PunctuationGroup (general_category c) || in_group Symbol (general_category c)

-- what a character is beside a run
abbrev pub beside_char : ℕ → Neighbor
beside_char c = if is_blank c then Blank else if is_punctuation c then Punctuation else Other

-- what is beside a run; the ends of the text count as whitespace
abbrev pub beside : Option ℕ → Neighbor
beside None = Blank
beside (Some c) = beside_char c

-- Left-flanking is flanking with what follows inside, right-flanking with what precedes: not whitespace inside, and
-- punctuation only with whitespace or punctuation outside.
abbrev pub is_flanking : (inner outer : Neighbor) → Bool
is_flanking Blank outer = false
is_flanking Punctuation Other = false
is_flanking _ outer = true

-- the neighbor is punctuation
abbrev pub is_mark : Neighbor → Bool
is_mark Punctuation = true
is_mark _ = false

-- rules 1 and 5, and for `_` 2 and 6
abbrev pub opens : Sign → (before after : Neighbor) → Bool
opens Underscore before after = is_flanking after before && (not (is_flanking before after) || is_mark before)
opens _ before after = is_flanking after before

-- rules 3 and 7, and for `_` 4 and 8
abbrev pub closes : Sign → (before after : Neighbor) → Bool
closes Underscore before after = is_flanking before after && (not (is_flanking after before) || is_mark after)
closes _ before after = is_flanking before after

-- a run of so many marks, which opens and closes as its neighbors let it
abbrev pub run_of : Sign → ℕ → (before after : Neighbor) → Run
run_of sign count before after = record { sign = sign; count = count; opens = opens sign before after; closes = closes sign before after }
