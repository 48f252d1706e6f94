-- What a call does, as a line that a shell reads.
use Rattle.std.specs.Prelude.{ℕ, ◌==◌, Bool, List, [], ◌∷◌, ◌++◌, Option, chars, codes, decimal, encode_utf8, if◌then◌else◌}
use Rattle.std.specs.List.{flat_map}
use Rattle.std.specs.Str.Lossy.{utf8_lossy}
use Rattle.clap.specs.Words.{Text}
use Rattle.code_words.specs.Words.{language_word}
use Rattle.termimad_options.specs.Calls.{Reading, as_code, as_markdown, as_plain, by_lines}
use Rattle.termimad_options.specs.Names.{reading_of_file}
use Rattle.termimad_options.specs.declared.plans.Plan.{Plan}
use Rattle.termimad_options.specs.declared.plans.Way.{Way}
use Rattle.termimad_options.specs.declared.plans.Way.TheVariants.{Writes, Pages, PagesBeyond}

-- ---- quotes

-- a character between single quotes; such a quote (39) ends them, stands behind a backslash, and begins them again
abbrev pub quoted_char : ℕ → Text
quoted_char c = if c == 39 then codes "'\\''" else encode_utf8 c

-- what is between the quotes for a text
abbrev pub inside_quotes : Text → Text
inside_quotes text = flat_map quoted_char (chars text)

-- a text as one word of a shell
abbrev pub quoted : Text → Text
quoted text = 39 ∷ (inside_quotes text ++ (39 ∷ []))

-- ---- the line

-- the word for where texts go
abbrev pub way_word : Way → Text
way_word Writes = codes "writes"
way_word Pages = codes "pages"
way_word (PagesBeyond rows) = codes "fits"

-- the rows that a text may have that isn't paged
abbrev pub rows_of : Way → ℕ
rows_of (PagesBeyond rows) = rows
rows_of _ = 0

-- the word for whether it is so
abbrev pub yes_or_no : Bool → Text
yes_or_no is_so = if is_so then codes "yes" else codes "no"

-- the word for code, between blanks: what stands behind a fence of its language is a part of it
abbrev pub code_word : Text → Text
code_word word = codes " 'code " ++ (inside_quotes (utf8_lossy (language_word word)) ++ codes "' ")

-- the word for how a text is read, between blanks
abbrev pub reading_word : Reading → Text
reading_word as_markdown = codes " markdown "
reading_word by_lines = codes " lines "
reading_word as_plain = codes " plain "
reading_word (as_code word) = code_word word

-- the text of a name, behind how it is read
abbrev pub file_bytes : Option Reading → Text → Text
file_bytes said name = reading_word (reading_of_file said name) ++ quoted name

abbrev pub files_bytes : Option Reading → List Text → Text
files_bytes said names = flat_map (file_bytes said) names

-- what is said of a plan's numbers and words
abbrev pub settings_bytes : Plan → Text
settings_bytes plan =
    codes "way=" ++ (way_word plan.way ++ (codes " rows=" ++ (decimal (rows_of plan.way) ++ (codes " columns=" ++ (decimal plan.columns
    ++ (codes " links=" ++ (yes_or_no plan.says_links ++ (codes " streams=" ++ (yes_or_no plan.streams ++ codes " skin=")))))))))

-- the line: variables, and then the texts, each behind how it is read
abbrev pub plan_bytes : Plan → Text → Option Reading → List Text → Text
plan_bytes plan place said names =
    settings_bytes plan ++ (quoted plan.skin.now ++ (codes " place=" ++ (quoted place ++ (codes "; set --" ++ (files_bytes said names ++ (10 ∷ []))))))
