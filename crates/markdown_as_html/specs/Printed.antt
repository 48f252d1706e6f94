-- Code between fences is printed as it stands.
use Rattle.std.specs.Prelude.{◌≡◌, ℕ, true, List, [], ◌∷◌, ◌++◌, drop, map, flat_map}
use Rattle.std.specs.List.{list_all}
use Rattle.markdown_marks.specs.Remaining.{whole}
use Rattle.markdown_blocks.specs.Leaves.{closes_fence}
use Rattle.markdown_blocks.specs.Lines.{text_lines}
use Rattle.markdown_laws.specs.Fences.{BeginsCode, trimmed, unindented, is_inside}
use Rattle.markdown_as_html.specs.Escaped.{escaped}
use Rattle.markdown_as_html.specs.Html.{html_of, html_of_code, language_in, language_html}

-- a line, and its end
abbrev pub printed_line : List ℕ → List ℕ
printed_line line = escaped line ++ 10 ∷ []

-- A text that begins with a fence, which its line `last` is the first to close: its html is that of code (the lines between, without the indent of the
-- fence, each with its signs escaped), and then the html of what comes after.
abbrev pub CodeIsPrinted : Type 0
CodeIsPrinted = (text after first last fence : List ℕ) (lines : List (List ℕ)) (indent sign length : ℕ)
    → text_lines text ≡ first ∷ (lines ++ last ∷ text_lines after)
    → BeginsCode first indent sign length fence → list_all (is_inside sign length) lines ≡ true → closes_fence sign length (whole last) ≡ true
    → html_of text ≡ html_of_code (language_html (language_in (trimmed (drop length fence)))) (flat_map printed_line (map (unindented indent) lines)) ++ html_of after
