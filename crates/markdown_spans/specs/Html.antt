-- Raw html in a line.
use Rattle.std.specs.Prelude.{ℕ, ◌-◌, ◌&&◌, if◌then◌else◌, List, length, drop, Option, Some, None, option_map, codes}
use Rattle.std.specs.Char.{is_ascii_alphabetic}
use Rattle.markdown_marks.specs.Bytes.{first}
use Rattle.markdown_marks.specs.Definitions.{or_else}
use Rattle.markdown_spans.specs.declared.html.Ends.{Ends}
use Rattle.markdown_html.specs.Starts.{begins}
use Rattle.markdown_spans.specs.Needles.{after_first, IsLast}
use Rattle.markdown_spans.specs.Tags.{tag_end}

-- A comment, after its <!--. The comments <!--> and <!---> are whole, and any other ends with the first -->.
abbrev pub after_comment : List ℕ → Option (List ℕ)
after_comment text = if begins text (codes ">") then Some (drop 1 text) else if begins text (codes "->") then Some (drop 2 text) else after_first (codes "-->") text

-- what isn't a tag, after the sign <
abbrev pub other_end : List ℕ → Option (List ℕ)
other_end bytes =
    if begins bytes (codes "!--") then after_comment (drop 3 bytes)
    else if begins bytes (codes "?") then after_first (codes "?>") (drop 1 bytes)
    else if begins bytes (codes "![CDATA[") then after_first (codes "]]>") (drop 8 bytes)
    else if begins bytes (codes "!") && is_ascii_alphabetic (first (drop 1 bytes)) then after_first (codes ">") (drop 1 bytes)
    else None

-- a tag, a comment, an instruction, a CDATA section or a declaration; these are the bytes after the sign <
abbrev pub html_end : List ℕ → Option (List ℕ)
html_end bytes = or_else (tag_end bytes) (other_end bytes)

-- how many bytes raw html has after its sign <
abbrev pub html_len : List ℕ → Option ℕ
html_len bytes = option_map (λ after. length bytes - length after) (html_end bytes)

-- ---- what is remembered of a text

-- where the ends of comments, instructions, CDATA sections and declarations begin last: none does from there on
pub record AreEnds (ends : Ends) (text : List ℕ) : Type 0 where
  pub comment : IsLast (codes "-->") ends.comment text
  pub instruction : IsLast (codes "?>") ends.instruction text
  pub cdata : IsLast (codes "]]>") ends.cdata text
  pub declaration : IsLast (codes ">") ends.declaration text
