-- How blocks of html begin, and what ends each.
use Rattle.std.specs.Prelude.{ℕ, Bool, not, ◌||◌, ◌&&◌, ◌==◌, nat_eq, List, drop, Option, Some, None, if◌then◌else◌, codes}
use Rattle.std.specs.Char.{is_ascii_alphabetic}
use Rattle.std.specs.List.{starts_with}
use Rattle.markdown_marks.specs.Bytes.{first}
use Rattle.markdown_marks.specs.Html.{is_tag_alone}
use Rattle.markdown_html.specs.Names.{is_raw_tag, is_block_tag}
use Rattle.markdown_html.specs.declared.starts.Ending.{Ending}
use Rattle.markdown_html.specs.declared.starts.Ending.TheVariants.{RawTag, Comment, Instruction, Declaration, Cdata, BlankLine}

-- the bytes begin with this prefix
abbrev pub begins : List ℕ → List ℕ → Bool
begins bytes prefix = starts_with nat_eq bytes prefix

-- without a slash in front
abbrev pub without_slash : List ℕ → List ℕ
without_slash bytes = if first bytes == 47 then drop 1 bytes else bytes

-- html that begins here ends before a blank line
abbrev pub blank_ending : Bool → Option Ending
blank_ending begins_html = if begins_html then Some BlankLine else None

-- after the sign <: a tag whose content is raw, an instruction, a comment, a CDATA section, a declaration, a block's tag, or any other tag
abbrev pub ending_after : Bool → List ℕ → Option Ending
ending_after in_paragraph bytes =
    if is_raw_tag bytes then Some RawTag
    else if begins bytes (codes "!--") then Some Comment
    else if begins bytes (codes "?") then Some Instruction
    else if begins bytes (codes "![CDATA[") then Some Cdata
    else if begins bytes (codes "!") && is_ascii_alphabetic (first (drop 1 bytes)) then Some Declaration
    else blank_ending (is_block_tag (without_slash bytes) || (not in_paragraph && is_tag_alone bytes))

-- what ends the block of html that begins here; a tag alone that is no block's can't interrupt a paragraph
unfoldable pub html_start : Bool → List ℕ → Option Ending
html_start in_paragraph bytes = if first bytes == 60 then ending_after in_paragraph (drop 1 bytes) else None
