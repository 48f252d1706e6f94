-- Tags of html in a line.
use Rattle.std.specs.Prelude.{ℕ, ◌-◌, ◌==◌, ◌&&◌, Bool, true, false, if◌then◌else◌, List, [], ◌∷◌, length, Option, Some, None, option_map}
use Rattle.std.specs.Char.{is_ascii_alphabetic, to_ascii_lowercase}
use Rattle.markdown_marks.specs.Bytes.{first}
use Rattle.markdown_marks.specs.Definitions.{is_space_byte}
use Rattle.markdown_marks.specs.Html.{next_place, is_after}
use Rattle.markdown_marks.specs.declared.tags.Place.{Place}
use Rattle.markdown_marks.specs.declared.tags.Place.TheVariants.{Name, CloseName, Nowhere}
use Rattle.markdown_spans.specs.Code.{spaced}

-- what was read is no tag
abbrev pub is_nowhere : Place → Bool
is_nowhere Nowhere = true
is_nowhere _ = false

-- a sign > that leads behind the tag
abbrev pub closes : ℕ → Place → Bool
closes b place = b == 62 && is_after place

-- what follows a tag, from a place in it on; the end of a line is a blank
unfoldable pub after_tag : Place → List ℕ → Option (List ℕ)
after_tag place [] = None
after_tag place (b ∷ bs) =
    if closes b (next_place place (spaced b)) then Some bs
    else if is_nowhere (next_place place (spaced b)) then None
    else after_tag (next_place place (spaced b)) bs

-- an opening tag with its attributes, or a closing one; these are the bytes after the sign <
abbrev pub tag_end : List ℕ → Option (List ℕ)
tag_end [] = None
tag_end (b ∷ bs) = if is_ascii_alphabetic b then after_tag Name bs else if (b == 47) && is_ascii_alphabetic (first bs) then after_tag CloseName bs else None
