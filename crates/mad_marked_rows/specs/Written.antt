-- Characters that are drawn again, with their links.
use Rattle.mad_draw.specs.Pieces.{char_piece}
use Rattle.mad_links.specs.LinkRows.{LinkedPiece}
use Rattle.mad_marked_rows.specs.LinkedTexts.{link_of_mark}
use Rattle.mad_marked_rows.specs.declared.seen.SeenChar.{SeenChar}

-- a character in its style, in the link of its mark
abbrev pub seen_link : SeenChar → LinkedPiece
seen_link s = record { style = (char_piece s.char).style; text = (char_piece s.char).text; link = link_of_mark s.value }
