-- The pieces of a program as the definitions see them.
use Rattle.std.specs.Prelude.{List}
use Rattle.std.specs.List.{AllByRecursion}
use Rattle.std.specs.Str.{chars}
use Rattle.mad_screen.specs.Painting.{IsShown}
use Rattle.mad_links.specs.declared.rows.LinkPiece.{LinkPiece}
use Rattle.mad_links.specs.LinkRows.{LinkedPiece}

-- a piece of a program: its text is what its reference points to
abbrev pub piece_of : LinkPiece → LinkedPiece
piece_of p = record { style = p.style; text = p.text.now; link = p.link }

-- each text shows cells of its own: no control character, and no widthless one in front
abbrev pub AreShownTexts : List LinkPiece → Type 0
AreShownTexts ps = AllByRecursion (λ p. IsShown (chars p.text.now)) ps
