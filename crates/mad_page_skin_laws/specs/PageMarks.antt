-- The marks of a page take one column each.
use Rattle.mad_style.specs.StyledChars.{char_alone}
use Rattle.mad_style.specs.declared.kinds.CompositeKind.{CompositeKind}
use Rattle.mad_draw.specs.Pieces.{IsColumnChar}
use Rattle.mad_rows.specs.declared.row_skin.RowSkin.{RowSkin}
use Rattle.mad_layout.specs.Premises.{IsPrintablePrefix, AreBordersShown}
use Rattle.mad_page_rows.specs.FaceLaws.{AreFacesShown}
use Rattle.mad_page_skin.specs.PageSkins.{page_row_skin}
use Rattle.mad_page_skin.specs.declared.page_skin.PageSkin.{PageSkin}

-- each mark of a skin takes one column: those of gutters, of borders and of rules
pub record AreMarksShown (skin : RowSkin) : Type 0 where
  pub faces : AreFacesShown skin
  pub borders : AreBordersShown skin
  pub rule : IsColumnChar (char_alone skin.horizontal_rule)

-- the marks of a page: those of its rows, what is in front of the lines of a text, and what is in front of a picture's words
pub record ArePageMarksShown (skin : PageSkin) : Type 0 where
  pub rows : AreMarksShown (page_row_skin skin)
  pub prefixes : (kind : CompositeKind) → IsPrintablePrefix (page_row_skin skin) kind
  pub picture : IsColumnChar (char_alone skin.sign)
