-- What is known of a text before it is cut.
use Rattle.std.specs.Prelude.{◌≡◌, ℕ, false, List}
use Rattle.markdown_spans.specs.Ticks.{AreLasts}
use Rattle.markdown_spans.specs.Html.{AreEnds}
use Rattle.markdown_addresses.specs.Bare.{HasNoAt}
use Rattle.markdown_pieces.specs.Scan.{HasNoWeb}
use Rattle.markdown_pieces.specs.declared.pieces.Known.{Known}

-- where the last run of backquotes of each length is, the last end of each kind of raw html, and whether there may be an at sign, and an address of the web
pub record IsKnown (known : Known) (text : List ℕ) : Type 0 where
  pub ticks : AreLasts known.ticks.items text
  pub ends : AreEnds known.ends text
  pub mail : known.mail ≡ false → HasNoAt text
  pub web : known.web ≡ false → HasNoWeb text
