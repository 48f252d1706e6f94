-- Examples, as CommonMark's specification has them: a text, and its html.
use Rattle.std.specs.Prelude.{◌≡◌, ℕ, List, encode_utf8_all}
use Rattle.markdown_as_html.specs.Html.{html_of}

-- this text is printed as this html, each given by its characters
abbrev pub IsPrinted : (text html : List ℕ) → Type 0
IsPrinted text html = html_of (encode_utf8_all text) ≡ encode_utf8_all html
