-- Examples 226 to 250: their sections and links.
use Rattle.std.specs.Prelude.{◌≡◌, [], ◌∷◌, codes, true, false}
use Rattle.code_tables.specs.declared.rules.Language.TheVariants.{Rust}
use Rattle.mad_sections.specs.declared.gutters.Gutter.TheVariants.{Bar, Bullet, Number, Code}
use Rattle.mad_md.specs.declared.composite.CompositeStyle.TheVariants.{Paragraph, Header}
use Rattle.mad_md.specs.Lines.{horizontal_rule}
use Rattle.markdown_examples.specs.Rows.{plain, flagged, row, code_row, behind, blank, toned_behind}
use Rattle.markdown_reader.specs.Mapping.{link_at}
use Rattle.markdown_reader.specs.Markdown.{printable_sections, unmarked_links}

pub record AreSections10 : Type 0 where
  pub e226 : printable_sections (codes "* \n---\n# *~~~~~<div>") ≡ behind (Bullet ∷ []) 1 (row Paragraph ([]) ∷ []) ∷ blank [] ∷ behind [] 0 (horizontal_rule ∷ []) ∷ blank [] ∷ behind [] 0 (row (Header 1) (plain (codes "*~~~~~") ∷ []) ∷ []) ∷ []
  pub e227 : printable_sections (codes "1. ```rs\n[a]</a>|-|.") ≡ behind (Number 1 ∷ []) 1 (row Paragraph ([]) ∷ []) ∷ behind [] 0 (row Paragraph (plain (codes "[a]|-|.") ∷ []) ∷ []) ∷ []
  pub e228 : printable_sections (codes "<!--  a<&#35;\n|-|-|\n") ≡ []
  pub e229 : printable_sections (codes "<!--)<a>_**</a>](/u)") ≡ []
  pub e230 : printable_sections (codes "<div>- ````rs\n>[ ] \t") ≡ behind [] 0 (row Paragraph (plain (codes "- ````rs >[ ]") ∷ []) ∷ []) ∷ []
  pub e231 : printable_sections (codes "> [a]: /u\n+ ```\n===\n") ≡ behind (Bullet ∷ []) 1 (row Paragraph ([]) ∷ []) ∷ behind [] 0 (row Paragraph (plain (codes "===") ∷ []) ∷ []) ∷ []
  pub e232 : printable_sections (codes "[a]: /u\n## <a>[ ] <b") ≡ behind [] 0 (row (Header 2) (plain (codes "[ ] <b") ∷ []) ∷ []) ∷ []
  pub e233 : printable_sections (codes "](/u)~~<<!--\n---\n## ") ≡ behind [] 0 (row (Header 2) (plain (codes "](/u)~~<<!--") ∷ []) ∷ []) ∷ []
  pub e234 : printable_sections (codes "]<a>```rs\n</a>===```") ≡ behind [] 0 (row Paragraph (plain (codes "]") ∷ flagged false false true false false (codes "rs </a>===") ∷ []) ∷ []) ∷ []
  pub e235 : printable_sections (codes "_> <</a><div>\n|-|-|\n") ≡ behind [] 0 (row Paragraph (plain (codes "_> < |-|-|") ∷ []) ∷ []) ∷ []
  pub e236 : printable_sections (codes "a[a]<a>Ã©](<http://a>") ≡ behind [] 0 (row Paragraph (plain (codes "a[a]Ã©](") ∷ flagged false false false false true (codes "http://a") ∷ []) ∷ []) ∷ []
  pub l236 : unmarked_links (codes "a[a]<a>Ã©](<http://a>") ≡ link_at 0 (codes "http://a") ∷ []
  pub e237 : printable_sections (codes "Ã©\n===\n## 1. [a]: /u\n") ≡ behind [] 0 (row (Header 1) (plain (codes "Ã©") ∷ []) ∷ []) ∷ blank [] ∷ behind [] 0 (row (Header 2) (plain (codes "1. [a]: /u") ∷ []) ∷ []) ∷ []
  pub e238 : printable_sections (codes "![\\(<div>\n---\n```rs\n*") ≡ behind [] 0 (row (Header 2) (plain (codes "![(") ∷ []) ∷ []) ∷ blank [] ∷ toned_behind (Code ∷ []) 1 Rust (codes "*") (code_row (plain (codes "*") ∷ []) ∷ []) ∷ []
  pub e239 : printable_sections (35 ∷ 32 ∷ 230 ∷ 166 ∷ 130 ∷ 104 ∷ 116 ∷ 116 ∷ 112 ∷ 58 ∷ 47 ∷ 47 ∷ 120 ∷ 91 ∷ 97 ∷ 93 ∷ 58 ∷ 32 ∷ 47 ∷ 117 ∷ 10 ∷ 45 ∷ 32 ∷ []) ≡ behind [] 0 (row (Header 1) (plain (230 ∷ 166 ∷ 130 ∷ []) ∷ flagged false false false false true (codes "http://x[a]") ∷ plain (codes ": /u") ∷ []) ∷ []) ∷ blank [] ∷ behind (Bullet ∷ []) 1 (row Paragraph ([]) ∷ []) ∷ []
  pub l239 : unmarked_links (35 ∷ 32 ∷ 230 ∷ 166 ∷ 130 ∷ 104 ∷ 116 ∷ 116 ∷ 112 ∷ 58 ∷ 47 ∷ 47 ∷ 120 ∷ 91 ∷ 97 ∷ 93 ∷ 58 ∷ 32 ∷ 47 ∷ 117 ∷ 10 ∷ 45 ∷ 32 ∷ []) ≡ link_at 0 (codes "http://x[a]") ∷ []
  pub e240 : printable_sections (codes "&#35;!<http://a><div>") ≡ behind [] 0 (row Paragraph (plain (codes "#!") ∷ flagged false false false false true (codes "http://a") ∷ []) ∷ []) ∷ []
  pub l240 : unmarked_links (codes "&#35;!<http://a><div>") ≡ link_at 0 (codes "http://a") ∷ []
  pub e241 : printable_sections (codes "* \n|-|-|\n\n<a>\n---\n===") ≡ behind (Bullet ∷ []) 1 (row Paragraph ([]) ∷ []) ∷ behind [] 0 (row Paragraph (plain (codes "|-|-|") ∷ []) ∷ []) ∷ blank [] ∷ behind [] 0 (row Paragraph (plain (codes "--- ===") ∷ []) ∷ []) ∷ []
  pub e242 : printable_sections (codes "* ![<b\n---\n<!--(&amp;") ≡ behind (Bullet ∷ []) 1 (row Paragraph (plain (codes "![<b") ∷ []) ∷ []) ∷ blank [] ∷ behind [] 0 (horizontal_rule ∷ []) ∷ []
  pub e243 : printable_sections (codes "+ >```rs\n## a[a]: /u\n") ≡ behind (Bullet ∷ []) 1 (row Paragraph ([]) ∷ []) ∷ blank [] ∷ behind [] 0 (row (Header 2) (plain (codes "a[a]: /u") ∷ []) ∷ []) ∷ []
  pub e244 : printable_sections (codes "-->===*<div>*## &#35;") ≡ behind [] 0 (row Paragraph (plain (codes "-->===## #") ∷ []) ∷ []) ∷ []
  pub e245 : printable_sections (codes "<!--# foo<http://a>b ") ≡ []
  pub e246 : printable_sections (62 ∷ 32 ∷ 35 ∷ 35 ∷ 32 ∷ 93 ∷ 226 ∷ 128 ∷ 156 ∷ 33 ∷ 91 ∷ 60 ∷ 100 ∷ 105 ∷ 118 ∷ 62 ∷ 10 ∷ 124 ∷ 45 ∷ 124 ∷ 45 ∷ 124 ∷ 10 ∷ []) ≡ behind (Bar ∷ []) 1 (row (Header 2) (plain (93 ∷ 226 ∷ 128 ∷ 156 ∷ 33 ∷ 91 ∷ []) ∷ []) ∷ []) ∷ blank [] ∷ behind [] 0 (row Paragraph (plain (codes "|-|-|") ∷ []) ∷ []) ∷ []
  pub e247 : printable_sections (codes "[a]: /u\n</a>\n\n```<a>(") ≡ []
  pub e248 : printable_sections (codes "[a][a]: /u\na\n===\n<a>|") ≡ behind [] 0 (row (Header 1) (plain (codes "[a][a]: /u a") ∷ []) ∷ []) ∷ blank [] ∷ behind [] 0 (row Paragraph (plain (codes "|") ∷ []) ∷ []) ∷ []
  pub e249 : printable_sections (codes "__\n---\n<http://a>~2) ") ≡ behind [] 0 (row (Header 2) (plain (codes "__") ∷ []) ∷ []) ∷ blank [] ∷ behind [] 0 (row Paragraph (flagged false false false false true (codes "http://a") ∷ plain (codes "~2)") ∷ []) ∷ []) ∷ []
  pub l249 : unmarked_links (codes "__\n---\n<http://a>~2) ") ≡ link_at 2 (codes "http://a") ∷ []
  pub e250 : printable_sections (codes "__http://x|-|\n---\n---") ≡ behind [] 0 (row (Header 2) (plain (codes "__") ∷ flagged false false false false true (codes "http://x|-|") ∷ []) ∷ []) ∷ blank [] ∷ behind [] 0 (horizontal_rule ∷ []) ∷ []
  pub l250 : unmarked_links (codes "__http://x|-|\n---\n---") ≡ link_at 0 (codes "http://x|-|") ∷ []
