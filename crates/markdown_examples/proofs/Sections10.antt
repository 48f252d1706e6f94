-- Examples 226 to 250, computed.
use Rattle.std.proofs.Common.{◌≡◌, [], ◌∷◌, codes, true, false, refl}
use Rattle.code_tables.specs.declared.rules.Language.TheVariants.{Rust}
use Rattle.mad_sections.specs.declared.gutters.Gutter.TheVariants.{Bar, Bullet, Number, Code}
use Rattle.mad_md.specs.declared.composite.CompositeStyle.TheVariants.{Paragraph, Header}
use Rattle.mad_md.specs.Lines.{horizontal_rule}
use Rattle.markdown_examples.specs.Rows.{plain, flagged, row, code_row, behind, blank, toned_behind}
use Rattle.markdown_reader.specs.Mapping.{link_at}
use Rattle.markdown_reader.specs.Markdown.{printable_sections, unmarked_links}
use Rattle.markdown_examples.specs.Sections10.{AreSections10}
use Rattle.markdown_examples.proofs.Computing.{sections}

e226 : printable_sections (codes "* \n---\n# *~~~~~<div>") ≡ behind (Bullet ∷ []) 1 (row Paragraph ([]) ∷ []) ∷ blank [] ∷ behind [] 0 (horizontal_rule ∷ []) ∷ blank [] ∷ behind [] 0 (row (Header 1) (plain (codes "*~~~~~") ∷ []) ∷ []) ∷ []
unfolding sections
e226 = refl

e227 : printable_sections (codes "1. ```rs\n[a]</a>|-|.") ≡ behind (Number 1 ∷ []) 1 (row Paragraph ([]) ∷ []) ∷ behind [] 0 (row Paragraph (plain (codes "[a]|-|.") ∷ []) ∷ []) ∷ []
unfolding sections
e227 = refl

e228 : printable_sections (codes "<!--  a<&#35;\n|-|-|\n") ≡ []
unfolding sections
e228 = refl

e229 : printable_sections (codes "<!--)<a>_**</a>](/u)") ≡ []
unfolding sections
e229 = refl

e230 : printable_sections (codes "<div>- ````rs\n>[ ] \t") ≡ behind [] 0 (row Paragraph (plain (codes "- ````rs >[ ]") ∷ []) ∷ []) ∷ []
unfolding sections
e230 = refl

e231 : printable_sections (codes "> [a]: /u\n+ ```\n===\n") ≡ behind (Bullet ∷ []) 1 (row Paragraph ([]) ∷ []) ∷ behind [] 0 (row Paragraph (plain (codes "===") ∷ []) ∷ []) ∷ []
unfolding sections
e231 = refl

e232 : printable_sections (codes "[a]: /u\n## <a>[ ] <b") ≡ behind [] 0 (row (Header 2) (plain (codes "[ ] <b") ∷ []) ∷ []) ∷ []
unfolding sections
e232 = refl

e233 : printable_sections (codes "](/u)~~<<!--\n---\n## ") ≡ behind [] 0 (row (Header 2) (plain (codes "](/u)~~<<!--") ∷ []) ∷ []) ∷ []
unfolding sections
e233 = refl

e234 : printable_sections (codes "]<a>```rs\n</a>===```") ≡ behind [] 0 (row Paragraph (plain (codes "]") ∷ flagged false false true false false (codes "rs </a>===") ∷ []) ∷ []) ∷ []
unfolding sections
e234 = refl

e235 : printable_sections (codes "_> <</a><div>\n|-|-|\n") ≡ behind [] 0 (row Paragraph (plain (codes "_> < |-|-|") ∷ []) ∷ []) ∷ []
unfolding sections
e235 = refl

e236 : printable_sections (codes "a[a]<a>Ã©](<http://a>") ≡ behind [] 0 (row Paragraph (plain (codes "a[a]Ã©](") ∷ flagged false false false false true (codes "http://a") ∷ []) ∷ []) ∷ []
unfolding sections
e236 = refl

l236 : unmarked_links (codes "a[a]<a>Ã©](<http://a>") ≡ link_at 0 (codes "http://a") ∷ []
unfolding sections
l236 = refl

e237 : printable_sections (codes "Ã©\n===\n## 1. [a]: /u\n") ≡ behind [] 0 (row (Header 1) (plain (codes "Ã©") ∷ []) ∷ []) ∷ blank [] ∷ behind [] 0 (row (Header 2) (plain (codes "1. [a]: /u") ∷ []) ∷ []) ∷ []
unfolding sections
e237 = refl

e238 : printable_sections (codes "![\\(<div>\n---\n```rs\n*") ≡ behind [] 0 (row (Header 2) (plain (codes "![(") ∷ []) ∷ []) ∷ blank [] ∷ toned_behind (Code ∷ []) 1 Rust (codes "*") (code_row (plain (codes "*") ∷ []) ∷ []) ∷ []
unfolding sections
e238 = refl

e239 : printable_sections (35 ∷ 32 ∷ 230 ∷ 166 ∷ 130 ∷ 104 ∷ 116 ∷ 116 ∷ 112 ∷ 58 ∷ 47 ∷ 47 ∷ 120 ∷ 91 ∷ 97 ∷ 93 ∷ 58 ∷ 32 ∷ 47 ∷ 117 ∷ 10 ∷ 45 ∷ 32 ∷ []) ≡ behind [] 0 (row (Header 1) (plain (230 ∷ 166 ∷ 130 ∷ []) ∷ flagged false false false false true (codes "http://x[a]") ∷ plain (codes ": /u") ∷ []) ∷ []) ∷ blank [] ∷ behind (Bullet ∷ []) 1 (row Paragraph ([]) ∷ []) ∷ []
unfolding sections
e239 = refl

l239 : unmarked_links (35 ∷ 32 ∷ 230 ∷ 166 ∷ 130 ∷ 104 ∷ 116 ∷ 116 ∷ 112 ∷ 58 ∷ 47 ∷ 47 ∷ 120 ∷ 91 ∷ 97 ∷ 93 ∷ 58 ∷ 32 ∷ 47 ∷ 117 ∷ 10 ∷ 45 ∷ 32 ∷ []) ≡ link_at 0 (codes "http://x[a]") ∷ []
unfolding sections
l239 = refl

e240 : printable_sections (codes "&#35;!<http://a><div>") ≡ behind [] 0 (row Paragraph (plain (codes "#!") ∷ flagged false false false false true (codes "http://a") ∷ []) ∷ []) ∷ []
unfolding sections
e240 = refl

l240 : unmarked_links (codes "&#35;!<http://a><div>") ≡ link_at 0 (codes "http://a") ∷ []
unfolding sections
l240 = refl

e241 : printable_sections (codes "* \n|-|-|\n\n<a>\n---\n===") ≡ behind (Bullet ∷ []) 1 (row Paragraph ([]) ∷ []) ∷ behind [] 0 (row Paragraph (plain (codes "|-|-|") ∷ []) ∷ []) ∷ blank [] ∷ behind [] 0 (row Paragraph (plain (codes "--- ===") ∷ []) ∷ []) ∷ []
unfolding sections
e241 = refl

e242 : printable_sections (codes "* ![<b\n---\n<!--(&amp;") ≡ behind (Bullet ∷ []) 1 (row Paragraph (plain (codes "![<b") ∷ []) ∷ []) ∷ blank [] ∷ behind [] 0 (horizontal_rule ∷ []) ∷ []
unfolding sections
e242 = refl

e243 : printable_sections (codes "+ >```rs\n## a[a]: /u\n") ≡ behind (Bullet ∷ []) 1 (row Paragraph ([]) ∷ []) ∷ blank [] ∷ behind [] 0 (row (Header 2) (plain (codes "a[a]: /u") ∷ []) ∷ []) ∷ []
unfolding sections
e243 = refl

e244 : printable_sections (codes "-->===*<div>*## &#35;") ≡ behind [] 0 (row Paragraph (plain (codes "-->===## #") ∷ []) ∷ []) ∷ []
unfolding sections
e244 = refl

e245 : printable_sections (codes "<!--# foo<http://a>b ") ≡ []
unfolding sections
e245 = refl

e246 : printable_sections (62 ∷ 32 ∷ 35 ∷ 35 ∷ 32 ∷ 93 ∷ 226 ∷ 128 ∷ 156 ∷ 33 ∷ 91 ∷ 60 ∷ 100 ∷ 105 ∷ 118 ∷ 62 ∷ 10 ∷ 124 ∷ 45 ∷ 124 ∷ 45 ∷ 124 ∷ 10 ∷ []) ≡ behind (Bar ∷ []) 1 (row (Header 2) (plain (93 ∷ 226 ∷ 128 ∷ 156 ∷ 33 ∷ 91 ∷ []) ∷ []) ∷ []) ∷ blank [] ∷ behind [] 0 (row Paragraph (plain (codes "|-|-|") ∷ []) ∷ []) ∷ []
unfolding sections
e246 = refl

e247 : printable_sections (codes "[a]: /u\n</a>\n\n```<a>(") ≡ []
unfolding sections
e247 = refl

e248 : printable_sections (codes "[a][a]: /u\na\n===\n<a>|") ≡ behind [] 0 (row (Header 1) (plain (codes "[a][a]: /u a") ∷ []) ∷ []) ∷ blank [] ∷ behind [] 0 (row Paragraph (plain (codes "|") ∷ []) ∷ []) ∷ []
unfolding sections
e248 = refl

e249 : printable_sections (codes "__\n---\n<http://a>~2) ") ≡ behind [] 0 (row (Header 2) (plain (codes "__") ∷ []) ∷ []) ∷ blank [] ∷ behind [] 0 (row Paragraph (flagged false false false false true (codes "http://a") ∷ plain (codes "~2)") ∷ []) ∷ []) ∷ []
unfolding sections
e249 = refl

l249 : unmarked_links (codes "__\n---\n<http://a>~2) ") ≡ link_at 2 (codes "http://a") ∷ []
unfolding sections
l249 = refl

e250 : printable_sections (codes "__http://x|-|\n---\n---") ≡ behind [] 0 (row (Header 2) (plain (codes "__") ∷ flagged false false false false true (codes "http://x|-|") ∷ []) ∷ []) ∷ blank [] ∷ behind [] 0 (horizontal_rule ∷ []) ∷ []
unfolding sections
e250 = refl

l250 : unmarked_links (codes "__http://x|-|\n---\n---") ≡ link_at 0 (codes "http://x|-|") ∷ []
unfolding sections
l250 = refl

pub sections10 : AreSections10
sections10 = record { e226 = e226; e227 = e227; e228 = e228; e229 = e229; e230 = e230; e231 = e231; e232 = e232; e233 = e233; e234 = e234; e235 = e235; e236 = e236; l236 = l236; e237 = e237; e238 = e238; e239 = e239; l239 = l239; e240 = e240; l240 = l240; e241 = e241; e242 = e242; e243 = e243; e244 = e244; e245 = e245; e246 = e246; e247 = e247; e248 = e248; e249 = e249; l249 = l249; e250 = e250; l250 = l250 }
