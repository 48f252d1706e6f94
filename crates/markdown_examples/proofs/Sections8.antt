-- Examples 176 to 200, computed.
use Rattle.std.proofs.Common.{◌≡◌, [], ◌∷◌, codes, true, false, refl}
use Rattle.mad_sections.specs.declared.gutters.Gutter.TheVariants.{Bar, Bullet, Number, Code}
use Rattle.mad_md.specs.declared.composite.CompositeStyle.TheVariants.{Paragraph, Header}
use Rattle.mad_md.specs.Lines.{horizontal_rule}
use Rattle.markdown_examples.specs.Rows.{plain, flagged, pictured, row, code_row, behind, blank}
use Rattle.markdown_reader.specs.Mapping.{link_at}
use Rattle.markdown_reader.specs.Markdown.{printable_sections, unmarked_links}
use Rattle.markdown_examples.specs.Sections8.{AreSections8}
use Rattle.markdown_examples.proofs.Computing.{sections}

e176 : printable_sections (codes "* <http://a>## <b") ≡ behind (Bullet ∷ []) 1 (row Paragraph (flagged false false false false true (codes "http://a") ∷ plain (codes "## <b") ∷ []) ∷ []) ∷ []
unfolding sections
e176 = refl

l176 : unmarked_links (codes "* <http://a>## <b") ≡ link_at 0 (codes "http://a") ∷ []
unfolding sections
l176 = refl

e177 : printable_sections (codes "- ```+ [a]: /u\n](") ≡ behind (Bullet ∷ []) 1 (row Paragraph ([]) ∷ []) ∷ behind [] 0 (row Paragraph (plain (codes "](") ∷ []) ∷ []) ∷ []
unfolding sections
e177 = refl

e178 : printable_sections (codes "---~~~\n===\n    ](") ≡ behind [] 0 (row (Header 1) (plain (codes "---~~~") ∷ []) ∷ []) ∷ blank [] ∷ behind (Code ∷ []) 1 (code_row (plain (codes "](") ∷ []) ∷ []) ∷ []
unfolding sections
e178 = refl

e179 : printable_sections (codes "<!--(<b(http://x>") ≡ []
unfolding sections
e179 = refl

e180 : printable_sections (codes "</a>Ã©</a>\n===\n```") ≡ behind [] 0 (row (Header 1) (plain (codes "Ã©") ∷ []) ∷ []) ∷ []
unfolding sections
e180 = refl

e181 : printable_sections (codes "<a>\n|-|-|\n\n|-|-|\n") ≡ behind [] 0 (row Paragraph (plain (codes "|-|-|") ∷ []) ∷ []) ∷ blank [] ∷ behind [] 0 (row Paragraph (plain (codes "|-|-|") ∷ []) ∷ []) ∷ []
unfolding sections
e181 = refl

e182 : printable_sections (codes ">1. ](&#35;<div>~") ≡ behind (Bar ∷ Number 1 ∷ []) 2 (row Paragraph (plain (codes "](#~") ∷ []) ∷ []) ∷ []
unfolding sections
e182 = refl

e183 : printable_sections (codes ">```---](/u).]1. ") ≡ []
unfolding sections
e183 = refl

e184 : printable_sections (codes "[\t<div><div>*:```") ≡ behind [] 0 (row Paragraph (plain (codes "[ *:```") ∷ []) ∷ []) ∷ []
unfolding sections
e184 = refl

e185 : printable_sections (codes "__<b__<http://a>~") ≡ behind [] 0 (row Paragraph (flagged true false false false false (codes "<b") ∷ flagged false false false false true (codes "http://a") ∷ plain (codes "~") ∷ []) ∷ []) ∷ []
unfolding sections
e185 = refl

l185 : unmarked_links (codes "__<b__<http://a>~") ≡ link_at 0 (codes "http://a") ∷ []
unfolding sections
l185 = refl

e186 : printable_sections (102 ∷ 111 ∷ 111 ∷ 226 ∷ 128 ∷ 156 ∷ 50 ∷ 41 ∷ 32 ∷ 49 ∷ 46 ∷ 32 ∷ 10 ∷ 45 ∷ 45 ∷ 45 ∷ 10 ∷ 43 ∷ 32 ∷ []) ≡ behind [] 0 (row (Header 2) (plain (102 ∷ 111 ∷ 111 ∷ 226 ∷ 128 ∷ 156 ∷ 50 ∷ 41 ∷ 32 ∷ 49 ∷ 46 ∷ []) ∷ []) ∷ []) ∷ blank [] ∷ behind (Bullet ∷ []) 1 (row Paragraph ([]) ∷ []) ∷ []
unfolding sections
e186 = refl

e187 : printable_sections (10 ∷ 61 ∷ 61 ∷ 61 ∷ 10 ∷ 10 ∷ 45 ∷ 45 ∷ 45 ∷ 10 ∷ 60 ∷ 100 ∷ 105 ∷ 118 ∷ 62 ∷ 230 ∷ 166 ∷ 130 ∷ 46 ∷ 230 ∷ 166 ∷ 130 ∷ []) ≡ behind [] 0 (row Paragraph (plain (codes "===") ∷ []) ∷ []) ∷ blank [] ∷ behind [] 0 (horizontal_rule ∷ []) ∷ blank [] ∷ behind [] 0 (row Paragraph (plain (230 ∷ 166 ∷ 130 ∷ 46 ∷ 230 ∷ 166 ∷ 130 ∷ []) ∷ []) ∷ []) ∷ []
unfolding sections
e187 = refl

e188 : printable_sections (codes "\n===\n## \\*!\n```rs\n") ≡ behind [] 0 (row Paragraph (plain (codes "===") ∷ []) ∷ []) ∷ blank [] ∷ behind [] 0 (row (Header 2) (plain (codes "*!") ∷ []) ∷ []) ∷ []
unfolding sections
e188 = refl

e189 : printable_sections (codes "![](/u)<b\n---\n\\*# ") ≡ behind [] 0 (row (Header 2) (pictured (codes "u") ∷ plain (codes "<b") ∷ []) ∷ []) ∷ blank [] ∷ behind [] 0 (row Paragraph (plain (codes "*#") ∷ []) ∷ []) ∷ []
unfolding sections
e189 = refl

e190 : printable_sections (codes "## \n---\n`&#35;[ ] ") ≡ behind [] 0 (horizontal_rule ∷ []) ∷ blank [] ∷ behind [] 0 (row Paragraph (plain (codes "`#[ ]") ∷ []) ∷ []) ∷ []
unfolding sections
e190 = refl

e191 : printable_sections (codes "'</a>![```rs\n\n\n\n\n*") ≡ behind [] 0 (row Paragraph (plain (codes "'![```rs") ∷ []) ∷ []) ∷ blank [] ∷ behind (Bullet ∷ []) 1 (row Paragraph ([]) ∷ []) ∷ []
unfolding sections
e191 = refl

e192 : printable_sections (codes "+ \t![<div>foo</a>)") ≡ behind (Bullet ∷ []) 1 (row Paragraph (plain (codes "![foo)") ∷ []) ∷ []) ∷ []
unfolding sections
e192 = refl

e193 : printable_sections (codes "- 1. > **\n---\n--><") ≡ behind (Bullet ∷ Number 1 ∷ Bar ∷ []) 3 (row Paragraph (plain (codes "**") ∷ []) ∷ []) ∷ blank [] ∷ behind [] 0 (horizontal_rule ∷ []) ∷ blank [] ∷ behind [] 0 (row Paragraph (plain (codes "--><") ∷ []) ∷ []) ∷ []
unfolding sections
e193 = refl

e194 : printable_sections (codes "<!--<div>|-|&#35;'") ≡ []
unfolding sections
e194 = refl

e195 : printable_sections (60 ∷ 100 ∷ 105 ∷ 118 ∷ 62 ∷ 230 ∷ 166 ∷ 130 ∷ 34 ∷ 126 ∷ 126 ∷ 126 ∷ 93 ∷ 40 ∷ 47 ∷ 117 ∷ 41 ∷ 92 ∷ 42 ∷ 126 ∷ []) ≡ behind [] 0 (row Paragraph (plain (230 ∷ 166 ∷ 130 ∷ 34 ∷ 126 ∷ 126 ∷ 126 ∷ 93 ∷ 40 ∷ 47 ∷ 117 ∷ 41 ∷ 92 ∷ 42 ∷ 126 ∷ []) ∷ []) ∷ []) ∷ []
unfolding sections
e195 = refl

e196 : printable_sections (codes "<http://a><a>](|-|") ≡ behind [] 0 (row Paragraph (flagged false false false false true (codes "http://a") ∷ plain (codes "](|-|") ∷ []) ∷ []) ∷ []
unfolding sections
e196 = refl

l196 : unmarked_links (codes "<http://a><a>](|-|") ≡ link_at 0 (codes "http://a") ∷ []
unfolding sections
l196 = refl

e197 : printable_sections (codes ">* 2) - ~~&#35;2) ") ≡ behind (Bar ∷ Bullet ∷ Number 2 ∷ Bullet ∷ []) 4 (row Paragraph (plain (codes "~~#2)") ∷ []) ∷ []) ∷ []
unfolding sections
e197 = refl

e198 : printable_sections (codes "[ ] \\**\n===\n*&amp;") ≡ behind [] 0 (row (Header 1) (plain (codes "[ ] **") ∷ []) ∷ []) ∷ blank [] ∷ behind [] 0 (row Paragraph (plain (codes "*&") ∷ []) ∷ []) ∷ []
unfolding sections
e198 = refl

e199 : printable_sections (codes "[a]: /u\n  <div>===") ≡ behind [] 0 (row Paragraph (plain (codes "===") ∷ []) ∷ []) ∷ []
unfolding sections
e199 = refl

e200 : printable_sections (codes "\\*\"\n<div>```rs\n2) ") ≡ behind [] 0 (row Paragraph (plain (codes "*\"") ∷ []) ∷ []) ∷ behind [] 0 (row Paragraph (plain (codes "```rs 2)") ∷ []) ∷ []) ∷ []
unfolding sections
e200 = refl

pub sections8 : AreSections8
sections8 = record { e176 = e176; l176 = l176; e177 = e177; e178 = e178; e179 = e179; e180 = e180; e181 = e181; e182 = e182; e183 = e183; e184 = e184; e185 = e185; l185 = l185; e186 = e186; e187 = e187; e188 = e188; e189 = e189; e190 = e190; e191 = e191; e192 = e192; e193 = e193; e194 = e194; e195 = e195; e196 = e196; l196 = l196; e197 = e197; e198 = e198; e199 = e199; e200 = e200 }
