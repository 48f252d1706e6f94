-- Examples 176 to 200: their sections and links.
use Rattle.std.specs.Prelude.{◌≡◌, [], ◌∷◌, codes, true, false}
use Rattle.mad_sections.specs.declared.gutters.Gutter.TheVariants.{Bar, Bullet, Number, Code}
use Rattle.mad_md.specs.declared.composite.CompositeStyle.TheVariants.{Paragraph, Header}
use Rattle.mad_md.specs.Lines.{horizontal_rule}
use Rattle.markdown_examples.specs.Rows.{plain, flagged, pictured, row, code_row, behind, blank}
use Rattle.markdown_reader.specs.Mapping.{link_at}
use Rattle.markdown_reader.specs.Markdown.{printable_sections, unmarked_links}

pub record AreSections8 : Type 0 where
  pub e176 : printable_sections (codes "* <http://a>## <b") ≡ behind (Bullet ∷ []) 1 (row Paragraph (flagged false false false false true (codes "http://a") ∷ plain (codes "## <b") ∷ []) ∷ []) ∷ []
  pub l176 : unmarked_links (codes "* <http://a>## <b") ≡ link_at 0 (codes "http://a") ∷ []
  pub e177 : printable_sections (codes "- ```+ [a]: /u\n](") ≡ behind (Bullet ∷ []) 1 (row Paragraph ([]) ∷ []) ∷ behind [] 0 (row Paragraph (plain (codes "](") ∷ []) ∷ []) ∷ []
  pub e178 : printable_sections (codes "---~~~\n===\n    ](") ≡ behind [] 0 (row (Header 1) (plain (codes "---~~~") ∷ []) ∷ []) ∷ blank [] ∷ behind (Code ∷ []) 1 (code_row (plain (codes "](") ∷ []) ∷ []) ∷ []
  pub e179 : printable_sections (codes "<!--(<b(http://x>") ≡ []
  pub e180 : printable_sections (codes "</a>Ã©</a>\n===\n```") ≡ behind [] 0 (row (Header 1) (plain (codes "Ã©") ∷ []) ∷ []) ∷ []
  pub e181 : printable_sections (codes "<a>\n|-|-|\n\n|-|-|\n") ≡ behind [] 0 (row Paragraph (plain (codes "|-|-|") ∷ []) ∷ []) ∷ blank [] ∷ behind [] 0 (row Paragraph (plain (codes "|-|-|") ∷ []) ∷ []) ∷ []
  pub e182 : printable_sections (codes ">1. ](&#35;<div>~") ≡ behind (Bar ∷ Number 1 ∷ []) 2 (row Paragraph (plain (codes "](#~") ∷ []) ∷ []) ∷ []
  pub e183 : printable_sections (codes ">```---](/u).]1. ") ≡ []
  pub e184 : printable_sections (codes "[\t<div><div>*:```") ≡ behind [] 0 (row Paragraph (plain (codes "[ *:```") ∷ []) ∷ []) ∷ []
  pub e185 : printable_sections (codes "__<b__<http://a>~") ≡ behind [] 0 (row Paragraph (flagged true false false false false (codes "<b") ∷ flagged false false false false true (codes "http://a") ∷ plain (codes "~") ∷ []) ∷ []) ∷ []
  pub l185 : unmarked_links (codes "__<b__<http://a>~") ≡ link_at 0 (codes "http://a") ∷ []
  pub e186 : printable_sections (102 ∷ 111 ∷ 111 ∷ 226 ∷ 128 ∷ 156 ∷ 50 ∷ 41 ∷ 32 ∷ 49 ∷ 46 ∷ 32 ∷ 10 ∷ 45 ∷ 45 ∷ 45 ∷ 10 ∷ 43 ∷ 32 ∷ []) ≡ behind [] 0 (row (Header 2) (plain (102 ∷ 111 ∷ 111 ∷ 226 ∷ 128 ∷ 156 ∷ 50 ∷ 41 ∷ 32 ∷ 49 ∷ 46 ∷ []) ∷ []) ∷ []) ∷ blank [] ∷ behind (Bullet ∷ []) 1 (row Paragraph ([]) ∷ []) ∷ []
  pub e187 : printable_sections (10 ∷ 61 ∷ 61 ∷ 61 ∷ 10 ∷ 10 ∷ 45 ∷ 45 ∷ 45 ∷ 10 ∷ 60 ∷ 100 ∷ 105 ∷ 118 ∷ 62 ∷ 230 ∷ 166 ∷ 130 ∷ 46 ∷ 230 ∷ 166 ∷ 130 ∷ []) ≡ behind [] 0 (row Paragraph (plain (codes "===") ∷ []) ∷ []) ∷ blank [] ∷ behind [] 0 (horizontal_rule ∷ []) ∷ blank [] ∷ behind [] 0 (row Paragraph (plain (230 ∷ 166 ∷ 130 ∷ 46 ∷ 230 ∷ 166 ∷ 130 ∷ []) ∷ []) ∷ []) ∷ []
  pub e188 : printable_sections (codes "\n===\n## \\*!\n```rs\n") ≡ behind [] 0 (row Paragraph (plain (codes "===") ∷ []) ∷ []) ∷ blank [] ∷ behind [] 0 (row (Header 2) (plain (codes "*!") ∷ []) ∷ []) ∷ []
  pub e189 : printable_sections (codes "![](/u)<b\n---\n\\*# ") ≡ behind [] 0 (row (Header 2) (pictured (codes "u") ∷ plain (codes "<b") ∷ []) ∷ []) ∷ blank [] ∷ behind [] 0 (row Paragraph (plain (codes "*#") ∷ []) ∷ []) ∷ []
  pub e190 : printable_sections (codes "## \n---\n`&#35;[ ] ") ≡ behind [] 0 (horizontal_rule ∷ []) ∷ blank [] ∷ behind [] 0 (row Paragraph (plain (codes "`#[ ]") ∷ []) ∷ []) ∷ []
  pub e191 : printable_sections (codes "'</a>![```rs\n\n\n\n\n*") ≡ behind [] 0 (row Paragraph (plain (codes "'![```rs") ∷ []) ∷ []) ∷ blank [] ∷ behind (Bullet ∷ []) 1 (row Paragraph ([]) ∷ []) ∷ []
  pub e192 : printable_sections (codes "+ \t![<div>foo</a>)") ≡ behind (Bullet ∷ []) 1 (row Paragraph (plain (codes "![foo)") ∷ []) ∷ []) ∷ []
  pub e193 : printable_sections (codes "- 1. > **\n---\n--><") ≡ behind (Bullet ∷ Number 1 ∷ Bar ∷ []) 3 (row Paragraph (plain (codes "**") ∷ []) ∷ []) ∷ blank [] ∷ behind [] 0 (horizontal_rule ∷ []) ∷ blank [] ∷ behind [] 0 (row Paragraph (plain (codes "--><") ∷ []) ∷ []) ∷ []
  pub e194 : printable_sections (codes "<!--<div>|-|&#35;'") ≡ []
  pub e195 : printable_sections (60 ∷ 100 ∷ 105 ∷ 118 ∷ 62 ∷ 230 ∷ 166 ∷ 130 ∷ 34 ∷ 126 ∷ 126 ∷ 126 ∷ 93 ∷ 40 ∷ 47 ∷ 117 ∷ 41 ∷ 92 ∷ 42 ∷ 126 ∷ []) ≡ behind [] 0 (row Paragraph (plain (230 ∷ 166 ∷ 130 ∷ 34 ∷ 126 ∷ 126 ∷ 126 ∷ 93 ∷ 40 ∷ 47 ∷ 117 ∷ 41 ∷ 92 ∷ 42 ∷ 126 ∷ []) ∷ []) ∷ []) ∷ []
  pub e196 : printable_sections (codes "<http://a><a>](|-|") ≡ behind [] 0 (row Paragraph (flagged false false false false true (codes "http://a") ∷ plain (codes "](|-|") ∷ []) ∷ []) ∷ []
  pub l196 : unmarked_links (codes "<http://a><a>](|-|") ≡ link_at 0 (codes "http://a") ∷ []
  pub e197 : printable_sections (codes ">* 2) - ~~&#35;2) ") ≡ behind (Bar ∷ Bullet ∷ Number 2 ∷ Bullet ∷ []) 4 (row Paragraph (plain (codes "~~#2)") ∷ []) ∷ []) ∷ []
  pub e198 : printable_sections (codes "[ ] \\**\n===\n*&amp;") ≡ behind [] 0 (row (Header 1) (plain (codes "[ ] **") ∷ []) ∷ []) ∷ blank [] ∷ behind [] 0 (row Paragraph (plain (codes "*&") ∷ []) ∷ []) ∷ []
  pub e199 : printable_sections (codes "[a]: /u\n  <div>===") ≡ behind [] 0 (row Paragraph (plain (codes "===") ∷ []) ∷ []) ∷ []
  pub e200 : printable_sections (codes "\\*\"\n<div>```rs\n2) ") ≡ behind [] 0 (row Paragraph (plain (codes "*\"") ∷ []) ∷ []) ∷ behind [] 0 (row Paragraph (plain (codes "```rs 2)") ∷ []) ∷ []) ∷ []
