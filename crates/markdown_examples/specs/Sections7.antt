-- Examples 151 to 175: their sections and links.
use Rattle.std.specs.Prelude.{◌≡◌, [], ◌∷◌, codes, true, false}
use Rattle.mad_sections.specs.declared.gutters.Gutter.TheVariants.{Bar, Bullet, Number, Code}
use Rattle.mad_md.specs.declared.composite.CompositeStyle.TheVariants.{Paragraph, Header}
use Rattle.mad_md.specs.Lines.{horizontal_rule}
use Rattle.markdown_examples.specs.Rows.{plain, flagged, row, code_row, behind, blank}
use Rattle.markdown_reader.specs.Mapping.{link_at}
use Rattle.markdown_reader.specs.Markdown.{printable_sections, unmarked_links}

pub record AreSections7 : Type 0 where
  pub e151 : printable_sections (codes "\n===\n1. ***![|# ") ≡ behind [] 0 (row Paragraph (plain (codes "===") ∷ []) ∷ []) ∷ behind (Number 1 ∷ []) 1 (row Paragraph (plain (codes "***![|#") ∷ []) ∷ []) ∷ []
  pub e152 : printable_sections (codes "\n|-|-|\n\n===\n\n](\n") ≡ behind [] 0 (row Paragraph (plain (codes "|-|-|") ∷ []) ∷ []) ∷ blank [] ∷ behind [] 0 (row Paragraph (plain (codes "===") ∷ []) ∷ []) ∷ blank [] ∷ behind [] 0 (row Paragraph (plain (codes "](") ∷ []) ∷ []) ∷ []
  pub e153 : printable_sections (codes "'\n\n===\n\\\n===\n<a>") ≡ behind [] 0 (row Paragraph (plain (codes "'") ∷ []) ∷ []) ∷ blank [] ∷ behind [] 0 (row (Header 1) (plain (codes "=== \\") ∷ []) ∷ []) ∷ []
  pub e154 : printable_sections (codes "+ |-|<a>*[ ] 2) ") ≡ behind (Bullet ∷ []) 1 (row Paragraph (plain (codes "|-|*[ ] 2)") ∷ []) ∷ []) ∷ []
  pub e155 : printable_sections (codes "--><!---->```rs\n") ≡ behind [] 0 (row Paragraph (plain (codes "-->```rs") ∷ []) ∷ []) ∷ []
  pub e156 : printable_sections (codes "2) *![\n\n- <!--<b") ≡ behind (Number 2 ∷ []) 1 (row Paragraph (plain (codes "*![") ∷ []) ∷ []) ∷ blank [] ∷ behind (Bullet ∷ []) 1 (row Paragraph ([]) ∷ []) ∷ []
  pub e157 : printable_sections (codes "<!--![```rs\n---(") ≡ []
  pub e158 : printable_sections (codes "<!--*foo~!<!--**") ≡ []
  pub e159 : printable_sections (codes "<!--- \n===\n<div>") ≡ []
  pub e160 : printable_sections (codes "<a></a><b</a>(- ") ≡ behind [] 0 (row Paragraph (plain (codes "<b(-") ∷ []) ∷ []) ∷ []
  pub e161 : printable_sections (codes "<div>\n\nhttp://x<") ≡ behind [] 0 (row Paragraph (flagged false false false false true (codes "http://x") ∷ plain (codes "<") ∷ []) ∷ []) ∷ []
  pub l161 : unmarked_links (codes "<div>\n\nhttp://x<") ≡ link_at 0 (codes "http://x") ∷ []
  pub e162 : printable_sections (codes "<div>](/u)(\t  |~") ≡ behind [] 0 (row Paragraph (plain (codes "](/u)( |~") ∷ []) ∷ []) ∷ []
  pub e163 : printable_sections (codes "> ## a\n===\n![> Ã©") ≡ behind (Bar ∷ []) 1 (row (Header 2) (plain (codes "a") ∷ []) ∷ []) ∷ blank [] ∷ behind [] 0 (row Paragraph (plain (codes "=== ![> Ã©") ∷ []) ∷ []) ∷ []
  pub e164 : printable_sections (codes "[ ] \n---\n><a>- |") ≡ behind [] 0 (row (Header 2) (plain (codes "[ ]") ∷ []) ∷ []) ∷ blank [] ∷ behind (Bar ∷ []) 1 (row Paragraph (plain (codes "- |") ∷ []) ∷ []) ∷ []
  pub e165 : printable_sections (codes "[ ] ~~\n===\n*</a>") ≡ behind [] 0 (row (Header 1) (plain (codes "[ ] ~~") ∷ []) ∷ []) ∷ blank [] ∷ behind [] 0 (row Paragraph (plain (codes "*") ∷ []) ∷ []) ∷ []
  pub e166 : printable_sections (codes "[a]: /u\n \n===\n> ") ≡ behind [] 0 (row Paragraph (plain (codes "===") ∷ []) ∷ []) ∷ []
  pub e167 : printable_sections (codes "[a]<div>> \n\n\n~~~") ≡ behind [] 0 (row Paragraph (plain (codes "[a]>") ∷ []) ∷ []) ∷ []
  pub e168 : printable_sections (codes "]__<http://a>__[") ≡ behind [] 0 (row Paragraph (plain (codes "]") ∷ flagged true false false false true (codes "http://a") ∷ plain (codes "[") ∷ []) ∷ []) ∷ []
  pub l168 : unmarked_links (codes "]__<http://a>__[") ≡ link_at 0 (codes "http://a") ∷ []
  pub e169 : printable_sections (codes "_<b\n~~~&#35;<b](") ≡ behind [] 0 (row Paragraph (plain (codes "_<b") ∷ []) ∷ []) ∷ []
  pub e170 : printable_sections (codes "__&amp;]\"__<!--\t") ≡ behind [] 0 (row Paragraph (flagged true false false false false (codes "&]\"") ∷ plain (codes "<!--") ∷ []) ∷ []) ∷ []
  pub e171 : printable_sections (codes "_Ã©    ---\n---\n![") ≡ behind [] 0 (row (Header 2) (plain (codes "_Ã©    ---") ∷ []) ∷ []) ∷ blank [] ∷ behind [] 0 (row Paragraph (plain (codes "![") ∷ []) ∷ []) ∷ []
  pub e172 : printable_sections (codes "\t_\n---\n~b # ](/u)") ≡ behind (Code ∷ []) 1 (code_row (plain (codes "_") ∷ []) ∷ []) ∷ blank [] ∷ behind [] 0 (horizontal_rule ∷ []) ∷ blank [] ∷ behind [] 0 (row Paragraph (plain (codes "~b # ](/u)") ∷ []) ∷ []) ∷ []
  pub e173 : printable_sections (codes "![\n\n**Ã©2) \n---\n> ") ≡ behind [] 0 (row Paragraph (plain (codes "![") ∷ []) ∷ []) ∷ blank [] ∷ behind [] 0 (row (Header 2) (plain (codes "**Ã©2)") ∷ []) ∷ []) ∷ []
  pub e174 : printable_sections (codes "'](\n\n_:\n|-|-|\n~~~") ≡ behind [] 0 (row Paragraph (plain (codes "'](") ∷ []) ∷ []) ∷ blank [] ∷ behind [] 0 (row Paragraph (plain (codes "_: |-|-|") ∷ []) ∷ []) ∷ []
  pub e175 : printable_sections (40 ∷ 45 ∷ 45 ∷ 45 ∷ 10 ∷ 10 ∷ 230 ∷ 166 ∷ 130 ∷ 96 ∷ 96 ∷ 96 ∷ 114 ∷ 115 ∷ 10 ∷ 60 ∷ 33 ∷ 45 ∷ 45 ∷ []) ≡ behind [] 0 (row Paragraph (plain (codes "(---") ∷ []) ∷ []) ∷ blank [] ∷ behind [] 0 (row Paragraph (plain (230 ∷ 166 ∷ 130 ∷ 96 ∷ 96 ∷ 96 ∷ 114 ∷ 115 ∷ []) ∷ []) ∷ []) ∷ []
