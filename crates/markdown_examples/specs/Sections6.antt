-- Examples 126 to 150: their sections and links.
use Rattle.std.specs.Prelude.{◌≡◌, [], ◌∷◌, codes, true, false}
use Rattle.mad_sections.specs.declared.gutters.Gutter.TheVariants.{Bar, Bullet, Number, Code}
use Rattle.mad_md.specs.declared.composite.CompositeStyle.TheVariants.{Paragraph, Header}
use Rattle.mad_md.specs.Lines.{horizontal_rule}
use Rattle.markdown_examples.specs.Rows.{plain, flagged, pictured, row, code_row, behind, blank}
use Rattle.markdown_reader.specs.Markdown.{printable_sections}

pub record AreSections6 : Type 0 where
  pub e126 : printable_sections (codes "<!--<http://a>") ≡ []
  pub e127 : printable_sections (codes "<!--__2) <div>") ≡ []
  pub e128 : printable_sections (codes "</a>](/u)</a>'") ≡ behind [] 0 (row Paragraph (plain (codes "](/u)'") ∷ []) ∷ []) ∷ []
  pub e129 : printable_sections (codes "</a>Ã©\\\n<!-->**") ≡ behind [] 0 (row Paragraph (plain (codes "Ã©\\") ∷ []) ∷ []) ∷ []
  pub e130 : printable_sections (codes "[) .\n---\n<div>") ≡ behind [] 0 (row (Header 2) (plain (codes "[) .") ∷ []) ∷ []) ∷ []
  pub e131 : printable_sections (codes "_<a>\"  __<div>") ≡ behind [] 0 (row Paragraph (plain (codes "_\"  __") ∷ []) ∷ []) ∷ []
  pub e132 : printable_sections (95 ∷ 95 ∷ 226 ∷ 128 ∷ 156 ∷ 10 ∷ 60 ∷ 100 ∷ 105 ∷ 118 ∷ 62 ∷ 45 ∷ 45 ∷ 62 ∷ 91 ∷ 126 ∷ []) ≡ behind [] 0 (row Paragraph (plain (95 ∷ 95 ∷ 226 ∷ 128 ∷ 156 ∷ []) ∷ []) ∷ []) ∷ behind [] 0 (row Paragraph (plain (codes "-->[~") ∷ []) ∷ []) ∷ []
  pub e133 : printable_sections (230 ∷ 166 ∷ 130 ∷ 62 ∷ 10 ∷ 124 ∷ 45 ∷ 124 ∷ 45 ∷ 124 ∷ 10 ∷ 10 ∷ 10 ∷ 50 ∷ 41 ∷ 32 ∷ []) ≡ behind [] 0 (row Paragraph (plain (230 ∷ 166 ∷ 130 ∷ 62 ∷ 32 ∷ 124 ∷ 45 ∷ 124 ∷ 45 ∷ 124 ∷ []) ∷ []) ∷ []) ∷ blank [] ∷ behind (Number 2 ∷ []) 1 (row Paragraph ([]) ∷ []) ∷ []
  pub e134 : printable_sections (codes "\t![Ã©[a]: /u\n<a>") ≡ behind (Code ∷ []) 1 (code_row (plain (codes "![Ã©[a]: /u") ∷ []) ∷ []) ∷ []
  pub e135 : printable_sections (codes "\n---\n- \\*\\*<a>|") ≡ behind [] 0 (horizontal_rule ∷ []) ∷ blank [] ∷ behind (Bullet ∷ []) 1 (row Paragraph (plain (codes "**|") ∷ []) ∷ []) ∷ []
  pub e136 : printable_sections (codes "\n---\nb ---<a>::") ≡ behind [] 0 (horizontal_rule ∷ []) ∷ blank [] ∷ behind [] 0 (row Paragraph (plain (codes "b ---::") ∷ []) ∷ []) ∷ []
  pub e137 : printable_sections (codes "!\n|-|-|\n> _:![_") ≡ behind [] 0 (row Paragraph (plain (codes "! |-|-|") ∷ []) ∷ []) ∷ behind (Bar ∷ []) 1 (row Paragraph (flagged false true false false false (codes ":![") ∷ []) ∷ []) ∷ []
  pub e138 : printable_sections (codes "* '## ===</a>!|") ≡ behind (Bullet ∷ []) 1 (row Paragraph (plain (codes "'## ===!|") ∷ []) ∷ []) ∷ []
  pub e139 : printable_sections (codes "* ](/u)\\\n    __") ≡ behind (Bullet ∷ []) 1 (row Paragraph (plain (codes "](/u)") ∷ []) ∷ row Paragraph (plain (codes "__") ∷ []) ∷ []) ∷ []
  pub e140 : printable_sections (codes "---\n.![](/u):\\*") ≡ behind [] 0 (horizontal_rule ∷ []) ∷ blank [] ∷ behind [] 0 (row Paragraph (plain (codes ".") ∷ pictured (codes "u") ∷ plain (codes ":*") ∷ []) ∷ []) ∷ []
  pub e141 : printable_sections (codes "1. \n'&#35;\n---\n") ≡ behind (Number 1 ∷ []) 1 (row Paragraph ([]) ∷ []) ∷ blank [] ∷ behind [] 0 (row (Header 2) (plain (codes "'#") ∷ []) ∷ []) ∷ []
  pub e142 : printable_sections (codes "1. <</a>* `</a>") ≡ behind (Number 1 ∷ []) 1 (row Paragraph (plain (codes "<* `") ∷ []) ∷ []) ∷ []
  pub e143 : printable_sections (codes "1. <b\n---\nfoo\\*") ≡ behind (Number 1 ∷ []) 1 (row Paragraph (plain (codes "<b") ∷ []) ∷ []) ∷ blank [] ∷ behind [] 0 (horizontal_rule ∷ []) ∷ blank [] ∷ behind [] 0 (row Paragraph (plain (codes "foo*") ∷ []) ∷ []) ∷ []
  pub e144 : printable_sections (codes "<!--<!--- ~~Ã©\\*") ≡ []
  pub e145 : printable_sections (codes "<!--<div>a<div>") ≡ []
  pub e146 : printable_sections (codes "</a>\n---\n:\"\\*``") ≡ behind [] 0 (row Paragraph (plain (codes "--- :\"\\*``") ∷ []) ∷ []) ∷ []
  pub e147 : printable_sections (codes "<a>## <a><a>~!!") ≡ behind [] 0 (row Paragraph (plain (codes "## ~!!") ∷ []) ∷ []) ∷ []
  pub e148 : printable_sections (codes "<b> foo|*``</a>") ≡ behind [] 0 (row Paragraph (flagged true false false false false (codes "foo|*``") ∷ []) ∷ []) ∷ []
  pub e149 : printable_sections (codes "<div>## _[ ] \n\n") ≡ behind [] 0 (row Paragraph (plain (codes "## _[ ]") ∷ []) ∷ []) ∷ []
  pub e150 : printable_sections (codes "> **~~~\n---\n**!") ≡ behind (Bar ∷ []) 1 (row Paragraph (plain (codes "**~~~") ∷ []) ∷ []) ∷ blank [] ∷ behind [] 0 (horizontal_rule ∷ []) ∷ blank [] ∷ behind [] 0 (row Paragraph (plain (codes "**!") ∷ []) ∷ []) ∷ []
