-- Examples 51 to 75: their sections and links.
use Rattle.std.specs.Prelude.{◌≡◌, [], ◌∷◌, codes, true, false}
use Rattle.mad_sections.specs.declared.gutters.Gutter.TheVariants.{Bar, Bullet, Number, Code}
use Rattle.mad_md.specs.declared.composite.CompositeStyle.TheVariants.{Paragraph, Header}
use Rattle.mad_md.specs.Lines.{horizontal_rule}
use Rattle.markdown_examples.specs.Rows.{plain, flagged, row, code_row, behind, blank}
use Rattle.markdown_reader.specs.Markdown.{printable_sections}

pub record AreSections3 : Type 0 where
  pub e51 : printable_sections (codes "<!--===''") ≡ []
  pub e52 : printable_sections (codes "</a>)\n\n# ") ≡ behind [] 0 (row Paragraph (plain (codes ")") ∷ []) ∷ []) ∷ []
  pub e53 : printable_sections (codes "<div>~~~\n") ≡ behind [] 0 (row Paragraph (plain (codes "~~~") ∷ []) ∷ []) ∷ []
  pub e54 : printable_sections (codes "\n---\n+ ---") ≡ behind [] 0 (horizontal_rule ∷ []) ∷ blank [] ∷ behind (Bullet ∷ []) 1 (horizontal_rule ∷ []) ∷ []
  pub e55 : printable_sections (codes "\n---\n> )<\\") ≡ behind [] 0 (horizontal_rule ∷ []) ∷ blank [] ∷ behind (Bar ∷ []) 1 (row Paragraph (plain (codes ")<\\") ∷ []) ∷ []) ∷ []
  pub e56 : printable_sections (35 ∷ 32 ∷ 49 ∷ 46 ∷ 32 ∷ 226 ∷ 128 ∷ 156 ∷ 42 ∷ 124 ∷ 42 ∷ 40 ∷ []) ≡ behind [] 0 (row (Header 1) (plain (49 ∷ 46 ∷ 32 ∷ 226 ∷ 128 ∷ 156 ∷ []) ∷ flagged false true false false false (codes "|") ∷ plain (codes "(") ∷ []) ∷ []) ∷ []
  pub e57 : printable_sections (codes "'<a>~*<b'*") ≡ behind [] 0 (row Paragraph (plain (codes "'~") ∷ flagged false true false false false (codes "<b'") ∷ []) ∷ []) ∷ []
  pub e58 : printable_sections (codes "*\n---\n:===") ≡ behind (Bullet ∷ []) 1 (row Paragraph ([]) ∷ []) ∷ blank [] ∷ behind [] 0 (horizontal_rule ∷ []) ∷ blank [] ∷ behind [] 0 (row Paragraph (plain (codes ":===") ∷ []) ∷ []) ∷ []
  pub e59 : printable_sections (codes "- ~~~2) ~~") ≡ behind (Bullet ∷ []) 1 (row Paragraph ([]) ∷ []) ∷ []
  pub e60 : printable_sections (codes "1. Ã©:\n\n\"\"Ã©") ≡ behind (Number 1 ∷ []) 1 (row Paragraph (plain (codes "Ã©:") ∷ []) ∷ []) ∷ blank [] ∷ behind [] 0 (row Paragraph (plain (codes "\"\"Ã©") ∷ []) ∷ []) ∷ []
  pub e61 : printable_sections (codes "2) ~~~>---") ≡ behind (Number 2 ∷ []) 1 (row Paragraph ([]) ∷ []) ∷ []
  pub e62 : printable_sections (codes ":__<a>__* ") ≡ behind [] 0 (row Paragraph (plain (codes ":*") ∷ []) ∷ []) ∷ []
  pub e63 : printable_sections (codes "<!--+ 2) .") ≡ []
  pub e64 : printable_sections (codes "<a>* \n```*") ≡ behind [] 0 (row Paragraph (plain (codes "*") ∷ []) ∷ []) ∷ []
  pub e65 : printable_sections (codes "<a>- [ ] )") ≡ behind [] 0 (row Paragraph (plain (codes "- [ ] )") ∷ []) ∷ []) ∷ []
  pub e66 : printable_sections (codes "<div>2) Ã©[") ≡ behind [] 0 (row Paragraph (plain (codes "2) Ã©[") ∷ []) ∷ []) ∷ []
  pub e67 : printable_sections (codes "<div>``]__") ≡ behind [] 0 (row Paragraph (plain (codes "``]__") ∷ []) ∷ []) ∷ []
  pub e68 : printable_sections (codes "> - \n](/u)") ≡ behind (Bar ∷ Bullet ∷ []) 2 (row Paragraph ([]) ∷ []) ∷ behind [] 0 (row Paragraph (plain (codes "](/u)") ∷ []) ∷ []) ∷ []
  pub e69 : printable_sections (codes ">&#35;</a>") ≡ behind (Bar ∷ []) 1 (row Paragraph (plain (codes "#") ∷ []) ∷ []) ∷ []
  pub e70 : printable_sections (codes "\\\n</a>````") ≡ behind [] 0 (row Paragraph (plain (codes "````") ∷ []) ∷ []) ∷ []
  pub e71 : printable_sections (codes "\n\n\n---\n+ :[") ≡ behind [] 0 (horizontal_rule ∷ []) ∷ blank [] ∷ behind (Bullet ∷ []) 1 (row Paragraph (plain (codes ":[") ∷ []) ∷ []) ∷ []
  pub e72 : printable_sections (codes "\n---\n~~~\\\\*") ≡ behind [] 0 (horizontal_rule ∷ []) ∷ []
  pub e73 : printable_sections (codes "    # \n[ ] ") ≡ behind (Code ∷ []) 1 (code_row (plain (codes "# ") ∷ []) ∷ []) ∷ blank [] ∷ behind [] 0 (row Paragraph (plain (codes "[ ]") ∷ []) ∷ []) ∷ []
  pub e74 : printable_sections (codes "  ]\n===\n---") ≡ behind [] 0 (row (Header 1) (plain (codes "]") ∷ []) ∷ []) ∷ blank [] ∷ behind [] 0 (horizontal_rule ∷ []) ∷ []
  pub e75 : printable_sections (codes "*<_\n---\n~~~") ≡ behind [] 0 (row (Header 2) (plain (codes "*<_") ∷ []) ∷ []) ∷ []
