-- Examples 1 to 25: their sections and links.
use Rattle.std.specs.Prelude.{◌≡◌, [], ◌∷◌, codes, true, false}
use Rattle.mad_sections.specs.declared.gutters.Gutter.TheVariants.{Bar, Bullet, Number, Code}
use Rattle.mad_md.specs.declared.composite.CompositeStyle.TheVariants.{Paragraph, Header}
use Rattle.mad_md.specs.Lines.{horizontal_rule}
use Rattle.markdown_examples.specs.Rows.{plain, flagged, row, code_row, behind, blank}
use Rattle.markdown_reader.specs.Markdown.{printable_sections}

pub record AreSections1 : Type 0 where
  pub e1 : printable_sections (codes ">") ≡ []
  pub e2 : printable_sections (codes "\t*") ≡ behind (Code ∷ []) 1 (code_row (plain (codes "*") ∷ []) ∷ []) ∷ []
  pub e3 : printable_sections (codes "# ") ≡ []
  pub e4 : printable_sections (codes "**") ≡ behind [] 0 (row Paragraph (plain (codes "**") ∷ []) ∷ []) ∷ []
  pub e5 : printable_sections (codes "- >") ≡ behind (Bullet ∷ []) 1 (row Paragraph ([]) ∷ []) ∷ []
  pub e6 : printable_sections (codes "1. ") ≡ behind (Number 1 ∷ []) 1 (row Paragraph ([]) ∷ []) ∷ []
  pub e7 : printable_sections (codes "- + ") ≡ behind (Bullet ∷ Bullet ∷ []) 2 (row Paragraph ([]) ∷ []) ∷ []
  pub e8 : printable_sections (codes "* [:a") ≡ behind (Bullet ∷ []) 1 (row Paragraph (plain (codes "[:a") ∷ []) ∷ []) ∷ []
  pub e9 : printable_sections (codes "- \n\n'") ≡ behind (Bullet ∷ []) 1 (row Paragraph ([]) ∷ []) ∷ blank [] ∷ behind [] 0 (row Paragraph (plain (codes "'") ∷ []) ∷ []) ∷ []
  pub e10 : printable_sections (codes "- ~~~") ≡ behind (Bullet ∷ []) 1 (row Paragraph ([]) ∷ []) ∷ []
  pub e11 : printable_sections (codes "2) > ") ≡ behind (Number 2 ∷ []) 1 (row Paragraph ([]) ∷ []) ∷ []
  pub e12 : printable_sections (codes "<b>``") ≡ behind [] 0 (row Paragraph (flagged true false false false false (codes "``") ∷ []) ∷ []) ∷ []
  pub e13 : printable_sections (codes "> ---") ≡ behind (Bar ∷ []) 1 (horizontal_rule ∷ []) ∷ []
  pub e14 : printable_sections (codes "> ```") ≡ []
  pub e15 : printable_sections (codes ">1. \n") ≡ behind (Bar ∷ Number 1 ∷ []) 2 (row Paragraph ([]) ∷ []) ∷ []
  pub e16 : printable_sections (codes "(*|-|*") ≡ behind [] 0 (row Paragraph (plain (codes "(") ∷ flagged false true false false false (codes "|-|") ∷ []) ∷ []) ∷ []
  pub e17 : printable_sections (codes "*\n---\n") ≡ behind (Bullet ∷ []) 1 (row Paragraph ([]) ∷ []) ∷ blank [] ∷ behind [] 0 (horizontal_rule ∷ []) ∷ []
  pub e18 : printable_sections (codes "+ > # ") ≡ behind (Bullet ∷ []) 1 (row Paragraph ([]) ∷ []) ∷ []
  pub e19 : printable_sections (codes "1. + '") ≡ behind (Number 1 ∷ Bullet ∷ []) 2 (row Paragraph (plain (codes "'") ∷ []) ∷ []) ∷ []
  pub e20 : printable_sections (codes "2) 2) ") ≡ behind (Number 2 ∷ Number 2 ∷ []) 2 (row Paragraph ([]) ∷ []) ∷ []
  pub e21 : printable_sections (codes "\n\n- 1. ") ≡ behind (Bullet ∷ Number 1 ∷ []) 2 (row Paragraph ([]) ∷ []) ∷ []
  pub e22 : printable_sections (codes "# </a><") ≡ behind [] 0 (row (Header 1) (plain (codes "<") ∷ []) ∷ []) ∷ []
  pub e23 : printable_sections (codes "(\n\n!<a>") ≡ behind [] 0 (row Paragraph (plain (codes "(") ∷ []) ∷ []) ∷ blank [] ∷ behind [] 0 (row Paragraph (plain (codes "!") ∷ []) ∷ []) ∷ []
  pub e24 : printable_sections (codes "* > -->") ≡ behind (Bullet ∷ Bar ∷ []) 2 (row Paragraph (plain (codes "-->") ∷ []) ∷ []) ∷ []
  pub e25 : printable_sections (codes "1. ## ]") ≡ behind (Number 1 ∷ []) 1 (row (Header 2) (plain (codes "]") ∷ []) ∷ []) ∷ []
