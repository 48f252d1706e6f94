-- Examples 26 to 50: their sections and links.
use Rattle.std.specs.Prelude.{◌≡◌, [], ◌∷◌, codes, true, false}
use Rattle.mad_sections.specs.declared.gutters.Gutter.TheVariants.{Bar, Bullet, Number}
use Rattle.mad_md.specs.declared.composite.CompositeStyle.TheVariants.{Paragraph, Header}
use Rattle.mad_md.specs.Lines.{horizontal_rule}
use Rattle.markdown_examples.specs.Rows.{plain, flagged, row, behind, blank}
use Rattle.markdown_reader.specs.Markdown.{printable_sections}

pub record AreSections2 : Type 0 where
  pub e26 : printable_sections (codes "2) 1. )") ≡ behind (Number 2 ∷ Number 1 ∷ []) 2 (row Paragraph (plain (codes ")") ∷ []) ∷ []) ∷ []
  pub e27 : printable_sections (codes "<!--*__") ≡ []
  pub e28 : printable_sections (codes "<!--```") ≡ []
  pub e29 : printable_sections (codes "</a><a>") ≡ []
  pub e30 : printable_sections (codes "<div>+ ") ≡ behind [] 0 (row Paragraph (plain (codes "+") ∷ []) ∷ []) ∷ []
  pub e31 : printable_sections (codes "## `<!--") ≡ behind [] 0 (row (Header 2) (plain (codes "`<!--") ∷ []) ∷ []) ∷ []
  pub e32 : printable_sections (codes "(<div>  ") ≡ behind [] 0 (row Paragraph (plain (codes "(") ∷ []) ∷ []) ∷ []
  pub e33 : printable_sections (codes "- # ~~~a") ≡ behind (Bullet ∷ []) 1 (row (Header 1) (plain (codes "~~~a") ∷ []) ∷ []) ∷ []
  pub e34 : printable_sections (codes "---*<a>*") ≡ behind [] 0 (row Paragraph (plain (codes "---") ∷ []) ∷ []) ∷ []
  pub e35 : printable_sections (50 ∷ 41 ∷ 32 ∷ 43 ∷ 32 ∷ 230 ∷ 166 ∷ 130 ∷ 96 ∷ 195 ∷ 169 ∷ []) ≡ behind (Number 2 ∷ Bullet ∷ []) 2 (row Paragraph (plain (230 ∷ 166 ∷ 130 ∷ 96 ∷ 195 ∷ 169 ∷ []) ∷ []) ∷ []) ∷ []
  pub e36 : printable_sections (codes "<!--\n!- ") ≡ []
  pub e37 : printable_sections (codes "<div>![a") ≡ behind [] 0 (row Paragraph (plain (codes "![a") ∷ []) ∷ []) ∷ []
  pub e38 : printable_sections (codes "<div>'((") ≡ behind [] 0 (row Paragraph (plain (codes "'((") ∷ []) ∷ []) ∷ []
  pub e39 : printable_sections (codes "<div>2) ") ≡ behind [] 0 (row Paragraph (plain (codes "2)") ∷ []) ∷ []) ∷ []
  pub e40 : printable_sections (codes "<div>\\)'") ≡ behind [] 0 (row Paragraph (plain (codes "\\)'") ∷ []) ∷ []) ∷ []
  pub e41 : printable_sections (codes "<div>].]") ≡ behind [] 0 (row Paragraph (plain (codes "].]") ∷ []) ∷ []) ∷ []
  pub e42 : printable_sections (codes "> 2) -->") ≡ behind (Bar ∷ Number 2 ∷ []) 2 (row Paragraph (plain (codes "-->") ∷ []) ∷ []) ∷ []
  pub e43 : printable_sections (codes ">|<a>===") ≡ behind (Bar ∷ []) 1 (row Paragraph (plain (codes "|===") ∷ []) ∷ []) ∷ []
  pub e44 : printable_sections (codes "_</a>\n\n:") ≡ behind [] 0 (row Paragraph (plain (codes "_") ∷ []) ∷ []) ∷ blank [] ∷ behind [] 0 (row Paragraph (plain (codes ":") ∷ []) ∷ []) ∷ []
  pub e45 : printable_sections (96 ∷ 92 ∷ 42 ∷ 96 ∷ 226 ∷ 128 ∷ 156 ∷ 10 ∷ 10 ∷ 97 ∷ []) ≡ behind [] 0 (row Paragraph (flagged false false true false false (codes "\\*") ∷ plain (226 ∷ 128 ∷ 156 ∷ []) ∷ []) ∷ []) ∷ blank [] ∷ behind [] 0 (row Paragraph (plain (codes "a") ∷ []) ∷ []) ∷ []
  pub e46 : printable_sections (codes "\n---\n2) ~") ≡ behind [] 0 (horizontal_rule ∷ []) ∷ blank [] ∷ behind (Number 2 ∷ []) 1 (row Paragraph (plain (codes "~") ∷ []) ∷ []) ∷ []
  pub e47 : printable_sections (codes "# <a>*.- ") ≡ behind [] 0 (row (Header 1) (plain (codes "*.-") ∷ []) ∷ []) ∷ []
  pub e48 : printable_sections (codes "- \\*<div>") ≡ behind (Bullet ∷ []) 1 (row Paragraph (plain (codes "*") ∷ []) ∷ []) ∷ []
  pub e49 : printable_sections (codes "1. ```rs\n") ≡ behind (Number 1 ∷ []) 1 (row Paragraph ([]) ∷ []) ∷ []
  pub e50 : printable_sections (codes "2) 'b ---") ≡ behind (Number 2 ∷ []) 1 (row Paragraph (plain (codes "'b ---") ∷ []) ∷ []) ∷ []
