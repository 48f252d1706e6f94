-- Examples 76 to 100: their sections and links.
use Rattle.std.specs.Prelude.{◌≡◌, [], ◌∷◌, codes, true, false}
use Rattle.mad_sections.specs.declared.gutters.Gutter.TheVariants.{Bar, Bullet, Number}
use Rattle.mad_md.specs.declared.composite.CompositeStyle.TheVariants.{Paragraph, Header}
use Rattle.mad_md.specs.Lines.{horizontal_rule}
use Rattle.markdown_examples.specs.Rows.{plain, flagged, row, behind, blank}
use Rattle.markdown_reader.specs.Markdown.{printable_sections}

pub record AreSections4 : Type 0 where
  pub e76 : printable_sections (codes "- -   \n===\n") ≡ behind (Bullet ∷ Bullet ∷ []) 2 (row Paragraph ([]) ∷ []) ∷ behind [] 0 (row Paragraph (plain (codes "===") ∷ []) ∷ []) ∷ []
  pub e77 : printable_sections (codes "<!--\t\\+ [a]") ≡ []
  pub e78 : printable_sections (codes "<!--    [* ") ≡ []
  pub e79 : printable_sections (codes "<!--<!--\t\\*") ≡ []
  pub e80 : printable_sections (codes "<!--|*.[ ] ") ≡ []
  pub e81 : printable_sections (codes "<!--|-|[ ] ") ≡ []
  pub e82 : printable_sections (codes "</a>\n|-|-|\n") ≡ behind [] 0 (row Paragraph (plain (codes "|-|-|") ∷ []) ∷ []) ∷ []
  pub e83 : printable_sections (codes "<div>*\n---\n") ≡ behind [] 0 (row Paragraph (plain (codes "* ---") ∷ []) ∷ []) ∷ []
  pub e84 : printable_sections (codes "<div>b b - ") ≡ behind [] 0 (row Paragraph (plain (codes "b b -") ∷ []) ∷ []) ∷ []
  pub e85 : printable_sections (codes "> )```'``]:") ≡ behind (Bar ∷ []) 1 (row Paragraph (plain (codes ")```'``]:") ∷ []) ∷ []) ∷ []
  pub e86 : printable_sections (codes "><!--<b\\*> ") ≡ []
  pub e87 : printable_sections (codes ">~\n \n|-|-|\n") ≡ behind (Bar ∷ []) 1 (row Paragraph (plain (codes "~") ∷ []) ∷ []) ∷ blank [] ∷ behind [] 0 (row Paragraph (plain (codes "|-|-|") ∷ []) ∷ []) ∷ []
  pub e88 : printable_sections (codes "|-|<a>!\n\n[[") ≡ behind [] 0 (row Paragraph (plain (codes "|-|!") ∷ []) ∷ []) ∷ blank [] ∷ behind [] 0 (row Paragraph (plain (codes "[[") ∷ []) ∷ []) ∷ []
  pub e89 : printable_sections (codes "\n|-|-|\n## Ã©'") ≡ behind [] 0 (row Paragraph (plain (codes "|-|-|") ∷ []) ∷ []) ∷ blank [] ∷ behind [] 0 (row (Header 2) (plain (codes "Ã©'") ∷ []) ∷ []) ∷ []
  pub e90 : printable_sections (codes "\n|-|-|\n<div>") ≡ behind [] 0 (row Paragraph (plain (codes "|-|-|") ∷ []) ∷ []) ∷ []
  pub e91 : printable_sections (codes "*  ```rs\n___") ≡ behind (Bullet ∷ []) 1 (row Paragraph ([]) ∷ []) ∷ blank [] ∷ behind [] 0 (horizontal_rule ∷ []) ∷ []
  pub e92 : printable_sections (codes "+ >   \t\n===\n") ≡ behind (Bullet ∷ []) 1 (row Paragraph ([]) ∷ []) ∷ behind [] 0 (row Paragraph (plain (codes "===") ∷ []) ∷ []) ∷ []
  pub e93 : printable_sections (codes "1. **\"<div>\n") ≡ behind (Number 1 ∷ []) 1 (row Paragraph (plain (codes "**\"") ∷ []) ∷ []) ∷ []
  pub e94 : printable_sections (codes "2) ```rs\n## ") ≡ behind (Number 2 ∷ []) 1 (row Paragraph ([]) ∷ []) ∷ []
  pub e95 : printable_sections (codes "<!--http://x") ≡ []
  pub e96 : printable_sections (codes "</a>-->>_Ã©_~") ≡ behind [] 0 (row Paragraph (plain (codes "-->>") ∷ flagged false true false false false (codes "Ã©") ∷ plain (codes "~") ∷ []) ∷ []) ∷ []
  pub e97 : printable_sections (codes "<a>\n===\n`b )") ≡ behind [] 0 (row Paragraph (plain (codes "=== `b )") ∷ []) ∷ []) ∷ []
  pub e98 : printable_sections (codes ">\n---\n\n===\n\n") ≡ behind [] 0 (horizontal_rule ∷ []) ∷ blank [] ∷ behind [] 0 (row Paragraph (plain (codes "===") ∷ []) ∷ []) ∷ []
  pub e99 : printable_sections (codes "> ```\n===\n``") ≡ behind [] 0 (row Paragraph (plain (codes "=== ``") ∷ []) ∷ []) ∷ []
  pub e100 : printable_sections (62 ∷ 126 ∷ 126 ∷ 126 ∷ 230 ∷ 166 ∷ 130 ∷ 34 ∷ 10 ∷ 45 ∷ 45 ∷ 45 ∷ 10 ∷ 124 ∷ []) ≡ behind [] 0 (horizontal_rule ∷ []) ∷ blank [] ∷ behind [] 0 (row Paragraph (plain (codes "|") ∷ []) ∷ []) ∷ []
