-- Examples 76 to 100, computed.
use Rattle.std.proofs.Common.{◌≡◌, [], ◌∷◌, codes, true, false, refl}
use Rattle.mad_sections.specs.declared.gutters.Gutter.TheVariants.{Bar, Bullet, Number}
use Rattle.mad_md.specs.declared.composite.CompositeStyle.TheVariants.{Paragraph, Header}
use Rattle.mad_md.specs.Lines.{horizontal_rule}
use Rattle.markdown_examples.specs.Rows.{plain, flagged, row, behind, blank}
use Rattle.markdown_reader.specs.Markdown.{printable_sections}
use Rattle.markdown_examples.specs.Sections4.{AreSections4}
use Rattle.markdown_examples.proofs.Computing.{sections}

e76 : printable_sections (codes "- -   \n===\n") ≡ behind (Bullet ∷ Bullet ∷ []) 2 (row Paragraph ([]) ∷ []) ∷ behind [] 0 (row Paragraph (plain (codes "===") ∷ []) ∷ []) ∷ []
unfolding sections
e76 = refl

e77 : printable_sections (codes "<!--\t\\+ [a]") ≡ []
unfolding sections
e77 = refl

e78 : printable_sections (codes "<!--    [* ") ≡ []
unfolding sections
e78 = refl

e79 : printable_sections (codes "<!--<!--\t\\*") ≡ []
unfolding sections
e79 = refl

e80 : printable_sections (codes "<!--|*.[ ] ") ≡ []
unfolding sections
e80 = refl

e81 : printable_sections (codes "<!--|-|[ ] ") ≡ []
unfolding sections
e81 = refl

e82 : printable_sections (codes "</a>\n|-|-|\n") ≡ behind [] 0 (row Paragraph (plain (codes "|-|-|") ∷ []) ∷ []) ∷ []
unfolding sections
e82 = refl

e83 : printable_sections (codes "<div>*\n---\n") ≡ behind [] 0 (row Paragraph (plain (codes "* ---") ∷ []) ∷ []) ∷ []
unfolding sections
e83 = refl

e84 : printable_sections (codes "<div>b b - ") ≡ behind [] 0 (row Paragraph (plain (codes "b b -") ∷ []) ∷ []) ∷ []
unfolding sections
e84 = refl

e85 : printable_sections (codes "> )```'``]:") ≡ behind (Bar ∷ []) 1 (row Paragraph (plain (codes ")```'``]:") ∷ []) ∷ []) ∷ []
unfolding sections
e85 = refl

e86 : printable_sections (codes "><!--<b\\*> ") ≡ []
unfolding sections
e86 = refl

e87 : printable_sections (codes ">~\n \n|-|-|\n") ≡ behind (Bar ∷ []) 1 (row Paragraph (plain (codes "~") ∷ []) ∷ []) ∷ blank [] ∷ behind [] 0 (row Paragraph (plain (codes "|-|-|") ∷ []) ∷ []) ∷ []
unfolding sections
e87 = refl

e88 : printable_sections (codes "|-|<a>!\n\n[[") ≡ behind [] 0 (row Paragraph (plain (codes "|-|!") ∷ []) ∷ []) ∷ blank [] ∷ behind [] 0 (row Paragraph (plain (codes "[[") ∷ []) ∷ []) ∷ []
unfolding sections
e88 = refl

e89 : printable_sections (codes "\n|-|-|\n## Ã©'") ≡ behind [] 0 (row Paragraph (plain (codes "|-|-|") ∷ []) ∷ []) ∷ blank [] ∷ behind [] 0 (row (Header 2) (plain (codes "Ã©'") ∷ []) ∷ []) ∷ []
unfolding sections
e89 = refl

e90 : printable_sections (codes "\n|-|-|\n<div>") ≡ behind [] 0 (row Paragraph (plain (codes "|-|-|") ∷ []) ∷ []) ∷ []
unfolding sections
e90 = refl

e91 : printable_sections (codes "*  ```rs\n___") ≡ behind (Bullet ∷ []) 1 (row Paragraph ([]) ∷ []) ∷ blank [] ∷ behind [] 0 (horizontal_rule ∷ []) ∷ []
unfolding sections
e91 = refl

e92 : printable_sections (codes "+ >   \t\n===\n") ≡ behind (Bullet ∷ []) 1 (row Paragraph ([]) ∷ []) ∷ behind [] 0 (row Paragraph (plain (codes "===") ∷ []) ∷ []) ∷ []
unfolding sections
e92 = refl

e93 : printable_sections (codes "1. **\"<div>\n") ≡ behind (Number 1 ∷ []) 1 (row Paragraph (plain (codes "**\"") ∷ []) ∷ []) ∷ []
unfolding sections
e93 = refl

e94 : printable_sections (codes "2) ```rs\n## ") ≡ behind (Number 2 ∷ []) 1 (row Paragraph ([]) ∷ []) ∷ []
unfolding sections
e94 = refl

e95 : printable_sections (codes "<!--http://x") ≡ []
unfolding sections
e95 = refl

e96 : printable_sections (codes "</a>-->>_Ã©_~") ≡ behind [] 0 (row Paragraph (plain (codes "-->>") ∷ flagged false true false false false (codes "Ã©") ∷ plain (codes "~") ∷ []) ∷ []) ∷ []
unfolding sections
e96 = refl

e97 : printable_sections (codes "<a>\n===\n`b )") ≡ behind [] 0 (row Paragraph (plain (codes "=== `b )") ∷ []) ∷ []) ∷ []
unfolding sections
e97 = refl

e98 : printable_sections (codes ">\n---\n\n===\n\n") ≡ behind [] 0 (horizontal_rule ∷ []) ∷ blank [] ∷ behind [] 0 (row Paragraph (plain (codes "===") ∷ []) ∷ []) ∷ []
unfolding sections
e98 = refl

e99 : printable_sections (codes "> ```\n===\n``") ≡ behind [] 0 (row Paragraph (plain (codes "=== ``") ∷ []) ∷ []) ∷ []
unfolding sections
e99 = refl

e100 : printable_sections (62 ∷ 126 ∷ 126 ∷ 126 ∷ 230 ∷ 166 ∷ 130 ∷ 34 ∷ 10 ∷ 45 ∷ 45 ∷ 45 ∷ 10 ∷ 124 ∷ []) ≡ behind [] 0 (horizontal_rule ∷ []) ∷ blank [] ∷ behind [] 0 (row Paragraph (plain (codes "|") ∷ []) ∷ []) ∷ []
unfolding sections
e100 = refl

pub sections4 : AreSections4
sections4 = record { e76 = e76; e77 = e77; e78 = e78; e79 = e79; e80 = e80; e81 = e81; e82 = e82; e83 = e83; e84 = e84; e85 = e85; e86 = e86; e87 = e87; e88 = e88; e89 = e89; e90 = e90; e91 = e91; e92 = e92; e93 = e93; e94 = e94; e95 = e95; e96 = e96; e97 = e97; e98 = e98; e99 = e99; e100 = e100 }
