-- Examples 26 to 50, computed.
use Rattle.std.proofs.Common.{◌≡◌, [], ◌∷◌, codes, true, false, refl}
use Rattle.mad_sections.specs.declared.gutters.Gutter.TheVariants.{Bar, Bullet, Number}
use Rattle.mad_md.specs.declared.composite.CompositeStyle.TheVariants.{Paragraph, Header}
use Rattle.mad_md.specs.Lines.{horizontal_rule}
use Rattle.markdown_examples.specs.Rows.{plain, flagged, row, behind, blank}
use Rattle.markdown_reader.specs.Markdown.{printable_sections}
use Rattle.markdown_examples.specs.Sections2.{AreSections2}
use Rattle.markdown_examples.proofs.Computing.{sections}

e26 : printable_sections (codes "2) 1. )") ≡ behind (Number 2 ∷ Number 1 ∷ []) 2 (row Paragraph (plain (codes ")") ∷ []) ∷ []) ∷ []
unfolding sections
e26 = refl

e27 : printable_sections (codes "<!--*__") ≡ []
unfolding sections
e27 = refl

e28 : printable_sections (codes "<!--```") ≡ []
unfolding sections
e28 = refl

e29 : printable_sections (codes "</a><a>") ≡ []
unfolding sections
e29 = refl

e30 : printable_sections (codes "<div>+ ") ≡ behind [] 0 (row Paragraph (plain (codes "+") ∷ []) ∷ []) ∷ []
unfolding sections
e30 = refl

e31 : printable_sections (codes "## `<!--") ≡ behind [] 0 (row (Header 2) (plain (codes "`<!--") ∷ []) ∷ []) ∷ []
unfolding sections
e31 = refl

e32 : printable_sections (codes "(<div>  ") ≡ behind [] 0 (row Paragraph (plain (codes "(") ∷ []) ∷ []) ∷ []
unfolding sections
e32 = refl

e33 : printable_sections (codes "- # ~~~a") ≡ behind (Bullet ∷ []) 1 (row (Header 1) (plain (codes "~~~a") ∷ []) ∷ []) ∷ []
unfolding sections
e33 = refl

e34 : printable_sections (codes "---*<a>*") ≡ behind [] 0 (row Paragraph (plain (codes "---") ∷ []) ∷ []) ∷ []
unfolding sections
e34 = refl

e35 : printable_sections (50 ∷ 41 ∷ 32 ∷ 43 ∷ 32 ∷ 230 ∷ 166 ∷ 130 ∷ 96 ∷ 195 ∷ 169 ∷ []) ≡ behind (Number 2 ∷ Bullet ∷ []) 2 (row Paragraph (plain (230 ∷ 166 ∷ 130 ∷ 96 ∷ 195 ∷ 169 ∷ []) ∷ []) ∷ []) ∷ []
unfolding sections
e35 = refl

e36 : printable_sections (codes "<!--\n!- ") ≡ []
unfolding sections
e36 = refl

e37 : printable_sections (codes "<div>![a") ≡ behind [] 0 (row Paragraph (plain (codes "![a") ∷ []) ∷ []) ∷ []
unfolding sections
e37 = refl

e38 : printable_sections (codes "<div>'((") ≡ behind [] 0 (row Paragraph (plain (codes "'((") ∷ []) ∷ []) ∷ []
unfolding sections
e38 = refl

e39 : printable_sections (codes "<div>2) ") ≡ behind [] 0 (row Paragraph (plain (codes "2)") ∷ []) ∷ []) ∷ []
unfolding sections
e39 = refl

e40 : printable_sections (codes "<div>\\)'") ≡ behind [] 0 (row Paragraph (plain (codes "\\)'") ∷ []) ∷ []) ∷ []
unfolding sections
e40 = refl

e41 : printable_sections (codes "<div>].]") ≡ behind [] 0 (row Paragraph (plain (codes "].]") ∷ []) ∷ []) ∷ []
unfolding sections
e41 = refl

e42 : printable_sections (codes "> 2) -->") ≡ behind (Bar ∷ Number 2 ∷ []) 2 (row Paragraph (plain (codes "-->") ∷ []) ∷ []) ∷ []
unfolding sections
e42 = refl

e43 : printable_sections (codes ">|<a>===") ≡ behind (Bar ∷ []) 1 (row Paragraph (plain (codes "|===") ∷ []) ∷ []) ∷ []
unfolding sections
e43 = refl

e44 : printable_sections (codes "_</a>\n\n:") ≡ behind [] 0 (row Paragraph (plain (codes "_") ∷ []) ∷ []) ∷ blank [] ∷ behind [] 0 (row Paragraph (plain (codes ":") ∷ []) ∷ []) ∷ []
unfolding sections
e44 = refl

e45 : printable_sections (96 ∷ 92 ∷ 42 ∷ 96 ∷ 226 ∷ 128 ∷ 156 ∷ 10 ∷ 10 ∷ 97 ∷ []) ≡ behind [] 0 (row Paragraph (flagged false false true false false (codes "\\*") ∷ plain (226 ∷ 128 ∷ 156 ∷ []) ∷ []) ∷ []) ∷ blank [] ∷ behind [] 0 (row Paragraph (plain (codes "a") ∷ []) ∷ []) ∷ []
unfolding sections
e45 = refl

e46 : printable_sections (codes "\n---\n2) ~") ≡ behind [] 0 (horizontal_rule ∷ []) ∷ blank [] ∷ behind (Number 2 ∷ []) 1 (row Paragraph (plain (codes "~") ∷ []) ∷ []) ∷ []
unfolding sections
e46 = refl

e47 : printable_sections (codes "# <a>*.- ") ≡ behind [] 0 (row (Header 1) (plain (codes "*.-") ∷ []) ∷ []) ∷ []
unfolding sections
e47 = refl

e48 : printable_sections (codes "- \\*<div>") ≡ behind (Bullet ∷ []) 1 (row Paragraph (plain (codes "*") ∷ []) ∷ []) ∷ []
unfolding sections
e48 = refl

e49 : printable_sections (codes "1. ```rs\n") ≡ behind (Number 1 ∷ []) 1 (row Paragraph ([]) ∷ []) ∷ []
unfolding sections
e49 = refl

e50 : printable_sections (codes "2) 'b ---") ≡ behind (Number 2 ∷ []) 1 (row Paragraph (plain (codes "'b ---") ∷ []) ∷ []) ∷ []
unfolding sections
e50 = refl

pub sections2 : AreSections2
sections2 = record { e26 = e26; e27 = e27; e28 = e28; e29 = e29; e30 = e30; e31 = e31; e32 = e32; e33 = e33; e34 = e34; e35 = e35; e36 = e36; e37 = e37; e38 = e38; e39 = e39; e40 = e40; e41 = e41; e42 = e42; e43 = e43; e44 = e44; e45 = e45; e46 = e46; e47 = e47; e48 = e48; e49 = e49; e50 = e50 }
