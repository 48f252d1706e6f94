-- Examples 1 to 25, computed.
use Rattle.std.proofs.Common.{◌≡◌, [], ◌∷◌, codes, true, false, refl}
use Rattle.mad_sections.specs.declared.gutters.Gutter.TheVariants.{Bar, Bullet, Number, Code}
use Rattle.mad_md.specs.declared.composite.CompositeStyle.TheVariants.{Paragraph, Header}
use Rattle.mad_md.specs.Lines.{horizontal_rule}
use Rattle.markdown_examples.specs.Rows.{plain, flagged, row, code_row, behind, blank}
use Rattle.markdown_reader.specs.Markdown.{printable_sections}
use Rattle.markdown_examples.specs.Sections1.{AreSections1}
use Rattle.markdown_examples.proofs.Computing.{sections}

e1 : printable_sections (codes ">") ≡ []
unfolding sections
e1 = refl

e2 : printable_sections (codes "\t*") ≡ behind (Code ∷ []) 1 (code_row (plain (codes "*") ∷ []) ∷ []) ∷ []
unfolding sections
e2 = refl

e3 : printable_sections (codes "# ") ≡ []
unfolding sections
e3 = refl

e4 : printable_sections (codes "**") ≡ behind [] 0 (row Paragraph (plain (codes "**") ∷ []) ∷ []) ∷ []
unfolding sections
e4 = refl

e5 : printable_sections (codes "- >") ≡ behind (Bullet ∷ []) 1 (row Paragraph ([]) ∷ []) ∷ []
unfolding sections
e5 = refl

e6 : printable_sections (codes "1. ") ≡ behind (Number 1 ∷ []) 1 (row Paragraph ([]) ∷ []) ∷ []
unfolding sections
e6 = refl

e7 : printable_sections (codes "- + ") ≡ behind (Bullet ∷ Bullet ∷ []) 2 (row Paragraph ([]) ∷ []) ∷ []
unfolding sections
e7 = refl

e8 : printable_sections (codes "* [:a") ≡ behind (Bullet ∷ []) 1 (row Paragraph (plain (codes "[:a") ∷ []) ∷ []) ∷ []
unfolding sections
e8 = refl

e9 : printable_sections (codes "- \n\n'") ≡ behind (Bullet ∷ []) 1 (row Paragraph ([]) ∷ []) ∷ blank [] ∷ behind [] 0 (row Paragraph (plain (codes "'") ∷ []) ∷ []) ∷ []
unfolding sections
e9 = refl

e10 : printable_sections (codes "- ~~~") ≡ behind (Bullet ∷ []) 1 (row Paragraph ([]) ∷ []) ∷ []
unfolding sections
e10 = refl

e11 : printable_sections (codes "2) > ") ≡ behind (Number 2 ∷ []) 1 (row Paragraph ([]) ∷ []) ∷ []
unfolding sections
e11 = refl

e12 : printable_sections (codes "<b>``") ≡ behind [] 0 (row Paragraph (flagged true false false false false (codes "``") ∷ []) ∷ []) ∷ []
unfolding sections
e12 = refl

e13 : printable_sections (codes "> ---") ≡ behind (Bar ∷ []) 1 (horizontal_rule ∷ []) ∷ []
unfolding sections
e13 = refl

e14 : printable_sections (codes "> ```") ≡ []
unfolding sections
e14 = refl

e15 : printable_sections (codes ">1. \n") ≡ behind (Bar ∷ Number 1 ∷ []) 2 (row Paragraph ([]) ∷ []) ∷ []
unfolding sections
e15 = refl

e16 : printable_sections (codes "(*|-|*") ≡ behind [] 0 (row Paragraph (plain (codes "(") ∷ flagged false true false false false (codes "|-|") ∷ []) ∷ []) ∷ []
unfolding sections
e16 = refl

e17 : printable_sections (codes "*\n---\n") ≡ behind (Bullet ∷ []) 1 (row Paragraph ([]) ∷ []) ∷ blank [] ∷ behind [] 0 (horizontal_rule ∷ []) ∷ []
unfolding sections
e17 = refl

e18 : printable_sections (codes "+ > # ") ≡ behind (Bullet ∷ []) 1 (row Paragraph ([]) ∷ []) ∷ []
unfolding sections
e18 = refl

e19 : printable_sections (codes "1. + '") ≡ behind (Number 1 ∷ Bullet ∷ []) 2 (row Paragraph (plain (codes "'") ∷ []) ∷ []) ∷ []
unfolding sections
e19 = refl

e20 : printable_sections (codes "2) 2) ") ≡ behind (Number 2 ∷ Number 2 ∷ []) 2 (row Paragraph ([]) ∷ []) ∷ []
unfolding sections
e20 = refl

e21 : printable_sections (codes "\n\n- 1. ") ≡ behind (Bullet ∷ Number 1 ∷ []) 2 (row Paragraph ([]) ∷ []) ∷ []
unfolding sections
e21 = refl

e22 : printable_sections (codes "# </a><") ≡ behind [] 0 (row (Header 1) (plain (codes "<") ∷ []) ∷ []) ∷ []
unfolding sections
e22 = refl

e23 : printable_sections (codes "(\n\n!<a>") ≡ behind [] 0 (row Paragraph (plain (codes "(") ∷ []) ∷ []) ∷ blank [] ∷ behind [] 0 (row Paragraph (plain (codes "!") ∷ []) ∷ []) ∷ []
unfolding sections
e23 = refl

e24 : printable_sections (codes "* > -->") ≡ behind (Bullet ∷ Bar ∷ []) 2 (row Paragraph (plain (codes "-->") ∷ []) ∷ []) ∷ []
unfolding sections
e24 = refl

e25 : printable_sections (codes "1. ## ]") ≡ behind (Number 1 ∷ []) 1 (row (Header 2) (plain (codes "]") ∷ []) ∷ []) ∷ []
unfolding sections
e25 = refl

pub sections1 : AreSections1
sections1 = record { e1 = e1; e2 = e2; e3 = e3; e4 = e4; e5 = e5; e6 = e6; e7 = e7; e8 = e8; e9 = e9; e10 = e10; e11 = e11; e12 = e12; e13 = e13; e14 = e14; e15 = e15; e16 = e16; e17 = e17; e18 = e18; e19 = e19; e20 = e20; e21 = e21; e22 = e22; e23 = e23; e24 = e24; e25 = e25 }
