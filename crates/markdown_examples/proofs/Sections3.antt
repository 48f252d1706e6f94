-- Examples 51 to 75, computed.
use Rattle.std.proofs.Common.{◌≡◌, [], ◌∷◌, codes, true, false, refl}
use Rattle.mad_sections.specs.declared.gutters.Gutter.TheVariants.{Bar, Bullet, Number, Code}
use Rattle.mad_md.specs.declared.composite.CompositeStyle.TheVariants.{Paragraph, Header}
use Rattle.mad_md.specs.Lines.{horizontal_rule}
use Rattle.markdown_examples.specs.Rows.{plain, flagged, row, code_row, behind, blank}
use Rattle.markdown_reader.specs.Markdown.{printable_sections}
use Rattle.markdown_examples.specs.Sections3.{AreSections3}
use Rattle.markdown_examples.proofs.Computing.{sections}

e51 : printable_sections (codes "<!--===''") ≡ []
unfolding sections
e51 = refl

e52 : printable_sections (codes "</a>)\n\n# ") ≡ behind [] 0 (row Paragraph (plain (codes ")") ∷ []) ∷ []) ∷ []
unfolding sections
e52 = refl

e53 : printable_sections (codes "<div>~~~\n") ≡ behind [] 0 (row Paragraph (plain (codes "~~~") ∷ []) ∷ []) ∷ []
unfolding sections
e53 = refl

e54 : printable_sections (codes "\n---\n+ ---") ≡ behind [] 0 (horizontal_rule ∷ []) ∷ blank [] ∷ behind (Bullet ∷ []) 1 (horizontal_rule ∷ []) ∷ []
unfolding sections
e54 = refl

e55 : printable_sections (codes "\n---\n> )<\\") ≡ behind [] 0 (horizontal_rule ∷ []) ∷ blank [] ∷ behind (Bar ∷ []) 1 (row Paragraph (plain (codes ")<\\") ∷ []) ∷ []) ∷ []
unfolding sections
e55 = refl

e56 : printable_sections (35 ∷ 32 ∷ 49 ∷ 46 ∷ 32 ∷ 226 ∷ 128 ∷ 156 ∷ 42 ∷ 124 ∷ 42 ∷ 40 ∷ []) ≡ behind [] 0 (row (Header 1) (plain (49 ∷ 46 ∷ 32 ∷ 226 ∷ 128 ∷ 156 ∷ []) ∷ flagged false true false false false (codes "|") ∷ plain (codes "(") ∷ []) ∷ []) ∷ []
unfolding sections
e56 = refl

e57 : printable_sections (codes "'<a>~*<b'*") ≡ behind [] 0 (row Paragraph (plain (codes "'~") ∷ flagged false true false false false (codes "<b'") ∷ []) ∷ []) ∷ []
unfolding sections
e57 = refl

e58 : printable_sections (codes "*\n---\n:===") ≡ behind (Bullet ∷ []) 1 (row Paragraph ([]) ∷ []) ∷ blank [] ∷ behind [] 0 (horizontal_rule ∷ []) ∷ blank [] ∷ behind [] 0 (row Paragraph (plain (codes ":===") ∷ []) ∷ []) ∷ []
unfolding sections
e58 = refl

e59 : printable_sections (codes "- ~~~2) ~~") ≡ behind (Bullet ∷ []) 1 (row Paragraph ([]) ∷ []) ∷ []
unfolding sections
e59 = refl

e60 : printable_sections (codes "1. Ã©:\n\n\"\"Ã©") ≡ behind (Number 1 ∷ []) 1 (row Paragraph (plain (codes "Ã©:") ∷ []) ∷ []) ∷ blank [] ∷ behind [] 0 (row Paragraph (plain (codes "\"\"Ã©") ∷ []) ∷ []) ∷ []
unfolding sections
e60 = refl

e61 : printable_sections (codes "2) ~~~>---") ≡ behind (Number 2 ∷ []) 1 (row Paragraph ([]) ∷ []) ∷ []
unfolding sections
e61 = refl

e62 : printable_sections (codes ":__<a>__* ") ≡ behind [] 0 (row Paragraph (plain (codes ":*") ∷ []) ∷ []) ∷ []
unfolding sections
e62 = refl

e63 : printable_sections (codes "<!--+ 2) .") ≡ []
unfolding sections
e63 = refl

e64 : printable_sections (codes "<a>* \n```*") ≡ behind [] 0 (row Paragraph (plain (codes "*") ∷ []) ∷ []) ∷ []
unfolding sections
e64 = refl

e65 : printable_sections (codes "<a>- [ ] )") ≡ behind [] 0 (row Paragraph (plain (codes "- [ ] )") ∷ []) ∷ []) ∷ []
unfolding sections
e65 = refl

e66 : printable_sections (codes "<div>2) Ã©[") ≡ behind [] 0 (row Paragraph (plain (codes "2) Ã©[") ∷ []) ∷ []) ∷ []
unfolding sections
e66 = refl

e67 : printable_sections (codes "<div>``]__") ≡ behind [] 0 (row Paragraph (plain (codes "``]__") ∷ []) ∷ []) ∷ []
unfolding sections
e67 = refl

e68 : printable_sections (codes "> - \n](/u)") ≡ behind (Bar ∷ Bullet ∷ []) 2 (row Paragraph ([]) ∷ []) ∷ behind [] 0 (row Paragraph (plain (codes "](/u)") ∷ []) ∷ []) ∷ []
unfolding sections
e68 = refl

e69 : printable_sections (codes ">&#35;</a>") ≡ behind (Bar ∷ []) 1 (row Paragraph (plain (codes "#") ∷ []) ∷ []) ∷ []
unfolding sections
e69 = refl

e70 : printable_sections (codes "\\\n</a>````") ≡ behind [] 0 (row Paragraph (plain (codes "````") ∷ []) ∷ []) ∷ []
unfolding sections
e70 = refl

e71 : printable_sections (codes "\n\n\n---\n+ :[") ≡ behind [] 0 (horizontal_rule ∷ []) ∷ blank [] ∷ behind (Bullet ∷ []) 1 (row Paragraph (plain (codes ":[") ∷ []) ∷ []) ∷ []
unfolding sections
e71 = refl

e72 : printable_sections (codes "\n---\n~~~\\\\*") ≡ behind [] 0 (horizontal_rule ∷ []) ∷ []
unfolding sections
e72 = refl

e73 : printable_sections (codes "    # \n[ ] ") ≡ behind (Code ∷ []) 1 (code_row (plain (codes "# ") ∷ []) ∷ []) ∷ blank [] ∷ behind [] 0 (row Paragraph (plain (codes "[ ]") ∷ []) ∷ []) ∷ []
unfolding sections
e73 = refl

e74 : printable_sections (codes "  ]\n===\n---") ≡ behind [] 0 (row (Header 1) (plain (codes "]") ∷ []) ∷ []) ∷ blank [] ∷ behind [] 0 (horizontal_rule ∷ []) ∷ []
unfolding sections
e74 = refl

e75 : printable_sections (codes "*<_\n---\n~~~") ≡ behind [] 0 (row (Header 2) (plain (codes "*<_") ∷ []) ∷ []) ∷ []
unfolding sections
e75 = refl

pub sections3 : AreSections3
sections3 = record { e51 = e51; e52 = e52; e53 = e53; e54 = e54; e55 = e55; e56 = e56; e57 = e57; e58 = e58; e59 = e59; e60 = e60; e61 = e61; e62 = e62; e63 = e63; e64 = e64; e65 = e65; e66 = e66; e67 = e67; e68 = e68; e69 = e69; e70 = e70; e71 = e71; e72 = e72; e73 = e73; e74 = e74; e75 = e75 }
