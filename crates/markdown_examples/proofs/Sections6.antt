-- Examples 126 to 150, computed.
use Rattle.std.proofs.Common.{◌≡◌, [], ◌∷◌, codes, true, false, refl}
use Rattle.mad_sections.specs.declared.gutters.Gutter.TheVariants.{Bar, Bullet, Number, Code}
use Rattle.mad_md.specs.declared.composite.CompositeStyle.TheVariants.{Paragraph, Header}
use Rattle.mad_md.specs.Lines.{horizontal_rule}
use Rattle.markdown_examples.specs.Rows.{plain, flagged, pictured, row, code_row, behind, blank}
use Rattle.markdown_reader.specs.Markdown.{printable_sections}
use Rattle.markdown_examples.specs.Sections6.{AreSections6}
use Rattle.markdown_examples.proofs.Computing.{sections}

e126 : printable_sections (codes "<!--<http://a>") ≡ []
unfolding sections
e126 = refl

e127 : printable_sections (codes "<!--__2) <div>") ≡ []
unfolding sections
e127 = refl

e128 : printable_sections (codes "</a>](/u)</a>'") ≡ behind [] 0 (row Paragraph (plain (codes "](/u)'") ∷ []) ∷ []) ∷ []
unfolding sections
e128 = refl

e129 : printable_sections (codes "</a>Ã©\\\n<!-->**") ≡ behind [] 0 (row Paragraph (plain (codes "Ã©\\") ∷ []) ∷ []) ∷ []
unfolding sections
e129 = refl

e130 : printable_sections (codes "[) .\n---\n<div>") ≡ behind [] 0 (row (Header 2) (plain (codes "[) .") ∷ []) ∷ []) ∷ []
unfolding sections
e130 = refl

e131 : printable_sections (codes "_<a>\"  __<div>") ≡ behind [] 0 (row Paragraph (plain (codes "_\"  __") ∷ []) ∷ []) ∷ []
unfolding sections
e131 = refl

e132 : printable_sections (95 ∷ 95 ∷ 226 ∷ 128 ∷ 156 ∷ 10 ∷ 60 ∷ 100 ∷ 105 ∷ 118 ∷ 62 ∷ 45 ∷ 45 ∷ 62 ∷ 91 ∷ 126 ∷ []) ≡ behind [] 0 (row Paragraph (plain (95 ∷ 95 ∷ 226 ∷ 128 ∷ 156 ∷ []) ∷ []) ∷ []) ∷ behind [] 0 (row Paragraph (plain (codes "-->[~") ∷ []) ∷ []) ∷ []
unfolding sections
e132 = refl

e133 : printable_sections (230 ∷ 166 ∷ 130 ∷ 62 ∷ 10 ∷ 124 ∷ 45 ∷ 124 ∷ 45 ∷ 124 ∷ 10 ∷ 10 ∷ 10 ∷ 50 ∷ 41 ∷ 32 ∷ []) ≡ behind [] 0 (row Paragraph (plain (230 ∷ 166 ∷ 130 ∷ 62 ∷ 32 ∷ 124 ∷ 45 ∷ 124 ∷ 45 ∷ 124 ∷ []) ∷ []) ∷ []) ∷ blank [] ∷ behind (Number 2 ∷ []) 1 (row Paragraph ([]) ∷ []) ∷ []
unfolding sections
e133 = refl

e134 : printable_sections (codes "\t![Ã©[a]: /u\n<a>") ≡ behind (Code ∷ []) 1 (code_row (plain (codes "![Ã©[a]: /u") ∷ []) ∷ []) ∷ []
unfolding sections
e134 = refl

e135 : printable_sections (codes "\n---\n- \\*\\*<a>|") ≡ behind [] 0 (horizontal_rule ∷ []) ∷ blank [] ∷ behind (Bullet ∷ []) 1 (row Paragraph (plain (codes "**|") ∷ []) ∷ []) ∷ []
unfolding sections
e135 = refl

e136 : printable_sections (codes "\n---\nb ---<a>::") ≡ behind [] 0 (horizontal_rule ∷ []) ∷ blank [] ∷ behind [] 0 (row Paragraph (plain (codes "b ---::") ∷ []) ∷ []) ∷ []
unfolding sections
e136 = refl

e137 : printable_sections (codes "!\n|-|-|\n> _:![_") ≡ behind [] 0 (row Paragraph (plain (codes "! |-|-|") ∷ []) ∷ []) ∷ behind (Bar ∷ []) 1 (row Paragraph (flagged false true false false false (codes ":![") ∷ []) ∷ []) ∷ []
unfolding sections
e137 = refl

e138 : printable_sections (codes "* '## ===</a>!|") ≡ behind (Bullet ∷ []) 1 (row Paragraph (plain (codes "'## ===!|") ∷ []) ∷ []) ∷ []
unfolding sections
e138 = refl

e139 : printable_sections (codes "* ](/u)\\\n    __") ≡ behind (Bullet ∷ []) 1 (row Paragraph (plain (codes "](/u)") ∷ []) ∷ row Paragraph (plain (codes "__") ∷ []) ∷ []) ∷ []
unfolding sections
e139 = refl

e140 : printable_sections (codes "---\n.![](/u):\\*") ≡ behind [] 0 (horizontal_rule ∷ []) ∷ blank [] ∷ behind [] 0 (row Paragraph (plain (codes ".") ∷ pictured (codes "u") ∷ plain (codes ":*") ∷ []) ∷ []) ∷ []
unfolding sections
e140 = refl

e141 : printable_sections (codes "1. \n'&#35;\n---\n") ≡ behind (Number 1 ∷ []) 1 (row Paragraph ([]) ∷ []) ∷ blank [] ∷ behind [] 0 (row (Header 2) (plain (codes "'#") ∷ []) ∷ []) ∷ []
unfolding sections
e141 = refl

e142 : printable_sections (codes "1. <</a>* `</a>") ≡ behind (Number 1 ∷ []) 1 (row Paragraph (plain (codes "<* `") ∷ []) ∷ []) ∷ []
unfolding sections
e142 = refl

e143 : printable_sections (codes "1. <b\n---\nfoo\\*") ≡ behind (Number 1 ∷ []) 1 (row Paragraph (plain (codes "<b") ∷ []) ∷ []) ∷ blank [] ∷ behind [] 0 (horizontal_rule ∷ []) ∷ blank [] ∷ behind [] 0 (row Paragraph (plain (codes "foo*") ∷ []) ∷ []) ∷ []
unfolding sections
e143 = refl

e144 : printable_sections (codes "<!--<!--- ~~Ã©\\*") ≡ []
unfolding sections
e144 = refl

e145 : printable_sections (codes "<!--<div>a<div>") ≡ []
unfolding sections
e145 = refl

e146 : printable_sections (codes "</a>\n---\n:\"\\*``") ≡ behind [] 0 (row Paragraph (plain (codes "--- :\"\\*``") ∷ []) ∷ []) ∷ []
unfolding sections
e146 = refl

e147 : printable_sections (codes "<a>## <a><a>~!!") ≡ behind [] 0 (row Paragraph (plain (codes "## ~!!") ∷ []) ∷ []) ∷ []
unfolding sections
e147 = refl

e148 : printable_sections (codes "<b> foo|*``</a>") ≡ behind [] 0 (row Paragraph (flagged true false false false false (codes "foo|*``") ∷ []) ∷ []) ∷ []
unfolding sections
e148 = refl

e149 : printable_sections (codes "<div>## _[ ] \n\n") ≡ behind [] 0 (row Paragraph (plain (codes "## _[ ]") ∷ []) ∷ []) ∷ []
unfolding sections
e149 = refl

e150 : printable_sections (codes "> **~~~\n---\n**!") ≡ behind (Bar ∷ []) 1 (row Paragraph (plain (codes "**~~~") ∷ []) ∷ []) ∷ blank [] ∷ behind [] 0 (horizontal_rule ∷ []) ∷ blank [] ∷ behind [] 0 (row Paragraph (plain (codes "**!") ∷ []) ∷ []) ∷ []
unfolding sections
e150 = refl

pub sections6 : AreSections6
sections6 = record { e126 = e126; e127 = e127; e128 = e128; e129 = e129; e130 = e130; e131 = e131; e132 = e132; e133 = e133; e134 = e134; e135 = e135; e136 = e136; e137 = e137; e138 = e138; e139 = e139; e140 = e140; e141 = e141; e142 = e142; e143 = e143; e144 = e144; e145 = e145; e146 = e146; e147 = e147; e148 = e148; e149 = e149; e150 = e150 }
