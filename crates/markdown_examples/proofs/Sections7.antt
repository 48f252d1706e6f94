-- Examples 151 to 175, computed.
use Rattle.std.proofs.Common.{◌≡◌, [], ◌∷◌, codes, true, false, refl}
use Rattle.mad_sections.specs.declared.gutters.Gutter.TheVariants.{Bar, Bullet, Number, Code}
use Rattle.mad_md.specs.declared.composite.CompositeStyle.TheVariants.{Paragraph, Header}
use Rattle.mad_md.specs.Lines.{horizontal_rule}
use Rattle.markdown_examples.specs.Rows.{plain, flagged, row, code_row, behind, blank}
use Rattle.markdown_reader.specs.Mapping.{link_at}
use Rattle.markdown_reader.specs.Markdown.{printable_sections, unmarked_links}
use Rattle.markdown_examples.specs.Sections7.{AreSections7}
use Rattle.markdown_examples.proofs.Computing.{sections}

e151 : printable_sections (codes "\n===\n1. ***![|# ") ≡ behind [] 0 (row Paragraph (plain (codes "===") ∷ []) ∷ []) ∷ behind (Number 1 ∷ []) 1 (row Paragraph (plain (codes "***![|#") ∷ []) ∷ []) ∷ []
unfolding sections
e151 = refl

e152 : printable_sections (codes "\n|-|-|\n\n===\n\n](\n") ≡ behind [] 0 (row Paragraph (plain (codes "|-|-|") ∷ []) ∷ []) ∷ blank [] ∷ behind [] 0 (row Paragraph (plain (codes "===") ∷ []) ∷ []) ∷ blank [] ∷ behind [] 0 (row Paragraph (plain (codes "](") ∷ []) ∷ []) ∷ []
unfolding sections
e152 = refl

e153 : printable_sections (codes "'\n\n===\n\\\n===\n<a>") ≡ behind [] 0 (row Paragraph (plain (codes "'") ∷ []) ∷ []) ∷ blank [] ∷ behind [] 0 (row (Header 1) (plain (codes "=== \\") ∷ []) ∷ []) ∷ []
unfolding sections
e153 = refl

e154 : printable_sections (codes "+ |-|<a>*[ ] 2) ") ≡ behind (Bullet ∷ []) 1 (row Paragraph (plain (codes "|-|*[ ] 2)") ∷ []) ∷ []) ∷ []
unfolding sections
e154 = refl

e155 : printable_sections (codes "--><!---->```rs\n") ≡ behind [] 0 (row Paragraph (plain (codes "-->```rs") ∷ []) ∷ []) ∷ []
unfolding sections
e155 = refl

e156 : printable_sections (codes "2) *![\n\n- <!--<b") ≡ behind (Number 2 ∷ []) 1 (row Paragraph (plain (codes "*![") ∷ []) ∷ []) ∷ blank [] ∷ behind (Bullet ∷ []) 1 (row Paragraph ([]) ∷ []) ∷ []
unfolding sections
e156 = refl

e157 : printable_sections (codes "<!--![```rs\n---(") ≡ []
unfolding sections
e157 = refl

e158 : printable_sections (codes "<!--*foo~!<!--**") ≡ []
unfolding sections
e158 = refl

e159 : printable_sections (codes "<!--- \n===\n<div>") ≡ []
unfolding sections
e159 = refl

e160 : printable_sections (codes "<a></a><b</a>(- ") ≡ behind [] 0 (row Paragraph (plain (codes "<b(-") ∷ []) ∷ []) ∷ []
unfolding sections
e160 = refl

e161 : printable_sections (codes "<div>\n\nhttp://x<") ≡ behind [] 0 (row Paragraph (flagged false false false false true (codes "http://x") ∷ plain (codes "<") ∷ []) ∷ []) ∷ []
unfolding sections
e161 = refl

l161 : unmarked_links (codes "<div>\n\nhttp://x<") ≡ link_at 0 (codes "http://x") ∷ []
unfolding sections
l161 = refl

e162 : printable_sections (codes "<div>](/u)(\t  |~") ≡ behind [] 0 (row Paragraph (plain (codes "](/u)( |~") ∷ []) ∷ []) ∷ []
unfolding sections
e162 = refl

e163 : printable_sections (codes "> ## a\n===\n![> Ã©") ≡ behind (Bar ∷ []) 1 (row (Header 2) (plain (codes "a") ∷ []) ∷ []) ∷ blank [] ∷ behind [] 0 (row Paragraph (plain (codes "=== ![> Ã©") ∷ []) ∷ []) ∷ []
unfolding sections
e163 = refl

e164 : printable_sections (codes "[ ] \n---\n><a>- |") ≡ behind [] 0 (row (Header 2) (plain (codes "[ ]") ∷ []) ∷ []) ∷ blank [] ∷ behind (Bar ∷ []) 1 (row Paragraph (plain (codes "- |") ∷ []) ∷ []) ∷ []
unfolding sections
e164 = refl

e165 : printable_sections (codes "[ ] ~~\n===\n*</a>") ≡ behind [] 0 (row (Header 1) (plain (codes "[ ] ~~") ∷ []) ∷ []) ∷ blank [] ∷ behind [] 0 (row Paragraph (plain (codes "*") ∷ []) ∷ []) ∷ []
unfolding sections
e165 = refl

e166 : printable_sections (codes "[a]: /u\n \n===\n> ") ≡ behind [] 0 (row Paragraph (plain (codes "===") ∷ []) ∷ []) ∷ []
unfolding sections
e166 = refl

e167 : printable_sections (codes "[a]<div>> \n\n\n~~~") ≡ behind [] 0 (row Paragraph (plain (codes "[a]>") ∷ []) ∷ []) ∷ []
unfolding sections
e167 = refl

e168 : printable_sections (codes "]__<http://a>__[") ≡ behind [] 0 (row Paragraph (plain (codes "]") ∷ flagged true false false false true (codes "http://a") ∷ plain (codes "[") ∷ []) ∷ []) ∷ []
unfolding sections
e168 = refl

l168 : unmarked_links (codes "]__<http://a>__[") ≡ link_at 0 (codes "http://a") ∷ []
unfolding sections
l168 = refl

e169 : printable_sections (codes "_<b\n~~~&#35;<b](") ≡ behind [] 0 (row Paragraph (plain (codes "_<b") ∷ []) ∷ []) ∷ []
unfolding sections
e169 = refl

e170 : printable_sections (codes "__&amp;]\"__<!--\t") ≡ behind [] 0 (row Paragraph (flagged true false false false false (codes "&]\"") ∷ plain (codes "<!--") ∷ []) ∷ []) ∷ []
unfolding sections
e170 = refl

e171 : printable_sections (codes "_Ã©    ---\n---\n![") ≡ behind [] 0 (row (Header 2) (plain (codes "_Ã©    ---") ∷ []) ∷ []) ∷ blank [] ∷ behind [] 0 (row Paragraph (plain (codes "![") ∷ []) ∷ []) ∷ []
unfolding sections
e171 = refl

e172 : printable_sections (codes "\t_\n---\n~b # ](/u)") ≡ behind (Code ∷ []) 1 (code_row (plain (codes "_") ∷ []) ∷ []) ∷ blank [] ∷ behind [] 0 (horizontal_rule ∷ []) ∷ blank [] ∷ behind [] 0 (row Paragraph (plain (codes "~b # ](/u)") ∷ []) ∷ []) ∷ []
unfolding sections
e172 = refl

e173 : printable_sections (codes "![\n\n**Ã©2) \n---\n> ") ≡ behind [] 0 (row Paragraph (plain (codes "![") ∷ []) ∷ []) ∷ blank [] ∷ behind [] 0 (row (Header 2) (plain (codes "**Ã©2)") ∷ []) ∷ []) ∷ []
unfolding sections
e173 = refl

e174 : printable_sections (codes "'](\n\n_:\n|-|-|\n~~~") ≡ behind [] 0 (row Paragraph (plain (codes "'](") ∷ []) ∷ []) ∷ blank [] ∷ behind [] 0 (row Paragraph (plain (codes "_: |-|-|") ∷ []) ∷ []) ∷ []
unfolding sections
e174 = refl

e175 : printable_sections (40 ∷ 45 ∷ 45 ∷ 45 ∷ 10 ∷ 10 ∷ 230 ∷ 166 ∷ 130 ∷ 96 ∷ 96 ∷ 96 ∷ 114 ∷ 115 ∷ 10 ∷ 60 ∷ 33 ∷ 45 ∷ 45 ∷ []) ≡ behind [] 0 (row Paragraph (plain (codes "(---") ∷ []) ∷ []) ∷ blank [] ∷ behind [] 0 (row Paragraph (plain (230 ∷ 166 ∷ 130 ∷ 96 ∷ 96 ∷ 96 ∷ 114 ∷ 115 ∷ []) ∷ []) ∷ []) ∷ []
unfolding sections
e175 = refl

pub sections7 : AreSections7
sections7 = record { e151 = e151; e152 = e152; e153 = e153; e154 = e154; e155 = e155; e156 = e156; e157 = e157; e158 = e158; e159 = e159; e160 = e160; e161 = e161; l161 = l161; e162 = e162; e163 = e163; e164 = e164; e165 = e165; e166 = e166; e167 = e167; e168 = e168; l168 = l168; e169 = e169; e170 = e170; e171 = e171; e172 = e172; e173 = e173; e174 = e174; e175 = e175 }
