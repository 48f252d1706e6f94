-- Examples 276 to 300, computed.
use Rattle.std.proofs.Common.{◌≡◌, [], ◌∷◌, codes, true, false, refl}
use Rattle.code_tables.specs.declared.rules.Language.TheVariants.{Rust}
use Rattle.mad_sections.specs.declared.gutters.Gutter.TheVariants.{Bullet, Number, Code}
use Rattle.mad_md.specs.declared.composite.CompositeStyle.TheVariants.{Paragraph, Header}
use Rattle.mad_md.specs.Lines.{horizontal_rule}
use Rattle.markdown_examples.specs.Rows.{plain, flagged, row, code_row, behind, blank, toned_behind}
use Rattle.markdown_reader.specs.Mapping.{link_at}
use Rattle.markdown_reader.specs.Markdown.{printable_sections, unmarked_links}
use Rattle.markdown_examples.specs.Sections12.{AreSections12}
use Rattle.markdown_examples.proofs.Computing.{sections}

e276 : printable_sections (codes "](/u)2) \"* \n|-|-|\n\n---\n]") ≡ behind [] 0 (row Paragraph (plain (codes "](/u)2) \"* |-|-|") ∷ []) ∷ []) ∷ blank [] ∷ behind [] 0 (horizontal_rule ∷ []) ∷ blank [] ∷ behind [] 0 (row Paragraph (plain (codes "]") ∷ []) ∷ []) ∷ []
unfolding sections
e276 = refl

e277 : printable_sections (codes "](/u)\\*</a>!['<http://a>") ≡ behind [] 0 (row Paragraph (plain (codes "](/u)*!['") ∷ flagged false false false false true (codes "http://a") ∷ []) ∷ []) ∷ []
unfolding sections
e277 = refl

l277 : unmarked_links (codes "](/u)\\*</a>!['<http://a>") ≡ link_at 0 (codes "http://a") ∷ []
unfolding sections
l277 = refl

e278 : printable_sections (codes "```rs\n<a>>](/u)---&#35;Ã©") ≡ toned_behind (Code ∷ []) 1 Rust (codes "<a>>](/u)---&#35;Ã©") (code_row (plain (codes "<a>>](/u)---&#35;Ã©") ∷ []) ∷ []) ∷ []
unfolding sections
e278 = refl

e279 : printable_sections (codes "http://x* [a]\n\n](/u)</a>") ≡ behind [] 0 (row Paragraph (flagged false false false false true (codes "http://x") ∷ plain (codes "* [a]") ∷ []) ∷ []) ∷ blank [] ∷ behind [] 0 (row Paragraph (plain (codes "](/u)") ∷ []) ∷ []) ∷ []
unfolding sections
e279 = refl

l279 : unmarked_links (codes "http://x* [a]\n\n](/u)</a>") ≡ link_at 0 (codes "http://x") ∷ []
unfolding sections
l279 = refl

e280 : printable_sections (codes "~  ``<div>\\[a]: /u\n\n===\n") ≡ behind [] 0 (row Paragraph (plain (codes "~  ``[a]: /u") ∷ []) ∷ []) ∷ blank [] ∷ behind [] 0 (row Paragraph (plain (codes "===") ∷ []) ∷ []) ∷ []
unfolding sections
e280 = refl

e281 : printable_sections (codes "~~\n\nb .**<div><http://a>") ≡ behind [] 0 (row Paragraph (plain (codes "~~") ∷ []) ∷ []) ∷ blank [] ∷ behind [] 0 (row Paragraph (plain (codes "b .**") ∷ flagged false false false false true (codes "http://a") ∷ []) ∷ []) ∷ []
unfolding sections
e281 = refl

l281 : unmarked_links (codes "~~\n\nb .**<div><http://a>") ≡ link_at 2 (codes "http://a") ∷ []
unfolding sections
l281 = refl

e282 : printable_sections (230 ∷ 166 ∷ 130 ∷ 96 ∷ 96 ∷ 96 ∷ 114 ∷ 115 ∷ 10 ∷ 60 ∷ 33 ∷ 45 ∷ 45 ∷ 49 ∷ 46 ∷ 32 ∷ 10 ∷ 124 ∷ 45 ∷ 124 ∷ 45 ∷ 124 ∷ 10 ∷ 62 ∷ 32 ∷ 32 ∷ []) ≡ behind [] 0 (row Paragraph (plain (230 ∷ 166 ∷ 130 ∷ 96 ∷ 96 ∷ 96 ∷ 114 ∷ 115 ∷ []) ∷ []) ∷ []) ∷ []
unfolding sections
e282 = refl

e283 : printable_sections (codes "\n===\n]<div>\n:<http://a>b ") ≡ behind [] 0 (row Paragraph (plain (codes "=== ] :") ∷ flagged false false false false true (codes "http://a") ∷ plain (codes "b") ∷ []) ∷ []) ∷ []
unfolding sections
e283 = refl

l283 : unmarked_links (codes "\n===\n]<div>\n:<http://a>b ") ≡ link_at 0 (codes "http://a") ∷ []
unfolding sections
l283 = refl

e284 : printable_sections (codes "+ # ``<http://a>\\\n---\n2) ") ≡ behind (Bullet ∷ []) 1 (row (Header 1) (plain (codes "``") ∷ flagged false false false false true (codes "http://a") ∷ plain (codes "\\") ∷ []) ∷ []) ∷ blank [] ∷ behind [] 0 (horizontal_rule ∷ []) ∷ blank [] ∷ behind (Number 2 ∷ []) 1 (row Paragraph ([]) ∷ []) ∷ []
unfolding sections
e284 = refl

l284 : unmarked_links (codes "+ # ``<http://a>\\\n---\n2) ") ≡ link_at 0 (codes "http://a") ∷ []
unfolding sections
l284 = refl

e285 : printable_sections (codes "1. <b</a>](&amp;[a]: /u\n|") ≡ behind (Number 1 ∷ []) 1 (row Paragraph (plain (codes "<b](&[a]: /u |") ∷ []) ∷ []) ∷ []
unfolding sections
e285 = refl

e286 : printable_sections (codes "2) ~\n---\n<!--  <http://a>") ≡ behind (Number 2 ∷ []) 1 (row Paragraph (plain (codes "~") ∷ []) ∷ []) ∷ blank [] ∷ behind [] 0 (horizontal_rule ∷ []) ∷ []
unfolding sections
e286 = refl

e287 : printable_sections (codes "# <!--    ---[a]: /u\n# [a]") ≡ behind [] 0 (row (Header 1) (plain (codes "<!--    ---[a]: /u") ∷ []) ∷ []) ∷ blank [] ∷ behind [] 0 (row (Header 1) (plain (codes "[a]") ∷ []) ∷ []) ∷ []
unfolding sections
e287 = refl

e288 : printable_sections (codes "<!--    &amp;\n---\n|-|Ã©</a>") ≡ []
unfolding sections
e288 = refl

e289 : printable_sections (codes "<!--\"<http://a>Ã©\n\n\n===\n## ") ≡ []
unfolding sections
e289 = refl

e290 : printable_sections (codes "<!--<http://a>[ ] ```rs\n<b") ≡ []
unfolding sections
e290 = refl

e291 : printable_sections (codes "</a>)\n===\n\n===\n<http://a>!") ≡ behind [] 0 (row (Header 1) (plain (codes ")") ∷ []) ∷ []) ∷ blank [] ∷ behind [] 0 (row Paragraph (plain (codes "=== ") ∷ flagged false false false false true (codes "http://a") ∷ plain (codes "!") ∷ []) ∷ []) ∷ []
unfolding sections
e291 = refl

l291 : unmarked_links (codes "</a>)\n===\n\n===\n<http://a>!") ≡ link_at 2 (codes "http://a") ∷ []
unfolding sections
l291 = refl

e292 : printable_sections (60 ∷ 47 ∷ 97 ∷ 62 ∷ 60 ∷ 100 ∷ 105 ∷ 118 ∷ 62 ∷ 226 ∷ 128 ∷ 156 ∷ 91 ∷ 97 ∷ 93 ∷ 58 ∷ 32 ∷ 47 ∷ 117 ∷ 10 ∷ 124 ∷ 93 ∷ 40 ∷ 10 ∷ 45 ∷ 45 ∷ 45 ∷ 10 ∷ []) ≡ behind [] 0 (row (Header 2) (plain (226 ∷ 128 ∷ 156 ∷ 91 ∷ 97 ∷ 93 ∷ 58 ∷ 32 ∷ 47 ∷ 117 ∷ 32 ∷ 124 ∷ 93 ∷ 40 ∷ []) ∷ []) ∷ []) ∷ []
unfolding sections
e292 = refl

e293 : printable_sections (codes "<div>```rs\n!:[a]: /u\n<a>- ") ≡ behind [] 0 (row Paragraph (plain (codes "```rs !:[a]: /u -") ∷ []) ∷ []) ∷ []
unfolding sections
e293 = refl

e294 : printable_sections (codes "===[<http://a>```<a>\"\n---\n") ≡ behind [] 0 (row (Header 2) (plain (codes "===[") ∷ flagged false false false false true (codes "http://a") ∷ plain (codes "```\"") ∷ []) ∷ []) ∷ []
unfolding sections
e294 = refl

l294 : unmarked_links (codes "===[<http://a>```<a>\"\n---\n") ≡ link_at 0 (codes "http://a") ∷ []
unfolding sections
l294 = refl

e295 : printable_sections (codes "<b    >  >\n|-|-|\n<http://a>") ≡ behind [] 0 (row Paragraph (flagged true false false false false (codes "> |-|-| ") ∷ flagged true false false false true (codes "http://a") ∷ []) ∷ []) ∷ []
unfolding sections
e295 = refl

l295 : unmarked_links (codes "<b    >  >\n|-|-|\n<http://a>") ≡ link_at 0 (codes "http://a") ∷ []
unfolding sections
l295 = refl

e296 : printable_sections (10 ∷ 10 ∷ 124 ∷ 45 ∷ 124 ∷ 45 ∷ 124 ∷ 10 ∷ 42 ∷ 42 ∷ 91 ∷ 97 ∷ 93 ∷ 58 ∷ 32 ∷ 47 ∷ 117 ∷ 10 ∷ 10 ∷ 124 ∷ 45 ∷ 124 ∷ 45 ∷ 124 ∷ 10 ∷ 43 ∷ 32 ∷ 226 ∷ 128 ∷ 156 ∷ []) ≡ behind [] 0 (row Paragraph (plain (codes "|-|-| **[a]: /u") ∷ []) ∷ []) ∷ blank [] ∷ behind [] 0 (row Paragraph (plain (codes "|-|-|") ∷ []) ∷ []) ∷ behind (Bullet ∷ []) 1 (row Paragraph (plain (226 ∷ 128 ∷ 156 ∷ []) ∷ []) ∷ []) ∷ []
unfolding sections
e296 = refl

e297 : printable_sections (codes "\n---\n<http://a>\n---\n`|-|[ ] ") ≡ behind [] 0 (horizontal_rule ∷ []) ∷ blank [] ∷ behind [] 0 (row (Header 2) (flagged false false false false true (codes "http://a") ∷ []) ∷ []) ∷ blank [] ∷ behind [] 0 (row Paragraph (plain (codes "`|-|[ ]") ∷ []) ∷ []) ∷ []
unfolding sections
e297 = refl

l297 : unmarked_links (codes "\n---\n<http://a>\n---\n`|-|[ ] ") ≡ link_at 2 (codes "http://a") ∷ []
unfolding sections
l297 = refl

e298 : printable_sections (49 ∷ 46 ∷ 32 ∷ 60 ∷ 97 ∷ 62 ∷ 230 ∷ 166 ∷ 130 ∷ 60 ∷ 104 ∷ 116 ∷ 116 ∷ 112 ∷ 58 ∷ 47 ∷ 47 ∷ 97 ∷ 62 ∷ 60 ∷ 104 ∷ 116 ∷ 116 ∷ 112 ∷ 58 ∷ 47 ∷ 47 ∷ 120 ∷ 33 ∷ 91 ∷ []) ≡ behind (Number 1 ∷ []) 1 (row Paragraph (plain (230 ∷ 166 ∷ 130 ∷ []) ∷ flagged false false false false true (codes "http://a") ∷ plain (codes "<") ∷ flagged false false false false true (codes "http://x![") ∷ []) ∷ []) ∷ []
unfolding sections
e298 = refl

l298 : unmarked_links (49 ∷ 46 ∷ 32 ∷ 60 ∷ 97 ∷ 62 ∷ 230 ∷ 166 ∷ 130 ∷ 60 ∷ 104 ∷ 116 ∷ 116 ∷ 112 ∷ 58 ∷ 47 ∷ 47 ∷ 97 ∷ 62 ∷ 60 ∷ 104 ∷ 116 ∷ 116 ∷ 112 ∷ 58 ∷ 47 ∷ 47 ∷ 120 ∷ 33 ∷ 91 ∷ []) ≡ link_at 0 (codes "http://a") ∷ link_at 0 (codes "http://x![") ∷ []
unfolding sections
l298 = refl

e299 : printable_sections (codes "<!--===```* \n===\n\t<http://a>") ≡ []
unfolding sections
e299 = refl

e300 : printable_sections (codes "===\n|-|-|\n+ :> <http://a>~~~") ≡ behind [] 0 (row Paragraph (plain (codes "=== |-|-|") ∷ []) ∷ []) ∷ behind (Bullet ∷ []) 1 (row Paragraph (plain (codes ":> ") ∷ flagged false false false false true (codes "http://a") ∷ plain (codes "~~~") ∷ []) ∷ []) ∷ []
unfolding sections
e300 = refl

l300 : unmarked_links (codes "===\n|-|-|\n+ :> <http://a>~~~") ≡ link_at 1 (codes "http://a") ∷ []
unfolding sections
l300 = refl

pub sections12 : AreSections12
sections12 = record { e276 = e276; e277 = e277; l277 = l277; e278 = e278; e279 = e279; l279 = l279; e280 = e280; e281 = e281; l281 = l281; e282 = e282; e283 = e283; l283 = l283; e284 = e284; l284 = l284; e285 = e285; e286 = e286; e287 = e287; e288 = e288; e289 = e289; e290 = e290; e291 = e291; l291 = l291; e292 = e292; e293 = e293; e294 = e294; l294 = l294; e295 = e295; l295 = l295; e296 = e296; e297 = e297; l297 = l297; e298 = e298; l298 = l298; e299 = e299; e300 = e300; l300 = l300 }
