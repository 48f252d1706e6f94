-- Examples 251 to 275, computed.
use Rattle.std.proofs.Common.{◌≡◌, [], ◌∷◌, codes, true, false, refl}
use Rattle.mad_sections.specs.declared.gutters.Gutter.TheVariants.{Bar, Bullet, Number, Code}
use Rattle.mad_md.specs.declared.composite.CompositeStyle.TheVariants.{Paragraph, Header}
use Rattle.mad_md.specs.Lines.{horizontal_rule}
use Rattle.markdown_examples.specs.Rows.{plain, flagged, row, code_row, behind, blank}
use Rattle.markdown_reader.specs.Mapping.{link_at}
use Rattle.markdown_reader.specs.Markdown.{printable_sections, unmarked_links}
use Rattle.markdown_examples.specs.Sections11.{AreSections11}
use Rattle.markdown_examples.proofs.Computing.{sections}

e251 : printable_sections (10 ∷ 45 ∷ 45 ∷ 45 ∷ 10 ∷ 10 ∷ 45 ∷ 45 ∷ 45 ∷ 10 ∷ 124 ∷ 45 ∷ 124 ∷ 46 ∷ 96 ∷ 96 ∷ 96 ∷ 114 ∷ 115 ∷ 10 ∷ 195 ∷ 169 ∷ 230 ∷ 166 ∷ 130 ∷ []) ≡ behind [] 0 (horizontal_rule ∷ []) ∷ blank [] ∷ behind [] 0 (horizontal_rule ∷ []) ∷ blank [] ∷ behind [] 0 (row Paragraph (plain (124 ∷ 45 ∷ 124 ∷ 46 ∷ 96 ∷ 96 ∷ 96 ∷ 114 ∷ 115 ∷ 32 ∷ 195 ∷ 169 ∷ 230 ∷ 166 ∷ 130 ∷ []) ∷ []) ∷ []) ∷ []
unfolding sections
e251 = refl

e252 : printable_sections (codes "\n---\n# <http://a>-->* ") ≡ behind [] 0 (horizontal_rule ∷ []) ∷ blank [] ∷ behind [] 0 (row (Header 1) (flagged false false false false true (codes "http://a") ∷ plain (codes "-->*") ∷ []) ∷ []) ∷ []
unfolding sections
e252 = refl

l252 : unmarked_links (codes "\n---\n# <http://a>-->* ") ≡ link_at 2 (codes "http://a") ∷ []
unfolding sections
l252 = refl

e253 : printable_sections (codes "\n---\n<!--http://x[a]](") ≡ behind [] 0 (horizontal_rule ∷ []) ∷ []
unfolding sections
e253 = refl

e254 : printable_sections (codes "\n===\n<div>```~~~\\](/u)") ≡ behind [] 0 (row Paragraph (plain (codes "===") ∷ []) ∷ []) ∷ behind [] 0 (row Paragraph (plain (codes "```~~~\\](/u)") ∷ []) ∷ []) ∷ []
unfolding sections
e254 = refl

e255 : printable_sections (codes "  <a></a>    + ---[ ] ") ≡ behind [] 0 (row Paragraph (plain (codes "+ ---[ ]") ∷ []) ∷ []) ∷ []
unfolding sections
e255 = refl

e256 : printable_sections (codes ")## <http://a>a\n\nfoo**") ≡ behind [] 0 (row Paragraph (plain (codes ")## ") ∷ flagged false false false false true (codes "http://a") ∷ plain (codes "a") ∷ []) ∷ []) ∷ blank [] ∷ behind [] 0 (row Paragraph (plain (codes "foo**") ∷ []) ∷ []) ∷ []
unfolding sections
e256 = refl

l256 : unmarked_links (codes ")## <http://a>a\n\nfoo**") ≡ link_at 0 (codes "http://a") ∷ []
unfolding sections
l256 = refl

e257 : printable_sections (codes "*[a]: /u\n+ ---\n\\*&#35;") ≡ behind [] 0 (row Paragraph (plain (codes "*[a]: /u") ∷ []) ∷ []) ∷ blank [] ∷ behind (Bullet ∷ []) 1 (horizontal_rule ∷ []) ∷ blank [] ∷ behind [] 0 (row Paragraph (plain (codes "*#") ∷ []) ∷ []) ∷ []
unfolding sections
e257 = refl

e258 : printable_sections (codes "1. ```rs\n===<http://a>") ≡ behind (Number 1 ∷ []) 1 (row Paragraph ([]) ∷ []) ∷ behind [] 0 (row Paragraph (plain (codes "===") ∷ flagged false false false false true (codes "http://a") ∷ []) ∷ []) ∷ []
unfolding sections
e258 = refl

l258 : unmarked_links (codes "1. ```rs\n===<http://a>") ≡ link_at 1 (codes "http://a") ∷ []
unfolding sections
l258 = refl

e259 : printable_sections (codes "2) \t_<http://a>[ ] **.") ≡ behind (Number 2 ∷ []) 1 (row Paragraph (plain (codes "_") ∷ flagged false false false false true (codes "http://a") ∷ plain (codes "[ ] **.") ∷ []) ∷ []) ∷ []
unfolding sections
e259 = refl

l259 : unmarked_links (codes "2) \t_<http://a>[ ] **.") ≡ link_at 0 (codes "http://a") ∷ []
unfolding sections
l259 = refl

e260 : printable_sections (codes "2) <a>[a]* ](/u)`\n---\n") ≡ behind (Number 2 ∷ []) 1 (row Paragraph (plain (codes "[a]* ](/u)`") ∷ []) ∷ []) ∷ blank [] ∷ behind [] 0 (horizontal_rule ∷ []) ∷ []
unfolding sections
e260 = refl

e261 : printable_sections (codes "<div>**2) [ ] ~~```rs\n") ≡ behind [] 0 (row Paragraph (plain (codes "**2) [ ] ~~```rs") ∷ []) ∷ []) ∷ []
unfolding sections
e261 = refl

e262 : printable_sections (codes "<http://a>\n===\n](&#35;") ≡ behind [] 0 (row (Header 1) (flagged false false false false true (codes "http://a") ∷ []) ∷ []) ∷ blank [] ∷ behind [] 0 (row Paragraph (plain (codes "](#") ∷ []) ∷ []) ∷ []
unfolding sections
e262 = refl

l262 : unmarked_links (codes "<http://a>\n===\n](&#35;") ≡ link_at 0 (codes "http://a") ∷ []
unfolding sections
l262 = refl

e263 : printable_sections (codes "<http://a><http://a>\n!") ≡ behind [] 0 (row Paragraph (flagged false false false false true (codes "http://a") ∷ flagged false false false false true (codes "http://a") ∷ plain (codes " !") ∷ []) ∷ []) ∷ []
unfolding sections
e263 = refl

l263 : unmarked_links (codes "<http://a><http://a>\n!") ≡ link_at 0 (codes "http://a") ∷ link_at 0 (codes "http://a") ∷ []
unfolding sections
l263 = refl

e264 : printable_sections (codes "> >     foo.~~http://x") ≡ behind (Bar ∷ Bar ∷ Code ∷ []) 3 (code_row (plain (codes "foo.~~http://x") ∷ []) ∷ []) ∷ []
unfolding sections
e264 = refl

e265 : printable_sections (codes "[ ] ``    \n---\n~~\n===\n") ≡ behind [] 0 (row (Header 2) (plain (codes "[ ] ``") ∷ []) ∷ []) ∷ blank [] ∷ behind [] 0 (row (Header 1) (plain (codes "~~") ∷ []) ∷ []) ∷ []
unfolding sections
e265 = refl

e266 : printable_sections (codes "\n---\n<div>]<http://a>  ") ≡ behind [] 0 (horizontal_rule ∷ []) ∷ blank [] ∷ behind [] 0 (row Paragraph (plain (codes "]<http://a>") ∷ []) ∷ []) ∷ []
unfolding sections
e266 = refl

e267 : printable_sections (codes "1. <div>    \n|-|-|\n__)\n") ≡ behind (Number 1 ∷ []) 1 (row Paragraph ([]) ∷ []) ∷ behind [] 0 (row Paragraph (plain (codes "|-|-| __)") ∷ []) ∷ []) ∷ []
unfolding sections
e267 = refl

e268 : printable_sections (codes "1. <foo======<http://a>") ≡ behind (Number 1 ∷ []) 1 (row Paragraph (plain (codes "<foo======") ∷ flagged false false false false true (codes "http://a") ∷ []) ∷ []) ∷ []
unfolding sections
e268 = refl

l268 : unmarked_links (codes "1. <foo======<http://a>") ≡ link_at 0 (codes "http://a") ∷ []
unfolding sections
l268 = refl

e269 : printable_sections (codes "><a><b&amp;<http://a>\\*") ≡ behind (Bar ∷ []) 1 (row Paragraph (plain (codes "<b&") ∷ flagged false false false false true (codes "http://a") ∷ plain (codes "*") ∷ []) ∷ []) ∷ []
unfolding sections
e269 = refl

l269 : unmarked_links (codes "><a><b&amp;<http://a>\\*") ≡ link_at 0 (codes "http://a") ∷ []
unfolding sections
l269 = refl

e270 : printable_sections (codes "[ ] __](/u)\n|-|-|\n\n---\n") ≡ behind [] 0 (row Paragraph (plain (codes "[ ] __](/u) |-|-|") ∷ []) ∷ []) ∷ blank [] ∷ behind [] 0 (horizontal_rule ∷ []) ∷ []
unfolding sections
e270 = refl

e271 : printable_sections (codes "|-|[a]: /u\n_:\n|-|-|\n\n* ") ≡ behind [] 0 (row Paragraph (plain (codes "|-|[a]: /u _: |-|-|") ∷ []) ∷ []) ∷ blank [] ∷ behind (Bullet ∷ []) 1 (row Paragraph ([]) ∷ []) ∷ []
unfolding sections
e271 = refl

e272 : printable_sections (codes "\n|-|-|\n    > <div> \\*<a>") ≡ behind [] 0 (row Paragraph (plain (codes "|-|-| >  *") ∷ []) ∷ []) ∷ []
unfolding sections
e272 = refl

e273 : printable_sections (codes "'```rs\n1. - http://x'~~~") ≡ behind [] 0 (row Paragraph (plain (codes "'```rs") ∷ []) ∷ []) ∷ behind (Number 1 ∷ Bullet ∷ []) 2 (row Paragraph (flagged false false false false true (codes "http://x") ∷ plain (codes "'~~~") ∷ []) ∷ []) ∷ []
unfolding sections
e273 = refl

l273 : unmarked_links (codes "'```rs\n1. - http://x'~~~") ≡ link_at 1 (codes "http://x") ∷ []
unfolding sections
l273 = refl

e274 : printable_sections (codes "* foo\n|-|-|\n## <div><a>\\") ≡ behind (Bullet ∷ []) 1 (row Paragraph (plain (codes "foo |-|-|") ∷ []) ∷ []) ∷ blank [] ∷ behind [] 0 (row (Header 2) (plain (codes "\\") ∷ []) ∷ []) ∷ []
unfolding sections
e274 = refl

e275 : printable_sections (codes "<!--<!--[a]: /u\n <a>[ ] ") ≡ []
unfolding sections
e275 = refl

pub sections11 : AreSections11
sections11 = record { e251 = e251; e252 = e252; l252 = l252; e253 = e253; e254 = e254; e255 = e255; e256 = e256; l256 = l256; e257 = e257; e258 = e258; l258 = l258; e259 = e259; l259 = l259; e260 = e260; e261 = e261; e262 = e262; l262 = l262; e263 = e263; l263 = l263; e264 = e264; e265 = e265; e266 = e266; e267 = e267; e268 = e268; l268 = l268; e269 = e269; l269 = l269; e270 = e270; e271 = e271; e272 = e272; e273 = e273; l273 = l273; e274 = e274; e275 = e275 }
