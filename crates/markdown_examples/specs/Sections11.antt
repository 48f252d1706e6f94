-- Examples 251 to 275: their sections and links.
use Rattle.std.specs.Prelude.{◌≡◌, [], ◌∷◌, codes, true, false}
use Rattle.mad_sections.specs.declared.gutters.Gutter.TheVariants.{Bar, Bullet, Number, Code}
use Rattle.mad_md.specs.declared.composite.CompositeStyle.TheVariants.{Paragraph, Header}
use Rattle.mad_md.specs.Lines.{horizontal_rule}
use Rattle.markdown_examples.specs.Rows.{plain, flagged, row, code_row, behind, blank}
use Rattle.markdown_reader.specs.Mapping.{link_at}
use Rattle.markdown_reader.specs.Markdown.{printable_sections, unmarked_links}

pub record AreSections11 : Type 0 where
  pub e251 : printable_sections (10 ∷ 45 ∷ 45 ∷ 45 ∷ 10 ∷ 10 ∷ 45 ∷ 45 ∷ 45 ∷ 10 ∷ 124 ∷ 45 ∷ 124 ∷ 46 ∷ 96 ∷ 96 ∷ 96 ∷ 114 ∷ 115 ∷ 10 ∷ 195 ∷ 169 ∷ 230 ∷ 166 ∷ 130 ∷ []) ≡ behind [] 0 (horizontal_rule ∷ []) ∷ blank [] ∷ behind [] 0 (horizontal_rule ∷ []) ∷ blank [] ∷ behind [] 0 (row Paragraph (plain (124 ∷ 45 ∷ 124 ∷ 46 ∷ 96 ∷ 96 ∷ 96 ∷ 114 ∷ 115 ∷ 32 ∷ 195 ∷ 169 ∷ 230 ∷ 166 ∷ 130 ∷ []) ∷ []) ∷ []) ∷ []
  pub e252 : printable_sections (codes "\n---\n# <http://a>-->* ") ≡ behind [] 0 (horizontal_rule ∷ []) ∷ blank [] ∷ behind [] 0 (row (Header 1) (flagged false false false false true (codes "http://a") ∷ plain (codes "-->*") ∷ []) ∷ []) ∷ []
  pub l252 : unmarked_links (codes "\n---\n# <http://a>-->* ") ≡ link_at 2 (codes "http://a") ∷ []
  pub e253 : printable_sections (codes "\n---\n<!--http://x[a]](") ≡ behind [] 0 (horizontal_rule ∷ []) ∷ []
  pub e254 : printable_sections (codes "\n===\n<div>```~~~\\](/u)") ≡ behind [] 0 (row Paragraph (plain (codes "===") ∷ []) ∷ []) ∷ behind [] 0 (row Paragraph (plain (codes "```~~~\\](/u)") ∷ []) ∷ []) ∷ []
  pub e255 : printable_sections (codes "  <a></a>    + ---[ ] ") ≡ behind [] 0 (row Paragraph (plain (codes "+ ---[ ]") ∷ []) ∷ []) ∷ []
  pub e256 : printable_sections (codes ")## <http://a>a\n\nfoo**") ≡ behind [] 0 (row Paragraph (plain (codes ")## ") ∷ flagged false false false false true (codes "http://a") ∷ plain (codes "a") ∷ []) ∷ []) ∷ blank [] ∷ behind [] 0 (row Paragraph (plain (codes "foo**") ∷ []) ∷ []) ∷ []
  pub l256 : unmarked_links (codes ")## <http://a>a\n\nfoo**") ≡ link_at 0 (codes "http://a") ∷ []
  pub e257 : printable_sections (codes "*[a]: /u\n+ ---\n\\*&#35;") ≡ behind [] 0 (row Paragraph (plain (codes "*[a]: /u") ∷ []) ∷ []) ∷ blank [] ∷ behind (Bullet ∷ []) 1 (horizontal_rule ∷ []) ∷ blank [] ∷ behind [] 0 (row Paragraph (plain (codes "*#") ∷ []) ∷ []) ∷ []
  pub e258 : printable_sections (codes "1. ```rs\n===<http://a>") ≡ behind (Number 1 ∷ []) 1 (row Paragraph ([]) ∷ []) ∷ behind [] 0 (row Paragraph (plain (codes "===") ∷ flagged false false false false true (codes "http://a") ∷ []) ∷ []) ∷ []
  pub l258 : unmarked_links (codes "1. ```rs\n===<http://a>") ≡ link_at 1 (codes "http://a") ∷ []
  pub e259 : printable_sections (codes "2) \t_<http://a>[ ] **.") ≡ behind (Number 2 ∷ []) 1 (row Paragraph (plain (codes "_") ∷ flagged false false false false true (codes "http://a") ∷ plain (codes "[ ] **.") ∷ []) ∷ []) ∷ []
  pub l259 : unmarked_links (codes "2) \t_<http://a>[ ] **.") ≡ link_at 0 (codes "http://a") ∷ []
  pub e260 : printable_sections (codes "2) <a>[a]* ](/u)`\n---\n") ≡ behind (Number 2 ∷ []) 1 (row Paragraph (plain (codes "[a]* ](/u)`") ∷ []) ∷ []) ∷ blank [] ∷ behind [] 0 (horizontal_rule ∷ []) ∷ []
  pub e261 : printable_sections (codes "<div>**2) [ ] ~~```rs\n") ≡ behind [] 0 (row Paragraph (plain (codes "**2) [ ] ~~```rs") ∷ []) ∷ []) ∷ []
  pub e262 : printable_sections (codes "<http://a>\n===\n](&#35;") ≡ behind [] 0 (row (Header 1) (flagged false false false false true (codes "http://a") ∷ []) ∷ []) ∷ blank [] ∷ behind [] 0 (row Paragraph (plain (codes "](#") ∷ []) ∷ []) ∷ []
  pub l262 : unmarked_links (codes "<http://a>\n===\n](&#35;") ≡ link_at 0 (codes "http://a") ∷ []
  pub e263 : printable_sections (codes "<http://a><http://a>\n!") ≡ behind [] 0 (row Paragraph (flagged false false false false true (codes "http://a") ∷ flagged false false false false true (codes "http://a") ∷ plain (codes " !") ∷ []) ∷ []) ∷ []
  pub l263 : unmarked_links (codes "<http://a><http://a>\n!") ≡ link_at 0 (codes "http://a") ∷ link_at 0 (codes "http://a") ∷ []
  pub e264 : printable_sections (codes "> >     foo.~~http://x") ≡ behind (Bar ∷ Bar ∷ Code ∷ []) 3 (code_row (plain (codes "foo.~~http://x") ∷ []) ∷ []) ∷ []
  pub e265 : printable_sections (codes "[ ] ``    \n---\n~~\n===\n") ≡ behind [] 0 (row (Header 2) (plain (codes "[ ] ``") ∷ []) ∷ []) ∷ blank [] ∷ behind [] 0 (row (Header 1) (plain (codes "~~") ∷ []) ∷ []) ∷ []
  pub e266 : printable_sections (codes "\n---\n<div>]<http://a>  ") ≡ behind [] 0 (horizontal_rule ∷ []) ∷ blank [] ∷ behind [] 0 (row Paragraph (plain (codes "]<http://a>") ∷ []) ∷ []) ∷ []
  pub e267 : printable_sections (codes "1. <div>    \n|-|-|\n__)\n") ≡ behind (Number 1 ∷ []) 1 (row Paragraph ([]) ∷ []) ∷ behind [] 0 (row Paragraph (plain (codes "|-|-| __)") ∷ []) ∷ []) ∷ []
  pub e268 : printable_sections (codes "1. <foo======<http://a>") ≡ behind (Number 1 ∷ []) 1 (row Paragraph (plain (codes "<foo======") ∷ flagged false false false false true (codes "http://a") ∷ []) ∷ []) ∷ []
  pub l268 : unmarked_links (codes "1. <foo======<http://a>") ≡ link_at 0 (codes "http://a") ∷ []
  pub e269 : printable_sections (codes "><a><b&amp;<http://a>\\*") ≡ behind (Bar ∷ []) 1 (row Paragraph (plain (codes "<b&") ∷ flagged false false false false true (codes "http://a") ∷ plain (codes "*") ∷ []) ∷ []) ∷ []
  pub l269 : unmarked_links (codes "><a><b&amp;<http://a>\\*") ≡ link_at 0 (codes "http://a") ∷ []
  pub e270 : printable_sections (codes "[ ] __](/u)\n|-|-|\n\n---\n") ≡ behind [] 0 (row Paragraph (plain (codes "[ ] __](/u) |-|-|") ∷ []) ∷ []) ∷ blank [] ∷ behind [] 0 (horizontal_rule ∷ []) ∷ []
  pub e271 : printable_sections (codes "|-|[a]: /u\n_:\n|-|-|\n\n* ") ≡ behind [] 0 (row Paragraph (plain (codes "|-|[a]: /u _: |-|-|") ∷ []) ∷ []) ∷ blank [] ∷ behind (Bullet ∷ []) 1 (row Paragraph ([]) ∷ []) ∷ []
  pub e272 : printable_sections (codes "\n|-|-|\n    > <div> \\*<a>") ≡ behind [] 0 (row Paragraph (plain (codes "|-|-| >  *") ∷ []) ∷ []) ∷ []
  pub e273 : printable_sections (codes "'```rs\n1. - http://x'~~~") ≡ behind [] 0 (row Paragraph (plain (codes "'```rs") ∷ []) ∷ []) ∷ behind (Number 1 ∷ Bullet ∷ []) 2 (row Paragraph (flagged false false false false true (codes "http://x") ∷ plain (codes "'~~~") ∷ []) ∷ []) ∷ []
  pub l273 : unmarked_links (codes "'```rs\n1. - http://x'~~~") ≡ link_at 1 (codes "http://x") ∷ []
  pub e274 : printable_sections (codes "* foo\n|-|-|\n## <div><a>\\") ≡ behind (Bullet ∷ []) 1 (row Paragraph (plain (codes "foo |-|-|") ∷ []) ∷ []) ∷ blank [] ∷ behind [] 0 (row (Header 2) (plain (codes "\\") ∷ []) ∷ []) ∷ []
  pub e275 : printable_sections (codes "<!--<!--[a]: /u\n <a>[ ] ") ≡ []
