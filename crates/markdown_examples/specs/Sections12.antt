-- Examples 276 to 300: their sections and links.
use Rattle.std.specs.Prelude.{◌≡◌, [], ◌∷◌, codes, true, false}
use Rattle.code_tables.specs.declared.rules.Language.TheVariants.{Rust}
use Rattle.mad_sections.specs.declared.gutters.Gutter.TheVariants.{Bullet, Number, Code}
use Rattle.mad_md.specs.declared.composite.CompositeStyle.TheVariants.{Paragraph, Header}
use Rattle.mad_md.specs.Lines.{horizontal_rule}
use Rattle.markdown_examples.specs.Rows.{plain, flagged, row, code_row, behind, blank, toned_behind}
use Rattle.markdown_reader.specs.Mapping.{link_at}
use Rattle.markdown_reader.specs.Markdown.{printable_sections, unmarked_links}

pub record AreSections12 : Type 0 where
  pub e276 : printable_sections (codes "](/u)2) \"* \n|-|-|\n\n---\n]") ≡ behind [] 0 (row Paragraph (plain (codes "](/u)2) \"* |-|-|") ∷ []) ∷ []) ∷ blank [] ∷ behind [] 0 (horizontal_rule ∷ []) ∷ blank [] ∷ behind [] 0 (row Paragraph (plain (codes "]") ∷ []) ∷ []) ∷ []
  pub e277 : printable_sections (codes "](/u)\\*</a>!['<http://a>") ≡ behind [] 0 (row Paragraph (plain (codes "](/u)*!['") ∷ flagged false false false false true (codes "http://a") ∷ []) ∷ []) ∷ []
  pub l277 : unmarked_links (codes "](/u)\\*</a>!['<http://a>") ≡ link_at 0 (codes "http://a") ∷ []
  pub e278 : printable_sections (codes "```rs\n<a>>](/u)---&#35;Ã©") ≡ toned_behind (Code ∷ []) 1 Rust (codes "<a>>](/u)---&#35;Ã©") (code_row (plain (codes "<a>>](/u)---&#35;Ã©") ∷ []) ∷ []) ∷ []
  pub e279 : printable_sections (codes "http://x* [a]\n\n](/u)</a>") ≡ behind [] 0 (row Paragraph (flagged false false false false true (codes "http://x") ∷ plain (codes "* [a]") ∷ []) ∷ []) ∷ blank [] ∷ behind [] 0 (row Paragraph (plain (codes "](/u)") ∷ []) ∷ []) ∷ []
  pub l279 : unmarked_links (codes "http://x* [a]\n\n](/u)</a>") ≡ link_at 0 (codes "http://x") ∷ []
  pub e280 : printable_sections (codes "~  ``<div>\\[a]: /u\n\n===\n") ≡ behind [] 0 (row Paragraph (plain (codes "~  ``[a]: /u") ∷ []) ∷ []) ∷ blank [] ∷ behind [] 0 (row Paragraph (plain (codes "===") ∷ []) ∷ []) ∷ []
  pub e281 : printable_sections (codes "~~\n\nb .**<div><http://a>") ≡ behind [] 0 (row Paragraph (plain (codes "~~") ∷ []) ∷ []) ∷ blank [] ∷ behind [] 0 (row Paragraph (plain (codes "b .**") ∷ flagged false false false false true (codes "http://a") ∷ []) ∷ []) ∷ []
  pub l281 : unmarked_links (codes "~~\n\nb .**<div><http://a>") ≡ link_at 2 (codes "http://a") ∷ []
  pub e282 : printable_sections (230 ∷ 166 ∷ 130 ∷ 96 ∷ 96 ∷ 96 ∷ 114 ∷ 115 ∷ 10 ∷ 60 ∷ 33 ∷ 45 ∷ 45 ∷ 49 ∷ 46 ∷ 32 ∷ 10 ∷ 124 ∷ 45 ∷ 124 ∷ 45 ∷ 124 ∷ 10 ∷ 62 ∷ 32 ∷ 32 ∷ []) ≡ behind [] 0 (row Paragraph (plain (230 ∷ 166 ∷ 130 ∷ 96 ∷ 96 ∷ 96 ∷ 114 ∷ 115 ∷ []) ∷ []) ∷ []) ∷ []
  pub e283 : printable_sections (codes "\n===\n]<div>\n:<http://a>b ") ≡ behind [] 0 (row Paragraph (plain (codes "=== ] :") ∷ flagged false false false false true (codes "http://a") ∷ plain (codes "b") ∷ []) ∷ []) ∷ []
  pub l283 : unmarked_links (codes "\n===\n]<div>\n:<http://a>b ") ≡ link_at 0 (codes "http://a") ∷ []
  pub e284 : printable_sections (codes "+ # ``<http://a>\\\n---\n2) ") ≡ behind (Bullet ∷ []) 1 (row (Header 1) (plain (codes "``") ∷ flagged false false false false true (codes "http://a") ∷ plain (codes "\\") ∷ []) ∷ []) ∷ blank [] ∷ behind [] 0 (horizontal_rule ∷ []) ∷ blank [] ∷ behind (Number 2 ∷ []) 1 (row Paragraph ([]) ∷ []) ∷ []
  pub l284 : unmarked_links (codes "+ # ``<http://a>\\\n---\n2) ") ≡ link_at 0 (codes "http://a") ∷ []
  pub e285 : printable_sections (codes "1. <b</a>](&amp;[a]: /u\n|") ≡ behind (Number 1 ∷ []) 1 (row Paragraph (plain (codes "<b](&[a]: /u |") ∷ []) ∷ []) ∷ []
  pub e286 : printable_sections (codes "2) ~\n---\n<!--  <http://a>") ≡ behind (Number 2 ∷ []) 1 (row Paragraph (plain (codes "~") ∷ []) ∷ []) ∷ blank [] ∷ behind [] 0 (horizontal_rule ∷ []) ∷ []
  pub e287 : printable_sections (codes "# <!--    ---[a]: /u\n# [a]") ≡ behind [] 0 (row (Header 1) (plain (codes "<!--    ---[a]: /u") ∷ []) ∷ []) ∷ blank [] ∷ behind [] 0 (row (Header 1) (plain (codes "[a]") ∷ []) ∷ []) ∷ []
  pub e288 : printable_sections (codes "<!--    &amp;\n---\n|-|Ã©</a>") ≡ []
  pub e289 : printable_sections (codes "<!--\"<http://a>Ã©\n\n\n===\n## ") ≡ []
  pub e290 : printable_sections (codes "<!--<http://a>[ ] ```rs\n<b") ≡ []
  pub e291 : printable_sections (codes "</a>)\n===\n\n===\n<http://a>!") ≡ behind [] 0 (row (Header 1) (plain (codes ")") ∷ []) ∷ []) ∷ blank [] ∷ behind [] 0 (row Paragraph (plain (codes "=== ") ∷ flagged false false false false true (codes "http://a") ∷ plain (codes "!") ∷ []) ∷ []) ∷ []
  pub l291 : unmarked_links (codes "</a>)\n===\n\n===\n<http://a>!") ≡ link_at 2 (codes "http://a") ∷ []
  pub e292 : printable_sections (60 ∷ 47 ∷ 97 ∷ 62 ∷ 60 ∷ 100 ∷ 105 ∷ 118 ∷ 62 ∷ 226 ∷ 128 ∷ 156 ∷ 91 ∷ 97 ∷ 93 ∷ 58 ∷ 32 ∷ 47 ∷ 117 ∷ 10 ∷ 124 ∷ 93 ∷ 40 ∷ 10 ∷ 45 ∷ 45 ∷ 45 ∷ 10 ∷ []) ≡ behind [] 0 (row (Header 2) (plain (226 ∷ 128 ∷ 156 ∷ 91 ∷ 97 ∷ 93 ∷ 58 ∷ 32 ∷ 47 ∷ 117 ∷ 32 ∷ 124 ∷ 93 ∷ 40 ∷ []) ∷ []) ∷ []) ∷ []
  pub e293 : printable_sections (codes "<div>```rs\n!:[a]: /u\n<a>- ") ≡ behind [] 0 (row Paragraph (plain (codes "```rs !:[a]: /u -") ∷ []) ∷ []) ∷ []
  pub e294 : printable_sections (codes "===[<http://a>```<a>\"\n---\n") ≡ behind [] 0 (row (Header 2) (plain (codes "===[") ∷ flagged false false false false true (codes "http://a") ∷ plain (codes "```\"") ∷ []) ∷ []) ∷ []
  pub l294 : unmarked_links (codes "===[<http://a>```<a>\"\n---\n") ≡ link_at 0 (codes "http://a") ∷ []
  pub e295 : printable_sections (codes "<b    >  >\n|-|-|\n<http://a>") ≡ behind [] 0 (row Paragraph (flagged true false false false false (codes "> |-|-| ") ∷ flagged true false false false true (codes "http://a") ∷ []) ∷ []) ∷ []
  pub l295 : unmarked_links (codes "<b    >  >\n|-|-|\n<http://a>") ≡ link_at 0 (codes "http://a") ∷ []
  pub e296 : printable_sections (10 ∷ 10 ∷ 124 ∷ 45 ∷ 124 ∷ 45 ∷ 124 ∷ 10 ∷ 42 ∷ 42 ∷ 91 ∷ 97 ∷ 93 ∷ 58 ∷ 32 ∷ 47 ∷ 117 ∷ 10 ∷ 10 ∷ 124 ∷ 45 ∷ 124 ∷ 45 ∷ 124 ∷ 10 ∷ 43 ∷ 32 ∷ 226 ∷ 128 ∷ 156 ∷ []) ≡ behind [] 0 (row Paragraph (plain (codes "|-|-| **[a]: /u") ∷ []) ∷ []) ∷ blank [] ∷ behind [] 0 (row Paragraph (plain (codes "|-|-|") ∷ []) ∷ []) ∷ behind (Bullet ∷ []) 1 (row Paragraph (plain (226 ∷ 128 ∷ 156 ∷ []) ∷ []) ∷ []) ∷ []
  pub e297 : printable_sections (codes "\n---\n<http://a>\n---\n`|-|[ ] ") ≡ behind [] 0 (horizontal_rule ∷ []) ∷ blank [] ∷ behind [] 0 (row (Header 2) (flagged false false false false true (codes "http://a") ∷ []) ∷ []) ∷ blank [] ∷ behind [] 0 (row Paragraph (plain (codes "`|-|[ ]") ∷ []) ∷ []) ∷ []
  pub l297 : unmarked_links (codes "\n---\n<http://a>\n---\n`|-|[ ] ") ≡ link_at 2 (codes "http://a") ∷ []
  pub e298 : printable_sections (49 ∷ 46 ∷ 32 ∷ 60 ∷ 97 ∷ 62 ∷ 230 ∷ 166 ∷ 130 ∷ 60 ∷ 104 ∷ 116 ∷ 116 ∷ 112 ∷ 58 ∷ 47 ∷ 47 ∷ 97 ∷ 62 ∷ 60 ∷ 104 ∷ 116 ∷ 116 ∷ 112 ∷ 58 ∷ 47 ∷ 47 ∷ 120 ∷ 33 ∷ 91 ∷ []) ≡ behind (Number 1 ∷ []) 1 (row Paragraph (plain (230 ∷ 166 ∷ 130 ∷ []) ∷ flagged false false false false true (codes "http://a") ∷ plain (codes "<") ∷ flagged false false false false true (codes "http://x![") ∷ []) ∷ []) ∷ []
  pub l298 : unmarked_links (49 ∷ 46 ∷ 32 ∷ 60 ∷ 97 ∷ 62 ∷ 230 ∷ 166 ∷ 130 ∷ 60 ∷ 104 ∷ 116 ∷ 116 ∷ 112 ∷ 58 ∷ 47 ∷ 47 ∷ 97 ∷ 62 ∷ 60 ∷ 104 ∷ 116 ∷ 116 ∷ 112 ∷ 58 ∷ 47 ∷ 47 ∷ 120 ∷ 33 ∷ 91 ∷ []) ≡ link_at 0 (codes "http://a") ∷ link_at 0 (codes "http://x![") ∷ []
  pub e299 : printable_sections (codes "<!--===```* \n===\n\t<http://a>") ≡ []
  pub e300 : printable_sections (codes "===\n|-|-|\n+ :> <http://a>~~~") ≡ behind [] 0 (row Paragraph (plain (codes "=== |-|-|") ∷ []) ∷ []) ∷ behind (Bullet ∷ []) 1 (row Paragraph (plain (codes ":> ") ∷ flagged false false false false true (codes "http://a") ∷ plain (codes "~~~") ∷ []) ∷ []) ∷ []
  pub l300 : unmarked_links (codes "===\n|-|-|\n+ :> <http://a>~~~") ≡ link_at 1 (codes "http://a") ∷ []
