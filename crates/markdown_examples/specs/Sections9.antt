-- Examples 201 to 225: their sections and links.
use Rattle.std.specs.Prelude.{◌≡◌, [], ◌∷◌, codes, true, false}
use Rattle.code_tables.specs.declared.rules.Language.TheVariants.{Rust}
use Rattle.mad_sections.specs.declared.gutters.Gutter.TheVariants.{Bar, Bullet, Number, Code}
use Rattle.mad_md.specs.declared.composite.CompositeStyle.TheVariants.{Paragraph, Header}
use Rattle.mad_md.specs.Lines.{horizontal_rule}
use Rattle.markdown_examples.specs.Rows.{plain, flagged, row, code_row, behind, blank, toned_behind}
use Rattle.markdown_reader.specs.Mapping.{link_at}
use Rattle.markdown_reader.specs.Markdown.{printable_sections, unmarked_links}

pub record AreSections9 : Type 0 where
  pub e201 : printable_sections (codes "\\b ```rs\n+ ~~~    ") ≡ behind [] 0 (row Paragraph (plain (codes "\\b ```rs") ∷ []) ∷ []) ∷ behind (Bullet ∷ []) 1 (row Paragraph ([]) ∷ []) ∷ []
  pub e202 : printable_sections (codes "foo\n---\n</a>[  2) ") ≡ behind [] 0 (row (Header 2) (plain (codes "foo") ∷ []) ∷ []) ∷ blank [] ∷ behind [] 0 (row Paragraph (plain (codes "[  2)") ∷ []) ∷ []) ∷ []
  pub e203 : printable_sections (codes "\n===\n1. - 2) ```rs\n") ≡ behind [] 0 (row Paragraph (plain (codes "===") ∷ []) ∷ []) ∷ behind (Number 1 ∷ Bullet ∷ Number 2 ∷ []) 3 (row Paragraph ([]) ∷ []) ∷ []
  pub e204 : printable_sections (codes " >   ```rs\nfoo`````") ≡ behind [] 0 (row Paragraph (plain (codes "foo`````") ∷ []) ∷ []) ∷ []
  pub e205 : printable_sections (codes "## ~~<b]</a>\t```rs\n") ≡ behind [] 0 (row (Header 2) (plain (codes "~~<b] ```rs") ∷ []) ∷ []) ∷ []
  pub e206 : printable_sections (codes "'<div></a>](/u)===a") ≡ behind [] 0 (row Paragraph (plain (codes "'](/u)===a") ∷ []) ∷ []) ∷ []
  pub e207 : printable_sections (codes "(](![``\n|-|-|\n <!--") ≡ behind [] 0 (row Paragraph (plain (codes "(](![`` |-|-|") ∷ []) ∷ []) ∷ []
  pub e208 : printable_sections (codes "- b [a]: /u\n```# __") ≡ behind (Bullet ∷ []) 1 (row Paragraph (plain (codes "b [a]: /u") ∷ []) ∷ []) ∷ []
  pub e209 : printable_sections (45 ∷ 45 ∷ 45 ∷ 10 ∷ 124 ∷ 45 ∷ 124 ∷ 45 ∷ 124 ∷ 10 ∷ 33 ∷ 91 ∷ 230 ∷ 166 ∷ 130 ∷ 9 ∷ 10 ∷ 61 ∷ 61 ∷ 61 ∷ 10 ∷ []) ≡ behind [] 0 (horizontal_rule ∷ []) ∷ blank [] ∷ behind [] 0 (row (Header 1) (plain (124 ∷ 45 ∷ 124 ∷ 45 ∷ 124 ∷ 32 ∷ 33 ∷ 91 ∷ 230 ∷ 166 ∷ 130 ∷ []) ∷ []) ∷ []) ∷ []
  pub e210 : printable_sections (codes ".\n\n|-|<div>~~~~~|-|") ≡ behind [] 0 (row Paragraph (plain (codes ".") ∷ []) ∷ []) ∷ blank [] ∷ behind [] 0 (row Paragraph (plain (codes "|-|~~~~~|-|") ∷ []) ∷ []) ∷ []
  pub e211 : printable_sections (codes "1.       __\n---\nb !") ≡ behind (Number 1 ∷ Code ∷ []) 2 (code_row (plain (codes "  __") ∷ []) ∷ []) ∷ blank [] ∷ behind [] 0 (horizontal_rule ∷ []) ∷ blank [] ∷ behind [] 0 (row Paragraph (plain (codes "b !") ∷ []) ∷ []) ∷ []
  pub e212 : printable_sections (codes "<!--.# <a><!--_</a>") ≡ []
  pub e213 : printable_sections (codes "<!--```rs\n``\n![[a]\t") ≡ []
  pub e214 : printable_sections (codes "</a>2) ](/u)\n---\n![") ≡ behind [] 0 (row (Header 2) (plain (codes "2) ](/u)") ∷ []) ∷ []) ∷ blank [] ∷ behind [] 0 (row Paragraph (plain (codes "![") ∷ []) ∷ []) ∷ []
  pub e215 : printable_sections (60 ∷ 47 ∷ 97 ∷ 62 ∷ 96 ∷ 96 ∷ 226 ∷ 128 ∷ 156 ∷ 10 ∷ 61 ∷ 61 ∷ 61 ∷ 10 ∷ 93 ∷ 40 ∷ 47 ∷ 117 ∷ 41 ∷ 126 ∷ 126 ∷ []) ≡ behind [] 0 (row (Header 1) (plain (96 ∷ 96 ∷ 226 ∷ 128 ∷ 156 ∷ []) ∷ []) ∷ []) ∷ blank [] ∷ behind [] 0 (row Paragraph (plain (codes "](/u)~~") ∷ []) ∷ []) ∷ []
  pub e216 : printable_sections (codes "<div>\t> \n===\n===](\\") ≡ behind [] 0 (row Paragraph (plain (codes "> === ===](\\") ∷ []) ∷ []) ∷ []
  pub e217 : printable_sections (codes "<div>..\n===\n>[a]## ") ≡ behind [] 0 (row Paragraph (plain (codes ".. === >[a]##") ∷ []) ∷ []) ∷ []
  pub e218 : printable_sections (60 ∷ 104 ∷ 116 ∷ 116 ∷ 112 ∷ 58 ∷ 47 ∷ 47 ∷ 97 ∷ 62 ∷ 226 ∷ 128 ∷ 156 ∷ 92 ∷ 42 ∷ 46 ∷ 10 ∷ 45 ∷ 45 ∷ 45 ∷ 10 ∷ []) ≡ behind [] 0 (row (Header 2) (flagged false false false false true (codes "http://a") ∷ plain (226 ∷ 128 ∷ 156 ∷ 42 ∷ 46 ∷ []) ∷ []) ∷ []) ∷ []
  pub l218 : unmarked_links (60 ∷ 104 ∷ 116 ∷ 116 ∷ 112 ∷ 58 ∷ 47 ∷ 47 ∷ 97 ∷ 62 ∷ 226 ∷ 128 ∷ 156 ∷ 92 ∷ 42 ∷ 46 ∷ 10 ∷ 45 ∷ 45 ∷ 45 ∷ 10 ∷ []) ≡ link_at 0 (codes "http://a") ∷ []
  pub e219 : printable_sections (codes "> \n\n\n|-|-|\n\n\n&#35;>") ≡ behind [] 0 (row Paragraph (plain (codes "|-|-|") ∷ []) ∷ []) ∷ blank [] ∷ behind [] 0 (row Paragraph (plain (codes "#>") ∷ []) ∷ []) ∷ []
  pub e220 : printable_sections (codes ">[a]: /u\nb **[](/u)") ≡ behind (Bar ∷ []) 1 (row Paragraph (plain (codes "b **") ∷ []) ∷ []) ∷ []
  pub l220 : unmarked_links (codes ">[a]: /u\nb **[](/u)") ≡ link_at 0 (codes "/u") ∷ []
  pub e221 : printable_sections (95 ∷ 91 ∷ 10 ∷ 61 ∷ 61 ∷ 61 ∷ 10 ∷ 96 ∷ 96 ∷ 96 ∷ 114 ∷ 115 ∷ 10 ∷ 42 ∷ 42 ∷ 102 ∷ 111 ∷ 111 ∷ 226 ∷ 128 ∷ 156 ∷ []) ≡ behind [] 0 (row (Header 1) (plain (codes "_[") ∷ []) ∷ []) ∷ blank [] ∷ toned_behind (Code ∷ []) 1 Rust (42 ∷ 42 ∷ 102 ∷ 111 ∷ 111 ∷ 226 ∷ 128 ∷ 156 ∷ []) (code_row (plain (42 ∷ 42 ∷ 102 ∷ 111 ∷ 111 ∷ 226 ∷ 128 ∷ 156 ∷ []) ∷ []) ∷ []) ∷ []
  pub e222 : printable_sections (codes "__<a>~~>\n===\n<div>\n") ≡ behind [] 0 (row (Header 1) (plain (codes "__~~>") ∷ []) ∷ []) ∷ []
  pub e223 : printable_sections (codes "\n---\n</a>\t__http://x") ≡ behind [] 0 (horizontal_rule ∷ []) ∷ blank [] ∷ behind [] 0 (row Paragraph (plain (codes "__") ∷ flagged false false false false true (codes "http://x") ∷ []) ∷ []) ∷ []
  pub l223 : unmarked_links (codes "\n---\n</a>\t__http://x") ≡ link_at 2 (codes "http://x") ∷ []
  pub e224 : printable_sections (codes "\n|-|-|\n<div>```<div>") ≡ behind [] 0 (row Paragraph (plain (codes "|-|-|") ∷ []) ∷ []) ∷ behind [] 0 (row Paragraph (plain (codes "```") ∷ []) ∷ []) ∷ []
  pub e225 : printable_sections (codes "# <http://a>http://x") ≡ behind [] 0 (row (Header 1) (flagged false false false false true (codes "http://a") ∷ flagged false false false false true (codes "http://x") ∷ []) ∷ []) ∷ []
  pub l225 : unmarked_links (codes "# <http://a>http://x") ≡ link_at 0 (codes "http://a") ∷ link_at 0 (codes "http://x") ∷ []
