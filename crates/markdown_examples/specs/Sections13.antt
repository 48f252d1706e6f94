-- Examples 301 to 325: their sections and links.
use Rattle.std.specs.Prelude.{◌≡◌, [], ◌∷◌, codes, true, false}
use Rattle.mad_sections.specs.declared.gutters.Gutter.TheVariants.{Bar, Bullet, Number, Code}
use Rattle.mad_md.specs.declared.composite.CompositeStyle.TheVariants.{Paragraph, Header}
use Rattle.mad_md.specs.declared.alignment.Alignment.TheVariants.{Unspecified}
use Rattle.mad_md.specs.Lines.{table_rule, horizontal_rule}
use Rattle.markdown_examples.specs.Rows.{plain, flagged, row, code_row, cells, behind, table_behind, blank}
use Rattle.markdown_reader.specs.Mapping.{link_at}
use Rattle.markdown_reader.specs.Markdown.{printable_sections, unmarked_links}

pub record AreSections13 : Type 0 where
  pub e301 : printable_sections (codes "](/u)\"b <http://a>foofoo</a>") ≡ behind [] 0 (row Paragraph (plain (codes "](/u)\"b ") ∷ flagged false false false false true (codes "http://a") ∷ plain (codes "foofoo") ∷ []) ∷ []) ∷ []
  pub l301 : unmarked_links (codes "](/u)\"b <http://a>foofoo</a>") ≡ link_at 0 (codes "http://a") ∷ []
  pub e302 : printable_sections (codes "&#35;'---\n|-|-|\n|\n\n<http://a>") ≡ behind [] 0 (row Paragraph (plain (codes "#'--- |-|-| |") ∷ []) ∷ []) ∷ blank [] ∷ behind [] 0 (row Paragraph (flagged false false false false true (codes "http://a") ∷ []) ∷ []) ∷ []
  pub l302 : unmarked_links (codes "&#35;'---\n|-|-|\n|\n\n<http://a>") ≡ link_at 2 (codes "http://a") ∷ []
  pub e303 : printable_sections (codes "__<http://a>[a]: /u\n*\n|-|-|\n)") ≡ behind [] 0 (row Paragraph (plain (codes "__") ∷ flagged false false false false true (codes "http://a") ∷ plain (codes "[a]: /u * |-|-| )") ∷ []) ∷ []) ∷ []
  pub l303 : unmarked_links (codes "__<http://a>[a]: /u\n*\n|-|-|\n)") ≡ link_at 0 (codes "http://a") ∷ []
  pub e304 : printable_sections (124 ∷ 32 ∷ 97 ∷ 32 ∷ 124 ∷ 32 ∷ 98 ∷ 32 ∷ 124 ∷ 10 ∷ 124 ∷ 45 ∷ 124 ∷ 45 ∷ 124 ∷ 10 ∷ 124 ∷ 32 ∷ 99 ∷ 32 ∷ 124 ∷ 32 ∷ 100 ∷ 32 ∷ 124 ∷ 10 ∷ 62 ∷ 32 ∷ 230 ∷ 166 ∷ 130 ∷ []) ≡ table_behind [] 0 (table_rule (Unspecified ∷ Unspecified ∷ []) ∷ cells ((flagged true false false false false (codes "a") ∷ []) ∷ (flagged true false false false false (codes "b") ∷ []) ∷ []) ∷ table_rule (Unspecified ∷ Unspecified ∷ []) ∷ cells ((plain (codes "c") ∷ []) ∷ (plain (codes "d") ∷ []) ∷ []) ∷ table_rule (Unspecified ∷ Unspecified ∷ []) ∷ []) ∷ blank [] ∷ behind (Bar ∷ []) 1 (row Paragraph (plain (230 ∷ 166 ∷ 130 ∷ []) ∷ []) ∷ []) ∷ []
  pub e305 : printable_sections (codes "<div><http://a>\\[a]|![http://x") ≡ behind [] 0 (row Paragraph (plain (codes "<http://a>\\[a]|![http://x") ∷ []) ∷ []) ∷ []
  pub e306 : printable_sections (codes "[a]: /u\n~## [a]: /u\n  <div>~~~") ≡ behind [] 0 (row Paragraph (plain (codes "~## ") ∷ flagged false false false false true (codes "a") ∷ plain (codes ": /u") ∷ []) ∷ []) ∷ behind [] 0 (row Paragraph (plain (codes "~~~") ∷ []) ∷ []) ∷ []
  pub l306 : unmarked_links (codes "[a]: /u\n~## [a]: /u\n  <div>~~~") ≡ link_at 0 (codes "/u") ∷ []
  pub e307 : printable_sections (codes "## <http://a>http://x2) \n``````") ≡ behind [] 0 (row (Header 2) (flagged false false false false true (codes "http://a") ∷ flagged false false false false true (codes "http://x2") ∷ plain (codes ")") ∷ []) ∷ []) ∷ []
  pub l307 : unmarked_links (codes "## <http://a>http://x2) \n``````") ≡ link_at 0 (codes "http://a") ∷ link_at 0 (codes "http://x2") ∷ []
  pub e308 : printable_sections (codes "http://x\n---\n[a]<div><div>## - ") ≡ behind [] 0 (row (Header 2) (flagged false false false false true (codes "http://x") ∷ []) ∷ []) ∷ blank [] ∷ behind [] 0 (row Paragraph (plain (codes "[a]## -") ∷ []) ∷ []) ∷ []
  pub l308 : unmarked_links (codes "http://x\n---\n[a]<div><div>## - ") ≡ link_at 0 (codes "http://x") ∷ []
  pub e309 : printable_sections (codes "| a | b |\n|-|-|\n| c | d |\n# b !") ≡ table_behind [] 0 (table_rule (Unspecified ∷ Unspecified ∷ []) ∷ cells ((flagged true false false false false (codes "a") ∷ []) ∷ (flagged true false false false false (codes "b") ∷ []) ∷ []) ∷ table_rule (Unspecified ∷ Unspecified ∷ []) ∷ cells ((plain (codes "c") ∷ []) ∷ (plain (codes "d") ∷ []) ∷ []) ∷ table_rule (Unspecified ∷ Unspecified ∷ []) ∷ []) ∷ blank [] ∷ behind [] 0 (row (Header 1) (plain (codes "b !") ∷ []) ∷ []) ∷ []
  pub e310 : printable_sections (60 ∷ 47 ∷ 97 ∷ 62 ∷ 10 ∷ 124 ∷ 32 ∷ 97 ∷ 32 ∷ 124 ∷ 32 ∷ 98 ∷ 32 ∷ 124 ∷ 10 ∷ 124 ∷ 45 ∷ 124 ∷ 45 ∷ 124 ∷ 10 ∷ 124 ∷ 32 ∷ 99 ∷ 32 ∷ 124 ∷ 32 ∷ 100 ∷ 32 ∷ 124 ∷ 10 ∷ 226 ∷ 128 ∷ 156 ∷ []) ≡ behind [] 0 (row Paragraph (plain (124 ∷ 32 ∷ 97 ∷ 32 ∷ 124 ∷ 32 ∷ 98 ∷ 32 ∷ 124 ∷ 32 ∷ 124 ∷ 45 ∷ 124 ∷ 45 ∷ 124 ∷ 32 ∷ 124 ∷ 32 ∷ 99 ∷ 32 ∷ 124 ∷ 32 ∷ 100 ∷ 32 ∷ 124 ∷ 32 ∷ 226 ∷ 128 ∷ 156 ∷ []) ∷ []) ∷ []) ∷ []
  pub e311 : printable_sections (codes "| a | b |\n|-|-|\n| c | d |\n<div><b") ≡ table_behind [] 0 (table_rule (Unspecified ∷ Unspecified ∷ []) ∷ cells ((flagged true false false false false (codes "a") ∷ []) ∷ (flagged true false false false false (codes "b") ∷ []) ∷ []) ∷ table_rule (Unspecified ∷ Unspecified ∷ []) ∷ cells ((plain (codes "c") ∷ []) ∷ (plain (codes "d") ∷ []) ∷ []) ∷ table_rule (Unspecified ∷ Unspecified ∷ []) ∷ []) ∷ blank [] ∷ behind [] 0 (row Paragraph (plain (codes "<b") ∷ []) ∷ []) ∷ []
  pub e312 : printable_sections (codes "> + **  | a | b |\n|-|-|\n| c | d |\n") ≡ behind (Bar ∷ Bullet ∷ []) 2 (row Paragraph (plain (codes "**  | a | b | |-|-| | c | d |") ∷ []) ∷ []) ∷ []
  pub e313 : printable_sections (codes "(**a\n---\n>| a | b |\n|-|-|\n| c | d |\n") ≡ behind [] 0 (row (Header 2) (plain (codes "(**a") ∷ []) ∷ []) ∷ blank [] ∷ behind (Bar ∷ []) 1 (row Paragraph (plain (codes "| a | b | |-|-| | c | d |") ∷ []) ∷ []) ∷ []
  pub e314 : printable_sections (60 ∷ 97 ∷ 62 ∷ 60 ∷ 97 ∷ 62 ∷ 102 ∷ 111 ∷ 111 ∷ 124 ∷ 32 ∷ 97 ∷ 32 ∷ 124 ∷ 32 ∷ 98 ∷ 32 ∷ 124 ∷ 10 ∷ 124 ∷ 45 ∷ 124 ∷ 45 ∷ 124 ∷ 10 ∷ 124 ∷ 32 ∷ 99 ∷ 32 ∷ 124 ∷ 32 ∷ 100 ∷ 32 ∷ 124 ∷ 10 ∷ 226 ∷ 128 ∷ 156 ∷ []) ≡ behind [] 0 (row Paragraph (plain (102 ∷ 111 ∷ 111 ∷ 124 ∷ 32 ∷ 97 ∷ 32 ∷ 124 ∷ 32 ∷ 98 ∷ 32 ∷ 124 ∷ 32 ∷ 124 ∷ 45 ∷ 124 ∷ 45 ∷ 124 ∷ 32 ∷ 124 ∷ 32 ∷ 99 ∷ 32 ∷ 124 ∷ 32 ∷ 100 ∷ 32 ∷ 124 ∷ 32 ∷ 226 ∷ 128 ∷ 156 ∷ []) ∷ []) ∷ []) ∷ []
  pub e315 : printable_sections (codes "## foo:<div>| a | b |\n|-|-|\n| c | d |\n") ≡ behind [] 0 (row (Header 2) (plain (codes "foo:| a | b |") ∷ []) ∷ []) ∷ blank [] ∷ behind [] 0 (row Paragraph (plain (codes "|-|-| | c | d |") ∷ []) ∷ []) ∷ []
  pub e316 : printable_sections (codes "\t-->|-|| a | b |\n|-|-|\n| c | d |\n\n1. \n\n") ≡ behind (Code ∷ []) 1 (code_row (plain (codes "-->|-|| a | b |") ∷ []) ∷ []) ∷ blank [] ∷ behind [] 0 (row Paragraph (plain (codes "|-|-| | c | d |") ∷ []) ∷ []) ∷ blank [] ∷ behind (Number 1 ∷ []) 1 (row Paragraph ([]) ∷ []) ∷ []
  pub e317 : printable_sections (codes "<div>[ ] - | a | b |\n|-|-|\n| c | d |\n'\\") ≡ behind [] 0 (row Paragraph (plain (codes "[ ] - | a | b | |-|-| | c | d | '\\") ∷ []) ∷ []) ∷ []
  pub e318 : printable_sections (codes "| a | b |\n|-|-|\n| c | d |\n](/u)\n===\n<a>") ≡ table_behind [] 0 (table_rule (Unspecified ∷ Unspecified ∷ []) ∷ cells ((flagged true false false false false (codes "a") ∷ []) ∷ (flagged true false false false false (codes "b") ∷ []) ∷ []) ∷ table_rule (Unspecified ∷ Unspecified ∷ []) ∷ cells ((plain (codes "c") ∷ []) ∷ (plain (codes "d") ∷ []) ∷ []) ∷ cells ((plain (codes "](/u)") ∷ []) ∷ []) ∷ cells ((plain (codes "===") ∷ []) ∷ []) ∷ table_rule (Unspecified ∷ Unspecified ∷ []) ∷ []) ∷ []
  pub e319 : printable_sections (230 ∷ 166 ∷ 130 ∷ 60 ∷ 93 ∷ 10 ∷ 45 ∷ 45 ∷ 45 ∷ 10 ∷ 124 ∷ 32 ∷ 97 ∷ 32 ∷ 124 ∷ 32 ∷ 98 ∷ 32 ∷ 124 ∷ 10 ∷ 124 ∷ 45 ∷ 124 ∷ 45 ∷ 124 ∷ 10 ∷ 124 ∷ 32 ∷ 99 ∷ 32 ∷ 124 ∷ 32 ∷ 100 ∷ 32 ∷ 124 ∷ 10 ∷ 62 ∷ 32 ∷ 102 ∷ 111 ∷ 111 ∷ []) ≡ behind [] 0 (row (Header 2) (plain (230 ∷ 166 ∷ 130 ∷ 60 ∷ 93 ∷ []) ∷ []) ∷ []) ∷ blank [] ∷ table_behind [] 0 (table_rule (Unspecified ∷ Unspecified ∷ []) ∷ cells ((flagged true false false false false (codes "a") ∷ []) ∷ (flagged true false false false false (codes "b") ∷ []) ∷ []) ∷ table_rule (Unspecified ∷ Unspecified ∷ []) ∷ cells ((plain (codes "c") ∷ []) ∷ (plain (codes "d") ∷ []) ∷ []) ∷ table_rule (Unspecified ∷ Unspecified ∷ []) ∷ []) ∷ blank [] ∷ behind (Bar ∷ []) 1 (row Paragraph (plain (codes "foo") ∷ []) ∷ []) ∷ []
  pub e320 : printable_sections (codes "- ## <b\t&amp;| a | b |\n|-|-|\n| c | d |\n!") ≡ behind (Bullet ∷ []) 1 (row (Header 2) (plain (codes "<b &| a | b |") ∷ []) ∷ []) ∷ blank [] ∷ behind [] 0 (row Paragraph (plain (codes "|-|-| | c | d | !") ∷ []) ∷ []) ∷ []
  pub e321 : printable_sections (codes "| a | b |\n|-|-|\n| c | d |\n>\"&amp;![\n---\n") ≡ table_behind [] 0 (table_rule (Unspecified ∷ Unspecified ∷ []) ∷ cells ((flagged true false false false false (codes "a") ∷ []) ∷ (flagged true false false false false (codes "b") ∷ []) ∷ []) ∷ table_rule (Unspecified ∷ Unspecified ∷ []) ∷ cells ((plain (codes "c") ∷ []) ∷ (plain (codes "d") ∷ []) ∷ []) ∷ table_rule (Unspecified ∷ Unspecified ∷ []) ∷ []) ∷ blank [] ∷ behind (Bar ∷ []) 1 (row Paragraph (plain (codes "\"&![") ∷ []) ∷ []) ∷ blank [] ∷ behind [] 0 (horizontal_rule ∷ []) ∷ []
  pub e322 : printable_sections (codes "| a | b |\n|-|-|\n| c | d |\n<http://a>`[a]`") ≡ table_behind [] 0 (table_rule (Unspecified ∷ Unspecified ∷ []) ∷ cells ((flagged true false false false false (codes "a") ∷ []) ∷ (flagged true false false false false (codes "b") ∷ []) ∷ []) ∷ table_rule (Unspecified ∷ Unspecified ∷ []) ∷ cells ((plain (codes "c") ∷ []) ∷ (plain (codes "d") ∷ []) ∷ []) ∷ cells ((flagged false false false false true (codes "http://a") ∷ flagged false false true false false (codes "[a]") ∷ []) ∷ []) ∷ table_rule (Unspecified ∷ Unspecified ∷ []) ∷ []) ∷ []
  pub l322 : unmarked_links (codes "| a | b |\n|-|-|\n| c | d |\n<http://a>`[a]`") ≡ link_at 0 (codes "http://a") ∷ []
  pub e323 : printable_sections (codes "1. | a | b |\n|-|-|\n| c | d |\n*   [a]: /u\n]") ≡ behind (Number 1 ∷ []) 1 (row Paragraph (plain (codes "| a | b | |-|-| | c | d |") ∷ []) ∷ []) ∷ behind (Bullet ∷ []) 1 (row Paragraph (plain (codes "]") ∷ []) ∷ []) ∷ []
  pub e324 : printable_sections (codes "+ \n&#35;| a | b |\n|-|-|\n| c | d |\n](/u)</a>") ≡ behind (Bullet ∷ []) 1 (row Paragraph ([]) ∷ []) ∷ behind [] 0 (row Paragraph (plain (codes "#| a | b | |-|-| | c | d | ](/u)") ∷ []) ∷ []) ∷ []
  pub e325 : printable_sections (codes "* \n===\n~<http://a>| a | b |\n|-|-|\n| c | d |\n") ≡ behind (Bullet ∷ []) 1 (row Paragraph ([]) ∷ []) ∷ behind [] 0 (row Paragraph (plain (codes "=== ~") ∷ flagged false false false false true (codes "http://a") ∷ plain (codes "| a | b | |-|-| | c | d |") ∷ []) ∷ []) ∷ []
  pub l325 : unmarked_links (codes "* \n===\n~<http://a>| a | b |\n|-|-|\n| c | d |\n") ≡ link_at 1 (codes "http://a") ∷ []
