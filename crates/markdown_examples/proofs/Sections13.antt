-- Examples 301 to 325, computed.
use Rattle.std.proofs.Common.{◌≡◌, [], ◌∷◌, codes, true, false, refl}
use Rattle.mad_sections.specs.declared.gutters.Gutter.TheVariants.{Bar, Bullet, Number, Code}
use Rattle.mad_md.specs.declared.composite.CompositeStyle.TheVariants.{Paragraph, Header}
use Rattle.mad_md.specs.declared.alignment.Alignment.TheVariants.{Unspecified}
use Rattle.mad_md.specs.Lines.{table_rule, horizontal_rule}
use Rattle.markdown_examples.specs.Rows.{plain, flagged, row, code_row, cells, behind, table_behind, blank}
use Rattle.markdown_reader.specs.Mapping.{link_at}
use Rattle.markdown_reader.specs.Markdown.{printable_sections, unmarked_links}
use Rattle.markdown_examples.specs.Sections13.{AreSections13}
use Rattle.markdown_examples.proofs.Computing.{sections}

e301 : printable_sections (codes "](/u)\"b <http://a>foofoo</a>") ≡ behind [] 0 (row Paragraph (plain (codes "](/u)\"b ") ∷ flagged false false false false true (codes "http://a") ∷ plain (codes "foofoo") ∷ []) ∷ []) ∷ []
unfolding sections
e301 = refl

l301 : unmarked_links (codes "](/u)\"b <http://a>foofoo</a>") ≡ link_at 0 (codes "http://a") ∷ []
unfolding sections
l301 = refl

e302 : printable_sections (codes "&#35;'---\n|-|-|\n|\n\n<http://a>") ≡ behind [] 0 (row Paragraph (plain (codes "#'--- |-|-| |") ∷ []) ∷ []) ∷ blank [] ∷ behind [] 0 (row Paragraph (flagged false false false false true (codes "http://a") ∷ []) ∷ []) ∷ []
unfolding sections
e302 = refl

l302 : unmarked_links (codes "&#35;'---\n|-|-|\n|\n\n<http://a>") ≡ link_at 2 (codes "http://a") ∷ []
unfolding sections
l302 = refl

e303 : printable_sections (codes "__<http://a>[a]: /u\n*\n|-|-|\n)") ≡ behind [] 0 (row Paragraph (plain (codes "__") ∷ flagged false false false false true (codes "http://a") ∷ plain (codes "[a]: /u * |-|-| )") ∷ []) ∷ []) ∷ []
unfolding sections
e303 = refl

l303 : unmarked_links (codes "__<http://a>[a]: /u\n*\n|-|-|\n)") ≡ link_at 0 (codes "http://a") ∷ []
unfolding sections
l303 = refl

e304 : printable_sections (124 ∷ 32 ∷ 97 ∷ 32 ∷ 124 ∷ 32 ∷ 98 ∷ 32 ∷ 124 ∷ 10 ∷ 124 ∷ 45 ∷ 124 ∷ 45 ∷ 124 ∷ 10 ∷ 124 ∷ 32 ∷ 99 ∷ 32 ∷ 124 ∷ 32 ∷ 100 ∷ 32 ∷ 124 ∷ 10 ∷ 62 ∷ 32 ∷ 230 ∷ 166 ∷ 130 ∷ []) ≡ table_behind [] 0 (table_rule (Unspecified ∷ Unspecified ∷ []) ∷ cells ((flagged true false false false false (codes "a") ∷ []) ∷ (flagged true false false false false (codes "b") ∷ []) ∷ []) ∷ table_rule (Unspecified ∷ Unspecified ∷ []) ∷ cells ((plain (codes "c") ∷ []) ∷ (plain (codes "d") ∷ []) ∷ []) ∷ table_rule (Unspecified ∷ Unspecified ∷ []) ∷ []) ∷ blank [] ∷ behind (Bar ∷ []) 1 (row Paragraph (plain (230 ∷ 166 ∷ 130 ∷ []) ∷ []) ∷ []) ∷ []
unfolding sections
e304 = refl

e305 : printable_sections (codes "<div><http://a>\\[a]|![http://x") ≡ behind [] 0 (row Paragraph (plain (codes "<http://a>\\[a]|![http://x") ∷ []) ∷ []) ∷ []
unfolding sections
e305 = refl

e306 : printable_sections (codes "[a]: /u\n~## [a]: /u\n  <div>~~~") ≡ behind [] 0 (row Paragraph (plain (codes "~## ") ∷ flagged false false false false true (codes "a") ∷ plain (codes ": /u") ∷ []) ∷ []) ∷ behind [] 0 (row Paragraph (plain (codes "~~~") ∷ []) ∷ []) ∷ []
unfolding sections
e306 = refl

l306 : unmarked_links (codes "[a]: /u\n~## [a]: /u\n  <div>~~~") ≡ link_at 0 (codes "/u") ∷ []
unfolding sections
l306 = refl

e307 : printable_sections (codes "## <http://a>http://x2) \n``````") ≡ behind [] 0 (row (Header 2) (flagged false false false false true (codes "http://a") ∷ flagged false false false false true (codes "http://x2") ∷ plain (codes ")") ∷ []) ∷ []) ∷ []
unfolding sections
e307 = refl

l307 : unmarked_links (codes "## <http://a>http://x2) \n``````") ≡ link_at 0 (codes "http://a") ∷ link_at 0 (codes "http://x2") ∷ []
unfolding sections
l307 = refl

e308 : printable_sections (codes "http://x\n---\n[a]<div><div>## - ") ≡ behind [] 0 (row (Header 2) (flagged false false false false true (codes "http://x") ∷ []) ∷ []) ∷ blank [] ∷ behind [] 0 (row Paragraph (plain (codes "[a]## -") ∷ []) ∷ []) ∷ []
unfolding sections
e308 = refl

l308 : unmarked_links (codes "http://x\n---\n[a]<div><div>## - ") ≡ link_at 0 (codes "http://x") ∷ []
unfolding sections
l308 = refl

e309 : printable_sections (codes "| a | b |\n|-|-|\n| c | d |\n# b !") ≡ table_behind [] 0 (table_rule (Unspecified ∷ Unspecified ∷ []) ∷ cells ((flagged true false false false false (codes "a") ∷ []) ∷ (flagged true false false false false (codes "b") ∷ []) ∷ []) ∷ table_rule (Unspecified ∷ Unspecified ∷ []) ∷ cells ((plain (codes "c") ∷ []) ∷ (plain (codes "d") ∷ []) ∷ []) ∷ table_rule (Unspecified ∷ Unspecified ∷ []) ∷ []) ∷ blank [] ∷ behind [] 0 (row (Header 1) (plain (codes "b !") ∷ []) ∷ []) ∷ []
unfolding sections
e309 = refl

e310 : printable_sections (60 ∷ 47 ∷ 97 ∷ 62 ∷ 10 ∷ 124 ∷ 32 ∷ 97 ∷ 32 ∷ 124 ∷ 32 ∷ 98 ∷ 32 ∷ 124 ∷ 10 ∷ 124 ∷ 45 ∷ 124 ∷ 45 ∷ 124 ∷ 10 ∷ 124 ∷ 32 ∷ 99 ∷ 32 ∷ 124 ∷ 32 ∷ 100 ∷ 32 ∷ 124 ∷ 10 ∷ 226 ∷ 128 ∷ 156 ∷ []) ≡ behind [] 0 (row Paragraph (plain (124 ∷ 32 ∷ 97 ∷ 32 ∷ 124 ∷ 32 ∷ 98 ∷ 32 ∷ 124 ∷ 32 ∷ 124 ∷ 45 ∷ 124 ∷ 45 ∷ 124 ∷ 32 ∷ 124 ∷ 32 ∷ 99 ∷ 32 ∷ 124 ∷ 32 ∷ 100 ∷ 32 ∷ 124 ∷ 32 ∷ 226 ∷ 128 ∷ 156 ∷ []) ∷ []) ∷ []) ∷ []
unfolding sections
e310 = refl

e311 : printable_sections (codes "| a | b |\n|-|-|\n| c | d |\n<div><b") ≡ table_behind [] 0 (table_rule (Unspecified ∷ Unspecified ∷ []) ∷ cells ((flagged true false false false false (codes "a") ∷ []) ∷ (flagged true false false false false (codes "b") ∷ []) ∷ []) ∷ table_rule (Unspecified ∷ Unspecified ∷ []) ∷ cells ((plain (codes "c") ∷ []) ∷ (plain (codes "d") ∷ []) ∷ []) ∷ table_rule (Unspecified ∷ Unspecified ∷ []) ∷ []) ∷ blank [] ∷ behind [] 0 (row Paragraph (plain (codes "<b") ∷ []) ∷ []) ∷ []
unfolding sections
e311 = refl

e312 : printable_sections (codes "> + **  | a | b |\n|-|-|\n| c | d |\n") ≡ behind (Bar ∷ Bullet ∷ []) 2 (row Paragraph (plain (codes "**  | a | b | |-|-| | c | d |") ∷ []) ∷ []) ∷ []
unfolding sections
e312 = refl

e313 : printable_sections (codes "(**a\n---\n>| a | b |\n|-|-|\n| c | d |\n") ≡ behind [] 0 (row (Header 2) (plain (codes "(**a") ∷ []) ∷ []) ∷ blank [] ∷ behind (Bar ∷ []) 1 (row Paragraph (plain (codes "| a | b | |-|-| | c | d |") ∷ []) ∷ []) ∷ []
unfolding sections
e313 = refl

e314 : printable_sections (60 ∷ 97 ∷ 62 ∷ 60 ∷ 97 ∷ 62 ∷ 102 ∷ 111 ∷ 111 ∷ 124 ∷ 32 ∷ 97 ∷ 32 ∷ 124 ∷ 32 ∷ 98 ∷ 32 ∷ 124 ∷ 10 ∷ 124 ∷ 45 ∷ 124 ∷ 45 ∷ 124 ∷ 10 ∷ 124 ∷ 32 ∷ 99 ∷ 32 ∷ 124 ∷ 32 ∷ 100 ∷ 32 ∷ 124 ∷ 10 ∷ 226 ∷ 128 ∷ 156 ∷ []) ≡ behind [] 0 (row Paragraph (plain (102 ∷ 111 ∷ 111 ∷ 124 ∷ 32 ∷ 97 ∷ 32 ∷ 124 ∷ 32 ∷ 98 ∷ 32 ∷ 124 ∷ 32 ∷ 124 ∷ 45 ∷ 124 ∷ 45 ∷ 124 ∷ 32 ∷ 124 ∷ 32 ∷ 99 ∷ 32 ∷ 124 ∷ 32 ∷ 100 ∷ 32 ∷ 124 ∷ 32 ∷ 226 ∷ 128 ∷ 156 ∷ []) ∷ []) ∷ []) ∷ []
unfolding sections
e314 = refl

e315 : printable_sections (codes "## foo:<div>| a | b |\n|-|-|\n| c | d |\n") ≡ behind [] 0 (row (Header 2) (plain (codes "foo:| a | b |") ∷ []) ∷ []) ∷ blank [] ∷ behind [] 0 (row Paragraph (plain (codes "|-|-| | c | d |") ∷ []) ∷ []) ∷ []
unfolding sections
e315 = refl

e316 : printable_sections (codes "\t-->|-|| a | b |\n|-|-|\n| c | d |\n\n1. \n\n") ≡ behind (Code ∷ []) 1 (code_row (plain (codes "-->|-|| a | b |") ∷ []) ∷ []) ∷ blank [] ∷ behind [] 0 (row Paragraph (plain (codes "|-|-| | c | d |") ∷ []) ∷ []) ∷ blank [] ∷ behind (Number 1 ∷ []) 1 (row Paragraph ([]) ∷ []) ∷ []
unfolding sections
e316 = refl

e317 : printable_sections (codes "<div>[ ] - | a | b |\n|-|-|\n| c | d |\n'\\") ≡ behind [] 0 (row Paragraph (plain (codes "[ ] - | a | b | |-|-| | c | d | '\\") ∷ []) ∷ []) ∷ []
unfolding sections
e317 = refl

e318 : printable_sections (codes "| a | b |\n|-|-|\n| c | d |\n](/u)\n===\n<a>") ≡ table_behind [] 0 (table_rule (Unspecified ∷ Unspecified ∷ []) ∷ cells ((flagged true false false false false (codes "a") ∷ []) ∷ (flagged true false false false false (codes "b") ∷ []) ∷ []) ∷ table_rule (Unspecified ∷ Unspecified ∷ []) ∷ cells ((plain (codes "c") ∷ []) ∷ (plain (codes "d") ∷ []) ∷ []) ∷ cells ((plain (codes "](/u)") ∷ []) ∷ []) ∷ cells ((plain (codes "===") ∷ []) ∷ []) ∷ table_rule (Unspecified ∷ Unspecified ∷ []) ∷ []) ∷ []
unfolding sections
e318 = refl

e319 : printable_sections (230 ∷ 166 ∷ 130 ∷ 60 ∷ 93 ∷ 10 ∷ 45 ∷ 45 ∷ 45 ∷ 10 ∷ 124 ∷ 32 ∷ 97 ∷ 32 ∷ 124 ∷ 32 ∷ 98 ∷ 32 ∷ 124 ∷ 10 ∷ 124 ∷ 45 ∷ 124 ∷ 45 ∷ 124 ∷ 10 ∷ 124 ∷ 32 ∷ 99 ∷ 32 ∷ 124 ∷ 32 ∷ 100 ∷ 32 ∷ 124 ∷ 10 ∷ 62 ∷ 32 ∷ 102 ∷ 111 ∷ 111 ∷ []) ≡ behind [] 0 (row (Header 2) (plain (230 ∷ 166 ∷ 130 ∷ 60 ∷ 93 ∷ []) ∷ []) ∷ []) ∷ blank [] ∷ table_behind [] 0 (table_rule (Unspecified ∷ Unspecified ∷ []) ∷ cells ((flagged true false false false false (codes "a") ∷ []) ∷ (flagged true false false false false (codes "b") ∷ []) ∷ []) ∷ table_rule (Unspecified ∷ Unspecified ∷ []) ∷ cells ((plain (codes "c") ∷ []) ∷ (plain (codes "d") ∷ []) ∷ []) ∷ table_rule (Unspecified ∷ Unspecified ∷ []) ∷ []) ∷ blank [] ∷ behind (Bar ∷ []) 1 (row Paragraph (plain (codes "foo") ∷ []) ∷ []) ∷ []
unfolding sections
e319 = refl

e320 : printable_sections (codes "- ## <b\t&amp;| a | b |\n|-|-|\n| c | d |\n!") ≡ behind (Bullet ∷ []) 1 (row (Header 2) (plain (codes "<b &| a | b |") ∷ []) ∷ []) ∷ blank [] ∷ behind [] 0 (row Paragraph (plain (codes "|-|-| | c | d | !") ∷ []) ∷ []) ∷ []
unfolding sections
e320 = refl

e321 : printable_sections (codes "| a | b |\n|-|-|\n| c | d |\n>\"&amp;![\n---\n") ≡ table_behind [] 0 (table_rule (Unspecified ∷ Unspecified ∷ []) ∷ cells ((flagged true false false false false (codes "a") ∷ []) ∷ (flagged true false false false false (codes "b") ∷ []) ∷ []) ∷ table_rule (Unspecified ∷ Unspecified ∷ []) ∷ cells ((plain (codes "c") ∷ []) ∷ (plain (codes "d") ∷ []) ∷ []) ∷ table_rule (Unspecified ∷ Unspecified ∷ []) ∷ []) ∷ blank [] ∷ behind (Bar ∷ []) 1 (row Paragraph (plain (codes "\"&![") ∷ []) ∷ []) ∷ blank [] ∷ behind [] 0 (horizontal_rule ∷ []) ∷ []
unfolding sections
e321 = refl

e322 : printable_sections (codes "| a | b |\n|-|-|\n| c | d |\n<http://a>`[a]`") ≡ table_behind [] 0 (table_rule (Unspecified ∷ Unspecified ∷ []) ∷ cells ((flagged true false false false false (codes "a") ∷ []) ∷ (flagged true false false false false (codes "b") ∷ []) ∷ []) ∷ table_rule (Unspecified ∷ Unspecified ∷ []) ∷ cells ((plain (codes "c") ∷ []) ∷ (plain (codes "d") ∷ []) ∷ []) ∷ cells ((flagged false false false false true (codes "http://a") ∷ flagged false false true false false (codes "[a]") ∷ []) ∷ []) ∷ table_rule (Unspecified ∷ Unspecified ∷ []) ∷ []) ∷ []
unfolding sections
e322 = refl

l322 : unmarked_links (codes "| a | b |\n|-|-|\n| c | d |\n<http://a>`[a]`") ≡ link_at 0 (codes "http://a") ∷ []
unfolding sections
l322 = refl

e323 : printable_sections (codes "1. | a | b |\n|-|-|\n| c | d |\n*   [a]: /u\n]") ≡ behind (Number 1 ∷ []) 1 (row Paragraph (plain (codes "| a | b | |-|-| | c | d |") ∷ []) ∷ []) ∷ behind (Bullet ∷ []) 1 (row Paragraph (plain (codes "]") ∷ []) ∷ []) ∷ []
unfolding sections
e323 = refl

e324 : printable_sections (codes "+ \n&#35;| a | b |\n|-|-|\n| c | d |\n](/u)</a>") ≡ behind (Bullet ∷ []) 1 (row Paragraph ([]) ∷ []) ∷ behind [] 0 (row Paragraph (plain (codes "#| a | b | |-|-| | c | d | ](/u)") ∷ []) ∷ []) ∷ []
unfolding sections
e324 = refl

e325 : printable_sections (codes "* \n===\n~<http://a>| a | b |\n|-|-|\n| c | d |\n") ≡ behind (Bullet ∷ []) 1 (row Paragraph ([]) ∷ []) ∷ behind [] 0 (row Paragraph (plain (codes "=== ~") ∷ flagged false false false false true (codes "http://a") ∷ plain (codes "| a | b | |-|-| | c | d |") ∷ []) ∷ []) ∷ []
unfolding sections
e325 = refl

l325 : unmarked_links (codes "* \n===\n~<http://a>| a | b |\n|-|-|\n| c | d |\n") ≡ link_at 1 (codes "http://a") ∷ []
unfolding sections
l325 = refl

pub sections13 : AreSections13
sections13 = record { e301 = e301; l301 = l301; e302 = e302; l302 = l302; e303 = e303; l303 = l303; e304 = e304; e305 = e305; e306 = e306; l306 = l306; e307 = e307; l307 = l307; e308 = e308; l308 = l308; e309 = e309; e310 = e310; e311 = e311; e312 = e312; e313 = e313; e314 = e314; e315 = e315; e316 = e316; e317 = e317; e318 = e318; e319 = e319; e320 = e320; e321 = e321; e322 = e322; l322 = l322; e323 = e323; e324 = e324; e325 = e325; l325 = l325 }
