-- Examples 326 to 350: their sections and links.
use Rattle.std.specs.Prelude.{◌≡◌, [], ◌∷◌, codes, true, false}
use Rattle.mad_sections.specs.declared.gutters.Gutter.TheVariants.{Bar, Bullet}
use Rattle.mad_md.specs.declared.composite.CompositeStyle.TheVariants.{Paragraph, Header}
use Rattle.mad_md.specs.declared.alignment.Alignment.TheVariants.{Unspecified, Left, Center, Right}
use Rattle.mad_md.specs.Lines.{table_rule}
use Rattle.markdown_examples.specs.Rows.{plain, flagged, row, cells, behind, table_behind, blank}
use Rattle.markdown_reader.specs.Mapping.{link_at}
use Rattle.markdown_reader.specs.Markdown.{printable_sections, unmarked_links}

pub record AreSections14 : Type 0 where
  pub e326 : printable_sections (codes "[a]: /u\na| a | b |\n|-|-|\n| c | d |\n<div>*\t~~") ≡ behind [] 0 (row Paragraph (plain (codes "a| a | b | |-|-| | c | d |") ∷ []) ∷ []) ∷ behind [] 0 (row Paragraph (plain (codes "* ~~") ∷ []) ∷ []) ∷ []
  pub e327 : printable_sections (codes "Ã©[a]\n\n[a]: /u\n<a>| a | b |\n|-|-|\n| c | d |\n_") ≡ behind [] 0 (row Paragraph (plain (codes "Ã©") ∷ flagged false false false false true (codes "a") ∷ []) ∷ []) ∷ blank [] ∷ behind [] 0 (row Paragraph (plain (codes "| a | b | |-|-| | c | d | _") ∷ []) ∷ []) ∷ []
  pub l327 : unmarked_links (codes "Ã©[a]\n\n[a]: /u\n<a>| a | b |\n|-|-|\n| c | d |\n_") ≡ link_at 0 (codes "/u") ∷ []
  pub e328 : printable_sections (codes "<a>[a]: /u\n\n| a | b |\n|-|-|\n| c | d |\n<div><!--") ≡ behind [] 0 (row Paragraph (plain (codes "[a]: /u") ∷ []) ∷ []) ∷ blank [] ∷ table_behind [] 0 (table_rule (Unspecified ∷ Unspecified ∷ []) ∷ cells ((flagged true false false false false (codes "a") ∷ []) ∷ (flagged true false false false false (codes "b") ∷ []) ∷ []) ∷ table_rule (Unspecified ∷ Unspecified ∷ []) ∷ cells ((plain (codes "c") ∷ []) ∷ (plain (codes "d") ∷ []) ∷ []) ∷ table_rule (Unspecified ∷ Unspecified ∷ []) ∷ []) ∷ []
  pub e329 : printable_sections (226 ∷ 128 ∷ 156 ∷ 45 ∷ 45 ∷ 62 ∷ 10 ∷ 61 ∷ 61 ∷ 61 ∷ 10 ∷ 10 ∷ 124 ∷ 45 ∷ 124 ∷ 45 ∷ 124 ∷ 10 ∷ 10 ∷ 10 ∷ 124 ∷ 32 ∷ 97 ∷ 32 ∷ 124 ∷ 32 ∷ 98 ∷ 32 ∷ 124 ∷ 10 ∷ 124 ∷ 45 ∷ 124 ∷ 45 ∷ 124 ∷ 10 ∷ 124 ∷ 32 ∷ 99 ∷ 32 ∷ 124 ∷ 32 ∷ 100 ∷ 32 ∷ 124 ∷ 10 ∷ 32 ∷ 32 ∷ 32 ∷ 32 ∷ []) ≡ behind [] 0 (row (Header 1) (plain (226 ∷ 128 ∷ 156 ∷ 45 ∷ 45 ∷ 62 ∷ []) ∷ []) ∷ []) ∷ blank [] ∷ behind [] 0 (row Paragraph (plain (codes "|-|-|") ∷ []) ∷ []) ∷ blank [] ∷ table_behind [] 0 (table_rule (Unspecified ∷ Unspecified ∷ []) ∷ cells ((flagged true false false false false (codes "a") ∷ []) ∷ (flagged true false false false false (codes "b") ∷ []) ∷ []) ∷ table_rule (Unspecified ∷ Unspecified ∷ []) ∷ cells ((plain (codes "c") ∷ []) ∷ (plain (codes "d") ∷ []) ∷ []) ∷ table_rule (Unspecified ∷ Unspecified ∷ []) ∷ []) ∷ []
  pub e330 : printable_sections (codes "| a | b |\n|-|-|\n| c | d |\n> | a | b |\n|-|-|\n| c | d |\n>\t\n===") ≡ table_behind [] 0 (table_rule (Unspecified ∷ Unspecified ∷ []) ∷ cells ((flagged true false false false false (codes "a") ∷ []) ∷ (flagged true false false false false (codes "b") ∷ []) ∷ []) ∷ table_rule (Unspecified ∷ Unspecified ∷ []) ∷ cells ((plain (codes "c") ∷ []) ∷ (plain (codes "d") ∷ []) ∷ []) ∷ table_rule (Unspecified ∷ Unspecified ∷ []) ∷ []) ∷ blank [] ∷ behind (Bar ∷ []) 1 (row Paragraph (plain (codes "| a | b | |-|-| | c | d |") ∷ []) ∷ []) ∷ behind [] 0 (row Paragraph (plain (codes "===") ∷ []) ∷ []) ∷ []
  pub e331 : printable_sections (codes "**\n|-|") ≡ table_behind [] 0 (table_rule (Unspecified ∷ []) ∷ cells ((flagged true false false false false (codes "**") ∷ []) ∷ []) ∷ table_rule (Unspecified ∷ []) ∷ []) ∷ []
  pub e332 : printable_sections (codes "- ~b~> |-|") ≡ behind (Bullet ∷ []) 1 (row Paragraph (flagged false false false true false (codes "b") ∷ plain (codes "> |-|") ∷ []) ∷ []) ∷ []
  pub e333 : printable_sections (codes "-|-\n*\n:-:\n") ≡ behind [] 0 (row Paragraph (plain (codes "-|-") ∷ []) ∷ []) ∷ blank [] ∷ table_behind [] 0 (table_rule (Center ∷ []) ∷ cells ((flagged true false false false false (codes "*") ∷ []) ∷ []) ∷ table_rule (Center ∷ []) ∷ []) ∷ []
  pub e334 : printable_sections (codes "-|-\n -|-\n> - \n") ≡ table_behind [] 0 (table_rule (Unspecified ∷ Unspecified ∷ []) ∷ cells ((flagged true false false false false (codes "-") ∷ []) ∷ (flagged true false false false false (codes "-") ∷ []) ∷ []) ∷ table_rule (Unspecified ∷ Unspecified ∷ []) ∷ []) ∷ blank [] ∷ behind (Bar ∷ Bullet ∷ []) 2 (row Paragraph ([]) ∷ []) ∷ []
  pub e335 : printable_sections (codes "-|-\n|:-|-:|\n\n\n") ≡ table_behind [] 0 (table_rule (Left ∷ Right ∷ []) ∷ cells ((flagged true false false false false (codes "-") ∷ []) ∷ (flagged true false false false false (codes "-") ∷ []) ∷ []) ∷ table_rule (Left ∷ Right ∷ []) ∷ []) ∷ []
  pub e336 : printable_sections (codes "| a | b |\n-|-\n") ≡ table_behind [] 0 (table_rule (Unspecified ∷ Unspecified ∷ []) ∷ cells ((flagged true false false false false (codes "a") ∷ []) ∷ (flagged true false false false false (codes "b") ∷ []) ∷ []) ∷ table_rule (Unspecified ∷ Unspecified ∷ []) ∷ []) ∷ []
  pub e337 : printable_sections (codes " - ~~~-|-\n~|~\\|") ≡ behind (Bullet ∷ []) 1 (row Paragraph ([]) ∷ []) ∷ behind [] 0 (row Paragraph (flagged false false false true false (codes "|") ∷ plain (codes "|") ∷ []) ∷ []) ∷ []
  pub e338 : printable_sections (codes "*\n\n-|-\n-|-\n\n-|-\n") ≡ behind (Bullet ∷ []) 1 (row Paragraph ([]) ∷ []) ∷ blank [] ∷ table_behind [] 0 (table_rule (Unspecified ∷ Unspecified ∷ []) ∷ cells ((flagged true false false false false (codes "-") ∷ []) ∷ (flagged true false false false false (codes "-") ∷ []) ∷ []) ∷ table_rule (Unspecified ∷ Unspecified ∷ []) ∷ []) ∷ blank [] ∷ behind [] 0 (row Paragraph (plain (codes "-|-") ∷ []) ∷ []) ∷ []
  pub e339 : printable_sections (codes "| a | b |\n-|-\n> ") ≡ table_behind [] 0 (table_rule (Unspecified ∷ Unspecified ∷ []) ∷ cells ((flagged true false false false false (codes "a") ∷ []) ∷ (flagged true false false false false (codes "b") ∷ []) ∷ []) ∷ table_rule (Unspecified ∷ Unspecified ∷ []) ∷ []) ∷ []
  pub e340 : printable_sections (codes ":-:x | y\n:-:  |-|") ≡ table_behind [] 0 (table_rule (Center ∷ Unspecified ∷ []) ∷ cells ((flagged true false false false false (codes ":-:x") ∷ []) ∷ (flagged true false false false false (codes "y") ∷ []) ∷ []) ∷ table_rule (Center ∷ Unspecified ∷ []) ∷ []) ∷ []
  pub e341 : printable_sections (codes "ax | y\n|:-|-:|\n> ") ≡ table_behind [] 0 (table_rule (Left ∷ Right ∷ []) ∷ cells ((flagged true false false false false (codes "ax") ∷ []) ∷ (flagged true false false false false (codes "y") ∷ []) ∷ []) ∷ table_rule (Left ∷ Right ∷ []) ∷ []) ∷ []
  pub e342 : printable_sections (codes "b|*\n|-|-|\n- \\|\n\na") ≡ table_behind [] 0 (table_rule (Unspecified ∷ Unspecified ∷ []) ∷ cells ((flagged true false false false false (codes "b") ∷ []) ∷ (flagged true false false false false (codes "*") ∷ []) ∷ []) ∷ table_rule (Unspecified ∷ Unspecified ∷ []) ∷ []) ∷ blank [] ∷ behind (Bullet ∷ []) 1 (row Paragraph (plain (codes "|") ∷ []) ∷ []) ∷ blank [] ∷ behind [] 0 (row Paragraph (plain (codes "a") ∷ []) ∷ []) ∷ []
  pub e343 : printable_sections (codes ":-:\\|\n|-|\n\n\nx | y\n") ≡ table_behind [] 0 (table_rule (Unspecified ∷ []) ∷ cells ((flagged true false false false false (codes ":-:|") ∷ []) ∷ []) ∷ table_rule (Unspecified ∷ []) ∷ []) ∷ blank [] ∷ behind [] 0 (row Paragraph (plain (codes "x | y") ∷ []) ∷ []) ∷ []
  pub e344 : printable_sections (codes "|:-|-:|\n-|-\n*:-:**") ≡ table_behind [] 0 (table_rule (Unspecified ∷ Unspecified ∷ []) ∷ cells ((flagged true false false false false (codes ":-") ∷ []) ∷ (flagged true false false false false (codes "-:") ∷ []) ∷ []) ∷ table_rule (Unspecified ∷ Unspecified ∷ []) ∷ cells ((flagged false true false false false (codes ":-:") ∷ plain (codes "*") ∷ []) ∷ []) ∷ table_rule (Unspecified ∷ Unspecified ∷ []) ∷ []) ∷ []
  pub e345 : printable_sections (codes "|:-|-:|\n-|-\n|~|:-:") ≡ table_behind [] 0 (table_rule (Unspecified ∷ Unspecified ∷ []) ∷ cells ((flagged true false false false false (codes ":-") ∷ []) ∷ (flagged true false false false false (codes "-:") ∷ []) ∷ []) ∷ table_rule (Unspecified ∷ Unspecified ∷ []) ∷ cells ((plain (codes "~") ∷ []) ∷ (plain (codes ":-:") ∷ []) ∷ []) ∷ table_rule (Unspecified ∷ Unspecified ∷ []) ∷ []) ∷ []
  pub e346 : printable_sections (codes "||-|-|\n~|-|~~~\na~a") ≡ behind [] 0 (row Paragraph (plain (codes "||-|-| ") ∷ flagged false false false true false (codes "|-|~~~ a") ∷ plain (codes "a") ∷ []) ∷ []) ∷ []
  pub e347 : printable_sections (codes "||:-|-:|\n:-:|-|-|\n") ≡ table_behind [] 0 (table_rule (Center ∷ Unspecified ∷ Unspecified ∷ []) ∷ cells (([]) ∷ (flagged true false false false false (codes ":-") ∷ []) ∷ (flagged true false false false false (codes "-:") ∷ []) ∷ []) ∷ table_rule (Center ∷ Unspecified ∷ Unspecified ∷ []) ∷ []) ∷ []
  pub e348 : printable_sections (codes "-|-\n-|-\n-|-\n\na\n\n b\n") ≡ table_behind [] 0 (table_rule (Unspecified ∷ Unspecified ∷ []) ∷ cells ((flagged true false false false false (codes "-") ∷ []) ∷ (flagged true false false false false (codes "-") ∷ []) ∷ []) ∷ table_rule (Unspecified ∷ Unspecified ∷ []) ∷ cells ((plain (codes "-") ∷ []) ∷ (plain (codes "-") ∷ []) ∷ []) ∷ table_rule (Unspecified ∷ Unspecified ∷ []) ∷ []) ∷ blank [] ∷ behind [] 0 (row Paragraph (plain (codes "a") ∷ []) ∷ []) ∷ blank [] ∷ behind [] 0 (row Paragraph (plain (codes "b") ∷ []) ∷ []) ∷ []
  pub e349 : printable_sections (codes "|-|\n|-|\na\n\n**x | y\n") ≡ table_behind [] 0 (table_rule (Unspecified ∷ []) ∷ cells ((flagged true false false false false (codes "-") ∷ []) ∷ []) ∷ table_rule (Unspecified ∷ []) ∷ cells ((plain (codes "a") ∷ []) ∷ []) ∷ table_rule (Unspecified ∷ []) ∷ []) ∷ blank [] ∷ behind [] 0 (row Paragraph (plain (codes "**x | y") ∷ []) ∷ []) ∷ []
  pub e350 : printable_sections (codes "|-|-|\n|-|-|\n\n\n\n\n~~~") ≡ table_behind [] 0 (table_rule (Unspecified ∷ Unspecified ∷ []) ∷ cells ((flagged true false false false false (codes "-") ∷ []) ∷ (flagged true false false false false (codes "-") ∷ []) ∷ []) ∷ table_rule (Unspecified ∷ Unspecified ∷ []) ∷ []) ∷ []
