-- Examples 326 to 350, computed.
use Rattle.std.proofs.Common.{◌≡◌, [], ◌∷◌, codes, true, false, refl}
use Rattle.mad_sections.specs.declared.gutters.Gutter.TheVariants.{Bar, Bullet}
use Rattle.mad_md.specs.declared.composite.CompositeStyle.TheVariants.{Paragraph, Header}
use Rattle.mad_md.specs.declared.alignment.Alignment.TheVariants.{Unspecified, Left, Center, Right}
use Rattle.mad_md.specs.Lines.{table_rule}
use Rattle.markdown_examples.specs.Rows.{plain, flagged, row, cells, behind, table_behind, blank}
use Rattle.markdown_reader.specs.Mapping.{link_at}
use Rattle.markdown_reader.specs.Markdown.{printable_sections, unmarked_links}
use Rattle.markdown_examples.specs.Sections14.{AreSections14}
use Rattle.markdown_examples.proofs.Computing.{sections}

e326 : printable_sections (codes "[a]: /u\na| a | b |\n|-|-|\n| c | d |\n<div>*\t~~") ≡ behind [] 0 (row Paragraph (plain (codes "a| a | b | |-|-| | c | d |") ∷ []) ∷ []) ∷ behind [] 0 (row Paragraph (plain (codes "* ~~") ∷ []) ∷ []) ∷ []
unfolding sections
e326 = refl

e327 : printable_sections (codes "Ã©[a]\n\n[a]: /u\n<a>| a | b |\n|-|-|\n| c | d |\n_") ≡ behind [] 0 (row Paragraph (plain (codes "Ã©") ∷ flagged false false false false true (codes "a") ∷ []) ∷ []) ∷ blank [] ∷ behind [] 0 (row Paragraph (plain (codes "| a | b | |-|-| | c | d | _") ∷ []) ∷ []) ∷ []
unfolding sections
e327 = refl

l327 : unmarked_links (codes "Ã©[a]\n\n[a]: /u\n<a>| a | b |\n|-|-|\n| c | d |\n_") ≡ link_at 0 (codes "/u") ∷ []
unfolding sections
l327 = refl

e328 : printable_sections (codes "<a>[a]: /u\n\n| a | b |\n|-|-|\n| c | d |\n<div><!--") ≡ behind [] 0 (row Paragraph (plain (codes "[a]: /u") ∷ []) ∷ []) ∷ blank [] ∷ table_behind [] 0 (table_rule (Unspecified ∷ Unspecified ∷ []) ∷ cells ((flagged true false false false false (codes "a") ∷ []) ∷ (flagged true false false false false (codes "b") ∷ []) ∷ []) ∷ table_rule (Unspecified ∷ Unspecified ∷ []) ∷ cells ((plain (codes "c") ∷ []) ∷ (plain (codes "d") ∷ []) ∷ []) ∷ table_rule (Unspecified ∷ Unspecified ∷ []) ∷ []) ∷ []
unfolding sections
e328 = refl

e329 : printable_sections (226 ∷ 128 ∷ 156 ∷ 45 ∷ 45 ∷ 62 ∷ 10 ∷ 61 ∷ 61 ∷ 61 ∷ 10 ∷ 10 ∷ 124 ∷ 45 ∷ 124 ∷ 45 ∷ 124 ∷ 10 ∷ 10 ∷ 10 ∷ 124 ∷ 32 ∷ 97 ∷ 32 ∷ 124 ∷ 32 ∷ 98 ∷ 32 ∷ 124 ∷ 10 ∷ 124 ∷ 45 ∷ 124 ∷ 45 ∷ 124 ∷ 10 ∷ 124 ∷ 32 ∷ 99 ∷ 32 ∷ 124 ∷ 32 ∷ 100 ∷ 32 ∷ 124 ∷ 10 ∷ 32 ∷ 32 ∷ 32 ∷ 32 ∷ []) ≡ behind [] 0 (row (Header 1) (plain (226 ∷ 128 ∷ 156 ∷ 45 ∷ 45 ∷ 62 ∷ []) ∷ []) ∷ []) ∷ blank [] ∷ behind [] 0 (row Paragraph (plain (codes "|-|-|") ∷ []) ∷ []) ∷ blank [] ∷ table_behind [] 0 (table_rule (Unspecified ∷ Unspecified ∷ []) ∷ cells ((flagged true false false false false (codes "a") ∷ []) ∷ (flagged true false false false false (codes "b") ∷ []) ∷ []) ∷ table_rule (Unspecified ∷ Unspecified ∷ []) ∷ cells ((plain (codes "c") ∷ []) ∷ (plain (codes "d") ∷ []) ∷ []) ∷ table_rule (Unspecified ∷ Unspecified ∷ []) ∷ []) ∷ []
unfolding sections
e329 = refl

e330 : printable_sections (codes "| a | b |\n|-|-|\n| c | d |\n> | a | b |\n|-|-|\n| c | d |\n>\t\n===") ≡ table_behind [] 0 (table_rule (Unspecified ∷ Unspecified ∷ []) ∷ cells ((flagged true false false false false (codes "a") ∷ []) ∷ (flagged true false false false false (codes "b") ∷ []) ∷ []) ∷ table_rule (Unspecified ∷ Unspecified ∷ []) ∷ cells ((plain (codes "c") ∷ []) ∷ (plain (codes "d") ∷ []) ∷ []) ∷ table_rule (Unspecified ∷ Unspecified ∷ []) ∷ []) ∷ blank [] ∷ behind (Bar ∷ []) 1 (row Paragraph (plain (codes "| a | b | |-|-| | c | d |") ∷ []) ∷ []) ∷ behind [] 0 (row Paragraph (plain (codes "===") ∷ []) ∷ []) ∷ []
unfolding sections
e330 = refl

e331 : printable_sections (codes "**\n|-|") ≡ table_behind [] 0 (table_rule (Unspecified ∷ []) ∷ cells ((flagged true false false false false (codes "**") ∷ []) ∷ []) ∷ table_rule (Unspecified ∷ []) ∷ []) ∷ []
unfolding sections
e331 = refl

e332 : printable_sections (codes "- ~b~> |-|") ≡ behind (Bullet ∷ []) 1 (row Paragraph (flagged false false false true false (codes "b") ∷ plain (codes "> |-|") ∷ []) ∷ []) ∷ []
unfolding sections
e332 = refl

e333 : printable_sections (codes "-|-\n*\n:-:\n") ≡ behind [] 0 (row Paragraph (plain (codes "-|-") ∷ []) ∷ []) ∷ blank [] ∷ table_behind [] 0 (table_rule (Center ∷ []) ∷ cells ((flagged true false false false false (codes "*") ∷ []) ∷ []) ∷ table_rule (Center ∷ []) ∷ []) ∷ []
unfolding sections
e333 = refl

e334 : printable_sections (codes "-|-\n -|-\n> - \n") ≡ table_behind [] 0 (table_rule (Unspecified ∷ Unspecified ∷ []) ∷ cells ((flagged true false false false false (codes "-") ∷ []) ∷ (flagged true false false false false (codes "-") ∷ []) ∷ []) ∷ table_rule (Unspecified ∷ Unspecified ∷ []) ∷ []) ∷ blank [] ∷ behind (Bar ∷ Bullet ∷ []) 2 (row Paragraph ([]) ∷ []) ∷ []
unfolding sections
e334 = refl

e335 : printable_sections (codes "-|-\n|:-|-:|\n\n\n") ≡ table_behind [] 0 (table_rule (Left ∷ Right ∷ []) ∷ cells ((flagged true false false false false (codes "-") ∷ []) ∷ (flagged true false false false false (codes "-") ∷ []) ∷ []) ∷ table_rule (Left ∷ Right ∷ []) ∷ []) ∷ []
unfolding sections
e335 = refl

e336 : printable_sections (codes "| a | b |\n-|-\n") ≡ table_behind [] 0 (table_rule (Unspecified ∷ Unspecified ∷ []) ∷ cells ((flagged true false false false false (codes "a") ∷ []) ∷ (flagged true false false false false (codes "b") ∷ []) ∷ []) ∷ table_rule (Unspecified ∷ Unspecified ∷ []) ∷ []) ∷ []
unfolding sections
e336 = refl

e337 : printable_sections (codes " - ~~~-|-\n~|~\\|") ≡ behind (Bullet ∷ []) 1 (row Paragraph ([]) ∷ []) ∷ behind [] 0 (row Paragraph (flagged false false false true false (codes "|") ∷ plain (codes "|") ∷ []) ∷ []) ∷ []
unfolding sections
e337 = refl

e338 : printable_sections (codes "*\n\n-|-\n-|-\n\n-|-\n") ≡ behind (Bullet ∷ []) 1 (row Paragraph ([]) ∷ []) ∷ blank [] ∷ table_behind [] 0 (table_rule (Unspecified ∷ Unspecified ∷ []) ∷ cells ((flagged true false false false false (codes "-") ∷ []) ∷ (flagged true false false false false (codes "-") ∷ []) ∷ []) ∷ table_rule (Unspecified ∷ Unspecified ∷ []) ∷ []) ∷ blank [] ∷ behind [] 0 (row Paragraph (plain (codes "-|-") ∷ []) ∷ []) ∷ []
unfolding sections
e338 = refl

e339 : printable_sections (codes "| a | b |\n-|-\n> ") ≡ table_behind [] 0 (table_rule (Unspecified ∷ Unspecified ∷ []) ∷ cells ((flagged true false false false false (codes "a") ∷ []) ∷ (flagged true false false false false (codes "b") ∷ []) ∷ []) ∷ table_rule (Unspecified ∷ Unspecified ∷ []) ∷ []) ∷ []
unfolding sections
e339 = refl

e340 : printable_sections (codes ":-:x | y\n:-:  |-|") ≡ table_behind [] 0 (table_rule (Center ∷ Unspecified ∷ []) ∷ cells ((flagged true false false false false (codes ":-:x") ∷ []) ∷ (flagged true false false false false (codes "y") ∷ []) ∷ []) ∷ table_rule (Center ∷ Unspecified ∷ []) ∷ []) ∷ []
unfolding sections
e340 = refl

e341 : printable_sections (codes "ax | y\n|:-|-:|\n> ") ≡ table_behind [] 0 (table_rule (Left ∷ Right ∷ []) ∷ cells ((flagged true false false false false (codes "ax") ∷ []) ∷ (flagged true false false false false (codes "y") ∷ []) ∷ []) ∷ table_rule (Left ∷ Right ∷ []) ∷ []) ∷ []
unfolding sections
e341 = refl

e342 : printable_sections (codes "b|*\n|-|-|\n- \\|\n\na") ≡ table_behind [] 0 (table_rule (Unspecified ∷ Unspecified ∷ []) ∷ cells ((flagged true false false false false (codes "b") ∷ []) ∷ (flagged true false false false false (codes "*") ∷ []) ∷ []) ∷ table_rule (Unspecified ∷ Unspecified ∷ []) ∷ []) ∷ blank [] ∷ behind (Bullet ∷ []) 1 (row Paragraph (plain (codes "|") ∷ []) ∷ []) ∷ blank [] ∷ behind [] 0 (row Paragraph (plain (codes "a") ∷ []) ∷ []) ∷ []
unfolding sections
e342 = refl

e343 : printable_sections (codes ":-:\\|\n|-|\n\n\nx | y\n") ≡ table_behind [] 0 (table_rule (Unspecified ∷ []) ∷ cells ((flagged true false false false false (codes ":-:|") ∷ []) ∷ []) ∷ table_rule (Unspecified ∷ []) ∷ []) ∷ blank [] ∷ behind [] 0 (row Paragraph (plain (codes "x | y") ∷ []) ∷ []) ∷ []
unfolding sections
e343 = refl

e344 : printable_sections (codes "|:-|-:|\n-|-\n*:-:**") ≡ table_behind [] 0 (table_rule (Unspecified ∷ Unspecified ∷ []) ∷ cells ((flagged true false false false false (codes ":-") ∷ []) ∷ (flagged true false false false false (codes "-:") ∷ []) ∷ []) ∷ table_rule (Unspecified ∷ Unspecified ∷ []) ∷ cells ((flagged false true false false false (codes ":-:") ∷ plain (codes "*") ∷ []) ∷ []) ∷ table_rule (Unspecified ∷ Unspecified ∷ []) ∷ []) ∷ []
unfolding sections
e344 = refl

e345 : printable_sections (codes "|:-|-:|\n-|-\n|~|:-:") ≡ table_behind [] 0 (table_rule (Unspecified ∷ Unspecified ∷ []) ∷ cells ((flagged true false false false false (codes ":-") ∷ []) ∷ (flagged true false false false false (codes "-:") ∷ []) ∷ []) ∷ table_rule (Unspecified ∷ Unspecified ∷ []) ∷ cells ((plain (codes "~") ∷ []) ∷ (plain (codes ":-:") ∷ []) ∷ []) ∷ table_rule (Unspecified ∷ Unspecified ∷ []) ∷ []) ∷ []
unfolding sections
e345 = refl

e346 : printable_sections (codes "||-|-|\n~|-|~~~\na~a") ≡ behind [] 0 (row Paragraph (plain (codes "||-|-| ") ∷ flagged false false false true false (codes "|-|~~~ a") ∷ plain (codes "a") ∷ []) ∷ []) ∷ []
unfolding sections
e346 = refl

e347 : printable_sections (codes "||:-|-:|\n:-:|-|-|\n") ≡ table_behind [] 0 (table_rule (Center ∷ Unspecified ∷ Unspecified ∷ []) ∷ cells (([]) ∷ (flagged true false false false false (codes ":-") ∷ []) ∷ (flagged true false false false false (codes "-:") ∷ []) ∷ []) ∷ table_rule (Center ∷ Unspecified ∷ Unspecified ∷ []) ∷ []) ∷ []
unfolding sections
e347 = refl

e348 : printable_sections (codes "-|-\n-|-\n-|-\n\na\n\n b\n") ≡ table_behind [] 0 (table_rule (Unspecified ∷ Unspecified ∷ []) ∷ cells ((flagged true false false false false (codes "-") ∷ []) ∷ (flagged true false false false false (codes "-") ∷ []) ∷ []) ∷ table_rule (Unspecified ∷ Unspecified ∷ []) ∷ cells ((plain (codes "-") ∷ []) ∷ (plain (codes "-") ∷ []) ∷ []) ∷ table_rule (Unspecified ∷ Unspecified ∷ []) ∷ []) ∷ blank [] ∷ behind [] 0 (row Paragraph (plain (codes "a") ∷ []) ∷ []) ∷ blank [] ∷ behind [] 0 (row Paragraph (plain (codes "b") ∷ []) ∷ []) ∷ []
unfolding sections
e348 = refl

e349 : printable_sections (codes "|-|\n|-|\na\n\n**x | y\n") ≡ table_behind [] 0 (table_rule (Unspecified ∷ []) ∷ cells ((flagged true false false false false (codes "-") ∷ []) ∷ []) ∷ table_rule (Unspecified ∷ []) ∷ cells ((plain (codes "a") ∷ []) ∷ []) ∷ table_rule (Unspecified ∷ []) ∷ []) ∷ blank [] ∷ behind [] 0 (row Paragraph (plain (codes "**x | y") ∷ []) ∷ []) ∷ []
unfolding sections
e349 = refl

e350 : printable_sections (codes "|-|-|\n|-|-|\n\n\n\n\n~~~") ≡ table_behind [] 0 (table_rule (Unspecified ∷ Unspecified ∷ []) ∷ cells ((flagged true false false false false (codes "-") ∷ []) ∷ (flagged true false false false false (codes "-") ∷ []) ∷ []) ∷ table_rule (Unspecified ∷ Unspecified ∷ []) ∷ []) ∷ []
unfolding sections
e350 = refl

pub sections14 : AreSections14
sections14 = record { e326 = e326; e327 = e327; l327 = l327; e328 = e328; e329 = e329; e330 = e330; e331 = e331; e332 = e332; e333 = e333; e334 = e334; e335 = e335; e336 = e336; e337 = e337; e338 = e338; e339 = e339; e340 = e340; e341 = e341; e342 = e342; e343 = e343; e344 = e344; e345 = e345; e346 = e346; e347 = e347; e348 = e348; e349 = e349; e350 = e350 }
