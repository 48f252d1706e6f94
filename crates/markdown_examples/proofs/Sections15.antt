-- Examples 351 to 375, computed.
use Rattle.std.proofs.Common.{◌≡◌, [], ◌∷◌, codes, true, false, refl}
use Rattle.mad_sections.specs.declared.gutters.Gutter.TheVariants.{Bar, Bullet, Code}
use Rattle.mad_md.specs.declared.composite.CompositeStyle.TheVariants.{Paragraph}
use Rattle.mad_md.specs.declared.alignment.Alignment.TheVariants.{Unspecified, Left, Center, Right}
use Rattle.mad_md.specs.Lines.{table_rule}
use Rattle.markdown_examples.specs.Rows.{plain, flagged, row, code_row, cells, behind, table_behind, blank}
use Rattle.markdown_reader.specs.Markdown.{printable_sections}
use Rattle.markdown_examples.specs.Sections15.{AreSections15}
use Rattle.markdown_examples.proofs.Computing.{sections}

e351 : printable_sections (codes ":-:|-|-|\n|-|-|-\nb**`") ≡ table_behind [] 0 (table_rule (Unspecified ∷ Unspecified ∷ Unspecified ∷ []) ∷ cells ((flagged true false false false false (codes ":-:") ∷ []) ∷ (flagged true false false false false (codes "-") ∷ []) ∷ (flagged true false false false false (codes "-") ∷ []) ∷ []) ∷ table_rule (Unspecified ∷ Unspecified ∷ Unspecified ∷ []) ∷ cells ((plain (codes "b**`") ∷ []) ∷ []) ∷ table_rule (Unspecified ∷ Unspecified ∷ Unspecified ∷ []) ∷ []) ∷ []
unfolding sections
e351 = refl

e352 : printable_sections (codes "| a | b |\n|:-|-:|\n*\n") ≡ table_behind [] 0 (table_rule (Left ∷ Right ∷ []) ∷ cells ((flagged true false false false false (codes "a") ∷ []) ∷ (flagged true false false false false (codes "b") ∷ []) ∷ []) ∷ table_rule (Left ∷ Right ∷ []) ∷ []) ∷ blank [] ∷ behind (Bullet ∷ []) 1 (row Paragraph ([]) ∷ []) ∷ []
unfolding sections
e352 = refl

e353 : printable_sections (codes "|-|-|\n|:-|-:|\n`:-:\\|") ≡ table_behind [] 0 (table_rule (Left ∷ Right ∷ []) ∷ cells ((flagged true false false false false (codes "-") ∷ []) ∷ (flagged true false false false false (codes "-") ∷ []) ∷ []) ∷ table_rule (Left ∷ Right ∷ []) ∷ cells ((plain (codes "`:-:|") ∷ []) ∷ []) ∷ table_rule (Left ∷ Right ∷ []) ∷ []) ∷ []
unfolding sections
e353 = refl

e354 : printable_sections (codes "|:-|-:|\n-|-\n~~|\n\n-  ") ≡ table_behind [] 0 (table_rule (Unspecified ∷ Unspecified ∷ []) ∷ cells ((flagged true false false false false (codes ":-") ∷ []) ∷ (flagged true false false false false (codes "-:") ∷ []) ∷ []) ∷ table_rule (Unspecified ∷ Unspecified ∷ []) ∷ cells ((plain (codes "~~") ∷ []) ∷ []) ∷ table_rule (Unspecified ∷ Unspecified ∷ []) ∷ []) ∷ blank [] ∷ behind (Bullet ∷ []) 1 (row Paragraph ([]) ∷ []) ∷ []
unfolding sections
e354 = refl

e355 : printable_sections (codes "|:-|-:|\n|:-|-:|\n`*\n~") ≡ table_behind [] 0 (table_rule (Left ∷ Right ∷ []) ∷ cells ((flagged true false false false false (codes ":-") ∷ []) ∷ (flagged true false false false false (codes "-:") ∷ []) ∷ []) ∷ table_rule (Left ∷ Right ∷ []) ∷ cells ((plain (codes "`*") ∷ []) ∷ []) ∷ cells ((plain (codes "~") ∷ []) ∷ []) ∷ table_rule (Left ∷ Right ∷ []) ∷ []) ∷ []
unfolding sections
e355 = refl

e356 : printable_sections (codes "-|-\n|:-|-:|\n||-|-|\n- ") ≡ table_behind [] 0 (table_rule (Left ∷ Right ∷ []) ∷ cells ((flagged true false false false false (codes "-") ∷ []) ∷ (flagged true false false false false (codes "-") ∷ []) ∷ []) ∷ table_rule (Left ∷ Right ∷ []) ∷ cells (([]) ∷ (plain (codes "-") ∷ []) ∷ []) ∷ table_rule (Left ∷ Right ∷ []) ∷ []) ∷ blank [] ∷ behind (Bullet ∷ []) 1 (row Paragraph ([]) ∷ []) ∷ []
unfolding sections
e356 = refl

e357 : printable_sections (codes "||:-|-:|\n|-|-|\n|-|-|\n") ≡ behind [] 0 (row Paragraph (plain (codes "||:-|-:|") ∷ []) ∷ []) ∷ blank [] ∷ table_behind [] 0 (table_rule (Unspecified ∷ Unspecified ∷ []) ∷ cells ((flagged true false false false false (codes "-") ∷ []) ∷ (flagged true false false false false (codes "-") ∷ []) ∷ []) ∷ table_rule (Unspecified ∷ Unspecified ∷ []) ∷ []) ∷ []
unfolding sections
e357 = refl

e358 : printable_sections (codes "~~\n\n\nb\nx | y\n|:-|-:|\n") ≡ behind [] 0 (row Paragraph (plain (codes "~~") ∷ []) ∷ []) ∷ blank [] ∷ behind [] 0 (row Paragraph (plain (codes "b") ∷ []) ∷ []) ∷ blank [] ∷ table_behind [] 0 (table_rule (Left ∷ Right ∷ []) ∷ cells ((flagged true false false false false (codes "x") ∷ []) ∷ (flagged true false false false false (codes "y") ∷ []) ∷ []) ∷ table_rule (Left ∷ Right ∷ []) ∷ []) ∷ []
unfolding sections
e358 = refl

e359 : printable_sections (codes "\nx | y\n|-|-\n~~~a\n\n-|-\n") ≡ table_behind [] 0 (table_rule (Unspecified ∷ Unspecified ∷ []) ∷ cells ((flagged true false false false false (codes "x") ∷ []) ∷ (flagged true false false false false (codes "y") ∷ []) ∷ []) ∷ table_rule (Unspecified ∷ Unspecified ∷ []) ∷ []) ∷ blank [] ∷ behind (Code ∷ []) 1 (code_row ([]) ∷ code_row (plain (codes "-|-") ∷ []) ∷ []) ∷ []
unfolding sections
e359 = refl

e360 : printable_sections (codes "`|:-|-:|\n:-:|-|-|\n|-|b") ≡ table_behind [] 0 (table_rule (Center ∷ Unspecified ∷ Unspecified ∷ []) ∷ cells ((flagged true false false false false (codes "`") ∷ []) ∷ (flagged true false false false false (codes ":-") ∷ []) ∷ (flagged true false false false false (codes "-:") ∷ []) ∷ []) ∷ table_rule (Center ∷ Unspecified ∷ Unspecified ∷ []) ∷ cells ((plain (codes "-") ∷ []) ∷ (plain (codes "b") ∷ []) ∷ []) ∷ table_rule (Center ∷ Unspecified ∷ Unspecified ∷ []) ∷ []) ∷ []
unfolding sections
e360 = refl

e361 : printable_sections (codes "| a | b |\n |-|-|\n\n\\|a\n") ≡ table_behind [] 0 (table_rule (Unspecified ∷ Unspecified ∷ []) ∷ cells ((flagged true false false false false (codes "a") ∷ []) ∷ (flagged true false false false false (codes "b") ∷ []) ∷ []) ∷ table_rule (Unspecified ∷ Unspecified ∷ []) ∷ []) ∷ blank [] ∷ behind [] 0 (row Paragraph (plain (codes "|a") ∷ []) ∷ []) ∷ []
unfolding sections
e361 = refl

e362 : printable_sections (codes "| a | b |\n> ~b~> \n\n:-:") ≡ behind [] 0 (row Paragraph (plain (codes "| a | b |") ∷ []) ∷ []) ∷ behind (Bar ∷ []) 1 (row Paragraph (flagged false false false true false (codes "b") ∷ plain (codes ">") ∷ []) ∷ []) ∷ blank [] ∷ behind [] 0 (row Paragraph (plain (codes ":-:") ∷ []) ∷ []) ∷ []
unfolding sections
e362 = refl

e363 : printable_sections (codes "|-||-|\n\n|-|-|\n|-|-|\n> ") ≡ behind [] 0 (row Paragraph (plain (codes "|-||-|") ∷ []) ∷ []) ∷ blank [] ∷ table_behind [] 0 (table_rule (Unspecified ∷ Unspecified ∷ []) ∷ cells ((flagged true false false false false (codes "-") ∷ []) ∷ (flagged true false false false false (codes "-") ∷ []) ∷ []) ∷ table_rule (Unspecified ∷ Unspecified ∷ []) ∷ []) ∷ []
unfolding sections
e363 = refl

e364 : printable_sections (codes "|:-|-:|\n|-|-|\n\n\n\n\n- > ") ≡ table_behind [] 0 (table_rule (Unspecified ∷ Unspecified ∷ []) ∷ cells ((flagged true false false false false (codes ":-") ∷ []) ∷ (flagged true false false false false (codes "-:") ∷ []) ∷ []) ∷ table_rule (Unspecified ∷ Unspecified ∷ []) ∷ []) ∷ blank [] ∷ behind (Bullet ∷ []) 1 (row Paragraph ([]) ∷ []) ∷ []
unfolding sections
e364 = refl

e365 : printable_sections (codes ":-:x | y\n|:-|-:|\n\n\n||\\|") ≡ table_behind [] 0 (table_rule (Left ∷ Right ∷ []) ∷ cells ((flagged true false false false false (codes ":-:x") ∷ []) ∷ (flagged true false false false false (codes "y") ∷ []) ∷ []) ∷ table_rule (Left ∷ Right ∷ []) ∷ []) ∷ blank [] ∷ behind [] 0 (row Paragraph (plain (codes "|||") ∷ []) ∷ []) ∷ []
unfolding sections
e365 = refl

e366 : printable_sections (codes "\\|| a | b |\n\n-|-\n:-:|-|") ≡ behind [] 0 (row Paragraph (plain (codes "|| a | b |") ∷ []) ∷ []) ∷ blank [] ∷ table_behind [] 0 (table_rule (Center ∷ Unspecified ∷ []) ∷ cells ((flagged true false false false false (codes "-") ∷ []) ∷ (flagged true false false false false (codes "-") ∷ []) ∷ []) ∷ table_rule (Center ∷ Unspecified ∷ []) ∷ []) ∷ []
unfolding sections
e366 = refl

e367 : printable_sections (codes "| a | b |\n|-|-|\n~~~-|-\n") ≡ table_behind [] 0 (table_rule (Unspecified ∷ Unspecified ∷ []) ∷ cells ((flagged true false false false false (codes "a") ∷ []) ∷ (flagged true false false false false (codes "b") ∷ []) ∷ []) ∷ table_rule (Unspecified ∷ Unspecified ∷ []) ∷ []) ∷ []
unfolding sections
e367 = refl

e368 : printable_sections (codes "\n\n|-|-|\n |:-|-:|\n\n\n\n> b ") ≡ table_behind [] 0 (table_rule (Left ∷ Right ∷ []) ∷ cells ((flagged true false false false false (codes "-") ∷ []) ∷ (flagged true false false false false (codes "-") ∷ []) ∷ []) ∷ table_rule (Left ∷ Right ∷ []) ∷ []) ∷ blank [] ∷ behind (Bar ∷ []) 1 (row Paragraph (plain (codes "b") ∷ []) ∷ []) ∷ []
unfolding sections
e368 = refl

e369 : printable_sections (codes "\n| a | b |\n|:-|-:|\n- \nbb") ≡ table_behind [] 0 (table_rule (Left ∷ Right ∷ []) ∷ cells ((flagged true false false false false (codes "a") ∷ []) ∷ (flagged true false false false false (codes "b") ∷ []) ∷ []) ∷ table_rule (Left ∷ Right ∷ []) ∷ []) ∷ blank [] ∷ behind (Bullet ∷ []) 1 (row Paragraph ([]) ∷ []) ∷ behind [] 0 (row Paragraph (plain (codes "bb") ∷ []) ∷ []) ∷ []
unfolding sections
e369 = refl

e370 : printable_sections (codes "**|-|-|\n:-:|:-|-:|\n b:-:") ≡ table_behind [] 0 (table_rule (Center ∷ Left ∷ Right ∷ []) ∷ cells ((flagged true false false false false (codes "**") ∷ []) ∷ (flagged true false false false false (codes "-") ∷ []) ∷ (flagged true false false false false (codes "-") ∷ []) ∷ []) ∷ table_rule (Center ∷ Left ∷ Right ∷ []) ∷ cells ((plain (codes "b:-:") ∷ []) ∷ []) ∷ table_rule (Center ∷ Left ∷ Right ∷ []) ∷ []) ∷ []
unfolding sections
e370 = refl

e371 : printable_sections (codes "`-|-\n|-|-|\n|-|-|\n\n\n~~~- ") ≡ table_behind [] 0 (table_rule (Unspecified ∷ Unspecified ∷ []) ∷ cells ((flagged true false false false false (codes "`-") ∷ []) ∷ (flagged true false false false false (codes "-") ∷ []) ∷ []) ∷ table_rule (Unspecified ∷ Unspecified ∷ []) ∷ cells ((plain (codes "-") ∷ []) ∷ (plain (codes "-") ∷ []) ∷ []) ∷ table_rule (Unspecified ∷ Unspecified ∷ []) ∷ []) ∷ []
unfolding sections
e371 = refl

e372 : printable_sections (codes "| a | b |\n|:-|-:|\n> \n- `") ≡ table_behind [] 0 (table_rule (Left ∷ Right ∷ []) ∷ cells ((flagged true false false false false (codes "a") ∷ []) ∷ (flagged true false false false false (codes "b") ∷ []) ∷ []) ∷ table_rule (Left ∷ Right ∷ []) ∷ []) ∷ blank [] ∷ behind (Bullet ∷ []) 1 (row Paragraph (plain (codes "`") ∷ []) ∷ []) ∷ []
unfolding sections
e372 = refl

e373 : printable_sections (codes "~**x | y\n|*\n|:-|-:|\n-|-\n") ≡ behind [] 0 (row Paragraph (plain (codes "~*") ∷ flagged false true false false false (codes "x | y |") ∷ []) ∷ []) ∷ blank [] ∷ table_behind [] 0 (table_rule (Unspecified ∷ Unspecified ∷ []) ∷ cells ((flagged true false false false false (codes ":-") ∷ []) ∷ (flagged true false false false false (codes "-:") ∷ []) ∷ []) ∷ table_rule (Unspecified ∷ Unspecified ∷ []) ∷ []) ∷ []
unfolding sections
e373 = refl

e374 : printable_sections (codes "|-|-|\n|-|-|\n\n\n`-|-\n*~~~**") ≡ table_behind [] 0 (table_rule (Unspecified ∷ Unspecified ∷ []) ∷ cells ((flagged true false false false false (codes "-") ∷ []) ∷ (flagged true false false false false (codes "-") ∷ []) ∷ []) ∷ table_rule (Unspecified ∷ Unspecified ∷ []) ∷ []) ∷ blank [] ∷ behind [] 0 (row Paragraph (plain (codes "`-|- ") ∷ flagged false true false false false (codes "~~~") ∷ plain (codes "*") ∷ []) ∷ []) ∷ []
unfolding sections
e374 = refl

e375 : printable_sections (codes "*\\|\n|-|-|\n|:-|-:|\n|:-|-:|\n") ≡ behind [] 0 (row Paragraph (plain (codes "*|") ∷ []) ∷ []) ∷ blank [] ∷ table_behind [] 0 (table_rule (Left ∷ Right ∷ []) ∷ cells ((flagged true false false false false (codes "-") ∷ []) ∷ (flagged true false false false false (codes "-") ∷ []) ∷ []) ∷ table_rule (Left ∷ Right ∷ []) ∷ cells ((plain (codes ":-") ∷ []) ∷ (plain (codes "-:") ∷ []) ∷ []) ∷ table_rule (Left ∷ Right ∷ []) ∷ []) ∷ []
unfolding sections
e375 = refl

pub sections15 : AreSections15
sections15 = record { e351 = e351; e352 = e352; e353 = e353; e354 = e354; e355 = e355; e356 = e356; e357 = e357; e358 = e358; e359 = e359; e360 = e360; e361 = e361; e362 = e362; e363 = e363; e364 = e364; e365 = e365; e366 = e366; e367 = e367; e368 = e368; e369 = e369; e370 = e370; e371 = e371; e372 = e372; e373 = e373; e374 = e374; e375 = e375 }
