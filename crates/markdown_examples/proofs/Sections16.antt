-- Examples 376 to 400, computed.
use Rattle.std.proofs.Common.{◌≡◌, [], ◌∷◌, codes, true, false, refl}
use Rattle.mad_sections.specs.declared.gutters.Gutter.TheVariants.{Bar, Bullet, Code}
use Rattle.mad_md.specs.declared.composite.CompositeStyle.TheVariants.{Paragraph}
use Rattle.mad_md.specs.declared.alignment.Alignment.TheVariants.{Unspecified, Left, Center, Right}
use Rattle.mad_md.specs.Lines.{table_rule}
use Rattle.markdown_examples.specs.Rows.{plain, flagged, row, code_row, cells, behind, table_behind, blank}
use Rattle.markdown_reader.specs.Markdown.{printable_sections}
use Rattle.markdown_examples.specs.Sections16.{AreSections16}
use Rattle.markdown_examples.proofs.Computing.{sections}

e376 : printable_sections (codes "~|-|\n-|-\n:-:| a | b |\n-  *") ≡ table_behind [] 0 (table_rule (Unspecified ∷ Unspecified ∷ []) ∷ cells ((flagged true false false false false (codes "~") ∷ []) ∷ (flagged true false false false false (codes "-") ∷ []) ∷ []) ∷ table_rule (Unspecified ∷ Unspecified ∷ []) ∷ cells ((plain (codes ":-:") ∷ []) ∷ (plain (codes "a") ∷ []) ∷ []) ∷ table_rule (Unspecified ∷ Unspecified ∷ []) ∷ []) ∷ blank [] ∷ behind (Bullet ∷ Bullet ∷ []) 2 (row Paragraph ([]) ∷ []) ∷ []
unfolding sections
e376 = refl

e377 : printable_sections (codes "\n\n||-|-|\n|:-|-:|\n|-|-|\n**`~") ≡ behind [] 0 (row Paragraph (plain (codes "||-|-|") ∷ []) ∷ []) ∷ blank [] ∷ table_behind [] 0 (table_rule (Unspecified ∷ Unspecified ∷ []) ∷ cells ((flagged true false false false false (codes ":-") ∷ []) ∷ (flagged true false false false false (codes "-:") ∷ []) ∷ []) ∷ table_rule (Unspecified ∷ Unspecified ∷ []) ∷ cells ((plain (codes "**`~") ∷ []) ∷ []) ∷ table_rule (Unspecified ∷ Unspecified ∷ []) ∷ []) ∷ []
unfolding sections
e377 = refl

e378 : printable_sections (codes "\n-|-\n-|-\n|-|\n> |-|x | y\n~~~") ≡ table_behind [] 0 (table_rule (Unspecified ∷ Unspecified ∷ []) ∷ cells ((flagged true false false false false (codes "-") ∷ []) ∷ (flagged true false false false false (codes "-") ∷ []) ∷ []) ∷ table_rule (Unspecified ∷ Unspecified ∷ []) ∷ cells ((plain (codes "-") ∷ []) ∷ []) ∷ table_rule (Unspecified ∷ Unspecified ∷ []) ∷ []) ∷ blank [] ∷ behind (Bar ∷ []) 1 (row Paragraph (plain (codes "|-|x | y") ∷ []) ∷ []) ∷ []
unfolding sections
e378 = refl

e379 : printable_sections (codes "a| a | b |\n|-|-|\n-|-\n\n|-|- ") ≡ behind [] 0 (row Paragraph (plain (codes "a| a | b |") ∷ []) ∷ []) ∷ blank [] ∷ table_behind [] 0 (table_rule (Unspecified ∷ Unspecified ∷ []) ∷ cells ((flagged true false false false false (codes "-") ∷ []) ∷ (flagged true false false false false (codes "-") ∷ []) ∷ []) ∷ table_rule (Unspecified ∷ Unspecified ∷ []) ∷ []) ∷ blank [] ∷ behind [] 0 (row Paragraph (plain (codes "|-|-") ∷ []) ∷ []) ∷ []
unfolding sections
e379 = refl

e380 : printable_sections (codes "| a | b |\n-|-\n\n**\n\n-|-\n~~`|") ≡ table_behind [] 0 (table_rule (Unspecified ∷ Unspecified ∷ []) ∷ cells ((flagged true false false false false (codes "a") ∷ []) ∷ (flagged true false false false false (codes "b") ∷ []) ∷ []) ∷ table_rule (Unspecified ∷ Unspecified ∷ []) ∷ []) ∷ blank [] ∷ behind [] 0 (row Paragraph (plain (codes "**") ∷ []) ∷ []) ∷ blank [] ∷ behind [] 0 (row Paragraph (plain (codes "-|- ~~`|") ∷ []) ∷ []) ∷ []
unfolding sections
e380 = refl

e381 : printable_sections (codes "| a | b |\n|-|-|\n\n- |:-|-:|\n") ≡ table_behind [] 0 (table_rule (Unspecified ∷ Unspecified ∷ []) ∷ cells ((flagged true false false false false (codes "a") ∷ []) ∷ (flagged true false false false false (codes "b") ∷ []) ∷ []) ∷ table_rule (Unspecified ∷ Unspecified ∷ []) ∷ []) ∷ blank [] ∷ behind (Bullet ∷ []) 1 (row Paragraph (plain (codes "|:-|-:|") ∷ []) ∷ []) ∷ []
unfolding sections
e381 = refl

e382 : printable_sections (codes "| a | b |\n|:-|-:|\n~~\n~~~~**") ≡ table_behind [] 0 (table_rule (Left ∷ Right ∷ []) ∷ cells ((flagged true false false false false (codes "a") ∷ []) ∷ (flagged true false false false false (codes "b") ∷ []) ∷ []) ∷ table_rule (Left ∷ Right ∷ []) ∷ cells ((plain (codes "~~") ∷ []) ∷ []) ∷ table_rule (Left ∷ Right ∷ []) ∷ []) ∷ []
unfolding sections
e382 = refl

e383 : printable_sections (codes "|-|-|\n- ~~:-:|:-|-:|\n|-|~~\n") ≡ behind [] 0 (row Paragraph (plain (codes "|-|-|") ∷ []) ∷ []) ∷ behind (Bullet ∷ []) 1 (row Paragraph (flagged false false false true false (codes ":-:|:-|-:| |-|") ∷ []) ∷ []) ∷ []
unfolding sections
e383 = refl

e384 : printable_sections (codes "|:-|-:|\n|-|-|\n|-|-|\n\n> |a> ") ≡ table_behind [] 0 (table_rule (Unspecified ∷ Unspecified ∷ []) ∷ cells ((flagged true false false false false (codes ":-") ∷ []) ∷ (flagged true false false false false (codes "-:") ∷ []) ∷ []) ∷ table_rule (Unspecified ∷ Unspecified ∷ []) ∷ cells ((plain (codes "-") ∷ []) ∷ (plain (codes "-") ∷ []) ∷ []) ∷ table_rule (Unspecified ∷ Unspecified ∷ []) ∷ []) ∷ blank [] ∷ behind (Bar ∷ []) 1 (row Paragraph (plain (codes "|a>") ∷ []) ∷ []) ∷ []
unfolding sections
e384 = refl

e385 : printable_sections (codes "> bx | y\n\n\n|-|-|\n|:-|-:|\n|\\|") ≡ behind (Bar ∷ []) 1 (row Paragraph (plain (codes "bx | y") ∷ []) ∷ []) ∷ blank [] ∷ table_behind [] 0 (table_rule (Left ∷ Right ∷ []) ∷ cells ((flagged true false false false false (codes "-") ∷ []) ∷ (flagged true false false false false (codes "-") ∷ []) ∷ []) ∷ table_rule (Left ∷ Right ∷ []) ∷ cells ((plain (codes "|") ∷ []) ∷ []) ∷ table_rule (Left ∷ Right ∷ []) ∷ []) ∷ []
unfolding sections
e385 = refl

e386 : printable_sections (codes "\\|\n\n| a | b |\n|-|:-:|\nx | y\n") ≡ behind [] 0 (row Paragraph (plain (codes "|") ∷ []) ∷ []) ∷ blank [] ∷ table_behind [] 0 (table_rule (Unspecified ∷ Center ∷ []) ∷ cells ((flagged true false false false false (codes "a") ∷ []) ∷ (flagged true false false false false (codes "b") ∷ []) ∷ []) ∷ table_rule (Unspecified ∷ Center ∷ []) ∷ cells ((plain (codes "x") ∷ []) ∷ (plain (codes "y") ∷ []) ∷ []) ∷ table_rule (Unspecified ∷ Center ∷ []) ∷ []) ∷ []
unfolding sections
e386 = refl

e387 : printable_sections (codes "|:-|-:|\n> |\n\n\nx | y\n-|-\n*~~~") ≡ behind [] 0 (row Paragraph (plain (codes "|:-|-:|") ∷ []) ∷ []) ∷ behind (Bar ∷ []) 1 (row Paragraph (plain (codes "|") ∷ []) ∷ []) ∷ blank [] ∷ table_behind [] 0 (table_rule (Unspecified ∷ Unspecified ∷ []) ∷ cells ((flagged true false false false false (codes "x") ∷ []) ∷ (flagged true false false false false (codes "y") ∷ []) ∷ []) ∷ table_rule (Unspecified ∷ Unspecified ∷ []) ∷ cells ((plain (codes "*~~~") ∷ []) ∷ []) ∷ table_rule (Unspecified ∷ Unspecified ∷ []) ∷ []) ∷ []
unfolding sections
e387 = refl

e388 : printable_sections (codes " :-:|-|-|\nx | y\n|:-|-:|\na**\nb") ≡ behind [] 0 (row Paragraph (plain (codes ":-:|-|-|") ∷ []) ∷ []) ∷ blank [] ∷ table_behind [] 0 (table_rule (Left ∷ Right ∷ []) ∷ cells ((flagged true false false false false (codes "x") ∷ []) ∷ (flagged true false false false false (codes "y") ∷ []) ∷ []) ∷ table_rule (Left ∷ Right ∷ []) ∷ cells ((plain (codes "a**") ∷ []) ∷ []) ∷ cells ((plain (codes "b") ∷ []) ∷ []) ∷ table_rule (Left ∷ Right ∷ []) ∷ []) ∷ []
unfolding sections
e388 = refl

e389 : printable_sections (codes "*|-|-|\n*x | y\n|x | y\n|:-|-:|\n") ≡ behind [] 0 (row Paragraph (plain (codes "*|-|-| *x | y") ∷ []) ∷ []) ∷ blank [] ∷ table_behind [] 0 (table_rule (Left ∷ Right ∷ []) ∷ cells ((flagged true false false false false (codes "x") ∷ []) ∷ (flagged true false false false false (codes "y") ∷ []) ∷ []) ∷ table_rule (Left ∷ Right ∷ []) ∷ []) ∷ []
unfolding sections
e389 = refl

e390 : printable_sections (codes "b\n| a | b |\n|-|-|\n~~~|:-|-:|\n") ≡ behind [] 0 (row Paragraph (plain (codes "b") ∷ []) ∷ []) ∷ blank [] ∷ table_behind [] 0 (table_rule (Unspecified ∷ Unspecified ∷ []) ∷ cells ((flagged true false false false false (codes "a") ∷ []) ∷ (flagged true false false false false (codes "b") ∷ []) ∷ []) ∷ table_rule (Unspecified ∷ Unspecified ∷ []) ∷ []) ∷ []
unfolding sections
e390 = refl

e391 : printable_sections (codes "|:-|-:|\n-|-\n> \nx | y\n|:-|-:|\n") ≡ table_behind [] 0 (table_rule (Unspecified ∷ Unspecified ∷ []) ∷ cells ((flagged true false false false false (codes ":-") ∷ []) ∷ (flagged true false false false false (codes "-:") ∷ []) ∷ []) ∷ table_rule (Unspecified ∷ Unspecified ∷ []) ∷ []) ∷ blank [] ∷ table_behind [] 0 (table_rule (Left ∷ Right ∷ []) ∷ cells ((flagged true false false false false (codes "x") ∷ []) ∷ (flagged true false false false false (codes "y") ∷ []) ∷ []) ∷ table_rule (Left ∷ Right ∷ []) ∷ []) ∷ []
unfolding sections
e391 = refl

e392 : printable_sections (codes "| a | b |\n|-|- |:-|-:|\n\n\n`\n|-|") ≡ behind [] 0 (row Paragraph (plain (codes "| a | b | |-|- |:-|-:|") ∷ []) ∷ []) ∷ blank [] ∷ table_behind [] 0 (table_rule (Unspecified ∷ []) ∷ cells ((flagged true false false false false (codes "`") ∷ []) ∷ []) ∷ table_rule (Unspecified ∷ []) ∷ []) ∷ []
unfolding sections
e392 = refl

e393 : printable_sections (codes "`x | y\n|-|-|\n x | y\nb |:-|-:|\n\n") ≡ table_behind [] 0 (table_rule (Unspecified ∷ Unspecified ∷ []) ∷ cells ((flagged true false false false false (codes "`x") ∷ []) ∷ (flagged true false false false false (codes "y") ∷ []) ∷ []) ∷ table_rule (Unspecified ∷ Unspecified ∷ []) ∷ cells ((plain (codes "x") ∷ []) ∷ (plain (codes "y") ∷ []) ∷ []) ∷ cells ((plain (codes "b") ∷ []) ∷ (plain (codes ":-") ∷ []) ∷ []) ∷ table_rule (Unspecified ∷ Unspecified ∷ []) ∷ []) ∷ []
unfolding sections
e393 = refl

e394 : printable_sections (codes "x | y\n|:-|-:|\n~~~|-|-|\n\n> x | y\n") ≡ table_behind [] 0 (table_rule (Left ∷ Right ∷ []) ∷ cells ((flagged true false false false false (codes "x") ∷ []) ∷ (flagged true false false false false (codes "y") ∷ []) ∷ []) ∷ table_rule (Left ∷ Right ∷ []) ∷ []) ∷ blank [] ∷ behind (Code ∷ []) 1 (code_row ([]) ∷ code_row (plain (codes "> x | y") ∷ []) ∷ []) ∷ []
unfolding sections
e394 = refl

e395 : printable_sections (codes "|:-|-:|\n|-|-\n|-|-|\n|:-|-:|\n\n~~**|") ≡ table_behind [] 0 (table_rule (Unspecified ∷ Unspecified ∷ []) ∷ cells ((flagged true false false false false (codes ":-") ∷ []) ∷ (flagged true false false false false (codes "-:") ∷ []) ∷ []) ∷ table_rule (Unspecified ∷ Unspecified ∷ []) ∷ cells ((plain (codes "-") ∷ []) ∷ (plain (codes "-") ∷ []) ∷ []) ∷ cells ((plain (codes ":-") ∷ []) ∷ (plain (codes "-:") ∷ []) ∷ []) ∷ table_rule (Unspecified ∷ Unspecified ∷ []) ∷ []) ∷ blank [] ∷ behind [] 0 (row Paragraph (plain (codes "~~**|") ∷ []) ∷ []) ∷ []
unfolding sections
e395 = refl

e396 : printable_sections (codes "**\nx | y\n|:-|-:|\nx | y\n|:-|-:|\n- \n") ≡ behind [] 0 (row Paragraph (plain (codes "**") ∷ []) ∷ []) ∷ blank [] ∷ table_behind [] 0 (table_rule (Left ∷ Right ∷ []) ∷ cells ((flagged true false false false false (codes "x") ∷ []) ∷ (flagged true false false false false (codes "y") ∷ []) ∷ []) ∷ table_rule (Left ∷ Right ∷ []) ∷ cells ((plain (codes "x") ∷ []) ∷ (plain (codes "y") ∷ []) ∷ []) ∷ cells ((plain (codes ":-") ∷ []) ∷ (plain (codes "-:") ∷ []) ∷ []) ∷ table_rule (Left ∷ Right ∷ []) ∷ []) ∷ blank [] ∷ behind (Bullet ∷ []) 1 (row Paragraph ([]) ∷ []) ∷ []
unfolding sections
e396 = refl

e397 : printable_sections (codes "x | y\n|:-|-:|\n|:-|-:|\n\n\n| a | b |\n") ≡ table_behind [] 0 (table_rule (Left ∷ Right ∷ []) ∷ cells ((flagged true false false false false (codes "x") ∷ []) ∷ (flagged true false false false false (codes "y") ∷ []) ∷ []) ∷ table_rule (Left ∷ Right ∷ []) ∷ cells ((plain (codes ":-") ∷ []) ∷ (plain (codes "-:") ∷ []) ∷ []) ∷ table_rule (Left ∷ Right ∷ []) ∷ []) ∷ blank [] ∷ behind [] 0 (row Paragraph (plain (codes "| a | b |") ∷ []) ∷ []) ∷ []
unfolding sections
e397 = refl

e398 : printable_sections (codes "~~|-|-|\n| a | b |\n|-|-|\n**x | y\n\\|") ≡ behind [] 0 (row Paragraph (plain (codes "~~|-|-|") ∷ []) ∷ []) ∷ blank [] ∷ table_behind [] 0 (table_rule (Unspecified ∷ Unspecified ∷ []) ∷ cells ((flagged true false false false false (codes "a") ∷ []) ∷ (flagged true false false false false (codes "b") ∷ []) ∷ []) ∷ table_rule (Unspecified ∷ Unspecified ∷ []) ∷ cells ((plain (codes "**x") ∷ []) ∷ (plain (codes "y") ∷ []) ∷ []) ∷ cells ((plain (codes "|") ∷ []) ∷ []) ∷ table_rule (Unspecified ∷ Unspecified ∷ []) ∷ []) ∷ []
unfolding sections
e398 = refl

e399 : printable_sections (codes "\n\n|-|-|\n|:-|-:|\n\\|-|-\n~*|:-|-:|\n:-:") ≡ table_behind [] 0 (table_rule (Left ∷ Right ∷ []) ∷ cells ((flagged true false false false false (codes "-") ∷ []) ∷ (flagged true false false false false (codes "-") ∷ []) ∷ []) ∷ table_rule (Left ∷ Right ∷ []) ∷ cells ((plain (codes "|-") ∷ []) ∷ (plain (codes "-") ∷ []) ∷ []) ∷ cells ((plain (codes "~*") ∷ []) ∷ (plain (codes ":-") ∷ []) ∷ []) ∷ cells ((plain (codes ":-:") ∷ []) ∷ []) ∷ table_rule (Left ∷ Right ∷ []) ∷ []) ∷ []
unfolding sections
e399 = refl

e400 : printable_sections (codes "x | y\n-|-\n~~x | y\n-|-\n- b| a | b |\n") ≡ table_behind [] 0 (table_rule (Unspecified ∷ Unspecified ∷ []) ∷ cells ((flagged true false false false false (codes "x") ∷ []) ∷ (flagged true false false false false (codes "y") ∷ []) ∷ []) ∷ table_rule (Unspecified ∷ Unspecified ∷ []) ∷ cells ((plain (codes "~~x") ∷ []) ∷ (plain (codes "y") ∷ []) ∷ []) ∷ cells ((plain (codes "-") ∷ []) ∷ (plain (codes "-") ∷ []) ∷ []) ∷ table_rule (Unspecified ∷ Unspecified ∷ []) ∷ []) ∷ blank [] ∷ behind (Bullet ∷ []) 1 (row Paragraph (plain (codes "b| a | b |") ∷ []) ∷ []) ∷ []
unfolding sections
e400 = refl

pub sections16 : AreSections16
sections16 = record { e376 = e376; e377 = e377; e378 = e378; e379 = e379; e380 = e380; e381 = e381; e382 = e382; e383 = e383; e384 = e384; e385 = e385; e386 = e386; e387 = e387; e388 = e388; e389 = e389; e390 = e390; e391 = e391; e392 = e392; e393 = e393; e394 = e394; e395 = e395; e396 = e396; e397 = e397; e398 = e398; e399 = e399; e400 = e400 }
