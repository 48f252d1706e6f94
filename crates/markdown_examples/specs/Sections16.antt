-- Examples 376 to 400: their sections and links.
use Rattle.std.specs.Prelude.{◌≡◌, [], ◌∷◌, codes, true, false}
use Rattle.mad_sections.specs.declared.gutters.Gutter.TheVariants.{Bar, Bullet, Code}
use Rattle.mad_md.specs.declared.composite.CompositeStyle.TheVariants.{Paragraph}
use Rattle.mad_md.specs.declared.alignment.Alignment.TheVariants.{Unspecified, Left, Center, Right}
use Rattle.mad_md.specs.Lines.{table_rule}
use Rattle.markdown_examples.specs.Rows.{plain, flagged, row, code_row, cells, behind, table_behind, blank}
use Rattle.markdown_reader.specs.Markdown.{printable_sections}

pub record AreSections16 : Type 0 where
  pub e376 : printable_sections (codes "~|-|\n-|-\n:-:| a | b |\n-  *") ≡ table_behind [] 0 (table_rule (Unspecified ∷ Unspecified ∷ []) ∷ cells ((flagged true false false false false (codes "~") ∷ []) ∷ (flagged true false false false false (codes "-") ∷ []) ∷ []) ∷ table_rule (Unspecified ∷ Unspecified ∷ []) ∷ cells ((plain (codes ":-:") ∷ []) ∷ (plain (codes "a") ∷ []) ∷ []) ∷ table_rule (Unspecified ∷ Unspecified ∷ []) ∷ []) ∷ blank [] ∷ behind (Bullet ∷ Bullet ∷ []) 2 (row Paragraph ([]) ∷ []) ∷ []
  pub e377 : printable_sections (codes "\n\n||-|-|\n|:-|-:|\n|-|-|\n**`~") ≡ behind [] 0 (row Paragraph (plain (codes "||-|-|") ∷ []) ∷ []) ∷ blank [] ∷ table_behind [] 0 (table_rule (Unspecified ∷ Unspecified ∷ []) ∷ cells ((flagged true false false false false (codes ":-") ∷ []) ∷ (flagged true false false false false (codes "-:") ∷ []) ∷ []) ∷ table_rule (Unspecified ∷ Unspecified ∷ []) ∷ cells ((plain (codes "**`~") ∷ []) ∷ []) ∷ table_rule (Unspecified ∷ Unspecified ∷ []) ∷ []) ∷ []
  pub e378 : printable_sections (codes "\n-|-\n-|-\n|-|\n> |-|x | y\n~~~") ≡ table_behind [] 0 (table_rule (Unspecified ∷ Unspecified ∷ []) ∷ cells ((flagged true false false false false (codes "-") ∷ []) ∷ (flagged true false false false false (codes "-") ∷ []) ∷ []) ∷ table_rule (Unspecified ∷ Unspecified ∷ []) ∷ cells ((plain (codes "-") ∷ []) ∷ []) ∷ table_rule (Unspecified ∷ Unspecified ∷ []) ∷ []) ∷ blank [] ∷ behind (Bar ∷ []) 1 (row Paragraph (plain (codes "|-|x | y") ∷ []) ∷ []) ∷ []
  pub e379 : printable_sections (codes "a| a | b |\n|-|-|\n-|-\n\n|-|- ") ≡ behind [] 0 (row Paragraph (plain (codes "a| a | b |") ∷ []) ∷ []) ∷ blank [] ∷ table_behind [] 0 (table_rule (Unspecified ∷ Unspecified ∷ []) ∷ cells ((flagged true false false false false (codes "-") ∷ []) ∷ (flagged true false false false false (codes "-") ∷ []) ∷ []) ∷ table_rule (Unspecified ∷ Unspecified ∷ []) ∷ []) ∷ blank [] ∷ behind [] 0 (row Paragraph (plain (codes "|-|-") ∷ []) ∷ []) ∷ []
  pub e380 : printable_sections (codes "| a | b |\n-|-\n\n**\n\n-|-\n~~`|") ≡ table_behind [] 0 (table_rule (Unspecified ∷ Unspecified ∷ []) ∷ cells ((flagged true false false false false (codes "a") ∷ []) ∷ (flagged true false false false false (codes "b") ∷ []) ∷ []) ∷ table_rule (Unspecified ∷ Unspecified ∷ []) ∷ []) ∷ blank [] ∷ behind [] 0 (row Paragraph (plain (codes "**") ∷ []) ∷ []) ∷ blank [] ∷ behind [] 0 (row Paragraph (plain (codes "-|- ~~`|") ∷ []) ∷ []) ∷ []
  pub e381 : printable_sections (codes "| a | b |\n|-|-|\n\n- |:-|-:|\n") ≡ table_behind [] 0 (table_rule (Unspecified ∷ Unspecified ∷ []) ∷ cells ((flagged true false false false false (codes "a") ∷ []) ∷ (flagged true false false false false (codes "b") ∷ []) ∷ []) ∷ table_rule (Unspecified ∷ Unspecified ∷ []) ∷ []) ∷ blank [] ∷ behind (Bullet ∷ []) 1 (row Paragraph (plain (codes "|:-|-:|") ∷ []) ∷ []) ∷ []
  pub e382 : printable_sections (codes "| a | b |\n|:-|-:|\n~~\n~~~~**") ≡ table_behind [] 0 (table_rule (Left ∷ Right ∷ []) ∷ cells ((flagged true false false false false (codes "a") ∷ []) ∷ (flagged true false false false false (codes "b") ∷ []) ∷ []) ∷ table_rule (Left ∷ Right ∷ []) ∷ cells ((plain (codes "~~") ∷ []) ∷ []) ∷ table_rule (Left ∷ Right ∷ []) ∷ []) ∷ []
  pub e383 : printable_sections (codes "|-|-|\n- ~~:-:|:-|-:|\n|-|~~\n") ≡ behind [] 0 (row Paragraph (plain (codes "|-|-|") ∷ []) ∷ []) ∷ behind (Bullet ∷ []) 1 (row Paragraph (flagged false false false true false (codes ":-:|:-|-:| |-|") ∷ []) ∷ []) ∷ []
  pub e384 : printable_sections (codes "|:-|-:|\n|-|-|\n|-|-|\n\n> |a> ") ≡ table_behind [] 0 (table_rule (Unspecified ∷ Unspecified ∷ []) ∷ cells ((flagged true false false false false (codes ":-") ∷ []) ∷ (flagged true false false false false (codes "-:") ∷ []) ∷ []) ∷ table_rule (Unspecified ∷ Unspecified ∷ []) ∷ cells ((plain (codes "-") ∷ []) ∷ (plain (codes "-") ∷ []) ∷ []) ∷ table_rule (Unspecified ∷ Unspecified ∷ []) ∷ []) ∷ blank [] ∷ behind (Bar ∷ []) 1 (row Paragraph (plain (codes "|a>") ∷ []) ∷ []) ∷ []
  pub e385 : printable_sections (codes "> bx | y\n\n\n|-|-|\n|:-|-:|\n|\\|") ≡ behind (Bar ∷ []) 1 (row Paragraph (plain (codes "bx | y") ∷ []) ∷ []) ∷ blank [] ∷ table_behind [] 0 (table_rule (Left ∷ Right ∷ []) ∷ cells ((flagged true false false false false (codes "-") ∷ []) ∷ (flagged true false false false false (codes "-") ∷ []) ∷ []) ∷ table_rule (Left ∷ Right ∷ []) ∷ cells ((plain (codes "|") ∷ []) ∷ []) ∷ table_rule (Left ∷ Right ∷ []) ∷ []) ∷ []
  pub e386 : printable_sections (codes "\\|\n\n| a | b |\n|-|:-:|\nx | y\n") ≡ behind [] 0 (row Paragraph (plain (codes "|") ∷ []) ∷ []) ∷ blank [] ∷ table_behind [] 0 (table_rule (Unspecified ∷ Center ∷ []) ∷ cells ((flagged true false false false false (codes "a") ∷ []) ∷ (flagged true false false false false (codes "b") ∷ []) ∷ []) ∷ table_rule (Unspecified ∷ Center ∷ []) ∷ cells ((plain (codes "x") ∷ []) ∷ (plain (codes "y") ∷ []) ∷ []) ∷ table_rule (Unspecified ∷ Center ∷ []) ∷ []) ∷ []
  pub e387 : printable_sections (codes "|:-|-:|\n> |\n\n\nx | y\n-|-\n*~~~") ≡ behind [] 0 (row Paragraph (plain (codes "|:-|-:|") ∷ []) ∷ []) ∷ behind (Bar ∷ []) 1 (row Paragraph (plain (codes "|") ∷ []) ∷ []) ∷ blank [] ∷ table_behind [] 0 (table_rule (Unspecified ∷ Unspecified ∷ []) ∷ cells ((flagged true false false false false (codes "x") ∷ []) ∷ (flagged true false false false false (codes "y") ∷ []) ∷ []) ∷ table_rule (Unspecified ∷ Unspecified ∷ []) ∷ cells ((plain (codes "*~~~") ∷ []) ∷ []) ∷ table_rule (Unspecified ∷ Unspecified ∷ []) ∷ []) ∷ []
  pub e388 : printable_sections (codes " :-:|-|-|\nx | y\n|:-|-:|\na**\nb") ≡ behind [] 0 (row Paragraph (plain (codes ":-:|-|-|") ∷ []) ∷ []) ∷ blank [] ∷ table_behind [] 0 (table_rule (Left ∷ Right ∷ []) ∷ cells ((flagged true false false false false (codes "x") ∷ []) ∷ (flagged true false false false false (codes "y") ∷ []) ∷ []) ∷ table_rule (Left ∷ Right ∷ []) ∷ cells ((plain (codes "a**") ∷ []) ∷ []) ∷ cells ((plain (codes "b") ∷ []) ∷ []) ∷ table_rule (Left ∷ Right ∷ []) ∷ []) ∷ []
  pub e389 : printable_sections (codes "*|-|-|\n*x | y\n|x | y\n|:-|-:|\n") ≡ behind [] 0 (row Paragraph (plain (codes "*|-|-| *x | y") ∷ []) ∷ []) ∷ blank [] ∷ table_behind [] 0 (table_rule (Left ∷ Right ∷ []) ∷ cells ((flagged true false false false false (codes "x") ∷ []) ∷ (flagged true false false false false (codes "y") ∷ []) ∷ []) ∷ table_rule (Left ∷ Right ∷ []) ∷ []) ∷ []
  pub e390 : printable_sections (codes "b\n| a | b |\n|-|-|\n~~~|:-|-:|\n") ≡ behind [] 0 (row Paragraph (plain (codes "b") ∷ []) ∷ []) ∷ blank [] ∷ table_behind [] 0 (table_rule (Unspecified ∷ Unspecified ∷ []) ∷ cells ((flagged true false false false false (codes "a") ∷ []) ∷ (flagged true false false false false (codes "b") ∷ []) ∷ []) ∷ table_rule (Unspecified ∷ Unspecified ∷ []) ∷ []) ∷ []
  pub e391 : printable_sections (codes "|:-|-:|\n-|-\n> \nx | y\n|:-|-:|\n") ≡ table_behind [] 0 (table_rule (Unspecified ∷ Unspecified ∷ []) ∷ cells ((flagged true false false false false (codes ":-") ∷ []) ∷ (flagged true false false false false (codes "-:") ∷ []) ∷ []) ∷ table_rule (Unspecified ∷ Unspecified ∷ []) ∷ []) ∷ blank [] ∷ table_behind [] 0 (table_rule (Left ∷ Right ∷ []) ∷ cells ((flagged true false false false false (codes "x") ∷ []) ∷ (flagged true false false false false (codes "y") ∷ []) ∷ []) ∷ table_rule (Left ∷ Right ∷ []) ∷ []) ∷ []
  pub e392 : printable_sections (codes "| a | b |\n|-|- |:-|-:|\n\n\n`\n|-|") ≡ behind [] 0 (row Paragraph (plain (codes "| a | b | |-|- |:-|-:|") ∷ []) ∷ []) ∷ blank [] ∷ table_behind [] 0 (table_rule (Unspecified ∷ []) ∷ cells ((flagged true false false false false (codes "`") ∷ []) ∷ []) ∷ table_rule (Unspecified ∷ []) ∷ []) ∷ []
  pub e393 : printable_sections (codes "`x | y\n|-|-|\n x | y\nb |:-|-:|\n\n") ≡ table_behind [] 0 (table_rule (Unspecified ∷ Unspecified ∷ []) ∷ cells ((flagged true false false false false (codes "`x") ∷ []) ∷ (flagged true false false false false (codes "y") ∷ []) ∷ []) ∷ table_rule (Unspecified ∷ Unspecified ∷ []) ∷ cells ((plain (codes "x") ∷ []) ∷ (plain (codes "y") ∷ []) ∷ []) ∷ cells ((plain (codes "b") ∷ []) ∷ (plain (codes ":-") ∷ []) ∷ []) ∷ table_rule (Unspecified ∷ Unspecified ∷ []) ∷ []) ∷ []
  pub e394 : printable_sections (codes "x | y\n|:-|-:|\n~~~|-|-|\n\n> x | y\n") ≡ table_behind [] 0 (table_rule (Left ∷ Right ∷ []) ∷ cells ((flagged true false false false false (codes "x") ∷ []) ∷ (flagged true false false false false (codes "y") ∷ []) ∷ []) ∷ table_rule (Left ∷ Right ∷ []) ∷ []) ∷ blank [] ∷ behind (Code ∷ []) 1 (code_row ([]) ∷ code_row (plain (codes "> x | y") ∷ []) ∷ []) ∷ []
  pub e395 : printable_sections (codes "|:-|-:|\n|-|-\n|-|-|\n|:-|-:|\n\n~~**|") ≡ table_behind [] 0 (table_rule (Unspecified ∷ Unspecified ∷ []) ∷ cells ((flagged true false false false false (codes ":-") ∷ []) ∷ (flagged true false false false false (codes "-:") ∷ []) ∷ []) ∷ table_rule (Unspecified ∷ Unspecified ∷ []) ∷ cells ((plain (codes "-") ∷ []) ∷ (plain (codes "-") ∷ []) ∷ []) ∷ cells ((plain (codes ":-") ∷ []) ∷ (plain (codes "-:") ∷ []) ∷ []) ∷ table_rule (Unspecified ∷ Unspecified ∷ []) ∷ []) ∷ blank [] ∷ behind [] 0 (row Paragraph (plain (codes "~~**|") ∷ []) ∷ []) ∷ []
  pub e396 : printable_sections (codes "**\nx | y\n|:-|-:|\nx | y\n|:-|-:|\n- \n") ≡ behind [] 0 (row Paragraph (plain (codes "**") ∷ []) ∷ []) ∷ blank [] ∷ table_behind [] 0 (table_rule (Left ∷ Right ∷ []) ∷ cells ((flagged true false false false false (codes "x") ∷ []) ∷ (flagged true false false false false (codes "y") ∷ []) ∷ []) ∷ table_rule (Left ∷ Right ∷ []) ∷ cells ((plain (codes "x") ∷ []) ∷ (plain (codes "y") ∷ []) ∷ []) ∷ cells ((plain (codes ":-") ∷ []) ∷ (plain (codes "-:") ∷ []) ∷ []) ∷ table_rule (Left ∷ Right ∷ []) ∷ []) ∷ blank [] ∷ behind (Bullet ∷ []) 1 (row Paragraph ([]) ∷ []) ∷ []
  pub e397 : printable_sections (codes "x | y\n|:-|-:|\n|:-|-:|\n\n\n| a | b |\n") ≡ table_behind [] 0 (table_rule (Left ∷ Right ∷ []) ∷ cells ((flagged true false false false false (codes "x") ∷ []) ∷ (flagged true false false false false (codes "y") ∷ []) ∷ []) ∷ table_rule (Left ∷ Right ∷ []) ∷ cells ((plain (codes ":-") ∷ []) ∷ (plain (codes "-:") ∷ []) ∷ []) ∷ table_rule (Left ∷ Right ∷ []) ∷ []) ∷ blank [] ∷ behind [] 0 (row Paragraph (plain (codes "| a | b |") ∷ []) ∷ []) ∷ []
  pub e398 : printable_sections (codes "~~|-|-|\n| a | b |\n|-|-|\n**x | y\n\\|") ≡ behind [] 0 (row Paragraph (plain (codes "~~|-|-|") ∷ []) ∷ []) ∷ blank [] ∷ table_behind [] 0 (table_rule (Unspecified ∷ Unspecified ∷ []) ∷ cells ((flagged true false false false false (codes "a") ∷ []) ∷ (flagged true false false false false (codes "b") ∷ []) ∷ []) ∷ table_rule (Unspecified ∷ Unspecified ∷ []) ∷ cells ((plain (codes "**x") ∷ []) ∷ (plain (codes "y") ∷ []) ∷ []) ∷ cells ((plain (codes "|") ∷ []) ∷ []) ∷ table_rule (Unspecified ∷ Unspecified ∷ []) ∷ []) ∷ []
  pub e399 : printable_sections (codes "\n\n|-|-|\n|:-|-:|\n\\|-|-\n~*|:-|-:|\n:-:") ≡ table_behind [] 0 (table_rule (Left ∷ Right ∷ []) ∷ cells ((flagged true false false false false (codes "-") ∷ []) ∷ (flagged true false false false false (codes "-") ∷ []) ∷ []) ∷ table_rule (Left ∷ Right ∷ []) ∷ cells ((plain (codes "|-") ∷ []) ∷ (plain (codes "-") ∷ []) ∷ []) ∷ cells ((plain (codes "~*") ∷ []) ∷ (plain (codes ":-") ∷ []) ∷ []) ∷ cells ((plain (codes ":-:") ∷ []) ∷ []) ∷ table_rule (Left ∷ Right ∷ []) ∷ []) ∷ []
  pub e400 : printable_sections (codes "x | y\n-|-\n~~x | y\n-|-\n- b| a | b |\n") ≡ table_behind [] 0 (table_rule (Unspecified ∷ Unspecified ∷ []) ∷ cells ((flagged true false false false false (codes "x") ∷ []) ∷ (flagged true false false false false (codes "y") ∷ []) ∷ []) ∷ table_rule (Unspecified ∷ Unspecified ∷ []) ∷ cells ((plain (codes "~~x") ∷ []) ∷ (plain (codes "y") ∷ []) ∷ []) ∷ cells ((plain (codes "-") ∷ []) ∷ (plain (codes "-") ∷ []) ∷ []) ∷ table_rule (Unspecified ∷ Unspecified ∷ []) ∷ []) ∷ blank [] ∷ behind (Bullet ∷ []) 1 (row Paragraph (plain (codes "b| a | b |") ∷ []) ∷ []) ∷ []
