-- Examples 351 to 375: their sections and links.
use Rattle.std.specs.Prelude.{◌≡◌, [], ◌∷◌, codes, true, false}
use Rattle.mad_sections.specs.declared.gutters.Gutter.TheVariants.{Bar, Bullet, Code}
use Rattle.mad_md.specs.declared.composite.CompositeStyle.TheVariants.{Paragraph}
use Rattle.mad_md.specs.declared.alignment.Alignment.TheVariants.{Unspecified, Left, Center, Right}
use Rattle.mad_md.specs.Lines.{table_rule}
use Rattle.markdown_examples.specs.Rows.{plain, flagged, row, code_row, cells, behind, table_behind, blank}
use Rattle.markdown_reader.specs.Markdown.{printable_sections}

pub record AreSections15 : Type 0 where
  pub e351 : printable_sections (codes ":-:|-|-|\n|-|-|-\nb**`") ≡ table_behind [] 0 (table_rule (Unspecified ∷ Unspecified ∷ Unspecified ∷ []) ∷ cells ((flagged true false false false false (codes ":-:") ∷ []) ∷ (flagged true false false false false (codes "-") ∷ []) ∷ (flagged true false false false false (codes "-") ∷ []) ∷ []) ∷ table_rule (Unspecified ∷ Unspecified ∷ Unspecified ∷ []) ∷ cells ((plain (codes "b**`") ∷ []) ∷ []) ∷ table_rule (Unspecified ∷ Unspecified ∷ Unspecified ∷ []) ∷ []) ∷ []
  pub e352 : printable_sections (codes "| a | b |\n|:-|-:|\n*\n") ≡ table_behind [] 0 (table_rule (Left ∷ Right ∷ []) ∷ cells ((flagged true false false false false (codes "a") ∷ []) ∷ (flagged true false false false false (codes "b") ∷ []) ∷ []) ∷ table_rule (Left ∷ Right ∷ []) ∷ []) ∷ blank [] ∷ behind (Bullet ∷ []) 1 (row Paragraph ([]) ∷ []) ∷ []
  pub e353 : printable_sections (codes "|-|-|\n|:-|-:|\n`:-:\\|") ≡ table_behind [] 0 (table_rule (Left ∷ Right ∷ []) ∷ cells ((flagged true false false false false (codes "-") ∷ []) ∷ (flagged true false false false false (codes "-") ∷ []) ∷ []) ∷ table_rule (Left ∷ Right ∷ []) ∷ cells ((plain (codes "`:-:|") ∷ []) ∷ []) ∷ table_rule (Left ∷ Right ∷ []) ∷ []) ∷ []
  pub e354 : printable_sections (codes "|:-|-:|\n-|-\n~~|\n\n-  ") ≡ table_behind [] 0 (table_rule (Unspecified ∷ Unspecified ∷ []) ∷ cells ((flagged true false false false false (codes ":-") ∷ []) ∷ (flagged true false false false false (codes "-:") ∷ []) ∷ []) ∷ table_rule (Unspecified ∷ Unspecified ∷ []) ∷ cells ((plain (codes "~~") ∷ []) ∷ []) ∷ table_rule (Unspecified ∷ Unspecified ∷ []) ∷ []) ∷ blank [] ∷ behind (Bullet ∷ []) 1 (row Paragraph ([]) ∷ []) ∷ []
  pub e355 : printable_sections (codes "|:-|-:|\n|:-|-:|\n`*\n~") ≡ table_behind [] 0 (table_rule (Left ∷ Right ∷ []) ∷ cells ((flagged true false false false false (codes ":-") ∷ []) ∷ (flagged true false false false false (codes "-:") ∷ []) ∷ []) ∷ table_rule (Left ∷ Right ∷ []) ∷ cells ((plain (codes "`*") ∷ []) ∷ []) ∷ cells ((plain (codes "~") ∷ []) ∷ []) ∷ table_rule (Left ∷ Right ∷ []) ∷ []) ∷ []
  pub e356 : printable_sections (codes "-|-\n|:-|-:|\n||-|-|\n- ") ≡ table_behind [] 0 (table_rule (Left ∷ Right ∷ []) ∷ cells ((flagged true false false false false (codes "-") ∷ []) ∷ (flagged true false false false false (codes "-") ∷ []) ∷ []) ∷ table_rule (Left ∷ Right ∷ []) ∷ cells (([]) ∷ (plain (codes "-") ∷ []) ∷ []) ∷ table_rule (Left ∷ Right ∷ []) ∷ []) ∷ blank [] ∷ behind (Bullet ∷ []) 1 (row Paragraph ([]) ∷ []) ∷ []
  pub e357 : printable_sections (codes "||:-|-:|\n|-|-|\n|-|-|\n") ≡ behind [] 0 (row Paragraph (plain (codes "||:-|-:|") ∷ []) ∷ []) ∷ blank [] ∷ table_behind [] 0 (table_rule (Unspecified ∷ Unspecified ∷ []) ∷ cells ((flagged true false false false false (codes "-") ∷ []) ∷ (flagged true false false false false (codes "-") ∷ []) ∷ []) ∷ table_rule (Unspecified ∷ Unspecified ∷ []) ∷ []) ∷ []
  pub e358 : printable_sections (codes "~~\n\n\nb\nx | y\n|:-|-:|\n") ≡ behind [] 0 (row Paragraph (plain (codes "~~") ∷ []) ∷ []) ∷ blank [] ∷ behind [] 0 (row Paragraph (plain (codes "b") ∷ []) ∷ []) ∷ blank [] ∷ table_behind [] 0 (table_rule (Left ∷ Right ∷ []) ∷ cells ((flagged true false false false false (codes "x") ∷ []) ∷ (flagged true false false false false (codes "y") ∷ []) ∷ []) ∷ table_rule (Left ∷ Right ∷ []) ∷ []) ∷ []
  pub e359 : printable_sections (codes "\nx | y\n|-|-\n~~~a\n\n-|-\n") ≡ table_behind [] 0 (table_rule (Unspecified ∷ Unspecified ∷ []) ∷ cells ((flagged true false false false false (codes "x") ∷ []) ∷ (flagged true false false false false (codes "y") ∷ []) ∷ []) ∷ table_rule (Unspecified ∷ Unspecified ∷ []) ∷ []) ∷ blank [] ∷ behind (Code ∷ []) 1 (code_row ([]) ∷ code_row (plain (codes "-|-") ∷ []) ∷ []) ∷ []
  pub e360 : printable_sections (codes "`|:-|-:|\n:-:|-|-|\n|-|b") ≡ table_behind [] 0 (table_rule (Center ∷ Unspecified ∷ Unspecified ∷ []) ∷ cells ((flagged true false false false false (codes "`") ∷ []) ∷ (flagged true false false false false (codes ":-") ∷ []) ∷ (flagged true false false false false (codes "-:") ∷ []) ∷ []) ∷ table_rule (Center ∷ Unspecified ∷ Unspecified ∷ []) ∷ cells ((plain (codes "-") ∷ []) ∷ (plain (codes "b") ∷ []) ∷ []) ∷ table_rule (Center ∷ Unspecified ∷ Unspecified ∷ []) ∷ []) ∷ []
  pub e361 : printable_sections (codes "| a | b |\n |-|-|\n\n\\|a\n") ≡ table_behind [] 0 (table_rule (Unspecified ∷ Unspecified ∷ []) ∷ cells ((flagged true false false false false (codes "a") ∷ []) ∷ (flagged true false false false false (codes "b") ∷ []) ∷ []) ∷ table_rule (Unspecified ∷ Unspecified ∷ []) ∷ []) ∷ blank [] ∷ behind [] 0 (row Paragraph (plain (codes "|a") ∷ []) ∷ []) ∷ []
  pub e362 : printable_sections (codes "| a | b |\n> ~b~> \n\n:-:") ≡ behind [] 0 (row Paragraph (plain (codes "| a | b |") ∷ []) ∷ []) ∷ behind (Bar ∷ []) 1 (row Paragraph (flagged false false false true false (codes "b") ∷ plain (codes ">") ∷ []) ∷ []) ∷ blank [] ∷ behind [] 0 (row Paragraph (plain (codes ":-:") ∷ []) ∷ []) ∷ []
  pub e363 : printable_sections (codes "|-||-|\n\n|-|-|\n|-|-|\n> ") ≡ behind [] 0 (row Paragraph (plain (codes "|-||-|") ∷ []) ∷ []) ∷ blank [] ∷ table_behind [] 0 (table_rule (Unspecified ∷ Unspecified ∷ []) ∷ cells ((flagged true false false false false (codes "-") ∷ []) ∷ (flagged true false false false false (codes "-") ∷ []) ∷ []) ∷ table_rule (Unspecified ∷ Unspecified ∷ []) ∷ []) ∷ []
  pub e364 : printable_sections (codes "|:-|-:|\n|-|-|\n\n\n\n\n- > ") ≡ table_behind [] 0 (table_rule (Unspecified ∷ Unspecified ∷ []) ∷ cells ((flagged true false false false false (codes ":-") ∷ []) ∷ (flagged true false false false false (codes "-:") ∷ []) ∷ []) ∷ table_rule (Unspecified ∷ Unspecified ∷ []) ∷ []) ∷ blank [] ∷ behind (Bullet ∷ []) 1 (row Paragraph ([]) ∷ []) ∷ []
  pub e365 : printable_sections (codes ":-:x | y\n|:-|-:|\n\n\n||\\|") ≡ table_behind [] 0 (table_rule (Left ∷ Right ∷ []) ∷ cells ((flagged true false false false false (codes ":-:x") ∷ []) ∷ (flagged true false false false false (codes "y") ∷ []) ∷ []) ∷ table_rule (Left ∷ Right ∷ []) ∷ []) ∷ blank [] ∷ behind [] 0 (row Paragraph (plain (codes "|||") ∷ []) ∷ []) ∷ []
  pub e366 : printable_sections (codes "\\|| a | b |\n\n-|-\n:-:|-|") ≡ behind [] 0 (row Paragraph (plain (codes "|| a | b |") ∷ []) ∷ []) ∷ blank [] ∷ table_behind [] 0 (table_rule (Center ∷ Unspecified ∷ []) ∷ cells ((flagged true false false false false (codes "-") ∷ []) ∷ (flagged true false false false false (codes "-") ∷ []) ∷ []) ∷ table_rule (Center ∷ Unspecified ∷ []) ∷ []) ∷ []
  pub e367 : printable_sections (codes "| a | b |\n|-|-|\n~~~-|-\n") ≡ table_behind [] 0 (table_rule (Unspecified ∷ Unspecified ∷ []) ∷ cells ((flagged true false false false false (codes "a") ∷ []) ∷ (flagged true false false false false (codes "b") ∷ []) ∷ []) ∷ table_rule (Unspecified ∷ Unspecified ∷ []) ∷ []) ∷ []
  pub e368 : printable_sections (codes "\n\n|-|-|\n |:-|-:|\n\n\n\n> b ") ≡ table_behind [] 0 (table_rule (Left ∷ Right ∷ []) ∷ cells ((flagged true false false false false (codes "-") ∷ []) ∷ (flagged true false false false false (codes "-") ∷ []) ∷ []) ∷ table_rule (Left ∷ Right ∷ []) ∷ []) ∷ blank [] ∷ behind (Bar ∷ []) 1 (row Paragraph (plain (codes "b") ∷ []) ∷ []) ∷ []
  pub e369 : printable_sections (codes "\n| a | b |\n|:-|-:|\n- \nbb") ≡ table_behind [] 0 (table_rule (Left ∷ Right ∷ []) ∷ cells ((flagged true false false false false (codes "a") ∷ []) ∷ (flagged true false false false false (codes "b") ∷ []) ∷ []) ∷ table_rule (Left ∷ Right ∷ []) ∷ []) ∷ blank [] ∷ behind (Bullet ∷ []) 1 (row Paragraph ([]) ∷ []) ∷ behind [] 0 (row Paragraph (plain (codes "bb") ∷ []) ∷ []) ∷ []
  pub e370 : printable_sections (codes "**|-|-|\n:-:|:-|-:|\n b:-:") ≡ table_behind [] 0 (table_rule (Center ∷ Left ∷ Right ∷ []) ∷ cells ((flagged true false false false false (codes "**") ∷ []) ∷ (flagged true false false false false (codes "-") ∷ []) ∷ (flagged true false false false false (codes "-") ∷ []) ∷ []) ∷ table_rule (Center ∷ Left ∷ Right ∷ []) ∷ cells ((plain (codes "b:-:") ∷ []) ∷ []) ∷ table_rule (Center ∷ Left ∷ Right ∷ []) ∷ []) ∷ []
  pub e371 : printable_sections (codes "`-|-\n|-|-|\n|-|-|\n\n\n~~~- ") ≡ table_behind [] 0 (table_rule (Unspecified ∷ Unspecified ∷ []) ∷ cells ((flagged true false false false false (codes "`-") ∷ []) ∷ (flagged true false false false false (codes "-") ∷ []) ∷ []) ∷ table_rule (Unspecified ∷ Unspecified ∷ []) ∷ cells ((plain (codes "-") ∷ []) ∷ (plain (codes "-") ∷ []) ∷ []) ∷ table_rule (Unspecified ∷ Unspecified ∷ []) ∷ []) ∷ []
  pub e372 : printable_sections (codes "| a | b |\n|:-|-:|\n> \n- `") ≡ table_behind [] 0 (table_rule (Left ∷ Right ∷ []) ∷ cells ((flagged true false false false false (codes "a") ∷ []) ∷ (flagged true false false false false (codes "b") ∷ []) ∷ []) ∷ table_rule (Left ∷ Right ∷ []) ∷ []) ∷ blank [] ∷ behind (Bullet ∷ []) 1 (row Paragraph (plain (codes "`") ∷ []) ∷ []) ∷ []
  pub e373 : printable_sections (codes "~**x | y\n|*\n|:-|-:|\n-|-\n") ≡ behind [] 0 (row Paragraph (plain (codes "~*") ∷ flagged false true false false false (codes "x | y |") ∷ []) ∷ []) ∷ blank [] ∷ table_behind [] 0 (table_rule (Unspecified ∷ Unspecified ∷ []) ∷ cells ((flagged true false false false false (codes ":-") ∷ []) ∷ (flagged true false false false false (codes "-:") ∷ []) ∷ []) ∷ table_rule (Unspecified ∷ Unspecified ∷ []) ∷ []) ∷ []
  pub e374 : printable_sections (codes "|-|-|\n|-|-|\n\n\n`-|-\n*~~~**") ≡ table_behind [] 0 (table_rule (Unspecified ∷ Unspecified ∷ []) ∷ cells ((flagged true false false false false (codes "-") ∷ []) ∷ (flagged true false false false false (codes "-") ∷ []) ∷ []) ∷ table_rule (Unspecified ∷ Unspecified ∷ []) ∷ []) ∷ blank [] ∷ behind [] 0 (row Paragraph (plain (codes "`-|- ") ∷ flagged false true false false false (codes "~~~") ∷ plain (codes "*") ∷ []) ∷ []) ∷ []
  pub e375 : printable_sections (codes "*\\|\n|-|-|\n|:-|-:|\n|:-|-:|\n") ≡ behind [] 0 (row Paragraph (plain (codes "*|") ∷ []) ∷ []) ∷ blank [] ∷ table_behind [] 0 (table_rule (Left ∷ Right ∷ []) ∷ cells ((flagged true false false false false (codes "-") ∷ []) ∷ (flagged true false false false false (codes "-") ∷ []) ∷ []) ∷ table_rule (Left ∷ Right ∷ []) ∷ cells ((plain (codes ":-") ∷ []) ∷ (plain (codes "-:") ∷ []) ∷ []) ∷ table_rule (Left ∷ Right ∷ []) ∷ []) ∷ []
