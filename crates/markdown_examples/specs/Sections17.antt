-- Examples 401 to 425: their sections and links.
use Rattle.std.specs.Prelude.{◌≡◌, [], ◌∷◌, codes, true, false}
use Rattle.mad_sections.specs.declared.gutters.Gutter.TheVariants.{Bar, Bullet, Number, Code}
use Rattle.mad_md.specs.declared.composite.CompositeStyle.TheVariants.{Paragraph}
use Rattle.mad_md.specs.declared.alignment.Alignment.TheVariants.{Unspecified, Left, Right}
use Rattle.mad_md.specs.Lines.{table_rule, horizontal_rule}
use Rattle.markdown_examples.specs.Rows.{plain, flagged, row, code_row, cells, behind, table_behind, blank}
use Rattle.markdown_reader.specs.Mapping.{link_at}
use Rattle.markdown_reader.specs.Markdown.{printable_sections, unmarked_links}

pub record AreSections17 : Type 0 where
  pub e401 : printable_sections (codes "x | y\nx | y\n|:-|-:|\n**\n\n**- -|-\n:-:") ≡ behind [] 0 (row Paragraph (plain (codes "x | y") ∷ []) ∷ []) ∷ blank [] ∷ table_behind [] 0 (table_rule (Left ∷ Right ∷ []) ∷ cells ((flagged true false false false false (codes "x") ∷ []) ∷ (flagged true false false false false (codes "y") ∷ []) ∷ []) ∷ table_rule (Left ∷ Right ∷ []) ∷ cells ((plain (codes "**") ∷ []) ∷ []) ∷ table_rule (Left ∷ Right ∷ []) ∷ []) ∷ blank [] ∷ behind [] 0 (row Paragraph (plain (codes "**- -|- :-:") ∷ []) ∷ []) ∷ []
  pub e402 : printable_sections (codes "**|:-|-:|\n ~~\n\n|:-|-:|\nax | y\n|-|-|\n") ≡ behind [] 0 (row Paragraph (plain (codes "**|:-|-:| ~~") ∷ []) ∷ []) ∷ blank [] ∷ behind [] 0 (row Paragraph (plain (codes "|:-|-:|") ∷ []) ∷ []) ∷ blank [] ∷ table_behind [] 0 (table_rule (Unspecified ∷ Unspecified ∷ []) ∷ cells ((flagged true false false false false (codes "ax") ∷ []) ∷ (flagged true false false false false (codes "y") ∷ []) ∷ []) ∷ table_rule (Unspecified ∷ Unspecified ∷ []) ∷ []) ∷ []
  pub e403 : printable_sections (codes "\n:-:\n\n| a | b |\n |:-|-:|\n| a | b |\n***") ≡ behind [] 0 (row Paragraph (plain (codes ":-:") ∷ []) ∷ []) ∷ blank [] ∷ table_behind [] 0 (table_rule (Left ∷ Right ∷ []) ∷ cells ((flagged true false false false false (codes "a") ∷ []) ∷ (flagged true false false false false (codes "b") ∷ []) ∷ []) ∷ table_rule (Left ∷ Right ∷ []) ∷ cells ((plain (codes "a") ∷ []) ∷ (plain (codes "b") ∷ []) ∷ []) ∷ table_rule (Left ∷ Right ∷ []) ∷ []) ∷ blank [] ∷ behind [] 0 (horizontal_rule ∷ []) ∷ []
  pub e404 : printable_sections (codes "| a | b |\n-|-\n\n\n> | a | b |\n| a | b |\n") ≡ table_behind [] 0 (table_rule (Unspecified ∷ Unspecified ∷ []) ∷ cells ((flagged true false false false false (codes "a") ∷ []) ∷ (flagged true false false false false (codes "b") ∷ []) ∷ []) ∷ table_rule (Unspecified ∷ Unspecified ∷ []) ∷ []) ∷ blank [] ∷ behind (Bar ∷ []) 1 (row Paragraph (plain (codes "| a | b | | a | b |") ∷ []) ∷ []) ∷ []
  pub e405 : printable_sections (codes "| a | b |\n~~\n|-|-|\n|:-|-:|\n*|:-|-:|\n- ") ≡ behind [] 0 (row Paragraph (plain (codes "| a | b | ~~") ∷ []) ∷ []) ∷ blank [] ∷ table_behind [] 0 (table_rule (Left ∷ Right ∷ []) ∷ cells ((flagged true false false false false (codes "-") ∷ []) ∷ (flagged true false false false false (codes "-") ∷ []) ∷ []) ∷ table_rule (Left ∷ Right ∷ []) ∷ cells ((plain (codes "*") ∷ []) ∷ (plain (codes ":-") ∷ []) ∷ []) ∷ table_rule (Left ∷ Right ∷ []) ∷ []) ∷ blank [] ∷ behind (Bullet ∷ []) 1 (row Paragraph ([]) ∷ []) ∷ []
  pub e406 : printable_sections (codes "|:-|-:|\n|-|-|\n~~~|-|~~~~~| a | b |\n`\\|") ≡ table_behind [] 0 (table_rule (Unspecified ∷ Unspecified ∷ []) ∷ cells ((flagged true false false false false (codes ":-") ∷ []) ∷ (flagged true false false false false (codes "-:") ∷ []) ∷ []) ∷ table_rule (Unspecified ∷ Unspecified ∷ []) ∷ []) ∷ blank [] ∷ behind (Code ∷ []) 1 (code_row (plain (codes "`\\|") ∷ []) ∷ []) ∷ []
  pub e407 : printable_sections (codes "~-|-\n| a | b |\n|:-|-:|\n~| a | b |\n\n~~~") ≡ behind [] 0 (row Paragraph (plain (codes "~-|-") ∷ []) ∷ []) ∷ blank [] ∷ table_behind [] 0 (table_rule (Left ∷ Right ∷ []) ∷ cells ((flagged true false false false false (codes "a") ∷ []) ∷ (flagged true false false false false (codes "b") ∷ []) ∷ []) ∷ table_rule (Left ∷ Right ∷ []) ∷ cells ((plain (codes "~") ∷ []) ∷ (plain (codes "a") ∷ []) ∷ []) ∷ table_rule (Left ∷ Right ∷ []) ∷ []) ∷ []
  pub e408 : printable_sections (codes "****-|-\n|-|-|\n|-|| a | b |\n\\|| a | b |\nb") ≡ table_behind [] 0 (table_rule (Unspecified ∷ Unspecified ∷ []) ∷ cells ((flagged true false false false false (codes "****-") ∷ []) ∷ (flagged true false false false false (codes "-") ∷ []) ∷ []) ∷ table_rule (Unspecified ∷ Unspecified ∷ []) ∷ cells ((plain (codes "-") ∷ []) ∷ ([]) ∷ []) ∷ cells ((plain (codes "|") ∷ []) ∷ (plain (codes "a") ∷ []) ∷ []) ∷ cells ((plain (codes "b") ∷ []) ∷ []) ∷ table_rule (Unspecified ∷ Unspecified ∷ []) ∷ []) ∷ []
  pub e409 : printable_sections (codes "| a | b |\n-|-\n-|-\n||:-|-:|\n|:-|-:|\n**\n|-|") ≡ table_behind [] 0 (table_rule (Unspecified ∷ Unspecified ∷ []) ∷ cells ((flagged true false false false false (codes "a") ∷ []) ∷ (flagged true false false false false (codes "b") ∷ []) ∷ []) ∷ table_rule (Unspecified ∷ Unspecified ∷ []) ∷ cells ((plain (codes "-") ∷ []) ∷ (plain (codes "-") ∷ []) ∷ []) ∷ cells (([]) ∷ (plain (codes ":-") ∷ []) ∷ []) ∷ cells ((plain (codes ":-") ∷ []) ∷ (plain (codes "-:") ∷ []) ∷ []) ∷ cells ((plain (codes "**") ∷ []) ∷ []) ∷ cells ((plain (codes "-") ∷ []) ∷ []) ∷ table_rule (Unspecified ∷ Unspecified ∷ []) ∷ []) ∷ []
  pub e410 : printable_sections (codes "~|-|-|\n-|-\n -|-\n|-|-|\n:-:|:-|-:|\n| a | b |\n") ≡ behind [] 0 (row Paragraph (plain (codes "~|-|-|") ∷ []) ∷ []) ∷ blank [] ∷ table_behind [] 0 (table_rule (Unspecified ∷ Unspecified ∷ []) ∷ cells ((flagged true false false false false (codes "-") ∷ []) ∷ (flagged true false false false false (codes "-") ∷ []) ∷ []) ∷ table_rule (Unspecified ∷ Unspecified ∷ []) ∷ cells ((plain (codes "-") ∷ []) ∷ (plain (codes "-") ∷ []) ∷ []) ∷ cells ((plain (codes ":-:") ∷ []) ∷ (plain (codes ":-") ∷ []) ∷ []) ∷ cells ((plain (codes "a") ∷ []) ∷ (plain (codes "b") ∷ []) ∷ []) ∷ table_rule (Unspecified ∷ Unspecified ∷ []) ∷ []) ∷ []
  pub e411 : printable_sections (42 ∷ 42 ∷ 226 ∷ 136 ∷ 158 ∷ 42 ∷ 42 ∷ 97 ∷ 98 ∷ 32 ∷ 95 ∷ 97 ∷ 95 ∷ 226 ∷ 134 ∷ 146 ∷ 98 ∷ []) ≡ behind [] 0 (row Paragraph (plain (42 ∷ 42 ∷ 226 ∷ 136 ∷ 158 ∷ 42 ∷ 42 ∷ 97 ∷ 98 ∷ 32 ∷ []) ∷ flagged false true false false false (codes "a") ∷ plain (226 ∷ 134 ∷ 146 ∷ 98 ∷ []) ∷ []) ∷ []) ∷ []
  pub e412 : printable_sections (codes "*Â©*a *Â¢*a *Â´*a *Â±*a") ≡ behind [] 0 (row Paragraph (plain (codes "*Â©*a *Â¢*a *Â´*a *Â±*a") ∷ []) ∷ []) ∷ []
  pub e413 : printable_sections (codes "x <!-->y--> <!--->z-->") ≡ behind [] 0 (row Paragraph (plain (codes "x y--> z-->") ∷ []) ∷ []) ∷ []
  pub e414 : printable_sections (codes "x <!-- y -- z ---> *a*") ≡ behind [] 0 (row Paragraph (plain (codes "x  ") ∷ flagged false true false false false (codes "a") ∷ []) ∷ []) ∷ []
  pub e415 : printable_sections (codes "x <!-- y --> z --> <!--- *a*") ≡ behind [] 0 (row Paragraph (plain (codes "x  z --> <!--- ") ∷ flagged false true false false false (codes "a") ∷ []) ∷ []) ∷ []
  pub e416 : printable_sections (codes "a\n<search>\n*b*\n\n</SEARCH>") ≡ behind [] 0 (row Paragraph (plain (codes "a") ∷ []) ∷ []) ∷ behind [] 0 (row Paragraph (plain (codes "*b*") ∷ []) ∷ []) ∷ []
  pub e417 : printable_sections (codes "a\n<source>\n*b*") ≡ behind [] 0 (row Paragraph (plain (codes "a  ") ∷ flagged false true false false false (codes "b") ∷ []) ∷ []) ∷ []
  pub e418 : printable_sections (codes "1. > a\n   >\n2. b") ≡ behind (Number 1 ∷ Bar ∷ []) 2 (row Paragraph (plain (codes "a") ∷ []) ∷ []) ∷ behind (Number 2 ∷ []) 1 (row Paragraph (plain (codes "b") ∷ []) ∷ []) ∷ []
  pub e419 : printable_sections (codes "- x\n  > y\n  >\n  >\n- z\n") ≡ behind (Bullet ∷ []) 1 (row Paragraph (plain (codes "x") ∷ []) ∷ []) ∷ behind (Bullet ∷ Bar ∷ []) 1 (row Paragraph (plain (codes "y") ∷ []) ∷ []) ∷ behind (Bullet ∷ []) 1 (row Paragraph (plain (codes "z") ∷ []) ∷ []) ∷ []
  pub e420 : printable_sections (codes "- > a\n  >\n\n- b") ≡ behind (Bullet ∷ Bar ∷ []) 2 (row Paragraph (plain (codes "a") ∷ []) ∷ []) ∷ blank [] ∷ behind (Bullet ∷ []) 1 (row Paragraph (plain (codes "b") ∷ []) ∷ []) ∷ []
  pub e421 : printable_sections (codes "+ >     a\n  >\n+ b") ≡ behind (Bullet ∷ Bar ∷ Code ∷ []) 3 (code_row (plain (codes "a") ∷ []) ∷ []) ∷ blank [] ∷ behind (Bullet ∷ []) 1 (row Paragraph (plain (codes "b") ∷ []) ∷ []) ∷ []
  pub e422 : printable_sections (codes "> - a\n>\n- b\n- c") ≡ behind (Bar ∷ Bullet ∷ []) 2 (row Paragraph (plain (codes "a") ∷ []) ∷ []) ∷ behind (Bullet ∷ []) 1 (row Paragraph (plain (codes "b") ∷ []) ∷ []) ∷ behind (Bullet ∷ []) 1 (row Paragraph (plain (codes "c") ∷ []) ∷ []) ∷ []
  pub e423 : printable_sections (codes ">\na\n>\n\nb") ≡ behind [] 0 (row Paragraph (plain (codes "a") ∷ []) ∷ []) ∷ blank [] ∷ behind [] 0 (row Paragraph (plain (codes "b") ∷ []) ∷ []) ∷ []
  pub e424 : printable_sections (codes "[bbbbbbbbbbbbbbbbbbbbbbbbbbbbbbbbbbbbbbbbbbbbbbbbbbbbbbbbbbbbbbbbbbbbbbbbbbbbbbbbbbbbbbbbbbbbbbbbbbbb]\n\n[bbbbbbbbbbbbbbbbbbbbbbbbbbbbbbbbbbbbbbbbbbbbbbbbbbbbbbbbbbbbbbbbbbbbbbbbbbbbbbbbbbbbbbbbbbbbbbbbbbbb]: /u") ≡ behind [] 0 (row Paragraph (flagged false false false false true (codes "bbbbbbbbbbbbbbbbbbbbbbbbbbbbbbbbbbbbbbbbbbbbbbbbbbbbbbbbbbbbbbbbbbbbbbbbbbbbbbbbbbbbbbbbbbbbbbbbbbbb") ∷ []) ∷ []) ∷ []
  pub l424 : unmarked_links (codes "[bbbbbbbbbbbbbbbbbbbbbbbbbbbbbbbbbbbbbbbbbbbbbbbbbbbbbbbbbbbbbbbbbbbbbbbbbbbbbbbbbbbbbbbbbbbbbbbbbbbb]\n\n[bbbbbbbbbbbbbbbbbbbbbbbbbbbbbbbbbbbbbbbbbbbbbbbbbbbbbbbbbbbbbbbbbbbbbbbbbbbbbbbbbbbbbbbbbbbbbbbbbbbb]: /u") ≡ link_at 0 (codes "/u") ∷ []
  pub e425 : printable_sections (codes "[bbbbbbbbbbbbbbbbbbbbbbbbbbbbbbbbbbbbbbbbbbbbbbbbbbbbbbbbbbbbbbbbbbbbbbbbbbbbbbbbbbbbbbbbbbbbbbbbbbbbbbbbbbbbbbbbbbbbbbbbbbbbbbbbbbbbbbbbbbbbbbbbbbbbbbbbbbbbbbbbbbbbbbbbbbbbbbbbbbbbbbbbbbbbbbbbbbbbbbbbbbbbbbbbbbbbbbbbbbbbbbbbbbbbbbbbbbbbbbbbbbbbbbbbbbbbbbbbbbbbbbbbbbbbbbbbbbbbbbbbbbbbbbbbbbbbbbbbbbbbbbbbbbbbbbbbbbbbbbbbbbbbbbbbbbbbbbbbbbbbbbbbbbbbbbbbbbbbbbbbbbbbbbbbbbbbbbbbbbbbbbbbbbbbbbbbbbbbbbbbbbbbbbbbbbbbbbbbbbbbbbbbbbbbbbbbbbbbbbbbbbbbbbbbbbbbbbbbbbbbbbbbbbbbbbbbbbbbbbbbbbbbbbbbbbbbbbbbbbbbbbbbbbbbbbbbbbbbbbbbbbbbbbbbbbbbbbbbbbbbbbbbbbbbbbbbbbbbbbbbbbbbbbbbbbbbbbbbbbbbbbbbbbbbbbbbbbbbbbbbbbbbbbbbbbbbbbbbbbbbbbbbbbbbbbbbbbbbbbbbbbbbbbbbbbbbbbbbbbbbbbbbbbbbbbbbbbbbbbbbbbbbbbbbbbbbbbbbbbbbbbbbbbbbbbbbbbbbbbbbbbbbbbbbbbbbbbbbbbbbbbbbbbbbbbbbbbbbbbbbbbbbbbbbbbbbbbbbbbbbbbbbbbbbbbbbbbbbbbbbbbbbbbbbbbbbbbbbbbbbbbbbbbbbbbbbbbbbbbbbbbbbbbbbbbbbbbbbbbbbbbbbbbbbbbbbbbbbbbbbbbbbbbbbbbbbbbbbbbbbbbbbbbbbbbbbbbbbbbbbbbbbbbbbbbbbbbbbbbbbbbbbbbbbbbbbbbbbbbbbbbbbbbbbbbbbbbbbbbbbbbbbbbbbbbbbbbbbbbbbb]\n\n[bbbbbbbbbbbbbbbbbbbbbbbbbbbbbbbbbbbbbbbbbbbbbbbbbbbbbbbbbbbbbbbbbbbbbbbbbbbbbbbbbbbbbbbbbbbbbbbbbbbbbbbbbbbbbbbbbbbbbbbbbbbbbbbbbbbbbbbbbbbbbbbbbbbbbbbbbbbbbbbbbbbbbbbbbbbbbbbbbbbbbbbbbbbbbbbbbbbbbbbbbbbbbbbbbbbbbbbbbbbbbbbbbbbbbbbbbbbbbbbbbbbbbbbbbbbbbbbbbbbbbbbbbbbbbbbbbbbbbbbbbbbbbbbbbbbbbbbbbbbbbbbbbbbbbbbbbbbbbbbbbbbbbbbbbbbbbbbbbbbbbbbbbbbbbbbbbbbbbbbbbbbbbbbbbbbbbbbbbbbbbbbbbbbbbbbbbbbbbbbbbbbbbbbbbbbbbbbbbbbbbbbbbbbbbbbbbbbbbbbbbbbbbbbbbbbbbbbbbbbbbbbbbbbbbbbbbbbbbbbbbbbbbbbbbbbbbbbbbbbbbbbbbbbbbbbbbbbbbbbbbbbbbbbbbbbbbbbbbbbbbbbbbbbbbbbbbbbbbbbbbbbbbbbbbbbbbbbbbbbbbbbbbbbbbbbbbbbbbbbbbbbbbbbbbbbbbbbbbbbbbbbbbbbbbbbbbbbbbbbbbbbbbbbbbbbbbbbbbbbbbbbbbbbbbbbbbbbbbbbbbbbbbbbbbbbbbbbbbbbbbbbbbbbbbbbbbbbbbbbbbbbbbbbbbbbbbbbbbbbbbbbbbbbbbbbbbbbbbbbbbbbbbbbbbbbbbbbbbbbbbbbbbbbbbbbbbbbbbbbbbbbbbbbbbbbbbbbbbbbbbbbbbbbbbbbbbbbbbbbbbbbbbbbbbbbbbbbbbbbbbbbbbbbbbbbbbbbbbbbbbbbbbbbbbbbbbbbbbbbbbbbbbbbbbbbbbbbbbbbbbbbbbbbbbbbbbbbbbbbbbbbbbbbbbbbbbbbbbbbbbbbbbbbbbbbbbbbbbbbbbbbbbbbbbbbbbbbbbbbbb]: /u") ≡ behind [] 0 (row Paragraph (plain (codes "[bbbbbbbbbbbbbbbbbbbbbbbbbbbbbbbbbbbbbbbbbbbbbbbbbbbbbbbbbbbbbbbbbbbbbbbbbbbbbbbbbbbbbbbbbbbbbbbbbbbbbbbbbbbbbbbbbbbbbbbbbbbbbbbbbbbbbbbbbbbbbbbbbbbbbbbbbbbbbbbbbbbbbbbbbbbbbbbbbbbbbbbbbbbbbbbbbbbbbbbbbbbbbbbbbbbbbbbbbbbbbbbbbbbbbbbbbbbbbbbbbbbbbbbbbbbbbbbbbbbbbbbbbbbbbbbbbbbbbbbbbbbbbbbbbbbbbbbbbbbbbbbbbbbbbbbbbbbbbbbbbbbbbbbbbbbbbbbbbbbbbbbbbbbbbbbbbbbbbbbbbbbbbbbbbbbbbbbbbbbbbbbbbbbbbbbbbbbbbbbbbbbbbbbbbbbbbbbbbbbbbbbbbbbbbbbbbbbbbbbbbbbbbbbbbbbbbbbbbbbbbbbbbbbbbbbbbbbbbbbbbbbbbbbbbbbbbbbbbbbbbbbbbbbbbbbbbbbbbbbbbbbbbbbbbbbbbbbbbbbbbbbbbbbbbbbbbbbbbbbbbbbbbbbbbbbbbbbbbbbbbbbbbbbbbbbbbbbbbbbbbbbbbbbbbbbbbbbbbbbbbbbbbbbbbbbbbbbbbbbbbbbbbbbbbbbbbbbbbbbbbbbbbbbbbbbbbbbbbbbbbbbbbbbbbbbbbbbbbbbbbbbbbbbbbbbbbbbbbbbbbbbbbbbbbbbbbbbbbbbbbbbbbbbbbbbbbbbbbbbbbbbbbbbbbbbbbbbbbbbbbbbbbbbbbbbbbbbbbbbbbbbbbbbbbbbbbbbbbbbbbbbbbbbbbbbbbbbbbbbbbbbbbbbbbbbbbbbbbbbbbbbbbbbbbbbbbbbbbbbbbbbbbbbbbbbbbbbbbbbbbbbbbbbbbbbbbbbbbbbbbbbbbbbbbbbbbbbbbbbbbbbbbbbbbbbbbbbbbbbbbbbbbbbbbbbbbbbbbbbbbbbbbbbbbbbbbbbbbbbbb]") ∷ []) ∷ []) ∷ blank [] ∷ behind [] 0 (row Paragraph (plain (codes "[bbbbbbbbbbbbbbbbbbbbbbbbbbbbbbbbbbbbbbbbbbbbbbbbbbbbbbbbbbbbbbbbbbbbbbbbbbbbbbbbbbbbbbbbbbbbbbbbbbbbbbbbbbbbbbbbbbbbbbbbbbbbbbbbbbbbbbbbbbbbbbbbbbbbbbbbbbbbbbbbbbbbbbbbbbbbbbbbbbbbbbbbbbbbbbbbbbbbbbbbbbbbbbbbbbbbbbbbbbbbbbbbbbbbbbbbbbbbbbbbbbbbbbbbbbbbbbbbbbbbbbbbbbbbbbbbbbbbbbbbbbbbbbbbbbbbbbbbbbbbbbbbbbbbbbbbbbbbbbbbbbbbbbbbbbbbbbbbbbbbbbbbbbbbbbbbbbbbbbbbbbbbbbbbbbbbbbbbbbbbbbbbbbbbbbbbbbbbbbbbbbbbbbbbbbbbbbbbbbbbbbbbbbbbbbbbbbbbbbbbbbbbbbbbbbbbbbbbbbbbbbbbbbbbbbbbbbbbbbbbbbbbbbbbbbbbbbbbbbbbbbbbbbbbbbbbbbbbbbbbbbbbbbbbbbbbbbbbbbbbbbbbbbbbbbbbbbbbbbbbbbbbbbbbbbbbbbbbbbbbbbbbbbbbbbbbbbbbbbbbbbbbbbbbbbbbbbbbbbbbbbbbbbbbbbbbbbbbbbbbbbbbbbbbbbbbbbbbbbbbbbbbbbbbbbbbbbbbbbbbbbbbbbbbbbbbbbbbbbbbbbbbbbbbbbbbbbbbbbbbbbbbbbbbbbbbbbbbbbbbbbbbbbbbbbbbbbbbbbbbbbbbbbbbbbbbbbbbbbbbbbbbbbbbbbbbbbbbbbbbbbbbbbbbbbbbbbbbbbbbbbbbbbbbbbbbbbbbbbbbbbbbbbbbbbbbbbbbbbbbbbbbbbbbbbbbbbbbbbbbbbbbbbbbbbbbbbbbbbbbbbbbbbbbbbbbbbbbbbbbbbbbbbbbbbbbbbbbbbbbbbbbbbbbbbbbbbbbbbbbbbbbbbbbbbbbbbbbbbbbbbbbbbbbbbbbbbbbbbbbb]: /u") ∷ []) ∷ []) ∷ []
