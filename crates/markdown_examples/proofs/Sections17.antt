-- Examples 401 to 425, computed.
use Rattle.std.proofs.Common.{◌≡◌, [], ◌∷◌, codes, true, false, refl}
use Rattle.mad_sections.specs.declared.gutters.Gutter.TheVariants.{Bar, Bullet, Number, Code}
use Rattle.mad_md.specs.declared.composite.CompositeStyle.TheVariants.{Paragraph}
use Rattle.mad_md.specs.declared.alignment.Alignment.TheVariants.{Unspecified, Left, Right}
use Rattle.mad_md.specs.Lines.{table_rule, horizontal_rule}
use Rattle.markdown_examples.specs.Rows.{plain, flagged, row, code_row, cells, behind, table_behind, blank}
use Rattle.markdown_reader.specs.Mapping.{link_at}
use Rattle.markdown_reader.specs.Markdown.{printable_sections, unmarked_links}
use Rattle.markdown_examples.specs.Sections17.{AreSections17}
use Rattle.markdown_examples.proofs.Computing.{sections}

e401 : printable_sections (codes "x | y\nx | y\n|:-|-:|\n**\n\n**- -|-\n:-:") ≡ behind [] 0 (row Paragraph (plain (codes "x | y") ∷ []) ∷ []) ∷ blank [] ∷ table_behind [] 0 (table_rule (Left ∷ Right ∷ []) ∷ cells ((flagged true false false false false (codes "x") ∷ []) ∷ (flagged true false false false false (codes "y") ∷ []) ∷ []) ∷ table_rule (Left ∷ Right ∷ []) ∷ cells ((plain (codes "**") ∷ []) ∷ []) ∷ table_rule (Left ∷ Right ∷ []) ∷ []) ∷ blank [] ∷ behind [] 0 (row Paragraph (plain (codes "**- -|- :-:") ∷ []) ∷ []) ∷ []
unfolding sections
e401 = refl

e402 : printable_sections (codes "**|:-|-:|\n ~~\n\n|:-|-:|\nax | y\n|-|-|\n") ≡ behind [] 0 (row Paragraph (plain (codes "**|:-|-:| ~~") ∷ []) ∷ []) ∷ blank [] ∷ behind [] 0 (row Paragraph (plain (codes "|:-|-:|") ∷ []) ∷ []) ∷ blank [] ∷ table_behind [] 0 (table_rule (Unspecified ∷ Unspecified ∷ []) ∷ cells ((flagged true false false false false (codes "ax") ∷ []) ∷ (flagged true false false false false (codes "y") ∷ []) ∷ []) ∷ table_rule (Unspecified ∷ Unspecified ∷ []) ∷ []) ∷ []
unfolding sections
e402 = refl

e403 : printable_sections (codes "\n:-:\n\n| a | b |\n |:-|-:|\n| a | b |\n***") ≡ behind [] 0 (row Paragraph (plain (codes ":-:") ∷ []) ∷ []) ∷ blank [] ∷ table_behind [] 0 (table_rule (Left ∷ Right ∷ []) ∷ cells ((flagged true false false false false (codes "a") ∷ []) ∷ (flagged true false false false false (codes "b") ∷ []) ∷ []) ∷ table_rule (Left ∷ Right ∷ []) ∷ cells ((plain (codes "a") ∷ []) ∷ (plain (codes "b") ∷ []) ∷ []) ∷ table_rule (Left ∷ Right ∷ []) ∷ []) ∷ blank [] ∷ behind [] 0 (horizontal_rule ∷ []) ∷ []
unfolding sections
e403 = refl

e404 : printable_sections (codes "| a | b |\n-|-\n\n\n> | a | b |\n| a | b |\n") ≡ table_behind [] 0 (table_rule (Unspecified ∷ Unspecified ∷ []) ∷ cells ((flagged true false false false false (codes "a") ∷ []) ∷ (flagged true false false false false (codes "b") ∷ []) ∷ []) ∷ table_rule (Unspecified ∷ Unspecified ∷ []) ∷ []) ∷ blank [] ∷ behind (Bar ∷ []) 1 (row Paragraph (plain (codes "| a | b | | a | b |") ∷ []) ∷ []) ∷ []
unfolding sections
e404 = refl

e405 : printable_sections (codes "| a | b |\n~~\n|-|-|\n|:-|-:|\n*|:-|-:|\n- ") ≡ behind [] 0 (row Paragraph (plain (codes "| a | b | ~~") ∷ []) ∷ []) ∷ blank [] ∷ table_behind [] 0 (table_rule (Left ∷ Right ∷ []) ∷ cells ((flagged true false false false false (codes "-") ∷ []) ∷ (flagged true false false false false (codes "-") ∷ []) ∷ []) ∷ table_rule (Left ∷ Right ∷ []) ∷ cells ((plain (codes "*") ∷ []) ∷ (plain (codes ":-") ∷ []) ∷ []) ∷ table_rule (Left ∷ Right ∷ []) ∷ []) ∷ blank [] ∷ behind (Bullet ∷ []) 1 (row Paragraph ([]) ∷ []) ∷ []
unfolding sections
e405 = refl

e406 : printable_sections (codes "|:-|-:|\n|-|-|\n~~~|-|~~~~~| a | b |\n`\\|") ≡ table_behind [] 0 (table_rule (Unspecified ∷ Unspecified ∷ []) ∷ cells ((flagged true false false false false (codes ":-") ∷ []) ∷ (flagged true false false false false (codes "-:") ∷ []) ∷ []) ∷ table_rule (Unspecified ∷ Unspecified ∷ []) ∷ []) ∷ blank [] ∷ behind (Code ∷ []) 1 (code_row (plain (codes "`\\|") ∷ []) ∷ []) ∷ []
unfolding sections
e406 = refl

e407 : printable_sections (codes "~-|-\n| a | b |\n|:-|-:|\n~| a | b |\n\n~~~") ≡ behind [] 0 (row Paragraph (plain (codes "~-|-") ∷ []) ∷ []) ∷ blank [] ∷ table_behind [] 0 (table_rule (Left ∷ Right ∷ []) ∷ cells ((flagged true false false false false (codes "a") ∷ []) ∷ (flagged true false false false false (codes "b") ∷ []) ∷ []) ∷ table_rule (Left ∷ Right ∷ []) ∷ cells ((plain (codes "~") ∷ []) ∷ (plain (codes "a") ∷ []) ∷ []) ∷ table_rule (Left ∷ Right ∷ []) ∷ []) ∷ []
unfolding sections
e407 = refl

e408 : printable_sections (codes "****-|-\n|-|-|\n|-|| a | b |\n\\|| a | b |\nb") ≡ table_behind [] 0 (table_rule (Unspecified ∷ Unspecified ∷ []) ∷ cells ((flagged true false false false false (codes "****-") ∷ []) ∷ (flagged true false false false false (codes "-") ∷ []) ∷ []) ∷ table_rule (Unspecified ∷ Unspecified ∷ []) ∷ cells ((plain (codes "-") ∷ []) ∷ ([]) ∷ []) ∷ cells ((plain (codes "|") ∷ []) ∷ (plain (codes "a") ∷ []) ∷ []) ∷ cells ((plain (codes "b") ∷ []) ∷ []) ∷ table_rule (Unspecified ∷ Unspecified ∷ []) ∷ []) ∷ []
unfolding sections
e408 = refl

e409 : printable_sections (codes "| a | b |\n-|-\n-|-\n||:-|-:|\n|:-|-:|\n**\n|-|") ≡ table_behind [] 0 (table_rule (Unspecified ∷ Unspecified ∷ []) ∷ cells ((flagged true false false false false (codes "a") ∷ []) ∷ (flagged true false false false false (codes "b") ∷ []) ∷ []) ∷ table_rule (Unspecified ∷ Unspecified ∷ []) ∷ cells ((plain (codes "-") ∷ []) ∷ (plain (codes "-") ∷ []) ∷ []) ∷ cells (([]) ∷ (plain (codes ":-") ∷ []) ∷ []) ∷ cells ((plain (codes ":-") ∷ []) ∷ (plain (codes "-:") ∷ []) ∷ []) ∷ cells ((plain (codes "**") ∷ []) ∷ []) ∷ cells ((plain (codes "-") ∷ []) ∷ []) ∷ table_rule (Unspecified ∷ Unspecified ∷ []) ∷ []) ∷ []
unfolding sections
e409 = refl

e410 : printable_sections (codes "~|-|-|\n-|-\n -|-\n|-|-|\n:-:|:-|-:|\n| a | b |\n") ≡ behind [] 0 (row Paragraph (plain (codes "~|-|-|") ∷ []) ∷ []) ∷ blank [] ∷ table_behind [] 0 (table_rule (Unspecified ∷ Unspecified ∷ []) ∷ cells ((flagged true false false false false (codes "-") ∷ []) ∷ (flagged true false false false false (codes "-") ∷ []) ∷ []) ∷ table_rule (Unspecified ∷ Unspecified ∷ []) ∷ cells ((plain (codes "-") ∷ []) ∷ (plain (codes "-") ∷ []) ∷ []) ∷ cells ((plain (codes ":-:") ∷ []) ∷ (plain (codes ":-") ∷ []) ∷ []) ∷ cells ((plain (codes "a") ∷ []) ∷ (plain (codes "b") ∷ []) ∷ []) ∷ table_rule (Unspecified ∷ Unspecified ∷ []) ∷ []) ∷ []
unfolding sections
e410 = refl

e411 : printable_sections (42 ∷ 42 ∷ 226 ∷ 136 ∷ 158 ∷ 42 ∷ 42 ∷ 97 ∷ 98 ∷ 32 ∷ 95 ∷ 97 ∷ 95 ∷ 226 ∷ 134 ∷ 146 ∷ 98 ∷ []) ≡ behind [] 0 (row Paragraph (plain (42 ∷ 42 ∷ 226 ∷ 136 ∷ 158 ∷ 42 ∷ 42 ∷ 97 ∷ 98 ∷ 32 ∷ []) ∷ flagged false true false false false (codes "a") ∷ plain (226 ∷ 134 ∷ 146 ∷ 98 ∷ []) ∷ []) ∷ []) ∷ []
unfolding sections
e411 = refl

e412 : printable_sections (codes "*Â©*a *Â¢*a *Â´*a *Â±*a") ≡ behind [] 0 (row Paragraph (plain (codes "*Â©*a *Â¢*a *Â´*a *Â±*a") ∷ []) ∷ []) ∷ []
unfolding sections
e412 = refl

e413 : printable_sections (codes "x <!-->y--> <!--->z-->") ≡ behind [] 0 (row Paragraph (plain (codes "x y--> z-->") ∷ []) ∷ []) ∷ []
unfolding sections
e413 = refl

e414 : printable_sections (codes "x <!-- y -- z ---> *a*") ≡ behind [] 0 (row Paragraph (plain (codes "x  ") ∷ flagged false true false false false (codes "a") ∷ []) ∷ []) ∷ []
unfolding sections
e414 = refl

e415 : printable_sections (codes "x <!-- y --> z --> <!--- *a*") ≡ behind [] 0 (row Paragraph (plain (codes "x  z --> <!--- ") ∷ flagged false true false false false (codes "a") ∷ []) ∷ []) ∷ []
unfolding sections
e415 = refl

e416 : printable_sections (codes "a\n<search>\n*b*\n\n</SEARCH>") ≡ behind [] 0 (row Paragraph (plain (codes "a") ∷ []) ∷ []) ∷ behind [] 0 (row Paragraph (plain (codes "*b*") ∷ []) ∷ []) ∷ []
unfolding sections
e416 = refl

e417 : printable_sections (codes "a\n<source>\n*b*") ≡ behind [] 0 (row Paragraph (plain (codes "a  ") ∷ flagged false true false false false (codes "b") ∷ []) ∷ []) ∷ []
unfolding sections
e417 = refl

e418 : printable_sections (codes "1. > a\n   >\n2. b") ≡ behind (Number 1 ∷ Bar ∷ []) 2 (row Paragraph (plain (codes "a") ∷ []) ∷ []) ∷ behind (Number 2 ∷ []) 1 (row Paragraph (plain (codes "b") ∷ []) ∷ []) ∷ []
unfolding sections
e418 = refl

e419 : printable_sections (codes "- x\n  > y\n  >\n  >\n- z\n") ≡ behind (Bullet ∷ []) 1 (row Paragraph (plain (codes "x") ∷ []) ∷ []) ∷ behind (Bullet ∷ Bar ∷ []) 1 (row Paragraph (plain (codes "y") ∷ []) ∷ []) ∷ behind (Bullet ∷ []) 1 (row Paragraph (plain (codes "z") ∷ []) ∷ []) ∷ []
unfolding sections
e419 = refl

e420 : printable_sections (codes "- > a\n  >\n\n- b") ≡ behind (Bullet ∷ Bar ∷ []) 2 (row Paragraph (plain (codes "a") ∷ []) ∷ []) ∷ blank [] ∷ behind (Bullet ∷ []) 1 (row Paragraph (plain (codes "b") ∷ []) ∷ []) ∷ []
unfolding sections
e420 = refl

e421 : printable_sections (codes "+ >     a\n  >\n+ b") ≡ behind (Bullet ∷ Bar ∷ Code ∷ []) 3 (code_row (plain (codes "a") ∷ []) ∷ []) ∷ blank [] ∷ behind (Bullet ∷ []) 1 (row Paragraph (plain (codes "b") ∷ []) ∷ []) ∷ []
unfolding sections
e421 = refl

e422 : printable_sections (codes "> - a\n>\n- b\n- c") ≡ behind (Bar ∷ Bullet ∷ []) 2 (row Paragraph (plain (codes "a") ∷ []) ∷ []) ∷ behind (Bullet ∷ []) 1 (row Paragraph (plain (codes "b") ∷ []) ∷ []) ∷ behind (Bullet ∷ []) 1 (row Paragraph (plain (codes "c") ∷ []) ∷ []) ∷ []
unfolding sections
e422 = refl

e423 : printable_sections (codes ">\na\n>\n\nb") ≡ behind [] 0 (row Paragraph (plain (codes "a") ∷ []) ∷ []) ∷ blank [] ∷ behind [] 0 (row Paragraph (plain (codes "b") ∷ []) ∷ []) ∷ []
unfolding sections
e423 = refl

e424 : printable_sections (codes "[bbbbbbbbbbbbbbbbbbbbbbbbbbbbbbbbbbbbbbbbbbbbbbbbbbbbbbbbbbbbbbbbbbbbbbbbbbbbbbbbbbbbbbbbbbbbbbbbbbbb]\n\n[bbbbbbbbbbbbbbbbbbbbbbbbbbbbbbbbbbbbbbbbbbbbbbbbbbbbbbbbbbbbbbbbbbbbbbbbbbbbbbbbbbbbbbbbbbbbbbbbbbbb]: /u") ≡ behind [] 0 (row Paragraph (flagged false false false false true (codes "bbbbbbbbbbbbbbbbbbbbbbbbbbbbbbbbbbbbbbbbbbbbbbbbbbbbbbbbbbbbbbbbbbbbbbbbbbbbbbbbbbbbbbbbbbbbbbbbbbbb") ∷ []) ∷ []) ∷ []
unfolding sections
e424 = refl

l424 : unmarked_links (codes "[bbbbbbbbbbbbbbbbbbbbbbbbbbbbbbbbbbbbbbbbbbbbbbbbbbbbbbbbbbbbbbbbbbbbbbbbbbbbbbbbbbbbbbbbbbbbbbbbbbbb]\n\n[bbbbbbbbbbbbbbbbbbbbbbbbbbbbbbbbbbbbbbbbbbbbbbbbbbbbbbbbbbbbbbbbbbbbbbbbbbbbbbbbbbbbbbbbbbbbbbbbbbbb]: /u") ≡ link_at 0 (codes "/u") ∷ []
unfolding sections
l424 = refl

e425 : printable_sections (codes "[bbbbbbbbbbbbbbbbbbbbbbbbbbbbbbbbbbbbbbbbbbbbbbbbbbbbbbbbbbbbbbbbbbbbbbbbbbbbbbbbbbbbbbbbbbbbbbbbbbbbbbbbbbbbbbbbbbbbbbbbbbbbbbbbbbbbbbbbbbbbbbbbbbbbbbbbbbbbbbbbbbbbbbbbbbbbbbbbbbbbbbbbbbbbbbbbbbbbbbbbbbbbbbbbbbbbbbbbbbbbbbbbbbbbbbbbbbbbbbbbbbbbbbbbbbbbbbbbbbbbbbbbbbbbbbbbbbbbbbbbbbbbbbbbbbbbbbbbbbbbbbbbbbbbbbbbbbbbbbbbbbbbbbbbbbbbbbbbbbbbbbbbbbbbbbbbbbbbbbbbbbbbbbbbbbbbbbbbbbbbbbbbbbbbbbbbbbbbbbbbbbbbbbbbbbbbbbbbbbbbbbbbbbbbbbbbbbbbbbbbbbbbbbbbbbbbbbbbbbbbbbbbbbbbbbbbbbbbbbbbbbbbbbbbbbbbbbbbbbbbbbbbbbbbbbbbbbbbbbbbbbbbbbbbbbbbbbbbbbbbbbbbbbbbbbbbbbbbbbbbbbbbbbbbbbbbbbbbbbbbbbbbbbbbbbbbbbbbbbbbbbbbbbbbbbbbbbbbbbbbbbbbbbbbbbbbbbbbbbbbbbbbbbbbbbbbbbbbbbbbbbbbbbbbbbbbbbbbbbbbbbbbbbbbbbbbbbbbbbbbbbbbbbbbbbbbbbbbbbbbbbbbbbbbbbbbbbbbbbbbbbbbbbbbbbbbbbbbbbbbbbbbbbbbbbbbbbbbbbbbbbbbbbbbbbbbbbbbbbbbbbbbbbbbbbbbbbbbbbbbbbbbbbbbbbbbbbbbbbbbbbbbbbbbbbbbbbbbbbbbbbbbbbbbbbbbbbbbbbbbbbbbbbbbbbbbbbbbbbbbbbbbbbbbbbbbbbbbbbbbbbbbbbbbbbbbbbbbbbbbbbbbbbbbbbbbbbbbbbbbbbbbbbbbbbbbbbbbbbbbbbbbbbbbbbbbbbbbbbbbb]\n\n[bbbbbbbbbbbbbbbbbbbbbbbbbbbbbbbbbbbbbbbbbbbbbbbbbbbbbbbbbbbbbbbbbbbbbbbbbbbbbbbbbbbbbbbbbbbbbbbbbbbbbbbbbbbbbbbbbbbbbbbbbbbbbbbbbbbbbbbbbbbbbbbbbbbbbbbbbbbbbbbbbbbbbbbbbbbbbbbbbbbbbbbbbbbbbbbbbbbbbbbbbbbbbbbbbbbbbbbbbbbbbbbbbbbbbbbbbbbbbbbbbbbbbbbbbbbbbbbbbbbbbbbbbbbbbbbbbbbbbbbbbbbbbbbbbbbbbbbbbbbbbbbbbbbbbbbbbbbbbbbbbbbbbbbbbbbbbbbbbbbbbbbbbbbbbbbbbbbbbbbbbbbbbbbbbbbbbbbbbbbbbbbbbbbbbbbbbbbbbbbbbbbbbbbbbbbbbbbbbbbbbbbbbbbbbbbbbbbbbbbbbbbbbbbbbbbbbbbbbbbbbbbbbbbbbbbbbbbbbbbbbbbbbbbbbbbbbbbbbbbbbbbbbbbbbbbbbbbbbbbbbbbbbbbbbbbbbbbbbbbbbbbbbbbbbbbbbbbbbbbbbbbbbbbbbbbbbbbbbbbbbbbbbbbbbbbbbbbbbbbbbbbbbbbbbbbbbbbbbbbbbbbbbbbbbbbbbbbbbbbbbbbbbbbbbbbbbbbbbbbbbbbbbbbbbbbbbbbbbbbbbbbbbbbbbbbbbbbbbbbbbbbbbbbbbbbbbbbbbbbbbbbbbbbbbbbbbbbbbbbbbbbbbbbbbbbbbbbbbbbbbbbbbbbbbbbbbbbbbbbbbbbbbbbbbbbbbbbbbbbbbbbbbbbbbbbbbbbbbbbbbbbbbbbbbbbbbbbbbbbbbbbbbbbbbbbbbbbbbbbbbbbbbbbbbbbbbbbbbbbbbbbbbbbbbbbbbbbbbbbbbbbbbbbbbbbbbbbbbbbbbbbbbbbbbbbbbbbbbbbbbbbbbbbbbbbbbbbbbbbbbbbbbbbbbbbbbbbbbbbbbbbbbbbbbbbbbbbbbbbbb]: /u") ≡ behind [] 0 (row Paragraph (plain (codes "[bbbbbbbbbbbbbbbbbbbbbbbbbbbbbbbbbbbbbbbbbbbbbbbbbbbbbbbbbbbbbbbbbbbbbbbbbbbbbbbbbbbbbbbbbbbbbbbbbbbbbbbbbbbbbbbbbbbbbbbbbbbbbbbbbbbbbbbbbbbbbbbbbbbbbbbbbbbbbbbbbbbbbbbbbbbbbbbbbbbbbbbbbbbbbbbbbbbbbbbbbbbbbbbbbbbbbbbbbbbbbbbbbbbbbbbbbbbbbbbbbbbbbbbbbbbbbbbbbbbbbbbbbbbbbbbbbbbbbbbbbbbbbbbbbbbbbbbbbbbbbbbbbbbbbbbbbbbbbbbbbbbbbbbbbbbbbbbbbbbbbbbbbbbbbbbbbbbbbbbbbbbbbbbbbbbbbbbbbbbbbbbbbbbbbbbbbbbbbbbbbbbbbbbbbbbbbbbbbbbbbbbbbbbbbbbbbbbbbbbbbbbbbbbbbbbbbbbbbbbbbbbbbbbbbbbbbbbbbbbbbbbbbbbbbbbbbbbbbbbbbbbbbbbbbbbbbbbbbbbbbbbbbbbbbbbbbbbbbbbbbbbbbbbbbbbbbbbbbbbbbbbbbbbbbbbbbbbbbbbbbbbbbbbbbbbbbbbbbbbbbbbbbbbbbbbbbbbbbbbbbbbbbbbbbbbbbbbbbbbbbbbbbbbbbbbbbbbbbbbbbbbbbbbbbbbbbbbbbbbbbbbbbbbbbbbbbbbbbbbbbbbbbbbbbbbbbbbbbbbbbbbbbbbbbbbbbbbbbbbbbbbbbbbbbbbbbbbbbbbbbbbbbbbbbbbbbbbbbbbbbbbbbbbbbbbbbbbbbbbbbbbbbbbbbbbbbbbbbbbbbbbbbbbbbbbbbbbbbbbbbbbbbbbbbbbbbbbbbbbbbbbbbbbbbbbbbbbbbbbbbbbbbbbbbbbbbbbbbbbbbbbbbbbbbbbbbbbbbbbbbbbbbbbbbbbbbbbbbbbbbbbbbbbbbbbbbbbbbbbbbbbbbbbbbbbbbbbbbbbbbbbbbbbbbbbbbbbbbbbbb]") ∷ []) ∷ []) ∷ blank [] ∷ behind [] 0 (row Paragraph (plain (codes "[bbbbbbbbbbbbbbbbbbbbbbbbbbbbbbbbbbbbbbbbbbbbbbbbbbbbbbbbbbbbbbbbbbbbbbbbbbbbbbbbbbbbbbbbbbbbbbbbbbbbbbbbbbbbbbbbbbbbbbbbbbbbbbbbbbbbbbbbbbbbbbbbbbbbbbbbbbbbbbbbbbbbbbbbbbbbbbbbbbbbbbbbbbbbbbbbbbbbbbbbbbbbbbbbbbbbbbbbbbbbbbbbbbbbbbbbbbbbbbbbbbbbbbbbbbbbbbbbbbbbbbbbbbbbbbbbbbbbbbbbbbbbbbbbbbbbbbbbbbbbbbbbbbbbbbbbbbbbbbbbbbbbbbbbbbbbbbbbbbbbbbbbbbbbbbbbbbbbbbbbbbbbbbbbbbbbbbbbbbbbbbbbbbbbbbbbbbbbbbbbbbbbbbbbbbbbbbbbbbbbbbbbbbbbbbbbbbbbbbbbbbbbbbbbbbbbbbbbbbbbbbbbbbbbbbbbbbbbbbbbbbbbbbbbbbbbbbbbbbbbbbbbbbbbbbbbbbbbbbbbbbbbbbbbbbbbbbbbbbbbbbbbbbbbbbbbbbbbbbbbbbbbbbbbbbbbbbbbbbbbbbbbbbbbbbbbbbbbbbbbbbbbbbbbbbbbbbbbbbbbbbbbbbbbbbbbbbbbbbbbbbbbbbbbbbbbbbbbbbbbbbbbbbbbbbbbbbbbbbbbbbbbbbbbbbbbbbbbbbbbbbbbbbbbbbbbbbbbbbbbbbbbbbbbbbbbbbbbbbbbbbbbbbbbbbbbbbbbbbbbbbbbbbbbbbbbbbbbbbbbbbbbbbbbbbbbbbbbbbbbbbbbbbbbbbbbbbbbbbbbbbbbbbbbbbbbbbbbbbbbbbbbbbbbbbbbbbbbbbbbbbbbbbbbbbbbbbbbbbbbbbbbbbbbbbbbbbbbbbbbbbbbbbbbbbbbbbbbbbbbbbbbbbbbbbbbbbbbbbbbbbbbbbbbbbbbbbbbbbbbbbbbbbbbbbbbbbbbbbbbbbbbbbbbbbbbbbbbbbbbb]: /u") ∷ []) ∷ []) ∷ []
unfolding sections
e425 = refl

pub sections17 : AreSections17
sections17 = record { e401 = e401; e402 = e402; e403 = e403; e404 = e404; e405 = e405; e406 = e406; e407 = e407; e408 = e408; e409 = e409; e410 = e410; e411 = e411; e412 = e412; e413 = e413; e414 = e414; e415 = e415; e416 = e416; e417 = e417; e418 = e418; e419 = e419; e420 = e420; e421 = e421; e422 = e422; e423 = e423; e424 = e424; l424 = l424; e425 = e425 }
