-- Examples 426 to 450: their sections and links.
use Rattle.std.specs.Prelude.{◌≡◌, [], ◌∷◌, codes, true, false}
use Rattle.mad_sections.specs.declared.gutters.Gutter.TheVariants.{Bar, AlertBar, Bullet, Number, Task, Code}
use Rattle.mad_sections.specs.declared.gutters.Alert.TheVariants.{Note, Tip, Important, Warning, Caution}
use Rattle.mad_md.specs.declared.composite.CompositeStyle.TheVariants.{Paragraph, Header}
use Rattle.mad_md.specs.declared.alignment.Alignment.TheVariants.{Unspecified, Center}
use Rattle.mad_md.specs.Lines.{table_rule}
use Rattle.markdown_examples.specs.Rows.{plain, flagged, row, code_row, cells, behind, table_behind, blank}
use Rattle.markdown_reader.specs.Mapping.{link_at}
use Rattle.markdown_reader.specs.Markdown.{printable_sections, unmarked_links}

pub record AreSections18 : Type 0 where
  pub e426 : printable_sections (codes ">>>>>>>>>>>>>>>>>>>>>>>>>>>>>>>>>>>>>>>>>>>>>>>>>>>>>>>>>>>>>>>> a") ≡ behind (Bar ∷ Bar ∷ Bar ∷ Bar ∷ Bar ∷ Bar ∷ Bar ∷ Bar ∷ Bar ∷ Bar ∷ Bar ∷ Bar ∷ Bar ∷ Bar ∷ Bar ∷ Bar ∷ Bar ∷ Bar ∷ Bar ∷ Bar ∷ Bar ∷ Bar ∷ Bar ∷ Bar ∷ Bar ∷ Bar ∷ Bar ∷ Bar ∷ Bar ∷ Bar ∷ Bar ∷ Bar ∷ Bar ∷ Bar ∷ Bar ∷ Bar ∷ Bar ∷ Bar ∷ Bar ∷ Bar ∷ Bar ∷ Bar ∷ Bar ∷ Bar ∷ Bar ∷ Bar ∷ Bar ∷ Bar ∷ Bar ∷ Bar ∷ Bar ∷ Bar ∷ Bar ∷ Bar ∷ Bar ∷ Bar ∷ Bar ∷ Bar ∷ Bar ∷ Bar ∷ Bar ∷ Bar ∷ Bar ∷ Bar ∷ []) 64 (row Paragraph (plain (codes "a") ∷ []) ∷ []) ∷ []
  pub e427 : printable_sections (codes "a\r\nb\r# c\r\n\r\nd") ≡ behind [] 0 (row Paragraph (plain (codes "a b") ∷ []) ∷ []) ∷ blank [] ∷ behind [] 0 (row (Header 1) (plain (codes "c") ∷ []) ∷ []) ∷ blank [] ∷ behind [] 0 (row Paragraph (plain (codes "d") ∷ []) ∷ []) ∷ []
  pub e428 : printable_sections (codes "<aaaaaaaaaaaaaaaaaaaaaaaaaaaaaaaa:b>") ≡ behind [] 0 (row Paragraph (flagged false false false false true (codes "aaaaaaaaaaaaaaaaaaaaaaaaaaaaaaaa:b") ∷ []) ∷ []) ∷ []
  pub l428 : unmarked_links (codes "<aaaaaaaaaaaaaaaaaaaaaaaaaaaaaaaa:b>") ≡ link_at 0 (codes "aaaaaaaaaaaaaaaaaaaaaaaaaaaaaaaa:b") ∷ []
  pub e429 : printable_sections (codes "<aaaaaaaaaaaaaaaaaaaaaaaaaaaaaaaaa:b>") ≡ behind [] 0 (row Paragraph (plain (codes "<aaaaaaaaaaaaaaaaaaaaaaaaaaaaaaaaa:b>") ∷ []) ∷ []) ∷ []
  pub e430 : printable_sections (codes "- [ ] a\n- [x] b\n  c\n- [X]\td\n- [x]  e") ≡ behind (Task false ∷ []) 1 (row Paragraph (plain (codes "a") ∷ []) ∷ []) ∷ behind (Task true ∷ []) 1 (row Paragraph (plain (codes "b c") ∷ []) ∷ []) ∷ behind (Task true ∷ []) 1 (row Paragraph (plain (codes "d") ∷ []) ∷ []) ∷ behind (Task true ∷ []) 1 (row Paragraph (plain (codes "e") ∷ []) ∷ []) ∷ []
  pub e431 : printable_sections (codes "- [x]a\n- [x]\n- [x]\n  b\n- [x] \n  c") ≡ behind (Bullet ∷ []) 1 (row Paragraph (plain (codes "[x]a") ∷ []) ∷ []) ∷ behind (Bullet ∷ []) 1 (row Paragraph (plain (codes "[x]") ∷ []) ∷ []) ∷ behind (Bullet ∷ []) 1 (row Paragraph (plain (codes "[x] b") ∷ []) ∷ []) ∷ behind (Bullet ∷ []) 1 (row Paragraph (plain (codes "[x] c") ∷ []) ∷ []) ∷ []
  pub e432 : printable_sections (codes "1. [x] a\n\n[x] b") ≡ behind (Number 1 ∷ []) 1 (row Paragraph (plain (codes "[x] a") ∷ []) ∷ []) ∷ blank [] ∷ behind [] 0 (row Paragraph (plain (codes "[x] b") ∷ []) ∷ []) ∷ []
  pub e433 : printable_sections (codes "- a\n\n  [x] b\n\n- - [ ] c\n  - > [x] d") ≡ behind (Bullet ∷ []) 1 (row Paragraph (plain (codes "a") ∷ []) ∷ []) ∷ blank [] ∷ behind (Bullet ∷ []) 0 (row Paragraph (plain (codes "[x] b") ∷ []) ∷ []) ∷ blank [] ∷ behind (Bullet ∷ Task false ∷ []) 2 (row Paragraph (plain (codes "c") ∷ []) ∷ []) ∷ behind (Bullet ∷ Bullet ∷ Bar ∷ []) 2 (row Paragraph (plain (codes "[x] d") ∷ []) ∷ []) ∷ []
  pub e434 : printable_sections (codes "- [x] <!-- c -->\n- # [x] a\n- \\[x] b") ≡ behind (Task true ∷ []) 1 (row Paragraph ([]) ∷ []) ∷ blank [] ∷ behind (Bullet ∷ []) 1 (row (Header 1) (plain (codes "[x] a") ∷ []) ∷ []) ∷ blank [] ∷ behind (Bullet ∷ []) 1 (row Paragraph (plain (codes "[x] b") ∷ []) ∷ []) ∷ []
  pub e435 : printable_sections (codes "- [x] [b]\n\n[b]: /u\n[x]: /v") ≡ behind (Task true ∷ []) 1 (row Paragraph (flagged false false false false true (codes "b") ∷ []) ∷ []) ∷ []
  pub l435 : unmarked_links (codes "- [x] [b]\n\n[b]: /u\n[x]: /v") ≡ link_at 0 (codes "/u") ∷ []
  pub e436 : printable_sections (codes "> [!NOTE]\n> a\n> [b](/u)\n\n> [!tip]  \n> c\n\n[!note]: /v") ≡ behind (AlertBar Note ∷ []) 1 (row Paragraph (flagged true false false false false (codes "NOTE") ∷ []) ∷ row Paragraph (plain (codes "a ") ∷ flagged false false false false true (codes "b") ∷ []) ∷ []) ∷ blank [] ∷ behind (AlertBar Tip ∷ []) 1 (row Paragraph (flagged true false false false false (codes "TIP") ∷ []) ∷ row Paragraph (plain (codes "c") ∷ []) ∷ []) ∷ []
  pub l436 : unmarked_links (codes "> [!NOTE]\n> a\n> [b](/u)\n\n> [!tip]  \n> c\n\n[!note]: /v") ≡ link_at 0 (codes "/u") ∷ []
  pub e437 : printable_sections (codes "> [!Important]\n\n> [!WARNING] a") ≡ behind (AlertBar Important ∷ []) 1 (row Paragraph (flagged true false false false false (codes "IMPORTANT") ∷ []) ∷ []) ∷ blank [] ∷ behind (Bar ∷ []) 1 (row Paragraph (plain (codes "[!WARNING] a") ∷ []) ∷ []) ∷ []
  pub e438 : printable_sections (codes "> a\n>\n> [!NOTE]") ≡ behind (Bar ∷ []) 1 (row Paragraph (plain (codes "a") ∷ []) ∷ []) ∷ blank (Bar ∷ []) ∷ behind (Bar ∷ []) 0 (row Paragraph (plain (codes "[!NOTE]") ∷ []) ∷ []) ∷ []
  pub e439 : printable_sections (codes "> [!CAUTION]\n>\n> a\n\n- [!NOTE]\n  b") ≡ behind (AlertBar Caution ∷ []) 1 (row Paragraph (flagged true false false false false (codes "CAUTION") ∷ []) ∷ []) ∷ blank (AlertBar Caution ∷ []) ∷ behind (AlertBar Caution ∷ []) 0 (row Paragraph (plain (codes "a") ∷ []) ∷ []) ∷ blank [] ∷ behind (Bullet ∷ []) 1 (row Paragraph (plain (codes "[!NOTE] b") ∷ []) ∷ []) ∷ []
  pub e440 : printable_sections (codes "- > [!WARNING]\n  > a\n  >\n  > b\n\n[!NOTE]") ≡ behind (Bullet ∷ AlertBar Warning ∷ []) 2 (row Paragraph (flagged true false false false false (codes "WARNING") ∷ []) ∷ row Paragraph (plain (codes "a") ∷ []) ∷ []) ∷ blank (Bullet ∷ AlertBar Warning ∷ []) ∷ behind (Bullet ∷ AlertBar Warning ∷ []) 0 (row Paragraph (plain (codes "b") ∷ []) ∷ []) ∷ blank [] ∷ behind [] 0 (row Paragraph (plain (codes "[!NOTE]") ∷ []) ∷ []) ∷ []
  pub e441 : printable_sections (codes "1. a\n1. b\n\n   4. c\n   4. d\n1. e") ≡ behind (Number 1 ∷ []) 1 (row Paragraph (plain (codes "a") ∷ []) ∷ []) ∷ behind (Number 2 ∷ []) 1 (row Paragraph (plain (codes "b") ∷ []) ∷ []) ∷ blank [] ∷ behind (Number 2 ∷ Number 4 ∷ []) 1 (row Paragraph (plain (codes "c") ∷ []) ∷ []) ∷ behind (Number 2 ∷ Number 5 ∷ []) 1 (row Paragraph (plain (codes "d") ∷ []) ∷ []) ∷ behind (Number 3 ∷ []) 1 (row Paragraph (plain (codes "e") ∷ []) ∷ []) ∷ []
  pub e442 : printable_sections (codes "1. a\n9) b\n9) c") ≡ behind (Number 1 ∷ []) 1 (row Paragraph (plain (codes "a") ∷ []) ∷ []) ∷ behind (Number 9 ∷ []) 1 (row Paragraph (plain (codes "b") ∷ []) ∷ []) ∷ behind (Number 10 ∷ []) 1 (row Paragraph (plain (codes "c") ∷ []) ∷ []) ∷ []
  pub e443 : printable_sections (codes "1. a\n\n[x]: y\n\n1. b\n<!-- c -->\n1. d") ≡ behind (Number 1 ∷ []) 1 (row Paragraph (plain (codes "a") ∷ []) ∷ []) ∷ blank [] ∷ behind (Number 1 ∷ []) 1 (row Paragraph (plain (codes "b") ∷ []) ∷ []) ∷ behind (Number 1 ∷ []) 1 (row Paragraph (plain (codes "d") ∷ []) ∷ []) ∷ []
  pub e444 : printable_sections (codes "1. a\n>\n1. b\n- c\n1. d") ≡ behind (Number 1 ∷ []) 1 (row Paragraph (plain (codes "a") ∷ []) ∷ []) ∷ behind (Number 1 ∷ []) 1 (row Paragraph (plain (codes "b") ∷ []) ∷ []) ∷ behind (Bullet ∷ []) 1 (row Paragraph (plain (codes "c") ∷ []) ∷ []) ∷ behind (Number 1 ∷ []) 1 (row Paragraph (plain (codes "d") ∷ []) ∷ []) ∷ []
  pub e445 : printable_sections (codes "- a\n\n  b\n\n> - c\n>\n>   d") ≡ behind (Bullet ∷ []) 1 (row Paragraph (plain (codes "a") ∷ []) ∷ []) ∷ blank [] ∷ behind (Bullet ∷ []) 0 (row Paragraph (plain (codes "b") ∷ []) ∷ []) ∷ blank [] ∷ behind (Bar ∷ Bullet ∷ []) 2 (row Paragraph (plain (codes "c") ∷ []) ∷ []) ∷ blank (Bar ∷ []) ∷ behind (Bar ∷ Bullet ∷ []) 0 (row Paragraph (plain (codes "d") ∷ []) ∷ []) ∷ []
  pub e446 : printable_sections (codes "> > a\n>\n> > b\n\n> > c\n> >\n> > d") ≡ behind (Bar ∷ Bar ∷ []) 2 (row Paragraph (plain (codes "a") ∷ []) ∷ []) ∷ blank (Bar ∷ []) ∷ behind (Bar ∷ Bar ∷ []) 1 (row Paragraph (plain (codes "b") ∷ []) ∷ []) ∷ blank [] ∷ behind (Bar ∷ Bar ∷ []) 2 (row Paragraph (plain (codes "c") ∷ []) ∷ []) ∷ blank (Bar ∷ Bar ∷ []) ∷ behind (Bar ∷ Bar ∷ []) 0 (row Paragraph (plain (codes "d") ∷ []) ∷ []) ∷ []
  pub e447 : printable_sections (codes "- > a\n  >\n  > b\n\n- c\n-\n\n  d\n```\ne\n```\nf") ≡ behind (Bullet ∷ Bar ∷ []) 2 (row Paragraph (plain (codes "a") ∷ []) ∷ []) ∷ blank (Bullet ∷ Bar ∷ []) ∷ behind (Bullet ∷ Bar ∷ []) 0 (row Paragraph (plain (codes "b") ∷ []) ∷ []) ∷ blank [] ∷ behind (Bullet ∷ []) 1 (row Paragraph (plain (codes "c") ∷ []) ∷ []) ∷ behind (Bullet ∷ []) 1 (row Paragraph ([]) ∷ []) ∷ blank [] ∷ behind [] 0 (row Paragraph (plain (codes "d") ∷ []) ∷ []) ∷ blank [] ∷ behind (Code ∷ []) 1 (code_row (plain (codes "e") ∷ []) ∷ []) ∷ blank [] ∷ behind [] 0 (row Paragraph (plain (codes "f") ∷ []) ∷ []) ∷ []
  pub e448 : printable_sections (codes "-\n\n\n- a\n-\n\nb") ≡ behind (Bullet ∷ []) 1 (row Paragraph ([]) ∷ []) ∷ blank [] ∷ behind (Bullet ∷ []) 1 (row Paragraph (plain (codes "a") ∷ []) ∷ []) ∷ behind (Bullet ∷ []) 1 (row Paragraph ([]) ∷ []) ∷ blank [] ∷ behind [] 0 (row Paragraph (plain (codes "b") ∷ []) ∷ []) ∷ []
  pub e449 : printable_sections (codes "> | [a](/u) | b |\n> |-|:-:|\n> | c | <http://x> |\n\n> - | d |\n>   |-|") ≡ table_behind (Bar ∷ []) 1 (table_rule (Unspecified ∷ Center ∷ []) ∷ cells ((flagged true false false false true (codes "a") ∷ []) ∷ (flagged true false false false false (codes "b") ∷ []) ∷ []) ∷ table_rule (Unspecified ∷ Center ∷ []) ∷ cells ((plain (codes "c") ∷ []) ∷ (flagged false false false false true (codes "http://x") ∷ []) ∷ []) ∷ table_rule (Unspecified ∷ Center ∷ []) ∷ []) ∷ blank [] ∷ table_behind (Bar ∷ Bullet ∷ []) 2 (table_rule (Unspecified ∷ []) ∷ cells ((flagged true false false false false (codes "d") ∷ []) ∷ []) ∷ table_rule (Unspecified ∷ []) ∷ []) ∷ []
  pub l449 : unmarked_links (codes "> | [a](/u) | b |\n> |-|:-:|\n> | c | <http://x> |\n\n> - | d |\n>   |-|") ≡ link_at 0 (codes "/u") ∷ link_at 0 (codes "http://x") ∷ []
  pub e450 : printable_sections (codes "-\n  <!-- a -->\n\n  <!-- b -->\n- c") ≡ behind (Bullet ∷ []) 1 (row Paragraph ([]) ∷ []) ∷ blank [] ∷ behind (Bullet ∷ []) 1 (row Paragraph (plain (codes "c") ∷ []) ∷ []) ∷ []
