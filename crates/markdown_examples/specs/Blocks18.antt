-- Examples 426 to 450: what one sees of their blocks.
use Rattle.std.specs.Prelude.{◌≡◌, [], ◌∷◌, codes}
use Rattle.markdown_blocks.specs.declared.containers.Container.TheVariants.{Quote, Item}
use Rattle.markdown_leaves.specs.declared.parts.Kind.TheVariants.{Paragraph, Heading, Fenced, Html, Table, Definitions}
use Rattle.markdown_examples.specs.Seen.{opens, closes, leaf, seen}

pub record AreBlocks18 : Type 0 where
  pub e426 : seen (codes ">>>>>>>>>>>>>>>>>>>>>>>>>>>>>>>>>>>>>>>>>>>>>>>>>>>>>>>>>>>>>>>> a") ≡ opens Quote ∷ opens Quote ∷ opens Quote ∷ opens Quote ∷ opens Quote ∷ opens Quote ∷ opens Quote ∷ opens Quote ∷ opens Quote ∷ opens Quote ∷ opens Quote ∷ opens Quote ∷ opens Quote ∷ opens Quote ∷ opens Quote ∷ opens Quote ∷ opens Quote ∷ opens Quote ∷ opens Quote ∷ opens Quote ∷ opens Quote ∷ opens Quote ∷ opens Quote ∷ opens Quote ∷ opens Quote ∷ opens Quote ∷ opens Quote ∷ opens Quote ∷ opens Quote ∷ opens Quote ∷ opens Quote ∷ opens Quote ∷ opens Quote ∷ opens Quote ∷ opens Quote ∷ opens Quote ∷ opens Quote ∷ opens Quote ∷ opens Quote ∷ opens Quote ∷ opens Quote ∷ opens Quote ∷ opens Quote ∷ opens Quote ∷ opens Quote ∷ opens Quote ∷ opens Quote ∷ opens Quote ∷ opens Quote ∷ opens Quote ∷ opens Quote ∷ opens Quote ∷ opens Quote ∷ opens Quote ∷ opens Quote ∷ opens Quote ∷ opens Quote ∷ opens Quote ∷ opens Quote ∷ opens Quote ∷ opens Quote ∷ opens Quote ∷ opens Quote ∷ opens Quote ∷ leaf Paragraph (codes "a" ∷ []) ∷ closes ∷ closes ∷ closes ∷ closes ∷ closes ∷ closes ∷ closes ∷ closes ∷ closes ∷ closes ∷ closes ∷ closes ∷ closes ∷ closes ∷ closes ∷ closes ∷ closes ∷ closes ∷ closes ∷ closes ∷ closes ∷ closes ∷ closes ∷ closes ∷ closes ∷ closes ∷ closes ∷ closes ∷ closes ∷ closes ∷ closes ∷ closes ∷ closes ∷ closes ∷ closes ∷ closes ∷ closes ∷ closes ∷ closes ∷ closes ∷ closes ∷ closes ∷ closes ∷ closes ∷ closes ∷ closes ∷ closes ∷ closes ∷ closes ∷ closes ∷ closes ∷ closes ∷ closes ∷ closes ∷ closes ∷ closes ∷ closes ∷ closes ∷ closes ∷ closes ∷ closes ∷ closes ∷ closes ∷ closes ∷ []
  pub e427 : seen (codes "a\r\nb\r# c\r\n\r\nd") ≡ leaf Paragraph (codes "a" ∷ codes "b" ∷ []) ∷ leaf (Heading 1) (codes "c" ∷ []) ∷ leaf Paragraph (codes "d" ∷ []) ∷ []
  pub e428 : seen (codes "<aaaaaaaaaaaaaaaaaaaaaaaaaaaaaaaa:b>") ≡ leaf Paragraph (codes "<aaaaaaaaaaaaaaaaaaaaaaaaaaaaaaaa:b>" ∷ []) ∷ []
  pub e429 : seen (codes "<aaaaaaaaaaaaaaaaaaaaaaaaaaaaaaaaa:b>") ≡ leaf Paragraph (codes "<aaaaaaaaaaaaaaaaaaaaaaaaaaaaaaaaa:b>" ∷ []) ∷ []
  pub e430 : seen (codes "- [ ] a\n- [x] b\n  c\n- [X]\td\n- [x]  e") ≡ opens (Item 45 0 2) ∷ leaf Paragraph (codes "[ ] a" ∷ []) ∷ closes ∷ opens (Item 45 0 2) ∷ leaf Paragraph (codes "[x] b" ∷ codes "c" ∷ []) ∷ closes ∷ opens (Item 45 0 2) ∷ leaf Paragraph (codes "[X]\td" ∷ []) ∷ closes ∷ opens (Item 45 0 2) ∷ leaf Paragraph (codes "[x]  e" ∷ []) ∷ closes ∷ []
  pub e431 : seen (codes "- [x]a\n- [x]\n- [x]\n  b\n- [x] \n  c") ≡ opens (Item 45 0 2) ∷ leaf Paragraph (codes "[x]a" ∷ []) ∷ closes ∷ opens (Item 45 0 2) ∷ leaf Paragraph (codes "[x]" ∷ []) ∷ closes ∷ opens (Item 45 0 2) ∷ leaf Paragraph (codes "[x]" ∷ codes "b" ∷ []) ∷ closes ∷ opens (Item 45 0 2) ∷ leaf Paragraph (codes "[x] " ∷ codes "c" ∷ []) ∷ closes ∷ []
  pub e432 : seen (codes "1. [x] a\n\n[x] b") ≡ opens (Item 46 1 3) ∷ leaf Paragraph (codes "[x] a" ∷ []) ∷ closes ∷ leaf Paragraph (codes "[x] b" ∷ []) ∷ []
  pub e433 : seen (codes "- a\n\n  [x] b\n\n- - [ ] c\n  - > [x] d") ≡ opens (Item 45 0 2) ∷ leaf Paragraph (codes "a" ∷ []) ∷ leaf Paragraph (codes "[x] b" ∷ []) ∷ closes ∷ opens (Item 45 0 2) ∷ opens (Item 45 0 2) ∷ leaf Paragraph (codes "[ ] c" ∷ []) ∷ closes ∷ opens (Item 45 0 2) ∷ opens Quote ∷ leaf Paragraph (codes "[x] d" ∷ []) ∷ closes ∷ closes ∷ closes ∷ []
  pub e434 : seen (codes "- [x] <!-- c -->\n- # [x] a\n- \\[x] b") ≡ opens (Item 45 0 2) ∷ leaf Paragraph (codes "[x] <!-- c -->" ∷ []) ∷ closes ∷ opens (Item 45 0 2) ∷ leaf (Heading 1) (codes "[x] a" ∷ []) ∷ closes ∷ opens (Item 45 0 2) ∷ leaf Paragraph (codes "\\[x] b" ∷ []) ∷ closes ∷ []
  pub e435 : seen (codes "- [x] [b]\n\n[b]: /u\n[x]: /v") ≡ opens (Item 45 0 2) ∷ leaf Paragraph (codes "[x] [b]" ∷ []) ∷ closes ∷ leaf Definitions (codes "[b]: /u" ∷ codes "[x]: /v" ∷ []) ∷ []
  pub e436 : seen (codes "> [!NOTE]\n> a\n> [b](/u)\n\n> [!tip]  \n> c\n\n[!note]: /v") ≡ opens Quote ∷ leaf Paragraph (codes "[!NOTE]" ∷ codes "a" ∷ codes "[b](/u)" ∷ []) ∷ closes ∷ opens Quote ∷ leaf Paragraph (codes "[!tip]  " ∷ codes "c" ∷ []) ∷ closes ∷ leaf Definitions (codes "[!note]: /v" ∷ []) ∷ []
  pub e437 : seen (codes "> [!Important]\n\n> [!WARNING] a") ≡ opens Quote ∷ leaf Paragraph (codes "[!Important]" ∷ []) ∷ closes ∷ opens Quote ∷ leaf Paragraph (codes "[!WARNING] a" ∷ []) ∷ closes ∷ []
  pub e438 : seen (codes "> a\n>\n> [!NOTE]") ≡ opens Quote ∷ leaf Paragraph (codes "a" ∷ []) ∷ leaf Paragraph (codes "[!NOTE]" ∷ []) ∷ closes ∷ []
  pub e439 : seen (codes "> [!CAUTION]\n>\n> a\n\n- [!NOTE]\n  b") ≡ opens Quote ∷ leaf Paragraph (codes "[!CAUTION]" ∷ []) ∷ leaf Paragraph (codes "a" ∷ []) ∷ closes ∷ opens (Item 45 0 2) ∷ leaf Paragraph (codes "[!NOTE]" ∷ codes "b" ∷ []) ∷ closes ∷ []
  pub e440 : seen (codes "- > [!WARNING]\n  > a\n  >\n  > b\n\n[!NOTE]") ≡ opens (Item 45 0 2) ∷ opens Quote ∷ leaf Paragraph (codes "[!WARNING]" ∷ codes "a" ∷ []) ∷ leaf Paragraph (codes "b" ∷ []) ∷ closes ∷ closes ∷ leaf Paragraph (codes "[!NOTE]" ∷ []) ∷ []
  pub e441 : seen (codes "1. a\n1. b\n\n   4. c\n   4. d\n1. e") ≡ opens (Item 46 1 3) ∷ leaf Paragraph (codes "a" ∷ []) ∷ closes ∷ opens (Item 46 1 3) ∷ leaf Paragraph (codes "b" ∷ []) ∷ opens (Item 46 4 3) ∷ leaf Paragraph (codes "c" ∷ []) ∷ closes ∷ opens (Item 46 4 3) ∷ leaf Paragraph (codes "d" ∷ []) ∷ closes ∷ closes ∷ opens (Item 46 1 3) ∷ leaf Paragraph (codes "e" ∷ []) ∷ closes ∷ []
  pub e442 : seen (codes "1. a\n9) b\n9) c") ≡ opens (Item 46 1 3) ∷ leaf Paragraph (codes "a" ∷ []) ∷ closes ∷ opens (Item 41 9 3) ∷ leaf Paragraph (codes "b" ∷ []) ∷ closes ∷ opens (Item 41 9 3) ∷ leaf Paragraph (codes "c" ∷ []) ∷ closes ∷ []
  pub e443 : seen (codes "1. a\n\n[x]: y\n\n1. b\n<!-- c -->\n1. d") ≡ opens (Item 46 1 3) ∷ leaf Paragraph (codes "a" ∷ []) ∷ closes ∷ leaf Definitions (codes "[x]: y" ∷ []) ∷ opens (Item 46 1 3) ∷ leaf Paragraph (codes "b" ∷ []) ∷ closes ∷ leaf Html (codes "<!-- c -->" ∷ []) ∷ opens (Item 46 1 3) ∷ leaf Paragraph (codes "d" ∷ []) ∷ closes ∷ []
  pub e444 : seen (codes "1. a\n>\n1. b\n- c\n1. d") ≡ opens (Item 46 1 3) ∷ leaf Paragraph (codes "a" ∷ []) ∷ closes ∷ opens Quote ∷ closes ∷ opens (Item 46 1 3) ∷ leaf Paragraph (codes "b" ∷ []) ∷ closes ∷ opens (Item 45 0 2) ∷ leaf Paragraph (codes "c" ∷ []) ∷ closes ∷ opens (Item 46 1 3) ∷ leaf Paragraph (codes "d" ∷ []) ∷ closes ∷ []
  pub e445 : seen (codes "- a\n\n  b\n\n> - c\n>\n>   d") ≡ opens (Item 45 0 2) ∷ leaf Paragraph (codes "a" ∷ []) ∷ leaf Paragraph (codes "b" ∷ []) ∷ closes ∷ opens Quote ∷ opens (Item 45 0 2) ∷ leaf Paragraph (codes "c" ∷ []) ∷ leaf Paragraph (codes "d" ∷ []) ∷ closes ∷ closes ∷ []
  pub e446 : seen (codes "> > a\n>\n> > b\n\n> > c\n> >\n> > d") ≡ opens Quote ∷ opens Quote ∷ leaf Paragraph (codes "a" ∷ []) ∷ closes ∷ opens Quote ∷ leaf Paragraph (codes "b" ∷ []) ∷ closes ∷ closes ∷ opens Quote ∷ opens Quote ∷ leaf Paragraph (codes "c" ∷ []) ∷ leaf Paragraph (codes "d" ∷ []) ∷ closes ∷ closes ∷ []
  pub e447 : seen (codes "- > a\n  >\n  > b\n\n- c\n-\n\n  d\n```\ne\n```\nf") ≡ opens (Item 45 0 2) ∷ opens Quote ∷ leaf Paragraph (codes "a" ∷ []) ∷ leaf Paragraph (codes "b" ∷ []) ∷ closes ∷ closes ∷ opens (Item 45 0 2) ∷ leaf Paragraph (codes "c" ∷ []) ∷ closes ∷ opens (Item 45 0 2) ∷ closes ∷ leaf Paragraph (codes "d" ∷ []) ∷ leaf Fenced ([] ∷ codes "e" ∷ []) ∷ leaf Paragraph (codes "f" ∷ []) ∷ []
  pub e448 : seen (codes "-\n\n\n- a\n-\n\nb") ≡ opens (Item 45 0 2) ∷ closes ∷ opens (Item 45 0 2) ∷ leaf Paragraph (codes "a" ∷ []) ∷ closes ∷ opens (Item 45 0 2) ∷ closes ∷ leaf Paragraph (codes "b" ∷ []) ∷ []
  pub e449 : seen (codes "> | [a](/u) | b |\n> |-|:-:|\n> | c | <http://x> |\n\n> - | d |\n>   |-|") ≡ opens Quote ∷ leaf (Table 2) (codes "| [a](/u) | b |" ∷ codes "|-|:-:|" ∷ codes "| c | <http://x> |" ∷ []) ∷ closes ∷ opens Quote ∷ opens (Item 45 0 2) ∷ leaf (Table 1) (codes "| d |" ∷ codes "|-|" ∷ []) ∷ closes ∷ closes ∷ []
  pub e450 : seen (codes "-\n  <!-- a -->\n\n  <!-- b -->\n- c") ≡ opens (Item 45 0 2) ∷ leaf Html (codes "<!-- a -->" ∷ []) ∷ leaf Html (codes "<!-- b -->" ∷ []) ∷ closes ∷ opens (Item 45 0 2) ∷ leaf Paragraph (codes "c" ∷ []) ∷ closes ∷ []
