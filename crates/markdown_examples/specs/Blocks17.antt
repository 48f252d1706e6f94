-- Examples 401 to 425: what one sees of their blocks.
use Rattle.std.specs.Prelude.{◌≡◌, [], ◌∷◌, codes}
use Rattle.markdown_blocks.specs.declared.containers.Container.TheVariants.{Quote, Item}
use Rattle.markdown_leaves.specs.declared.parts.Kind.TheVariants.{Paragraph, Indented, Fenced, Html, Table, Rule, Definitions}
use Rattle.markdown_examples.specs.Seen.{opens, closes, leaf, seen}

pub record AreBlocks17 : Type 0 where
  pub e401 : seen (codes "x | y\nx | y\n|:-|-:|\n**\n\n**- -|-\n:-:") ≡ leaf Paragraph (codes "x | y" ∷ []) ∷ leaf (Table 2) (codes "x | y" ∷ codes "|:-|-:|" ∷ codes "**" ∷ []) ∷ leaf Paragraph (codes "**- -|-" ∷ codes ":-:" ∷ []) ∷ []
  pub e402 : seen (codes "**|:-|-:|\n ~~\n\n|:-|-:|\nax | y\n|-|-|\n") ≡ leaf Paragraph (codes "**|:-|-:|" ∷ codes "~~" ∷ []) ∷ leaf Paragraph (codes "|:-|-:|" ∷ []) ∷ leaf (Table 2) (codes "ax | y" ∷ codes "|-|-|" ∷ []) ∷ []
  pub e403 : seen (codes "\n:-:\n\n| a | b |\n |:-|-:|\n| a | b |\n***") ≡ leaf Paragraph (codes ":-:" ∷ []) ∷ leaf (Table 2) (codes "| a | b |" ∷ codes "|:-|-:|" ∷ codes "| a | b |" ∷ []) ∷ leaf Rule (codes "***" ∷ []) ∷ []
  pub e404 : seen (codes "| a | b |\n-|-\n\n\n> | a | b |\n| a | b |\n") ≡ leaf (Table 2) (codes "| a | b |" ∷ codes "-|-" ∷ []) ∷ opens Quote ∷ leaf Paragraph (codes "| a | b |" ∷ codes "| a | b |" ∷ []) ∷ closes ∷ []
  pub e405 : seen (codes "| a | b |\n~~\n|-|-|\n|:-|-:|\n*|:-|-:|\n- ") ≡ leaf Paragraph (codes "| a | b |" ∷ codes "~~" ∷ []) ∷ leaf (Table 2) (codes "|-|-|" ∷ codes "|:-|-:|" ∷ codes "*|:-|-:|" ∷ []) ∷ opens (Item 45 0 2) ∷ closes ∷ []
  pub e406 : seen (codes "|:-|-:|\n|-|-|\n~~~|-|~~~~~| a | b |\n`\\|") ≡ leaf (Table 2) (codes "|:-|-:|" ∷ codes "|-|-|" ∷ []) ∷ leaf Fenced (codes "|-|~~~~~| a | b |" ∷ codes "`\\|" ∷ []) ∷ []
  pub e407 : seen (codes "~-|-\n| a | b |\n|:-|-:|\n~| a | b |\n\n~~~") ≡ leaf Paragraph (codes "~-|-" ∷ []) ∷ leaf (Table 2) (codes "| a | b |" ∷ codes "|:-|-:|" ∷ codes "~| a | b |" ∷ []) ∷ leaf Fenced ([] ∷ []) ∷ []
  pub e408 : seen (codes "****-|-\n|-|-|\n|-|| a | b |\n\\|| a | b |\nb") ≡ leaf (Table 2) (codes "****-|-" ∷ codes "|-|-|" ∷ codes "|-|| a | b |" ∷ codes "\\|| a | b |" ∷ codes "b" ∷ []) ∷ []
  pub e409 : seen (codes "| a | b |\n-|-\n-|-\n||:-|-:|\n|:-|-:|\n**\n|-|") ≡ leaf (Table 2) (codes "| a | b |" ∷ codes "-|-" ∷ codes "-|-" ∷ codes "||:-|-:|" ∷ codes "|:-|-:|" ∷ codes "**" ∷ codes "|-|" ∷ []) ∷ []
  pub e410 : seen (codes "~|-|-|\n-|-\n -|-\n|-|-|\n:-:|:-|-:|\n| a | b |\n") ≡ leaf Paragraph (codes "~|-|-|" ∷ []) ∷ leaf (Table 2) (codes "-|-" ∷ codes "-|-" ∷ codes "|-|-|" ∷ codes ":-:|:-|-:|" ∷ codes "| a | b |" ∷ []) ∷ []
  pub e411 : seen (42 ∷ 42 ∷ 226 ∷ 136 ∷ 158 ∷ 42 ∷ 42 ∷ 97 ∷ 98 ∷ 32 ∷ 95 ∷ 97 ∷ 95 ∷ 226 ∷ 134 ∷ 146 ∷ 98 ∷ []) ≡ leaf Paragraph ((42 ∷ 42 ∷ 226 ∷ 136 ∷ 158 ∷ 42 ∷ 42 ∷ 97 ∷ 98 ∷ 32 ∷ 95 ∷ 97 ∷ 95 ∷ 226 ∷ 134 ∷ 146 ∷ 98 ∷ []) ∷ []) ∷ []
  pub e412 : seen (codes "*Â©*a *Â¢*a *Â´*a *Â±*a") ≡ leaf Paragraph (codes "*Â©*a *Â¢*a *Â´*a *Â±*a" ∷ []) ∷ []
  pub e413 : seen (codes "x <!-->y--> <!--->z-->") ≡ leaf Paragraph (codes "x <!-->y--> <!--->z-->" ∷ []) ∷ []
  pub e414 : seen (codes "x <!-- y -- z ---> *a*") ≡ leaf Paragraph (codes "x <!-- y -- z ---> *a*" ∷ []) ∷ []
  pub e415 : seen (codes "x <!-- y --> z --> <!--- *a*") ≡ leaf Paragraph (codes "x <!-- y --> z --> <!--- *a*" ∷ []) ∷ []
  pub e416 : seen (codes "a\n<search>\n*b*\n\n</SEARCH>") ≡ leaf Paragraph (codes "a" ∷ []) ∷ leaf Html (codes "<search>" ∷ codes "*b*" ∷ []) ∷ leaf Html (codes "</SEARCH>" ∷ []) ∷ []
  pub e417 : seen (codes "a\n<source>\n*b*") ≡ leaf Paragraph (codes "a" ∷ codes "<source>" ∷ codes "*b*" ∷ []) ∷ []
  pub e418 : seen (codes "1. > a\n   >\n2. b") ≡ opens (Item 46 1 3) ∷ opens Quote ∷ leaf Paragraph (codes "a" ∷ []) ∷ closes ∷ closes ∷ opens (Item 46 2 3) ∷ leaf Paragraph (codes "b" ∷ []) ∷ closes ∷ []
  pub e419 : seen (codes "- x\n  > y\n  >\n  >\n- z\n") ≡ opens (Item 45 0 2) ∷ leaf Paragraph (codes "x" ∷ []) ∷ opens Quote ∷ leaf Paragraph (codes "y" ∷ []) ∷ closes ∷ closes ∷ opens (Item 45 0 2) ∷ leaf Paragraph (codes "z" ∷ []) ∷ closes ∷ []
  pub e420 : seen (codes "- > a\n  >\n\n- b") ≡ opens (Item 45 0 2) ∷ opens Quote ∷ leaf Paragraph (codes "a" ∷ []) ∷ closes ∷ closes ∷ opens (Item 45 0 2) ∷ leaf Paragraph (codes "b" ∷ []) ∷ closes ∷ []
  pub e421 : seen (codes "+ >     a\n  >\n+ b") ≡ opens (Item 43 0 2) ∷ opens Quote ∷ leaf Indented (codes "a" ∷ []) ∷ closes ∷ closes ∷ opens (Item 43 0 2) ∷ leaf Paragraph (codes "b" ∷ []) ∷ closes ∷ []
  pub e422 : seen (codes "> - a\n>\n- b\n- c") ≡ opens Quote ∷ opens (Item 45 0 2) ∷ leaf Paragraph (codes "a" ∷ []) ∷ closes ∷ closes ∷ opens (Item 45 0 2) ∷ leaf Paragraph (codes "b" ∷ []) ∷ closes ∷ opens (Item 45 0 2) ∷ leaf Paragraph (codes "c" ∷ []) ∷ closes ∷ []
  pub e423 : seen (codes ">\na\n>\n\nb") ≡ opens Quote ∷ closes ∷ leaf Paragraph (codes "a" ∷ []) ∷ opens Quote ∷ closes ∷ leaf Paragraph (codes "b" ∷ []) ∷ []
  pub e424 : seen (codes "[bbbbbbbbbbbbbbbbbbbbbbbbbbbbbbbbbbbbbbbbbbbbbbbbbbbbbbbbbbbbbbbbbbbbbbbbbbbbbbbbbbbbbbbbbbbbbbbbbbbb]\n\n[bbbbbbbbbbbbbbbbbbbbbbbbbbbbbbbbbbbbbbbbbbbbbbbbbbbbbbbbbbbbbbbbbbbbbbbbbbbbbbbbbbbbbbbbbbbbbbbbbbbb]: /u") ≡ leaf Paragraph (codes "[bbbbbbbbbbbbbbbbbbbbbbbbbbbbbbbbbbbbbbbbbbbbbbbbbbbbbbbbbbbbbbbbbbbbbbbbbbbbbbbbbbbbbbbbbbbbbbbbbbbb]" ∷ []) ∷ leaf Definitions (codes "[bbbbbbbbbbbbbbbbbbbbbbbbbbbbbbbbbbbbbbbbbbbbbbbbbbbbbbbbbbbbbbbbbbbbbbbbbbbbbbbbbbbbbbbbbbbbbbbbbbbb]: /u" ∷ []) ∷ []
  pub e425 : seen (codes "[bbbbbbbbbbbbbbbbbbbbbbbbbbbbbbbbbbbbbbbbbbbbbbbbbbbbbbbbbbbbbbbbbbbbbbbbbbbbbbbbbbbbbbbbbbbbbbbbbbbbbbbbbbbbbbbbbbbbbbbbbbbbbbbbbbbbbbbbbbbbbbbbbbbbbbbbbbbbbbbbbbbbbbbbbbbbbbbbbbbbbbbbbbbbbbbbbbbbbbbbbbbbbbbbbbbbbbbbbbbbbbbbbbbbbbbbbbbbbbbbbbbbbbbbbbbbbbbbbbbbbbbbbbbbbbbbbbbbbbbbbbbbbbbbbbbbbbbbbbbbbbbbbbbbbbbbbbbbbbbbbbbbbbbbbbbbbbbbbbbbbbbbbbbbbbbbbbbbbbbbbbbbbbbbbbbbbbbbbbbbbbbbbbbbbbbbbbbbbbbbbbbbbbbbbbbbbbbbbbbbbbbbbbbbbbbbbbbbbbbbbbbbbbbbbbbbbbbbbbbbbbbbbbbbbbbbbbbbbbbbbbbbbbbbbbbbbbbbbbbbbbbbbbbbbbbbbbbbbbbbbbbbbbbbbbbbbbbbbbbbbbbbbbbbbbbbbbbbbbbbbbbbbbbbbbbbbbbbbbbbbbbbbbbbbbbbbbbbbbbbbbbbbbbbbbbbbbbbbbbbbbbbbbbbbbbbbbbbbbbbbbbbbbbbbbbbbbbbbbbbbbbbbbbbbbbbbbbbbbbbbbbbbbbbbbbbbbbbbbbbbbbbbbbbbbbbbbbbbbbbbbbbbbbbbbbbbbbbbbbbbbbbbbbbbbbbbbbbbbbbbbbbbbbbbbbbbbbbbbbbbbbbbbbbbbbbbbbbbbbbbbbbbbbbbbbbbbbbbbbbbbbbbbbbbbbbbbbbbbbbbbbbbbbbbbbbbbbbbbbbbbbbbbbbbbbbbbbbbbbbbbbbbbbbbbbbbbbbbbbbbbbbbbbbbbbbbbbbbbbbbbbbbbbbbbbbbbbbbbbbbbbbbbbbbbbbbbbbbbbbbbbbbbbbbbbbbbbbbbbbbbbbbbbbbbbbbbbbbbbbb]\n\n[bbbbbbbbbbbbbbbbbbbbbbbbbbbbbbbbbbbbbbbbbbbbbbbbbbbbbbbbbbbbbbbbbbbbbbbbbbbbbbbbbbbbbbbbbbbbbbbbbbbbbbbbbbbbbbbbbbbbbbbbbbbbbbbbbbbbbbbbbbbbbbbbbbbbbbbbbbbbbbbbbbbbbbbbbbbbbbbbbbbbbbbbbbbbbbbbbbbbbbbbbbbbbbbbbbbbbbbbbbbbbbbbbbbbbbbbbbbbbbbbbbbbbbbbbbbbbbbbbbbbbbbbbbbbbbbbbbbbbbbbbbbbbbbbbbbbbbbbbbbbbbbbbbbbbbbbbbbbbbbbbbbbbbbbbbbbbbbbbbbbbbbbbbbbbbbbbbbbbbbbbbbbbbbbbbbbbbbbbbbbbbbbbbbbbbbbbbbbbbbbbbbbbbbbbbbbbbbbbbbbbbbbbbbbbbbbbbbbbbbbbbbbbbbbbbbbbbbbbbbbbbbbbbbbbbbbbbbbbbbbbbbbbbbbbbbbbbbbbbbbbbbbbbbbbbbbbbbbbbbbbbbbbbbbbbbbbbbbbbbbbbbbbbbbbbbbbbbbbbbbbbbbbbbbbbbbbbbbbbbbbbbbbbbbbbbbbbbbbbbbbbbbbbbbbbbbbbbbbbbbbbbbbbbbbbbbbbbbbbbbbbbbbbbbbbbbbbbbbbbbbbbbbbbbbbbbbbbbbbbbbbbbbbbbbbbbbbbbbbbbbbbbbbbbbbbbbbbbbbbbbbbbbbbbbbbbbbbbbbbbbbbbbbbbbbbbbbbbbbbbbbbbbbbbbbbbbbbbbbbbbbbbbbbbbbbbbbbbbbbbbbbbbbbbbbbbbbbbbbbbbbbbbbbbbbbbbbbbbbbbbbbbbbbbbbbbbbbbbbbbbbbbbbbbbbbbbbbbbbbbbbbbbbbbbbbbbbbbbbbbbbbbbbbbbbbbbbbbbbbbbbbbbbbbbbbbbbbbbbbbbbbbbbbbbbbbbbbbbbbbbbbbbbbbbbbbbbbbbbbbbbbbbbbbbbbbbbbbbbbbb]: /u") ≡ leaf Paragraph (codes "[bbbbbbbbbbbbbbbbbbbbbbbbbbbbbbbbbbbbbbbbbbbbbbbbbbbbbbbbbbbbbbbbbbbbbbbbbbbbbbbbbbbbbbbbbbbbbbbbbbbbbbbbbbbbbbbbbbbbbbbbbbbbbbbbbbbbbbbbbbbbbbbbbbbbbbbbbbbbbbbbbbbbbbbbbbbbbbbbbbbbbbbbbbbbbbbbbbbbbbbbbbbbbbbbbbbbbbbbbbbbbbbbbbbbbbbbbbbbbbbbbbbbbbbbbbbbbbbbbbbbbbbbbbbbbbbbbbbbbbbbbbbbbbbbbbbbbbbbbbbbbbbbbbbbbbbbbbbbbbbbbbbbbbbbbbbbbbbbbbbbbbbbbbbbbbbbbbbbbbbbbbbbbbbbbbbbbbbbbbbbbbbbbbbbbbbbbbbbbbbbbbbbbbbbbbbbbbbbbbbbbbbbbbbbbbbbbbbbbbbbbbbbbbbbbbbbbbbbbbbbbbbbbbbbbbbbbbbbbbbbbbbbbbbbbbbbbbbbbbbbbbbbbbbbbbbbbbbbbbbbbbbbbbbbbbbbbbbbbbbbbbbbbbbbbbbbbbbbbbbbbbbbbbbbbbbbbbbbbbbbbbbbbbbbbbbbbbbbbbbbbbbbbbbbbbbbbbbbbbbbbbbbbbbbbbbbbbbbbbbbbbbbbbbbbbbbbbbbbbbbbbbbbbbbbbbbbbbbbbbbbbbbbbbbbbbbbbbbbbbbbbbbbbbbbbbbbbbbbbbbbbbbbbbbbbbbbbbbbbbbbbbbbbbbbbbbbbbbbbbbbbbbbbbbbbbbbbbbbbbbbbbbbbbbbbbbbbbbbbbbbbbbbbbbbbbbbbbbbbbbbbbbbbbbbbbbbbbbbbbbbbbbbbbbbbbbbbbbbbbbbbbbbbbbbbbbbbbbbbbbbbbbbbbbbbbbbbbbbbbbbbbbbbbbbbbbbbbbbbbbbbbbbbbbbbbbbbbbbbbbbbbbbbbbbbbbbbbbbbbbbbbbbbbbbbbbbbbbbbbbbbbbbbbbbbbbbbbbbbbbb]" ∷ []) ∷ leaf Paragraph (codes "[bbbbbbbbbbbbbbbbbbbbbbbbbbbbbbbbbbbbbbbbbbbbbbbbbbbbbbbbbbbbbbbbbbbbbbbbbbbbbbbbbbbbbbbbbbbbbbbbbbbbbbbbbbbbbbbbbbbbbbbbbbbbbbbbbbbbbbbbbbbbbbbbbbbbbbbbbbbbbbbbbbbbbbbbbbbbbbbbbbbbbbbbbbbbbbbbbbbbbbbbbbbbbbbbbbbbbbbbbbbbbbbbbbbbbbbbbbbbbbbbbbbbbbbbbbbbbbbbbbbbbbbbbbbbbbbbbbbbbbbbbbbbbbbbbbbbbbbbbbbbbbbbbbbbbbbbbbbbbbbbbbbbbbbbbbbbbbbbbbbbbbbbbbbbbbbbbbbbbbbbbbbbbbbbbbbbbbbbbbbbbbbbbbbbbbbbbbbbbbbbbbbbbbbbbbbbbbbbbbbbbbbbbbbbbbbbbbbbbbbbbbbbbbbbbbbbbbbbbbbbbbbbbbbbbbbbbbbbbbbbbbbbbbbbbbbbbbbbbbbbbbbbbbbbbbbbbbbbbbbbbbbbbbbbbbbbbbbbbbbbbbbbbbbbbbbbbbbbbbbbbbbbbbbbbbbbbbbbbbbbbbbbbbbbbbbbbbbbbbbbbbbbbbbbbbbbbbbbbbbbbbbbbbbbbbbbbbbbbbbbbbbbbbbbbbbbbbbbbbbbbbbbbbbbbbbbbbbbbbbbbbbbbbbbbbbbbbbbbbbbbbbbbbbbbbbbbbbbbbbbbbbbbbbbbbbbbbbbbbbbbbbbbbbbbbbbbbbbbbbbbbbbbbbbbbbbbbbbbbbbbbbbbbbbbbbbbbbbbbbbbbbbbbbbbbbbbbbbbbbbbbbbbbbbbbbbbbbbbbbbbbbbbbbbbbbbbbbbbbbbbbbbbbbbbbbbbbbbbbbbbbbbbbbbbbbbbbbbbbbbbbbbbbbbbbbbbbbbbbbbbbbbbbbbbbbbbbbbbbbbbbbbbbbbbbbbbbbbbbbbbbbbbbbbbbbbbbbbbbbbbbbbbbbbbbbbbbbbbbbbb]: /u" ∷ []) ∷ []
