-- Examples 401 to 425, computed.
use Rattle.std.proofs.Common.{◌≡◌, [], ◌∷◌, codes, refl}
use Rattle.markdown_blocks.specs.declared.containers.Container.TheVariants.{Quote, Item}
use Rattle.markdown_leaves.specs.declared.parts.Kind.TheVariants.{Paragraph, Indented, Fenced, Html, Table, Rule, Definitions}
use Rattle.markdown_examples.specs.Seen.{opens, closes, leaf, seen}
use Rattle.markdown_examples.specs.Blocks17.{AreBlocks17}
use Rattle.markdown_as_html.proofs.Computing.{reading}

e401 : seen (codes "x | y\nx | y\n|:-|-:|\n**\n\n**- -|-\n:-:") ≡ leaf Paragraph (codes "x | y" ∷ []) ∷ leaf (Table 2) (codes "x | y" ∷ codes "|:-|-:|" ∷ codes "**" ∷ []) ∷ leaf Paragraph (codes "**- -|-" ∷ codes ":-:" ∷ []) ∷ []
unfolding reading
e401 = refl

e402 : seen (codes "**|:-|-:|\n ~~\n\n|:-|-:|\nax | y\n|-|-|\n") ≡ leaf Paragraph (codes "**|:-|-:|" ∷ codes "~~" ∷ []) ∷ leaf Paragraph (codes "|:-|-:|" ∷ []) ∷ leaf (Table 2) (codes "ax | y" ∷ codes "|-|-|" ∷ []) ∷ []
unfolding reading
e402 = refl

e403 : seen (codes "\n:-:\n\n| a | b |\n |:-|-:|\n| a | b |\n***") ≡ leaf Paragraph (codes ":-:" ∷ []) ∷ leaf (Table 2) (codes "| a | b |" ∷ codes "|:-|-:|" ∷ codes "| a | b |" ∷ []) ∷ leaf Rule (codes "***" ∷ []) ∷ []
unfolding reading
e403 = refl

e404 : seen (codes "| a | b |\n-|-\n\n\n> | a | b |\n| a | b |\n") ≡ leaf (Table 2) (codes "| a | b |" ∷ codes "-|-" ∷ []) ∷ opens Quote ∷ leaf Paragraph (codes "| a | b |" ∷ codes "| a | b |" ∷ []) ∷ closes ∷ []
unfolding reading
e404 = refl

e405 : seen (codes "| a | b |\n~~\n|-|-|\n|:-|-:|\n*|:-|-:|\n- ") ≡ leaf Paragraph (codes "| a | b |" ∷ codes "~~" ∷ []) ∷ leaf (Table 2) (codes "|-|-|" ∷ codes "|:-|-:|" ∷ codes "*|:-|-:|" ∷ []) ∷ opens (Item 45 0 2) ∷ closes ∷ []
unfolding reading
e405 = refl

e406 : seen (codes "|:-|-:|\n|-|-|\n~~~|-|~~~~~| a | b |\n`\\|") ≡ leaf (Table 2) (codes "|:-|-:|" ∷ codes "|-|-|" ∷ []) ∷ leaf Fenced (codes "|-|~~~~~| a | b |" ∷ codes "`\\|" ∷ []) ∷ []
unfolding reading
e406 = refl

e407 : seen (codes "~-|-\n| a | b |\n|:-|-:|\n~| a | b |\n\n~~~") ≡ leaf Paragraph (codes "~-|-" ∷ []) ∷ leaf (Table 2) (codes "| a | b |" ∷ codes "|:-|-:|" ∷ codes "~| a | b |" ∷ []) ∷ leaf Fenced ([] ∷ []) ∷ []
unfolding reading
e407 = refl

e408 : seen (codes "****-|-\n|-|-|\n|-|| a | b |\n\\|| a | b |\nb") ≡ leaf (Table 2) (codes "****-|-" ∷ codes "|-|-|" ∷ codes "|-|| a | b |" ∷ codes "\\|| a | b |" ∷ codes "b" ∷ []) ∷ []
unfolding reading
e408 = refl

e409 : seen (codes "| a | b |\n-|-\n-|-\n||:-|-:|\n|:-|-:|\n**\n|-|") ≡ leaf (Table 2) (codes "| a | b |" ∷ codes "-|-" ∷ codes "-|-" ∷ codes "||:-|-:|" ∷ codes "|:-|-:|" ∷ codes "**" ∷ codes "|-|" ∷ []) ∷ []
unfolding reading
e409 = refl

e410 : seen (codes "~|-|-|\n-|-\n -|-\n|-|-|\n:-:|:-|-:|\n| a | b |\n") ≡ leaf Paragraph (codes "~|-|-|" ∷ []) ∷ leaf (Table 2) (codes "-|-" ∷ codes "-|-" ∷ codes "|-|-|" ∷ codes ":-:|:-|-:|" ∷ codes "| a | b |" ∷ []) ∷ []
unfolding reading
e410 = refl

e411 : seen (42 ∷ 42 ∷ 226 ∷ 136 ∷ 158 ∷ 42 ∷ 42 ∷ 97 ∷ 98 ∷ 32 ∷ 95 ∷ 97 ∷ 95 ∷ 226 ∷ 134 ∷ 146 ∷ 98 ∷ []) ≡ leaf Paragraph ((42 ∷ 42 ∷ 226 ∷ 136 ∷ 158 ∷ 42 ∷ 42 ∷ 97 ∷ 98 ∷ 32 ∷ 95 ∷ 97 ∷ 95 ∷ 226 ∷ 134 ∷ 146 ∷ 98 ∷ []) ∷ []) ∷ []
unfolding reading
e411 = refl

e412 : seen (codes "*Â©*a *Â¢*a *Â´*a *Â±*a") ≡ leaf Paragraph (codes "*Â©*a *Â¢*a *Â´*a *Â±*a" ∷ []) ∷ []
unfolding reading
e412 = refl

e413 : seen (codes "x <!-->y--> <!--->z-->") ≡ leaf Paragraph (codes "x <!-->y--> <!--->z-->" ∷ []) ∷ []
unfolding reading
e413 = refl

e414 : seen (codes "x <!-- y -- z ---> *a*") ≡ leaf Paragraph (codes "x <!-- y -- z ---> *a*" ∷ []) ∷ []
unfolding reading
e414 = refl

e415 : seen (codes "x <!-- y --> z --> <!--- *a*") ≡ leaf Paragraph (codes "x <!-- y --> z --> <!--- *a*" ∷ []) ∷ []
unfolding reading
e415 = refl

e416 : seen (codes "a\n<search>\n*b*\n\n</SEARCH>") ≡ leaf Paragraph (codes "a" ∷ []) ∷ leaf Html (codes "<search>" ∷ codes "*b*" ∷ []) ∷ leaf Html (codes "</SEARCH>" ∷ []) ∷ []
unfolding reading
e416 = refl

e417 : seen (codes "a\n<source>\n*b*") ≡ leaf Paragraph (codes "a" ∷ codes "<source>" ∷ codes "*b*" ∷ []) ∷ []
unfolding reading
e417 = refl

e418 : seen (codes "1. > a\n   >\n2. b") ≡ opens (Item 46 1 3) ∷ opens Quote ∷ leaf Paragraph (codes "a" ∷ []) ∷ closes ∷ closes ∷ opens (Item 46 2 3) ∷ leaf Paragraph (codes "b" ∷ []) ∷ closes ∷ []
unfolding reading
e418 = refl

e419 : seen (codes "- x\n  > y\n  >\n  >\n- z\n") ≡ opens (Item 45 0 2) ∷ leaf Paragraph (codes "x" ∷ []) ∷ opens Quote ∷ leaf Paragraph (codes "y" ∷ []) ∷ closes ∷ closes ∷ opens (Item 45 0 2) ∷ leaf Paragraph (codes "z" ∷ []) ∷ closes ∷ []
unfolding reading
e419 = refl

e420 : seen (codes "- > a\n  >\n\n- b") ≡ opens (Item 45 0 2) ∷ opens Quote ∷ leaf Paragraph (codes "a" ∷ []) ∷ closes ∷ closes ∷ opens (Item 45 0 2) ∷ leaf Paragraph (codes "b" ∷ []) ∷ closes ∷ []
unfolding reading
e420 = refl

e421 : seen (codes "+ >     a\n  >\n+ b") ≡ opens (Item 43 0 2) ∷ opens Quote ∷ leaf Indented (codes "a" ∷ []) ∷ closes ∷ closes ∷ opens (Item 43 0 2) ∷ leaf Paragraph (codes "b" ∷ []) ∷ closes ∷ []
unfolding reading
e421 = refl

e422 : seen (codes "> - a\n>\n- b\n- c") ≡ opens Quote ∷ opens (Item 45 0 2) ∷ leaf Paragraph (codes "a" ∷ []) ∷ closes ∷ closes ∷ opens (Item 45 0 2) ∷ leaf Paragraph (codes "b" ∷ []) ∷ closes ∷ opens (Item 45 0 2) ∷ leaf Paragraph (codes "c" ∷ []) ∷ closes ∷ []
unfolding reading
e422 = refl

e423 : seen (codes ">\na\n>\n\nb") ≡ opens Quote ∷ closes ∷ leaf Paragraph (codes "a" ∷ []) ∷ opens Quote ∷ closes ∷ leaf Paragraph (codes "b" ∷ []) ∷ []
unfolding reading
e423 = refl

e424 : seen (codes "[bbbbbbbbbbbbbbbbbbbbbbbbbbbbbbbbbbbbbbbbbbbbbbbbbbbbbbbbbbbbbbbbbbbbbbbbbbbbbbbbbbbbbbbbbbbbbbbbbbbb]\n\n[bbbbbbbbbbbbbbbbbbbbbbbbbbbbbbbbbbbbbbbbbbbbbbbbbbbbbbbbbbbbbbbbbbbbbbbbbbbbbbbbbbbbbbbbbbbbbbbbbbbb]: /u") ≡ leaf Paragraph (codes "[bbbbbbbbbbbbbbbbbbbbbbbbbbbbbbbbbbbbbbbbbbbbbbbbbbbbbbbbbbbbbbbbbbbbbbbbbbbbbbbbbbbbbbbbbbbbbbbbbbbb]" ∷ []) ∷ leaf Definitions (codes "[bbbbbbbbbbbbbbbbbbbbbbbbbbbbbbbbbbbbbbbbbbbbbbbbbbbbbbbbbbbbbbbbbbbbbbbbbbbbbbbbbbbbbbbbbbbbbbbbbbbb]: /u" ∷ []) ∷ []
unfolding reading
e424 = refl

e425 : seen (codes "[bbbbbbbbbbbbbbbbbbbbbbbbbbbbbbbbbbbbbbbbbbbbbbbbbbbbbbbbbbbbbbbbbbbbbbbbbbbbbbbbbbbbbbbbbbbbbbbbbbbbbbbbbbbbbbbbbbbbbbbbbbbbbbbbbbbbbbbbbbbbbbbbbbbbbbbbbbbbbbbbbbbbbbbbbbbbbbbbbbbbbbbbbbbbbbbbbbbbbbbbbbbbbbbbbbbbbbbbbbbbbbbbbbbbbbbbbbbbbbbbbbbbbbbbbbbbbbbbbbbbbbbbbbbbbbbbbbbbbbbbbbbbbbbbbbbbbbbbbbbbbbbbbbbbbbbbbbbbbbbbbbbbbbbbbbbbbbbbbbbbbbbbbbbbbbbbbbbbbbbbbbbbbbbbbbbbbbbbbbbbbbbbbbbbbbbbbbbbbbbbbbbbbbbbbbbbbbbbbbbbbbbbbbbbbbbbbbbbbbbbbbbbbbbbbbbbbbbbbbbbbbbbbbbbbbbbbbbbbbbbbbbbbbbbbbbbbbbbbbbbbbbbbbbbbbbbbbbbbbbbbbbbbbbbbbbbbbbbbbbbbbbbbbbbbbbbbbbbbbbbbbbbbbbbbbbbbbbbbbbbbbbbbbbbbbbbbbbbbbbbbbbbbbbbbbbbbbbbbbbbbbbbbbbbbbbbbbbbbbbbbbbbbbbbbbbbbbbbbbbbbbbbbbbbbbbbbbbbbbbbbbbbbbbbbbbbbbbbbbbbbbbbbbbbbbbbbbbbbbbbbbbbbbbbbbbbbbbbbbbbbbbbbbbbbbbbbbbbbbbbbbbbbbbbbbbbbbbbbbbbbbbbbbbbbbbbbbbbbbbbbbbbbbbbbbbbbbbbbbbbbbbbbbbbbbbbbbbbbbbbbbbbbbbbbbbbbbbbbbbbbbbbbbbbbbbbbbbbbbbbbbbbbbbbbbbbbbbbbbbbbbbbbbbbbbbbbbbbbbbbbbbbbbbbbbbbbbbbbbbbbbbbbbbbbbbbbbbbbbbbbbbbbbbbbbbbbbbbbbbbbbbbbbbbbbbbbbbbbbbbb]\n\n[bbbbbbbbbbbbbbbbbbbbbbbbbbbbbbbbbbbbbbbbbbbbbbbbbbbbbbbbbbbbbbbbbbbbbbbbbbbbbbbbbbbbbbbbbbbbbbbbbbbbbbbbbbbbbbbbbbbbbbbbbbbbbbbbbbbbbbbbbbbbbbbbbbbbbbbbbbbbbbbbbbbbbbbbbbbbbbbbbbbbbbbbbbbbbbbbbbbbbbbbbbbbbbbbbbbbbbbbbbbbbbbbbbbbbbbbbbbbbbbbbbbbbbbbbbbbbbbbbbbbbbbbbbbbbbbbbbbbbbbbbbbbbbbbbbbbbbbbbbbbbbbbbbbbbbbbbbbbbbbbbbbbbbbbbbbbbbbbbbbbbbbbbbbbbbbbbbbbbbbbbbbbbbbbbbbbbbbbbbbbbbbbbbbbbbbbbbbbbbbbbbbbbbbbbbbbbbbbbbbbbbbbbbbbbbbbbbbbbbbbbbbbbbbbbbbbbbbbbbbbbbbbbbbbbbbbbbbbbbbbbbbbbbbbbbbbbbbbbbbbbbbbbbbbbbbbbbbbbbbbbbbbbbbbbbbbbbbbbbbbbbbbbbbbbbbbbbbbbbbbbbbbbbbbbbbbbbbbbbbbbbbbbbbbbbbbbbbbbbbbbbbbbbbbbbbbbbbbbbbbbbbbbbbbbbbbbbbbbbbbbbbbbbbbbbbbbbbbbbbbbbbbbbbbbbbbbbbbbbbbbbbbbbbbbbbbbbbbbbbbbbbbbbbbbbbbbbbbbbbbbbbbbbbbbbbbbbbbbbbbbbbbbbbbbbbbbbbbbbbbbbbbbbbbbbbbbbbbbbbbbbbbbbbbbbbbbbbbbbbbbbbbbbbbbbbbbbbbbbbbbbbbbbbbbbbbbbbbbbbbbbbbbbbbbbbbbbbbbbbbbbbbbbbbbbbbbbbbbbbbbbbbbbbbbbbbbbbbbbbbbbbbbbbbbbbbbbbbbbbbbbbbbbbbbbbbbbbbbbbbbbbbbbbbbbbbbbbbbbbbbbbbbbbbbbbbbbbbbbbbbbbbbbbbbbbbbbbbbbbbb]: /u") ≡ leaf Paragraph (codes "[bbbbbbbbbbbbbbbbbbbbbbbbbbbbbbbbbbbbbbbbbbbbbbbbbbbbbbbbbbbbbbbbbbbbbbbbbbbbbbbbbbbbbbbbbbbbbbbbbbbbbbbbbbbbbbbbbbbbbbbbbbbbbbbbbbbbbbbbbbbbbbbbbbbbbbbbbbbbbbbbbbbbbbbbbbbbbbbbbbbbbbbbbbbbbbbbbbbbbbbbbbbbbbbbbbbbbbbbbbbbbbbbbbbbbbbbbbbbbbbbbbbbbbbbbbbbbbbbbbbbbbbbbbbbbbbbbbbbbbbbbbbbbbbbbbbbbbbbbbbbbbbbbbbbbbbbbbbbbbbbbbbbbbbbbbbbbbbbbbbbbbbbbbbbbbbbbbbbbbbbbbbbbbbbbbbbbbbbbbbbbbbbbbbbbbbbbbbbbbbbbbbbbbbbbbbbbbbbbbbbbbbbbbbbbbbbbbbbbbbbbbbbbbbbbbbbbbbbbbbbbbbbbbbbbbbbbbbbbbbbbbbbbbbbbbbbbbbbbbbbbbbbbbbbbbbbbbbbbbbbbbbbbbbbbbbbbbbbbbbbbbbbbbbbbbbbbbbbbbbbbbbbbbbbbbbbbbbbbbbbbbbbbbbbbbbbbbbbbbbbbbbbbbbbbbbbbbbbbbbbbbbbbbbbbbbbbbbbbbbbbbbbbbbbbbbbbbbbbbbbbbbbbbbbbbbbbbbbbbbbbbbbbbbbbbbbbbbbbbbbbbbbbbbbbbbbbbbbbbbbbbbbbbbbbbbbbbbbbbbbbbbbbbbbbbbbbbbbbbbbbbbbbbbbbbbbbbbbbbbbbbbbbbbbbbbbbbbbbbbbbbbbbbbbbbbbbbbbbbbbbbbbbbbbbbbbbbbbbbbbbbbbbbbbbbbbbbbbbbbbbbbbbbbbbbbbbbbbbbbbbbbbbbbbbbbbbbbbbbbbbbbbbbbbbbbbbbbbbbbbbbbbbbbbbbbbbbbbbbbbbbbbbbbbbbbbbbbbbbbbbbbbbbbbbbbbbbbbbbbbbbbbbbbbbbbbbbbbbbbbb]" ∷ []) ∷ leaf Paragraph (codes "[bbbbbbbbbbbbbbbbbbbbbbbbbbbbbbbbbbbbbbbbbbbbbbbbbbbbbbbbbbbbbbbbbbbbbbbbbbbbbbbbbbbbbbbbbbbbbbbbbbbbbbbbbbbbbbbbbbbbbbbbbbbbbbbbbbbbbbbbbbbbbbbbbbbbbbbbbbbbbbbbbbbbbbbbbbbbbbbbbbbbbbbbbbbbbbbbbbbbbbbbbbbbbbbbbbbbbbbbbbbbbbbbbbbbbbbbbbbbbbbbbbbbbbbbbbbbbbbbbbbbbbbbbbbbbbbbbbbbbbbbbbbbbbbbbbbbbbbbbbbbbbbbbbbbbbbbbbbbbbbbbbbbbbbbbbbbbbbbbbbbbbbbbbbbbbbbbbbbbbbbbbbbbbbbbbbbbbbbbbbbbbbbbbbbbbbbbbbbbbbbbbbbbbbbbbbbbbbbbbbbbbbbbbbbbbbbbbbbbbbbbbbbbbbbbbbbbbbbbbbbbbbbbbbbbbbbbbbbbbbbbbbbbbbbbbbbbbbbbbbbbbbbbbbbbbbbbbbbbbbbbbbbbbbbbbbbbbbbbbbbbbbbbbbbbbbbbbbbbbbbbbbbbbbbbbbbbbbbbbbbbbbbbbbbbbbbbbbbbbbbbbbbbbbbbbbbbbbbbbbbbbbbbbbbbbbbbbbbbbbbbbbbbbbbbbbbbbbbbbbbbbbbbbbbbbbbbbbbbbbbbbbbbbbbbbbbbbbbbbbbbbbbbbbbbbbbbbbbbbbbbbbbbbbbbbbbbbbbbbbbbbbbbbbbbbbbbbbbbbbbbbbbbbbbbbbbbbbbbbbbbbbbbbbbbbbbbbbbbbbbbbbbbbbbbbbbbbbbbbbbbbbbbbbbbbbbbbbbbbbbbbbbbbbbbbbbbbbbbbbbbbbbbbbbbbbbbbbbbbbbbbbbbbbbbbbbbbbbbbbbbbbbbbbbbbbbbbbbbbbbbbbbbbbbbbbbbbbbbbbbbbbbbbbbbbbbbbbbbbbbbbbbbbbbbbbbbbbbbbbbbbbbbbbbbbbbbbbbbbbbb]: /u" ∷ []) ∷ []
unfolding reading
e425 = refl

pub blocks17 : AreBlocks17
blocks17 = record { e401 = e401; e402 = e402; e403 = e403; e404 = e404; e405 = e405; e406 = e406; e407 = e407; e408 = e408; e409 = e409; e410 = e410; e411 = e411; e412 = e412; e413 = e413; e414 = e414; e415 = e415; e416 = e416; e417 = e417; e418 = e418; e419 = e419; e420 = e420; e421 = e421; e422 = e422; e423 = e423; e424 = e424; e425 = e425 }
