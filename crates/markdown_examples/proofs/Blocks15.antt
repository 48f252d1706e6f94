-- Examples 351 to 375, computed.
use Rattle.std.proofs.Common.{◌≡◌, [], ◌∷◌, codes, refl}
use Rattle.markdown_blocks.specs.declared.containers.Container.TheVariants.{Quote, Item}
use Rattle.markdown_leaves.specs.declared.parts.Kind.TheVariants.{Paragraph, Fenced, Table}
use Rattle.markdown_examples.specs.Seen.{opens, closes, leaf, seen}
use Rattle.markdown_examples.specs.Blocks15.{AreBlocks15}
use Rattle.markdown_as_html.proofs.Computing.{reading}

e351 : seen (codes ":-:|-|-|\n|-|-|-\nb**`") ≡ leaf (Table 3) (codes ":-:|-|-|" ∷ codes "|-|-|-" ∷ codes "b**`" ∷ []) ∷ []
unfolding reading
e351 = refl

e352 : seen (codes "| a | b |\n|:-|-:|\n*\n") ≡ leaf (Table 2) (codes "| a | b |" ∷ codes "|:-|-:|" ∷ []) ∷ opens (Item 42 0 2) ∷ closes ∷ []
unfolding reading
e352 = refl

e353 : seen (codes "|-|-|\n|:-|-:|\n`:-:\\|") ≡ leaf (Table 2) (codes "|-|-|" ∷ codes "|:-|-:|" ∷ codes "`:-:\\|" ∷ []) ∷ []
unfolding reading
e353 = refl

e354 : seen (codes "|:-|-:|\n-|-\n~~|\n\n-  ") ≡ leaf (Table 2) (codes "|:-|-:|" ∷ codes "-|-" ∷ codes "~~|" ∷ []) ∷ opens (Item 45 0 2) ∷ closes ∷ []
unfolding reading
e354 = refl

e355 : seen (codes "|:-|-:|\n|:-|-:|\n`*\n~") ≡ leaf (Table 2) (codes "|:-|-:|" ∷ codes "|:-|-:|" ∷ codes "`*" ∷ codes "~" ∷ []) ∷ []
unfolding reading
e355 = refl

e356 : seen (codes "-|-\n|:-|-:|\n||-|-|\n- ") ≡ leaf (Table 2) (codes "-|-" ∷ codes "|:-|-:|" ∷ codes "||-|-|" ∷ []) ∷ opens (Item 45 0 2) ∷ closes ∷ []
unfolding reading
e356 = refl

e357 : seen (codes "||:-|-:|\n|-|-|\n|-|-|\n") ≡ leaf Paragraph (codes "||:-|-:|" ∷ []) ∷ leaf (Table 2) (codes "|-|-|" ∷ codes "|-|-|" ∷ []) ∷ []
unfolding reading
e357 = refl

e358 : seen (codes "~~\n\n\nb\nx | y\n|:-|-:|\n") ≡ leaf Paragraph (codes "~~" ∷ []) ∷ leaf Paragraph (codes "b" ∷ []) ∷ leaf (Table 2) (codes "x | y" ∷ codes "|:-|-:|" ∷ []) ∷ []
unfolding reading
e358 = refl

e359 : seen (codes "\nx | y\n|-|-\n~~~a\n\n-|-\n") ≡ leaf (Table 2) (codes "x | y" ∷ codes "|-|-" ∷ []) ∷ leaf Fenced (codes "a" ∷ [] ∷ codes "-|-" ∷ []) ∷ []
unfolding reading
e359 = refl

e360 : seen (codes "`|:-|-:|\n:-:|-|-|\n|-|b") ≡ leaf (Table 3) (codes "`|:-|-:|" ∷ codes ":-:|-|-|" ∷ codes "|-|b" ∷ []) ∷ []
unfolding reading
e360 = refl

e361 : seen (codes "| a | b |\n |-|-|\n\n\\|a\n") ≡ leaf (Table 2) (codes "| a | b |" ∷ codes "|-|-|" ∷ []) ∷ leaf Paragraph (codes "\\|a" ∷ []) ∷ []
unfolding reading
e361 = refl

e362 : seen (codes "| a | b |\n> ~b~> \n\n:-:") ≡ leaf Paragraph (codes "| a | b |" ∷ []) ∷ opens Quote ∷ leaf Paragraph (codes "~b~> " ∷ []) ∷ closes ∷ leaf Paragraph (codes ":-:" ∷ []) ∷ []
unfolding reading
e362 = refl

e363 : seen (codes "|-||-|\n\n|-|-|\n|-|-|\n> ") ≡ leaf Paragraph (codes "|-||-|" ∷ []) ∷ leaf (Table 2) (codes "|-|-|" ∷ codes "|-|-|" ∷ []) ∷ opens Quote ∷ closes ∷ []
unfolding reading
e363 = refl

e364 : seen (codes "|:-|-:|\n|-|-|\n\n\n\n\n- > ") ≡ leaf (Table 2) (codes "|:-|-:|" ∷ codes "|-|-|" ∷ []) ∷ opens (Item 45 0 2) ∷ opens Quote ∷ closes ∷ closes ∷ []
unfolding reading
e364 = refl

e365 : seen (codes ":-:x | y\n|:-|-:|\n\n\n||\\|") ≡ leaf (Table 2) (codes ":-:x | y" ∷ codes "|:-|-:|" ∷ []) ∷ leaf Paragraph (codes "||\\|" ∷ []) ∷ []
unfolding reading
e365 = refl

e366 : seen (codes "\\|| a | b |\n\n-|-\n:-:|-|") ≡ leaf Paragraph (codes "\\|| a | b |" ∷ []) ∷ leaf (Table 2) (codes "-|-" ∷ codes ":-:|-|" ∷ []) ∷ []
unfolding reading
e366 = refl

e367 : seen (codes "| a | b |\n|-|-|\n~~~-|-\n") ≡ leaf (Table 2) (codes "| a | b |" ∷ codes "|-|-|" ∷ []) ∷ leaf Fenced (codes "-|-" ∷ []) ∷ []
unfolding reading
e367 = refl

e368 : seen (codes "\n\n|-|-|\n |:-|-:|\n\n\n\n> b ") ≡ leaf (Table 2) (codes "|-|-|" ∷ codes "|:-|-:|" ∷ []) ∷ opens Quote ∷ leaf Paragraph (codes "b " ∷ []) ∷ closes ∷ []
unfolding reading
e368 = refl

e369 : seen (codes "\n| a | b |\n|:-|-:|\n- \nbb") ≡ leaf (Table 2) (codes "| a | b |" ∷ codes "|:-|-:|" ∷ []) ∷ opens (Item 45 0 2) ∷ closes ∷ leaf Paragraph (codes "bb" ∷ []) ∷ []
unfolding reading
e369 = refl

e370 : seen (codes "**|-|-|\n:-:|:-|-:|\n b:-:") ≡ leaf (Table 3) (codes "**|-|-|" ∷ codes ":-:|:-|-:|" ∷ codes "b:-:" ∷ []) ∷ []
unfolding reading
e370 = refl

e371 : seen (codes "`-|-\n|-|-|\n|-|-|\n\n\n~~~- ") ≡ leaf (Table 2) (codes "`-|-" ∷ codes "|-|-|" ∷ codes "|-|-|" ∷ []) ∷ leaf Fenced (codes "-" ∷ []) ∷ []
unfolding reading
e371 = refl

e372 : seen (codes "| a | b |\n|:-|-:|\n> \n- `") ≡ leaf (Table 2) (codes "| a | b |" ∷ codes "|:-|-:|" ∷ []) ∷ opens Quote ∷ closes ∷ opens (Item 45 0 2) ∷ leaf Paragraph (codes "`" ∷ []) ∷ closes ∷ []
unfolding reading
e372 = refl

e373 : seen (codes "~**x | y\n|*\n|:-|-:|\n-|-\n") ≡ leaf Paragraph (codes "~**x | y" ∷ codes "|*" ∷ []) ∷ leaf (Table 2) (codes "|:-|-:|" ∷ codes "-|-" ∷ []) ∷ []
unfolding reading
e373 = refl

e374 : seen (codes "|-|-|\n|-|-|\n\n\n`-|-\n*~~~**") ≡ leaf (Table 2) (codes "|-|-|" ∷ codes "|-|-|" ∷ []) ∷ leaf Paragraph (codes "`-|-" ∷ codes "*~~~**" ∷ []) ∷ []
unfolding reading
e374 = refl

e375 : seen (codes "*\\|\n|-|-|\n|:-|-:|\n|:-|-:|\n") ≡ leaf Paragraph (codes "*\\|" ∷ []) ∷ leaf (Table 2) (codes "|-|-|" ∷ codes "|:-|-:|" ∷ codes "|:-|-:|" ∷ []) ∷ []
unfolding reading
e375 = refl

pub blocks15 : AreBlocks15
blocks15 = record { e351 = e351; e352 = e352; e353 = e353; e354 = e354; e355 = e355; e356 = e356; e357 = e357; e358 = e358; e359 = e359; e360 = e360; e361 = e361; e362 = e362; e363 = e363; e364 = e364; e365 = e365; e366 = e366; e367 = e367; e368 = e368; e369 = e369; e370 = e370; e371 = e371; e372 = e372; e373 = e373; e374 = e374; e375 = e375 }
