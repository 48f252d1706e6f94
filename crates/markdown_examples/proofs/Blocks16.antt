-- Examples 376 to 400, computed.
use Rattle.std.proofs.Common.{◌≡◌, [], ◌∷◌, codes, refl}
use Rattle.markdown_blocks.specs.declared.containers.Container.TheVariants.{Quote, Item}
use Rattle.markdown_leaves.specs.declared.parts.Kind.TheVariants.{Paragraph, Fenced, Table}
use Rattle.markdown_examples.specs.Seen.{opens, closes, leaf, seen}
use Rattle.markdown_examples.specs.Blocks16.{AreBlocks16}
use Rattle.markdown_as_html.proofs.Computing.{reading}

e376 : seen (codes "~|-|\n-|-\n:-:| a | b |\n-  *") ≡ leaf (Table 2) (codes "~|-|" ∷ codes "-|-" ∷ codes ":-:| a | b |" ∷ []) ∷ opens (Item 45 0 3) ∷ opens (Item 42 0 2) ∷ closes ∷ closes ∷ []
unfolding reading
e376 = refl

e377 : seen (codes "\n\n||-|-|\n|:-|-:|\n|-|-|\n**`~") ≡ leaf Paragraph (codes "||-|-|" ∷ []) ∷ leaf (Table 2) (codes "|:-|-:|" ∷ codes "|-|-|" ∷ codes "**`~" ∷ []) ∷ []
unfolding reading
e377 = refl

e378 : seen (codes "\n-|-\n-|-\n|-|\n> |-|x | y\n~~~") ≡ leaf (Table 2) (codes "-|-" ∷ codes "-|-" ∷ codes "|-|" ∷ []) ∷ opens Quote ∷ leaf Paragraph (codes "|-|x | y" ∷ []) ∷ closes ∷ leaf Fenced ([] ∷ []) ∷ []
unfolding reading
e378 = refl

e379 : seen (codes "a| a | b |\n|-|-|\n-|-\n\n|-|- ") ≡ leaf Paragraph (codes "a| a | b |" ∷ []) ∷ leaf (Table 2) (codes "|-|-|" ∷ codes "-|-" ∷ []) ∷ leaf Paragraph (codes "|-|- " ∷ []) ∷ []
unfolding reading
e379 = refl

e380 : seen (codes "| a | b |\n-|-\n\n**\n\n-|-\n~~`|") ≡ leaf (Table 2) (codes "| a | b |" ∷ codes "-|-" ∷ []) ∷ leaf Paragraph (codes "**" ∷ []) ∷ leaf Paragraph (codes "-|-" ∷ codes "~~`|" ∷ []) ∷ []
unfolding reading
e380 = refl

e381 : seen (codes "| a | b |\n|-|-|\n\n- |:-|-:|\n") ≡ leaf (Table 2) (codes "| a | b |" ∷ codes "|-|-|" ∷ []) ∷ opens (Item 45 0 2) ∷ leaf Paragraph (codes "|:-|-:|" ∷ []) ∷ closes ∷ []
unfolding reading
e381 = refl

e382 : seen (codes "| a | b |\n|:-|-:|\n~~\n~~~~**") ≡ leaf (Table 2) (codes "| a | b |" ∷ codes "|:-|-:|" ∷ codes "~~" ∷ []) ∷ leaf Fenced (codes "**" ∷ []) ∷ []
unfolding reading
e382 = refl

e383 : seen (codes "|-|-|\n- ~~:-:|:-|-:|\n|-|~~\n") ≡ leaf Paragraph (codes "|-|-|" ∷ []) ∷ opens (Item 45 0 2) ∷ leaf Paragraph (codes "~~:-:|:-|-:|" ∷ codes "|-|~~" ∷ []) ∷ closes ∷ []
unfolding reading
e383 = refl

e384 : seen (codes "|:-|-:|\n|-|-|\n|-|-|\n\n> |a> ") ≡ leaf (Table 2) (codes "|:-|-:|" ∷ codes "|-|-|" ∷ codes "|-|-|" ∷ []) ∷ opens Quote ∷ leaf Paragraph (codes "|a> " ∷ []) ∷ closes ∷ []
unfolding reading
e384 = refl

e385 : seen (codes "> bx | y\n\n\n|-|-|\n|:-|-:|\n|\\|") ≡ opens Quote ∷ leaf Paragraph (codes "bx | y" ∷ []) ∷ closes ∷ leaf (Table 2) (codes "|-|-|" ∷ codes "|:-|-:|" ∷ codes "|\\|" ∷ []) ∷ []
unfolding reading
e385 = refl

e386 : seen (codes "\\|\n\n| a | b |\n|-|:-:|\nx | y\n") ≡ leaf Paragraph (codes "\\|" ∷ []) ∷ leaf (Table 2) (codes "| a | b |" ∷ codes "|-|:-:|" ∷ codes "x | y" ∷ []) ∷ []
unfolding reading
e386 = refl

e387 : seen (codes "|:-|-:|\n> |\n\n\nx | y\n-|-\n*~~~") ≡ leaf Paragraph (codes "|:-|-:|" ∷ []) ∷ opens Quote ∷ leaf Paragraph (codes "|" ∷ []) ∷ closes ∷ leaf (Table 2) (codes "x | y" ∷ codes "-|-" ∷ codes "*~~~" ∷ []) ∷ []
unfolding reading
e387 = refl

e388 : seen (codes " :-:|-|-|\nx | y\n|:-|-:|\na**\nb") ≡ leaf Paragraph (codes ":-:|-|-|" ∷ []) ∷ leaf (Table 2) (codes "x | y" ∷ codes "|:-|-:|" ∷ codes "a**" ∷ codes "b" ∷ []) ∷ []
unfolding reading
e388 = refl

e389 : seen (codes "*|-|-|\n*x | y\n|x | y\n|:-|-:|\n") ≡ leaf Paragraph (codes "*|-|-|" ∷ codes "*x | y" ∷ []) ∷ leaf (Table 2) (codes "|x | y" ∷ codes "|:-|-:|" ∷ []) ∷ []
unfolding reading
e389 = refl

e390 : seen (codes "b\n| a | b |\n|-|-|\n~~~|:-|-:|\n") ≡ leaf Paragraph (codes "b" ∷ []) ∷ leaf (Table 2) (codes "| a | b |" ∷ codes "|-|-|" ∷ []) ∷ leaf Fenced (codes "|:-|-:|" ∷ []) ∷ []
unfolding reading
e390 = refl

e391 : seen (codes "|:-|-:|\n-|-\n> \nx | y\n|:-|-:|\n") ≡ leaf (Table 2) (codes "|:-|-:|" ∷ codes "-|-" ∷ []) ∷ opens Quote ∷ closes ∷ leaf (Table 2) (codes "x | y" ∷ codes "|:-|-:|" ∷ []) ∷ []
unfolding reading
e391 = refl

e392 : seen (codes "| a | b |\n|-|- |:-|-:|\n\n\n`\n|-|") ≡ leaf Paragraph (codes "| a | b |" ∷ codes "|-|- |:-|-:|" ∷ []) ∷ leaf (Table 1) (codes "`" ∷ codes "|-|" ∷ []) ∷ []
unfolding reading
e392 = refl

e393 : seen (codes "`x | y\n|-|-|\n x | y\nb |:-|-:|\n\n") ≡ leaf (Table 2) (codes "`x | y" ∷ codes "|-|-|" ∷ codes "x | y" ∷ codes "b |:-|-:|" ∷ []) ∷ []
unfolding reading
e393 = refl

e394 : seen (codes "x | y\n|:-|-:|\n~~~|-|-|\n\n> x | y\n") ≡ leaf (Table 2) (codes "x | y" ∷ codes "|:-|-:|" ∷ []) ∷ leaf Fenced (codes "|-|-|" ∷ [] ∷ codes "> x | y" ∷ []) ∷ []
unfolding reading
e394 = refl

e395 : seen (codes "|:-|-:|\n|-|-\n|-|-|\n|:-|-:|\n\n~~**|") ≡ leaf (Table 2) (codes "|:-|-:|" ∷ codes "|-|-" ∷ codes "|-|-|" ∷ codes "|:-|-:|" ∷ []) ∷ leaf Paragraph (codes "~~**|" ∷ []) ∷ []
unfolding reading
e395 = refl

e396 : seen (codes "**\nx | y\n|:-|-:|\nx | y\n|:-|-:|\n- \n") ≡ leaf Paragraph (codes "**" ∷ []) ∷ leaf (Table 2) (codes "x | y" ∷ codes "|:-|-:|" ∷ codes "x | y" ∷ codes "|:-|-:|" ∷ []) ∷ opens (Item 45 0 2) ∷ closes ∷ []
unfolding reading
e396 = refl

e397 : seen (codes "x | y\n|:-|-:|\n|:-|-:|\n\n\n| a | b |\n") ≡ leaf (Table 2) (codes "x | y" ∷ codes "|:-|-:|" ∷ codes "|:-|-:|" ∷ []) ∷ leaf Paragraph (codes "| a | b |" ∷ []) ∷ []
unfolding reading
e397 = refl

e398 : seen (codes "~~|-|-|\n| a | b |\n|-|-|\n**x | y\n\\|") ≡ leaf Paragraph (codes "~~|-|-|" ∷ []) ∷ leaf (Table 2) (codes "| a | b |" ∷ codes "|-|-|" ∷ codes "**x | y" ∷ codes "\\|" ∷ []) ∷ []
unfolding reading
e398 = refl

e399 : seen (codes "\n\n|-|-|\n|:-|-:|\n\\|-|-\n~*|:-|-:|\n:-:") ≡ leaf (Table 2) (codes "|-|-|" ∷ codes "|:-|-:|" ∷ codes "\\|-|-" ∷ codes "~*|:-|-:|" ∷ codes ":-:" ∷ []) ∷ []
unfolding reading
e399 = refl

e400 : seen (codes "x | y\n-|-\n~~x | y\n-|-\n- b| a | b |\n") ≡ leaf (Table 2) (codes "x | y" ∷ codes "-|-" ∷ codes "~~x | y" ∷ codes "-|-" ∷ []) ∷ opens (Item 45 0 2) ∷ leaf Paragraph (codes "b| a | b |" ∷ []) ∷ closes ∷ []
unfolding reading
e400 = refl

pub blocks16 : AreBlocks16
blocks16 = record { e376 = e376; e377 = e377; e378 = e378; e379 = e379; e380 = e380; e381 = e381; e382 = e382; e383 = e383; e384 = e384; e385 = e385; e386 = e386; e387 = e387; e388 = e388; e389 = e389; e390 = e390; e391 = e391; e392 = e392; e393 = e393; e394 = e394; e395 = e395; e396 = e396; e397 = e397; e398 = e398; e399 = e399; e400 = e400 }
