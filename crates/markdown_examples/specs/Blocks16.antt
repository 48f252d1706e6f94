-- Examples 376 to 400: what one sees of their blocks.
use Rattle.std.specs.Prelude.{◌≡◌, [], ◌∷◌, codes}
use Rattle.markdown_blocks.specs.declared.containers.Container.TheVariants.{Quote, Item}
use Rattle.markdown_leaves.specs.declared.parts.Kind.TheVariants.{Paragraph, Fenced, Table}
use Rattle.markdown_examples.specs.Seen.{opens, closes, leaf, seen}

pub record AreBlocks16 : Type 0 where
  pub e376 : seen (codes "~|-|\n-|-\n:-:| a | b |\n-  *") ≡ leaf (Table 2) (codes "~|-|" ∷ codes "-|-" ∷ codes ":-:| a | b |" ∷ []) ∷ opens (Item 45 0 3) ∷ opens (Item 42 0 2) ∷ closes ∷ closes ∷ []
  pub e377 : seen (codes "\n\n||-|-|\n|:-|-:|\n|-|-|\n**`~") ≡ leaf Paragraph (codes "||-|-|" ∷ []) ∷ leaf (Table 2) (codes "|:-|-:|" ∷ codes "|-|-|" ∷ codes "**`~" ∷ []) ∷ []
  pub e378 : seen (codes "\n-|-\n-|-\n|-|\n> |-|x | y\n~~~") ≡ leaf (Table 2) (codes "-|-" ∷ codes "-|-" ∷ codes "|-|" ∷ []) ∷ opens Quote ∷ leaf Paragraph (codes "|-|x | y" ∷ []) ∷ closes ∷ leaf Fenced ([] ∷ []) ∷ []
  pub e379 : seen (codes "a| a | b |\n|-|-|\n-|-\n\n|-|- ") ≡ leaf Paragraph (codes "a| a | b |" ∷ []) ∷ leaf (Table 2) (codes "|-|-|" ∷ codes "-|-" ∷ []) ∷ leaf Paragraph (codes "|-|- " ∷ []) ∷ []
  pub e380 : seen (codes "| a | b |\n-|-\n\n**\n\n-|-\n~~`|") ≡ leaf (Table 2) (codes "| a | b |" ∷ codes "-|-" ∷ []) ∷ leaf Paragraph (codes "**" ∷ []) ∷ leaf Paragraph (codes "-|-" ∷ codes "~~`|" ∷ []) ∷ []
  pub e381 : seen (codes "| a | b |\n|-|-|\n\n- |:-|-:|\n") ≡ leaf (Table 2) (codes "| a | b |" ∷ codes "|-|-|" ∷ []) ∷ opens (Item 45 0 2) ∷ leaf Paragraph (codes "|:-|-:|" ∷ []) ∷ closes ∷ []
  pub e382 : seen (codes "| a | b |\n|:-|-:|\n~~\n~~~~**") ≡ leaf (Table 2) (codes "| a | b |" ∷ codes "|:-|-:|" ∷ codes "~~" ∷ []) ∷ leaf Fenced (codes "**" ∷ []) ∷ []
  pub e383 : seen (codes "|-|-|\n- ~~:-:|:-|-:|\n|-|~~\n") ≡ leaf Paragraph (codes "|-|-|" ∷ []) ∷ opens (Item 45 0 2) ∷ leaf Paragraph (codes "~~:-:|:-|-:|" ∷ codes "|-|~~" ∷ []) ∷ closes ∷ []
  pub e384 : seen (codes "|:-|-:|\n|-|-|\n|-|-|\n\n> |a> ") ≡ leaf (Table 2) (codes "|:-|-:|" ∷ codes "|-|-|" ∷ codes "|-|-|" ∷ []) ∷ opens Quote ∷ leaf Paragraph (codes "|a> " ∷ []) ∷ closes ∷ []
  pub e385 : seen (codes "> bx | y\n\n\n|-|-|\n|:-|-:|\n|\\|") ≡ opens Quote ∷ leaf Paragraph (codes "bx | y" ∷ []) ∷ closes ∷ leaf (Table 2) (codes "|-|-|" ∷ codes "|:-|-:|" ∷ codes "|\\|" ∷ []) ∷ []
  pub e386 : seen (codes "\\|\n\n| a | b |\n|-|:-:|\nx | y\n") ≡ leaf Paragraph (codes "\\|" ∷ []) ∷ leaf (Table 2) (codes "| a | b |" ∷ codes "|-|:-:|" ∷ codes "x | y" ∷ []) ∷ []
  pub e387 : seen (codes "|:-|-:|\n> |\n\n\nx | y\n-|-\n*~~~") ≡ leaf Paragraph (codes "|:-|-:|" ∷ []) ∷ opens Quote ∷ leaf Paragraph (codes "|" ∷ []) ∷ closes ∷ leaf (Table 2) (codes "x | y" ∷ codes "-|-" ∷ codes "*~~~" ∷ []) ∷ []
  pub e388 : seen (codes " :-:|-|-|\nx | y\n|:-|-:|\na**\nb") ≡ leaf Paragraph (codes ":-:|-|-|" ∷ []) ∷ leaf (Table 2) (codes "x | y" ∷ codes "|:-|-:|" ∷ codes "a**" ∷ codes "b" ∷ []) ∷ []
  pub e389 : seen (codes "*|-|-|\n*x | y\n|x | y\n|:-|-:|\n") ≡ leaf Paragraph (codes "*|-|-|" ∷ codes "*x | y" ∷ []) ∷ leaf (Table 2) (codes "|x | y" ∷ codes "|:-|-:|" ∷ []) ∷ []
  pub e390 : seen (codes "b\n| a | b |\n|-|-|\n~~~|:-|-:|\n") ≡ leaf Paragraph (codes "b" ∷ []) ∷ leaf (Table 2) (codes "| a | b |" ∷ codes "|-|-|" ∷ []) ∷ leaf Fenced (codes "|:-|-:|" ∷ []) ∷ []
  pub e391 : seen (codes "|:-|-:|\n-|-\n> \nx | y\n|:-|-:|\n") ≡ leaf (Table 2) (codes "|:-|-:|" ∷ codes "-|-" ∷ []) ∷ opens Quote ∷ closes ∷ leaf (Table 2) (codes "x | y" ∷ codes "|:-|-:|" ∷ []) ∷ []
  pub e392 : seen (codes "| a | b |\n|-|- |:-|-:|\n\n\n`\n|-|") ≡ leaf Paragraph (codes "| a | b |" ∷ codes "|-|- |:-|-:|" ∷ []) ∷ leaf (Table 1) (codes "`" ∷ codes "|-|" ∷ []) ∷ []
  pub e393 : seen (codes "`x | y\n|-|-|\n x | y\nb |:-|-:|\n\n") ≡ leaf (Table 2) (codes "`x | y" ∷ codes "|-|-|" ∷ codes "x | y" ∷ codes "b |:-|-:|" ∷ []) ∷ []
  pub e394 : seen (codes "x | y\n|:-|-:|\n~~~|-|-|\n\n> x | y\n") ≡ leaf (Table 2) (codes "x | y" ∷ codes "|:-|-:|" ∷ []) ∷ leaf Fenced (codes "|-|-|" ∷ [] ∷ codes "> x | y" ∷ []) ∷ []
  pub e395 : seen (codes "|:-|-:|\n|-|-\n|-|-|\n|:-|-:|\n\n~~**|") ≡ leaf (Table 2) (codes "|:-|-:|" ∷ codes "|-|-" ∷ codes "|-|-|" ∷ codes "|:-|-:|" ∷ []) ∷ leaf Paragraph (codes "~~**|" ∷ []) ∷ []
  pub e396 : seen (codes "**\nx | y\n|:-|-:|\nx | y\n|:-|-:|\n- \n") ≡ leaf Paragraph (codes "**" ∷ []) ∷ leaf (Table 2) (codes "x | y" ∷ codes "|:-|-:|" ∷ codes "x | y" ∷ codes "|:-|-:|" ∷ []) ∷ opens (Item 45 0 2) ∷ closes ∷ []
  pub e397 : seen (codes "x | y\n|:-|-:|\n|:-|-:|\n\n\n| a | b |\n") ≡ leaf (Table 2) (codes "x | y" ∷ codes "|:-|-:|" ∷ codes "|:-|-:|" ∷ []) ∷ leaf Paragraph (codes "| a | b |" ∷ []) ∷ []
  pub e398 : seen (codes "~~|-|-|\n| a | b |\n|-|-|\n**x | y\n\\|") ≡ leaf Paragraph (codes "~~|-|-|" ∷ []) ∷ leaf (Table 2) (codes "| a | b |" ∷ codes "|-|-|" ∷ codes "**x | y" ∷ codes "\\|" ∷ []) ∷ []
  pub e399 : seen (codes "\n\n|-|-|\n|:-|-:|\n\\|-|-\n~*|:-|-:|\n:-:") ≡ leaf (Table 2) (codes "|-|-|" ∷ codes "|:-|-:|" ∷ codes "\\|-|-" ∷ codes "~*|:-|-:|" ∷ codes ":-:" ∷ []) ∷ []
  pub e400 : seen (codes "x | y\n-|-\n~~x | y\n-|-\n- b| a | b |\n") ≡ leaf (Table 2) (codes "x | y" ∷ codes "-|-" ∷ codes "~~x | y" ∷ codes "-|-" ∷ []) ∷ opens (Item 45 0 2) ∷ leaf Paragraph (codes "b| a | b |" ∷ []) ∷ closes ∷ []
