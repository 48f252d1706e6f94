-- Examples 351 to 375: what one sees of their blocks.
use Rattle.std.specs.Prelude.{◌≡◌, [], ◌∷◌, codes}
use Rattle.markdown_blocks.specs.declared.containers.Container.TheVariants.{Quote, Item}
use Rattle.markdown_leaves.specs.declared.parts.Kind.TheVariants.{Paragraph, Fenced, Table}
use Rattle.markdown_examples.specs.Seen.{opens, closes, leaf, seen}

pub record AreBlocks15 : Type 0 where
  pub e351 : seen (codes ":-:|-|-|\n|-|-|-\nb**`") ≡ leaf (Table 3) (codes ":-:|-|-|" ∷ codes "|-|-|-" ∷ codes "b**`" ∷ []) ∷ []
  pub e352 : seen (codes "| a | b |\n|:-|-:|\n*\n") ≡ leaf (Table 2) (codes "| a | b |" ∷ codes "|:-|-:|" ∷ []) ∷ opens (Item 42 0 2) ∷ closes ∷ []
  pub e353 : seen (codes "|-|-|\n|:-|-:|\n`:-:\\|") ≡ leaf (Table 2) (codes "|-|-|" ∷ codes "|:-|-:|" ∷ codes "`:-:\\|" ∷ []) ∷ []
  pub e354 : seen (codes "|:-|-:|\n-|-\n~~|\n\n-  ") ≡ leaf (Table 2) (codes "|:-|-:|" ∷ codes "-|-" ∷ codes "~~|" ∷ []) ∷ opens (Item 45 0 2) ∷ closes ∷ []
  pub e355 : seen (codes "|:-|-:|\n|:-|-:|\n`*\n~") ≡ leaf (Table 2) (codes "|:-|-:|" ∷ codes "|:-|-:|" ∷ codes "`*" ∷ codes "~" ∷ []) ∷ []
  pub e356 : seen (codes "-|-\n|:-|-:|\n||-|-|\n- ") ≡ leaf (Table 2) (codes "-|-" ∷ codes "|:-|-:|" ∷ codes "||-|-|" ∷ []) ∷ opens (Item 45 0 2) ∷ closes ∷ []
  pub e357 : seen (codes "||:-|-:|\n|-|-|\n|-|-|\n") ≡ leaf Paragraph (codes "||:-|-:|" ∷ []) ∷ leaf (Table 2) (codes "|-|-|" ∷ codes "|-|-|" ∷ []) ∷ []
  pub e358 : seen (codes "~~\n\n\nb\nx | y\n|:-|-:|\n") ≡ leaf Paragraph (codes "~~" ∷ []) ∷ leaf Paragraph (codes "b" ∷ []) ∷ leaf (Table 2) (codes "x | y" ∷ codes "|:-|-:|" ∷ []) ∷ []
  pub e359 : seen (codes "\nx | y\n|-|-\n~~~a\n\n-|-\n") ≡ leaf (Table 2) (codes "x | y" ∷ codes "|-|-" ∷ []) ∷ leaf Fenced (codes "a" ∷ [] ∷ codes "-|-" ∷ []) ∷ []
  pub e360 : seen (codes "`|:-|-:|\n:-:|-|-|\n|-|b") ≡ leaf (Table 3) (codes "`|:-|-:|" ∷ codes ":-:|-|-|" ∷ codes "|-|b" ∷ []) ∷ []
  pub e361 : seen (codes "| a | b |\n |-|-|\n\n\\|a\n") ≡ leaf (Table 2) (codes "| a | b |" ∷ codes "|-|-|" ∷ []) ∷ leaf Paragraph (codes "\\|a" ∷ []) ∷ []
  pub e362 : seen (codes "| a | b |\n> ~b~> \n\n:-:") ≡ leaf Paragraph (codes "| a | b |" ∷ []) ∷ opens Quote ∷ leaf Paragraph (codes "~b~> " ∷ []) ∷ closes ∷ leaf Paragraph (codes ":-:" ∷ []) ∷ []
  pub e363 : seen (codes "|-||-|\n\n|-|-|\n|-|-|\n> ") ≡ leaf Paragraph (codes "|-||-|" ∷ []) ∷ leaf (Table 2) (codes "|-|-|" ∷ codes "|-|-|" ∷ []) ∷ opens Quote ∷ closes ∷ []
  pub e364 : seen (codes "|:-|-:|\n|-|-|\n\n\n\n\n- > ") ≡ leaf (Table 2) (codes "|:-|-:|" ∷ codes "|-|-|" ∷ []) ∷ opens (Item 45 0 2) ∷ opens Quote ∷ closes ∷ closes ∷ []
  pub e365 : seen (codes ":-:x | y\n|:-|-:|\n\n\n||\\|") ≡ leaf (Table 2) (codes ":-:x | y" ∷ codes "|:-|-:|" ∷ []) ∷ leaf Paragraph (codes "||\\|" ∷ []) ∷ []
  pub e366 : seen (codes "\\|| a | b |\n\n-|-\n:-:|-|") ≡ leaf Paragraph (codes "\\|| a | b |" ∷ []) ∷ leaf (Table 2) (codes "-|-" ∷ codes ":-:|-|" ∷ []) ∷ []
  pub e367 : seen (codes "| a | b |\n|-|-|\n~~~-|-\n") ≡ leaf (Table 2) (codes "| a | b |" ∷ codes "|-|-|" ∷ []) ∷ leaf Fenced (codes "-|-" ∷ []) ∷ []
  pub e368 : seen (codes "\n\n|-|-|\n |:-|-:|\n\n\n\n> b ") ≡ leaf (Table 2) (codes "|-|-|" ∷ codes "|:-|-:|" ∷ []) ∷ opens Quote ∷ leaf Paragraph (codes "b " ∷ []) ∷ closes ∷ []
  pub e369 : seen (codes "\n| a | b |\n|:-|-:|\n- \nbb") ≡ leaf (Table 2) (codes "| a | b |" ∷ codes "|:-|-:|" ∷ []) ∷ opens (Item 45 0 2) ∷ closes ∷ leaf Paragraph (codes "bb" ∷ []) ∷ []
  pub e370 : seen (codes "**|-|-|\n:-:|:-|-:|\n b:-:") ≡ leaf (Table 3) (codes "**|-|-|" ∷ codes ":-:|:-|-:|" ∷ codes "b:-:" ∷ []) ∷ []
  pub e371 : seen (codes "`-|-\n|-|-|\n|-|-|\n\n\n~~~- ") ≡ leaf (Table 2) (codes "`-|-" ∷ codes "|-|-|" ∷ codes "|-|-|" ∷ []) ∷ leaf Fenced (codes "-" ∷ []) ∷ []
  pub e372 : seen (codes "| a | b |\n|:-|-:|\n> \n- `") ≡ leaf (Table 2) (codes "| a | b |" ∷ codes "|:-|-:|" ∷ []) ∷ opens Quote ∷ closes ∷ opens (Item 45 0 2) ∷ leaf Paragraph (codes "`" ∷ []) ∷ closes ∷ []
  pub e373 : seen (codes "~**x | y\n|*\n|:-|-:|\n-|-\n") ≡ leaf Paragraph (codes "~**x | y" ∷ codes "|*" ∷ []) ∷ leaf (Table 2) (codes "|:-|-:|" ∷ codes "-|-" ∷ []) ∷ []
  pub e374 : seen (codes "|-|-|\n|-|-|\n\n\n`-|-\n*~~~**") ≡ leaf (Table 2) (codes "|-|-|" ∷ codes "|-|-|" ∷ []) ∷ leaf Paragraph (codes "`-|-" ∷ codes "*~~~**" ∷ []) ∷ []
  pub e375 : seen (codes "*\\|\n|-|-|\n|:-|-:|\n|:-|-:|\n") ≡ leaf Paragraph (codes "*\\|" ∷ []) ∷ leaf (Table 2) (codes "|-|-|" ∷ codes "|:-|-:|" ∷ codes "|:-|-:|" ∷ []) ∷ []
