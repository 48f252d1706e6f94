-- Examples 326 to 350: what one sees of their blocks.
use Rattle.std.specs.Prelude.{◌≡◌, [], ◌∷◌, codes}
use Rattle.markdown_blocks.specs.declared.containers.Container.TheVariants.{Quote, Item}
use Rattle.markdown_leaves.specs.declared.parts.Kind.TheVariants.{Paragraph, Heading, Fenced, Html, Table, Definitions}
use Rattle.markdown_examples.specs.Seen.{opens, closes, leaf, seen}

pub record AreBlocks14 : Type 0 where
  pub e326 : seen (codes "[a]: /u\na| a | b |\n|-|-|\n| c | d |\n<div>*\t~~") ≡ leaf Definitions (codes "[a]: /u" ∷ []) ∷ leaf Paragraph (codes "a| a | b |" ∷ codes "|-|-|" ∷ codes "| c | d |" ∷ []) ∷ leaf Html (codes "<div>*\t~~" ∷ []) ∷ []
  pub e327 : seen (codes "Ã©[a]\n\n[a]: /u\n<a>| a | b |\n|-|-|\n| c | d |\n_") ≡ leaf Paragraph (codes "Ã©[a]" ∷ []) ∷ leaf Definitions (codes "[a]: /u" ∷ []) ∷ leaf Paragraph (codes "<a>| a | b |" ∷ codes "|-|-|" ∷ codes "| c | d |" ∷ codes "_" ∷ []) ∷ []
  pub e328 : seen (codes "<a>[a]: /u\n\n| a | b |\n|-|-|\n| c | d |\n<div><!--") ≡ leaf Paragraph (codes "<a>[a]: /u" ∷ []) ∷ leaf (Table 2) (codes "| a | b |" ∷ codes "|-|-|" ∷ codes "| c | d |" ∷ []) ∷ leaf Html (codes "<div><!--" ∷ []) ∷ []
  pub e329 : seen (226 ∷ 128 ∷ 156 ∷ 45 ∷ 45 ∷ 62 ∷ 10 ∷ 61 ∷ 61 ∷ 61 ∷ 10 ∷ 10 ∷ 124 ∷ 45 ∷ 124 ∷ 45 ∷ 124 ∷ 10 ∷ 10 ∷ 10 ∷ 124 ∷ 32 ∷ 97 ∷ 32 ∷ 124 ∷ 32 ∷ 98 ∷ 32 ∷ 124 ∷ 10 ∷ 124 ∷ 45 ∷ 124 ∷ 45 ∷ 124 ∷ 10 ∷ 124 ∷ 32 ∷ 99 ∷ 32 ∷ 124 ∷ 32 ∷ 100 ∷ 32 ∷ 124 ∷ 10 ∷ 32 ∷ 32 ∷ 32 ∷ 32 ∷ []) ≡ leaf (Heading 1) ((226 ∷ 128 ∷ 156 ∷ 45 ∷ 45 ∷ 62 ∷ []) ∷ []) ∷ leaf Paragraph (codes "|-|-|" ∷ []) ∷ leaf (Table 2) (codes "| a | b |" ∷ codes "|-|-|" ∷ codes "| c | d |" ∷ []) ∷ []
  pub e330 : seen (codes "| a | b |\n|-|-|\n| c | d |\n> | a | b |\n|-|-|\n| c | d |\n>\t\n===") ≡ leaf (Table 2) (codes "| a | b |" ∷ codes "|-|-|" ∷ codes "| c | d |" ∷ []) ∷ opens Quote ∷ leaf Paragraph (codes "| a | b |" ∷ codes "|-|-|" ∷ codes "| c | d |" ∷ []) ∷ closes ∷ leaf Paragraph (codes "===" ∷ []) ∷ []
  pub e331 : seen (codes "**\n|-|") ≡ leaf (Table 1) (codes "**" ∷ codes "|-|" ∷ []) ∷ []
  pub e332 : seen (codes "- ~b~> |-|") ≡ opens (Item 45 0 2) ∷ leaf Paragraph (codes "~b~> |-|" ∷ []) ∷ closes ∷ []
  pub e333 : seen (codes "-|-\n*\n:-:\n") ≡ leaf Paragraph (codes "-|-" ∷ []) ∷ leaf (Table 1) (codes "*" ∷ codes ":-:" ∷ []) ∷ []
  pub e334 : seen (codes "-|-\n -|-\n> - \n") ≡ leaf (Table 2) (codes "-|-" ∷ codes "-|-" ∷ []) ∷ opens Quote ∷ opens (Item 45 0 2) ∷ closes ∷ closes ∷ []
  pub e335 : seen (codes "-|-\n|:-|-:|\n\n\n") ≡ leaf (Table 2) (codes "-|-" ∷ codes "|:-|-:|" ∷ []) ∷ []
  pub e336 : seen (codes "| a | b |\n-|-\n") ≡ leaf (Table 2) (codes "| a | b |" ∷ codes "-|-" ∷ []) ∷ []
  pub e337 : seen (codes " - ~~~-|-\n~|~\\|") ≡ opens (Item 45 0 3) ∷ leaf Fenced (codes "-|-" ∷ []) ∷ closes ∷ leaf Paragraph (codes "~|~\\|" ∷ []) ∷ []
  pub e338 : seen (codes "*\n\n-|-\n-|-\n\n-|-\n") ≡ opens (Item 42 0 2) ∷ closes ∷ leaf (Table 2) (codes "-|-" ∷ codes "-|-" ∷ []) ∷ leaf Paragraph (codes "-|-" ∷ []) ∷ []
  pub e339 : seen (codes "| a | b |\n-|-\n> ") ≡ leaf (Table 2) (codes "| a | b |" ∷ codes "-|-" ∷ []) ∷ opens Quote ∷ closes ∷ []
  pub e340 : seen (codes ":-:x | y\n:-:  |-|") ≡ leaf (Table 2) (codes ":-:x | y" ∷ codes ":-:  |-|" ∷ []) ∷ []
  pub e341 : seen (codes "ax | y\n|:-|-:|\n> ") ≡ leaf (Table 2) (codes "ax | y" ∷ codes "|:-|-:|" ∷ []) ∷ opens Quote ∷ closes ∷ []
  pub e342 : seen (codes "b|*\n|-|-|\n- \\|\n\na") ≡ leaf (Table 2) (codes "b|*" ∷ codes "|-|-|" ∷ []) ∷ opens (Item 45 0 2) ∷ leaf Paragraph (codes "\\|" ∷ []) ∷ closes ∷ leaf Paragraph (codes "a" ∷ []) ∷ []
  pub e343 : seen (codes ":-:\\|\n|-|\n\n\nx | y\n") ≡ leaf (Table 1) (codes ":-:\\|" ∷ codes "|-|" ∷ []) ∷ leaf Paragraph (codes "x | y" ∷ []) ∷ []
  pub e344 : seen (codes "|:-|-:|\n-|-\n*:-:**") ≡ leaf (Table 2) (codes "|:-|-:|" ∷ codes "-|-" ∷ codes "*:-:**" ∷ []) ∷ []
  pub e345 : seen (codes "|:-|-:|\n-|-\n|~|:-:") ≡ leaf (Table 2) (codes "|:-|-:|" ∷ codes "-|-" ∷ codes "|~|:-:" ∷ []) ∷ []
  pub e346 : seen (codes "||-|-|\n~|-|~~~\na~a") ≡ leaf Paragraph (codes "||-|-|" ∷ codes "~|-|~~~" ∷ codes "a~a" ∷ []) ∷ []
  pub e347 : seen (codes "||:-|-:|\n:-:|-|-|\n") ≡ leaf (Table 3) (codes "||:-|-:|" ∷ codes ":-:|-|-|" ∷ []) ∷ []
  pub e348 : seen (codes "-|-\n-|-\n-|-\n\na\n\n b\n") ≡ leaf (Table 2) (codes "-|-" ∷ codes "-|-" ∷ codes "-|-" ∷ []) ∷ leaf Paragraph (codes "a" ∷ []) ∷ leaf Paragraph (codes "b" ∷ []) ∷ []
  pub e349 : seen (codes "|-|\n|-|\na\n\n**x | y\n") ≡ leaf (Table 1) (codes "|-|" ∷ codes "|-|" ∷ codes "a" ∷ []) ∷ leaf Paragraph (codes "**x | y" ∷ []) ∷ []
  pub e350 : seen (codes "|-|-|\n|-|-|\n\n\n\n\n~~~") ≡ leaf (Table 2) (codes "|-|-|" ∷ codes "|-|-|" ∷ []) ∷ leaf Fenced ([] ∷ []) ∷ []
