-- Examples 326 to 350, computed.
use Rattle.std.proofs.Common.{◌≡◌, [], ◌∷◌, codes, refl}
use Rattle.markdown_blocks.specs.declared.containers.Container.TheVariants.{Quote, Item}
use Rattle.markdown_leaves.specs.declared.parts.Kind.TheVariants.{Paragraph, Heading, Fenced, Html, Table, Definitions}
use Rattle.markdown_examples.specs.Seen.{opens, closes, leaf, seen}
use Rattle.markdown_examples.specs.Blocks14.{AreBlocks14}
use Rattle.markdown_as_html.proofs.Computing.{reading}

e326 : seen (codes "[a]: /u\na| a | b |\n|-|-|\n| c | d |\n<div>*\t~~") ≡ leaf Definitions (codes "[a]: /u" ∷ []) ∷ leaf Paragraph (codes "a| a | b |" ∷ codes "|-|-|" ∷ codes "| c | d |" ∷ []) ∷ leaf Html (codes "<div>*\t~~" ∷ []) ∷ []
unfolding reading
e326 = refl

e327 : seen (codes "Ã©[a]\n\n[a]: /u\n<a>| a | b |\n|-|-|\n| c | d |\n_") ≡ leaf Paragraph (codes "Ã©[a]" ∷ []) ∷ leaf Definitions (codes "[a]: /u" ∷ []) ∷ leaf Paragraph (codes "<a>| a | b |" ∷ codes "|-|-|" ∷ codes "| c | d |" ∷ codes "_" ∷ []) ∷ []
unfolding reading
e327 = refl

e328 : seen (codes "<a>[a]: /u\n\n| a | b |\n|-|-|\n| c | d |\n<div><!--") ≡ leaf Paragraph (codes "<a>[a]: /u" ∷ []) ∷ leaf (Table 2) (codes "| a | b |" ∷ codes "|-|-|" ∷ codes "| c | d |" ∷ []) ∷ leaf Html (codes "<div><!--" ∷ []) ∷ []
unfolding reading
e328 = refl

e329 : seen (226 ∷ 128 ∷ 156 ∷ 45 ∷ 45 ∷ 62 ∷ 10 ∷ 61 ∷ 61 ∷ 61 ∷ 10 ∷ 10 ∷ 124 ∷ 45 ∷ 124 ∷ 45 ∷ 124 ∷ 10 ∷ 10 ∷ 10 ∷ 124 ∷ 32 ∷ 97 ∷ 32 ∷ 124 ∷ 32 ∷ 98 ∷ 32 ∷ 124 ∷ 10 ∷ 124 ∷ 45 ∷ 124 ∷ 45 ∷ 124 ∷ 10 ∷ 124 ∷ 32 ∷ 99 ∷ 32 ∷ 124 ∷ 32 ∷ 100 ∷ 32 ∷ 124 ∷ 10 ∷ 32 ∷ 32 ∷ 32 ∷ 32 ∷ []) ≡ leaf (Heading 1) ((226 ∷ 128 ∷ 156 ∷ 45 ∷ 45 ∷ 62 ∷ []) ∷ []) ∷ leaf Paragraph (codes "|-|-|" ∷ []) ∷ leaf (Table 2) (codes "| a | b |" ∷ codes "|-|-|" ∷ codes "| c | d |" ∷ []) ∷ []
unfolding reading
e329 = refl

e330 : seen (codes "| a | b |\n|-|-|\n| c | d |\n> | a | b |\n|-|-|\n| c | d |\n>\t\n===") ≡ leaf (Table 2) (codes "| a | b |" ∷ codes "|-|-|" ∷ codes "| c | d |" ∷ []) ∷ opens Quote ∷ leaf Paragraph (codes "| a | b |" ∷ codes "|-|-|" ∷ codes "| c | d |" ∷ []) ∷ closes ∷ leaf Paragraph (codes "===" ∷ []) ∷ []
unfolding reading
e330 = refl

e331 : seen (codes "**\n|-|") ≡ leaf (Table 1) (codes "**" ∷ codes "|-|" ∷ []) ∷ []
unfolding reading
e331 = refl

e332 : seen (codes "- ~b~> |-|") ≡ opens (Item 45 0 2) ∷ leaf Paragraph (codes "~b~> |-|" ∷ []) ∷ closes ∷ []
unfolding reading
e332 = refl

e333 : seen (codes "-|-\n*\n:-:\n") ≡ leaf Paragraph (codes "-|-" ∷ []) ∷ leaf (Table 1) (codes "*" ∷ codes ":-:" ∷ []) ∷ []
unfolding reading
e333 = refl

e334 : seen (codes "-|-\n -|-\n> - \n") ≡ leaf (Table 2) (codes "-|-" ∷ codes "-|-" ∷ []) ∷ opens Quote ∷ opens (Item 45 0 2) ∷ closes ∷ closes ∷ []
unfolding reading
e334 = refl

e335 : seen (codes "-|-\n|:-|-:|\n\n\n") ≡ leaf (Table 2) (codes "-|-" ∷ codes "|:-|-:|" ∷ []) ∷ []
unfolding reading
e335 = refl

e336 : seen (codes "| a | b |\n-|-\n") ≡ leaf (Table 2) (codes "| a | b |" ∷ codes "-|-" ∷ []) ∷ []
unfolding reading
e336 = refl

e337 : seen (codes " - ~~~-|-\n~|~\\|") ≡ opens (Item 45 0 3) ∷ leaf Fenced (codes "-|-" ∷ []) ∷ closes ∷ leaf Paragraph (codes "~|~\\|" ∷ []) ∷ []
unfolding reading
e337 = refl

e338 : seen (codes "*\n\n-|-\n-|-\n\n-|-\n") ≡ opens (Item 42 0 2) ∷ closes ∷ leaf (Table 2) (codes "-|-" ∷ codes "-|-" ∷ []) ∷ leaf Paragraph (codes "-|-" ∷ []) ∷ []
unfolding reading
e338 = refl

e339 : seen (codes "| a | b |\n-|-\n> ") ≡ leaf (Table 2) (codes "| a | b |" ∷ codes "-|-" ∷ []) ∷ opens Quote ∷ closes ∷ []
unfolding reading
e339 = refl

e340 : seen (codes ":-:x | y\n:-:  |-|") ≡ leaf (Table 2) (codes ":-:x | y" ∷ codes ":-:  |-|" ∷ []) ∷ []
unfolding reading
e340 = refl

e341 : seen (codes "ax | y\n|:-|-:|\n> ") ≡ leaf (Table 2) (codes "ax | y" ∷ codes "|:-|-:|" ∷ []) ∷ opens Quote ∷ closes ∷ []
unfolding reading
e341 = refl

e342 : seen (codes "b|*\n|-|-|\n- \\|\n\na") ≡ leaf (Table 2) (codes "b|*" ∷ codes "|-|-|" ∷ []) ∷ opens (Item 45 0 2) ∷ leaf Paragraph (codes "\\|" ∷ []) ∷ closes ∷ leaf Paragraph (codes "a" ∷ []) ∷ []
unfolding reading
e342 = refl

e343 : seen (codes ":-:\\|\n|-|\n\n\nx | y\n") ≡ leaf (Table 1) (codes ":-:\\|" ∷ codes "|-|" ∷ []) ∷ leaf Paragraph (codes "x | y" ∷ []) ∷ []
unfolding reading
e343 = refl

e344 : seen (codes "|:-|-:|\n-|-\n*:-:**") ≡ leaf (Table 2) (codes "|:-|-:|" ∷ codes "-|-" ∷ codes "*:-:**" ∷ []) ∷ []
unfolding reading
e344 = refl

e345 : seen (codes "|:-|-:|\n-|-\n|~|:-:") ≡ leaf (Table 2) (codes "|:-|-:|" ∷ codes "-|-" ∷ codes "|~|:-:" ∷ []) ∷ []
unfolding reading
e345 = refl

e346 : seen (codes "||-|-|\n~|-|~~~\na~a") ≡ leaf Paragraph (codes "||-|-|" ∷ codes "~|-|~~~" ∷ codes "a~a" ∷ []) ∷ []
unfolding reading
e346 = refl

e347 : seen (codes "||:-|-:|\n:-:|-|-|\n") ≡ leaf (Table 3) (codes "||:-|-:|" ∷ codes ":-:|-|-|" ∷ []) ∷ []
unfolding reading
e347 = refl

e348 : seen (codes "-|-\n-|-\n-|-\n\na\n\n b\n") ≡ leaf (Table 2) (codes "-|-" ∷ codes "-|-" ∷ codes "-|-" ∷ []) ∷ leaf Paragraph (codes "a" ∷ []) ∷ leaf Paragraph (codes "b" ∷ []) ∷ []
unfolding reading
e348 = refl

e349 : seen (codes "|-|\n|-|\na\n\n**x | y\n") ≡ leaf (Table 1) (codes "|-|" ∷ codes "|-|" ∷ codes "a" ∷ []) ∷ leaf Paragraph (codes "**x | y" ∷ []) ∷ []
unfolding reading
e349 = refl

e350 : seen (codes "|-|-|\n|-|-|\n\n\n\n\n~~~") ≡ leaf (Table 2) (codes "|-|-|" ∷ codes "|-|-|" ∷ []) ∷ leaf Fenced ([] ∷ []) ∷ []
unfolding reading
e350 = refl

pub blocks14 : AreBlocks14
blocks14 = record { e326 = e326; e327 = e327; e328 = e328; e329 = e329; e330 = e330; e331 = e331; e332 = e332; e333 = e333; e334 = e334; e335 = e335; e336 = e336; e337 = e337; e338 = e338; e339 = e339; e340 = e340; e341 = e341; e342 = e342; e343 = e343; e344 = e344; e345 = e345; e346 = e346; e347 = e347; e348 = e348; e349 = e349; e350 = e350 }
