-- Examples 101 to 125, computed.
use Rattle.std.proofs.Common.{◌≡◌, [], ◌∷◌, codes, refl}
use Rattle.markdown_blocks.specs.declared.containers.Container.TheVariants.{Quote, Item}
use Rattle.markdown_leaves.specs.declared.parts.Kind.TheVariants.{Paragraph, Heading, Fenced, Html, Rule, Definitions}
use Rattle.markdown_examples.specs.Seen.{opens, closes, leaf, seen}
use Rattle.markdown_examples.specs.Blocks5.{AreBlocks5}
use Rattle.markdown_as_html.proofs.Computing.{reading}

e101 : seen (codes "\\*> \n===\n2) ") ≡ leaf (Heading 1) (codes "\\*> " ∷ []) ∷ opens (Item 41 2 3) ∷ closes ∷ []
unfolding reading
e101 = refl

e102 : seen (codes "\\*b \n .\n\n-->") ≡ leaf Paragraph (codes "\\*b " ∷ codes "." ∷ []) ∷ leaf Paragraph (codes "-->" ∷ []) ∷ []
unfolding reading
e102 = refl

e103 : seen (codes "``\n\n<!--' \n_") ≡ leaf Paragraph (codes "``" ∷ []) ∷ leaf Html (codes "<!--' " ∷ codes "_" ∷ []) ∷ []
unfolding reading
e103 = refl

e104 : seen (226 ∷ 128 ∷ 156 ∷ 95 ∷ 95 ∷ 96 ∷ 96 ∷ 96 ∷ 114 ∷ 115 ∷ 10 ∷ 96 ∷ 96 ∷ 96 ∷ []) ≡ leaf Paragraph ((226 ∷ 128 ∷ 156 ∷ 95 ∷ 95 ∷ 96 ∷ 96 ∷ 96 ∷ 114 ∷ 115 ∷ []) ∷ []) ∷ leaf Fenced ([] ∷ []) ∷ []
unfolding reading
e104 = refl

e105 : seen (codes "![```rs\n](/u)") ≡ leaf Paragraph (codes "![```rs" ∷ codes "](/u)" ∷ []) ∷ []
unfolding reading
e105 = refl

e106 : seen (codes "*  <!--\\\n\na* ") ≡ opens (Item 42 0 3) ∷ leaf Html (codes "<!--\\" ∷ [] ∷ []) ∷ closes ∷ leaf Paragraph (codes "a* " ∷ []) ∷ []
unfolding reading
e106 = refl

e107 : seen (codes "* ```__```'\na") ≡ opens (Item 42 0 2) ∷ leaf Paragraph (codes "```__```'" ∷ codes "a" ∷ []) ∷ closes ∷ []
unfolding reading
e107 = refl

e108 : seen (codes "+ \n- http://x") ≡ opens (Item 43 0 2) ∷ closes ∷ opens (Item 45 0 2) ∷ leaf Paragraph (codes "http://x" ∷ []) ∷ closes ∷ []
unfolding reading
e108 = refl

e109 : seen (codes ".<a>\n---\n:|-|") ≡ leaf (Heading 2) (codes ".<a>" ∷ []) ∷ leaf Paragraph (codes ":|-|" ∷ []) ∷ []
unfolding reading
e109 = refl

e110 : seen (codes "2) [a]: /u\n# ") ≡ opens (Item 41 2 3) ∷ leaf Definitions (codes "[a]: /u" ∷ []) ∷ closes ∷ leaf (Heading 1) ([] ∷ []) ∷ []
unfolding reading
e110 = refl

e111 : seen (codes "<!--Ã©~<a>\n\n\\!") ≡ leaf Html (codes "<!--Ã©~<a>" ∷ [] ∷ codes "\\!" ∷ []) ∷ []
unfolding reading
e111 = refl

e112 : seen (codes "<div>(<[a]|-|") ≡ leaf Html (codes "<div>(<[a]|-|" ∷ []) ∷ []
unfolding reading
e112 = refl

e113 : seen (codes "<div>[a]`_<a>") ≡ leaf Html (codes "<div>[a]`_<a>" ∷ []) ∷ []
unfolding reading
e113 = refl

e114 : seen (91 ∷ 97 ∷ 93 ∷ 126 ∷ 230 ∷ 166 ∷ 130 ∷ 9 ∷ 95 ∷ 62 ∷ 32 ∷ 60 ∷ 47 ∷ 97 ∷ 62 ∷ []) ≡ leaf Paragraph ((91 ∷ 97 ∷ 93 ∷ 126 ∷ 230 ∷ 166 ∷ 130 ∷ 9 ∷ 95 ∷ 62 ∷ 32 ∷ 60 ∷ 47 ∷ 97 ∷ 62 ∷ []) ∷ []) ∷ []
unfolding reading
e114 = refl

e115 : seen (93 ∷ 230 ∷ 166 ∷ 130 ∷ 10 ∷ 45 ∷ 45 ∷ 45 ∷ 10 ∷ 62 ∷ 42 ∷ 60 ∷ 47 ∷ 97 ∷ 62 ∷ []) ≡ leaf (Heading 2) ((93 ∷ 230 ∷ 166 ∷ 130 ∷ []) ∷ []) ∷ opens Quote ∷ leaf Paragraph (codes "*</a>" ∷ []) ∷ closes ∷ []
unfolding reading
e115 = refl

e116 : seen (codes "_\n===\n\n---\n_~") ≡ leaf (Heading 1) (codes "_" ∷ []) ∷ leaf Rule (codes "---" ∷ []) ∷ leaf Paragraph (codes "_~" ∷ []) ∷ []
unfolding reading
e116 = refl

e117 : seen (codes "\n---\n[```rs\n+ ") ≡ leaf Rule (codes "---" ∷ []) ∷ leaf Paragraph (codes "[```rs" ∷ codes "+ " ∷ []) ∷ []
unfolding reading
e117 = refl

e118 : seen (codes "\n<div>[a]: /u\n") ≡ leaf Html (codes "<div>[a]: /u" ∷ []) ∷ []
unfolding reading
e118 = refl

e119 : seen (codes "![]\n\n# \n|-|-|\n") ≡ leaf Paragraph (codes "![]" ∷ []) ∷ leaf (Heading 1) ([] ∷ []) ∷ leaf Paragraph (codes "|-|-|" ∷ []) ∷ []
unfolding reading
e119 = refl

e120 : seen (codes "---```* ```rs\n") ≡ leaf Paragraph (codes "---```* ```rs" ∷ []) ∷ []
unfolding reading
e120 = refl

e121 : seen (codes "2) + \n---* foo") ≡ opens (Item 41 2 3) ∷ opens (Item 43 0 2) ∷ closes ∷ closes ∷ leaf Paragraph (codes "---* foo" ∷ []) ∷ []
unfolding reading
e121 = refl

e122 : seen (codes "2) -->`<b\n---\n") ≡ opens (Item 41 2 3) ∷ leaf Paragraph (codes "-->`<b" ∷ []) ∷ closes ∷ leaf Rule (codes "---" ∷ []) ∷ []
unfolding reading
e122 = refl

e123 : seen (codes "2) <div>&#35;\t") ≡ opens (Item 41 2 3) ∷ leaf Html (codes "<div>&#35;\t" ∷ []) ∷ closes ∷ []
unfolding reading
e123 = refl

e124 : seen (codes "<!--\n---\nb -->") ≡ leaf Html (codes "<!--" ∷ codes "---" ∷ codes "b -->" ∷ []) ∷ []
unfolding reading
e124 = refl

e125 : seen (codes "<!--(```: \nfoo") ≡ leaf Html (codes "<!--(```: " ∷ codes "foo" ∷ []) ∷ []
unfolding reading
e125 = refl

pub blocks5 : AreBlocks5
blocks5 = record { e101 = e101; e102 = e102; e103 = e103; e104 = e104; e105 = e105; e106 = e106; e107 = e107; e108 = e108; e109 = e109; e110 = e110; e111 = e111; e112 = e112; e113 = e113; e114 = e114; e115 = e115; e116 = e116; e117 = e117; e118 = e118; e119 = e119; e120 = e120; e121 = e121; e122 = e122; e123 = e123; e124 = e124; e125 = e125 }
