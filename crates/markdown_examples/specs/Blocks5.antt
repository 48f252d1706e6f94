-- Examples 101 to 125: what one sees of their blocks.
use Rattle.std.specs.Prelude.{◌≡◌, [], ◌∷◌, codes}
use Rattle.markdown_blocks.specs.declared.containers.Container.TheVariants.{Quote, Item}
use Rattle.markdown_leaves.specs.declared.parts.Kind.TheVariants.{Paragraph, Heading, Fenced, Html, Rule, Definitions}
use Rattle.markdown_examples.specs.Seen.{opens, closes, leaf, seen}

pub record AreBlocks5 : Type 0 where
  pub e101 : seen (codes "\\*> \n===\n2) ") ≡ leaf (Heading 1) (codes "\\*> " ∷ []) ∷ opens (Item 41 2 3) ∷ closes ∷ []
  pub e102 : seen (codes "\\*b \n .\n\n-->") ≡ leaf Paragraph (codes "\\*b " ∷ codes "." ∷ []) ∷ leaf Paragraph (codes "-->" ∷ []) ∷ []
  pub e103 : seen (codes "``\n\n<!--' \n_") ≡ leaf Paragraph (codes "``" ∷ []) ∷ leaf Html (codes "<!--' " ∷ codes "_" ∷ []) ∷ []
  pub e104 : seen (226 ∷ 128 ∷ 156 ∷ 95 ∷ 95 ∷ 96 ∷ 96 ∷ 96 ∷ 114 ∷ 115 ∷ 10 ∷ 96 ∷ 96 ∷ 96 ∷ []) ≡ leaf Paragraph ((226 ∷ 128 ∷ 156 ∷ 95 ∷ 95 ∷ 96 ∷ 96 ∷ 96 ∷ 114 ∷ 115 ∷ []) ∷ []) ∷ leaf Fenced ([] ∷ []) ∷ []
  pub e105 : seen (codes "![```rs\n](/u)") ≡ leaf Paragraph (codes "![```rs" ∷ codes "](/u)" ∷ []) ∷ []
  pub e106 : seen (codes "*  <!--\\\n\na* ") ≡ opens (Item 42 0 3) ∷ leaf Html (codes "<!--\\" ∷ [] ∷ []) ∷ closes ∷ leaf Paragraph (codes "a* " ∷ []) ∷ []
  pub e107 : seen (codes "* ```__```'\na") ≡ opens (Item 42 0 2) ∷ leaf Paragraph (codes "```__```'" ∷ codes "a" ∷ []) ∷ closes ∷ []
  pub e108 : seen (codes "+ \n- http://x") ≡ opens (Item 43 0 2) ∷ closes ∷ opens (Item 45 0 2) ∷ leaf Paragraph (codes "http://x" ∷ []) ∷ closes ∷ []
  pub e109 : seen (codes ".<a>\n---\n:|-|") ≡ leaf (Heading 2) (codes ".<a>" ∷ []) ∷ leaf Paragraph (codes ":|-|" ∷ []) ∷ []
  pub e110 : seen (codes "2) [a]: /u\n# ") ≡ opens (Item 41 2 3) ∷ leaf Definitions (codes "[a]: /u" ∷ []) ∷ closes ∷ leaf (Heading 1) ([] ∷ []) ∷ []
  pub e111 : seen (codes "<!--Ã©~<a>\n\n\\!") ≡ leaf Html (codes "<!--Ã©~<a>" ∷ [] ∷ codes "\\!" ∷ []) ∷ []
  pub e112 : seen (codes "<div>(<[a]|-|") ≡ leaf Html (codes "<div>(<[a]|-|" ∷ []) ∷ []
  pub e113 : seen (codes "<div>[a]`_<a>") ≡ leaf Html (codes "<div>[a]`_<a>" ∷ []) ∷ []
  pub e114 : seen (91 ∷ 97 ∷ 93 ∷ 126 ∷ 230 ∷ 166 ∷ 130 ∷ 9 ∷ 95 ∷ 62 ∷ 32 ∷ 60 ∷ 47 ∷ 97 ∷ 62 ∷ []) ≡ leaf Paragraph ((91 ∷ 97 ∷ 93 ∷ 126 ∷ 230 ∷ 166 ∷ 130 ∷ 9 ∷ 95 ∷ 62 ∷ 32 ∷ 60 ∷ 47 ∷ 97 ∷ 62 ∷ []) ∷ []) ∷ []
  pub e115 : seen (93 ∷ 230 ∷ 166 ∷ 130 ∷ 10 ∷ 45 ∷ 45 ∷ 45 ∷ 10 ∷ 62 ∷ 42 ∷ 60 ∷ 47 ∷ 97 ∷ 62 ∷ []) ≡ leaf (Heading 2) ((93 ∷ 230 ∷ 166 ∷ 130 ∷ []) ∷ []) ∷ opens Quote ∷ leaf Paragraph (codes "*</a>" ∷ []) ∷ closes ∷ []
  pub e116 : seen (codes "_\n===\n\n---\n_~") ≡ leaf (Heading 1) (codes "_" ∷ []) ∷ leaf Rule (codes "---" ∷ []) ∷ leaf Paragraph (codes "_~" ∷ []) ∷ []
  pub e117 : seen (codes "\n---\n[```rs\n+ ") ≡ leaf Rule (codes "---" ∷ []) ∷ leaf Paragraph (codes "[```rs" ∷ codes "+ " ∷ []) ∷ []
  pub e118 : seen (codes "\n<div>[a]: /u\n") ≡ leaf Html (codes "<div>[a]: /u" ∷ []) ∷ []
  pub e119 : seen (codes "![]\n\n# \n|-|-|\n") ≡ leaf Paragraph (codes "![]" ∷ []) ∷ leaf (Heading 1) ([] ∷ []) ∷ leaf Paragraph (codes "|-|-|" ∷ []) ∷ []
  pub e120 : seen (codes "---```* ```rs\n") ≡ leaf Paragraph (codes "---```* ```rs" ∷ []) ∷ []
  pub e121 : seen (codes "2) + \n---* foo") ≡ opens (Item 41 2 3) ∷ opens (Item 43 0 2) ∷ closes ∷ closes ∷ leaf Paragraph (codes "---* foo" ∷ []) ∷ []
  pub e122 : seen (codes "2) -->`<b\n---\n") ≡ opens (Item 41 2 3) ∷ leaf Paragraph (codes "-->`<b" ∷ []) ∷ closes ∷ leaf Rule (codes "---" ∷ []) ∷ []
  pub e123 : seen (codes "2) <div>&#35;\t") ≡ opens (Item 41 2 3) ∷ leaf Html (codes "<div>&#35;\t" ∷ []) ∷ closes ∷ []
  pub e124 : seen (codes "<!--\n---\nb -->") ≡ leaf Html (codes "<!--" ∷ codes "---" ∷ codes "b -->" ∷ []) ∷ []
  pub e125 : seen (codes "<!--(```: \nfoo") ≡ leaf Html (codes "<!--(```: " ∷ codes "foo" ∷ []) ∷ []
