-- Examples 251 to 275: what one sees of their blocks.
use Rattle.std.specs.Prelude.{◌≡◌, [], ◌∷◌, codes}
use Rattle.markdown_blocks.specs.declared.containers.Container.TheVariants.{Quote, Item}
use Rattle.markdown_leaves.specs.declared.parts.Kind.TheVariants.{Paragraph, Heading, Indented, Fenced, Html, Rule}
use Rattle.markdown_examples.specs.Seen.{opens, closes, leaf, seen}

pub record AreBlocks11 : Type 0 where
  pub e251 : seen (10 ∷ 45 ∷ 45 ∷ 45 ∷ 10 ∷ 10 ∷ 45 ∷ 45 ∷ 45 ∷ 10 ∷ 124 ∷ 45 ∷ 124 ∷ 46 ∷ 96 ∷ 96 ∷ 96 ∷ 114 ∷ 115 ∷ 10 ∷ 195 ∷ 169 ∷ 230 ∷ 166 ∷ 130 ∷ []) ≡ leaf Rule (codes "---" ∷ []) ∷ leaf Rule (codes "---" ∷ []) ∷ leaf Paragraph (codes "|-|.```rs" ∷ (195 ∷ 169 ∷ 230 ∷ 166 ∷ 130 ∷ []) ∷ []) ∷ []
  pub e252 : seen (codes "\n---\n# <http://a>-->* ") ≡ leaf Rule (codes "---" ∷ []) ∷ leaf (Heading 1) (codes "<http://a>-->*" ∷ []) ∷ []
  pub e253 : seen (codes "\n---\n<!--http://x[a]](") ≡ leaf Rule (codes "---" ∷ []) ∷ leaf Html (codes "<!--http://x[a]](" ∷ []) ∷ []
  pub e254 : seen (codes "\n===\n<div>```~~~\\](/u)") ≡ leaf Paragraph (codes "===" ∷ []) ∷ leaf Html (codes "<div>```~~~\\](/u)" ∷ []) ∷ []
  pub e255 : seen (codes "  <a></a>    + ---[ ] ") ≡ leaf Paragraph (codes "<a></a>    + ---[ ] " ∷ []) ∷ []
  pub e256 : seen (codes ")## <http://a>a\n\nfoo**") ≡ leaf Paragraph (codes ")## <http://a>a" ∷ []) ∷ leaf Paragraph (codes "foo**" ∷ []) ∷ []
  pub e257 : seen (codes "*[a]: /u\n+ ---\n\\*&#35;") ≡ leaf Paragraph (codes "*[a]: /u" ∷ []) ∷ opens (Item 43 0 2) ∷ leaf Rule (codes "---" ∷ []) ∷ closes ∷ leaf Paragraph (codes "\\*&#35;" ∷ []) ∷ []
  pub e258 : seen (codes "1. ```rs\n===<http://a>") ≡ opens (Item 46 1 3) ∷ leaf Fenced (codes "rs" ∷ []) ∷ closes ∷ leaf Paragraph (codes "===<http://a>" ∷ []) ∷ []
  pub e259 : seen (codes "2) \t_<http://a>[ ] **.") ≡ opens (Item 41 2 4) ∷ leaf Paragraph (codes "_<http://a>[ ] **." ∷ []) ∷ closes ∷ []
  pub e260 : seen (codes "2) <a>[a]* ](/u)`\n---\n") ≡ opens (Item 41 2 3) ∷ leaf Paragraph (codes "<a>[a]* ](/u)`" ∷ []) ∷ closes ∷ leaf Rule (codes "---" ∷ []) ∷ []
  pub e261 : seen (codes "<div>**2) [ ] ~~```rs\n") ≡ leaf Html (codes "<div>**2) [ ] ~~```rs" ∷ []) ∷ []
  pub e262 : seen (codes "<http://a>\n===\n](&#35;") ≡ leaf (Heading 1) (codes "<http://a>" ∷ []) ∷ leaf Paragraph (codes "](&#35;" ∷ []) ∷ []
  pub e263 : seen (codes "<http://a><http://a>\n!") ≡ leaf Paragraph (codes "<http://a><http://a>" ∷ codes "!" ∷ []) ∷ []
  pub e264 : seen (codes "> >     foo.~~http://x") ≡ opens Quote ∷ opens Quote ∷ leaf Indented (codes "foo.~~http://x" ∷ []) ∷ closes ∷ closes ∷ []
  pub e265 : seen (codes "[ ] ``    \n---\n~~\n===\n") ≡ leaf (Heading 2) (codes "[ ] ``    " ∷ []) ∷ leaf (Heading 1) (codes "~~" ∷ []) ∷ []
  pub e266 : seen (codes "\n---\n<div>]<http://a>  ") ≡ leaf Rule (codes "---" ∷ []) ∷ leaf Html (codes "<div>]<http://a>  " ∷ []) ∷ []
  pub e267 : seen (codes "1. <div>    \n|-|-|\n__)\n") ≡ opens (Item 46 1 3) ∷ leaf Html (codes "<div>    " ∷ []) ∷ closes ∷ leaf Paragraph (codes "|-|-|" ∷ codes "__)" ∷ []) ∷ []
  pub e268 : seen (codes "1. <foo======<http://a>") ≡ opens (Item 46 1 3) ∷ leaf Paragraph (codes "<foo======<http://a>" ∷ []) ∷ closes ∷ []
  pub e269 : seen (codes "><a><b&amp;<http://a>\\*") ≡ opens Quote ∷ leaf Paragraph (codes "<a><b&amp;<http://a>\\*" ∷ []) ∷ closes ∷ []
  pub e270 : seen (codes "[ ] __](/u)\n|-|-|\n\n---\n") ≡ leaf Paragraph (codes "[ ] __](/u)" ∷ codes "|-|-|" ∷ []) ∷ leaf Rule (codes "---" ∷ []) ∷ []
  pub e271 : seen (codes "|-|[a]: /u\n_:\n|-|-|\n\n* ") ≡ leaf Paragraph (codes "|-|[a]: /u" ∷ codes "_:" ∷ codes "|-|-|" ∷ []) ∷ opens (Item 42 0 2) ∷ closes ∷ []
  pub e272 : seen (codes "\n|-|-|\n    > <div> \\*<a>") ≡ leaf Paragraph (codes "|-|-|" ∷ codes "> <div> \\*<a>" ∷ []) ∷ []
  pub e273 : seen (codes "'```rs\n1. - http://x'~~~") ≡ leaf Paragraph (codes "'```rs" ∷ []) ∷ opens (Item 46 1 3) ∷ opens (Item 45 0 2) ∷ leaf Paragraph (codes "http://x'~~~" ∷ []) ∷ closes ∷ closes ∷ []
  pub e274 : seen (codes "* foo\n|-|-|\n## <div><a>\\") ≡ opens (Item 42 0 2) ∷ leaf Paragraph (codes "foo" ∷ codes "|-|-|" ∷ []) ∷ closes ∷ leaf (Heading 2) (codes "<div><a>\\" ∷ []) ∷ []
  pub e275 : seen (codes "<!--<!--[a]: /u\n <a>[ ] ") ≡ leaf Html (codes "<!--<!--[a]: /u" ∷ codes " <a>[ ] " ∷ []) ∷ []
