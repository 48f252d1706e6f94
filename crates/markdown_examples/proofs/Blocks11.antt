-- Examples 251 to 275, computed.
use Rattle.std.proofs.Common.{◌≡◌, [], ◌∷◌, codes, refl}
use Rattle.markdown_blocks.specs.declared.containers.Container.TheVariants.{Quote, Item}
use Rattle.markdown_leaves.specs.declared.parts.Kind.TheVariants.{Paragraph, Heading, Indented, Fenced, Html, Rule}
use Rattle.markdown_examples.specs.Seen.{opens, closes, leaf, seen}
use Rattle.markdown_examples.specs.Blocks11.{AreBlocks11}
use Rattle.markdown_as_html.proofs.Computing.{reading}

e251 : seen (10 ∷ 45 ∷ 45 ∷ 45 ∷ 10 ∷ 10 ∷ 45 ∷ 45 ∷ 45 ∷ 10 ∷ 124 ∷ 45 ∷ 124 ∷ 46 ∷ 96 ∷ 96 ∷ 96 ∷ 114 ∷ 115 ∷ 10 ∷ 195 ∷ 169 ∷ 230 ∷ 166 ∷ 130 ∷ []) ≡ leaf Rule (codes "---" ∷ []) ∷ leaf Rule (codes "---" ∷ []) ∷ leaf Paragraph (codes "|-|.```rs" ∷ (195 ∷ 169 ∷ 230 ∷ 166 ∷ 130 ∷ []) ∷ []) ∷ []
unfolding reading
e251 = refl

e252 : seen (codes "\n---\n# <http://a>-->* ") ≡ leaf Rule (codes "---" ∷ []) ∷ leaf (Heading 1) (codes "<http://a>-->*" ∷ []) ∷ []
unfolding reading
e252 = refl

e253 : seen (codes "\n---\n<!--http://x[a]](") ≡ leaf Rule (codes "---" ∷ []) ∷ leaf Html (codes "<!--http://x[a]](" ∷ []) ∷ []
unfolding reading
e253 = refl

e254 : seen (codes "\n===\n<div>```~~~\\](/u)") ≡ leaf Paragraph (codes "===" ∷ []) ∷ leaf Html (codes "<div>```~~~\\](/u)" ∷ []) ∷ []
unfolding reading
e254 = refl

e255 : seen (codes "  <a></a>    + ---[ ] ") ≡ leaf Paragraph (codes "<a></a>    + ---[ ] " ∷ []) ∷ []
unfolding reading
e255 = refl

e256 : seen (codes ")## <http://a>a\n\nfoo**") ≡ leaf Paragraph (codes ")## <http://a>a" ∷ []) ∷ leaf Paragraph (codes "foo**" ∷ []) ∷ []
unfolding reading
e256 = refl

e257 : seen (codes "*[a]: /u\n+ ---\n\\*&#35;") ≡ leaf Paragraph (codes "*[a]: /u" ∷ []) ∷ opens (Item 43 0 2) ∷ leaf Rule (codes "---" ∷ []) ∷ closes ∷ leaf Paragraph (codes "\\*&#35;" ∷ []) ∷ []
unfolding reading
e257 = refl

e258 : seen (codes "1. ```rs\n===<http://a>") ≡ opens (Item 46 1 3) ∷ leaf Fenced (codes "rs" ∷ []) ∷ closes ∷ leaf Paragraph (codes "===<http://a>" ∷ []) ∷ []
unfolding reading
e258 = refl

e259 : seen (codes "2) \t_<http://a>[ ] **.") ≡ opens (Item 41 2 4) ∷ leaf Paragraph (codes "_<http://a>[ ] **." ∷ []) ∷ closes ∷ []
unfolding reading
e259 = refl

e260 : seen (codes "2) <a>[a]* ](/u)`\n---\n") ≡ opens (Item 41 2 3) ∷ leaf Paragraph (codes "<a>[a]* ](/u)`" ∷ []) ∷ closes ∷ leaf Rule (codes "---" ∷ []) ∷ []
unfolding reading
e260 = refl

e261 : seen (codes "<div>**2) [ ] ~~```rs\n") ≡ leaf Html (codes "<div>**2) [ ] ~~```rs" ∷ []) ∷ []
unfolding reading
e261 = refl

e262 : seen (codes "<http://a>\n===\n](&#35;") ≡ leaf (Heading 1) (codes "<http://a>" ∷ []) ∷ leaf Paragraph (codes "](&#35;" ∷ []) ∷ []
unfolding reading
e262 = refl

e263 : seen (codes "<http://a><http://a>\n!") ≡ leaf Paragraph (codes "<http://a><http://a>" ∷ codes "!" ∷ []) ∷ []
unfolding reading
e263 = refl

e264 : seen (codes "> >     foo.~~http://x") ≡ opens Quote ∷ opens Quote ∷ leaf Indented (codes "foo.~~http://x" ∷ []) ∷ closes ∷ closes ∷ []
unfolding reading
e264 = refl

e265 : seen (codes "[ ] ``    \n---\n~~\n===\n") ≡ leaf (Heading 2) (codes "[ ] ``    " ∷ []) ∷ leaf (Heading 1) (codes "~~" ∷ []) ∷ []
unfolding reading
e265 = refl

e266 : seen (codes "\n---\n<div>]<http://a>  ") ≡ leaf Rule (codes "---" ∷ []) ∷ leaf Html (codes "<div>]<http://a>  " ∷ []) ∷ []
unfolding reading
e266 = refl

e267 : seen (codes "1. <div>    \n|-|-|\n__)\n") ≡ opens (Item 46 1 3) ∷ leaf Html (codes "<div>    " ∷ []) ∷ closes ∷ leaf Paragraph (codes "|-|-|" ∷ codes "__)" ∷ []) ∷ []
unfolding reading
e267 = refl

e268 : seen (codes "1. <foo======<http://a>") ≡ opens (Item 46 1 3) ∷ leaf Paragraph (codes "<foo======<http://a>" ∷ []) ∷ closes ∷ []
unfolding reading
e268 = refl

e269 : seen (codes "><a><b&amp;<http://a>\\*") ≡ opens Quote ∷ leaf Paragraph (codes "<a><b&amp;<http://a>\\*" ∷ []) ∷ closes ∷ []
unfolding reading
e269 = refl

e270 : seen (codes "[ ] __](/u)\n|-|-|\n\n---\n") ≡ leaf Paragraph (codes "[ ] __](/u)" ∷ codes "|-|-|" ∷ []) ∷ leaf Rule (codes "---" ∷ []) ∷ []
unfolding reading
e270 = refl

e271 : seen (codes "|-|[a]: /u\n_:\n|-|-|\n\n* ") ≡ leaf Paragraph (codes "|-|[a]: /u" ∷ codes "_:" ∷ codes "|-|-|" ∷ []) ∷ opens (Item 42 0 2) ∷ closes ∷ []
unfolding reading
e271 = refl

e272 : seen (codes "\n|-|-|\n    > <div> \\*<a>") ≡ leaf Paragraph (codes "|-|-|" ∷ codes "> <div> \\*<a>" ∷ []) ∷ []
unfolding reading
e272 = refl

e273 : seen (codes "'```rs\n1. - http://x'~~~") ≡ leaf Paragraph (codes "'```rs" ∷ []) ∷ opens (Item 46 1 3) ∷ opens (Item 45 0 2) ∷ leaf Paragraph (codes "http://x'~~~" ∷ []) ∷ closes ∷ closes ∷ []
unfolding reading
e273 = refl

e274 : seen (codes "* foo\n|-|-|\n## <div><a>\\") ≡ opens (Item 42 0 2) ∷ leaf Paragraph (codes "foo" ∷ codes "|-|-|" ∷ []) ∷ closes ∷ leaf (Heading 2) (codes "<div><a>\\" ∷ []) ∷ []
unfolding reading
e274 = refl

e275 : seen (codes "<!--<!--[a]: /u\n <a>[ ] ") ≡ leaf Html (codes "<!--<!--[a]: /u" ∷ codes " <a>[ ] " ∷ []) ∷ []
unfolding reading
e275 = refl

pub blocks11 : AreBlocks11
blocks11 = record { e251 = e251; e252 = e252; e253 = e253; e254 = e254; e255 = e255; e256 = e256; e257 = e257; e258 = e258; e259 = e259; e260 = e260; e261 = e261; e262 = e262; e263 = e263; e264 = e264; e265 = e265; e266 = e266; e267 = e267; e268 = e268; e269 = e269; e270 = e270; e271 = e271; e272 = e272; e273 = e273; e274 = e274; e275 = e275 }
