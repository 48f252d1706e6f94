-- Examples 226 to 250, computed.
use Rattle.std.proofs.Common.{◌≡◌, [], ◌∷◌, codes, refl}
use Rattle.markdown_blocks.specs.declared.containers.Container.TheVariants.{Quote, Item}
use Rattle.markdown_leaves.specs.declared.parts.Kind.TheVariants.{Paragraph, Heading, Fenced, Html, Rule, Definitions}
use Rattle.markdown_examples.specs.Seen.{opens, closes, leaf, seen}
use Rattle.markdown_examples.specs.Blocks10.{AreBlocks10}
use Rattle.markdown_as_html.proofs.Computing.{reading}

e226 : seen (codes "* \n---\n# *~~~~~<div>") ≡ opens (Item 42 0 2) ∷ closes ∷ leaf Rule (codes "---" ∷ []) ∷ leaf (Heading 1) (codes "*~~~~~<div>" ∷ []) ∷ []
unfolding reading
e226 = refl

e227 : seen (codes "1. ```rs\n[a]</a>|-|.") ≡ opens (Item 46 1 3) ∷ leaf Fenced (codes "rs" ∷ []) ∷ closes ∷ leaf Paragraph (codes "[a]</a>|-|." ∷ []) ∷ []
unfolding reading
e227 = refl

e228 : seen (codes "<!--  a<&#35;\n|-|-|\n") ≡ leaf Html (codes "<!--  a<&#35;" ∷ codes "|-|-|" ∷ []) ∷ []
unfolding reading
e228 = refl

e229 : seen (codes "<!--)<a>_**</a>](/u)") ≡ leaf Html (codes "<!--)<a>_**</a>](/u)" ∷ []) ∷ []
unfolding reading
e229 = refl

e230 : seen (codes "<div>- ````rs\n>[ ] \t") ≡ leaf Html (codes "<div>- ````rs" ∷ codes ">[ ] \t" ∷ []) ∷ []
unfolding reading
e230 = refl

e231 : seen (codes "> [a]: /u\n+ ```\n===\n") ≡ opens Quote ∷ leaf Definitions (codes "[a]: /u" ∷ []) ∷ closes ∷ opens (Item 43 0 2) ∷ leaf Fenced ([] ∷ []) ∷ closes ∷ leaf Paragraph (codes "===" ∷ []) ∷ []
unfolding reading
e231 = refl

e232 : seen (codes "[a]: /u\n## <a>[ ] <b") ≡ leaf Definitions (codes "[a]: /u" ∷ []) ∷ leaf (Heading 2) (codes "<a>[ ] <b" ∷ []) ∷ []
unfolding reading
e232 = refl

e233 : seen (codes "](/u)~~<<!--\n---\n## ") ≡ leaf (Heading 2) (codes "](/u)~~<<!--" ∷ []) ∷ leaf (Heading 2) ([] ∷ []) ∷ []
unfolding reading
e233 = refl

e234 : seen (codes "]<a>```rs\n</a>===```") ≡ leaf Paragraph (codes "]<a>```rs" ∷ codes "</a>===```" ∷ []) ∷ []
unfolding reading
e234 = refl

e235 : seen (codes "_> <</a><div>\n|-|-|\n") ≡ leaf Paragraph (codes "_> <</a><div>" ∷ codes "|-|-|" ∷ []) ∷ []
unfolding reading
e235 = refl

e236 : seen (codes "a[a]<a>Ã©](<http://a>") ≡ leaf Paragraph (codes "a[a]<a>Ã©](<http://a>" ∷ []) ∷ []
unfolding reading
e236 = refl

e237 : seen (codes "Ã©\n===\n## 1. [a]: /u\n") ≡ leaf (Heading 1) (codes "Ã©" ∷ []) ∷ leaf (Heading 2) (codes "1. [a]: /u" ∷ []) ∷ []
unfolding reading
e237 = refl

e238 : seen (codes "![\\(<div>\n---\n```rs\n*") ≡ leaf (Heading 2) (codes "![\\(<div>" ∷ []) ∷ leaf Fenced (codes "rs" ∷ codes "*" ∷ []) ∷ []
unfolding reading
e238 = refl

e239 : seen (35 ∷ 32 ∷ 230 ∷ 166 ∷ 130 ∷ 104 ∷ 116 ∷ 116 ∷ 112 ∷ 58 ∷ 47 ∷ 47 ∷ 120 ∷ 91 ∷ 97 ∷ 93 ∷ 58 ∷ 32 ∷ 47 ∷ 117 ∷ 10 ∷ 45 ∷ 32 ∷ []) ≡ leaf (Heading 1) ((230 ∷ 166 ∷ 130 ∷ 104 ∷ 116 ∷ 116 ∷ 112 ∷ 58 ∷ 47 ∷ 47 ∷ 120 ∷ 91 ∷ 97 ∷ 93 ∷ 58 ∷ 32 ∷ 47 ∷ 117 ∷ []) ∷ []) ∷ opens (Item 45 0 2) ∷ closes ∷ []
unfolding reading
e239 = refl

e240 : seen (codes "&#35;!<http://a><div>") ≡ leaf Paragraph (codes "&#35;!<http://a><div>" ∷ []) ∷ []
unfolding reading
e240 = refl

e241 : seen (codes "* \n|-|-|\n\n<a>\n---\n===") ≡ opens (Item 42 0 2) ∷ closes ∷ leaf Paragraph (codes "|-|-|" ∷ []) ∷ leaf Html (codes "<a>" ∷ codes "---" ∷ codes "===" ∷ []) ∷ []
unfolding reading
e241 = refl

e242 : seen (codes "* ![<b\n---\n<!--(&amp;") ≡ opens (Item 42 0 2) ∷ leaf Paragraph (codes "![<b" ∷ []) ∷ closes ∷ leaf Rule (codes "---" ∷ []) ∷ leaf Html (codes "<!--(&amp;" ∷ []) ∷ []
unfolding reading
e242 = refl

e243 : seen (codes "+ >```rs\n## a[a]: /u\n") ≡ opens (Item 43 0 2) ∷ opens Quote ∷ leaf Fenced (codes "rs" ∷ []) ∷ closes ∷ closes ∷ leaf (Heading 2) (codes "a[a]: /u" ∷ []) ∷ []
unfolding reading
e243 = refl

e244 : seen (codes "-->===*<div>*## &#35;") ≡ leaf Paragraph (codes "-->===*<div>*## &#35;" ∷ []) ∷ []
unfolding reading
e244 = refl

e245 : seen (codes "<!--# foo<http://a>b ") ≡ leaf Html (codes "<!--# foo<http://a>b " ∷ []) ∷ []
unfolding reading
e245 = refl

e246 : seen (62 ∷ 32 ∷ 35 ∷ 35 ∷ 32 ∷ 93 ∷ 226 ∷ 128 ∷ 156 ∷ 33 ∷ 91 ∷ 60 ∷ 100 ∷ 105 ∷ 118 ∷ 62 ∷ 10 ∷ 124 ∷ 45 ∷ 124 ∷ 45 ∷ 124 ∷ 10 ∷ []) ≡ opens Quote ∷ leaf (Heading 2) ((93 ∷ 226 ∷ 128 ∷ 156 ∷ 33 ∷ 91 ∷ 60 ∷ 100 ∷ 105 ∷ 118 ∷ 62 ∷ []) ∷ []) ∷ closes ∷ leaf Paragraph (codes "|-|-|" ∷ []) ∷ []
unfolding reading
e246 = refl

e247 : seen (codes "[a]: /u\n</a>\n\n```<a>(") ≡ leaf Definitions (codes "[a]: /u" ∷ []) ∷ leaf Paragraph (codes "</a>" ∷ []) ∷ leaf Fenced (codes "<a>(" ∷ []) ∷ []
unfolding reading
e247 = refl

e248 : seen (codes "[a][a]: /u\na\n===\n<a>|") ≡ leaf (Heading 1) (codes "[a][a]: /u" ∷ codes "a" ∷ []) ∷ leaf Paragraph (codes "<a>|" ∷ []) ∷ []
unfolding reading
e248 = refl

e249 : seen (codes "__\n---\n<http://a>~2) ") ≡ leaf (Heading 2) (codes "__" ∷ []) ∷ leaf Paragraph (codes "<http://a>~2) " ∷ []) ∷ []
unfolding reading
e249 = refl

e250 : seen (codes "__http://x|-|\n---\n---") ≡ leaf (Heading 2) (codes "__http://x|-|" ∷ []) ∷ leaf Rule (codes "---" ∷ []) ∷ []
unfolding reading
e250 = refl

pub blocks10 : AreBlocks10
blocks10 = record { e226 = e226; e227 = e227; e228 = e228; e229 = e229; e230 = e230; e231 = e231; e232 = e232; e233 = e233; e234 = e234; e235 = e235; e236 = e236; e237 = e237; e238 = e238; e239 = e239; e240 = e240; e241 = e241; e242 = e242; e243 = e243; e244 = e244; e245 = e245; e246 = e246; e247 = e247; e248 = e248; e249 = e249; e250 = e250 }
