-- Examples 226 to 250: what one sees of their blocks.
use Rattle.std.specs.Prelude.{◌≡◌, [], ◌∷◌, codes}
use Rattle.markdown_blocks.specs.declared.containers.Container.TheVariants.{Quote, Item}
use Rattle.markdown_leaves.specs.declared.parts.Kind.TheVariants.{Paragraph, Heading, Fenced, Html, Rule, Definitions}
use Rattle.markdown_examples.specs.Seen.{opens, closes, leaf, seen}

pub record AreBlocks10 : Type 0 where
  pub e226 : seen (codes "* \n---\n# *~~~~~<div>") ≡ opens (Item 42 0 2) ∷ closes ∷ leaf Rule (codes "---" ∷ []) ∷ leaf (Heading 1) (codes "*~~~~~<div>" ∷ []) ∷ []
  pub e227 : seen (codes "1. ```rs\n[a]</a>|-|.") ≡ opens (Item 46 1 3) ∷ leaf Fenced (codes "rs" ∷ []) ∷ closes ∷ leaf Paragraph (codes "[a]</a>|-|." ∷ []) ∷ []
  pub e228 : seen (codes "<!--  a<&#35;\n|-|-|\n") ≡ leaf Html (codes "<!--  a<&#35;" ∷ codes "|-|-|" ∷ []) ∷ []
  pub e229 : seen (codes "<!--)<a>_**</a>](/u)") ≡ leaf Html (codes "<!--)<a>_**</a>](/u)" ∷ []) ∷ []
  pub e230 : seen (codes "<div>- ````rs\n>[ ] \t") ≡ leaf Html (codes "<div>- ````rs" ∷ codes ">[ ] \t" ∷ []) ∷ []
  pub e231 : seen (codes "> [a]: /u\n+ ```\n===\n") ≡ opens Quote ∷ leaf Definitions (codes "[a]: /u" ∷ []) ∷ closes ∷ opens (Item 43 0 2) ∷ leaf Fenced ([] ∷ []) ∷ closes ∷ leaf Paragraph (codes "===" ∷ []) ∷ []
  pub e232 : seen (codes "[a]: /u\n## <a>[ ] <b") ≡ leaf Definitions (codes "[a]: /u" ∷ []) ∷ leaf (Heading 2) (codes "<a>[ ] <b" ∷ []) ∷ []
  pub e233 : seen (codes "](/u)~~<<!--\n---\n## ") ≡ leaf (Heading 2) (codes "](/u)~~<<!--" ∷ []) ∷ leaf (Heading 2) ([] ∷ []) ∷ []
  pub e234 : seen (codes "]<a>```rs\n</a>===```") ≡ leaf Paragraph (codes "]<a>```rs" ∷ codes "</a>===```" ∷ []) ∷ []
  pub e235 : seen (codes "_> <</a><div>\n|-|-|\n") ≡ leaf Paragraph (codes "_> <</a><div>" ∷ codes "|-|-|" ∷ []) ∷ []
  pub e236 : seen (codes "a[a]<a>Ã©](<http://a>") ≡ leaf Paragraph (codes "a[a]<a>Ã©](<http://a>" ∷ []) ∷ []
  pub e237 : seen (codes "Ã©\n===\n## 1. [a]: /u\n") ≡ leaf (Heading 1) (codes "Ã©" ∷ []) ∷ leaf (Heading 2) (codes "1. [a]: /u" ∷ []) ∷ []
  pub e238 : seen (codes "![\\(<div>\n---\n```rs\n*") ≡ leaf (Heading 2) (codes "![\\(<div>" ∷ []) ∷ leaf Fenced (codes "rs" ∷ codes "*" ∷ []) ∷ []
  pub e239 : seen (35 ∷ 32 ∷ 230 ∷ 166 ∷ 130 ∷ 104 ∷ 116 ∷ 116 ∷ 112 ∷ 58 ∷ 47 ∷ 47 ∷ 120 ∷ 91 ∷ 97 ∷ 93 ∷ 58 ∷ 32 ∷ 47 ∷ 117 ∷ 10 ∷ 45 ∷ 32 ∷ []) ≡ leaf (Heading 1) ((230 ∷ 166 ∷ 130 ∷ 104 ∷ 116 ∷ 116 ∷ 112 ∷ 58 ∷ 47 ∷ 47 ∷ 120 ∷ 91 ∷ 97 ∷ 93 ∷ 58 ∷ 32 ∷ 47 ∷ 117 ∷ []) ∷ []) ∷ opens (Item 45 0 2) ∷ closes ∷ []
  pub e240 : seen (codes "&#35;!<http://a><div>") ≡ leaf Paragraph (codes "&#35;!<http://a><div>" ∷ []) ∷ []
  pub e241 : seen (codes "* \n|-|-|\n\n<a>\n---\n===") ≡ opens (Item 42 0 2) ∷ closes ∷ leaf Paragraph (codes "|-|-|" ∷ []) ∷ leaf Html (codes "<a>" ∷ codes "---" ∷ codes "===" ∷ []) ∷ []
  pub e242 : seen (codes "* ![<b\n---\n<!--(&amp;") ≡ opens (Item 42 0 2) ∷ leaf Paragraph (codes "![<b" ∷ []) ∷ closes ∷ leaf Rule (codes "---" ∷ []) ∷ leaf Html (codes "<!--(&amp;" ∷ []) ∷ []
  pub e243 : seen (codes "+ >```rs\n## a[a]: /u\n") ≡ opens (Item 43 0 2) ∷ opens Quote ∷ leaf Fenced (codes "rs" ∷ []) ∷ closes ∷ closes ∷ leaf (Heading 2) (codes "a[a]: /u" ∷ []) ∷ []
  pub e244 : seen (codes "-->===*<div>*## &#35;") ≡ leaf Paragraph (codes "-->===*<div>*## &#35;" ∷ []) ∷ []
  pub e245 : seen (codes "<!--# foo<http://a>b ") ≡ leaf Html (codes "<!--# foo<http://a>b " ∷ []) ∷ []
  pub e246 : seen (62 ∷ 32 ∷ 35 ∷ 35 ∷ 32 ∷ 93 ∷ 226 ∷ 128 ∷ 156 ∷ 33 ∷ 91 ∷ 60 ∷ 100 ∷ 105 ∷ 118 ∷ 62 ∷ 10 ∷ 124 ∷ 45 ∷ 124 ∷ 45 ∷ 124 ∷ 10 ∷ []) ≡ opens Quote ∷ leaf (Heading 2) ((93 ∷ 226 ∷ 128 ∷ 156 ∷ 33 ∷ 91 ∷ 60 ∷ 100 ∷ 105 ∷ 118 ∷ 62 ∷ []) ∷ []) ∷ closes ∷ leaf Paragraph (codes "|-|-|" ∷ []) ∷ []
  pub e247 : seen (codes "[a]: /u\n</a>\n\n```<a>(") ≡ leaf Definitions (codes "[a]: /u" ∷ []) ∷ leaf Paragraph (codes "</a>" ∷ []) ∷ leaf Fenced (codes "<a>(" ∷ []) ∷ []
  pub e248 : seen (codes "[a][a]: /u\na\n===\n<a>|") ≡ leaf (Heading 1) (codes "[a][a]: /u" ∷ codes "a" ∷ []) ∷ leaf Paragraph (codes "<a>|" ∷ []) ∷ []
  pub e249 : seen (codes "__\n---\n<http://a>~2) ") ≡ leaf (Heading 2) (codes "__" ∷ []) ∷ leaf Paragraph (codes "<http://a>~2) " ∷ []) ∷ []
  pub e250 : seen (codes "__http://x|-|\n---\n---") ≡ leaf (Heading 2) (codes "__http://x|-|" ∷ []) ∷ leaf Rule (codes "---" ∷ []) ∷ []
