-- Examples 201 to 225: what one sees of their blocks.
use Rattle.std.specs.Prelude.{◌≡◌, [], ◌∷◌, codes}
use Rattle.markdown_blocks.specs.declared.containers.Container.TheVariants.{Quote, Item}
use Rattle.markdown_leaves.specs.declared.parts.Kind.TheVariants.{Paragraph, Heading, Indented, Fenced, Html, Rule, Definitions}
use Rattle.markdown_examples.specs.Seen.{opens, closes, leaf, seen}

pub record AreBlocks9 : Type 0 where
  pub e201 : seen (codes "\\b ```rs\n+ ~~~    ") ≡ leaf Paragraph (codes "\\b ```rs" ∷ []) ∷ opens (Item 43 0 2) ∷ leaf Fenced ([] ∷ []) ∷ closes ∷ []
  pub e202 : seen (codes "foo\n---\n</a>[  2) ") ≡ leaf (Heading 2) (codes "foo" ∷ []) ∷ leaf Paragraph (codes "</a>[  2) " ∷ []) ∷ []
  pub e203 : seen (codes "\n===\n1. - 2) ```rs\n") ≡ leaf Paragraph (codes "===" ∷ []) ∷ opens (Item 46 1 3) ∷ opens (Item 45 0 2) ∷ opens (Item 41 2 3) ∷ leaf Fenced (codes "rs" ∷ []) ∷ closes ∷ closes ∷ closes ∷ []
  pub e204 : seen (codes " >   ```rs\nfoo`````") ≡ opens Quote ∷ leaf Fenced (codes "rs" ∷ []) ∷ closes ∷ leaf Paragraph (codes "foo`````" ∷ []) ∷ []
  pub e205 : seen (codes "## ~~<b]</a>\t```rs\n") ≡ leaf (Heading 2) (codes "~~<b]</a>\t```rs" ∷ []) ∷ []
  pub e206 : seen (codes "'<div></a>](/u)===a") ≡ leaf Paragraph (codes "'<div></a>](/u)===a" ∷ []) ∷ []
  pub e207 : seen (codes "(](![``\n|-|-|\n <!--") ≡ leaf Paragraph (codes "(](![``" ∷ codes "|-|-|" ∷ []) ∷ leaf Html (codes " <!--" ∷ []) ∷ []
  pub e208 : seen (codes "- b [a]: /u\n```# __") ≡ opens (Item 45 0 2) ∷ leaf Paragraph (codes "b [a]: /u" ∷ []) ∷ closes ∷ leaf Fenced (codes "# __" ∷ []) ∷ []
  pub e209 : seen (45 ∷ 45 ∷ 45 ∷ 10 ∷ 124 ∷ 45 ∷ 124 ∷ 45 ∷ 124 ∷ 10 ∷ 33 ∷ 91 ∷ 230 ∷ 166 ∷ 130 ∷ 9 ∷ 10 ∷ 61 ∷ 61 ∷ 61 ∷ 10 ∷ []) ≡ leaf Rule (codes "---" ∷ []) ∷ leaf (Heading 1) (codes "|-|-|" ∷ (33 ∷ 91 ∷ 230 ∷ 166 ∷ 130 ∷ 9 ∷ []) ∷ []) ∷ []
  pub e210 : seen (codes ".\n\n|-|<div>~~~~~|-|") ≡ leaf Paragraph (codes "." ∷ []) ∷ leaf Paragraph (codes "|-|<div>~~~~~|-|" ∷ []) ∷ []
  pub e211 : seen (codes "1.       __\n---\nb !") ≡ opens (Item 46 1 3) ∷ leaf Indented (codes "  __" ∷ []) ∷ closes ∷ leaf Rule (codes "---" ∷ []) ∷ leaf Paragraph (codes "b !" ∷ []) ∷ []
  pub e212 : seen (codes "<!--.# <a><!--_</a>") ≡ leaf Html (codes "<!--.# <a><!--_</a>" ∷ []) ∷ []
  pub e213 : seen (codes "<!--```rs\n``\n![[a]\t") ≡ leaf Html (codes "<!--```rs" ∷ codes "``" ∷ codes "![[a]\t" ∷ []) ∷ []
  pub e214 : seen (codes "</a>2) ](/u)\n---\n![") ≡ leaf (Heading 2) (codes "</a>2) ](/u)" ∷ []) ∷ leaf Paragraph (codes "![" ∷ []) ∷ []
  pub e215 : seen (60 ∷ 47 ∷ 97 ∷ 62 ∷ 96 ∷ 96 ∷ 226 ∷ 128 ∷ 156 ∷ 10 ∷ 61 ∷ 61 ∷ 61 ∷ 10 ∷ 93 ∷ 40 ∷ 47 ∷ 117 ∷ 41 ∷ 126 ∷ 126 ∷ []) ≡ leaf (Heading 1) ((60 ∷ 47 ∷ 97 ∷ 62 ∷ 96 ∷ 96 ∷ 226 ∷ 128 ∷ 156 ∷ []) ∷ []) ∷ leaf Paragraph (codes "](/u)~~" ∷ []) ∷ []
  pub e216 : seen (codes "<div>\t> \n===\n===](\\") ≡ leaf Html (codes "<div>\t> " ∷ codes "===" ∷ codes "===](\\" ∷ []) ∷ []
  pub e217 : seen (codes "<div>..\n===\n>[a]## ") ≡ leaf Html (codes "<div>.." ∷ codes "===" ∷ codes ">[a]## " ∷ []) ∷ []
  pub e218 : seen (60 ∷ 104 ∷ 116 ∷ 116 ∷ 112 ∷ 58 ∷ 47 ∷ 47 ∷ 97 ∷ 62 ∷ 226 ∷ 128 ∷ 156 ∷ 92 ∷ 42 ∷ 46 ∷ 10 ∷ 45 ∷ 45 ∷ 45 ∷ 10 ∷ []) ≡ leaf (Heading 2) ((60 ∷ 104 ∷ 116 ∷ 116 ∷ 112 ∷ 58 ∷ 47 ∷ 47 ∷ 97 ∷ 62 ∷ 226 ∷ 128 ∷ 156 ∷ 92 ∷ 42 ∷ 46 ∷ []) ∷ []) ∷ []
  pub e219 : seen (codes "> \n\n\n|-|-|\n\n\n&#35;>") ≡ opens Quote ∷ closes ∷ leaf Paragraph (codes "|-|-|" ∷ []) ∷ leaf Paragraph (codes "&#35;>" ∷ []) ∷ []
  pub e220 : seen (codes ">[a]: /u\nb **[](/u)") ≡ opens Quote ∷ leaf Definitions (codes "[a]: /u" ∷ []) ∷ leaf Paragraph (codes "b **[](/u)" ∷ []) ∷ closes ∷ []
  pub e221 : seen (95 ∷ 91 ∷ 10 ∷ 61 ∷ 61 ∷ 61 ∷ 10 ∷ 96 ∷ 96 ∷ 96 ∷ 114 ∷ 115 ∷ 10 ∷ 42 ∷ 42 ∷ 102 ∷ 111 ∷ 111 ∷ 226 ∷ 128 ∷ 156 ∷ []) ≡ leaf (Heading 1) (codes "_[" ∷ []) ∷ leaf Fenced (codes "rs" ∷ (42 ∷ 42 ∷ 102 ∷ 111 ∷ 111 ∷ 226 ∷ 128 ∷ 156 ∷ []) ∷ []) ∷ []
  pub e222 : seen (codes "__<a>~~>\n===\n<div>\n") ≡ leaf (Heading 1) (codes "__<a>~~>" ∷ []) ∷ leaf Html (codes "<div>" ∷ []) ∷ []
  pub e223 : seen (codes "\n---\n</a>\t__http://x") ≡ leaf Rule (codes "---" ∷ []) ∷ leaf Paragraph (codes "</a>\t__http://x" ∷ []) ∷ []
  pub e224 : seen (codes "\n|-|-|\n<div>```<div>") ≡ leaf Paragraph (codes "|-|-|" ∷ []) ∷ leaf Html (codes "<div>```<div>" ∷ []) ∷ []
  pub e225 : seen (codes "# <http://a>http://x") ≡ leaf (Heading 1) (codes "<http://a>http://x" ∷ []) ∷ []
