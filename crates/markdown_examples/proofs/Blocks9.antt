-- Examples 201 to 225, computed.
use Rattle.std.proofs.Common.{◌≡◌, [], ◌∷◌, codes, refl}
use Rattle.markdown_blocks.specs.declared.containers.Container.TheVariants.{Quote, Item}
use Rattle.markdown_leaves.specs.declared.parts.Kind.TheVariants.{Paragraph, Heading, Indented, Fenced, Html, Rule, Definitions}
use Rattle.markdown_examples.specs.Seen.{opens, closes, leaf, seen}
use Rattle.markdown_examples.specs.Blocks9.{AreBlocks9}
use Rattle.markdown_as_html.proofs.Computing.{reading}

e201 : seen (codes "\\b ```rs\n+ ~~~    ") ≡ leaf Paragraph (codes "\\b ```rs" ∷ []) ∷ opens (Item 43 0 2) ∷ leaf Fenced ([] ∷ []) ∷ closes ∷ []
unfolding reading
e201 = refl

e202 : seen (codes "foo\n---\n</a>[  2) ") ≡ leaf (Heading 2) (codes "foo" ∷ []) ∷ leaf Paragraph (codes "</a>[  2) " ∷ []) ∷ []
unfolding reading
e202 = refl

e203 : seen (codes "\n===\n1. - 2) ```rs\n") ≡ leaf Paragraph (codes "===" ∷ []) ∷ opens (Item 46 1 3) ∷ opens (Item 45 0 2) ∷ opens (Item 41 2 3) ∷ leaf Fenced (codes "rs" ∷ []) ∷ closes ∷ closes ∷ closes ∷ []
unfolding reading
e203 = refl

e204 : seen (codes " >   ```rs\nfoo`````") ≡ opens Quote ∷ leaf Fenced (codes "rs" ∷ []) ∷ closes ∷ leaf Paragraph (codes "foo`````" ∷ []) ∷ []
unfolding reading
e204 = refl

e205 : seen (codes "## ~~<b]</a>\t```rs\n") ≡ leaf (Heading 2) (codes "~~<b]</a>\t```rs" ∷ []) ∷ []
unfolding reading
e205 = refl

e206 : seen (codes "'<div></a>](/u)===a") ≡ leaf Paragraph (codes "'<div></a>](/u)===a" ∷ []) ∷ []
unfolding reading
e206 = refl

e207 : seen (codes "(](![``\n|-|-|\n <!--") ≡ leaf Paragraph (codes "(](![``" ∷ codes "|-|-|" ∷ []) ∷ leaf Html (codes " <!--" ∷ []) ∷ []
unfolding reading
e207 = refl

e208 : seen (codes "- b [a]: /u\n```# __") ≡ opens (Item 45 0 2) ∷ leaf Paragraph (codes "b [a]: /u" ∷ []) ∷ closes ∷ leaf Fenced (codes "# __" ∷ []) ∷ []
unfolding reading
e208 = refl

e209 : seen (45 ∷ 45 ∷ 45 ∷ 10 ∷ 124 ∷ 45 ∷ 124 ∷ 45 ∷ 124 ∷ 10 ∷ 33 ∷ 91 ∷ 230 ∷ 166 ∷ 130 ∷ 9 ∷ 10 ∷ 61 ∷ 61 ∷ 61 ∷ 10 ∷ []) ≡ leaf Rule (codes "---" ∷ []) ∷ leaf (Heading 1) (codes "|-|-|" ∷ (33 ∷ 91 ∷ 230 ∷ 166 ∷ 130 ∷ 9 ∷ []) ∷ []) ∷ []
unfolding reading
e209 = refl

e210 : seen (codes ".\n\n|-|<div>~~~~~|-|") ≡ leaf Paragraph (codes "." ∷ []) ∷ leaf Paragraph (codes "|-|<div>~~~~~|-|" ∷ []) ∷ []
unfolding reading
e210 = refl

e211 : seen (codes "1.       __\n---\nb !") ≡ opens (Item 46 1 3) ∷ leaf Indented (codes "  __" ∷ []) ∷ closes ∷ leaf Rule (codes "---" ∷ []) ∷ leaf Paragraph (codes "b !" ∷ []) ∷ []
unfolding reading
e211 = refl

e212 : seen (codes "<!--.# <a><!--_</a>") ≡ leaf Html (codes "<!--.# <a><!--_</a>" ∷ []) ∷ []
unfolding reading
e212 = refl

e213 : seen (codes "<!--```rs\n``\n![[a]\t") ≡ leaf Html (codes "<!--```rs" ∷ codes "``" ∷ codes "![[a]\t" ∷ []) ∷ []
unfolding reading
e213 = refl

e214 : seen (codes "</a>2) ](/u)\n---\n![") ≡ leaf (Heading 2) (codes "</a>2) ](/u)" ∷ []) ∷ leaf Paragraph (codes "![" ∷ []) ∷ []
unfolding reading
e214 = refl

e215 : seen (60 ∷ 47 ∷ 97 ∷ 62 ∷ 96 ∷ 96 ∷ 226 ∷ 128 ∷ 156 ∷ 10 ∷ 61 ∷ 61 ∷ 61 ∷ 10 ∷ 93 ∷ 40 ∷ 47 ∷ 117 ∷ 41 ∷ 126 ∷ 126 ∷ []) ≡ leaf (Heading 1) ((60 ∷ 47 ∷ 97 ∷ 62 ∷ 96 ∷ 96 ∷ 226 ∷ 128 ∷ 156 ∷ []) ∷ []) ∷ leaf Paragraph (codes "](/u)~~" ∷ []) ∷ []
unfolding reading
e215 = refl

e216 : seen (codes "<div>\t> \n===\n===](\\") ≡ leaf Html (codes "<div>\t> " ∷ codes "===" ∷ codes "===](\\" ∷ []) ∷ []
unfolding reading
e216 = refl

e217 : seen (codes "<div>..\n===\n>[a]## ") ≡ leaf Html (codes "<div>.." ∷ codes "===" ∷ codes ">[a]## " ∷ []) ∷ []
unfolding reading
e217 = refl

e218 : seen (60 ∷ 104 ∷ 116 ∷ 116 ∷ 112 ∷ 58 ∷ 47 ∷ 47 ∷ 97 ∷ 62 ∷ 226 ∷ 128 ∷ 156 ∷ 92 ∷ 42 ∷ 46 ∷ 10 ∷ 45 ∷ 45 ∷ 45 ∷ 10 ∷ []) ≡ leaf (Heading 2) ((60 ∷ 104 ∷ 116 ∷ 116 ∷ 112 ∷ 58 ∷ 47 ∷ 47 ∷ 97 ∷ 62 ∷ 226 ∷ 128 ∷ 156 ∷ 92 ∷ 42 ∷ 46 ∷ []) ∷ []) ∷ []
unfolding reading
e218 = refl

e219 : seen (codes "> \n\n\n|-|-|\n\n\n&#35;>") ≡ opens Quote ∷ closes ∷ leaf Paragraph (codes "|-|-|" ∷ []) ∷ leaf Paragraph (codes "&#35;>" ∷ []) ∷ []
unfolding reading
e219 = refl

e220 : seen (codes ">[a]: /u\nb **[](/u)") ≡ opens Quote ∷ leaf Definitions (codes "[a]: /u" ∷ []) ∷ leaf Paragraph (codes "b **[](/u)" ∷ []) ∷ closes ∷ []
unfolding reading
e220 = refl

e221 : seen (95 ∷ 91 ∷ 10 ∷ 61 ∷ 61 ∷ 61 ∷ 10 ∷ 96 ∷ 96 ∷ 96 ∷ 114 ∷ 115 ∷ 10 ∷ 42 ∷ 42 ∷ 102 ∷ 111 ∷ 111 ∷ 226 ∷ 128 ∷ 156 ∷ []) ≡ leaf (Heading 1) (codes "_[" ∷ []) ∷ leaf Fenced (codes "rs" ∷ (42 ∷ 42 ∷ 102 ∷ 111 ∷ 111 ∷ 226 ∷ 128 ∷ 156 ∷ []) ∷ []) ∷ []
unfolding reading
e221 = refl

e222 : seen (codes "__<a>~~>\n===\n<div>\n") ≡ leaf (Heading 1) (codes "__<a>~~>" ∷ []) ∷ leaf Html (codes "<div>" ∷ []) ∷ []
unfolding reading
e222 = refl

e223 : seen (codes "\n---\n</a>\t__http://x") ≡ leaf Rule (codes "---" ∷ []) ∷ leaf Paragraph (codes "</a>\t__http://x" ∷ []) ∷ []
unfolding reading
e223 = refl

e224 : seen (codes "\n|-|-|\n<div>```<div>") ≡ leaf Paragraph (codes "|-|-|" ∷ []) ∷ leaf Html (codes "<div>```<div>" ∷ []) ∷ []
unfolding reading
e224 = refl

e225 : seen (codes "# <http://a>http://x") ≡ leaf (Heading 1) (codes "<http://a>http://x" ∷ []) ∷ []
unfolding reading
e225 = refl

pub blocks9 : AreBlocks9
blocks9 = record { e201 = e201; e202 = e202; e203 = e203; e204 = e204; e205 = e205; e206 = e206; e207 = e207; e208 = e208; e209 = e209; e210 = e210; e211 = e211; e212 = e212; e213 = e213; e214 = e214; e215 = e215; e216 = e216; e217 = e217; e218 = e218; e219 = e219; e220 = e220; e221 = e221; e222 = e222; e223 = e223; e224 = e224; e225 = e225 }
