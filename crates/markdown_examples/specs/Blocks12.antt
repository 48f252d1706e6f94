-- Examples 276 to 300: what one sees of their blocks.
use Rattle.std.specs.Prelude.{◌≡◌, [], ◌∷◌, codes}
use Rattle.markdown_blocks.specs.declared.containers.Container.TheVariants.{Item}
use Rattle.markdown_leaves.specs.declared.parts.Kind.TheVariants.{Paragraph, Heading, Fenced, Html, Rule}
use Rattle.markdown_examples.specs.Seen.{opens, closes, leaf, seen}

pub record AreBlocks12 : Type 0 where
  pub e276 : seen (codes "](/u)2) \"* \n|-|-|\n\n---\n]") ≡ leaf Paragraph (codes "](/u)2) \"* " ∷ codes "|-|-|" ∷ []) ∷ leaf Rule (codes "---" ∷ []) ∷ leaf Paragraph (codes "]" ∷ []) ∷ []
  pub e277 : seen (codes "](/u)\\*</a>!['<http://a>") ≡ leaf Paragraph (codes "](/u)\\*</a>!['<http://a>" ∷ []) ∷ []
  pub e278 : seen (codes "```rs\n<a>>](/u)---&#35;Ã©") ≡ leaf Fenced (codes "rs" ∷ codes "<a>>](/u)---&#35;Ã©" ∷ []) ∷ []
  pub e279 : seen (codes "http://x* [a]\n\n](/u)</a>") ≡ leaf Paragraph (codes "http://x* [a]" ∷ []) ∷ leaf Paragraph (codes "](/u)</a>" ∷ []) ∷ []
  pub e280 : seen (codes "~  ``<div>\\[a]: /u\n\n===\n") ≡ leaf Paragraph (codes "~  ``<div>\\[a]: /u" ∷ []) ∷ leaf Paragraph (codes "===" ∷ []) ∷ []
  pub e281 : seen (codes "~~\n\nb .**<div><http://a>") ≡ leaf Paragraph (codes "~~" ∷ []) ∷ leaf Paragraph (codes "b .**<div><http://a>" ∷ []) ∷ []
  pub e282 : seen (230 ∷ 166 ∷ 130 ∷ 96 ∷ 96 ∷ 96 ∷ 114 ∷ 115 ∷ 10 ∷ 60 ∷ 33 ∷ 45 ∷ 45 ∷ 49 ∷ 46 ∷ 32 ∷ 10 ∷ 124 ∷ 45 ∷ 124 ∷ 45 ∷ 124 ∷ 10 ∷ 62 ∷ 32 ∷ 32 ∷ []) ≡ leaf Paragraph ((230 ∷ 166 ∷ 130 ∷ 96 ∷ 96 ∷ 96 ∷ 114 ∷ 115 ∷ []) ∷ []) ∷ leaf Html (codes "<!--1. " ∷ codes "|-|-|" ∷ codes ">  " ∷ []) ∷ []
  pub e283 : seen (codes "\n===\n]<div>\n:<http://a>b ") ≡ leaf Paragraph (codes "===" ∷ codes "]<div>" ∷ codes ":<http://a>b " ∷ []) ∷ []
  pub e284 : seen (codes "+ # ``<http://a>\\\n---\n2) ") ≡ opens (Item 43 0 2) ∷ leaf (Heading 1) (codes "``<http://a>\\" ∷ []) ∷ closes ∷ leaf Rule (codes "---" ∷ []) ∷ opens (Item 41 2 3) ∷ closes ∷ []
  pub e285 : seen (codes "1. <b</a>](&amp;[a]: /u\n|") ≡ opens (Item 46 1 3) ∷ leaf Paragraph (codes "<b</a>](&amp;[a]: /u" ∷ codes "|" ∷ []) ∷ closes ∷ []
  pub e286 : seen (codes "2) ~\n---\n<!--  <http://a>") ≡ opens (Item 41 2 3) ∷ leaf Paragraph (codes "~" ∷ []) ∷ closes ∷ leaf Rule (codes "---" ∷ []) ∷ leaf Html (codes "<!--  <http://a>" ∷ []) ∷ []
  pub e287 : seen (codes "# <!--    ---[a]: /u\n# [a]") ≡ leaf (Heading 1) (codes "<!--    ---[a]: /u" ∷ []) ∷ leaf (Heading 1) (codes "[a]" ∷ []) ∷ []
  pub e288 : seen (codes "<!--    &amp;\n---\n|-|Ã©</a>") ≡ leaf Html (codes "<!--    &amp;" ∷ codes "---" ∷ codes "|-|Ã©</a>" ∷ []) ∷ []
  pub e289 : seen (codes "<!--\"<http://a>Ã©\n\n\n===\n## ") ≡ leaf Html (codes "<!--\"<http://a>Ã©" ∷ [] ∷ [] ∷ codes "===" ∷ codes "## " ∷ []) ∷ []
  pub e290 : seen (codes "<!--<http://a>[ ] ```rs\n<b") ≡ leaf Html (codes "<!--<http://a>[ ] ```rs" ∷ codes "<b" ∷ []) ∷ []
  pub e291 : seen (codes "</a>)\n===\n\n===\n<http://a>!") ≡ leaf (Heading 1) (codes "</a>)" ∷ []) ∷ leaf Paragraph (codes "===" ∷ codes "<http://a>!" ∷ []) ∷ []
  pub e292 : seen (60 ∷ 47 ∷ 97 ∷ 62 ∷ 60 ∷ 100 ∷ 105 ∷ 118 ∷ 62 ∷ 226 ∷ 128 ∷ 156 ∷ 91 ∷ 97 ∷ 93 ∷ 58 ∷ 32 ∷ 47 ∷ 117 ∷ 10 ∷ 124 ∷ 93 ∷ 40 ∷ 10 ∷ 45 ∷ 45 ∷ 45 ∷ 10 ∷ []) ≡ leaf (Heading 2) ((60 ∷ 47 ∷ 97 ∷ 62 ∷ 60 ∷ 100 ∷ 105 ∷ 118 ∷ 62 ∷ 226 ∷ 128 ∷ 156 ∷ 91 ∷ 97 ∷ 93 ∷ 58 ∷ 32 ∷ 47 ∷ 117 ∷ []) ∷ codes "|](" ∷ []) ∷ []
  pub e293 : seen (codes "<div>```rs\n!:[a]: /u\n<a>- ") ≡ leaf Html (codes "<div>```rs" ∷ codes "!:[a]: /u" ∷ codes "<a>- " ∷ []) ∷ []
  pub e294 : seen (codes "===[<http://a>```<a>\"\n---\n") ≡ leaf (Heading 2) (codes "===[<http://a>```<a>\"" ∷ []) ∷ []
  pub e295 : seen (codes "<b    >  >\n|-|-|\n<http://a>") ≡ leaf Paragraph (codes "<b    >  >" ∷ codes "|-|-|" ∷ codes "<http://a>" ∷ []) ∷ []
  pub e296 : seen (10 ∷ 10 ∷ 124 ∷ 45 ∷ 124 ∷ 45 ∷ 124 ∷ 10 ∷ 42 ∷ 42 ∷ 91 ∷ 97 ∷ 93 ∷ 58 ∷ 32 ∷ 47 ∷ 117 ∷ 10 ∷ 10 ∷ 124 ∷ 45 ∷ 124 ∷ 45 ∷ 124 ∷ 10 ∷ 43 ∷ 32 ∷ 226 ∷ 128 ∷ 156 ∷ []) ≡ leaf Paragraph (codes "|-|-|" ∷ codes "**[a]: /u" ∷ []) ∷ leaf Paragraph (codes "|-|-|" ∷ []) ∷ opens (Item 43 0 2) ∷ leaf Paragraph ((226 ∷ 128 ∷ 156 ∷ []) ∷ []) ∷ closes ∷ []
  pub e297 : seen (codes "\n---\n<http://a>\n---\n`|-|[ ] ") ≡ leaf Rule (codes "---" ∷ []) ∷ leaf (Heading 2) (codes "<http://a>" ∷ []) ∷ leaf Paragraph (codes "`|-|[ ] " ∷ []) ∷ []
  pub e298 : seen (49 ∷ 46 ∷ 32 ∷ 60 ∷ 97 ∷ 62 ∷ 230 ∷ 166 ∷ 130 ∷ 60 ∷ 104 ∷ 116 ∷ 116 ∷ 112 ∷ 58 ∷ 47 ∷ 47 ∷ 97 ∷ 62 ∷ 60 ∷ 104 ∷ 116 ∷ 116 ∷ 112 ∷ 58 ∷ 47 ∷ 47 ∷ 120 ∷ 33 ∷ 91 ∷ []) ≡ opens (Item 46 1 3) ∷ leaf Paragraph ((60 ∷ 97 ∷ 62 ∷ 230 ∷ 166 ∷ 130 ∷ 60 ∷ 104 ∷ 116 ∷ 116 ∷ 112 ∷ 58 ∷ 47 ∷ 47 ∷ 97 ∷ 62 ∷ 60 ∷ 104 ∷ 116 ∷ 116 ∷ 112 ∷ 58 ∷ 47 ∷ 47 ∷ 120 ∷ 33 ∷ 91 ∷ []) ∷ []) ∷ closes ∷ []
  pub e299 : seen (codes "<!--===```* \n===\n\t<http://a>") ≡ leaf Html (codes "<!--===```* " ∷ codes "===" ∷ codes "\t<http://a>" ∷ []) ∷ []
  pub e300 : seen (codes "===\n|-|-|\n+ :> <http://a>~~~") ≡ leaf Paragraph (codes "===" ∷ codes "|-|-|" ∷ []) ∷ opens (Item 43 0 2) ∷ leaf Paragraph (codes ":> <http://a>~~~" ∷ []) ∷ closes ∷ []
