-- Examples 276 to 300, computed.
use Rattle.std.proofs.Common.{◌≡◌, [], ◌∷◌, codes, refl}
use Rattle.markdown_blocks.specs.declared.containers.Container.TheVariants.{Item}
use Rattle.markdown_leaves.specs.declared.parts.Kind.TheVariants.{Paragraph, Heading, Fenced, Html, Rule}
use Rattle.markdown_examples.specs.Seen.{opens, closes, leaf, seen}
use Rattle.markdown_examples.specs.Blocks12.{AreBlocks12}
use Rattle.markdown_as_html.proofs.Computing.{reading}

e276 : seen (codes "](/u)2) \"* \n|-|-|\n\n---\n]") ≡ leaf Paragraph (codes "](/u)2) \"* " ∷ codes "|-|-|" ∷ []) ∷ leaf Rule (codes "---" ∷ []) ∷ leaf Paragraph (codes "]" ∷ []) ∷ []
unfolding reading
e276 = refl

e277 : seen (codes "](/u)\\*</a>!['<http://a>") ≡ leaf Paragraph (codes "](/u)\\*</a>!['<http://a>" ∷ []) ∷ []
unfolding reading
e277 = refl

e278 : seen (codes "```rs\n<a>>](/u)---&#35;Ã©") ≡ leaf Fenced (codes "rs" ∷ codes "<a>>](/u)---&#35;Ã©" ∷ []) ∷ []
unfolding reading
e278 = refl

e279 : seen (codes "http://x* [a]\n\n](/u)</a>") ≡ leaf Paragraph (codes "http://x* [a]" ∷ []) ∷ leaf Paragraph (codes "](/u)</a>" ∷ []) ∷ []
unfolding reading
e279 = refl

e280 : seen (codes "~  ``<div>\\[a]: /u\n\n===\n") ≡ leaf Paragraph (codes "~  ``<div>\\[a]: /u" ∷ []) ∷ leaf Paragraph (codes "===" ∷ []) ∷ []
unfolding reading
e280 = refl

e281 : seen (codes "~~\n\nb .**<div><http://a>") ≡ leaf Paragraph (codes "~~" ∷ []) ∷ leaf Paragraph (codes "b .**<div><http://a>" ∷ []) ∷ []
unfolding reading
e281 = refl

e282 : seen (230 ∷ 166 ∷ 130 ∷ 96 ∷ 96 ∷ 96 ∷ 114 ∷ 115 ∷ 10 ∷ 60 ∷ 33 ∷ 45 ∷ 45 ∷ 49 ∷ 46 ∷ 32 ∷ 10 ∷ 124 ∷ 45 ∷ 124 ∷ 45 ∷ 124 ∷ 10 ∷ 62 ∷ 32 ∷ 32 ∷ []) ≡ leaf Paragraph ((230 ∷ 166 ∷ 130 ∷ 96 ∷ 96 ∷ 96 ∷ 114 ∷ 115 ∷ []) ∷ []) ∷ leaf Html (codes "<!--1. " ∷ codes "|-|-|" ∷ codes ">  " ∷ []) ∷ []
unfolding reading
e282 = refl

e283 : seen (codes "\n===\n]<div>\n:<http://a>b ") ≡ leaf Paragraph (codes "===" ∷ codes "]<div>" ∷ codes ":<http://a>b " ∷ []) ∷ []
unfolding reading
e283 = refl

e284 : seen (codes "+ # ``<http://a>\\\n---\n2) ") ≡ opens (Item 43 0 2) ∷ leaf (Heading 1) (codes "``<http://a>\\" ∷ []) ∷ closes ∷ leaf Rule (codes "---" ∷ []) ∷ opens (Item 41 2 3) ∷ closes ∷ []
unfolding reading
e284 = refl

e285 : seen (codes "1. <b</a>](&amp;[a]: /u\n|") ≡ opens (Item 46 1 3) ∷ leaf Paragraph (codes "<b</a>](&amp;[a]: /u" ∷ codes "|" ∷ []) ∷ closes ∷ []
unfolding reading
e285 = refl

e286 : seen (codes "2) ~\n---\n<!--  <http://a>") ≡ opens (Item 41 2 3) ∷ leaf Paragraph (codes "~" ∷ []) ∷ closes ∷ leaf Rule (codes "---" ∷ []) ∷ leaf Html (codes "<!--  <http://a>" ∷ []) ∷ []
unfolding reading
e286 = refl

e287 : seen (codes "# <!--    ---[a]: /u\n# [a]") ≡ leaf (Heading 1) (codes "<!--    ---[a]: /u" ∷ []) ∷ leaf (Heading 1) (codes "[a]" ∷ []) ∷ []
unfolding reading
e287 = refl

e288 : seen (codes "<!--    &amp;\n---\n|-|Ã©</a>") ≡ leaf Html (codes "<!--    &amp;" ∷ codes "---" ∷ codes "|-|Ã©</a>" ∷ []) ∷ []
unfolding reading
e288 = refl

e289 : seen (codes "<!--\"<http://a>Ã©\n\n\n===\n## ") ≡ leaf Html (codes "<!--\"<http://a>Ã©" ∷ [] ∷ [] ∷ codes "===" ∷ codes "## " ∷ []) ∷ []
unfolding reading
e289 = refl

e290 : seen (codes "<!--<http://a>[ ] ```rs\n<b") ≡ leaf Html (codes "<!--<http://a>[ ] ```rs" ∷ codes "<b" ∷ []) ∷ []
unfolding reading
e290 = refl

e291 : seen (codes "</a>)\n===\n\n===\n<http://a>!") ≡ leaf (Heading 1) (codes "</a>)" ∷ []) ∷ leaf Paragraph (codes "===" ∷ codes "<http://a>!" ∷ []) ∷ []
unfolding reading
e291 = refl

e292 : seen (60 ∷ 47 ∷ 97 ∷ 62 ∷ 60 ∷ 100 ∷ 105 ∷ 118 ∷ 62 ∷ 226 ∷ 128 ∷ 156 ∷ 91 ∷ 97 ∷ 93 ∷ 58 ∷ 32 ∷ 47 ∷ 117 ∷ 10 ∷ 124 ∷ 93 ∷ 40 ∷ 10 ∷ 45 ∷ 45 ∷ 45 ∷ 10 ∷ []) ≡ leaf (Heading 2) ((60 ∷ 47 ∷ 97 ∷ 62 ∷ 60 ∷ 100 ∷ 105 ∷ 118 ∷ 62 ∷ 226 ∷ 128 ∷ 156 ∷ 91 ∷ 97 ∷ 93 ∷ 58 ∷ 32 ∷ 47 ∷ 117 ∷ []) ∷ codes "|](" ∷ []) ∷ []
unfolding reading
e292 = refl

e293 : seen (codes "<div>```rs\n!:[a]: /u\n<a>- ") ≡ leaf Html (codes "<div>```rs" ∷ codes "!:[a]: /u" ∷ codes "<a>- " ∷ []) ∷ []
unfolding reading
e293 = refl

e294 : seen (codes "===[<http://a>```<a>\"\n---\n") ≡ leaf (Heading 2) (codes "===[<http://a>```<a>\"" ∷ []) ∷ []
unfolding reading
e294 = refl

e295 : seen (codes "<b    >  >\n|-|-|\n<http://a>") ≡ leaf Paragraph (codes "<b    >  >" ∷ codes "|-|-|" ∷ codes "<http://a>" ∷ []) ∷ []
unfolding reading
e295 = refl

e296 : seen (10 ∷ 10 ∷ 124 ∷ 45 ∷ 124 ∷ 45 ∷ 124 ∷ 10 ∷ 42 ∷ 42 ∷ 91 ∷ 97 ∷ 93 ∷ 58 ∷ 32 ∷ 47 ∷ 117 ∷ 10 ∷ 10 ∷ 124 ∷ 45 ∷ 124 ∷ 45 ∷ 124 ∷ 10 ∷ 43 ∷ 32 ∷ 226 ∷ 128 ∷ 156 ∷ []) ≡ leaf Paragraph (codes "|-|-|" ∷ codes "**[a]: /u" ∷ []) ∷ leaf Paragraph (codes "|-|-|" ∷ []) ∷ opens (Item 43 0 2) ∷ leaf Paragraph ((226 ∷ 128 ∷ 156 ∷ []) ∷ []) ∷ closes ∷ []
unfolding reading
e296 = refl

e297 : seen (codes "\n---\n<http://a>\n---\n`|-|[ ] ") ≡ leaf Rule (codes "---" ∷ []) ∷ leaf (Heading 2) (codes "<http://a>" ∷ []) ∷ leaf Paragraph (codes "`|-|[ ] " ∷ []) ∷ []
unfolding reading
e297 = refl

e298 : seen (49 ∷ 46 ∷ 32 ∷ 60 ∷ 97 ∷ 62 ∷ 230 ∷ 166 ∷ 130 ∷ 60 ∷ 104 ∷ 116 ∷ 116 ∷ 112 ∷ 58 ∷ 47 ∷ 47 ∷ 97 ∷ 62 ∷ 60 ∷ 104 ∷ 116 ∷ 116 ∷ 112 ∷ 58 ∷ 47 ∷ 47 ∷ 120 ∷ 33 ∷ 91 ∷ []) ≡ opens (Item 46 1 3) ∷ leaf Paragraph ((60 ∷ 97 ∷ 62 ∷ 230 ∷ 166 ∷ 130 ∷ 60 ∷ 104 ∷ 116 ∷ 116 ∷ 112 ∷ 58 ∷ 47 ∷ 47 ∷ 97 ∷ 62 ∷ 60 ∷ 104 ∷ 116 ∷ 116 ∷ 112 ∷ 58 ∷ 47 ∷ 47 ∷ 120 ∷ 33 ∷ 91 ∷ []) ∷ []) ∷ closes ∷ []
unfolding reading
e298 = refl

e299 : seen (codes "<!--===```* \n===\n\t<http://a>") ≡ leaf Html (codes "<!--===```* " ∷ codes "===" ∷ codes "\t<http://a>" ∷ []) ∷ []
unfolding reading
e299 = refl

e300 : seen (codes "===\n|-|-|\n+ :> <http://a>~~~") ≡ leaf Paragraph (codes "===" ∷ codes "|-|-|" ∷ []) ∷ opens (Item 43 0 2) ∷ leaf Paragraph (codes ":> <http://a>~~~" ∷ []) ∷ closes ∷ []
unfolding reading
e300 = refl

pub blocks12 : AreBlocks12
blocks12 = record { e276 = e276; e277 = e277; e278 = e278; e279 = e279; e280 = e280; e281 = e281; e282 = e282; e283 = e283; e284 = e284; e285 = e285; e286 = e286; e287 = e287; e288 = e288; e289 = e289; e290 = e290; e291 = e291; e292 = e292; e293 = e293; e294 = e294; e295 = e295; e296 = e296; e297 = e297; e298 = e298; e299 = e299; e300 = e300 }
