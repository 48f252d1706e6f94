-- Examples 176 to 200, computed.
use Rattle.std.proofs.Common.{◌≡◌, [], ◌∷◌, codes, refl}
use Rattle.markdown_blocks.specs.declared.containers.Container.TheVariants.{Quote, Item}
use Rattle.markdown_leaves.specs.declared.parts.Kind.TheVariants.{Paragraph, Heading, Indented, Fenced, Html, Rule, Definitions}
use Rattle.markdown_examples.specs.Seen.{opens, closes, leaf, seen}
use Rattle.markdown_examples.specs.Blocks8.{AreBlocks8}
use Rattle.markdown_as_html.proofs.Computing.{reading}

e176 : seen (codes "* <http://a>## <b") ≡ opens (Item 42 0 2) ∷ leaf Paragraph (codes "<http://a>## <b" ∷ []) ∷ closes ∷ []
unfolding reading
e176 = refl

e177 : seen (codes "- ```+ [a]: /u\n](") ≡ opens (Item 45 0 2) ∷ leaf Fenced (codes "+ [a]: /u" ∷ []) ∷ closes ∷ leaf Paragraph (codes "](" ∷ []) ∷ []
unfolding reading
e177 = refl

e178 : seen (codes "---~~~\n===\n    ](") ≡ leaf (Heading 1) (codes "---~~~" ∷ []) ∷ leaf Indented (codes "](" ∷ []) ∷ []
unfolding reading
e178 = refl

e179 : seen (codes "<!--(<b(http://x>") ≡ leaf Html (codes "<!--(<b(http://x>" ∷ []) ∷ []
unfolding reading
e179 = refl

e180 : seen (codes "</a>Ã©</a>\n===\n```") ≡ leaf (Heading 1) (codes "</a>Ã©</a>" ∷ []) ∷ leaf Fenced ([] ∷ []) ∷ []
unfolding reading
e180 = refl

e181 : seen (codes "<a>\n|-|-|\n\n|-|-|\n") ≡ leaf Html (codes "<a>" ∷ codes "|-|-|" ∷ []) ∷ leaf Paragraph (codes "|-|-|" ∷ []) ∷ []
unfolding reading
e181 = refl

e182 : seen (codes ">1. ](&#35;<div>~") ≡ opens Quote ∷ opens (Item 46 1 3) ∷ leaf Paragraph (codes "](&#35;<div>~" ∷ []) ∷ closes ∷ closes ∷ []
unfolding reading
e182 = refl

e183 : seen (codes ">```---](/u).]1. ") ≡ opens Quote ∷ leaf Fenced (codes "---](/u).]1." ∷ []) ∷ closes ∷ []
unfolding reading
e183 = refl

e184 : seen (codes "[\t<div><div>*:```") ≡ leaf Paragraph (codes "[\t<div><div>*:```" ∷ []) ∷ []
unfolding reading
e184 = refl

e185 : seen (codes "__<b__<http://a>~") ≡ leaf Paragraph (codes "__<b__<http://a>~" ∷ []) ∷ []
unfolding reading
e185 = refl

e186 : seen (102 ∷ 111 ∷ 111 ∷ 226 ∷ 128 ∷ 156 ∷ 50 ∷ 41 ∷ 32 ∷ 49 ∷ 46 ∷ 32 ∷ 10 ∷ 45 ∷ 45 ∷ 45 ∷ 10 ∷ 43 ∷ 32 ∷ []) ≡ leaf (Heading 2) ((102 ∷ 111 ∷ 111 ∷ 226 ∷ 128 ∷ 156 ∷ 50 ∷ 41 ∷ 32 ∷ 49 ∷ 46 ∷ 32 ∷ []) ∷ []) ∷ opens (Item 43 0 2) ∷ closes ∷ []
unfolding reading
e186 = refl

e187 : seen (10 ∷ 61 ∷ 61 ∷ 61 ∷ 10 ∷ 10 ∷ 45 ∷ 45 ∷ 45 ∷ 10 ∷ 60 ∷ 100 ∷ 105 ∷ 118 ∷ 62 ∷ 230 ∷ 166 ∷ 130 ∷ 46 ∷ 230 ∷ 166 ∷ 130 ∷ []) ≡ leaf Paragraph (codes "===" ∷ []) ∷ leaf Rule (codes "---" ∷ []) ∷ leaf Html ((60 ∷ 100 ∷ 105 ∷ 118 ∷ 62 ∷ 230 ∷ 166 ∷ 130 ∷ 46 ∷ 230 ∷ 166 ∷ 130 ∷ []) ∷ []) ∷ []
unfolding reading
e187 = refl

e188 : seen (codes "\n===\n## \\*!\n```rs\n") ≡ leaf Paragraph (codes "===" ∷ []) ∷ leaf (Heading 2) (codes "\\*!" ∷ []) ∷ leaf Fenced (codes "rs" ∷ []) ∷ []
unfolding reading
e188 = refl

e189 : seen (codes "![](/u)<b\n---\n\\*# ") ≡ leaf (Heading 2) (codes "![](/u)<b" ∷ []) ∷ leaf Paragraph (codes "\\*# " ∷ []) ∷ []
unfolding reading
e189 = refl

e190 : seen (codes "## \n---\n`&#35;[ ] ") ≡ leaf (Heading 2) ([] ∷ []) ∷ leaf Rule (codes "---" ∷ []) ∷ leaf Paragraph (codes "`&#35;[ ] " ∷ []) ∷ []
unfolding reading
e190 = refl

e191 : seen (codes "'</a>![```rs\n\n\n\n\n*") ≡ leaf Paragraph (codes "'</a>![```rs" ∷ []) ∷ opens (Item 42 0 2) ∷ closes ∷ []
unfolding reading
e191 = refl

e192 : seen (codes "+ \t![<div>foo</a>)") ≡ opens (Item 43 0 4) ∷ leaf Paragraph (codes "![<div>foo</a>)" ∷ []) ∷ closes ∷ []
unfolding reading
e192 = refl

e193 : seen (codes "- 1. > **\n---\n--><") ≡ opens (Item 45 0 2) ∷ opens (Item 46 1 3) ∷ opens Quote ∷ leaf Paragraph (codes "**" ∷ []) ∷ closes ∷ closes ∷ closes ∷ leaf Rule (codes "---" ∷ []) ∷ leaf Paragraph (codes "--><" ∷ []) ∷ []
unfolding reading
e193 = refl

e194 : seen (codes "<!--<div>|-|&#35;'") ≡ leaf Html (codes "<!--<div>|-|&#35;'" ∷ []) ∷ []
unfolding reading
e194 = refl

e195 : seen (60 ∷ 100 ∷ 105 ∷ 118 ∷ 62 ∷ 230 ∷ 166 ∷ 130 ∷ 34 ∷ 126 ∷ 126 ∷ 126 ∷ 93 ∷ 40 ∷ 47 ∷ 117 ∷ 41 ∷ 92 ∷ 42 ∷ 126 ∷ []) ≡ leaf Html ((60 ∷ 100 ∷ 105 ∷ 118 ∷ 62 ∷ 230 ∷ 166 ∷ 130 ∷ 34 ∷ 126 ∷ 126 ∷ 126 ∷ 93 ∷ 40 ∷ 47 ∷ 117 ∷ 41 ∷ 92 ∷ 42 ∷ 126 ∷ []) ∷ []) ∷ []
unfolding reading
e195 = refl

e196 : seen (codes "<http://a><a>](|-|") ≡ leaf Paragraph (codes "<http://a><a>](|-|" ∷ []) ∷ []
unfolding reading
e196 = refl

e197 : seen (codes ">* 2) - ~~&#35;2) ") ≡ opens Quote ∷ opens (Item 42 0 2) ∷ opens (Item 41 2 3) ∷ opens (Item 45 0 2) ∷ leaf Paragraph (codes "~~&#35;2) " ∷ []) ∷ closes ∷ closes ∷ closes ∷ closes ∷ []
unfolding reading
e197 = refl

e198 : seen (codes "[ ] \\**\n===\n*&amp;") ≡ leaf (Heading 1) (codes "[ ] \\**" ∷ []) ∷ leaf Paragraph (codes "*&amp;" ∷ []) ∷ []
unfolding reading
e198 = refl

e199 : seen (codes "[a]: /u\n  <div>===") ≡ leaf Definitions (codes "[a]: /u" ∷ []) ∷ leaf Html (codes "  <div>===" ∷ []) ∷ []
unfolding reading
e199 = refl

e200 : seen (codes "\\*\"\n<div>```rs\n2) ") ≡ leaf Paragraph (codes "\\*\"" ∷ []) ∷ leaf Html (codes "<div>```rs" ∷ codes "2) " ∷ []) ∷ []
unfolding reading
e200 = refl

pub blocks8 : AreBlocks8
blocks8 = record { e176 = e176; e177 = e177; e178 = e178; e179 = e179; e180 = e180; e181 = e181; e182 = e182; e183 = e183; e184 = e184; e185 = e185; e186 = e186; e187 = e187; e188 = e188; e189 = e189; e190 = e190; e191 = e191; e192 = e192; e193 = e193; e194 = e194; e195 = e195; e196 = e196; e197 = e197; e198 = e198; e199 = e199; e200 = e200 }
