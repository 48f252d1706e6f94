-- Examples 151 to 175, computed.
use Rattle.std.proofs.Common.{◌≡◌, [], ◌∷◌, codes, refl}
use Rattle.markdown_blocks.specs.declared.containers.Container.TheVariants.{Quote, Item}
use Rattle.markdown_leaves.specs.declared.parts.Kind.TheVariants.{Paragraph, Heading, Indented, Fenced, Html, Rule, Definitions}
use Rattle.markdown_examples.specs.Seen.{opens, closes, leaf, seen}
use Rattle.markdown_examples.specs.Blocks7.{AreBlocks7}
use Rattle.markdown_as_html.proofs.Computing.{reading}

e151 : seen (codes "\n===\n1. ***![|# ") ≡ leaf Paragraph (codes "===" ∷ []) ∷ opens (Item 46 1 3) ∷ leaf Paragraph (codes "***![|# " ∷ []) ∷ closes ∷ []
unfolding reading
e151 = refl

e152 : seen (codes "\n|-|-|\n\n===\n\n](\n") ≡ leaf Paragraph (codes "|-|-|" ∷ []) ∷ leaf Paragraph (codes "===" ∷ []) ∷ leaf Paragraph (codes "](" ∷ []) ∷ []
unfolding reading
e152 = refl

e153 : seen (codes "'\n\n===\n\\\n===\n<a>") ≡ leaf Paragraph (codes "'" ∷ []) ∷ leaf (Heading 1) (codes "===" ∷ codes "\\" ∷ []) ∷ leaf Html (codes "<a>" ∷ []) ∷ []
unfolding reading
e153 = refl

e154 : seen (codes "+ |-|<a>*[ ] 2) ") ≡ opens (Item 43 0 2) ∷ leaf Paragraph (codes "|-|<a>*[ ] 2) " ∷ []) ∷ closes ∷ []
unfolding reading
e154 = refl

e155 : seen (codes "--><!---->```rs\n") ≡ leaf Paragraph (codes "--><!---->```rs" ∷ []) ∷ []
unfolding reading
e155 = refl

e156 : seen (codes "2) *![\n\n- <!--<b") ≡ opens (Item 41 2 3) ∷ leaf Paragraph (codes "*![" ∷ []) ∷ closes ∷ opens (Item 45 0 2) ∷ leaf Html (codes "<!--<b" ∷ []) ∷ closes ∷ []
unfolding reading
e156 = refl

e157 : seen (codes "<!--![```rs\n---(") ≡ leaf Html (codes "<!--![```rs" ∷ codes "---(" ∷ []) ∷ []
unfolding reading
e157 = refl

e158 : seen (codes "<!--*foo~!<!--**") ≡ leaf Html (codes "<!--*foo~!<!--**" ∷ []) ∷ []
unfolding reading
e158 = refl

e159 : seen (codes "<!--- \n===\n<div>") ≡ leaf Html (codes "<!--- " ∷ codes "===" ∷ codes "<div>" ∷ []) ∷ []
unfolding reading
e159 = refl

e160 : seen (codes "<a></a><b</a>(- ") ≡ leaf Paragraph (codes "<a></a><b</a>(- " ∷ []) ∷ []
unfolding reading
e160 = refl

e161 : seen (codes "<div>\n\nhttp://x<") ≡ leaf Html (codes "<div>" ∷ []) ∷ leaf Paragraph (codes "http://x<" ∷ []) ∷ []
unfolding reading
e161 = refl

e162 : seen (codes "<div>](/u)(\t  |~") ≡ leaf Html (codes "<div>](/u)(\t  |~" ∷ []) ∷ []
unfolding reading
e162 = refl

e163 : seen (codes "> ## a\n===\n![> Ã©") ≡ opens Quote ∷ leaf (Heading 2) (codes "a" ∷ []) ∷ closes ∷ leaf Paragraph (codes "===" ∷ codes "![> Ã©" ∷ []) ∷ []
unfolding reading
e163 = refl

e164 : seen (codes "[ ] \n---\n><a>- |") ≡ leaf (Heading 2) (codes "[ ] " ∷ []) ∷ opens Quote ∷ leaf Paragraph (codes "<a>- |" ∷ []) ∷ closes ∷ []
unfolding reading
e164 = refl

e165 : seen (codes "[ ] ~~\n===\n*</a>") ≡ leaf (Heading 1) (codes "[ ] ~~" ∷ []) ∷ leaf Paragraph (codes "*</a>" ∷ []) ∷ []
unfolding reading
e165 = refl

e166 : seen (codes "[a]: /u\n \n===\n> ") ≡ leaf Definitions (codes "[a]: /u" ∷ []) ∷ leaf Paragraph (codes "===" ∷ []) ∷ opens Quote ∷ closes ∷ []
unfolding reading
e166 = refl

e167 : seen (codes "[a]<div>> \n\n\n~~~") ≡ leaf Paragraph (codes "[a]<div>> " ∷ []) ∷ leaf Fenced ([] ∷ []) ∷ []
unfolding reading
e167 = refl

e168 : seen (codes "]__<http://a>__[") ≡ leaf Paragraph (codes "]__<http://a>__[" ∷ []) ∷ []
unfolding reading
e168 = refl

e169 : seen (codes "_<b\n~~~&#35;<b](") ≡ leaf Paragraph (codes "_<b" ∷ []) ∷ leaf Fenced (codes "&#35;<b](" ∷ []) ∷ []
unfolding reading
e169 = refl

e170 : seen (codes "__&amp;]\"__<!--\t") ≡ leaf Paragraph (codes "__&amp;]\"__<!--\t" ∷ []) ∷ []
unfolding reading
e170 = refl

e171 : seen (codes "_Ã©    ---\n---\n![") ≡ leaf (Heading 2) (codes "_Ã©    ---" ∷ []) ∷ leaf Paragraph (codes "![" ∷ []) ∷ []
unfolding reading
e171 = refl

e172 : seen (codes "\t_\n---\n~b # ](/u)") ≡ leaf Indented (codes "_" ∷ []) ∷ leaf Rule (codes "---" ∷ []) ∷ leaf Paragraph (codes "~b # ](/u)" ∷ []) ∷ []
unfolding reading
e172 = refl

e173 : seen (codes "![\n\n**Ã©2) \n---\n> ") ≡ leaf Paragraph (codes "![" ∷ []) ∷ leaf (Heading 2) (codes "**Ã©2) " ∷ []) ∷ opens Quote ∷ closes ∷ []
unfolding reading
e173 = refl

e174 : seen (codes "'](\n\n_:\n|-|-|\n~~~") ≡ leaf Paragraph (codes "'](" ∷ []) ∷ leaf Paragraph (codes "_:" ∷ codes "|-|-|" ∷ []) ∷ leaf Fenced ([] ∷ []) ∷ []
unfolding reading
e174 = refl

e175 : seen (40 ∷ 45 ∷ 45 ∷ 45 ∷ 10 ∷ 10 ∷ 230 ∷ 166 ∷ 130 ∷ 96 ∷ 96 ∷ 96 ∷ 114 ∷ 115 ∷ 10 ∷ 60 ∷ 33 ∷ 45 ∷ 45 ∷ []) ≡ leaf Paragraph (codes "(---" ∷ []) ∷ leaf Paragraph ((230 ∷ 166 ∷ 130 ∷ 96 ∷ 96 ∷ 96 ∷ 114 ∷ 115 ∷ []) ∷ []) ∷ leaf Html (codes "<!--" ∷ []) ∷ []
unfolding reading
e175 = refl

pub blocks7 : AreBlocks7
blocks7 = record { e151 = e151; e152 = e152; e153 = e153; e154 = e154; e155 = e155; e156 = e156; e157 = e157; e158 = e158; e159 = e159; e160 = e160; e161 = e161; e162 = e162; e163 = e163; e164 = e164; e165 = e165; e166 = e166; e167 = e167; e168 = e168; e169 = e169; e170 = e170; e171 = e171; e172 = e172; e173 = e173; e174 = e174; e175 = e175 }
