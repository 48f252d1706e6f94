-- Examples 151 to 175: what one sees of their blocks.
use Rattle.std.specs.Prelude.{◌≡◌, [], ◌∷◌, codes}
use Rattle.markdown_blocks.specs.declared.containers.Container.TheVariants.{Quote, Item}
use Rattle.markdown_leaves.specs.declared.parts.Kind.TheVariants.{Paragraph, Heading, Indented, Fenced, Html, Rule, Definitions}
use Rattle.markdown_examples.specs.Seen.{opens, closes, leaf, seen}

pub record AreBlocks7 : Type 0 where
  pub e151 : seen (codes "\n===\n1. ***![|# ") ≡ leaf Paragraph (codes "===" ∷ []) ∷ opens (Item 46 1 3) ∷ leaf Paragraph (codes "***![|# " ∷ []) ∷ closes ∷ []
  pub e152 : seen (codes "\n|-|-|\n\n===\n\n](\n") ≡ leaf Paragraph (codes "|-|-|" ∷ []) ∷ leaf Paragraph (codes "===" ∷ []) ∷ leaf Paragraph (codes "](" ∷ []) ∷ []
  pub e153 : seen (codes "'\n\n===\n\\\n===\n<a>") ≡ leaf Paragraph (codes "'" ∷ []) ∷ leaf (Heading 1) (codes "===" ∷ codes "\\" ∷ []) ∷ leaf Html (codes "<a>" ∷ []) ∷ []
  pub e154 : seen (codes "+ |-|<a>*[ ] 2) ") ≡ opens (Item 43 0 2) ∷ leaf Paragraph (codes "|-|<a>*[ ] 2) " ∷ []) ∷ closes ∷ []
  pub e155 : seen (codes "--><!---->```rs\n") ≡ leaf Paragraph (codes "--><!---->```rs" ∷ []) ∷ []
  pub e156 : seen (codes "2) *![\n\n- <!--<b") ≡ opens (Item 41 2 3) ∷ leaf Paragraph (codes "*![" ∷ []) ∷ closes ∷ opens (Item 45 0 2) ∷ leaf Html (codes "<!--<b" ∷ []) ∷ closes ∷ []
  pub e157 : seen (codes "<!--![```rs\n---(") ≡ leaf Html (codes "<!--![```rs" ∷ codes "---(" ∷ []) ∷ []
  pub e158 : seen (codes "<!--*foo~!<!--**") ≡ leaf Html (codes "<!--*foo~!<!--**" ∷ []) ∷ []
  pub e159 : seen (codes "<!--- \n===\n<div>") ≡ leaf Html (codes "<!--- " ∷ codes "===" ∷ codes "<div>" ∷ []) ∷ []
  pub e160 : seen (codes "<a></a><b</a>(- ") ≡ leaf Paragraph (codes "<a></a><b</a>(- " ∷ []) ∷ []
  pub e161 : seen (codes "<div>\n\nhttp://x<") ≡ leaf Html (codes "<div>" ∷ []) ∷ leaf Paragraph (codes "http://x<" ∷ []) ∷ []
  pub e162 : seen (codes "<div>](/u)(\t  |~") ≡ leaf Html (codes "<div>](/u)(\t  |~" ∷ []) ∷ []
  pub e163 : seen (codes "> ## a\n===\n![> Ã©") ≡ opens Quote ∷ leaf (Heading 2) (codes "a" ∷ []) ∷ closes ∷ leaf Paragraph (codes "===" ∷ codes "![> Ã©" ∷ []) ∷ []
  pub e164 : seen (codes "[ ] \n---\n><a>- |") ≡ leaf (Heading 2) (codes "[ ] " ∷ []) ∷ opens Quote ∷ leaf Paragraph (codes "<a>- |" ∷ []) ∷ closes ∷ []
  pub e165 : seen (codes "[ ] ~~\n===\n*</a>") ≡ leaf (Heading 1) (codes "[ ] ~~" ∷ []) ∷ leaf Paragraph (codes "*</a>" ∷ []) ∷ []
  pub e166 : seen (codes "[a]: /u\n \n===\n> ") ≡ leaf Definitions (codes "[a]: /u" ∷ []) ∷ leaf Paragraph (codes "===" ∷ []) ∷ opens Quote ∷ closes ∷ []
  pub e167 : seen (codes "[a]<div>> \n\n\n~~~") ≡ leaf Paragraph (codes "[a]<div>> " ∷ []) ∷ leaf Fenced ([] ∷ []) ∷ []
  pub e168 : seen (codes "]__<http://a>__[") ≡ leaf Paragraph (codes "]__<http://a>__[" ∷ []) ∷ []
  pub e169 : seen (codes "_<b\n~~~&#35;<b](") ≡ leaf Paragraph (codes "_<b" ∷ []) ∷ leaf Fenced (codes "&#35;<b](" ∷ []) ∷ []
  pub e170 : seen (codes "__&amp;]\"__<!--\t") ≡ leaf Paragraph (codes "__&amp;]\"__<!--\t" ∷ []) ∷ []
  pub e171 : seen (codes "_Ã©    ---\n---\n![") ≡ leaf (Heading 2) (codes "_Ã©    ---" ∷ []) ∷ leaf Paragraph (codes "![" ∷ []) ∷ []
  pub e172 : seen (codes "\t_\n---\n~b # ](/u)") ≡ leaf Indented (codes "_" ∷ []) ∷ leaf Rule (codes "---" ∷ []) ∷ leaf Paragraph (codes "~b # ](/u)" ∷ []) ∷ []
  pub e173 : seen (codes "![\n\n**Ã©2) \n---\n> ") ≡ leaf Paragraph (codes "![" ∷ []) ∷ leaf (Heading 2) (codes "**Ã©2) " ∷ []) ∷ opens Quote ∷ closes ∷ []
  pub e174 : seen (codes "'](\n\n_:\n|-|-|\n~~~") ≡ leaf Paragraph (codes "'](" ∷ []) ∷ leaf Paragraph (codes "_:" ∷ codes "|-|-|" ∷ []) ∷ leaf Fenced ([] ∷ []) ∷ []
  pub e175 : seen (40 ∷ 45 ∷ 45 ∷ 45 ∷ 10 ∷ 10 ∷ 230 ∷ 166 ∷ 130 ∷ 96 ∷ 96 ∷ 96 ∷ 114 ∷ 115 ∷ 10 ∷ 60 ∷ 33 ∷ 45 ∷ 45 ∷ []) ≡ leaf Paragraph (codes "(---" ∷ []) ∷ leaf Paragraph ((230 ∷ 166 ∷ 130 ∷ 96 ∷ 96 ∷ 96 ∷ 114 ∷ 115 ∷ []) ∷ []) ∷ leaf Html (codes "<!--" ∷ []) ∷ []
