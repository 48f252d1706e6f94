-- Examples 176 to 200: what one sees of their blocks.
use Rattle.std.specs.Prelude.{◌≡◌, [], ◌∷◌, codes}
use Rattle.markdown_blocks.specs.declared.containers.Container.TheVariants.{Quote, Item}
use Rattle.markdown_leaves.specs.declared.parts.Kind.TheVariants.{Paragraph, Heading, Indented, Fenced, Html, Rule, Definitions}
use Rattle.markdown_examples.specs.Seen.{opens, closes, leaf, seen}

pub record AreBlocks8 : Type 0 where
  pub e176 : seen (codes "* <http://a>## <b") ≡ opens (Item 42 0 2) ∷ leaf Paragraph (codes "<http://a>## <b" ∷ []) ∷ closes ∷ []
  pub e177 : seen (codes "- ```+ [a]: /u\n](") ≡ opens (Item 45 0 2) ∷ leaf Fenced (codes "+ [a]: /u" ∷ []) ∷ closes ∷ leaf Paragraph (codes "](" ∷ []) ∷ []
  pub e178 : seen (codes "---~~~\n===\n    ](") ≡ leaf (Heading 1) (codes "---~~~" ∷ []) ∷ leaf Indented (codes "](" ∷ []) ∷ []
  pub e179 : seen (codes "<!--(<b(http://x>") ≡ leaf Html (codes "<!--(<b(http://x>" ∷ []) ∷ []
  pub e180 : seen (codes "</a>Ã©</a>\n===\n```") ≡ leaf (Heading 1) (codes "</a>Ã©</a>" ∷ []) ∷ leaf Fenced ([] ∷ []) ∷ []
  pub e181 : seen (codes "<a>\n|-|-|\n\n|-|-|\n") ≡ leaf Html (codes "<a>" ∷ codes "|-|-|" ∷ []) ∷ leaf Paragraph (codes "|-|-|" ∷ []) ∷ []
  pub e182 : seen (codes ">1. ](&#35;<div>~") ≡ opens Quote ∷ opens (Item 46 1 3) ∷ leaf Paragraph (codes "](&#35;<div>~" ∷ []) ∷ closes ∷ closes ∷ []
  pub e183 : seen (codes ">```---](/u).]1. ") ≡ opens Quote ∷ leaf Fenced (codes "---](/u).]1." ∷ []) ∷ closes ∷ []
  pub e184 : seen (codes "[\t<div><div>*:```") ≡ leaf Paragraph (codes "[\t<div><div>*:```" ∷ []) ∷ []
  pub e185 : seen (codes "__<b__<http://a>~") ≡ leaf Paragraph (codes "__<b__<http://a>~" ∷ []) ∷ []
  pub e186 : seen (102 ∷ 111 ∷ 111 ∷ 226 ∷ 128 ∷ 156 ∷ 50 ∷ 41 ∷ 32 ∷ 49 ∷ 46 ∷ 32 ∷ 10 ∷ 45 ∷ 45 ∷ 45 ∷ 10 ∷ 43 ∷ 32 ∷ []) ≡ leaf (Heading 2) ((102 ∷ 111 ∷ 111 ∷ 226 ∷ 128 ∷ 156 ∷ 50 ∷ 41 ∷ 32 ∷ 49 ∷ 46 ∷ 32 ∷ []) ∷ []) ∷ opens (Item 43 0 2) ∷ closes ∷ []
  pub e187 : seen (10 ∷ 61 ∷ 61 ∷ 61 ∷ 10 ∷ 10 ∷ 45 ∷ 45 ∷ 45 ∷ 10 ∷ 60 ∷ 100 ∷ 105 ∷ 118 ∷ 62 ∷ 230 ∷ 166 ∷ 130 ∷ 46 ∷ 230 ∷ 166 ∷ 130 ∷ []) ≡ leaf Paragraph (codes "===" ∷ []) ∷ leaf Rule (codes "---" ∷ []) ∷ leaf Html ((60 ∷ 100 ∷ 105 ∷ 118 ∷ 62 ∷ 230 ∷ 166 ∷ 130 ∷ 46 ∷ 230 ∷ 166 ∷ 130 ∷ []) ∷ []) ∷ []
  pub e188 : seen (codes "\n===\n## \\*!\n```rs\n") ≡ leaf Paragraph (codes "===" ∷ []) ∷ leaf (Heading 2) (codes "\\*!" ∷ []) ∷ leaf Fenced (codes "rs" ∷ []) ∷ []
  pub e189 : seen (codes "![](/u)<b\n---\n\\*# ") ≡ leaf (Heading 2) (codes "![](/u)<b" ∷ []) ∷ leaf Paragraph (codes "\\*# " ∷ []) ∷ []
  pub e190 : seen (codes "## \n---\n`&#35;[ ] ") ≡ leaf (Heading 2) ([] ∷ []) ∷ leaf Rule (codes "---" ∷ []) ∷ leaf Paragraph (codes "`&#35;[ ] " ∷ []) ∷ []
  pub e191 : seen (codes "'</a>![```rs\n\n\n\n\n*") ≡ leaf Paragraph (codes "'</a>![```rs" ∷ []) ∷ opens (Item 42 0 2) ∷ closes ∷ []
  pub e192 : seen (codes "+ \t![<div>foo</a>)") ≡ opens (Item 43 0 4) ∷ leaf Paragraph (codes "![<div>foo</a>)" ∷ []) ∷ closes ∷ []
  pub e193 : seen (codes "- 1. > **\n---\n--><") ≡ opens (Item 45 0 2) ∷ opens (Item 46 1 3) ∷ opens Quote ∷ leaf Paragraph (codes "**" ∷ []) ∷ closes ∷ closes ∷ closes ∷ leaf Rule (codes "---" ∷ []) ∷ leaf Paragraph (codes "--><" ∷ []) ∷ []
  pub e194 : seen (codes "<!--<div>|-|&#35;'") ≡ leaf Html (codes "<!--<div>|-|&#35;'" ∷ []) ∷ []
  pub e195 : seen (60 ∷ 100 ∷ 105 ∷ 118 ∷ 62 ∷ 230 ∷ 166 ∷ 130 ∷ 34 ∷ 126 ∷ 126 ∷ 126 ∷ 93 ∷ 40 ∷ 47 ∷ 117 ∷ 41 ∷ 92 ∷ 42 ∷ 126 ∷ []) ≡ leaf Html ((60 ∷ 100 ∷ 105 ∷ 118 ∷ 62 ∷ 230 ∷ 166 ∷ 130 ∷ 34 ∷ 126 ∷ 126 ∷ 126 ∷ 93 ∷ 40 ∷ 47 ∷ 117 ∷ 41 ∷ 92 ∷ 42 ∷ 126 ∷ []) ∷ []) ∷ []
  pub e196 : seen (codes "<http://a><a>](|-|") ≡ leaf Paragraph (codes "<http://a><a>](|-|" ∷ []) ∷ []
  pub e197 : seen (codes ">* 2) - ~~&#35;2) ") ≡ opens Quote ∷ opens (Item 42 0 2) ∷ opens (Item 41 2 3) ∷ opens (Item 45 0 2) ∷ leaf Paragraph (codes "~~&#35;2) " ∷ []) ∷ closes ∷ closes ∷ closes ∷ closes ∷ []
  pub e198 : seen (codes "[ ] \\**\n===\n*&amp;") ≡ leaf (Heading 1) (codes "[ ] \\**" ∷ []) ∷ leaf Paragraph (codes "*&amp;" ∷ []) ∷ []
  pub e199 : seen (codes "[a]: /u\n  <div>===") ≡ leaf Definitions (codes "[a]: /u" ∷ []) ∷ leaf Html (codes "  <div>===" ∷ []) ∷ []
  pub e200 : seen (codes "\\*\"\n<div>```rs\n2) ") ≡ leaf Paragraph (codes "\\*\"" ∷ []) ∷ leaf Html (codes "<div>```rs" ∷ codes "2) " ∷ []) ∷ []
