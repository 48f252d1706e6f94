-- Examples 76 to 100: what one sees of their blocks.
use Rattle.std.specs.Prelude.{◌≡◌, [], ◌∷◌, codes}
use Rattle.markdown_blocks.specs.declared.containers.Container.TheVariants.{Quote, Item}
use Rattle.markdown_leaves.specs.declared.parts.Kind.TheVariants.{Paragraph, Heading, Fenced, Html, Rule}
use Rattle.markdown_examples.specs.Seen.{opens, closes, leaf, seen}

pub record AreBlocks4 : Type 0 where
  pub e76 : seen (codes "- -   \n===\n") ≡ opens (Item 45 0 2) ∷ opens (Item 45 0 2) ∷ closes ∷ closes ∷ leaf Paragraph (codes "===" ∷ []) ∷ []
  pub e77 : seen (codes "<!--\t\\+ [a]") ≡ leaf Html (codes "<!--\t\\+ [a]" ∷ []) ∷ []
  pub e78 : seen (codes "<!--    [* ") ≡ leaf Html (codes "<!--    [* " ∷ []) ∷ []
  pub e79 : seen (codes "<!--<!--\t\\*") ≡ leaf Html (codes "<!--<!--\t\\*" ∷ []) ∷ []
  pub e80 : seen (codes "<!--|*.[ ] ") ≡ leaf Html (codes "<!--|*.[ ] " ∷ []) ∷ []
  pub e81 : seen (codes "<!--|-|[ ] ") ≡ leaf Html (codes "<!--|-|[ ] " ∷ []) ∷ []
  pub e82 : seen (codes "</a>\n|-|-|\n") ≡ leaf Html (codes "</a>" ∷ codes "|-|-|" ∷ []) ∷ []
  pub e83 : seen (codes "<div>*\n---\n") ≡ leaf Html (codes "<div>*" ∷ codes "---" ∷ []) ∷ []
  pub e84 : seen (codes "<div>b b - ") ≡ leaf Html (codes "<div>b b - " ∷ []) ∷ []
  pub e85 : seen (codes "> )```'``]:") ≡ opens Quote ∷ leaf Paragraph (codes ")```'``]:" ∷ []) ∷ closes ∷ []
  pub e86 : seen (codes "><!--<b\\*> ") ≡ opens Quote ∷ leaf Html (codes "<!--<b\\*> " ∷ []) ∷ closes ∷ []
  pub e87 : seen (codes ">~\n \n|-|-|\n") ≡ opens Quote ∷ leaf Paragraph (codes "~" ∷ []) ∷ closes ∷ leaf Paragraph (codes "|-|-|" ∷ []) ∷ []
  pub e88 : seen (codes "|-|<a>!\n\n[[") ≡ leaf Paragraph (codes "|-|<a>!" ∷ []) ∷ leaf Paragraph (codes "[[" ∷ []) ∷ []
  pub e89 : seen (codes "\n|-|-|\n## Ã©'") ≡ leaf Paragraph (codes "|-|-|" ∷ []) ∷ leaf (Heading 2) (codes "Ã©'" ∷ []) ∷ []
  pub e90 : seen (codes "\n|-|-|\n<div>") ≡ leaf Paragraph (codes "|-|-|" ∷ []) ∷ leaf Html (codes "<div>" ∷ []) ∷ []
  pub e91 : seen (codes "*  ```rs\n___") ≡ opens (Item 42 0 3) ∷ leaf Fenced (codes "rs" ∷ []) ∷ closes ∷ leaf Rule (codes "___" ∷ []) ∷ []
  pub e92 : seen (codes "+ >   \t\n===\n") ≡ opens (Item 43 0 2) ∷ opens Quote ∷ closes ∷ closes ∷ leaf Paragraph (codes "===" ∷ []) ∷ []
  pub e93 : seen (codes "1. **\"<div>\n") ≡ opens (Item 46 1 3) ∷ leaf Paragraph (codes "**\"<div>" ∷ []) ∷ closes ∷ []
  pub e94 : seen (codes "2) ```rs\n## ") ≡ opens (Item 41 2 3) ∷ leaf Fenced (codes "rs" ∷ []) ∷ closes ∷ leaf (Heading 2) ([] ∷ []) ∷ []
  pub e95 : seen (codes "<!--http://x") ≡ leaf Html (codes "<!--http://x" ∷ []) ∷ []
  pub e96 : seen (codes "</a>-->>_Ã©_~") ≡ leaf Paragraph (codes "</a>-->>_Ã©_~" ∷ []) ∷ []
  pub e97 : seen (codes "<a>\n===\n`b )") ≡ leaf Html (codes "<a>" ∷ codes "===" ∷ codes "`b )" ∷ []) ∷ []
  pub e98 : seen (codes ">\n---\n\n===\n\n") ≡ opens Quote ∷ closes ∷ leaf Rule (codes "---" ∷ []) ∷ leaf Paragraph (codes "===" ∷ []) ∷ []
  pub e99 : seen (codes "> ```\n===\n``") ≡ opens Quote ∷ leaf Fenced ([] ∷ []) ∷ closes ∷ leaf Paragraph (codes "===" ∷ codes "``" ∷ []) ∷ []
  pub e100 : seen (62 ∷ 126 ∷ 126 ∷ 126 ∷ 230 ∷ 166 ∷ 130 ∷ 34 ∷ 10 ∷ 45 ∷ 45 ∷ 45 ∷ 10 ∷ 124 ∷ []) ≡ opens Quote ∷ leaf Fenced ((230 ∷ 166 ∷ 130 ∷ 34 ∷ []) ∷ []) ∷ closes ∷ leaf Rule (codes "---" ∷ []) ∷ leaf Paragraph (codes "|" ∷ []) ∷ []
