-- Examples 26 to 50: what one sees of their blocks.
use Rattle.std.specs.Prelude.{◌≡◌, [], ◌∷◌, codes}
use Rattle.markdown_blocks.specs.declared.containers.Container.TheVariants.{Quote, Item}
use Rattle.markdown_leaves.specs.declared.parts.Kind.TheVariants.{Paragraph, Heading, Fenced, Html, Rule}
use Rattle.markdown_examples.specs.Seen.{opens, closes, leaf, seen}

pub record AreBlocks2 : Type 0 where
  pub e26 : seen (codes "2) 1. )") ≡ opens (Item 41 2 3) ∷ opens (Item 46 1 3) ∷ leaf Paragraph (codes ")" ∷ []) ∷ closes ∷ closes ∷ []
  pub e27 : seen (codes "<!--*__") ≡ leaf Html (codes "<!--*__" ∷ []) ∷ []
  pub e28 : seen (codes "<!--```") ≡ leaf Html (codes "<!--```" ∷ []) ∷ []
  pub e29 : seen (codes "</a><a>") ≡ leaf Paragraph (codes "</a><a>" ∷ []) ∷ []
  pub e30 : seen (codes "<div>+ ") ≡ leaf Html (codes "<div>+ " ∷ []) ∷ []
  pub e31 : seen (codes "## `<!--") ≡ leaf (Heading 2) (codes "`<!--" ∷ []) ∷ []
  pub e32 : seen (codes "(<div>  ") ≡ leaf Paragraph (codes "(<div>  " ∷ []) ∷ []
  pub e33 : seen (codes "- # ~~~a") ≡ opens (Item 45 0 2) ∷ leaf (Heading 1) (codes "~~~a" ∷ []) ∷ closes ∷ []
  pub e34 : seen (codes "---*<a>*") ≡ leaf Paragraph (codes "---*<a>*" ∷ []) ∷ []
  pub e35 : seen (50 ∷ 41 ∷ 32 ∷ 43 ∷ 32 ∷ 230 ∷ 166 ∷ 130 ∷ 96 ∷ 195 ∷ 169 ∷ []) ≡ opens (Item 41 2 3) ∷ opens (Item 43 0 2) ∷ leaf Paragraph ((230 ∷ 166 ∷ 130 ∷ 96 ∷ 195 ∷ 169 ∷ []) ∷ []) ∷ closes ∷ closes ∷ []
  pub e36 : seen (codes "<!--\n!- ") ≡ leaf Html (codes "<!--" ∷ codes "!- " ∷ []) ∷ []
  pub e37 : seen (codes "<div>![a") ≡ leaf Html (codes "<div>![a" ∷ []) ∷ []
  pub e38 : seen (codes "<div>'((") ≡ leaf Html (codes "<div>'((" ∷ []) ∷ []
  pub e39 : seen (codes "<div>2) ") ≡ leaf Html (codes "<div>2) " ∷ []) ∷ []
  pub e40 : seen (codes "<div>\\)'") ≡ leaf Html (codes "<div>\\)'" ∷ []) ∷ []
  pub e41 : seen (codes "<div>].]") ≡ leaf Html (codes "<div>].]" ∷ []) ∷ []
  pub e42 : seen (codes "> 2) -->") ≡ opens Quote ∷ opens (Item 41 2 3) ∷ leaf Paragraph (codes "-->" ∷ []) ∷ closes ∷ closes ∷ []
  pub e43 : seen (codes ">|<a>===") ≡ opens Quote ∷ leaf Paragraph (codes "|<a>===" ∷ []) ∷ closes ∷ []
  pub e44 : seen (codes "_</a>\n\n:") ≡ leaf Paragraph (codes "_</a>" ∷ []) ∷ leaf Paragraph (codes ":" ∷ []) ∷ []
  pub e45 : seen (96 ∷ 92 ∷ 42 ∷ 96 ∷ 226 ∷ 128 ∷ 156 ∷ 10 ∷ 10 ∷ 97 ∷ []) ≡ leaf Paragraph ((96 ∷ 92 ∷ 42 ∷ 96 ∷ 226 ∷ 128 ∷ 156 ∷ []) ∷ []) ∷ leaf Paragraph (codes "a" ∷ []) ∷ []
  pub e46 : seen (codes "\n---\n2) ~") ≡ leaf Rule (codes "---" ∷ []) ∷ opens (Item 41 2 3) ∷ leaf Paragraph (codes "~" ∷ []) ∷ closes ∷ []
  pub e47 : seen (codes "# <a>*.- ") ≡ leaf (Heading 1) (codes "<a>*.-" ∷ []) ∷ []
  pub e48 : seen (codes "- \\*<div>") ≡ opens (Item 45 0 2) ∷ leaf Paragraph (codes "\\*<div>" ∷ []) ∷ closes ∷ []
  pub e49 : seen (codes "1. ```rs\n") ≡ opens (Item 46 1 3) ∷ leaf Fenced (codes "rs" ∷ []) ∷ closes ∷ []
  pub e50 : seen (codes "2) 'b ---") ≡ opens (Item 41 2 3) ∷ leaf Paragraph (codes "'b ---" ∷ []) ∷ closes ∷ []
