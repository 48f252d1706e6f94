-- Examples 301 to 325: what one sees of their blocks.
use Rattle.std.specs.Prelude.{◌≡◌, [], ◌∷◌, codes}
use Rattle.markdown_blocks.specs.declared.containers.Container.TheVariants.{Quote, Item}
use Rattle.markdown_leaves.specs.declared.parts.Kind.TheVariants.{Paragraph, Heading, Indented, Fenced, Html, Table, Rule, Definitions}
use Rattle.markdown_examples.specs.Seen.{opens, closes, leaf, seen}

pub record AreBlocks13 : Type 0 where
  pub e301 : seen (codes "](/u)\"b <http://a>foofoo</a>") ≡ leaf Paragraph (codes "](/u)\"b <http://a>foofoo</a>" ∷ []) ∷ []
  pub e302 : seen (codes "&#35;'---\n|-|-|\n|\n\n<http://a>") ≡ leaf Paragraph (codes "&#35;'---" ∷ codes "|-|-|" ∷ codes "|" ∷ []) ∷ leaf Paragraph (codes "<http://a>" ∷ []) ∷ []
  pub e303 : seen (codes "__<http://a>[a]: /u\n*\n|-|-|\n)") ≡ leaf Paragraph (codes "__<http://a>[a]: /u" ∷ codes "*" ∷ codes "|-|-|" ∷ codes ")" ∷ []) ∷ []
  pub e304 : seen (124 ∷ 32 ∷ 97 ∷ 32 ∷ 124 ∷ 32 ∷ 98 ∷ 32 ∷ 124 ∷ 10 ∷ 124 ∷ 45 ∷ 124 ∷ 45 ∷ 124 ∷ 10 ∷ 124 ∷ 32 ∷ 99 ∷ 32 ∷ 124 ∷ 32 ∷ 100 ∷ 32 ∷ 124 ∷ 10 ∷ 62 ∷ 32 ∷ 230 ∷ 166 ∷ 130 ∷ []) ≡ leaf (Table 2) (codes "| a | b |" ∷ codes "|-|-|" ∷ codes "| c | d |" ∷ []) ∷ opens Quote ∷ leaf Paragraph ((230 ∷ 166 ∷ 130 ∷ []) ∷ []) ∷ closes ∷ []
  pub e305 : seen (codes "<div><http://a>\\[a]|![http://x") ≡ leaf Html (codes "<div><http://a>\\[a]|![http://x" ∷ []) ∷ []
  pub e306 : seen (codes "[a]: /u\n~## [a]: /u\n  <div>~~~") ≡ leaf Definitions (codes "[a]: /u" ∷ []) ∷ leaf Paragraph (codes "~## [a]: /u" ∷ []) ∷ leaf Html (codes "  <div>~~~" ∷ []) ∷ []
  pub e307 : seen (codes "## <http://a>http://x2) \n``````") ≡ leaf (Heading 2) (codes "<http://a>http://x2)" ∷ []) ∷ leaf Fenced ([] ∷ []) ∷ []
  pub e308 : seen (codes "http://x\n---\n[a]<div><div>## - ") ≡ leaf (Heading 2) (codes "http://x" ∷ []) ∷ leaf Paragraph (codes "[a]<div><div>## - " ∷ []) ∷ []
  pub e309 : seen (codes "| a | b |\n|-|-|\n| c | d |\n# b !") ≡ leaf (Table 2) (codes "| a | b |" ∷ codes "|-|-|" ∷ codes "| c | d |" ∷ []) ∷ leaf (Heading 1) (codes "b !" ∷ []) ∷ []
  pub e310 : seen (60 ∷ 47 ∷ 97 ∷ 62 ∷ 10 ∷ 124 ∷ 32 ∷ 97 ∷ 32 ∷ 124 ∷ 32 ∷ 98 ∷ 32 ∷ 124 ∷ 10 ∷ 124 ∷ 45 ∷ 124 ∷ 45 ∷ 124 ∷ 10 ∷ 124 ∷ 32 ∷ 99 ∷ 32 ∷ 124 ∷ 32 ∷ 100 ∷ 32 ∷ 124 ∷ 10 ∷ 226 ∷ 128 ∷ 156 ∷ []) ≡ leaf Html (codes "</a>" ∷ codes "| a | b |" ∷ codes "|-|-|" ∷ codes "| c | d |" ∷ (226 ∷ 128 ∷ 156 ∷ []) ∷ []) ∷ []
  pub e311 : seen (codes "| a | b |\n|-|-|\n| c | d |\n<div><b") ≡ leaf (Table 2) (codes "| a | b |" ∷ codes "|-|-|" ∷ codes "| c | d |" ∷ []) ∷ leaf Html (codes "<div><b" ∷ []) ∷ []
  pub e312 : seen (codes "> + **  | a | b |\n|-|-|\n| c | d |\n") ≡ opens Quote ∷ opens (Item 43 0 2) ∷ leaf Paragraph (codes "**  | a | b |" ∷ codes "|-|-|" ∷ codes "| c | d |" ∷ []) ∷ closes ∷ closes ∷ []
  pub e313 : seen (codes "(**a\n---\n>| a | b |\n|-|-|\n| c | d |\n") ≡ leaf (Heading 2) (codes "(**a" ∷ []) ∷ opens Quote ∷ leaf Paragraph (codes "| a | b |" ∷ codes "|-|-|" ∷ codes "| c | d |" ∷ []) ∷ closes ∷ []
  pub e314 : seen (60 ∷ 97 ∷ 62 ∷ 60 ∷ 97 ∷ 62 ∷ 102 ∷ 111 ∷ 111 ∷ 124 ∷ 32 ∷ 97 ∷ 32 ∷ 124 ∷ 32 ∷ 98 ∷ 32 ∷ 124 ∷ 10 ∷ 124 ∷ 45 ∷ 124 ∷ 45 ∷ 124 ∷ 10 ∷ 124 ∷ 32 ∷ 99 ∷ 32 ∷ 124 ∷ 32 ∷ 100 ∷ 32 ∷ 124 ∷ 10 ∷ 226 ∷ 128 ∷ 156 ∷ []) ≡ leaf Paragraph (codes "<a><a>foo| a | b |" ∷ codes "|-|-|" ∷ codes "| c | d |" ∷ (226 ∷ 128 ∷ 156 ∷ []) ∷ []) ∷ []
  pub e315 : seen (codes "## foo:<div>| a | b |\n|-|-|\n| c | d |\n") ≡ leaf (Heading 2) (codes "foo:<div>| a | b |" ∷ []) ∷ leaf Paragraph (codes "|-|-|" ∷ codes "| c | d |" ∷ []) ∷ []
  pub e316 : seen (codes "\t-->|-|| a | b |\n|-|-|\n| c | d |\n\n1. \n\n") ≡ leaf Indented (codes "-->|-|| a | b |" ∷ []) ∷ leaf Paragraph (codes "|-|-|" ∷ codes "| c | d |" ∷ []) ∷ opens (Item 46 1 3) ∷ closes ∷ []
  pub e317 : seen (codes "<div>[ ] - | a | b |\n|-|-|\n| c | d |\n'\\") ≡ leaf Html (codes "<div>[ ] - | a | b |" ∷ codes "|-|-|" ∷ codes "| c | d |" ∷ codes "'\\" ∷ []) ∷ []
  pub e318 : seen (codes "| a | b |\n|-|-|\n| c | d |\n](/u)\n===\n<a>") ≡ leaf (Table 2) (codes "| a | b |" ∷ codes "|-|-|" ∷ codes "| c | d |" ∷ codes "](/u)" ∷ codes "===" ∷ []) ∷ leaf Html (codes "<a>" ∷ []) ∷ []
  pub e319 : seen (230 ∷ 166 ∷ 130 ∷ 60 ∷ 93 ∷ 10 ∷ 45 ∷ 45 ∷ 45 ∷ 10 ∷ 124 ∷ 32 ∷ 97 ∷ 32 ∷ 124 ∷ 32 ∷ 98 ∷ 32 ∷ 124 ∷ 10 ∷ 124 ∷ 45 ∷ 124 ∷ 45 ∷ 124 ∷ 10 ∷ 124 ∷ 32 ∷ 99 ∷ 32 ∷ 124 ∷ 32 ∷ 100 ∷ 32 ∷ 124 ∷ 10 ∷ 62 ∷ 32 ∷ 102 ∷ 111 ∷ 111 ∷ []) ≡ leaf (Heading 2) ((230 ∷ 166 ∷ 130 ∷ 60 ∷ 93 ∷ []) ∷ []) ∷ leaf (Table 2) (codes "| a | b |" ∷ codes "|-|-|" ∷ codes "| c | d |" ∷ []) ∷ opens Quote ∷ leaf Paragraph (codes "foo" ∷ []) ∷ closes ∷ []
  pub e320 : seen (codes "- ## <b\t&amp;| a | b |\n|-|-|\n| c | d |\n!") ≡ opens (Item 45 0 2) ∷ leaf (Heading 2) (codes "<b\t&amp;| a | b |" ∷ []) ∷ closes ∷ leaf Paragraph (codes "|-|-|" ∷ codes "| c | d |" ∷ codes "!" ∷ []) ∷ []
  pub e321 : seen (codes "| a | b |\n|-|-|\n| c | d |\n>\"&amp;![\n---\n") ≡ leaf (Table 2) (codes "| a | b |" ∷ codes "|-|-|" ∷ codes "| c | d |" ∷ []) ∷ opens Quote ∷ leaf Paragraph (codes "\"&amp;![" ∷ []) ∷ closes ∷ leaf Rule (codes "---" ∷ []) ∷ []
  pub e322 : seen (codes "| a | b |\n|-|-|\n| c | d |\n<http://a>`[a]`") ≡ leaf (Table 2) (codes "| a | b |" ∷ codes "|-|-|" ∷ codes "| c | d |" ∷ codes "<http://a>`[a]`" ∷ []) ∷ []
  pub e323 : seen (codes "1. | a | b |\n|-|-|\n| c | d |\n*   [a]: /u\n]") ≡ opens (Item 46 1 3) ∷ leaf Paragraph (codes "| a | b |" ∷ codes "|-|-|" ∷ codes "| c | d |" ∷ []) ∷ closes ∷ opens (Item 42 0 4) ∷ leaf Definitions (codes "[a]: /u" ∷ []) ∷ leaf Paragraph (codes "]" ∷ []) ∷ closes ∷ []
  pub e324 : seen (codes "+ \n&#35;| a | b |\n|-|-|\n| c | d |\n](/u)</a>") ≡ opens (Item 43 0 2) ∷ closes ∷ leaf Paragraph (codes "&#35;| a | b |" ∷ codes "|-|-|" ∷ codes "| c | d |" ∷ codes "](/u)</a>" ∷ []) ∷ []
  pub e325 : seen (codes "* \n===\n~<http://a>| a | b |\n|-|-|\n| c | d |\n") ≡ opens (Item 42 0 2) ∷ closes ∷ leaf Paragraph (codes "===" ∷ codes "~<http://a>| a | b |" ∷ codes "|-|-|" ∷ codes "| c | d |" ∷ []) ∷ []
