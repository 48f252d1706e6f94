-- Examples 126 to 150: what one sees of their blocks.
use Rattle.std.specs.Prelude.{◌≡◌, [], ◌∷◌, codes}
use Rattle.markdown_blocks.specs.declared.containers.Container.TheVariants.{Quote, Item}
use Rattle.markdown_leaves.specs.declared.parts.Kind.TheVariants.{Paragraph, Heading, Indented, Html, Rule}
use Rattle.markdown_examples.specs.Seen.{opens, closes, leaf, seen}

pub record AreBlocks6 : Type 0 where
  pub e126 : seen (codes "<!--<http://a>") ≡ leaf Html (codes "<!--<http://a>" ∷ []) ∷ []
  pub e127 : seen (codes "<!--__2) <div>") ≡ leaf Html (codes "<!--__2) <div>" ∷ []) ∷ []
  pub e128 : seen (codes "</a>](/u)</a>'") ≡ leaf Paragraph (codes "</a>](/u)</a>'" ∷ []) ∷ []
  pub e129 : seen (codes "</a>Ã©\\\n<!-->**") ≡ leaf Paragraph (codes "</a>Ã©\\" ∷ []) ∷ leaf Html (codes "<!-->**" ∷ []) ∷ []
  pub e130 : seen (codes "[) .\n---\n<div>") ≡ leaf (Heading 2) (codes "[) ." ∷ []) ∷ leaf Html (codes "<div>" ∷ []) ∷ []
  pub e131 : seen (codes "_<a>\"  __<div>") ≡ leaf Paragraph (codes "_<a>\"  __<div>" ∷ []) ∷ []
  pub e132 : seen (95 ∷ 95 ∷ 226 ∷ 128 ∷ 156 ∷ 10 ∷ 60 ∷ 100 ∷ 105 ∷ 118 ∷ 62 ∷ 45 ∷ 45 ∷ 62 ∷ 91 ∷ 126 ∷ []) ≡ leaf Paragraph ((95 ∷ 95 ∷ 226 ∷ 128 ∷ 156 ∷ []) ∷ []) ∷ leaf Html (codes "<div>-->[~" ∷ []) ∷ []
  pub e133 : seen (230 ∷ 166 ∷ 130 ∷ 62 ∷ 10 ∷ 124 ∷ 45 ∷ 124 ∷ 45 ∷ 124 ∷ 10 ∷ 10 ∷ 10 ∷ 50 ∷ 41 ∷ 32 ∷ []) ≡ leaf Paragraph ((230 ∷ 166 ∷ 130 ∷ 62 ∷ []) ∷ codes "|-|-|" ∷ []) ∷ opens (Item 41 2 3) ∷ closes ∷ []
  pub e134 : seen (codes "\t![Ã©[a]: /u\n<a>") ≡ leaf Indented (codes "![Ã©[a]: /u" ∷ []) ∷ leaf Html (codes "<a>" ∷ []) ∷ []
  pub e135 : seen (codes "\n---\n- \\*\\*<a>|") ≡ leaf Rule (codes "---" ∷ []) ∷ opens (Item 45 0 2) ∷ leaf Paragraph (codes "\\*\\*<a>|" ∷ []) ∷ closes ∷ []
  pub e136 : seen (codes "\n---\nb ---<a>::") ≡ leaf Rule (codes "---" ∷ []) ∷ leaf Paragraph (codes "b ---<a>::" ∷ []) ∷ []
  pub e137 : seen (codes "!\n|-|-|\n> _:![_") ≡ leaf Paragraph (codes "!" ∷ codes "|-|-|" ∷ []) ∷ opens Quote ∷ leaf Paragraph (codes "_:![_" ∷ []) ∷ closes ∷ []
  pub e138 : seen (codes "* '## ===</a>!|") ≡ opens (Item 42 0 2) ∷ leaf Paragraph (codes "'## ===</a>!|" ∷ []) ∷ closes ∷ []
  pub e139 : seen (codes "* ](/u)\\\n    __") ≡ opens (Item 42 0 2) ∷ leaf Paragraph (codes "](/u)\\" ∷ codes "__" ∷ []) ∷ closes ∷ []
  pub e140 : seen (codes "---\n.![](/u):\\*") ≡ leaf Rule (codes "---" ∷ []) ∷ leaf Paragraph (codes ".![](/u):\\*" ∷ []) ∷ []
  pub e141 : seen (codes "1. \n'&#35;\n---\n") ≡ opens (Item 46 1 3) ∷ closes ∷ leaf (Heading 2) (codes "'&#35;" ∷ []) ∷ []
  pub e142 : seen (codes "1. <</a>* `</a>") ≡ opens (Item 46 1 3) ∷ leaf Paragraph (codes "<</a>* `</a>" ∷ []) ∷ closes ∷ []
  pub e143 : seen (codes "1. <b\n---\nfoo\\*") ≡ opens (Item 46 1 3) ∷ leaf Paragraph (codes "<b" ∷ []) ∷ closes ∷ leaf Rule (codes "---" ∷ []) ∷ leaf Paragraph (codes "foo\\*" ∷ []) ∷ []
  pub e144 : seen (codes "<!--<!--- ~~Ã©\\*") ≡ leaf Html (codes "<!--<!--- ~~Ã©\\*" ∷ []) ∷ []
  pub e145 : seen (codes "<!--<div>a<div>") ≡ leaf Html (codes "<!--<div>a<div>" ∷ []) ∷ []
  pub e146 : seen (codes "</a>\n---\n:\"\\*``") ≡ leaf Html (codes "</a>" ∷ codes "---" ∷ codes ":\"\\*``" ∷ []) ∷ []
  pub e147 : seen (codes "<a>## <a><a>~!!") ≡ leaf Paragraph (codes "<a>## <a><a>~!!" ∷ []) ∷ []
  pub e148 : seen (codes "<b> foo|*``</a>") ≡ leaf Paragraph (codes "<b> foo|*``</a>" ∷ []) ∷ []
  pub e149 : seen (codes "<div>## _[ ] \n\n") ≡ leaf Html (codes "<div>## _[ ] " ∷ []) ∷ []
  pub e150 : seen (codes "> **~~~\n---\n**!") ≡ opens Quote ∷ leaf Paragraph (codes "**~~~" ∷ []) ∷ closes ∷ leaf Rule (codes "---" ∷ []) ∷ leaf Paragraph (codes "**!" ∷ []) ∷ []
