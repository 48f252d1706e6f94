-- Examples 126 to 150, computed.
use Rattle.std.proofs.Common.{◌≡◌, [], ◌∷◌, codes, refl}
use Rattle.markdown_blocks.specs.declared.containers.Container.TheVariants.{Quote, Item}
use Rattle.markdown_leaves.specs.declared.parts.Kind.TheVariants.{Paragraph, Heading, Indented, Html, Rule}
use Rattle.markdown_examples.specs.Seen.{opens, closes, leaf, seen}
use Rattle.markdown_examples.specs.Blocks6.{AreBlocks6}
use Rattle.markdown_as_html.proofs.Computing.{reading}

e126 : seen (codes "<!--<http://a>") ≡ leaf Html (codes "<!--<http://a>" ∷ []) ∷ []
unfolding reading
e126 = refl

e127 : seen (codes "<!--__2) <div>") ≡ leaf Html (codes "<!--__2) <div>" ∷ []) ∷ []
unfolding reading
e127 = refl

e128 : seen (codes "</a>](/u)</a>'") ≡ leaf Paragraph (codes "</a>](/u)</a>'" ∷ []) ∷ []
unfolding reading
e128 = refl

e129 : seen (codes "</a>Ã©\\\n<!-->**") ≡ leaf Paragraph (codes "</a>Ã©\\" ∷ []) ∷ leaf Html (codes "<!-->**" ∷ []) ∷ []
unfolding reading
e129 = refl

e130 : seen (codes "[) .\n---\n<div>") ≡ leaf (Heading 2) (codes "[) ." ∷ []) ∷ leaf Html (codes "<div>" ∷ []) ∷ []
unfolding reading
e130 = refl

e131 : seen (codes "_<a>\"  __<div>") ≡ leaf Paragraph (codes "_<a>\"  __<div>" ∷ []) ∷ []
unfolding reading
e131 = refl

e132 : seen (95 ∷ 95 ∷ 226 ∷ 128 ∷ 156 ∷ 10 ∷ 60 ∷ 100 ∷ 105 ∷ 118 ∷ 62 ∷ 45 ∷ 45 ∷ 62 ∷ 91 ∷ 126 ∷ []) ≡ leaf Paragraph ((95 ∷ 95 ∷ 226 ∷ 128 ∷ 156 ∷ []) ∷ []) ∷ leaf Html (codes "<div>-->[~" ∷ []) ∷ []
unfolding reading
e132 = refl

e133 : seen (230 ∷ 166 ∷ 130 ∷ 62 ∷ 10 ∷ 124 ∷ 45 ∷ 124 ∷ 45 ∷ 124 ∷ 10 ∷ 10 ∷ 10 ∷ 50 ∷ 41 ∷ 32 ∷ []) ≡ leaf Paragraph ((230 ∷ 166 ∷ 130 ∷ 62 ∷ []) ∷ codes "|-|-|" ∷ []) ∷ opens (Item 41 2 3) ∷ closes ∷ []
unfolding reading
e133 = refl

e134 : seen (codes "\t![Ã©[a]: /u\n<a>") ≡ leaf Indented (codes "![Ã©[a]: /u" ∷ []) ∷ leaf Html (codes "<a>" ∷ []) ∷ []
unfolding reading
e134 = refl

e135 : seen (codes "\n---\n- \\*\\*<a>|") ≡ leaf Rule (codes "---" ∷ []) ∷ opens (Item 45 0 2) ∷ leaf Paragraph (codes "\\*\\*<a>|" ∷ []) ∷ closes ∷ []
unfolding reading
e135 = refl

e136 : seen (codes "\n---\nb ---<a>::") ≡ leaf Rule (codes "---" ∷ []) ∷ leaf Paragraph (codes "b ---<a>::" ∷ []) ∷ []
unfolding reading
e136 = refl

e137 : seen (codes "!\n|-|-|\n> _:![_") ≡ leaf Paragraph (codes "!" ∷ codes "|-|-|" ∷ []) ∷ opens Quote ∷ leaf Paragraph (codes "_:![_" ∷ []) ∷ closes ∷ []
unfolding reading
e137 = refl

e138 : seen (codes "* '## ===</a>!|") ≡ opens (Item 42 0 2) ∷ leaf Paragraph (codes "'## ===</a>!|" ∷ []) ∷ closes ∷ []
unfolding reading
e138 = refl

e139 : seen (codes "* ](/u)\\\n    __") ≡ opens (Item 42 0 2) ∷ leaf Paragraph (codes "](/u)\\" ∷ codes "__" ∷ []) ∷ closes ∷ []
unfolding reading
e139 = refl

e140 : seen (codes "---\n.![](/u):\\*") ≡ leaf Rule (codes "---" ∷ []) ∷ leaf Paragraph (codes ".![](/u):\\*" ∷ []) ∷ []
unfolding reading
e140 = refl

e141 : seen (codes "1. \n'&#35;\n---\n") ≡ opens (Item 46 1 3) ∷ closes ∷ leaf (Heading 2) (codes "'&#35;" ∷ []) ∷ []
unfolding reading
e141 = refl

e142 : seen (codes "1. <</a>* `</a>") ≡ opens (Item 46 1 3) ∷ leaf Paragraph (codes "<</a>* `</a>" ∷ []) ∷ closes ∷ []
unfolding reading
e142 = refl

e143 : seen (codes "1. <b\n---\nfoo\\*") ≡ opens (Item 46 1 3) ∷ leaf Paragraph (codes "<b" ∷ []) ∷ closes ∷ leaf Rule (codes "---" ∷ []) ∷ leaf Paragraph (codes "foo\\*" ∷ []) ∷ []
unfolding reading
e143 = refl

e144 : seen (codes "<!--<!--- ~~Ã©\\*") ≡ leaf Html (codes "<!--<!--- ~~Ã©\\*" ∷ []) ∷ []
unfolding reading
e144 = refl

e145 : seen (codes "<!--<div>a<div>") ≡ leaf Html (codes "<!--<div>a<div>" ∷ []) ∷ []
unfolding reading
e145 = refl

e146 : seen (codes "</a>\n---\n:\"\\*``") ≡ leaf Html (codes "</a>" ∷ codes "---" ∷ codes ":\"\\*``" ∷ []) ∷ []
unfolding reading
e146 = refl

e147 : seen (codes "<a>## <a><a>~!!") ≡ leaf Paragraph (codes "<a>## <a><a>~!!" ∷ []) ∷ []
unfolding reading
e147 = refl

e148 : seen (codes "<b> foo|*``</a>") ≡ leaf Paragraph (codes "<b> foo|*``</a>" ∷ []) ∷ []
unfolding reading
e148 = refl

e149 : seen (codes "<div>## _[ ] \n\n") ≡ leaf Html (codes "<div>## _[ ] " ∷ []) ∷ []
unfolding reading
e149 = refl

e150 : seen (codes "> **~~~\n---\n**!") ≡ opens Quote ∷ leaf Paragraph (codes "**~~~" ∷ []) ∷ closes ∷ leaf Rule (codes "---" ∷ []) ∷ leaf Paragraph (codes "**!" ∷ []) ∷ []
unfolding reading
e150 = refl

pub blocks6 : AreBlocks6
blocks6 = record { e126 = e126; e127 = e127; e128 = e128; e129 = e129; e130 = e130; e131 = e131; e132 = e132; e133 = e133; e134 = e134; e135 = e135; e136 = e136; e137 = e137; e138 = e138; e139 = e139; e140 = e140; e141 = e141; e142 = e142; e143 = e143; e144 = e144; e145 = e145; e146 = e146; e147 = e147; e148 = e148; e149 = e149; e150 = e150 }
