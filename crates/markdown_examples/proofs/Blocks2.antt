-- Examples 26 to 50, computed.
use Rattle.std.proofs.Common.{◌≡◌, [], ◌∷◌, codes, refl}
use Rattle.markdown_blocks.specs.declared.containers.Container.TheVariants.{Quote, Item}
use Rattle.markdown_leaves.specs.declared.parts.Kind.TheVariants.{Paragraph, Heading, Fenced, Html, Rule}
use Rattle.markdown_examples.specs.Seen.{opens, closes, leaf, seen}
use Rattle.markdown_examples.specs.Blocks2.{AreBlocks2}
use Rattle.markdown_as_html.proofs.Computing.{reading}

e26 : seen (codes "2) 1. )") ≡ opens (Item 41 2 3) ∷ opens (Item 46 1 3) ∷ leaf Paragraph (codes ")" ∷ []) ∷ closes ∷ closes ∷ []
unfolding reading
e26 = refl

e27 : seen (codes "<!--*__") ≡ leaf Html (codes "<!--*__" ∷ []) ∷ []
unfolding reading
e27 = refl

e28 : seen (codes "<!--```") ≡ leaf Html (codes "<!--```" ∷ []) ∷ []
unfolding reading
e28 = refl

e29 : seen (codes "</a><a>") ≡ leaf Paragraph (codes "</a><a>" ∷ []) ∷ []
unfolding reading
e29 = refl

e30 : seen (codes "<div>+ ") ≡ leaf Html (codes "<div>+ " ∷ []) ∷ []
unfolding reading
e30 = refl

e31 : seen (codes "## `<!--") ≡ leaf (Heading 2) (codes "`<!--" ∷ []) ∷ []
unfolding reading
e31 = refl

e32 : seen (codes "(<div>  ") ≡ leaf Paragraph (codes "(<div>  " ∷ []) ∷ []
unfolding reading
e32 = refl

e33 : seen (codes "- # ~~~a") ≡ opens (Item 45 0 2) ∷ leaf (Heading 1) (codes "~~~a" ∷ []) ∷ closes ∷ []
unfolding reading
e33 = refl

e34 : seen (codes "---*<a>*") ≡ leaf Paragraph (codes "---*<a>*" ∷ []) ∷ []
unfolding reading
e34 = refl

e35 : seen (50 ∷ 41 ∷ 32 ∷ 43 ∷ 32 ∷ 230 ∷ 166 ∷ 130 ∷ 96 ∷ 195 ∷ 169 ∷ []) ≡ opens (Item 41 2 3) ∷ opens (Item 43 0 2) ∷ leaf Paragraph ((230 ∷ 166 ∷ 130 ∷ 96 ∷ 195 ∷ 169 ∷ []) ∷ []) ∷ closes ∷ closes ∷ []
unfolding reading
e35 = refl

e36 : seen (codes "<!--\n!- ") ≡ leaf Html (codes "<!--" ∷ codes "!- " ∷ []) ∷ []
unfolding reading
e36 = refl

e37 : seen (codes "<div>![a") ≡ leaf Html (codes "<div>![a" ∷ []) ∷ []
unfolding reading
e37 = refl

e38 : seen (codes "<div>'((") ≡ leaf Html (codes "<div>'((" ∷ []) ∷ []
unfolding reading
e38 = refl

e39 : seen (codes "<div>2) ") ≡ leaf Html (codes "<div>2) " ∷ []) ∷ []
unfolding reading
e39 = refl

e40 : seen (codes "<div>\\)'") ≡ leaf Html (codes "<div>\\)'" ∷ []) ∷ []
unfolding reading
e40 = refl

e41 : seen (codes "<div>].]") ≡ leaf Html (codes "<div>].]" ∷ []) ∷ []
unfolding reading
e41 = refl

e42 : seen (codes "> 2) -->") ≡ opens Quote ∷ opens (Item 41 2 3) ∷ leaf Paragraph (codes "-->" ∷ []) ∷ closes ∷ closes ∷ []
unfolding reading
e42 = refl

e43 : seen (codes ">|<a>===") ≡ opens Quote ∷ leaf Paragraph (codes "|<a>===" ∷ []) ∷ closes ∷ []
unfolding reading
e43 = refl

e44 : seen (codes "_</a>\n\n:") ≡ leaf Paragraph (codes "_</a>" ∷ []) ∷ leaf Paragraph (codes ":" ∷ []) ∷ []
unfolding reading
e44 = refl

e45 : seen (96 ∷ 92 ∷ 42 ∷ 96 ∷ 226 ∷ 128 ∷ 156 ∷ 10 ∷ 10 ∷ 97 ∷ []) ≡ leaf Paragraph ((96 ∷ 92 ∷ 42 ∷ 96 ∷ 226 ∷ 128 ∷ 156 ∷ []) ∷ []) ∷ leaf Paragraph (codes "a" ∷ []) ∷ []
unfolding reading
e45 = refl

e46 : seen (codes "\n---\n2) ~") ≡ leaf Rule (codes "---" ∷ []) ∷ opens (Item 41 2 3) ∷ leaf Paragraph (codes "~" ∷ []) ∷ closes ∷ []
unfolding reading
e46 = refl

e47 : seen (codes "# <a>*.- ") ≡ leaf (Heading 1) (codes "<a>*.-" ∷ []) ∷ []
unfolding reading
e47 = refl

e48 : seen (codes "- \\*<div>") ≡ opens (Item 45 0 2) ∷ leaf Paragraph (codes "\\*<div>" ∷ []) ∷ closes ∷ []
unfolding reading
e48 = refl

e49 : seen (codes "1. ```rs\n") ≡ opens (Item 46 1 3) ∷ leaf Fenced (codes "rs" ∷ []) ∷ closes ∷ []
unfolding reading
e49 = refl

e50 : seen (codes "2) 'b ---") ≡ opens (Item 41 2 3) ∷ leaf Paragraph (codes "'b ---" ∷ []) ∷ closes ∷ []
unfolding reading
e50 = refl

pub blocks2 : AreBlocks2
blocks2 = record { e26 = e26; e27 = e27; e28 = e28; e29 = e29; e30 = e30; e31 = e31; e32 = e32; e33 = e33; e34 = e34; e35 = e35; e36 = e36; e37 = e37; e38 = e38; e39 = e39; e40 = e40; e41 = e41; e42 = e42; e43 = e43; e44 = e44; e45 = e45; e46 = e46; e47 = e47; e48 = e48; e49 = e49; e50 = e50 }
