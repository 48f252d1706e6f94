-- Examples 76 to 100, computed.
use Rattle.std.proofs.Common.{◌≡◌, [], ◌∷◌, codes, refl}
use Rattle.markdown_blocks.specs.declared.containers.Container.TheVariants.{Quote, Item}
use Rattle.markdown_leaves.specs.declared.parts.Kind.TheVariants.{Paragraph, Heading, Fenced, Html, Rule}
use Rattle.markdown_examples.specs.Seen.{opens, closes, leaf, seen}
use Rattle.markdown_examples.specs.Blocks4.{AreBlocks4}
use Rattle.markdown_as_html.proofs.Computing.{reading}

e76 : seen (codes "- -   \n===\n") ≡ opens (Item 45 0 2) ∷ opens (Item 45 0 2) ∷ closes ∷ closes ∷ leaf Paragraph (codes "===" ∷ []) ∷ []
unfolding reading
e76 = refl

e77 : seen (codes "<!--\t\\+ [a]") ≡ leaf Html (codes "<!--\t\\+ [a]" ∷ []) ∷ []
unfolding reading
e77 = refl

e78 : seen (codes "<!--    [* ") ≡ leaf Html (codes "<!--    [* " ∷ []) ∷ []
unfolding reading
e78 = refl

e79 : seen (codes "<!--<!--\t\\*") ≡ leaf Html (codes "<!--<!--\t\\*" ∷ []) ∷ []
unfolding reading
e79 = refl

e80 : seen (codes "<!--|*.[ ] ") ≡ leaf Html (codes "<!--|*.[ ] " ∷ []) ∷ []
unfolding reading
e80 = refl

e81 : seen (codes "<!--|-|[ ] ") ≡ leaf Html (codes "<!--|-|[ ] " ∷ []) ∷ []
unfolding reading
e81 = refl

e82 : seen (codes "</a>\n|-|-|\n") ≡ leaf Html (codes "</a>" ∷ codes "|-|-|" ∷ []) ∷ []
unfolding reading
e82 = refl

e83 : seen (codes "<div>*\n---\n") ≡ leaf Html (codes "<div>*" ∷ codes "---" ∷ []) ∷ []
unfolding reading
e83 = refl

e84 : seen (codes "<div>b b - ") ≡ leaf Html (codes "<div>b b - " ∷ []) ∷ []
unfolding reading
e84 = refl

e85 : seen (codes "> )```'``]:") ≡ opens Quote ∷ leaf Paragraph (codes ")```'``]:" ∷ []) ∷ closes ∷ []
unfolding reading
e85 = refl

e86 : seen (codes "><!--<b\\*> ") ≡ opens Quote ∷ leaf Html (codes "<!--<b\\*> " ∷ []) ∷ closes ∷ []
unfolding reading
e86 = refl

e87 : seen (codes ">~\n \n|-|-|\n") ≡ opens Quote ∷ leaf Paragraph (codes "~" ∷ []) ∷ closes ∷ leaf Paragraph (codes "|-|-|" ∷ []) ∷ []
unfolding reading
e87 = refl

e88 : seen (codes "|-|<a>!\n\n[[") ≡ leaf Paragraph (codes "|-|<a>!" ∷ []) ∷ leaf Paragraph (codes "[[" ∷ []) ∷ []
unfolding reading
e88 = refl

e89 : seen (codes "\n|-|-|\n## Ã©'") ≡ leaf Paragraph (codes "|-|-|" ∷ []) ∷ leaf (Heading 2) (codes "Ã©'" ∷ []) ∷ []
unfolding reading
e89 = refl

e90 : seen (codes "\n|-|-|\n<div>") ≡ leaf Paragraph (codes "|-|-|" ∷ []) ∷ leaf Html (codes "<div>" ∷ []) ∷ []
unfolding reading
e90 = refl

e91 : seen (codes "*  ```rs\n___") ≡ opens (Item 42 0 3) ∷ leaf Fenced (codes "rs" ∷ []) ∷ closes ∷ leaf Rule (codes "___" ∷ []) ∷ []
unfolding reading
e91 = refl

e92 : seen (codes "+ >   \t\n===\n") ≡ opens (Item 43 0 2) ∷ opens Quote ∷ closes ∷ closes ∷ leaf Paragraph (codes "===" ∷ []) ∷ []
unfolding reading
e92 = refl

e93 : seen (codes "1. **\"<div>\n") ≡ opens (Item 46 1 3) ∷ leaf Paragraph (codes "**\"<div>" ∷ []) ∷ closes ∷ []
unfolding reading
e93 = refl

e94 : seen (codes "2) ```rs\n## ") ≡ opens (Item 41 2 3) ∷ leaf Fenced (codes "rs" ∷ []) ∷ closes ∷ leaf (Heading 2) ([] ∷ []) ∷ []
unfolding reading
e94 = refl

e95 : seen (codes "<!--http://x") ≡ leaf Html (codes "<!--http://x" ∷ []) ∷ []
unfolding reading
e95 = refl

e96 : seen (codes "</a>-->>_Ã©_~") ≡ leaf Paragraph (codes "</a>-->>_Ã©_~" ∷ []) ∷ []
unfolding reading
e96 = refl

e97 : seen (codes "<a>\n===\n`b )") ≡ leaf Html (codes "<a>" ∷ codes "===" ∷ codes "`b )" ∷ []) ∷ []
unfolding reading
e97 = refl

e98 : seen (codes ">\n---\n\n===\n\n") ≡ opens Quote ∷ closes ∷ leaf Rule (codes "---" ∷ []) ∷ leaf Paragraph (codes "===" ∷ []) ∷ []
unfolding reading
e98 = refl

e99 : seen (codes "> ```\n===\n``") ≡ opens Quote ∷ leaf Fenced ([] ∷ []) ∷ closes ∷ leaf Paragraph (codes "===" ∷ codes "``" ∷ []) ∷ []
unfolding reading
e99 = refl

e100 : seen (62 ∷ 126 ∷ 126 ∷ 126 ∷ 230 ∷ 166 ∷ 130 ∷ 34 ∷ 10 ∷ 45 ∷ 45 ∷ 45 ∷ 10 ∷ 124 ∷ []) ≡ opens Quote ∷ leaf Fenced ((230 ∷ 166 ∷ 130 ∷ 34 ∷ []) ∷ []) ∷ closes ∷ leaf Rule (codes "---" ∷ []) ∷ leaf Paragraph (codes "|" ∷ []) ∷ []
unfolding reading
e100 = refl

pub blocks4 : AreBlocks4
blocks4 = record { e76 = e76; e77 = e77; e78 = e78; e79 = e79; e80 = e80; e81 = e81; e82 = e82; e83 = e83; e84 = e84; e85 = e85; e86 = e86; e87 = e87; e88 = e88; e89 = e89; e90 = e90; e91 = e91; e92 = e92; e93 = e93; e94 = e94; e95 = e95; e96 = e96; e97 = e97; e98 = e98; e99 = e99; e100 = e100 }
