-- Examples 51 to 75, computed.
use Rattle.std.proofs.Common.{◌≡◌, [], ◌∷◌, codes, refl}
use Rattle.markdown_blocks.specs.declared.containers.Container.TheVariants.{Quote, Item}
use Rattle.markdown_leaves.specs.declared.parts.Kind.TheVariants.{Paragraph, Heading, Indented, Fenced, Html, Rule}
use Rattle.markdown_examples.specs.Seen.{opens, closes, leaf, seen}
use Rattle.markdown_examples.specs.Blocks3.{AreBlocks3}
use Rattle.markdown_as_html.proofs.Computing.{reading}

e51 : seen (codes "<!--===''") ≡ leaf Html (codes "<!--===''" ∷ []) ∷ []
unfolding reading
e51 = refl

e52 : seen (codes "</a>)\n\n# ") ≡ leaf Paragraph (codes "</a>)" ∷ []) ∷ leaf (Heading 1) ([] ∷ []) ∷ []
unfolding reading
e52 = refl

e53 : seen (codes "<div>~~~\n") ≡ leaf Html (codes "<div>~~~" ∷ []) ∷ []
unfolding reading
e53 = refl

e54 : seen (codes "\n---\n+ ---") ≡ leaf Rule (codes "---" ∷ []) ∷ opens (Item 43 0 2) ∷ leaf Rule (codes "---" ∷ []) ∷ closes ∷ []
unfolding reading
e54 = refl

e55 : seen (codes "\n---\n> )<\\") ≡ leaf Rule (codes "---" ∷ []) ∷ opens Quote ∷ leaf Paragraph (codes ")<\\" ∷ []) ∷ closes ∷ []
unfolding reading
e55 = refl

e56 : seen (35 ∷ 32 ∷ 49 ∷ 46 ∷ 32 ∷ 226 ∷ 128 ∷ 156 ∷ 42 ∷ 124 ∷ 42 ∷ 40 ∷ []) ≡ leaf (Heading 1) ((49 ∷ 46 ∷ 32 ∷ 226 ∷ 128 ∷ 156 ∷ 42 ∷ 124 ∷ 42 ∷ 40 ∷ []) ∷ []) ∷ []
unfolding reading
e56 = refl

e57 : seen (codes "'<a>~*<b'*") ≡ leaf Paragraph (codes "'<a>~*<b'*" ∷ []) ∷ []
unfolding reading
e57 = refl

e58 : seen (codes "*\n---\n:===") ≡ opens (Item 42 0 2) ∷ closes ∷ leaf Rule (codes "---" ∷ []) ∷ leaf Paragraph (codes ":===" ∷ []) ∷ []
unfolding reading
e58 = refl

e59 : seen (codes "- ~~~2) ~~") ≡ opens (Item 45 0 2) ∷ leaf Fenced (codes "2) ~~" ∷ []) ∷ closes ∷ []
unfolding reading
e59 = refl

e60 : seen (codes "1. Ã©:\n\n\"\"Ã©") ≡ opens (Item 46 1 3) ∷ leaf Paragraph (codes "Ã©:" ∷ []) ∷ closes ∷ leaf Paragraph (codes "\"\"Ã©" ∷ []) ∷ []
unfolding reading
e60 = refl

e61 : seen (codes "2) ~~~>---") ≡ opens (Item 41 2 3) ∷ leaf Fenced (codes ">---" ∷ []) ∷ closes ∷ []
unfolding reading
e61 = refl

e62 : seen (codes ":__<a>__* ") ≡ leaf Paragraph (codes ":__<a>__* " ∷ []) ∷ []
unfolding reading
e62 = refl

e63 : seen (codes "<!--+ 2) .") ≡ leaf Html (codes "<!--+ 2) ." ∷ []) ∷ []
unfolding reading
e63 = refl

e64 : seen (codes "<a>* \n```*") ≡ leaf Paragraph (codes "<a>* " ∷ []) ∷ leaf Fenced (codes "*" ∷ []) ∷ []
unfolding reading
e64 = refl

e65 : seen (codes "<a>- [ ] )") ≡ leaf Paragraph (codes "<a>- [ ] )" ∷ []) ∷ []
unfolding reading
e65 = refl

e66 : seen (codes "<div>2) Ã©[") ≡ leaf Html (codes "<div>2) Ã©[" ∷ []) ∷ []
unfolding reading
e66 = refl

e67 : seen (codes "<div>``]__") ≡ leaf Html (codes "<div>``]__" ∷ []) ∷ []
unfolding reading
e67 = refl

e68 : seen (codes "> - \n](/u)") ≡ opens Quote ∷ opens (Item 45 0 2) ∷ closes ∷ closes ∷ leaf Paragraph (codes "](/u)" ∷ []) ∷ []
unfolding reading
e68 = refl

e69 : seen (codes ">&#35;</a>") ≡ opens Quote ∷ leaf Paragraph (codes "&#35;</a>" ∷ []) ∷ closes ∷ []
unfolding reading
e69 = refl

e70 : seen (codes "\\\n</a>````") ≡ leaf Paragraph (codes "\\" ∷ codes "</a>````" ∷ []) ∷ []
unfolding reading
e70 = refl

e71 : seen (codes "\n\n\n---\n+ :[") ≡ leaf Rule (codes "---" ∷ []) ∷ opens (Item 43 0 2) ∷ leaf Paragraph (codes ":[" ∷ []) ∷ closes ∷ []
unfolding reading
e71 = refl

e72 : seen (codes "\n---\n~~~\\\\*") ≡ leaf Rule (codes "---" ∷ []) ∷ leaf Fenced (codes "\\\\*" ∷ []) ∷ []
unfolding reading
e72 = refl

e73 : seen (codes "    # \n[ ] ") ≡ leaf Indented (codes "# " ∷ []) ∷ leaf Paragraph (codes "[ ] " ∷ []) ∷ []
unfolding reading
e73 = refl

e74 : seen (codes "  ]\n===\n---") ≡ leaf (Heading 1) (codes "]" ∷ []) ∷ leaf Rule (codes "---" ∷ []) ∷ []
unfolding reading
e74 = refl

e75 : seen (codes "*<_\n---\n~~~") ≡ leaf (Heading 2) (codes "*<_" ∷ []) ∷ leaf Fenced ([] ∷ []) ∷ []
unfolding reading
e75 = refl

pub blocks3 : AreBlocks3
blocks3 = record { e51 = e51; e52 = e52; e53 = e53; e54 = e54; e55 = e55; e56 = e56; e57 = e57; e58 = e58; e59 = e59; e60 = e60; e61 = e61; e62 = e62; e63 = e63; e64 = e64; e65 = e65; e66 = e66; e67 = e67; e68 = e68; e69 = e69; e70 = e70; e71 = e71; e72 = e72; e73 = e73; e74 = e74; e75 = e75 }
