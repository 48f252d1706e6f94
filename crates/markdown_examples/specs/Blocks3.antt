-- Examples 51 to 75: what one sees of their blocks.
use Rattle.std.specs.Prelude.{◌≡◌, [], ◌∷◌, codes}
use Rattle.markdown_blocks.specs.declared.containers.Container.TheVariants.{Quote, Item}
use Rattle.markdown_leaves.specs.declared.parts.Kind.TheVariants.{Paragraph, Heading, Indented, Fenced, Html, Rule}
use Rattle.markdown_examples.specs.Seen.{opens, closes, leaf, seen}

pub record AreBlocks3 : Type 0 where
  pub e51 : seen (codes "<!--===''") ≡ leaf Html (codes "<!--===''" ∷ []) ∷ []
  pub e52 : seen (codes "</a>)\n\n# ") ≡ leaf Paragraph (codes "</a>)" ∷ []) ∷ leaf (Heading 1) ([] ∷ []) ∷ []
  pub e53 : seen (codes "<div>~~~\n") ≡ leaf Html (codes "<div>~~~" ∷ []) ∷ []
  pub e54 : seen (codes "\n---\n+ ---") ≡ leaf Rule (codes "---" ∷ []) ∷ opens (Item 43 0 2) ∷ leaf Rule (codes "---" ∷ []) ∷ closes ∷ []
  pub e55 : seen (codes "\n---\n> )<\\") ≡ leaf Rule (codes "---" ∷ []) ∷ opens Quote ∷ leaf Paragraph (codes ")<\\" ∷ []) ∷ closes ∷ []
  pub e56 : seen (35 ∷ 32 ∷ 49 ∷ 46 ∷ 32 ∷ 226 ∷ 128 ∷ 156 ∷ 42 ∷ 124 ∷ 42 ∷ 40 ∷ []) ≡ leaf (Heading 1) ((49 ∷ 46 ∷ 32 ∷ 226 ∷ 128 ∷ 156 ∷ 42 ∷ 124 ∷ 42 ∷ 40 ∷ []) ∷ []) ∷ []
  pub e57 : seen (codes "'<a>~*<b'*") ≡ leaf Paragraph (codes "'<a>~*<b'*" ∷ []) ∷ []
  pub e58 : seen (codes "*\n---\n:===") ≡ opens (Item 42 0 2) ∷ closes ∷ leaf Rule (codes "---" ∷ []) ∷ leaf Paragraph (codes ":===" ∷ []) ∷ []
  pub e59 : seen (codes "- ~~~2) ~~") ≡ opens (Item 45 0 2) ∷ leaf Fenced (codes "2) ~~" ∷ []) ∷ closes ∷ []
  pub e60 : seen (codes "1. Ã©:\n\n\"\"Ã©") ≡ opens (Item 46 1 3) ∷ leaf Paragraph (codes "Ã©:" ∷ []) ∷ closes ∷ leaf Paragraph (codes "\"\"Ã©" ∷ []) ∷ []
  pub e61 : seen (codes "2) ~~~>---") ≡ opens (Item 41 2 3) ∷ leaf Fenced (codes ">---" ∷ []) ∷ closes ∷ []
  pub e62 : seen (codes ":__<a>__* ") ≡ leaf Paragraph (codes ":__<a>__* " ∷ []) ∷ []
  pub e63 : seen (codes "<!--+ 2) .") ≡ leaf Html (codes "<!--+ 2) ." ∷ []) ∷ []
  pub e64 : seen (codes "<a>* \n```*") ≡ leaf Paragraph (codes "<a>* " ∷ []) ∷ leaf Fenced (codes "*" ∷ []) ∷ []
  pub e65 : seen (codes "<a>- [ ] )") ≡ leaf Paragraph (codes "<a>- [ ] )" ∷ []) ∷ []
  pub e66 : seen (codes "<div>2) Ã©[") ≡ leaf Html (codes "<div>2) Ã©[" ∷ []) ∷ []
  pub e67 : seen (codes "<div>``]__") ≡ leaf Html (codes "<div>``]__" ∷ []) ∷ []
  pub e68 : seen (codes "> - \n](/u)") ≡ opens Quote ∷ opens (Item 45 0 2) ∷ closes ∷ closes ∷ leaf Paragraph (codes "](/u)" ∷ []) ∷ []
  pub e69 : seen (codes ">&#35;</a>") ≡ opens Quote ∷ leaf Paragraph (codes "&#35;</a>" ∷ []) ∷ closes ∷ []
  pub e70 : seen (codes "\\\n</a>````") ≡ leaf Paragraph (codes "\\" ∷ codes "</a>````" ∷ []) ∷ []
  pub e71 : seen (codes "\n\n\n---\n+ :[") ≡ leaf Rule (codes "---" ∷ []) ∷ opens (Item 43 0 2) ∷ leaf Paragraph (codes ":[" ∷ []) ∷ closes ∷ []
  pub e72 : seen (codes "\n---\n~~~\\\\*") ≡ leaf Rule (codes "---" ∷ []) ∷ leaf Fenced (codes "\\\\*" ∷ []) ∷ []
  pub e73 : seen (codes "    # \n[ ] ") ≡ leaf Indented (codes "# " ∷ []) ∷ leaf Paragraph (codes "[ ] " ∷ []) ∷ []
  pub e74 : seen (codes "  ]\n===\n---") ≡ leaf (Heading 1) (codes "]" ∷ []) ∷ leaf Rule (codes "---" ∷ []) ∷ []
  pub e75 : seen (codes "*<_\n---\n~~~") ≡ leaf (Heading 2) (codes "*<_" ∷ []) ∷ leaf Fenced ([] ∷ []) ∷ []
