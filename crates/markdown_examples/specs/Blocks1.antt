-- Examples 1 to 25: what one sees of their blocks.
use Rattle.std.specs.Prelude.{◌≡◌, [], ◌∷◌, codes}
use Rattle.markdown_blocks.specs.declared.containers.Container.TheVariants.{Quote, Item}
use Rattle.markdown_leaves.specs.declared.parts.Kind.TheVariants.{Paragraph, Heading, Indented, Fenced, Rule}
use Rattle.markdown_examples.specs.Seen.{opens, closes, leaf, seen}

pub record AreBlocks1 : Type 0 where
  pub e1 : seen (codes ">") ≡ opens Quote ∷ closes ∷ []
  pub e2 : seen (codes "\t*") ≡ leaf Indented (codes "*" ∷ []) ∷ []
  pub e3 : seen (codes "# ") ≡ leaf (Heading 1) ([] ∷ []) ∷ []
  pub e4 : seen (codes "**") ≡ leaf Paragraph (codes "**" ∷ []) ∷ []
  pub e5 : seen (codes "- >") ≡ opens (Item 45 0 2) ∷ opens Quote ∷ closes ∷ closes ∷ []
  pub e6 : seen (codes "1. ") ≡ opens (Item 46 1 3) ∷ closes ∷ []
  pub e7 : seen (codes "- + ") ≡ opens (Item 45 0 2) ∷ opens (Item 43 0 2) ∷ closes ∷ closes ∷ []
  pub e8 : seen (codes "* [:a") ≡ opens (Item 42 0 2) ∷ leaf Paragraph (codes "[:a" ∷ []) ∷ closes ∷ []
  pub e9 : seen (codes "- \n\n'") ≡ opens (Item 45 0 2) ∷ closes ∷ leaf Paragraph (codes "'" ∷ []) ∷ []
  pub e10 : seen (codes "- ~~~") ≡ opens (Item 45 0 2) ∷ leaf Fenced ([] ∷ []) ∷ closes ∷ []
  pub e11 : seen (codes "2) > ") ≡ opens (Item 41 2 3) ∷ opens Quote ∷ closes ∷ closes ∷ []
  pub e12 : seen (codes "<b>``") ≡ leaf Paragraph (codes "<b>``" ∷ []) ∷ []
  pub e13 : seen (codes "> ---") ≡ opens Quote ∷ leaf Rule (codes "---" ∷ []) ∷ closes ∷ []
  pub e14 : seen (codes "> ```") ≡ opens Quote ∷ leaf Fenced ([] ∷ []) ∷ closes ∷ []
  pub e15 : seen (codes ">1. \n") ≡ opens Quote ∷ opens (Item 46 1 3) ∷ closes ∷ closes ∷ []
  pub e16 : seen (codes "(*|-|*") ≡ leaf Paragraph (codes "(*|-|*" ∷ []) ∷ []
  pub e17 : seen (codes "*\n---\n") ≡ opens (Item 42 0 2) ∷ closes ∷ leaf Rule (codes "---" ∷ []) ∷ []
  pub e18 : seen (codes "+ > # ") ≡ opens (Item 43 0 2) ∷ opens Quote ∷ leaf (Heading 1) ([] ∷ []) ∷ closes ∷ closes ∷ []
  pub e19 : seen (codes "1. + '") ≡ opens (Item 46 1 3) ∷ opens (Item 43 0 2) ∷ leaf Paragraph (codes "'" ∷ []) ∷ closes ∷ closes ∷ []
  pub e20 : seen (codes "2) 2) ") ≡ opens (Item 41 2 3) ∷ opens (Item 41 2 3) ∷ closes ∷ closes ∷ []
  pub e21 : seen (codes "\n\n- 1. ") ≡ opens (Item 45 0 2) ∷ opens (Item 46 1 3) ∷ closes ∷ closes ∷ []
  pub e22 : seen (codes "# </a><") ≡ leaf (Heading 1) (codes "</a><" ∷ []) ∷ []
  pub e23 : seen (codes "(\n\n!<a>") ≡ leaf Paragraph (codes "(" ∷ []) ∷ leaf Paragraph (codes "!<a>" ∷ []) ∷ []
  pub e24 : seen (codes "* > -->") ≡ opens (Item 42 0 2) ∷ opens Quote ∷ leaf Paragraph (codes "-->" ∷ []) ∷ closes ∷ closes ∷ []
  pub e25 : seen (codes "1. ## ]") ≡ opens (Item 46 1 3) ∷ leaf (Heading 2) (codes "]" ∷ []) ∷ closes ∷ []
