-- Examples 1 to 25, computed.
use Rattle.std.proofs.Common.{◌≡◌, [], ◌∷◌, codes, refl}
use Rattle.markdown_blocks.specs.declared.containers.Container.TheVariants.{Quote, Item}
use Rattle.markdown_leaves.specs.declared.parts.Kind.TheVariants.{Paragraph, Heading, Indented, Fenced, Rule}
use Rattle.markdown_examples.specs.Seen.{opens, closes, leaf, seen}
use Rattle.markdown_examples.specs.Blocks1.{AreBlocks1}
use Rattle.markdown_as_html.proofs.Computing.{reading}

e1 : seen (codes ">") ≡ opens Quote ∷ closes ∷ []
unfolding reading
e1 = refl

e2 : seen (codes "\t*") ≡ leaf Indented (codes "*" ∷ []) ∷ []
unfolding reading
e2 = refl

e3 : seen (codes "# ") ≡ leaf (Heading 1) ([] ∷ []) ∷ []
unfolding reading
e3 = refl

e4 : seen (codes "**") ≡ leaf Paragraph (codes "**" ∷ []) ∷ []
unfolding reading
e4 = refl

e5 : seen (codes "- >") ≡ opens (Item 45 0 2) ∷ opens Quote ∷ closes ∷ closes ∷ []
unfolding reading
e5 = refl

e6 : seen (codes "1. ") ≡ opens (Item 46 1 3) ∷ closes ∷ []
unfolding reading
e6 = refl

e7 : seen (codes "- + ") ≡ opens (Item 45 0 2) ∷ opens (Item 43 0 2) ∷ closes ∷ closes ∷ []
unfolding reading
e7 = refl

e8 : seen (codes "* [:a") ≡ opens (Item 42 0 2) ∷ leaf Paragraph (codes "[:a" ∷ []) ∷ closes ∷ []
unfolding reading
e8 = refl

e9 : seen (codes "- \n\n'") ≡ opens (Item 45 0 2) ∷ closes ∷ leaf Paragraph (codes "'" ∷ []) ∷ []
unfolding reading
e9 = refl

e10 : seen (codes "- ~~~") ≡ opens (Item 45 0 2) ∷ leaf Fenced ([] ∷ []) ∷ closes ∷ []
unfolding reading
e10 = refl

e11 : seen (codes "2) > ") ≡ opens (Item 41 2 3) ∷ opens Quote ∷ closes ∷ closes ∷ []
unfolding reading
e11 = refl

e12 : seen (codes "<b>``") ≡ leaf Paragraph (codes "<b>``" ∷ []) ∷ []
unfolding reading
e12 = refl

e13 : seen (codes "> ---") ≡ opens Quote ∷ leaf Rule (codes "---" ∷ []) ∷ closes ∷ []
unfolding reading
e13 = refl

e14 : seen (codes "> ```") ≡ opens Quote ∷ leaf Fenced ([] ∷ []) ∷ closes ∷ []
unfolding reading
e14 = refl

e15 : seen (codes ">1. \n") ≡ opens Quote ∷ opens (Item 46 1 3) ∷ closes ∷ closes ∷ []
unfolding reading
e15 = refl

e16 : seen (codes "(*|-|*") ≡ leaf Paragraph (codes "(*|-|*" ∷ []) ∷ []
unfolding reading
e16 = refl

e17 : seen (codes "*\n---\n") ≡ opens (Item 42 0 2) ∷ closes ∷ leaf Rule (codes "---" ∷ []) ∷ []
unfolding reading
e17 = refl

e18 : seen (codes "+ > # ") ≡ opens (Item 43 0 2) ∷ opens Quote ∷ leaf (Heading 1) ([] ∷ []) ∷ closes ∷ closes ∷ []
unfolding reading
e18 = refl

e19 : seen (codes "1. + '") ≡ opens (Item 46 1 3) ∷ opens (Item 43 0 2) ∷ leaf Paragraph (codes "'" ∷ []) ∷ closes ∷ closes ∷ []
unfolding reading
e19 = refl

e20 : seen (codes "2) 2) ") ≡ opens (Item 41 2 3) ∷ opens (Item 41 2 3) ∷ closes ∷ closes ∷ []
unfolding reading
e20 = refl

e21 : seen (codes "\n\n- 1. ") ≡ opens (Item 45 0 2) ∷ opens (Item 46 1 3) ∷ closes ∷ closes ∷ []
unfolding reading
e21 = refl

e22 : seen (codes "# </a><") ≡ leaf (Heading 1) (codes "</a><" ∷ []) ∷ []
unfolding reading
e22 = refl

e23 : seen (codes "(\n\n!<a>") ≡ leaf Paragraph (codes "(" ∷ []) ∷ leaf Paragraph (codes "!<a>" ∷ []) ∷ []
unfolding reading
e23 = refl

e24 : seen (codes "* > -->") ≡ opens (Item 42 0 2) ∷ opens Quote ∷ leaf Paragraph (codes "-->" ∷ []) ∷ closes ∷ closes ∷ []
unfolding reading
e24 = refl

e25 : seen (codes "1. ## ]") ≡ opens (Item 46 1 3) ∷ leaf (Heading 2) (codes "]" ∷ []) ∷ closes ∷ []
unfolding reading
e25 = refl

pub blocks1 : AreBlocks1
blocks1 = record { e1 = e1; e2 = e2; e3 = e3; e4 = e4; e5 = e5; e6 = e6; e7 = e7; e8 = e8; e9 = e9; e10 = e10; e11 = e11; e12 = e12; e13 = e13; e14 = e14; e15 = e15; e16 = e16; e17 = e17; e18 = e18; e19 = e19; e20 = e20; e21 = e21; e22 = e22; e23 = e23; e24 = e24; e25 = e25 }
