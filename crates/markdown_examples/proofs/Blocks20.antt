-- Examples 476 to 485, computed.
use Rattle.std.proofs.Common.{◌≡◌, [], ◌∷◌, codes, refl}
use Rattle.markdown_blocks.specs.declared.containers.Container.TheVariants.{Quote}
use Rattle.markdown_leaves.specs.declared.parts.Kind.TheVariants.{Paragraph, Heading, Html, Definitions}
use Rattle.markdown_examples.specs.Seen.{opens, closes, leaf, seen}
use Rattle.markdown_examples.specs.Blocks20.{AreBlocks20}
use Rattle.markdown_as_html.proofs.Computing.{reading}

e476 : seen (codes "####### a\n#b\n# c#\n# d #") ≡ leaf Paragraph (codes "####### a" ∷ codes "#b" ∷ []) ∷ leaf (Heading 1) (codes "c#" ∷ []) ∷ leaf (Heading 1) (codes "d" ∷ []) ∷ []
unfolding reading
e476 = refl

e477 : seen (codes "![a [b](c) d](e)") ≡ leaf Paragraph (codes "![a [b](c) d](e)" ∷ []) ∷ []
unfolding reading
e477 = refl

e478 : seen (codes "a_b_ _c_d _e_") ≡ leaf Paragraph (codes "a_b_ _c_d _e_" ∷ []) ∷ []
unfolding reading
e478 = refl

e479 : seen (codes "[a](b 'c') [d](e (f)) [g](h (i (j)))") ≡ leaf Paragraph (codes "[a](b 'c') [d](e (f)) [g](h (i (j)))" ∷ []) ∷ []
unfolding reading
e479 = refl

e480 : seen (codes "www. a") ≡ leaf Paragraph (codes "www. a" ∷ []) ∷ []
unfolding reading
e480 = refl

e481 : seen (codes "[a]:\n\n[a]") ≡ leaf Paragraph (codes "[a]:" ∷ []) ∷ leaf Paragraph (codes "[a]" ∷ []) ∷ []
unfolding reading
e481 = refl

e482 : seen (codes "[b]: c \"d\" e\n\n[b]") ≡ leaf Paragraph (codes "[b]: c \"d\" e" ∷ []) ∷ leaf Paragraph (codes "[b]" ∷ []) ∷ []
unfolding reading
e482 = refl

e483 : seen (codes "[a]: b\"c\"\n\n[a]") ≡ leaf Definitions (codes "[a]: b\"c\"" ∷ []) ∷ leaf Paragraph (codes "[a]" ∷ []) ∷ []
unfolding reading
e483 = refl

e484 : seen (codes ">a\n>\tb\n\n>\n> c") ≡ opens Quote ∷ leaf Paragraph (codes "a" ∷ codes "b" ∷ []) ∷ closes ∷ opens Quote ∷ leaf Paragraph (codes "c" ∷ []) ∷ closes ∷ []
unfolding reading
e484 = refl

e485 : seen (codes "<!doctype html>\n*a*") ≡ leaf Html (codes "<!doctype html>" ∷ []) ∷ leaf Paragraph (codes "*a*" ∷ []) ∷ []
unfolding reading
e485 = refl

pub blocks20 : AreBlocks20
blocks20 = record { e476 = e476; e477 = e477; e478 = e478; e479 = e479; e480 = e480; e481 = e481; e482 = e482; e483 = e483; e484 = e484; e485 = e485 }
