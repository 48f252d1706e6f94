-- Examples 476 to 485: what one sees of their blocks.
use Rattle.std.specs.Prelude.{◌≡◌, [], ◌∷◌, codes}
use Rattle.markdown_blocks.specs.declared.containers.Container.TheVariants.{Quote}
use Rattle.markdown_leaves.specs.declared.parts.Kind.TheVariants.{Paragraph, Heading, Html, Definitions}
use Rattle.markdown_examples.specs.Seen.{opens, closes, leaf, seen}

pub record AreBlocks20 : Type 0 where
  pub e476 : seen (codes "####### a\n#b\n# c#\n# d #") ≡ leaf Paragraph (codes "####### a" ∷ codes "#b" ∷ []) ∷ leaf (Heading 1) (codes "c#" ∷ []) ∷ leaf (Heading 1) (codes "d" ∷ []) ∷ []
  pub e477 : seen (codes "![a [b](c) d](e)") ≡ leaf Paragraph (codes "![a [b](c) d](e)" ∷ []) ∷ []
  pub e478 : seen (codes "a_b_ _c_d _e_") ≡ leaf Paragraph (codes "a_b_ _c_d _e_" ∷ []) ∷ []
  pub e479 : seen (codes "[a](b 'c') [d](e (f)) [g](h (i (j)))") ≡ leaf Paragraph (codes "[a](b 'c') [d](e (f)) [g](h (i (j)))" ∷ []) ∷ []
  pub e480 : seen (codes "www. a") ≡ leaf Paragraph (codes "www. a" ∷ []) ∷ []
  pub e481 : seen (codes "[a]:\n\n[a]") ≡ leaf Paragraph (codes "[a]:" ∷ []) ∷ leaf Paragraph (codes "[a]" ∷ []) ∷ []
  pub e482 : seen (codes "[b]: c \"d\" e\n\n[b]") ≡ leaf Paragraph (codes "[b]: c \"d\" e" ∷ []) ∷ leaf Paragraph (codes "[b]" ∷ []) ∷ []
  pub e483 : seen (codes "[a]: b\"c\"\n\n[a]") ≡ leaf Definitions (codes "[a]: b\"c\"" ∷ []) ∷ leaf Paragraph (codes "[a]" ∷ []) ∷ []
  pub e484 : seen (codes ">a\n>\tb\n\n>\n> c") ≡ opens Quote ∷ leaf Paragraph (codes "a" ∷ codes "b" ∷ []) ∷ closes ∷ opens Quote ∷ leaf Paragraph (codes "c" ∷ []) ∷ closes ∷ []
  pub e485 : seen (codes "<!doctype html>\n*a*") ≡ leaf Html (codes "<!doctype html>" ∷ []) ∷ leaf Paragraph (codes "*a*" ∷ []) ∷ []
