-- Examples 476 to 485, computed.
use Rattle.std.proofs.Common.{◌≡◌, [], ◌∷◌, codes, true, false, refl}
use Rattle.mad_sections.specs.declared.gutters.Gutter.TheVariants.{Bar}
use Rattle.mad_md.specs.declared.composite.CompositeStyle.TheVariants.{Paragraph, Header}
use Rattle.markdown_examples.specs.Rows.{plain, flagged, pictured, row, behind, blank}
use Rattle.markdown_reader.specs.Mapping.{link_at}
use Rattle.markdown_reader.specs.Markdown.{printable_sections, unmarked_links}
use Rattle.markdown_examples.specs.Sections20.{AreSections20}
use Rattle.markdown_examples.proofs.Computing.{sections}

e476 : printable_sections (codes "####### a\n#b\n# c#\n# d #") ≡ behind [] 0 (row Paragraph (plain (codes "####### a #b") ∷ []) ∷ []) ∷ blank [] ∷ behind [] 0 (row (Header 1) (plain (codes "c#") ∷ []) ∷ []) ∷ blank [] ∷ behind [] 0 (row (Header 1) (plain (codes "d") ∷ []) ∷ []) ∷ []
unfolding sections
e476 = refl

e477 : printable_sections (codes "![a [b](c) d](e)") ≡ behind [] 0 (row Paragraph (pictured (codes "a b d") ∷ []) ∷ []) ∷ []
unfolding sections
e477 = refl

l477 : unmarked_links (codes "![a [b](c) d](e)") ≡ link_at 0 (codes "c") ∷ []
unfolding sections
l477 = refl

e478 : printable_sections (codes "a_b_ _c_d _e_") ≡ behind [] 0 (row Paragraph (plain (codes "a_b_ _c_d ") ∷ flagged false true false false false (codes "e") ∷ []) ∷ []) ∷ []
unfolding sections
e478 = refl

e479 : printable_sections (codes "[a](b 'c') [d](e (f)) [g](h (i (j)))") ≡ behind [] 0 (row Paragraph (flagged false false false false true (codes "a") ∷ plain (codes " ") ∷ flagged false false false false true (codes "d") ∷ plain (codes " [g](h (i (j)))") ∷ []) ∷ []) ∷ []
unfolding sections
e479 = refl

l479 : unmarked_links (codes "[a](b 'c') [d](e (f)) [g](h (i (j)))") ≡ link_at 0 (codes "b") ∷ link_at 0 (codes "e") ∷ []
unfolding sections
l479 = refl

e480 : printable_sections (codes "www. a") ≡ behind [] 0 (row Paragraph (plain (codes "www. a") ∷ []) ∷ []) ∷ []
unfolding sections
e480 = refl

e481 : printable_sections (codes "[a]:\n\n[a]") ≡ behind [] 0 (row Paragraph (plain (codes "[a]:") ∷ []) ∷ []) ∷ blank [] ∷ behind [] 0 (row Paragraph (plain (codes "[a]") ∷ []) ∷ []) ∷ []
unfolding sections
e481 = refl

e482 : printable_sections (codes "[b]: c \"d\" e\n\n[b]") ≡ behind [] 0 (row Paragraph (plain (codes "[b]: c \"d\" e") ∷ []) ∷ []) ∷ blank [] ∷ behind [] 0 (row Paragraph (plain (codes "[b]") ∷ []) ∷ []) ∷ []
unfolding sections
e482 = refl

e483 : printable_sections (codes "[a]: b\"c\"\n\n[a]") ≡ behind [] 0 (row Paragraph (flagged false false false false true (codes "a") ∷ []) ∷ []) ∷ []
unfolding sections
e483 = refl

l483 : unmarked_links (codes "[a]: b\"c\"\n\n[a]") ≡ link_at 0 (codes "b\"c\"") ∷ []
unfolding sections
l483 = refl

e484 : printable_sections (codes ">a\n>\tb\n\n>\n> c") ≡ behind (Bar ∷ []) 1 (row Paragraph (plain (codes "a b") ∷ []) ∷ []) ∷ blank [] ∷ behind (Bar ∷ []) 1 (row Paragraph (plain (codes "c") ∷ []) ∷ []) ∷ []
unfolding sections
e484 = refl

e485 : printable_sections (codes "<!doctype html>\n*a*") ≡ behind [] 0 (row Paragraph (flagged false true false false false (codes "a") ∷ []) ∷ []) ∷ []
unfolding sections
e485 = refl

pub sections20 : AreSections20
sections20 = record { e476 = e476; e477 = e477; l477 = l477; e478 = e478; e479 = e479; l479 = l479; e480 = e480; e481 = e481; e482 = e482; e483 = e483; l483 = l483; e484 = e484; e485 = e485 }
