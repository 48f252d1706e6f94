-- Examples 476 to 485: their sections and links.
use Rattle.std.specs.Prelude.{◌≡◌, [], ◌∷◌, codes, true, false}
use Rattle.mad_sections.specs.declared.gutters.Gutter.TheVariants.{Bar}
use Rattle.mad_md.specs.declared.composite.CompositeStyle.TheVariants.{Paragraph, Header}
use Rattle.markdown_examples.specs.Rows.{plain, flagged, pictured, row, behind, blank}
use Rattle.markdown_reader.specs.Mapping.{link_at}
use Rattle.markdown_reader.specs.Markdown.{printable_sections, unmarked_links}

pub record AreSections20 : Type 0 where
  pub e476 : printable_sections (codes "####### a\n#b\n# c#\n# d #") ≡ behind [] 0 (row Paragraph (plain (codes "####### a #b") ∷ []) ∷ []) ∷ blank [] ∷ behind [] 0 (row (Header 1) (plain (codes "c#") ∷ []) ∷ []) ∷ blank [] ∷ behind [] 0 (row (Header 1) (plain (codes "d") ∷ []) ∷ []) ∷ []
  pub e477 : printable_sections (codes "![a [b](c) d](e)") ≡ behind [] 0 (row Paragraph (pictured (codes "a b d") ∷ []) ∷ []) ∷ []
  pub l477 : unmarked_links (codes "![a [b](c) d](e)") ≡ link_at 0 (codes "c") ∷ []
  pub e478 : printable_sections (codes "a_b_ _c_d _e_") ≡ behind [] 0 (row Paragraph (plain (codes "a_b_ _c_d ") ∷ flagged false true false false false (codes "e") ∷ []) ∷ []) ∷ []
  pub e479 : printable_sections (codes "[a](b 'c') [d](e (f)) [g](h (i (j)))") ≡ behind [] 0 (row Paragraph (flagged false false false false true (codes "a") ∷ plain (codes " ") ∷ flagged false false false false true (codes "d") ∷ plain (codes " [g](h (i (j)))") ∷ []) ∷ []) ∷ []
  pub l479 : unmarked_links (codes "[a](b 'c') [d](e (f)) [g](h (i (j)))") ≡ link_at 0 (codes "b") ∷ link_at 0 (codes "e") ∷ []
  pub e480 : printable_sections (codes "www. a") ≡ behind [] 0 (row Paragraph (plain (codes "www. a") ∷ []) ∷ []) ∷ []
  pub e481 : printable_sections (codes "[a]:\n\n[a]") ≡ behind [] 0 (row Paragraph (plain (codes "[a]:") ∷ []) ∷ []) ∷ blank [] ∷ behind [] 0 (row Paragraph (plain (codes "[a]") ∷ []) ∷ []) ∷ []
  pub e482 : printable_sections (codes "[b]: c \"d\" e\n\n[b]") ≡ behind [] 0 (row Paragraph (plain (codes "[b]: c \"d\" e") ∷ []) ∷ []) ∷ blank [] ∷ behind [] 0 (row Paragraph (plain (codes "[b]") ∷ []) ∷ []) ∷ []
  pub e483 : printable_sections (codes "[a]: b\"c\"\n\n[a]") ≡ behind [] 0 (row Paragraph (flagged false false false false true (codes "a") ∷ []) ∷ []) ∷ []
  pub l483 : unmarked_links (codes "[a]: b\"c\"\n\n[a]") ≡ link_at 0 (codes "b\"c\"") ∷ []
  pub e484 : printable_sections (codes ">a\n>\tb\n\n>\n> c") ≡ behind (Bar ∷ []) 1 (row Paragraph (plain (codes "a b") ∷ []) ∷ []) ∷ blank [] ∷ behind (Bar ∷ []) 1 (row Paragraph (plain (codes "c") ∷ []) ∷ []) ∷ []
  pub e485 : printable_sections (codes "<!doctype html>\n*a*") ≡ behind [] 0 (row Paragraph (flagged false true false false false (codes "a") ∷ []) ∷ []) ∷ []
