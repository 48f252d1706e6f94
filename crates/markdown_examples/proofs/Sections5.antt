-- Examples 101 to 125, computed.
use Rattle.std.proofs.Common.{◌≡◌, [], ◌∷◌, codes, true, false, refl}
use Rattle.mad_sections.specs.declared.gutters.Gutter.TheVariants.{Bar, Bullet, Number}
use Rattle.mad_md.specs.declared.composite.CompositeStyle.TheVariants.{Paragraph, Header}
use Rattle.mad_md.specs.Lines.{horizontal_rule}
use Rattle.markdown_examples.specs.Rows.{plain, flagged, pictured, row, behind, blank}
use Rattle.markdown_reader.specs.Mapping.{link_at}
use Rattle.markdown_reader.specs.Markdown.{printable_sections, unmarked_links}
use Rattle.markdown_examples.specs.Sections5.{AreSections5}
use Rattle.markdown_examples.proofs.Computing.{sections}

e101 : printable_sections (codes "\\*> \n===\n2) ") ≡ behind [] 0 (row (Header 1) (plain (codes "*>") ∷ []) ∷ []) ∷ blank [] ∷ behind (Number 2 ∷ []) 1 (row Paragraph ([]) ∷ []) ∷ []
unfolding sections
e101 = refl

e102 : printable_sections (codes "\\*b \n .\n\n-->") ≡ behind [] 0 (row Paragraph (plain (codes "*b .") ∷ []) ∷ []) ∷ blank [] ∷ behind [] 0 (row Paragraph (plain (codes "-->") ∷ []) ∷ []) ∷ []
unfolding sections
e102 = refl

e103 : printable_sections (codes "``\n\n<!--' \n_") ≡ behind [] 0 (row Paragraph (plain (codes "``") ∷ []) ∷ []) ∷ []
unfolding sections
e103 = refl

e104 : printable_sections (226 ∷ 128 ∷ 156 ∷ 95 ∷ 95 ∷ 96 ∷ 96 ∷ 96 ∷ 114 ∷ 115 ∷ 10 ∷ 96 ∷ 96 ∷ 96 ∷ []) ≡ behind [] 0 (row Paragraph (plain (226 ∷ 128 ∷ 156 ∷ 95 ∷ 95 ∷ 96 ∷ 96 ∷ 96 ∷ 114 ∷ 115 ∷ []) ∷ []) ∷ []) ∷ []
unfolding sections
e104 = refl

e105 : printable_sections (codes "![```rs\n](/u)") ≡ behind [] 0 (row Paragraph (pictured (codes "```rs") ∷ []) ∷ []) ∷ []
unfolding sections
e105 = refl

e106 : printable_sections (codes "*  <!--\\\n\na* ") ≡ behind (Bullet ∷ []) 1 (row Paragraph ([]) ∷ []) ∷ behind [] 0 (row Paragraph (plain (codes "a*") ∷ []) ∷ []) ∷ []
unfolding sections
e106 = refl

e107 : printable_sections (codes "* ```__```'\na") ≡ behind (Bullet ∷ []) 1 (row Paragraph (flagged false false true false false (codes "__") ∷ plain (codes "' a") ∷ []) ∷ []) ∷ []
unfolding sections
e107 = refl

e108 : printable_sections (codes "+ \n- http://x") ≡ behind (Bullet ∷ []) 1 (row Paragraph ([]) ∷ []) ∷ behind (Bullet ∷ []) 1 (row Paragraph (flagged false false false false true (codes "http://x") ∷ []) ∷ []) ∷ []
unfolding sections
e108 = refl

l108 : unmarked_links (codes "+ \n- http://x") ≡ link_at 1 (codes "http://x") ∷ []
unfolding sections
l108 = refl

e109 : printable_sections (codes ".<a>\n---\n:|-|") ≡ behind [] 0 (row (Header 2) (plain (codes ".") ∷ []) ∷ []) ∷ blank [] ∷ behind [] 0 (row Paragraph (plain (codes ":|-|") ∷ []) ∷ []) ∷ []
unfolding sections
e109 = refl

e110 : printable_sections (codes "2) [a]: /u\n# ") ≡ behind (Number 2 ∷ []) 1 (row Paragraph ([]) ∷ []) ∷ []
unfolding sections
e110 = refl

e111 : printable_sections (codes "<!--Ã©~<a>\n\n\\!") ≡ []
unfolding sections
e111 = refl

e112 : printable_sections (codes "<div>(<[a]|-|") ≡ behind [] 0 (row Paragraph (plain (codes "(<[a]|-|") ∷ []) ∷ []) ∷ []
unfolding sections
e112 = refl

e113 : printable_sections (codes "<div>[a]`_<a>") ≡ behind [] 0 (row Paragraph (plain (codes "[a]`_") ∷ []) ∷ []) ∷ []
unfolding sections
e113 = refl

e114 : printable_sections (91 ∷ 97 ∷ 93 ∷ 126 ∷ 230 ∷ 166 ∷ 130 ∷ 9 ∷ 95 ∷ 62 ∷ 32 ∷ 60 ∷ 47 ∷ 97 ∷ 62 ∷ []) ≡ behind [] 0 (row Paragraph (plain (91 ∷ 97 ∷ 93 ∷ 126 ∷ 230 ∷ 166 ∷ 130 ∷ 32 ∷ 95 ∷ 62 ∷ []) ∷ []) ∷ []) ∷ []
unfolding sections
e114 = refl

e115 : printable_sections (93 ∷ 230 ∷ 166 ∷ 130 ∷ 10 ∷ 45 ∷ 45 ∷ 45 ∷ 10 ∷ 62 ∷ 42 ∷ 60 ∷ 47 ∷ 97 ∷ 62 ∷ []) ≡ behind [] 0 (row (Header 2) (plain (93 ∷ 230 ∷ 166 ∷ 130 ∷ []) ∷ []) ∷ []) ∷ blank [] ∷ behind (Bar ∷ []) 1 (row Paragraph (plain (codes "*") ∷ []) ∷ []) ∷ []
unfolding sections
e115 = refl

e116 : printable_sections (codes "_\n===\n\n---\n_~") ≡ behind [] 0 (row (Header 1) (plain (codes "_") ∷ []) ∷ []) ∷ blank [] ∷ behind [] 0 (horizontal_rule ∷ []) ∷ blank [] ∷ behind [] 0 (row Paragraph (plain (codes "_~") ∷ []) ∷ []) ∷ []
unfolding sections
e116 = refl

e117 : printable_sections (codes "\n---\n[```rs\n+ ") ≡ behind [] 0 (horizontal_rule ∷ []) ∷ blank [] ∷ behind [] 0 (row Paragraph (plain (codes "[```rs +") ∷ []) ∷ []) ∷ []
unfolding sections
e117 = refl

e118 : printable_sections (codes "\n<div>[a]: /u\n") ≡ behind [] 0 (row Paragraph (plain (codes "[a]: /u") ∷ []) ∷ []) ∷ []
unfolding sections
e118 = refl

e119 : printable_sections (codes "![]\n\n# \n|-|-|\n") ≡ behind [] 0 (row Paragraph (plain (codes "![]") ∷ []) ∷ []) ∷ blank [] ∷ behind [] 0 (row Paragraph (plain (codes "|-|-|") ∷ []) ∷ []) ∷ []
unfolding sections
e119 = refl

e120 : printable_sections (codes "---```* ```rs\n") ≡ behind [] 0 (row Paragraph (plain (codes "---") ∷ flagged false false true false false (codes "* ") ∷ plain (codes "rs") ∷ []) ∷ []) ∷ []
unfolding sections
e120 = refl

e121 : printable_sections (codes "2) + \n---* foo") ≡ behind (Number 2 ∷ Bullet ∷ []) 2 (row Paragraph ([]) ∷ []) ∷ behind [] 0 (row Paragraph (plain (codes "---* foo") ∷ []) ∷ []) ∷ []
unfolding sections
e121 = refl

e122 : printable_sections (codes "2) -->`<b\n---\n") ≡ behind (Number 2 ∷ []) 1 (row Paragraph (plain (codes "-->`<b") ∷ []) ∷ []) ∷ blank [] ∷ behind [] 0 (horizontal_rule ∷ []) ∷ []
unfolding sections
e122 = refl

e123 : printable_sections (codes "2) <div>&#35;\t") ≡ behind (Number 2 ∷ []) 1 (row Paragraph (plain (codes "#") ∷ []) ∷ []) ∷ []
unfolding sections
e123 = refl

e124 : printable_sections (codes "<!--\n---\nb -->") ≡ []
unfolding sections
e124 = refl

e125 : printable_sections (codes "<!--(```: \nfoo") ≡ []
unfolding sections
e125 = refl

pub sections5 : AreSections5
sections5 = record { e101 = e101; e102 = e102; e103 = e103; e104 = e104; e105 = e105; e106 = e106; e107 = e107; e108 = e108; l108 = l108; e109 = e109; e110 = e110; e111 = e111; e112 = e112; e113 = e113; e114 = e114; e115 = e115; e116 = e116; e117 = e117; e118 = e118; e119 = e119; e120 = e120; e121 = e121; e122 = e122; e123 = e123; e124 = e124; e125 = e125 }
