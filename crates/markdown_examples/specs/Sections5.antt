-- Examples 101 to 125: their sections and links.
use Rattle.std.specs.Prelude.{◌≡◌, [], ◌∷◌, codes, true, false}
use Rattle.mad_sections.specs.declared.gutters.Gutter.TheVariants.{Bar, Bullet, Number}
use Rattle.mad_md.specs.declared.composite.CompositeStyle.TheVariants.{Paragraph, Header}
use Rattle.mad_md.specs.Lines.{horizontal_rule}
use Rattle.markdown_examples.specs.Rows.{plain, flagged, pictured, row, behind, blank}
use Rattle.markdown_reader.specs.Mapping.{link_at}
use Rattle.markdown_reader.specs.Markdown.{printable_sections, unmarked_links}

pub record AreSections5 : Type 0 where
  pub e101 : printable_sections (codes "\\*> \n===\n2) ") ≡ behind [] 0 (row (Header 1) (plain (codes "*>") ∷ []) ∷ []) ∷ blank [] ∷ behind (Number 2 ∷ []) 1 (row Paragraph ([]) ∷ []) ∷ []
  pub e102 : printable_sections (codes "\\*b \n .\n\n-->") ≡ behind [] 0 (row Paragraph (plain (codes "*b .") ∷ []) ∷ []) ∷ blank [] ∷ behind [] 0 (row Paragraph (plain (codes "-->") ∷ []) ∷ []) ∷ []
  pub e103 : printable_sections (codes "``\n\n<!--' \n_") ≡ behind [] 0 (row Paragraph (plain (codes "``") ∷ []) ∷ []) ∷ []
  pub e104 : printable_sections (226 ∷ 128 ∷ 156 ∷ 95 ∷ 95 ∷ 96 ∷ 96 ∷ 96 ∷ 114 ∷ 115 ∷ 10 ∷ 96 ∷ 96 ∷ 96 ∷ []) ≡ behind [] 0 (row Paragraph (plain (226 ∷ 128 ∷ 156 ∷ 95 ∷ 95 ∷ 96 ∷ 96 ∷ 96 ∷ 114 ∷ 115 ∷ []) ∷ []) ∷ []) ∷ []
  pub e105 : printable_sections (codes "![```rs\n](/u)") ≡ behind [] 0 (row Paragraph (pictured (codes "```rs") ∷ []) ∷ []) ∷ []
  pub e106 : printable_sections (codes "*  <!--\\\n\na* ") ≡ behind (Bullet ∷ []) 1 (row Paragraph ([]) ∷ []) ∷ behind [] 0 (row Paragraph (plain (codes "a*") ∷ []) ∷ []) ∷ []
  pub e107 : printable_sections (codes "* ```__```'\na") ≡ behind (Bullet ∷ []) 1 (row Paragraph (flagged false false true false false (codes "__") ∷ plain (codes "' a") ∷ []) ∷ []) ∷ []
  pub e108 : printable_sections (codes "+ \n- http://x") ≡ behind (Bullet ∷ []) 1 (row Paragraph ([]) ∷ []) ∷ behind (Bullet ∷ []) 1 (row Paragraph (flagged false false false false true (codes "http://x") ∷ []) ∷ []) ∷ []
  pub l108 : unmarked_links (codes "+ \n- http://x") ≡ link_at 1 (codes "http://x") ∷ []
  pub e109 : printable_sections (codes ".<a>\n---\n:|-|") ≡ behind [] 0 (row (Header 2) (plain (codes ".") ∷ []) ∷ []) ∷ blank [] ∷ behind [] 0 (row Paragraph (plain (codes ":|-|") ∷ []) ∷ []) ∷ []
  pub e110 : printable_sections (codes "2) [a]: /u\n# ") ≡ behind (Number 2 ∷ []) 1 (row Paragraph ([]) ∷ []) ∷ []
  pub e111 : printable_sections (codes "<!--Ã©~<a>\n\n\\!") ≡ []
  pub e112 : printable_sections (codes "<div>(<[a]|-|") ≡ behind [] 0 (row Paragraph (plain (codes "(<[a]|-|") ∷ []) ∷ []) ∷ []
  pub e113 : printable_sections (codes "<div>[a]`_<a>") ≡ behind [] 0 (row Paragraph (plain (codes "[a]`_") ∷ []) ∷ []) ∷ []
  pub e114 : printable_sections (91 ∷ 97 ∷ 93 ∷ 126 ∷ 230 ∷ 166 ∷ 130 ∷ 9 ∷ 95 ∷ 62 ∷ 32 ∷ 60 ∷ 47 ∷ 97 ∷ 62 ∷ []) ≡ behind [] 0 (row Paragraph (plain (91 ∷ 97 ∷ 93 ∷ 126 ∷ 230 ∷ 166 ∷ 130 ∷ 32 ∷ 95 ∷ 62 ∷ []) ∷ []) ∷ []) ∷ []
  pub e115 : printable_sections (93 ∷ 230 ∷ 166 ∷ 130 ∷ 10 ∷ 45 ∷ 45 ∷ 45 ∷ 10 ∷ 62 ∷ 42 ∷ 60 ∷ 47 ∷ 97 ∷ 62 ∷ []) ≡ behind [] 0 (row (Header 2) (plain (93 ∷ 230 ∷ 166 ∷ 130 ∷ []) ∷ []) ∷ []) ∷ blank [] ∷ behind (Bar ∷ []) 1 (row Paragraph (plain (codes "*") ∷ []) ∷ []) ∷ []
  pub e116 : printable_sections (codes "_\n===\n\n---\n_~") ≡ behind [] 0 (row (Header 1) (plain (codes "_") ∷ []) ∷ []) ∷ blank [] ∷ behind [] 0 (horizontal_rule ∷ []) ∷ blank [] ∷ behind [] 0 (row Paragraph (plain (codes "_~") ∷ []) ∷ []) ∷ []
  pub e117 : printable_sections (codes "\n---\n[```rs\n+ ") ≡ behind [] 0 (horizontal_rule ∷ []) ∷ blank [] ∷ behind [] 0 (row Paragraph (plain (codes "[```rs +") ∷ []) ∷ []) ∷ []
  pub e118 : printable_sections (codes "\n<div>[a]: /u\n") ≡ behind [] 0 (row Paragraph (plain (codes "[a]: /u") ∷ []) ∷ []) ∷ []
  pub e119 : printable_sections (codes "![]\n\n# \n|-|-|\n") ≡ behind [] 0 (row Paragraph (plain (codes "![]") ∷ []) ∷ []) ∷ blank [] ∷ behind [] 0 (row Paragraph (plain (codes "|-|-|") ∷ []) ∷ []) ∷ []
  pub e120 : printable_sections (codes "---```* ```rs\n") ≡ behind [] 0 (row Paragraph (plain (codes "---") ∷ flagged false false true false false (codes "* ") ∷ plain (codes "rs") ∷ []) ∷ []) ∷ []
  pub e121 : printable_sections (codes "2) + \n---* foo") ≡ behind (Number 2 ∷ Bullet ∷ []) 2 (row Paragraph ([]) ∷ []) ∷ behind [] 0 (row Paragraph (plain (codes "---* foo") ∷ []) ∷ []) ∷ []
  pub e122 : printable_sections (codes "2) -->`<b\n---\n") ≡ behind (Number 2 ∷ []) 1 (row Paragraph (plain (codes "-->`<b") ∷ []) ∷ []) ∷ blank [] ∷ behind [] 0 (horizontal_rule ∷ []) ∷ []
  pub e123 : printable_sections (codes "2) <div>&#35;\t") ≡ behind (Number 2 ∷ []) 1 (row Paragraph (plain (codes "#") ∷ []) ∷ []) ∷ []
  pub e124 : printable_sections (codes "<!--\n---\nb -->") ≡ []
  pub e125 : printable_sections (codes "<!--(```: \nfoo") ≡ []
