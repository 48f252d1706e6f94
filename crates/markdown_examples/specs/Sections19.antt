-- Examples 451 to 475: their sections and links.
use Rattle.std.specs.Prelude.{◌≡◌, [], ◌∷◌, codes, true, false}
use Rattle.mad_sections.specs.declared.gutters.Gutter.TheVariants.{Bullet, Number, Code}
use Rattle.mad_md.specs.declared.composite.CompositeStyle.TheVariants.{Paragraph}
use Rattle.markdown_examples.specs.Rows.{plain, flagged, row, code_row, behind, blank}
use Rattle.markdown_reader.specs.Mapping.{link_at}
use Rattle.markdown_reader.specs.Markdown.{printable_sections, unmarked_links}

pub record AreSections19 : Type 0 where
  pub e451 : printable_sections (codes "[a](((((b)))))") ≡ behind [] 0 (row Paragraph (flagged false false false false true (codes "a") ∷ []) ∷ []) ∷ []
  pub l451 : unmarked_links (codes "[a](((((b)))))") ≡ link_at 0 (codes "((((b))))") ∷ []
  pub e452 : printable_sections (codes "1234567890. a") ≡ behind [] 0 (row Paragraph (plain (codes "1234567890. a") ∷ []) ∷ []) ∷ []
  pub e453 : printable_sections (codes "a `  ` b") ≡ behind [] 0 (row Paragraph (plain (codes "a ") ∷ flagged false false true false false (codes "  ") ∷ plain (codes " b") ∷ []) ∷ []) ∷ []
  pub e454 : printable_sections (codes "*foo**bar*") ≡ behind [] 0 (row Paragraph (flagged false true false false false (codes "foo**bar") ∷ []) ∷ []) ∷ []
  pub e455 : printable_sections (codes "foo***bar***baz") ≡ behind [] 0 (row Paragraph (plain (codes "foo") ∷ flagged true true false false false (codes "bar") ∷ plain (codes "baz") ∷ []) ∷ []) ∷ []
  pub e456 : printable_sections (codes "a [b [c](d) e](f)") ≡ behind [] 0 (row Paragraph (plain (codes "a [b ") ∷ flagged false false false false true (codes "c") ∷ plain (codes " e](f)") ∷ []) ∷ []) ∷ []
  pub l456 : unmarked_links (codes "a [b [c](d) e](f)") ≡ link_at 0 (codes "d") ∷ []
  pub e457 : printable_sections (91 ∷ 225 ∷ 186 ∷ 158 ∷ 93 ∷ 10 ∷ 10 ∷ 91 ∷ 83 ∷ 83 ∷ 93 ∷ 58 ∷ 32 ∷ 47 ∷ 117 ∷ 114 ∷ 108 ∷ []) ≡ behind [] 0 (row Paragraph (flagged false false false false true (225 ∷ 186 ∷ 158 ∷ []) ∷ []) ∷ []) ∷ []
  pub l457 : unmarked_links (91 ∷ 225 ∷ 186 ∷ 158 ∷ 93 ∷ 10 ∷ 10 ∷ 91 ∷ 83 ∷ 83 ∷ 93 ∷ 58 ∷ 32 ∷ 47 ∷ 117 ∷ 114 ∷ 108 ∷ []) ≡ link_at 0 (codes "/url") ∷ []
  pub e458 : printable_sections (codes "<m:abc> <ma:abc>") ≡ behind [] 0 (row Paragraph (plain (codes "<m:abc> ") ∷ flagged false false false false true (codes "ma:abc") ∷ []) ∷ []) ∷ []
  pub l458 : unmarked_links (codes "<m:abc> <ma:abc>") ≡ link_at 0 (codes "ma:abc") ∷ []
  pub e459 : printable_sections (codes "a ~~~b~~~ c") ≡ behind [] 0 (row Paragraph (plain (codes "a ~~~b~~~ c") ∷ []) ∷ []) ∷ []
  pub e460 : printable_sections (codes "a ~b~~ c") ≡ behind [] 0 (row Paragraph (plain (codes "a ~b~~ c") ∷ []) ∷ []) ∷ []
  pub e461 : printable_sections (codes "[a]\n\n[a]: b\n[a]: c") ≡ behind [] 0 (row Paragraph (flagged false false false false true (codes "a") ∷ []) ∷ []) ∷ []
  pub l461 : unmarked_links (codes "[a]\n\n[a]: b\n[a]: c") ≡ link_at 0 (codes "b") ∷ []
  pub e462 : printable_sections (codes "-     a") ≡ behind (Bullet ∷ Code ∷ []) 2 (code_row (plain (codes "a") ∷ []) ∷ []) ∷ []
  pub e463 : printable_sections (codes "http://a.b. c") ≡ behind [] 0 (row Paragraph (flagged false false false false true (codes "http://a.b") ∷ plain (codes ". c") ∷ []) ∷ []) ∷ []
  pub l463 : unmarked_links (codes "http://a.b. c") ≡ link_at 0 (codes "http://a.b") ∷ []
  pub e464 : printable_sections (codes "&amp a &copy") ≡ behind [] 0 (row Paragraph (plain (codes "&amp a &copy") ∷ []) ∷ []) ∷ []
  pub e465 : printable_sections (codes "&#0; &#xD801; &#x110000;") ≡ behind [] 0 (row Paragraph (plain (codes "ï¿½ ï¿½ ï¿½") ∷ []) ∷ []) ∷ []
  pub e466 : printable_sections (codes "```\na\n    ```\n```\nb") ≡ behind (Code ∷ []) 1 (code_row (plain (codes "a") ∷ []) ∷ code_row (plain (codes "    ```") ∷ []) ∷ []) ∷ blank [] ∷ behind [] 0 (row Paragraph (plain (codes "b") ∷ []) ∷ []) ∷ []
  pub e467 : printable_sections (codes "~~~ a`b\nc\n~~~") ≡ behind (Code ∷ []) 1 (code_row (plain (codes "c") ∷ []) ∷ []) ∷ []
  pub e468 : printable_sections (42 ∷ 194 ∷ 160 ∷ 97 ∷ 42 ∷ []) ≡ behind [] 0 (row Paragraph (plain (42 ∷ 194 ∷ 160 ∷ 97 ∷ 42 ∷ []) ∷ []) ∷ []) ∷ []
  pub e469 : printable_sections (codes "[a](<b\nc>)") ≡ behind [] 0 (row Paragraph (plain (codes "[a](") ∷ flagged true false false false false (codes ")") ∷ []) ∷ []) ∷ []
  pub e470 : printable_sections (codes "<a@bbbbbbbbbbbbbbbbbbbbbbbbbbbbbbbbbbbbbbbbbbbbbbbbbbbbbbbbbbbbbbbb.c> <a@bbbbbbbbbbbbbbbbbbbbbbbbbbbbbbbbbbbbbbbbbbbbbbbbbbbbbbbbbbbbbbb.c>") ≡ behind [] 0 (row Paragraph (plain (codes "<") ∷ flagged false false false false true (codes "a@bbbbbbbbbbbbbbbbbbbbbbbbbbbbbbbbbbbbbbbbbbbbbbbbbbbbbbbbbbbbbbbb.c") ∷ plain (codes "> ") ∷ flagged false false false false true (codes "a@bbbbbbbbbbbbbbbbbbbbbbbbbbbbbbbbbbbbbbbbbbbbbbbbbbbbbbbbbbbbbbb.c") ∷ []) ∷ []) ∷ []
  pub l470 : unmarked_links (codes "<a@bbbbbbbbbbbbbbbbbbbbbbbbbbbbbbbbbbbbbbbbbbbbbbbbbbbbbbbbbbbbbbbb.c> <a@bbbbbbbbbbbbbbbbbbbbbbbbbbbbbbbbbbbbbbbbbbbbbbbbbbbbbbbbbbbbbbb.c>") ≡ link_at 0 (codes "mailto:a@bbbbbbbbbbbbbbbbbbbbbbbbbbbbbbbbbbbbbbbbbbbbbbbbbbbbbbbbbbbbbbbb.c") ∷ link_at 0 (codes "mailto:a@bbbbbbbbbbbbbbbbbbbbbbbbbbbbbbbbbbbbbbbbbbbbbbbbbbbbbbbbbbbbbbb.c") ∷ []
  pub e471 : printable_sections (codes "&#00000065; &#0000065; &#x0000041; &#x000041;") ≡ behind [] 0 (row Paragraph (plain (codes "&#00000065; A &#x0000041; A") ∷ []) ∷ []) ∷ []
  pub e472 : printable_sections (codes "<textarea>\n\n*a*</textarea>\n*b*") ≡ behind [] 0 (row Paragraph (plain (codes "*a*") ∷ []) ∷ []) ∷ behind [] 0 (row Paragraph (flagged false true false false false (codes "b") ∷ []) ∷ []) ∷ []
  pub e473 : printable_sections (codes "a\n<DIV>\n*b*") ≡ behind [] 0 (row Paragraph (plain (codes "a") ∷ []) ∷ []) ∷ behind [] 0 (row Paragraph (plain (codes "*b*") ∷ []) ∷ []) ∷ []
  pub e474 : printable_sections (codes "a\n2. b\n1. c") ≡ behind [] 0 (row Paragraph (plain (codes "a 2. b") ∷ []) ∷ []) ∷ behind (Number 1 ∷ []) 1 (row Paragraph (plain (codes "c") ∷ []) ∷ []) ∷ []
  pub e475 : printable_sections (codes "- x\n  - a\n\n  + b") ≡ behind (Bullet ∷ []) 1 (row Paragraph (plain (codes "x") ∷ []) ∷ []) ∷ behind (Bullet ∷ Bullet ∷ []) 1 (row Paragraph (plain (codes "a") ∷ []) ∷ []) ∷ blank [] ∷ behind (Bullet ∷ Bullet ∷ []) 1 (row Paragraph (plain (codes "b") ∷ []) ∷ []) ∷ []
