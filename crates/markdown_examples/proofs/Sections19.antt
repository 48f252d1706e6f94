-- Examples 451 to 475, computed.
use Rattle.std.proofs.Common.{◌≡◌, [], ◌∷◌, codes, true, false, refl}
use Rattle.mad_sections.specs.declared.gutters.Gutter.TheVariants.{Bullet, Number, Code}
use Rattle.mad_md.specs.declared.composite.CompositeStyle.TheVariants.{Paragraph}
use Rattle.markdown_examples.specs.Rows.{plain, flagged, row, code_row, behind, blank}
use Rattle.markdown_reader.specs.Mapping.{link_at}
use Rattle.markdown_reader.specs.Markdown.{printable_sections, unmarked_links}
use Rattle.markdown_examples.specs.Sections19.{AreSections19}
use Rattle.markdown_examples.proofs.Computing.{sections}

e451 : printable_sections (codes "[a](((((b)))))") ≡ behind [] 0 (row Paragraph (flagged false false false false true (codes "a") ∷ []) ∷ []) ∷ []
unfolding sections
e451 = refl

l451 : unmarked_links (codes "[a](((((b)))))") ≡ link_at 0 (codes "((((b))))") ∷ []
unfolding sections
l451 = refl

e452 : printable_sections (codes "1234567890. a") ≡ behind [] 0 (row Paragraph (plain (codes "1234567890. a") ∷ []) ∷ []) ∷ []
unfolding sections
e452 = refl

e453 : printable_sections (codes "a `  ` b") ≡ behind [] 0 (row Paragraph (plain (codes "a ") ∷ flagged false false true false false (codes "  ") ∷ plain (codes " b") ∷ []) ∷ []) ∷ []
unfolding sections
e453 = refl

e454 : printable_sections (codes "*foo**bar*") ≡ behind [] 0 (row Paragraph (flagged false true false false false (codes "foo**bar") ∷ []) ∷ []) ∷ []
unfolding sections
e454 = refl

e455 : printable_sections (codes "foo***bar***baz") ≡ behind [] 0 (row Paragraph (plain (codes "foo") ∷ flagged true true false false false (codes "bar") ∷ plain (codes "baz") ∷ []) ∷ []) ∷ []
unfolding sections
e455 = refl

e456 : printable_sections (codes "a [b [c](d) e](f)") ≡ behind [] 0 (row Paragraph (plain (codes "a [b ") ∷ flagged false false false false true (codes "c") ∷ plain (codes " e](f)") ∷ []) ∷ []) ∷ []
unfolding sections
e456 = refl

l456 : unmarked_links (codes "a [b [c](d) e](f)") ≡ link_at 0 (codes "d") ∷ []
unfolding sections
l456 = refl

e457 : printable_sections (91 ∷ 225 ∷ 186 ∷ 158 ∷ 93 ∷ 10 ∷ 10 ∷ 91 ∷ 83 ∷ 83 ∷ 93 ∷ 58 ∷ 32 ∷ 47 ∷ 117 ∷ 114 ∷ 108 ∷ []) ≡ behind [] 0 (row Paragraph (flagged false false false false true (225 ∷ 186 ∷ 158 ∷ []) ∷ []) ∷ []) ∷ []
unfolding sections
e457 = refl

l457 : unmarked_links (91 ∷ 225 ∷ 186 ∷ 158 ∷ 93 ∷ 10 ∷ 10 ∷ 91 ∷ 83 ∷ 83 ∷ 93 ∷ 58 ∷ 32 ∷ 47 ∷ 117 ∷ 114 ∷ 108 ∷ []) ≡ link_at 0 (codes "/url") ∷ []
unfolding sections
l457 = refl

e458 : printable_sections (codes "<m:abc> <ma:abc>") ≡ behind [] 0 (row Paragraph (plain (codes "<m:abc> ") ∷ flagged false false false false true (codes "ma:abc") ∷ []) ∷ []) ∷ []
unfolding sections
e458 = refl

l458 : unmarked_links (codes "<m:abc> <ma:abc>") ≡ link_at 0 (codes "ma:abc") ∷ []
unfolding sections
l458 = refl

e459 : printable_sections (codes "a ~~~b~~~ c") ≡ behind [] 0 (row Paragraph (plain (codes "a ~~~b~~~ c") ∷ []) ∷ []) ∷ []
unfolding sections
e459 = refl

e460 : printable_sections (codes "a ~b~~ c") ≡ behind [] 0 (row Paragraph (plain (codes "a ~b~~ c") ∷ []) ∷ []) ∷ []
unfolding sections
e460 = refl

e461 : printable_sections (codes "[a]\n\n[a]: b\n[a]: c") ≡ behind [] 0 (row Paragraph (flagged false false false false true (codes "a") ∷ []) ∷ []) ∷ []
unfolding sections
e461 = refl

l461 : unmarked_links (codes "[a]\n\n[a]: b\n[a]: c") ≡ link_at 0 (codes "b") ∷ []
unfolding sections
l461 = refl

e462 : printable_sections (codes "-     a") ≡ behind (Bullet ∷ Code ∷ []) 2 (code_row (plain (codes "a") ∷ []) ∷ []) ∷ []
unfolding sections
e462 = refl

e463 : printable_sections (codes "http://a.b. c") ≡ behind [] 0 (row Paragraph (flagged false false false false true (codes "http://a.b") ∷ plain (codes ". c") ∷ []) ∷ []) ∷ []
unfolding sections
e463 = refl

l463 : unmarked_links (codes "http://a.b. c") ≡ link_at 0 (codes "http://a.b") ∷ []
unfolding sections
l463 = refl

e464 : printable_sections (codes "&amp a &copy") ≡ behind [] 0 (row Paragraph (plain (codes "&amp a &copy") ∷ []) ∷ []) ∷ []
unfolding sections
e464 = refl

e465 : printable_sections (codes "&#0; &#xD801; &#x110000;") ≡ behind [] 0 (row Paragraph (plain (codes "ï¿½ ï¿½ ï¿½") ∷ []) ∷ []) ∷ []
unfolding sections
e465 = refl

e466 : printable_sections (codes "```\na\n    ```\n```\nb") ≡ behind (Code ∷ []) 1 (code_row (plain (codes "a") ∷ []) ∷ code_row (plain (codes "    ```") ∷ []) ∷ []) ∷ blank [] ∷ behind [] 0 (row Paragraph (plain (codes "b") ∷ []) ∷ []) ∷ []
unfolding sections
e466 = refl

e467 : printable_sections (codes "~~~ a`b\nc\n~~~") ≡ behind (Code ∷ []) 1 (code_row (plain (codes "c") ∷ []) ∷ []) ∷ []
unfolding sections
e467 = refl

e468 : printable_sections (42 ∷ 194 ∷ 160 ∷ 97 ∷ 42 ∷ []) ≡ behind [] 0 (row Paragraph (plain (42 ∷ 194 ∷ 160 ∷ 97 ∷ 42 ∷ []) ∷ []) ∷ []) ∷ []
unfolding sections
e468 = refl

e469 : printable_sections (codes "[a](<b\nc>)") ≡ behind [] 0 (row Paragraph (plain (codes "[a](") ∷ flagged true false false false false (codes ")") ∷ []) ∷ []) ∷ []
unfolding sections
e469 = refl

e470 : printable_sections (codes "<a@bbbbbbbbbbbbbbbbbbbbbbbbbbbbbbbbbbbbbbbbbbbbbbbbbbbbbbbbbbbbbbbb.c> <a@bbbbbbbbbbbbbbbbbbbbbbbbbbbbbbbbbbbbbbbbbbbbbbbbbbbbbbbbbbbbbbb.c>") ≡ behind [] 0 (row Paragraph (plain (codes "<") ∷ flagged false false false false true (codes "a@bbbbbbbbbbbbbbbbbbbbbbbbbbbbbbbbbbbbbbbbbbbbbbbbbbbbbbbbbbbbbbbb.c") ∷ plain (codes "> ") ∷ flagged false false false false true (codes "a@bbbbbbbbbbbbbbbbbbbbbbbbbbbbbbbbbbbbbbbbbbbbbbbbbbbbbbbbbbbbbbb.c") ∷ []) ∷ []) ∷ []
unfolding sections
e470 = refl

l470 : unmarked_links (codes "<a@bbbbbbbbbbbbbbbbbbbbbbbbbbbbbbbbbbbbbbbbbbbbbbbbbbbbbbbbbbbbbbbb.c> <a@bbbbbbbbbbbbbbbbbbbbbbbbbbbbbbbbbbbbbbbbbbbbbbbbbbbbbbbbbbbbbbb.c>") ≡ link_at 0 (codes "mailto:a@bbbbbbbbbbbbbbbbbbbbbbbbbbbbbbbbbbbbbbbbbbbbbbbbbbbbbbbbbbbbbbbb.c") ∷ link_at 0 (codes "mailto:a@bbbbbbbbbbbbbbbbbbbbbbbbbbbbbbbbbbbbbbbbbbbbbbbbbbbbbbbbbbbbbbb.c") ∷ []
unfolding sections
l470 = refl

e471 : printable_sections (codes "&#00000065; &#0000065; &#x0000041; &#x000041;") ≡ behind [] 0 (row Paragraph (plain (codes "&#00000065; A &#x0000041; A") ∷ []) ∷ []) ∷ []
unfolding sections
e471 = refl

e472 : printable_sections (codes "<textarea>\n\n*a*</textarea>\n*b*") ≡ behind [] 0 (row Paragraph (plain (codes "*a*") ∷ []) ∷ []) ∷ behind [] 0 (row Paragraph (flagged false true false false false (codes "b") ∷ []) ∷ []) ∷ []
unfolding sections
e472 = refl

e473 : printable_sections (codes "a\n<DIV>\n*b*") ≡ behind [] 0 (row Paragraph (plain (codes "a") ∷ []) ∷ []) ∷ behind [] 0 (row Paragraph (plain (codes "*b*") ∷ []) ∷ []) ∷ []
unfolding sections
e473 = refl

e474 : printable_sections (codes "a\n2. b\n1. c") ≡ behind [] 0 (row Paragraph (plain (codes "a 2. b") ∷ []) ∷ []) ∷ behind (Number 1 ∷ []) 1 (row Paragraph (plain (codes "c") ∷ []) ∷ []) ∷ []
unfolding sections
e474 = refl

e475 : printable_sections (codes "- x\n  - a\n\n  + b") ≡ behind (Bullet ∷ []) 1 (row Paragraph (plain (codes "x") ∷ []) ∷ []) ∷ behind (Bullet ∷ Bullet ∷ []) 1 (row Paragraph (plain (codes "a") ∷ []) ∷ []) ∷ blank [] ∷ behind (Bullet ∷ Bullet ∷ []) 1 (row Paragraph (plain (codes "b") ∷ []) ∷ []) ∷ []
unfolding sections
e475 = refl

pub sections19 : AreSections19
sections19 = record { e451 = e451; l451 = l451; e452 = e452; e453 = e453; e454 = e454; e455 = e455; e456 = e456; l456 = l456; e457 = e457; l457 = l457; e458 = e458; l458 = l458; e459 = e459; e460 = e460; e461 = e461; l461 = l461; e462 = e462; e463 = e463; l463 = l463; e464 = e464; e465 = e465; e466 = e466; e467 = e467; e468 = e468; e469 = e469; e470 = e470; l470 = l470; e471 = e471; e472 = e472; e473 = e473; e474 = e474; e475 = e475 }
