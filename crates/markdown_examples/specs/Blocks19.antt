-- Examples 451 to 475: what one sees of their blocks.
use Rattle.std.specs.Prelude.{◌≡◌, [], ◌∷◌, codes}
use Rattle.markdown_blocks.specs.declared.containers.Container.TheVariants.{Item}
use Rattle.markdown_leaves.specs.declared.parts.Kind.TheVariants.{Paragraph, Indented, Fenced, Html, Definitions}
use Rattle.markdown_examples.specs.Seen.{opens, closes, leaf, seen}

pub record AreBlocks19 : Type 0 where
  pub e451 : seen (codes "[a](((((b)))))") ≡ leaf Paragraph (codes "[a](((((b)))))" ∷ []) ∷ []
  pub e452 : seen (codes "1234567890. a") ≡ leaf Paragraph (codes "1234567890. a" ∷ []) ∷ []
  pub e453 : seen (codes "a `  ` b") ≡ leaf Paragraph (codes "a `  ` b" ∷ []) ∷ []
  pub e454 : seen (codes "*foo**bar*") ≡ leaf Paragraph (codes "*foo**bar*" ∷ []) ∷ []
  pub e455 : seen (codes "foo***bar***baz") ≡ leaf Paragraph (codes "foo***bar***baz" ∷ []) ∷ []
  pub e456 : seen (codes "a [b [c](d) e](f)") ≡ leaf Paragraph (codes "a [b [c](d) e](f)" ∷ []) ∷ []
  pub e457 : seen (91 ∷ 225 ∷ 186 ∷ 158 ∷ 93 ∷ 10 ∷ 10 ∷ 91 ∷ 83 ∷ 83 ∷ 93 ∷ 58 ∷ 32 ∷ 47 ∷ 117 ∷ 114 ∷ 108 ∷ []) ≡ leaf Paragraph ((91 ∷ 225 ∷ 186 ∷ 158 ∷ 93 ∷ []) ∷ []) ∷ leaf Definitions (codes "[SS]: /url" ∷ []) ∷ []
  pub e458 : seen (codes "<m:abc> <ma:abc>") ≡ leaf Paragraph (codes "<m:abc> <ma:abc>" ∷ []) ∷ []
  pub e459 : seen (codes "a ~~~b~~~ c") ≡ leaf Paragraph (codes "a ~~~b~~~ c" ∷ []) ∷ []
  pub e460 : seen (codes "a ~b~~ c") ≡ leaf Paragraph (codes "a ~b~~ c" ∷ []) ∷ []
  pub e461 : seen (codes "[a]\n\n[a]: b\n[a]: c") ≡ leaf Paragraph (codes "[a]" ∷ []) ∷ leaf Definitions (codes "[a]: b" ∷ codes "[a]: c" ∷ []) ∷ []
  pub e462 : seen (codes "-     a") ≡ opens (Item 45 0 2) ∷ leaf Indented (codes "a" ∷ []) ∷ closes ∷ []
  pub e463 : seen (codes "http://a.b. c") ≡ leaf Paragraph (codes "http://a.b. c" ∷ []) ∷ []
  pub e464 : seen (codes "&amp a &copy") ≡ leaf Paragraph (codes "&amp a &copy" ∷ []) ∷ []
  pub e465 : seen (codes "&#0; &#xD801; &#x110000;") ≡ leaf Paragraph (codes "&#0; &#xD801; &#x110000;" ∷ []) ∷ []
  pub e466 : seen (codes "```\na\n    ```\n```\nb") ≡ leaf Fenced ([] ∷ codes "a" ∷ codes "    ```" ∷ []) ∷ leaf Paragraph (codes "b" ∷ []) ∷ []
  pub e467 : seen (codes "~~~ a`b\nc\n~~~") ≡ leaf Fenced (codes "a`b" ∷ codes "c" ∷ []) ∷ []
  pub e468 : seen (42 ∷ 194 ∷ 160 ∷ 97 ∷ 42 ∷ []) ≡ leaf Paragraph ((42 ∷ 194 ∷ 160 ∷ 97 ∷ 42 ∷ []) ∷ []) ∷ []
  pub e469 : seen (codes "[a](<b\nc>)") ≡ leaf Paragraph (codes "[a](<b" ∷ codes "c>)" ∷ []) ∷ []
  pub e470 : seen (codes "<a@bbbbbbbbbbbbbbbbbbbbbbbbbbbbbbbbbbbbbbbbbbbbbbbbbbbbbbbbbbbbbbbb.c> <a@bbbbbbbbbbbbbbbbbbbbbbbbbbbbbbbbbbbbbbbbbbbbbbbbbbbbbbbbbbbbbbb.c>") ≡ leaf Paragraph (codes "<a@bbbbbbbbbbbbbbbbbbbbbbbbbbbbbbbbbbbbbbbbbbbbbbbbbbbbbbbbbbbbbbbb.c> <a@bbbbbbbbbbbbbbbbbbbbbbbbbbbbbbbbbbbbbbbbbbbbbbbbbbbbbbbbbbbbbbb.c>" ∷ []) ∷ []
  pub e471 : seen (codes "&#00000065; &#0000065; &#x0000041; &#x000041;") ≡ leaf Paragraph (codes "&#00000065; &#0000065; &#x0000041; &#x000041;" ∷ []) ∷ []
  pub e472 : seen (codes "<textarea>\n\n*a*</textarea>\n*b*") ≡ leaf Html (codes "<textarea>" ∷ [] ∷ codes "*a*</textarea>" ∷ []) ∷ leaf Paragraph (codes "*b*" ∷ []) ∷ []
  pub e473 : seen (codes "a\n<DIV>\n*b*") ≡ leaf Paragraph (codes "a" ∷ []) ∷ leaf Html (codes "<DIV>" ∷ codes "*b*" ∷ []) ∷ []
  pub e474 : seen (codes "a\n2. b\n1. c") ≡ leaf Paragraph (codes "a" ∷ codes "2. b" ∷ []) ∷ opens (Item 46 1 3) ∷ leaf Paragraph (codes "c" ∷ []) ∷ closes ∷ []
  pub e475 : seen (codes "- x\n  - a\n\n  + b") ≡ opens (Item 45 0 2) ∷ leaf Paragraph (codes "x" ∷ []) ∷ opens (Item 45 0 2) ∷ leaf Paragraph (codes "a" ∷ []) ∷ closes ∷ opens (Item 43 0 2) ∷ leaf Paragraph (codes "b" ∷ []) ∷ closes ∷ closes ∷ []
