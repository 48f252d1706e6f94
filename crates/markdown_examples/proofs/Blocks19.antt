-- Examples 451 to 475, computed.
use Rattle.std.proofs.Common.{◌≡◌, [], ◌∷◌, codes, refl}
use Rattle.markdown_blocks.specs.declared.containers.Container.TheVariants.{Item}
use Rattle.markdown_leaves.specs.declared.parts.Kind.TheVariants.{Paragraph, Indented, Fenced, Html, Definitions}
use Rattle.markdown_examples.specs.Seen.{opens, closes, leaf, seen}
use Rattle.markdown_examples.specs.Blocks19.{AreBlocks19}
use Rattle.markdown_as_html.proofs.Computing.{reading}

e451 : seen (codes "[a](((((b)))))") ≡ leaf Paragraph (codes "[a](((((b)))))" ∷ []) ∷ []
unfolding reading
e451 = refl

e452 : seen (codes "1234567890. a") ≡ leaf Paragraph (codes "1234567890. a" ∷ []) ∷ []
unfolding reading
e452 = refl

e453 : seen (codes "a `  ` b") ≡ leaf Paragraph (codes "a `  ` b" ∷ []) ∷ []
unfolding reading
e453 = refl

e454 : seen (codes "*foo**bar*") ≡ leaf Paragraph (codes "*foo**bar*" ∷ []) ∷ []
unfolding reading
e454 = refl

e455 : seen (codes "foo***bar***baz") ≡ leaf Paragraph (codes "foo***bar***baz" ∷ []) ∷ []
unfolding reading
e455 = refl

e456 : seen (codes "a [b [c](d) e](f)") ≡ leaf Paragraph (codes "a [b [c](d) e](f)" ∷ []) ∷ []
unfolding reading
e456 = refl

e457 : seen (91 ∷ 225 ∷ 186 ∷ 158 ∷ 93 ∷ 10 ∷ 10 ∷ 91 ∷ 83 ∷ 83 ∷ 93 ∷ 58 ∷ 32 ∷ 47 ∷ 117 ∷ 114 ∷ 108 ∷ []) ≡ leaf Paragraph ((91 ∷ 225 ∷ 186 ∷ 158 ∷ 93 ∷ []) ∷ []) ∷ leaf Definitions (codes "[SS]: /url" ∷ []) ∷ []
unfolding reading
e457 = refl

e458 : seen (codes "<m:abc> <ma:abc>") ≡ leaf Paragraph (codes "<m:abc> <ma:abc>" ∷ []) ∷ []
unfolding reading
e458 = refl

e459 : seen (codes "a ~~~b~~~ c") ≡ leaf Paragraph (codes "a ~~~b~~~ c" ∷ []) ∷ []
unfolding reading
e459 = refl

e460 : seen (codes "a ~b~~ c") ≡ leaf Paragraph (codes "a ~b~~ c" ∷ []) ∷ []
unfolding reading
e460 = refl

e461 : seen (codes "[a]\n\n[a]: b\n[a]: c") ≡ leaf Paragraph (codes "[a]" ∷ []) ∷ leaf Definitions (codes "[a]: b" ∷ codes "[a]: c" ∷ []) ∷ []
unfolding reading
e461 = refl

e462 : seen (codes "-     a") ≡ opens (Item 45 0 2) ∷ leaf Indented (codes "a" ∷ []) ∷ closes ∷ []
unfolding reading
e462 = refl

e463 : seen (codes "http://a.b. c") ≡ leaf Paragraph (codes "http://a.b. c" ∷ []) ∷ []
unfolding reading
e463 = refl

e464 : seen (codes "&amp a &copy") ≡ leaf Paragraph (codes "&amp a &copy" ∷ []) ∷ []
unfolding reading
e464 = refl

e465 : seen (codes "&#0; &#xD801; &#x110000;") ≡ leaf Paragraph (codes "&#0; &#xD801; &#x110000;" ∷ []) ∷ []
unfolding reading
e465 = refl

e466 : seen (codes "```\na\n    ```\n```\nb") ≡ leaf Fenced ([] ∷ codes "a" ∷ codes "    ```" ∷ []) ∷ leaf Paragraph (codes "b" ∷ []) ∷ []
unfolding reading
e466 = refl

e467 : seen (codes "~~~ a`b\nc\n~~~") ≡ leaf Fenced (codes "a`b" ∷ codes "c" ∷ []) ∷ []
unfolding reading
e467 = refl

e468 : seen (42 ∷ 194 ∷ 160 ∷ 97 ∷ 42 ∷ []) ≡ leaf Paragraph ((42 ∷ 194 ∷ 160 ∷ 97 ∷ 42 ∷ []) ∷ []) ∷ []
unfolding reading
e468 = refl

e469 : seen (codes "[a](<b\nc>)") ≡ leaf Paragraph (codes "[a](<b" ∷ codes "c>)" ∷ []) ∷ []
unfolding reading
e469 = refl

e470 : seen (codes "<a@bbbbbbbbbbbbbbbbbbbbbbbbbbbbbbbbbbbbbbbbbbbbbbbbbbbbbbbbbbbbbbbb.c> <a@bbbbbbbbbbbbbbbbbbbbbbbbbbbbbbbbbbbbbbbbbbbbbbbbbbbbbbbbbbbbbbb.c>") ≡ leaf Paragraph (codes "<a@bbbbbbbbbbbbbbbbbbbbbbbbbbbbbbbbbbbbbbbbbbbbbbbbbbbbbbbbbbbbbbbb.c> <a@bbbbbbbbbbbbbbbbbbbbbbbbbbbbbbbbbbbbbbbbbbbbbbbbbbbbbbbbbbbbbbb.c>" ∷ []) ∷ []
unfolding reading
e470 = refl

e471 : seen (codes "&#00000065; &#0000065; &#x0000041; &#x000041;") ≡ leaf Paragraph (codes "&#00000065; &#0000065; &#x0000041; &#x000041;" ∷ []) ∷ []
unfolding reading
e471 = refl

e472 : seen (codes "<textarea>\n\n*a*</textarea>\n*b*") ≡ leaf Html (codes "<textarea>" ∷ [] ∷ codes "*a*</textarea>" ∷ []) ∷ leaf Paragraph (codes "*b*" ∷ []) ∷ []
unfolding reading
e472 = refl

e473 : seen (codes "a\n<DIV>\n*b*") ≡ leaf Paragraph (codes "a" ∷ []) ∷ leaf Html (codes "<DIV>" ∷ codes "*b*" ∷ []) ∷ []
unfolding reading
e473 = refl

e474 : seen (codes "a\n2. b\n1. c") ≡ leaf Paragraph (codes "a" ∷ codes "2. b" ∷ []) ∷ opens (Item 46 1 3) ∷ leaf Paragraph (codes "c" ∷ []) ∷ closes ∷ []
unfolding reading
e474 = refl

e475 : seen (codes "- x\n  - a\n\n  + b") ≡ opens (Item 45 0 2) ∷ leaf Paragraph (codes "x" ∷ []) ∷ opens (Item 45 0 2) ∷ leaf Paragraph (codes "a" ∷ []) ∷ closes ∷ opens (Item 43 0 2) ∷ leaf Paragraph (codes "b" ∷ []) ∷ closes ∷ closes ∷ []
unfolding reading
e475 = refl

pub blocks19 : AreBlocks19
blocks19 = record { e451 = e451; e452 = e452; e453 = e453; e454 = e454; e455 = e455; e456 = e456; e457 = e457; e458 = e458; e459 = e459; e460 = e460; e461 = e461; e462 = e462; e463 = e463; e464 = e464; e465 = e465; e466 = e466; e467 = e467; e468 = e468; e469 = e469; e470 = e470; e471 = e471; e472 = e472; e473 = e473; e474 = e474; e475 = e475 }
