-- Examples 451 to 475, computed.
use Rattle.std.proofs.Common.{codes, refl}
use Rattle.markdown_as_html.specs.Prints.{IsPrinted}
use Rattle.markdown_as_html.proofs.Computing.{reading}
use Rattle.markdown_examples.specs.Html19.{ArePrinted19}

e451 : IsPrinted (codes "[a](((((b)))))") (codes "<p><a href=\"((((b))))\">a</a></p>\n")
unfolding reading
e451 = refl

e452 : IsPrinted (codes "1234567890. a") (codes "<p>1234567890. a</p>\n")
unfolding reading
e452 = refl

e453 : IsPrinted (codes "a `  ` b") (codes "<p>a <code>  </code> b</p>\n")
unfolding reading
e453 = refl

e454 : IsPrinted (codes "*foo**bar*") (codes "<p><em>foo**bar</em></p>\n")
unfolding reading
e454 = refl

e455 : IsPrinted (codes "foo***bar***baz") (codes "<p>foo<em><strong>bar</strong></em>baz</p>\n")
unfolding reading
e455 = refl

e456 : IsPrinted (codes "a [b [c](d) e](f)") (codes "<p>a [b <a href=\"d\">c</a> e](f)</p>\n")
unfolding reading
e456 = refl

e457 : IsPrinted (codes "[ẞ]\n\n[SS]: /url") (codes "<p><a href=\"/url\">ẞ</a></p>\n")
unfolding reading
e457 = refl

e458 : IsPrinted (codes "<m:abc> <ma:abc>") (codes "<p>&lt;m:abc&gt; <a href=\"ma:abc\">ma:abc</a></p>\n")
unfolding reading
e458 = refl

e459 : IsPrinted (codes "a ~~~b~~~ c") (codes "<p>a ~~~b~~~ c</p>\n")
unfolding reading
e459 = refl

e460 : IsPrinted (codes "a ~b~~ c") (codes "<p>a ~b~~ c</p>\n")
unfolding reading
e460 = refl

e461 : IsPrinted (codes "[a]\n\n[a]: b\n[a]: c") (codes "<p><a href=\"b\">a</a></p>\n")
unfolding reading
e461 = refl

e462 : IsPrinted (codes "-     a") (codes "<ul>\n<li>\n<pre><code>a\n</code></pre>\n</li>\n</ul>\n")
unfolding reading
e462 = refl

e463 : IsPrinted (codes "http://a.b. c") (codes "<p><a href=\"http://a.b\">http://a.b</a>. c</p>\n")
unfolding reading
e463 = refl

e464 : IsPrinted (codes "&amp a &copy") (codes "<p>&amp;amp a &amp;copy</p>\n")
unfolding reading
e464 = refl

e465 : IsPrinted (codes "&#0; &#xD801; &#x110000;") (codes "<p>� � �</p>\n")
unfolding reading
e465 = refl

e466 : IsPrinted (codes "```\na\n    ```\n```\nb") (codes "<pre><code>a\n    ```\n</code></pre>\n<p>b</p>\n")
unfolding reading
e466 = refl

e467 : IsPrinted (codes "~~~ a`b\nc\n~~~") (codes "<pre><code class=\"language-a`b\">c\n</code></pre>\n")
unfolding reading
e467 = refl

e468 : IsPrinted (codes "*\u{a0}a*") (codes "<p>*\u{a0}a*</p>\n")
unfolding reading
e468 = refl

e469 : IsPrinted (codes "[a](<b\nc>)") (codes "<p>[a](<b\nc>)</p>\n")
unfolding reading
e469 = refl

e470 : IsPrinted (codes "<a@bbbbbbbbbbbbbbbbbbbbbbbbbbbbbbbbbbbbbbbbbbbbbbbbbbbbbbbbbbbbbbbb.c> <a@bbbbbbbbbbbbbbbbbbbbbbbbbbbbbbbbbbbbbbbbbbbbbbbbbbbbbbbbbbbbbbb.c>") (codes "<p>&lt;<a href=\"mailto:a@bbbbbbbbbbbbbbbbbbbbbbbbbbbbbbbbbbbbbbbbbbbbbbbbbbbbbbbbbbbbbbbb.c\">a@bbbbbbbbbbbbbbbbbbbbbbbbbbbbbbbbbbbbbbbbbbbbbbbbbbbbbbbbbbbbbbbb.c</a>&gt; <a href=\"mailto:a@bbbbbbbbbbbbbbbbbbbbbbbbbbbbbbbbbbbbbbbbbbbbbbbbbbbbbbbbbbbbbbb.c\">a@bbbbbbbbbbbbbbbbbbbbbbbbbbbbbbbbbbbbbbbbbbbbbbbbbbbbbbbbbbbbbbb.c</a></p>\n")
unfolding reading
e470 = refl

e471 : IsPrinted (codes "&#00000065; &#0000065; &#x0000041; &#x000041;") (codes "<p>&amp;#00000065; A &amp;#x0000041; A</p>\n")
unfolding reading
e471 = refl

e472 : IsPrinted (codes "<textarea>\n\n*a*</textarea>\n*b*") (codes "<textarea>\n\n*a*</textarea>\n<p><em>b</em></p>\n")
unfolding reading
e472 = refl

e473 : IsPrinted (codes "a\n<DIV>\n*b*") (codes "<p>a</p>\n<DIV>\n*b*\n")
unfolding reading
e473 = refl

e474 : IsPrinted (codes "a\n2. b\n1. c") (codes "<p>a\n2. b</p>\n<ol>\n<li>c</li>\n</ol>\n")
unfolding reading
e474 = refl

e475 : IsPrinted (codes "- x\n  - a\n\n  + b") (codes "<ul>\n<li>\n<p>x</p>\n<ul>\n<li>a</li>\n</ul>\n<ul>\n<li>b</li>\n</ul>\n</li>\n</ul>\n")
unfolding reading
e475 = refl

pub printed19 : ArePrinted19
printed19 = record { e451 = e451; e452 = e452; e453 = e453; e454 = e454; e455 = e455; e456 = e456; e457 = e457; e458 = e458; e459 = e459; e460 = e460; e461 = e461; e462 = e462; e463 = e463; e464 = e464; e465 = e465; e466 = e466; e467 = e467; e468 = e468; e469 = e469; e470 = e470; e471 = e471; e472 = e472; e473 = e473; e474 = e474; e475 = e475 }
