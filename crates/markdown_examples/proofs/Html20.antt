-- Examples 476 to 485, computed.
use Rattle.std.proofs.Common.{codes, refl}
use Rattle.markdown_as_html.specs.Prints.{IsPrinted}
use Rattle.markdown_as_html.proofs.Computing.{reading}
use Rattle.markdown_examples.specs.Html20.{ArePrinted20}

e476 : IsPrinted (codes "####### a\n#b\n# c#\n# d #") (codes "<p>####### a\n#b</p>\n<h1>c#</h1>\n<h1>d</h1>\n")
unfolding reading
e476 = refl

e477 : IsPrinted (codes "![a [b](c) d](e)") (codes "<p><img src=\"e\" alt=\"a b d\" /></p>\n")
unfolding reading
e477 = refl

e478 : IsPrinted (codes "a_b_ _c_d _e_") (codes "<p>a_b_ _c_d <em>e</em></p>\n")
unfolding reading
e478 = refl

e479 : IsPrinted (codes "[a](b 'c') [d](e (f)) [g](h (i (j)))") (codes "<p><a href=\"b\" title=\"c\">a</a> <a href=\"e\" title=\"f\">d</a> [g](h (i (j)))</p>\n")
unfolding reading
e479 = refl

e480 : IsPrinted (codes "www. a") (codes "<p>www. a</p>\n")
unfolding reading
e480 = refl

e481 : IsPrinted (codes "[a]:\n\n[a]") (codes "<p>[a]:</p>\n<p>[a]</p>\n")
unfolding reading
e481 = refl

e482 : IsPrinted (codes "[b]: c \"d\" e\n\n[b]") (codes "<p>[b]: c &quot;d&quot; e</p>\n<p>[b]</p>\n")
unfolding reading
e482 = refl

e483 : IsPrinted (codes "[a]: b\"c\"\n\n[a]") (codes "<p><a href=\"b%22c%22\">a</a></p>\n")
unfolding reading
e483 = refl

e484 : IsPrinted (codes ">a\n>\tb\n\n>\n> c") (codes "<blockquote>\n<p>a\nb</p>\n</blockquote>\n<blockquote>\n<p>c</p>\n</blockquote>\n")
unfolding reading
e484 = refl

e485 : IsPrinted (codes "<!doctype html>\n*a*") (codes "<!doctype html>\n<p><em>a</em></p>\n")
unfolding reading
e485 = refl

pub printed20 : ArePrinted20
printed20 = record { e476 = e476; e477 = e477; e478 = e478; e479 = e479; e480 = e480; e481 = e481; e482 = e482; e483 = e483; e484 = e484; e485 = e485 }
