-- Examples 1 to 25, computed.
use Rattle.std.proofs.Common.{codes, refl}
use Rattle.markdown_as_html.specs.Prints.{IsPrinted}
use Rattle.markdown_as_html.proofs.Computing.{reading}
use Rattle.markdown_examples.specs.Html1.{ArePrinted1}

e1 : IsPrinted (codes ">") (codes "<blockquote>\n</blockquote>\n")
unfolding reading
e1 = refl

e2 : IsPrinted (codes "\t*") (codes "<pre><code>*\n</code></pre>\n")
unfolding reading
e2 = refl

e3 : IsPrinted (codes "# ") (codes "<h1></h1>\n")
unfolding reading
e3 = refl

e4 : IsPrinted (codes "**") (codes "<p>**</p>\n")
unfolding reading
e4 = refl

e5 : IsPrinted (codes "- >") (codes "<ul>\n<li>\n<blockquote>\n</blockquote>\n</li>\n</ul>\n")
unfolding reading
e5 = refl

e6 : IsPrinted (codes "1. ") (codes "<ol>\n<li></li>\n</ol>\n")
unfolding reading
e6 = refl

e7 : IsPrinted (codes "- + ") (codes "<ul>\n<li>\n<ul>\n<li></li>\n</ul>\n</li>\n</ul>\n")
unfolding reading
e7 = refl

e8 : IsPrinted (codes "* [:a") (codes "<ul>\n<li>[:a</li>\n</ul>\n")
unfolding reading
e8 = refl

e9 : IsPrinted (codes "- \n\n'") (codes "<ul>\n<li></li>\n</ul>\n<p>'</p>\n")
unfolding reading
e9 = refl

e10 : IsPrinted (codes "- ~~~") (codes "<ul>\n<li>\n<pre><code></code></pre>\n</li>\n</ul>\n")
unfolding reading
e10 = refl

e11 : IsPrinted (codes "2) > ") (codes "<ol start=\"2\">\n<li>\n<blockquote>\n</blockquote>\n</li>\n</ol>\n")
unfolding reading
e11 = refl

e12 : IsPrinted (codes "<b>``") (codes "<p><b>``</p>\n")
unfolding reading
e12 = refl

e13 : IsPrinted (codes "> ---") (codes "<blockquote>\n<hr />\n</blockquote>\n")
unfolding reading
e13 = refl

e14 : IsPrinted (codes "> ```") (codes "<blockquote>\n<pre><code></code></pre>\n</blockquote>\n")
unfolding reading
e14 = refl

e15 : IsPrinted (codes ">1. \n") (codes "<blockquote>\n<ol>\n<li></li>\n</ol>\n</blockquote>\n")
unfolding reading
e15 = refl

e16 : IsPrinted (codes "(*|-|*") (codes "<p>(<em>|-|</em></p>\n")
unfolding reading
e16 = refl

e17 : IsPrinted (codes "*\n---\n") (codes "<ul>\n<li></li>\n</ul>\n<hr />\n")
unfolding reading
e17 = refl

e18 : IsPrinted (codes "+ > # ") (codes "<ul>\n<li>\n<blockquote>\n<h1></h1>\n</blockquote>\n</li>\n</ul>\n")
unfolding reading
e18 = refl

e19 : IsPrinted (codes "1. + '") (codes "<ol>\n<li>\n<ul>\n<li>'</li>\n</ul>\n</li>\n</ol>\n")
unfolding reading
e19 = refl

e20 : IsPrinted (codes "2) 2) ") (codes "<ol start=\"2\">\n<li>\n<ol start=\"2\">\n<li></li>\n</ol>\n</li>\n</ol>\n")
unfolding reading
e20 = refl

e21 : IsPrinted (codes "\n\n- 1. ") (codes "<ul>\n<li>\n<ol>\n<li></li>\n</ol>\n</li>\n</ul>\n")
unfolding reading
e21 = refl

e22 : IsPrinted (codes "# </a><") (codes "<h1></a>&lt;</h1>\n")
unfolding reading
e22 = refl

e23 : IsPrinted (codes "(\n\n!<a>") (codes "<p>(</p>\n<p>!<a></p>\n")
unfolding reading
e23 = refl

e24 : IsPrinted (codes "* > -->") (codes "<ul>\n<li>\n<blockquote>\n<p>--&gt;</p>\n</blockquote>\n</li>\n</ul>\n")
unfolding reading
e24 = refl

e25 : IsPrinted (codes "1. ## ]") (codes "<ol>\n<li>\n<h2>]</h2>\n</li>\n</ol>\n")
unfolding reading
e25 = refl

pub printed1 : ArePrinted1
printed1 = record { e1 = e1; e2 = e2; e3 = e3; e4 = e4; e5 = e5; e6 = e6; e7 = e7; e8 = e8; e9 = e9; e10 = e10; e11 = e11; e12 = e12; e13 = e13; e14 = e14; e15 = e15; e16 = e16; e17 = e17; e18 = e18; e19 = e19; e20 = e20; e21 = e21; e22 = e22; e23 = e23; e24 = e24; e25 = e25 }
