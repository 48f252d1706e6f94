-- Examples 26 to 50, computed.
use Rattle.std.proofs.Common.{codes, refl}
use Rattle.markdown_as_html.specs.Prints.{IsPrinted}
use Rattle.markdown_as_html.proofs.Computing.{reading}
use Rattle.markdown_examples.specs.Html2.{ArePrinted2}

e26 : IsPrinted (codes "2) 1. )") (codes "<ol start=\"2\">\n<li>\n<ol>\n<li>)</li>\n</ol>\n</li>\n</ol>\n")
unfolding reading
e26 = refl

e27 : IsPrinted (codes "<!--*__") (codes "<!--*__\n")
unfolding reading
e27 = refl

e28 : IsPrinted (codes "<!--```") (codes "<!--```\n")
unfolding reading
e28 = refl

e29 : IsPrinted (codes "</a><a>") (codes "<p></a><a></p>\n")
unfolding reading
e29 = refl

e30 : IsPrinted (codes "<div>+ ") (codes "<div>+ \n")
unfolding reading
e30 = refl

e31 : IsPrinted (codes "## `<!--") (codes "<h2>`&lt;!--</h2>\n")
unfolding reading
e31 = refl

e32 : IsPrinted (codes "(<div>  ") (codes "<p>(<div></p>\n")
unfolding reading
e32 = refl

e33 : IsPrinted (codes "- # ~~~a") (codes "<ul>\n<li>\n<h1>~~~a</h1>\n</li>\n</ul>\n")
unfolding reading
e33 = refl

e34 : IsPrinted (codes "---*<a>*") (codes "<p>---<em><a></em></p>\n")
unfolding reading
e34 = refl

e35 : IsPrinted (codes "2) + 概`é") (codes "<ol start=\"2\">\n<li>\n<ul>\n<li>概`é</li>\n</ul>\n</li>\n</ol>\n")
unfolding reading
e35 = refl

e36 : IsPrinted (codes "<!--\n!- ") (codes "<!--\n!- \n")
unfolding reading
e36 = refl

e37 : IsPrinted (codes "<div>![a") (codes "<div>![a\n")
unfolding reading
e37 = refl

e38 : IsPrinted (codes "<div>'((") (codes "<div>'((\n")
unfolding reading
e38 = refl

e39 : IsPrinted (codes "<div>2) ") (codes "<div>2) \n")
unfolding reading
e39 = refl

e40 : IsPrinted (codes "<div>\\)'") (codes "<div>\\)'\n")
unfolding reading
e40 = refl

e41 : IsPrinted (codes "<div>].]") (codes "<div>].]\n")
unfolding reading
e41 = refl

e42 : IsPrinted (codes "> 2) -->") (codes "<blockquote>\n<ol start=\"2\">\n<li>--&gt;</li>\n</ol>\n</blockquote>\n")
unfolding reading
e42 = refl

e43 : IsPrinted (codes ">|<a>===") (codes "<blockquote>\n<p>|<a>===</p>\n</blockquote>\n")
unfolding reading
e43 = refl

e44 : IsPrinted (codes "_</a>\n\n:") (codes "<p>_</a></p>\n<p>:</p>\n")
unfolding reading
e44 = refl

e45 : IsPrinted (codes "`\\*`“\n\na") (codes "<p><code>\\*</code>“</p>\n<p>a</p>\n")
unfolding reading
e45 = refl

e46 : IsPrinted (codes "\n---\n2) ~") (codes "<hr />\n<ol start=\"2\">\n<li>~</li>\n</ol>\n")
unfolding reading
e46 = refl

e47 : IsPrinted (codes "# <a>*.- ") (codes "<h1><a>*.-</h1>\n")
unfolding reading
e47 = refl

e48 : IsPrinted (codes "- \\*<div>") (codes "<ul>\n<li>*<div></li>\n</ul>\n")
unfolding reading
e48 = refl

e49 : IsPrinted (codes "1. ```rs\n") (codes "<ol>\n<li>\n<pre><code class=\"language-rs\"></code></pre>\n</li>\n</ol>\n")
unfolding reading
e49 = refl

e50 : IsPrinted (codes "2) 'b ---") (codes "<ol start=\"2\">\n<li>'b ---</li>\n</ol>\n")
unfolding reading
e50 = refl

pub printed2 : ArePrinted2
printed2 = record { e26 = e26; e27 = e27; e28 = e28; e29 = e29; e30 = e30; e31 = e31; e32 = e32; e33 = e33; e34 = e34; e35 = e35; e36 = e36; e37 = e37; e38 = e38; e39 = e39; e40 = e40; e41 = e41; e42 = e42; e43 = e43; e44 = e44; e45 = e45; e46 = e46; e47 = e47; e48 = e48; e49 = e49; e50 = e50 }
