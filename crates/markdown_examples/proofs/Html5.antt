-- Examples 101 to 125, computed.
use Rattle.std.proofs.Common.{codes, refl}
use Rattle.markdown_as_html.specs.Prints.{IsPrinted}
use Rattle.markdown_as_html.proofs.Computing.{reading}
use Rattle.markdown_examples.specs.Html5.{ArePrinted5}

e101 : IsPrinted (codes "\\*> \n===\n2) ") (codes "<h1>*&gt;</h1>\n<ol start=\"2\">\n<li></li>\n</ol>\n")
unfolding reading
e101 = refl

e102 : IsPrinted (codes "\\*b \n .\n\n-->") (codes "<p>*b\n.</p>\n<p>--&gt;</p>\n")
unfolding reading
e102 = refl

e103 : IsPrinted (codes "``\n\n<!--' \n_") (codes "<p>``</p>\n<!--' \n_\n")
unfolding reading
e103 = refl

e104 : IsPrinted (codes "“__```rs\n```") (codes "<p>“__```rs</p>\n<pre><code></code></pre>\n")
unfolding reading
e104 = refl

e105 : IsPrinted (codes "![```rs\n](/u)") (codes "<p><img src=\"/u\" alt=\"```rs \" /></p>\n")
unfolding reading
e105 = refl

e106 : IsPrinted (codes "*  <!--\\\n\na* ") (codes "<ul>\n<li>\n<!--\\\n\n</li>\n</ul>\n<p>a*</p>\n")
unfolding reading
e106 = refl

e107 : IsPrinted (codes "* ```__```'\na") (codes "<ul>\n<li><code>__</code>'\na</li>\n</ul>\n")
unfolding reading
e107 = refl

e108 : IsPrinted (codes "+ \n- http://x") (codes "<ul>\n<li></li>\n</ul>\n<ul>\n<li><a href=\"http://x\">http://x</a></li>\n</ul>\n")
unfolding reading
e108 = refl

e109 : IsPrinted (codes ".<a>\n---\n:|-|") (codes "<h2>.<a></h2>\n<p>:|-|</p>\n")
unfolding reading
e109 = refl

e110 : IsPrinted (codes "2) [a]: /u\n# ") (codes "<ol start=\"2\">\n<li></li>\n</ol>\n<h1></h1>\n")
unfolding reading
e110 = refl

e111 : IsPrinted (codes "<!--é~<a>\n\n\\!") (codes "<!--é~<a>\n\n\\!\n")
unfolding reading
e111 = refl

e112 : IsPrinted (codes "<div>(<[a]|-|") (codes "<div>(<[a]|-|\n")
unfolding reading
e112 = refl

e113 : IsPrinted (codes "<div>[a]`_<a>") (codes "<div>[a]`_<a>\n")
unfolding reading
e113 = refl

e114 : IsPrinted (codes "[a]~概\t_> </a>") (codes "<p>[a]~概\t_&gt; </a></p>\n")
unfolding reading
e114 = refl

e115 : IsPrinted (codes "]概\n---\n>*</a>") (codes "<h2>]概</h2>\n<blockquote>\n<p>*</a></p>\n</blockquote>\n")
unfolding reading
e115 = refl

e116 : IsPrinted (codes "_\n===\n\n---\n_~") (codes "<h1>_</h1>\n<hr />\n<p>_~</p>\n")
unfolding reading
e116 = refl

e117 : IsPrinted (codes "\n---\n[```rs\n+ ") (codes "<hr />\n<p>[```rs\n+</p>\n")
unfolding reading
e117 = refl

e118 : IsPrinted (codes "\n<div>[a]: /u\n") (codes "<div>[a]: /u\n")
unfolding reading
e118 = refl

e119 : IsPrinted (codes "![]\n\n# \n|-|-|\n") (codes "<p>![]</p>\n<h1></h1>\n<p>|-|-|</p>\n")
unfolding reading
e119 = refl

e120 : IsPrinted (codes "---```* ```rs\n") (codes "<p>---<code>* </code>rs</p>\n")
unfolding reading
e120 = refl

e121 : IsPrinted (codes "2) + \n---* foo") (codes "<ol start=\"2\">\n<li>\n<ul>\n<li></li>\n</ul>\n</li>\n</ol>\n<p>---* foo</p>\n")
unfolding reading
e121 = refl

e122 : IsPrinted (codes "2) -->`<b\n---\n") (codes "<ol start=\"2\">\n<li>--&gt;`&lt;b</li>\n</ol>\n<hr />\n")
unfolding reading
e122 = refl

e123 : IsPrinted (codes "2) <div>&#35;\t") (codes "<ol start=\"2\">\n<li>\n<div>&#35;\t\n</li>\n</ol>\n")
unfolding reading
e123 = refl

e124 : IsPrinted (codes "<!--\n---\nb -->") (codes "<!--\n---\nb -->\n")
unfolding reading
e124 = refl

e125 : IsPrinted (codes "<!--(```: \nfoo") (codes "<!--(```: \nfoo\n")
unfolding reading
e125 = refl

pub printed5 : ArePrinted5
printed5 = record { e101 = e101; e102 = e102; e103 = e103; e104 = e104; e105 = e105; e106 = e106; e107 = e107; e108 = e108; e109 = e109; e110 = e110; e111 = e111; e112 = e112; e113 = e113; e114 = e114; e115 = e115; e116 = e116; e117 = e117; e118 = e118; e119 = e119; e120 = e120; e121 = e121; e122 = e122; e123 = e123; e124 = e124; e125 = e125 }
