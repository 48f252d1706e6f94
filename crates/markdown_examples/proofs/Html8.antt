-- Examples 176 to 200, computed.
use Rattle.std.proofs.Common.{codes, refl}
use Rattle.markdown_as_html.specs.Prints.{IsPrinted}
use Rattle.markdown_as_html.proofs.Computing.{reading}
use Rattle.markdown_examples.specs.Html8.{ArePrinted8}

e176 : IsPrinted (codes "* <http://a>## <b") (codes "<ul>\n<li><a href=\"http://a\">http://a</a>## &lt;b</li>\n</ul>\n")
unfolding reading
e176 = refl

e177 : IsPrinted (codes "- ```+ [a]: /u\n](") (codes "<ul>\n<li>\n<pre><code class=\"language-+\"></code></pre>\n</li>\n</ul>\n<p>](</p>\n")
unfolding reading
e177 = refl

e178 : IsPrinted (codes "---~~~\n===\n    ](") (codes "<h1>---~~~</h1>\n<pre><code>](\n</code></pre>\n")
unfolding reading
e178 = refl

e179 : IsPrinted (codes "<!--(<b(http://x>") (codes "<!--(<b(http://x>\n")
unfolding reading
e179 = refl

e180 : IsPrinted (codes "</a>é</a>\n===\n```") (codes "<h1></a>é</a></h1>\n<pre><code></code></pre>\n")
unfolding reading
e180 = refl

e181 : IsPrinted (codes "<a>\n|-|-|\n\n|-|-|\n") (codes "<a>\n|-|-|\n<p>|-|-|</p>\n")
unfolding reading
e181 = refl

e182 : IsPrinted (codes ">1. ](&#35;<div>~") (codes "<blockquote>\n<ol>\n<li>](#<div>~</li>\n</ol>\n</blockquote>\n")
unfolding reading
e182 = refl

e183 : IsPrinted (codes ">```---](/u).]1. ") (codes "<blockquote>\n<pre><code class=\"language----](/u).]1.\"></code></pre>\n</blockquote>\n")
unfolding reading
e183 = refl

e184 : IsPrinted (codes "[\t<div><div>*:```") (codes "<p>[\t<div><div>*:```</p>\n")
unfolding reading
e184 = refl

e185 : IsPrinted (codes "__<b__<http://a>~") (codes "<p><strong>&lt;b</strong><a href=\"http://a\">http://a</a>~</p>\n")
unfolding reading
e185 = refl

e186 : IsPrinted (codes "foo“2) 1. \n---\n+ ") (codes "<h2>foo“2) 1.</h2>\n<ul>\n<li></li>\n</ul>\n")
unfolding reading
e186 = refl

e187 : IsPrinted (codes "\n===\n\n---\n<div>概.概") (codes "<p>===</p>\n<hr />\n<div>概.概\n")
unfolding reading
e187 = refl

e188 : IsPrinted (codes "\n===\n## \\*!\n```rs\n") (codes "<p>===</p>\n<h2>*!</h2>\n<pre><code class=\"language-rs\"></code></pre>\n")
unfolding reading
e188 = refl

e189 : IsPrinted (codes "![](/u)<b\n---\n\\*# ") (codes "<h2><img src=\"/u\" alt=\"\" />&lt;b</h2>\n<p>*#</p>\n")
unfolding reading
e189 = refl

e190 : IsPrinted (codes "## \n---\n`&#35;[ ] ") (codes "<h2></h2>\n<hr />\n<p>`#[ ]</p>\n")
unfolding reading
e190 = refl

e191 : IsPrinted (codes "'</a>![```rs\n\n\n\n\n*") (codes "<p>'</a>![```rs</p>\n<ul>\n<li></li>\n</ul>\n")
unfolding reading
e191 = refl

e192 : IsPrinted (codes "+ \t![<div>foo</a>)") (codes "<ul>\n<li>![<div>foo</a>)</li>\n</ul>\n")
unfolding reading
e192 = refl

e193 : IsPrinted (codes "- 1. > **\n---\n--><") (codes "<ul>\n<li>\n<ol>\n<li>\n<blockquote>\n<p>**</p>\n</blockquote>\n</li>\n</ol>\n</li>\n</ul>\n<hr />\n<p>--&gt;&lt;</p>\n")
unfolding reading
e193 = refl

e194 : IsPrinted (codes "<!--<div>|-|&#35;'") (codes "<!--<div>|-|&#35;'\n")
unfolding reading
e194 = refl

e195 : IsPrinted (codes "<div>概\"~~~](/u)\\*~") (codes "<div>概\"~~~](/u)\\*~\n")
unfolding reading
e195 = refl

e196 : IsPrinted (codes "<http://a><a>](|-|") (codes "<p><a href=\"http://a\">http://a</a><a>](|-|</p>\n")
unfolding reading
e196 = refl

e197 : IsPrinted (codes ">* 2) - ~~&#35;2) ") (codes "<blockquote>\n<ul>\n<li>\n<ol start=\"2\">\n<li>\n<ul>\n<li>~~#2)</li>\n</ul>\n</li>\n</ol>\n</li>\n</ul>\n</blockquote>\n")
unfolding reading
e197 = refl

e198 : IsPrinted (codes "[ ] \\**\n===\n*&amp;") (codes "<h1>[ ] **</h1>\n<p>*&amp;</p>\n")
unfolding reading
e198 = refl

e199 : IsPrinted (codes "[a]: /u\n  <div>===") (codes "  <div>===\n")
unfolding reading
e199 = refl

e200 : IsPrinted (codes "\\*\"\n<div>```rs\n2) ") (codes "<p>*&quot;</p>\n<div>```rs\n2) \n")
unfolding reading
e200 = refl

pub printed8 : ArePrinted8
printed8 = record { e176 = e176; e177 = e177; e178 = e178; e179 = e179; e180 = e180; e181 = e181; e182 = e182; e183 = e183; e184 = e184; e185 = e185; e186 = e186; e187 = e187; e188 = e188; e189 = e189; e190 = e190; e191 = e191; e192 = e192; e193 = e193; e194 = e194; e195 = e195; e196 = e196; e197 = e197; e198 = e198; e199 = e199; e200 = e200 }
