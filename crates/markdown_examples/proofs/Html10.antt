-- Examples 226 to 250, computed.
use Rattle.std.proofs.Common.{codes, refl}
use Rattle.markdown_as_html.specs.Prints.{IsPrinted}
use Rattle.markdown_as_html.proofs.Computing.{reading}
use Rattle.markdown_examples.specs.Html10.{ArePrinted10}

e226 : IsPrinted (codes "* \n---\n# *~~~~~<div>") (codes "<ul>\n<li></li>\n</ul>\n<hr />\n<h1>*~~~~~<div></h1>\n")
unfolding reading
e226 = refl

e227 : IsPrinted (codes "1. ```rs\n[a]</a>|-|.") (codes "<ol>\n<li>\n<pre><code class=\"language-rs\"></code></pre>\n</li>\n</ol>\n<p>[a]</a>|-|.</p>\n")
unfolding reading
e227 = refl

e228 : IsPrinted (codes "<!--  a<&#35;\n|-|-|\n") (codes "<!--  a<&#35;\n|-|-|\n")
unfolding reading
e228 = refl

e229 : IsPrinted (codes "<!--)<a>_**</a>](/u)") (codes "<!--)<a>_**</a>](/u)\n")
unfolding reading
e229 = refl

e230 : IsPrinted (codes "<div>- ````rs\n>[ ] \t") (codes "<div>- ````rs\n>[ ] \t\n")
unfolding reading
e230 = refl

e231 : IsPrinted (codes "> [a]: /u\n+ ```\n===\n") (codes "<blockquote>\n</blockquote>\n<ul>\n<li>\n<pre><code></code></pre>\n</li>\n</ul>\n<p>===</p>\n")
unfolding reading
e231 = refl

e232 : IsPrinted (codes "[a]: /u\n## <a>[ ] <b") (codes "<h2><a>[ ] &lt;b</h2>\n")
unfolding reading
e232 = refl

e233 : IsPrinted (codes "](/u)~~<<!--\n---\n## ") (codes "<h2>](/u)~~&lt;&lt;!--</h2>\n<h2></h2>\n")
unfolding reading
e233 = refl

e234 : IsPrinted (codes "]<a>```rs\n</a>===```") (codes "<p>]<a><code>rs &lt;/a&gt;===</code></p>\n")
unfolding reading
e234 = refl

e235 : IsPrinted (codes "_> <</a><div>\n|-|-|\n") (codes "<p>_&gt; &lt;</a><div>\n|-|-|</p>\n")
unfolding reading
e235 = refl

e236 : IsPrinted (codes "a[a]<a>é](<http://a>") (codes "<p>a[a]<a>é](<a href=\"http://a\">http://a</a></p>\n")
unfolding reading
e236 = refl

e237 : IsPrinted (codes "é\n===\n## 1. [a]: /u\n") (codes "<h1>é</h1>\n<h2>1. [a]: /u</h2>\n")
unfolding reading
e237 = refl

e238 : IsPrinted (codes "![\\(<div>\n---\n```rs\n*") (codes "<h2>![(<div></h2>\n<pre><code class=\"language-rs\">*\n</code></pre>\n")
unfolding reading
e238 = refl

e239 : IsPrinted (codes "# 概http://x[a]: /u\n- ") (codes "<h1>概<a href=\"http://x%5Ba%5D\">http://x[a]</a>: /u</h1>\n<ul>\n<li></li>\n</ul>\n")
unfolding reading
e239 = refl

e240 : IsPrinted (codes "&#35;!<http://a><div>") (codes "<p>#!<a href=\"http://a\">http://a</a><div></p>\n")
unfolding reading
e240 = refl

e241 : IsPrinted (codes "* \n|-|-|\n\n<a>\n---\n===") (codes "<ul>\n<li></li>\n</ul>\n<p>|-|-|</p>\n<a>\n---\n===\n")
unfolding reading
e241 = refl

e242 : IsPrinted (codes "* ![<b\n---\n<!--(&amp;") (codes "<ul>\n<li>![&lt;b</li>\n</ul>\n<hr />\n<!--(&amp;\n")
unfolding reading
e242 = refl

e243 : IsPrinted (codes "+ >```rs\n## a[a]: /u\n") (codes "<ul>\n<li>\n<blockquote>\n<pre><code class=\"language-rs\"></code></pre>\n</blockquote>\n</li>\n</ul>\n<h2>a[a]: /u</h2>\n")
unfolding reading
e243 = refl

e244 : IsPrinted (codes "-->===*<div>*## &#35;") (codes "<p>--&gt;===<em><div></em>## #</p>\n")
unfolding reading
e244 = refl

e245 : IsPrinted (codes "<!--# foo<http://a>b ") (codes "<!--# foo<http://a>b \n")
unfolding reading
e245 = refl

e246 : IsPrinted (codes "> ## ]“![<div>\n|-|-|\n") (codes "<blockquote>\n<h2>]“![<div></h2>\n</blockquote>\n<p>|-|-|</p>\n")
unfolding reading
e246 = refl

e247 : IsPrinted (codes "[a]: /u\n</a>\n\n```<a>(") (codes "<p></a></p>\n<pre><code class=\"language-&lt;a&gt;(\"></code></pre>\n")
unfolding reading
e247 = refl

e248 : IsPrinted (codes "[a][a]: /u\na\n===\n<a>|") (codes "<h1>[a][a]: /u\na</h1>\n<p><a>|</p>\n")
unfolding reading
e248 = refl

e249 : IsPrinted (codes "__\n---\n<http://a>~2) ") (codes "<h2>__</h2>\n<p><a href=\"http://a\">http://a</a>~2)</p>\n")
unfolding reading
e249 = refl

e250 : IsPrinted (codes "__http://x|-|\n---\n---") (codes "<h2>__<a href=\"http://x%7C-%7C\">http://x|-|</a></h2>\n<hr />\n")
unfolding reading
e250 = refl

pub printed10 : ArePrinted10
printed10 = record { e226 = e226; e227 = e227; e228 = e228; e229 = e229; e230 = e230; e231 = e231; e232 = e232; e233 = e233; e234 = e234; e235 = e235; e236 = e236; e237 = e237; e238 = e238; e239 = e239; e240 = e240; e241 = e241; e242 = e242; e243 = e243; e244 = e244; e245 = e245; e246 = e246; e247 = e247; e248 = e248; e249 = e249; e250 = e250 }
