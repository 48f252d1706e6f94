-- Examples 201 to 225, computed.
use Rattle.std.proofs.Common.{codes, refl}
use Rattle.markdown_as_html.specs.Prints.{IsPrinted}
use Rattle.markdown_as_html.proofs.Computing.{reading}
use Rattle.markdown_examples.specs.Html9.{ArePrinted9}

e201 : IsPrinted (codes "\\b ```rs\n+ ~~~    ") (codes "<p>\\b ```rs</p>\n<ul>\n<li>\n<pre><code></code></pre>\n</li>\n</ul>\n")
unfolding reading
e201 = refl

e202 : IsPrinted (codes "foo\n---\n</a>[  2) ") (codes "<h2>foo</h2>\n<p></a>[  2)</p>\n")
unfolding reading
e202 = refl

e203 : IsPrinted (codes "\n===\n1. - 2) ```rs\n") (codes "<p>===</p>\n<ol>\n<li>\n<ul>\n<li>\n<ol start=\"2\">\n<li>\n<pre><code class=\"language-rs\"></code></pre>\n</li>\n</ol>\n</li>\n</ul>\n</li>\n</ol>\n")
unfolding reading
e203 = refl

e204 : IsPrinted (codes " >   ```rs\nfoo`````") (codes "<blockquote>\n<pre><code class=\"language-rs\"></code></pre>\n</blockquote>\n<p>foo`````</p>\n")
unfolding reading
e204 = refl

e205 : IsPrinted (codes "## ~~<b]</a>\t```rs\n") (codes "<h2>~~&lt;b]</a>\t```rs</h2>\n")
unfolding reading
e205 = refl

e206 : IsPrinted (codes "'<div></a>](/u)===a") (codes "<p>'<div></a>](/u)===a</p>\n")
unfolding reading
e206 = refl

e207 : IsPrinted (codes "(](![``\n|-|-|\n <!--") (codes "<p>(](![``\n|-|-|</p>\n <!--\n")
unfolding reading
e207 = refl

e208 : IsPrinted (codes "- b [a]: /u\n```# __") (codes "<ul>\n<li>b [a]: /u</li>\n</ul>\n<pre><code class=\"language-#\"></code></pre>\n")
unfolding reading
e208 = refl

e209 : IsPrinted (codes "---\n|-|-|\n![概\t\n===\n") (codes "<hr />\n<h1>|-|-|\n![概</h1>\n")
unfolding reading
e209 = refl

e210 : IsPrinted (codes ".\n\n|-|<div>~~~~~|-|") (codes "<p>.</p>\n<p>|-|<div>~~~~~|-|</p>\n")
unfolding reading
e210 = refl

e211 : IsPrinted (codes "1.       __\n---\nb !") (codes "<ol>\n<li>\n<pre><code>  __\n</code></pre>\n</li>\n</ol>\n<hr />\n<p>b !</p>\n")
unfolding reading
e211 = refl

e212 : IsPrinted (codes "<!--.# <a><!--_</a>") (codes "<!--.# <a><!--_</a>\n")
unfolding reading
e212 = refl

e213 : IsPrinted (codes "<!--```rs\n``\n![[a]\t") (codes "<!--```rs\n``\n![[a]\t\n")
unfolding reading
e213 = refl

e214 : IsPrinted (codes "</a>2) ](/u)\n---\n![") (codes "<h2></a>2) ](/u)</h2>\n<p>![</p>\n")
unfolding reading
e214 = refl

e215 : IsPrinted (codes "</a>``“\n===\n](/u)~~") (codes "<h1></a>``“</h1>\n<p>](/u)~~</p>\n")
unfolding reading
e215 = refl

e216 : IsPrinted (codes "<div>\t> \n===\n===](\\") (codes "<div>\t> \n===\n===](\\\n")
unfolding reading
e216 = refl

e217 : IsPrinted (codes "<div>..\n===\n>[a]## ") (codes "<div>..\n===\n>[a]## \n")
unfolding reading
e217 = refl

e218 : IsPrinted (codes "<http://a>“\\*.\n---\n") (codes "<h2><a href=\"http://a\">http://a</a>“*.</h2>\n")
unfolding reading
e218 = refl

e219 : IsPrinted (codes "> \n\n\n|-|-|\n\n\n&#35;>") (codes "<blockquote>\n</blockquote>\n<p>|-|-|</p>\n<p>#&gt;</p>\n")
unfolding reading
e219 = refl

e220 : IsPrinted (codes ">[a]: /u\nb **[](/u)") (codes "<blockquote>\n<p>b **<a href=\"/u\"></a></p>\n</blockquote>\n")
unfolding reading
e220 = refl

e221 : IsPrinted (codes "_[\n===\n```rs\n**foo“") (codes "<h1>_[</h1>\n<pre><code class=\"language-rs\">**foo“\n</code></pre>\n")
unfolding reading
e221 = refl

e222 : IsPrinted (codes "__<a>~~>\n===\n<div>\n") (codes "<h1>__<a>~~&gt;</h1>\n<div>\n")
unfolding reading
e222 = refl

e223 : IsPrinted (codes "\n---\n</a>\t__http://x") (codes "<hr />\n<p></a>\t__<a href=\"http://x\">http://x</a></p>\n")
unfolding reading
e223 = refl

e224 : IsPrinted (codes "\n|-|-|\n<div>```<div>") (codes "<p>|-|-|</p>\n<div>```<div>\n")
unfolding reading
e224 = refl

e225 : IsPrinted (codes "# <http://a>http://x") (codes "<h1><a href=\"http://a\">http://a</a><a href=\"http://x\">http://x</a></h1>\n")
unfolding reading
e225 = refl

pub printed9 : ArePrinted9
printed9 = record { e201 = e201; e202 = e202; e203 = e203; e204 = e204; e205 = e205; e206 = e206; e207 = e207; e208 = e208; e209 = e209; e210 = e210; e211 = e211; e212 = e212; e213 = e213; e214 = e214; e215 = e215; e216 = e216; e217 = e217; e218 = e218; e219 = e219; e220 = e220; e221 = e221; e222 = e222; e223 = e223; e224 = e224; e225 = e225 }
