-- Examples 251 to 275, computed.
use Rattle.std.proofs.Common.{codes, refl}
use Rattle.markdown_as_html.specs.Prints.{IsPrinted}
use Rattle.markdown_as_html.proofs.Computing.{reading}
use Rattle.markdown_examples.specs.Html11.{ArePrinted11}

e251 : IsPrinted (codes "\n---\n\n---\n|-|.```rs\né概") (codes "<hr />\n<hr />\n<p>|-|.```rs\né概</p>\n")
unfolding reading
e251 = refl

e252 : IsPrinted (codes "\n---\n# <http://a>-->* ") (codes "<hr />\n<h1><a href=\"http://a\">http://a</a>--&gt;*</h1>\n")
unfolding reading
e252 = refl

e253 : IsPrinted (codes "\n---\n<!--http://x[a]](") (codes "<hr />\n<!--http://x[a]](\n")
unfolding reading
e253 = refl

e254 : IsPrinted (codes "\n===\n<div>```~~~\\](/u)") (codes "<p>===</p>\n<div>```~~~\\](/u)\n")
unfolding reading
e254 = refl

e255 : IsPrinted (codes "  <a></a>    + ---[ ] ") (codes "<p><a></a>    + ---[ ]</p>\n")
unfolding reading
e255 = refl

e256 : IsPrinted (codes ")## <http://a>a\n\nfoo**") (codes "<p>)## <a href=\"http://a\">http://a</a>a</p>\n<p>foo**</p>\n")
unfolding reading
e256 = refl

e257 : IsPrinted (codes "*[a]: /u\n+ ---\n\\*&#35;") (codes "<p>*[a]: /u</p>\n<ul>\n<li>\n<hr />\n</li>\n</ul>\n<p>*#</p>\n")
unfolding reading
e257 = refl

e258 : IsPrinted (codes "1. ```rs\n===<http://a>") (codes "<ol>\n<li>\n<pre><code class=\"language-rs\"></code></pre>\n</li>\n</ol>\n<p>===<a href=\"http://a\">http://a</a></p>\n")
unfolding reading
e258 = refl

e259 : IsPrinted (codes "2) \t_<http://a>[ ] **.") (codes "<ol start=\"2\">\n<li>_<a href=\"http://a\">http://a</a>[ ] **.</li>\n</ol>\n")
unfolding reading
e259 = refl

e260 : IsPrinted (codes "2) <a>[a]* ](/u)`\n---\n") (codes "<ol start=\"2\">\n<li><a>[a]* ](/u)`</li>\n</ol>\n<hr />\n")
unfolding reading
e260 = refl

e261 : IsPrinted (codes "<div>**2) [ ] ~~```rs\n") (codes "<div>**2) [ ] ~~```rs\n")
unfolding reading
e261 = refl

e262 : IsPrinted (codes "<http://a>\n===\n](&#35;") (codes "<h1><a href=\"http://a\">http://a</a></h1>\n<p>](#</p>\n")
unfolding reading
e262 = refl

e263 : IsPrinted (codes "<http://a><http://a>\n!") (codes "<p><a href=\"http://a\">http://a</a><a href=\"http://a\">http://a</a>\n!</p>\n")
unfolding reading
e263 = refl

e264 : IsPrinted (codes "> >     foo.~~http://x") (codes "<blockquote>\n<blockquote>\n<pre><code>foo.~~http://x\n</code></pre>\n</blockquote>\n</blockquote>\n")
unfolding reading
e264 = refl

e265 : IsPrinted (codes "[ ] ``    \n---\n~~\n===\n") (codes "<h2>[ ] ``</h2>\n<h1>~~</h1>\n")
unfolding reading
e265 = refl

e266 : IsPrinted (codes "\n---\n<div>]<http://a>  ") (codes "<hr />\n<div>]<http://a>  \n")
unfolding reading
e266 = refl

e267 : IsPrinted (codes "1. <div>    \n|-|-|\n__)\n") (codes "<ol>\n<li>\n<div>    \n</li>\n</ol>\n<p>|-|-|\n__)</p>\n")
unfolding reading
e267 = refl

e268 : IsPrinted (codes "1. <foo======<http://a>") (codes "<ol>\n<li>&lt;foo======<a href=\"http://a\">http://a</a></li>\n</ol>\n")
unfolding reading
e268 = refl

e269 : IsPrinted (codes "><a><b&amp;<http://a>\\*") (codes "<blockquote>\n<p><a>&lt;b&amp;<a href=\"http://a\">http://a</a>*</p>\n</blockquote>\n")
unfolding reading
e269 = refl

e270 : IsPrinted (codes "[ ] __](/u)\n|-|-|\n\n---\n") (codes "<p>[ ] __](/u)\n|-|-|</p>\n<hr />\n")
unfolding reading
e270 = refl

e271 : IsPrinted (codes "|-|[a]: /u\n_:\n|-|-|\n\n* ") (codes "<p>|-|[a]: /u\n_:\n|-|-|</p>\n<ul>\n<li></li>\n</ul>\n")
unfolding reading
e271 = refl

e272 : IsPrinted (codes "\n|-|-|\n    > <div> \\*<a>") (codes "<p>|-|-|\n&gt; <div> *<a></p>\n")
unfolding reading
e272 = refl

e273 : IsPrinted (codes "'```rs\n1. - http://x'~~~") (codes "<p>'```rs</p>\n<ol>\n<li>\n<ul>\n<li><a href=\"http://x\">http://x</a>'~~~</li>\n</ul>\n</li>\n</ol>\n")
unfolding reading
e273 = refl

e274 : IsPrinted (codes "* foo\n|-|-|\n## <div><a>\\") (codes "<ul>\n<li>foo\n|-|-|</li>\n</ul>\n<h2><div><a>\\</h2>\n")
unfolding reading
e274 = refl

e275 : IsPrinted (codes "<!--<!--[a]: /u\n <a>[ ] ") (codes "<!--<!--[a]: /u\n <a>[ ] \n")
unfolding reading
e275 = refl

pub printed11 : ArePrinted11
printed11 = record { e251 = e251; e252 = e252; e253 = e253; e254 = e254; e255 = e255; e256 = e256; e257 = e257; e258 = e258; e259 = e259; e260 = e260; e261 = e261; e262 = e262; e263 = e263; e264 = e264; e265 = e265; e266 = e266; e267 = e267; e268 = e268; e269 = e269; e270 = e270; e271 = e271; e272 = e272; e273 = e273; e274 = e274; e275 = e275 }
