-- Examples 51 to 75, computed.
use Rattle.std.proofs.Common.{codes, refl}
use Rattle.markdown_as_html.specs.Prints.{IsPrinted}
use Rattle.markdown_as_html.proofs.Computing.{reading}
use Rattle.markdown_examples.specs.Html3.{ArePrinted3}

e51 : IsPrinted (codes "<!--===''") (codes "<!--===''\n")
unfolding reading
e51 = refl

e52 : IsPrinted (codes "</a>)\n\n# ") (codes "<p></a>)</p>\n<h1></h1>\n")
unfolding reading
e52 = refl

e53 : IsPrinted (codes "<div>~~~\n") (codes "<div>~~~\n")
unfolding reading
e53 = refl

e54 : IsPrinted (codes "\n---\n+ ---") (codes "<hr />\n<ul>\n<li>\n<hr />\n</li>\n</ul>\n")
unfolding reading
e54 = refl

e55 : IsPrinted (codes "\n---\n> )<\\") (codes "<hr />\n<blockquote>\n<p>)&lt;\\</p>\n</blockquote>\n")
unfolding reading
e55 = refl

e56 : IsPrinted (codes "# 1. “*|*(") (codes "<h1>1. “<em>|</em>(</h1>\n")
unfolding reading
e56 = refl

e57 : IsPrinted (codes "'<a>~*<b'*") (codes "<p>'<a>~<em>&lt;b'</em></p>\n")
unfolding reading
e57 = refl

e58 : IsPrinted (codes "*\n---\n:===") (codes "<ul>\n<li></li>\n</ul>\n<hr />\n<p>:===</p>\n")
unfolding reading
e58 = refl

e59 : IsPrinted (codes "- ~~~2) ~~") (codes "<ul>\n<li>\n<pre><code class=\"language-2)\"></code></pre>\n</li>\n</ul>\n")
unfolding reading
e59 = refl

e60 : IsPrinted (codes "1. é:\n\n\"\"é") (codes "<ol>\n<li>é:</li>\n</ol>\n<p>&quot;&quot;é</p>\n")
unfolding reading
e60 = refl

e61 : IsPrinted (codes "2) ~~~>---") (codes "<ol start=\"2\">\n<li>\n<pre><code class=\"language-&gt;---\"></code></pre>\n</li>\n</ol>\n")
unfolding reading
e61 = refl

e62 : IsPrinted (codes ":__<a>__* ") (codes "<p>:<strong><a></strong>*</p>\n")
unfolding reading
e62 = refl

e63 : IsPrinted (codes "<!--+ 2) .") (codes "<!--+ 2) .\n")
unfolding reading
e63 = refl

e64 : IsPrinted (codes "<a>* \n```*") (codes "<p><a>*</p>\n<pre><code class=\"language-*\"></code></pre>\n")
unfolding reading
e64 = refl

e65 : IsPrinted (codes "<a>- [ ] )") (codes "<p><a>- [ ] )</p>\n")
unfolding reading
e65 = refl

e66 : IsPrinted (codes "<div>2) é[") (codes "<div>2) é[\n")
unfolding reading
e66 = refl

e67 : IsPrinted (codes "<div>``]__") (codes "<div>``]__\n")
unfolding reading
e67 = refl

e68 : IsPrinted (codes "> - \n](/u)") (codes "<blockquote>\n<ul>\n<li></li>\n</ul>\n</blockquote>\n<p>](/u)</p>\n")
unfolding reading
e68 = refl

e69 : IsPrinted (codes ">&#35;</a>") (codes "<blockquote>\n<p>#</a></p>\n</blockquote>\n")
unfolding reading
e69 = refl

e70 : IsPrinted (codes "\\\n</a>````") (codes "<p><br />\n</a>````</p>\n")
unfolding reading
e70 = refl

e71 : IsPrinted (codes "\n\n\n---\n+ :[") (codes "<hr />\n<ul>\n<li>:[</li>\n</ul>\n")
unfolding reading
e71 = refl

e72 : IsPrinted (codes "\n---\n~~~\\\\*") (codes "<hr />\n<pre><code class=\"language-\\*\"></code></pre>\n")
unfolding reading
e72 = refl

e73 : IsPrinted (codes "    # \n[ ] ") (codes "<pre><code># \n</code></pre>\n<p>[ ]</p>\n")
unfolding reading
e73 = refl

e74 : IsPrinted (codes "  ]\n===\n---") (codes "<h1>]</h1>\n<hr />\n")
unfolding reading
e74 = refl

e75 : IsPrinted (codes "*<_\n---\n~~~") (codes "<h2>*&lt;_</h2>\n<pre><code></code></pre>\n")
unfolding reading
e75 = refl

pub printed3 : ArePrinted3
printed3 = record { e51 = e51; e52 = e52; e53 = e53; e54 = e54; e55 = e55; e56 = e56; e57 = e57; e58 = e58; e59 = e59; e60 = e60; e61 = e61; e62 = e62; e63 = e63; e64 = e64; e65 = e65; e66 = e66; e67 = e67; e68 = e68; e69 = e69; e70 = e70; e71 = e71; e72 = e72; e73 = e73; e74 = e74; e75 = e75 }
