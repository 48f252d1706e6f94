-- Examples 301 to 325, computed.
use Rattle.std.proofs.Common.{codes, refl}
use Rattle.markdown_as_html.specs.Prints.{IsPrinted}
use Rattle.markdown_as_html.proofs.Computing.{reading}
use Rattle.markdown_examples.specs.Html13.{ArePrinted13}

e301 : IsPrinted (codes "](/u)\"b <http://a>foofoo</a>") (codes "<p>](/u)&quot;b <a href=\"http://a\">http://a</a>foofoo</a></p>\n")
unfolding reading
e301 = refl

e302 : IsPrinted (codes "&#35;'---\n|-|-|\n|\n\n<http://a>") (codes "<p>#'---\n|-|-|\n|</p>\n<p><a href=\"http://a\">http://a</a></p>\n")
unfolding reading
e302 = refl

e303 : IsPrinted (codes "__<http://a>[a]: /u\n*\n|-|-|\n)") (codes "<p>__<a href=\"http://a\">http://a</a>[a]: /u\n*\n|-|-|\n)</p>\n")
unfolding reading
e303 = refl

e304 : IsPrinted (codes "| a | b |\n|-|-|\n| c | d |\n> 概") (codes "<table>\n<thead>\n<tr>\n<th>a</th>\n<th>b</th>\n</tr>\n</thead>\n<tbody>\n<tr>\n<td>c</td>\n<td>d</td>\n</tr>\n</tbody>\n</table>\n<blockquote>\n<p>概</p>\n</blockquote>\n")
unfolding reading
e304 = refl

e305 : IsPrinted (codes "<div><http://a>\\[a]|![http://x") (codes "<div><http://a>\\[a]|![http://x\n")
unfolding reading
e305 = refl

e306 : IsPrinted (codes "[a]: /u\n~## [a]: /u\n  <div>~~~") (codes "<p>~## <a href=\"/u\">a</a>: /u</p>\n  <div>~~~\n")
unfolding reading
e306 = refl

e307 : IsPrinted (codes "## <http://a>http://x2) \n``````") (codes "<h2><a href=\"http://a\">http://a</a><a href=\"http://x2\">http://x2</a>)</h2>\n<pre><code></code></pre>\n")
unfolding reading
e307 = refl

e308 : IsPrinted (codes "http://x\n---\n[a]<div><div>## - ") (codes "<h2><a href=\"http://x\">http://x</a></h2>\n<p>[a]<div><div>## -</p>\n")
unfolding reading
e308 = refl

e309 : IsPrinted (codes "| a | b |\n|-|-|\n| c | d |\n# b !") (codes "<table>\n<thead>\n<tr>\n<th>a</th>\n<th>b</th>\n</tr>\n</thead>\n<tbody>\n<tr>\n<td>c</td>\n<td>d</td>\n</tr>\n</tbody>\n</table>\n<h1>b !</h1>\n")
unfolding reading
e309 = refl

e310 : IsPrinted (codes "</a>\n| a | b |\n|-|-|\n| c | d |\n“") (codes "</a>\n| a | b |\n|-|-|\n| c | d |\n“\n")
unfolding reading
e310 = refl

e311 : IsPrinted (codes "| a | b |\n|-|-|\n| c | d |\n<div><b") (codes "<table>\n<thead>\n<tr>\n<th>a</th>\n<th>b</th>\n</tr>\n</thead>\n<tbody>\n<tr>\n<td>c</td>\n<td>d</td>\n</tr>\n</tbody>\n</table>\n<div><b\n")
unfolding reading
e311 = refl

e312 : IsPrinted (codes "> + **  | a | b |\n|-|-|\n| c | d |\n") (codes "<blockquote>\n<ul>\n<li>**  | a | b |\n|-|-|\n| c | d |</li>\n</ul>\n</blockquote>\n")
unfolding reading
e312 = refl

e313 : IsPrinted (codes "(**a\n---\n>| a | b |\n|-|-|\n| c | d |\n") (codes "<h2>(**a</h2>\n<blockquote>\n<p>| a | b |\n|-|-|\n| c | d |</p>\n</blockquote>\n")
unfolding reading
e313 = refl

e314 : IsPrinted (codes "<a><a>foo| a | b |\n|-|-|\n| c | d |\n“") (codes "<p><a><a>foo| a | b |\n|-|-|\n| c | d |\n“</p>\n")
unfolding reading
e314 = refl

e315 : IsPrinted (codes "## foo:<div>| a | b |\n|-|-|\n| c | d |\n") (codes "<h2>foo:<div>| a | b |</h2>\n<p>|-|-|\n| c | d |</p>\n")
unfolding reading
e315 = refl

e316 : IsPrinted (codes "\t-->|-|| a | b |\n|-|-|\n| c | d |\n\n1. \n\n") (codes "<pre><code>--&gt;|-|| a | b |\n</code></pre>\n<p>|-|-|\n| c | d |</p>\n<ol>\n<li></li>\n</ol>\n")
unfolding reading
e316 = refl

e317 : IsPrinted (codes "<div>[ ] - | a | b |\n|-|-|\n| c | d |\n'\\") (codes "<div>[ ] - | a | b |\n|-|-|\n| c | d |\n'\\\n")
unfolding reading
e317 = refl

e318 : IsPrinted (codes "| a | b |\n|-|-|\n| c | d |\n](/u)\n===\n<a>") (codes "<table>\n<thead>\n<tr>\n<th>a</th>\n<th>b</th>\n</tr>\n</thead>\n<tbody>\n<tr>\n<td>c</td>\n<td>d</td>\n</tr>\n<tr>\n<td>](/u)</td>\n<td></td>\n</tr>\n<tr>\n<td>===</td>\n<td></td>\n</tr>\n</tbody>\n</table>\n<a>\n")
unfolding reading
e318 = refl

e319 : IsPrinted (codes "概<]\n---\n| a | b |\n|-|-|\n| c | d |\n> foo") (codes "<h2>概&lt;]</h2>\n<table>\n<thead>\n<tr>\n<th>a</th>\n<th>b</th>\n</tr>\n</thead>\n<tbody>\n<tr>\n<td>c</td>\n<td>d</td>\n</tr>\n</tbody>\n</table>\n<blockquote>\n<p>foo</p>\n</blockquote>\n")
unfolding reading
e319 = refl

e320 : IsPrinted (codes "- ## <b\t&amp;| a | b |\n|-|-|\n| c | d |\n!") (codes "<ul>\n<li>\n<h2>&lt;b\t&amp;| a | b |</h2>\n</li>\n</ul>\n<p>|-|-|\n| c | d |\n!</p>\n")
unfolding reading
e320 = refl

e321 : IsPrinted (codes "| a | b |\n|-|-|\n| c | d |\n>\"&amp;![\n---\n") (codes "<table>\n<thead>\n<tr>\n<th>a</th>\n<th>b</th>\n</tr>\n</thead>\n<tbody>\n<tr>\n<td>c</td>\n<td>d</td>\n</tr>\n</tbody>\n</table>\n<blockquote>\n<p>&quot;&amp;![</p>\n</blockquote>\n<hr />\n")
unfolding reading
e321 = refl

e322 : IsPrinted (codes "| a | b |\n|-|-|\n| c | d |\n<http://a>`[a]`") (codes "<table>\n<thead>\n<tr>\n<th>a</th>\n<th>b</th>\n</tr>\n</thead>\n<tbody>\n<tr>\n<td>c</td>\n<td>d</td>\n</tr>\n<tr>\n<td><a href=\"http://a\">http://a</a><code>[a]</code></td>\n<td></td>\n</tr>\n</tbody>\n</table>\n")
unfolding reading
e322 = refl

e323 : IsPrinted (codes "1. | a | b |\n|-|-|\n| c | d |\n*   [a]: /u\n]") (codes "<ol>\n<li>| a | b |\n|-|-|\n| c | d |</li>\n</ol>\n<ul>\n<li>]</li>\n</ul>\n")
unfolding reading
e323 = refl

e324 : IsPrinted (codes "+ \n&#35;| a | b |\n|-|-|\n| c | d |\n](/u)</a>") (codes "<ul>\n<li></li>\n</ul>\n<p>#| a | b |\n|-|-|\n| c | d |\n](/u)</a></p>\n")
unfolding reading
e324 = refl

e325 : IsPrinted (codes "* \n===\n~<http://a>| a | b |\n|-|-|\n| c | d |\n") (codes "<ul>\n<li></li>\n</ul>\n<p>===\n~<a href=\"http://a\">http://a</a>| a | b |\n|-|-|\n| c | d |</p>\n")
unfolding reading
e325 = refl

pub printed13 : ArePrinted13
printed13 = record { e301 = e301; e302 = e302; e303 = e303; e304 = e304; e305 = e305; e306 = e306; e307 = e307; e308 = e308; e309 = e309; e310 = e310; e311 = e311; e312 = e312; e313 = e313; e314 = e314; e315 = e315; e316 = e316; e317 = e317; e318 = e318; e319 = e319; e320 = e320; e321 = e321; e322 = e322; e323 = e323; e324 = e324; e325 = e325 }
