-- Examples 401 to 425, computed.
use Rattle.std.proofs.Common.{codes, refl}
use Rattle.markdown_as_html.specs.Prints.{IsPrinted}
use Rattle.markdown_as_html.proofs.Computing.{reading}
use Rattle.markdown_examples.specs.Html17.{ArePrinted17}

e401 : IsPrinted (codes "x | y\nx | y\n|:-|-:|\n**\n\n**- -|-\n:-:") (codes "<p>x | y</p>\n<table>\n<thead>\n<tr>\n<th align=\"left\">x</th>\n<th align=\"right\">y</th>\n</tr>\n</thead>\n<tbody>\n<tr>\n<td align=\"left\">**</td>\n<td align=\"right\"></td>\n</tr>\n</tbody>\n</table>\n<p>**- -|-\n:-:</p>\n")
unfolding reading
e401 = refl

e402 : IsPrinted (codes "**|:-|-:|\n ~~\n\n|:-|-:|\nax | y\n|-|-|\n") (codes "<p>**|:-|-:|\n~~</p>\n<p>|:-|-:|</p>\n<table>\n<thead>\n<tr>\n<th>ax</th>\n<th>y</th>\n</tr>\n</thead>\n</table>\n")
unfolding reading
e402 = refl

e403 : IsPrinted (codes "\n:-:\n\n| a | b |\n |:-|-:|\n| a | b |\n***") (codes "<p>:-:</p>\n<table>\n<thead>\n<tr>\n<th align=\"left\">a</th>\n<th align=\"right\">b</th>\n</tr>\n</thead>\n<tbody>\n<tr>\n<td align=\"left\">a</td>\n<td align=\"right\">b</td>\n</tr>\n</tbody>\n</table>\n<hr />\n")
unfolding reading
e403 = refl

e404 : IsPrinted (codes "| a | b |\n-|-\n\n\n> | a | b |\n| a | b |\n") (codes "<table>\n<thead>\n<tr>\n<th>a</th>\n<th>b</th>\n</tr>\n</thead>\n</table>\n<blockquote>\n<p>| a | b |\n| a | b |</p>\n</blockquote>\n")
unfolding reading
e404 = refl

e405 : IsPrinted (codes "| a | b |\n~~\n|-|-|\n|:-|-:|\n*|:-|-:|\n- ") (codes "<p>| a | b |\n~~</p>\n<table>\n<thead>\n<tr>\n<th align=\"left\">-</th>\n<th align=\"right\">-</th>\n</tr>\n</thead>\n<tbody>\n<tr>\n<td align=\"left\">*</td>\n<td align=\"right\">:-</td>\n</tr>\n</tbody>\n</table>\n<ul>\n<li></li>\n</ul>\n")
unfolding reading
e405 = refl

e406 : IsPrinted (codes "|:-|-:|\n|-|-|\n~~~|-|~~~~~| a | b |\n`\\|") (codes "<table>\n<thead>\n<tr>\n<th>:-</th>\n<th>-:</th>\n</tr>\n</thead>\n</table>\n<pre><code class=\"language-|-|~~~~~|\">`\\|\n</code></pre>\n")
unfolding reading
e406 = refl

e407 : IsPrinted (codes "~-|-\n| a | b |\n|:-|-:|\n~| a | b |\n\n~~~") (codes "<p>~-|-</p>\n<table>\n<thead>\n<tr>\n<th align=\"left\">a</th>\n<th align=\"right\">b</th>\n</tr>\n</thead>\n<tbody>\n<tr>\n<td align=\"left\">~</td>\n<td align=\"right\">a</td>\n</tr>\n</tbody>\n</table>\n<pre><code></code></pre>\n")
unfolding reading
e407 = refl

e408 : IsPrinted (codes "****-|-\n|-|-|\n|-|| a | b |\n\\|| a | b |\nb") (codes "<table>\n<thead>\n<tr>\n<th>****-</th>\n<th>-</th>\n</tr>\n</thead>\n<tbody>\n<tr>\n<td>-</td>\n<td></td>\n</tr>\n<tr>\n<td>|</td>\n<td>a</td>\n</tr>\n<tr>\n<td>b</td>\n<td></td>\n</tr>\n</tbody>\n</table>\n")
unfolding reading
e408 = refl

e409 : IsPrinted (codes "| a | b |\n-|-\n-|-\n||:-|-:|\n|:-|-:|\n**\n|-|") (codes "<table>\n<thead>\n<tr>\n<th>a</th>\n<th>b</th>\n</tr>\n</thead>\n<tbody>\n<tr>\n<td>-</td>\n<td>-</td>\n</tr>\n<tr>\n<td></td>\n<td>:-</td>\n</tr>\n<tr>\n<td>:-</td>\n<td>-:</td>\n</tr>\n<tr>\n<td>**</td>\n<td></td>\n</tr>\n<tr>\n<td>-</td>\n<td></td>\n</tr>\n</tbody>\n</table>\n")
unfolding reading
e409 = refl

e410 : IsPrinted (codes "~|-|-|\n-|-\n -|-\n|-|-|\n:-:|:-|-:|\n| a | b |\n") (codes "<p>~|-|-|</p>\n<table>\n<thead>\n<tr>\n<th>-</th>\n<th>-</th>\n</tr>\n</thead>\n<tbody>\n<tr>\n<td>-</td>\n<td>-</td>\n</tr>\n<tr>\n<td>:-:</td>\n<td>:-</td>\n</tr>\n<tr>\n<td>a</td>\n<td>b</td>\n</tr>\n</tbody>\n</table>\n")
unfolding reading
e410 = refl

e411 : IsPrinted (codes "**∞**ab _a_→b") (codes "<p>**∞**ab <em>a</em>→b</p>\n")
unfolding reading
e411 = refl

e412 : IsPrinted (codes "*©*a *¢*a *´*a *±*a") (codes "<p>*©*a *¢*a *´*a *±*a</p>\n")
unfolding reading
e412 = refl

e413 : IsPrinted (codes "x <!-->y--> <!--->z-->") (codes "<p>x <!-->y--&gt; <!--->z--&gt;</p>\n")
unfolding reading
e413 = refl

e414 : IsPrinted (codes "x <!-- y -- z ---> *a*") (codes "<p>x <!-- y -- z ---> <em>a</em></p>\n")
unfolding reading
e414 = refl

e415 : IsPrinted (codes "x <!-- y --> z --> <!--- *a*") (codes "<p>x <!-- y --> z --&gt; &lt;!--- <em>a</em></p>\n")
unfolding reading
e415 = refl

e416 : IsPrinted (codes "a\n<search>\n*b*\n\n</SEARCH>") (codes "<p>a</p>\n<search>\n*b*\n</SEARCH>\n")
unfolding reading
e416 = refl

e417 : IsPrinted (codes "a\n<source>\n*b*") (codes "<p>a\n<source>\n<em>b</em></p>\n")
unfolding reading
e417 = refl

e418 : IsPrinted (codes "1. > a\n   >\n2. b") (codes "<ol>\n<li>\n<blockquote>\n<p>a</p>\n</blockquote>\n</li>\n<li>b</li>\n</ol>\n")
unfolding reading
e418 = refl

e419 : IsPrinted (codes "- x\n  > y\n  >\n  >\n- z\n") (codes "<ul>\n<li>x\n<blockquote>\n<p>y</p>\n</blockquote>\n</li>\n<li>z</li>\n</ul>\n")
unfolding reading
e419 = refl

e420 : IsPrinted (codes "- > a\n  >\n\n- b") (codes "<ul>\n<li>\n<blockquote>\n<p>a</p>\n</blockquote>\n</li>\n<li>\n<p>b</p>\n</li>\n</ul>\n")
unfolding reading
e420 = refl

e421 : IsPrinted (codes "+ >     a\n  >\n+ b") (codes "<ul>\n<li>\n<blockquote>\n<pre><code>a\n</code></pre>\n</blockquote>\n</li>\n<li>b</li>\n</ul>\n")
unfolding reading
e421 = refl

e422 : IsPrinted (codes "> - a\n>\n- b\n- c") (codes "<blockquote>\n<ul>\n<li>a</li>\n</ul>\n</blockquote>\n<ul>\n<li>b</li>\n<li>c</li>\n</ul>\n")
unfolding reading
e422 = refl

e423 : IsPrinted (codes ">\na\n>\n\nb") (codes "<blockquote>\n</blockquote>\n<p>a</p>\n<blockquote>\n</blockquote>\n<p>b</p>\n")
unfolding reading
e423 = refl

e424 : IsPrinted (codes "[bbbbbbbbbbbbbbbbbbbbbbbbbbbbbbbbbbbbbbbbbbbbbbbbbbbbbbbbbbbbbbbbbbbbbbbbbbbbbbbbbbbbbbbbbbbbbbbbbbbb]\n\n[bbbbbbbbbbbbbbbbbbbbbbbbbbbbbbbbbbbbbbbbbbbbbbbbbbbbbbbbbbbbbbbbbbbbbbbbbbbbbbbbbbbbbbbbbbbbbbbbbbbb]: /u") (codes "<p><a href=\"/u\">bbbbbbbbbbbbbbbbbbbbbbbbbbbbbbbbbbbbbbbbbbbbbbbbbbbbbbbbbbbbbbbbbbbbbbbbbbbbbbbbbbbbbbbbbbbbbbbbbbbb</a></p>\n")
unfolding reading
e424 = refl

e425 : IsPrinted (codes "[bbbbbbbbbbbbbbbbbbbbbbbbbbbbbbbbbbbbbbbbbbbbbbbbbbbbbbbbbbbbbbbbbbbbbbbbbbbbbbbbbbbbbbbbbbbbbbbbbbbbbbbbbbbbbbbbbbbbbbbbbbbbbbbbbbbbbbbbbbbbbbbbbbbbbbbbbbbbbbbbbbbbbbbbbbbbbbbbbbbbbbbbbbbbbbbbbbbbbbbbbbbbbbbbbbbbbbbbbbbbbbbbbbbbbbbbbbbbbbbbbbbbbbbbbbbbbbbbbbbbbbbbbbbbbbbbbbbbbbbbbbbbbbbbbbbbbbbbbbbbbbbbbbbbbbbbbbbbbbbbbbbbbbbbbbbbbbbbbbbbbbbbbbbbbbbbbbbbbbbbbbbbbbbbbbbbbbbbbbbbbbbbbbbbbbbbbbbbbbbbbbbbbbbbbbbbbbbbbbbbbbbbbbbbbbbbbbbbbbbbbbbbbbbbbbbbbbbbbbbbbbbbbbbbbbbbbbbbbbbbbbbbbbbbbbbbbbbbbbbbbbbbbbbbbbbbbbbbbbbbbbbbbbbbbbbbbbbbbbbbbbbbbbbbbbbbbbbbbbbbbbbbbbbbbbbbbbbbbbbbbbbbbbbbbbbbbbbbbbbbbbbbbbbbbbbbbbbbbbbbbbbbbbbbbbbbbbbbbbbbbbbbbbbbbbbbbbbbbbbbbbbbbbbbbbbbbbbbbbbbbbbbbbbbbbbbbbbbbbbbbbbbbbbbbbbbbbbbbbbbbbbbbbbbbbbbbbbbbbbbbbbbbbbbbbbbbbbbbbbbbbbbbbbbbbbbbbbbbbbbbbbbbbbbbbbbbbbbbbbbbbbbbbbbbbbbbbbbbbbbbbbbbbbbbbbbbbbbbbbbbbbbbbbbbbbbbbbbbbbbbbbbbbbbbbbbbbbbbbbbbbbbbbbbbbbbbbbbbbbbbbbbbbbbbbbbbbbbbbbbbbbbbbbbbbbbbbbbbbbbbbbbbbbbbbbbbbbbbbbbbbbbbbbbbbbbbbbbbbbbbbbbbbbbbbbbbbbbbbbbb]\n\n[bbbbbbbbbbbbbbbbbbbbbbbbbbbbbbbbbbbbbbbbbbbbbbbbbbbbbbbbbbbbbbbbbbbbbbbbbbbbbbbbbbbbbbbbbbbbbbbbbbbbbbbbbbbbbbbbbbbbbbbbbbbbbbbbbbbbbbbbbbbbbbbbbbbbbbbbbbbbbbbbbbbbbbbbbbbbbbbbbbbbbbbbbbbbbbbbbbbbbbbbbbbbbbbbbbbbbbbbbbbbbbbbbbbbbbbbbbbbbbbbbbbbbbbbbbbbbbbbbbbbbbbbbbbbbbbbbbbbbbbbbbbbbbbbbbbbbbbbbbbbbbbbbbbbbbbbbbbbbbbbbbbbbbbbbbbbbbbbbbbbbbbbbbbbbbbbbbbbbbbbbbbbbbbbbbbbbbbbbbbbbbbbbbbbbbbbbbbbbbbbbbbbbbbbbbbbbbbbbbbbbbbbbbbbbbbbbbbbbbbbbbbbbbbbbbbbbbbbbbbbbbbbbbbbbbbbbbbbbbbbbbbbbbbbbbbbbbbbbbbbbbbbbbbbbbbbbbbbbbbbbbbbbbbbbbbbbbbbbbbbbbbbbbbbbbbbbbbbbbbbbbbbbbbbbbbbbbbbbbbbbbbbbbbbbbbbbbbbbbbbbbbbbbbbbbbbbbbbbbbbbbbbbbbbbbbbbbbbbbbbbbbbbbbbbbbbbbbbbbbbbbbbbbbbbbbbbbbbbbbbbbbbbbbbbbbbbbbbbbbbbbbbbbbbbbbbbbbbbbbbbbbbbbbbbbbbbbbbbbbbbbbbbbbbbbbbbbbbbbbbbbbbbbbbbbbbbbbbbbbbbbbbbbbbbbbbbbbbbbbbbbbbbbbbbbbbbbbbbbbbbbbbbbbbbbbbbbbbbbbbbbbbbbbbbbbbbbbbbbbbbbbbbbbbbbbbbbbbbbbbbbbbbbbbbbbbbbbbbbbbbbbbbbbbbbbbbbbbbbbbbbbbbbbbbbbbbbbbbbbbbbbbbbbbbbbbbbbbbbbbbbbbbbbbbbbbbbbbbbbbbbbbbbbbbbbbbbbbbbbbb]: /u") (codes "<p>[bbbbbbbbbbbbbbbbbbbbbbbbbbbbbbbbbbbbbbbbbbbbbbbbbbbbbbbbbbbbbbbbbbbbbbbbbbbbbbbbbbbbbbbbbbbbbbbbbbbbbbbbbbbbbbbbbbbbbbbbbbbbbbbbbbbbbbbbbbbbbbbbbbbbbbbbbbbbbbbbbbbbbbbbbbbbbbbbbbbbbbbbbbbbbbbbbbbbbbbbbbbbbbbbbbbbbbbbbbbbbbbbbbbbbbbbbbbbbbbbbbbbbbbbbbbbbbbbbbbbbbbbbbbbbbbbbbbbbbbbbbbbbbbbbbbbbbbbbbbbbbbbbbbbbbbbbbbbbbbbbbbbbbbbbbbbbbbbbbbbbbbbbbbbbbbbbbbbbbbbbbbbbbbbbbbbbbbbbbbbbbbbbbbbbbbbbbbbbbbbbbbbbbbbbbbbbbbbbbbbbbbbbbbbbbbbbbbbbbbbbbbbbbbbbbbbbbbbbbbbbbbbbbbbbbbbbbbbbbbbbbbbbbbbbbbbbbbbbbbbbbbbbbbbbbbbbbbbbbbbbbbbbbbbbbbbbbbbbbbbbbbbbbbbbbbbbbbbbbbbbbbbbbbbbbbbbbbbbbbbbbbbbbbbbbbbbbbbbbbbbbbbbbbbbbbbbbbbbbbbbbbbbbbbbbbbbbbbbbbbbbbbbbbbbbbbbbbbbbbbbbbbbbbbbbbbbbbbbbbbbbbbbbbbbbbbbbbbbbbbbbbbbbbbbbbbbbbbbbbbbbbbbbbbbbbbbbbbbbbbbbbbbbbbbbbbbbbbbbbbbbbbbbbbbbbbbbbbbbbbbbbbbbbbbbbbbbbbbbbbbbbbbbbbbbbbbbbbbbbbbbbbbbbbbbbbbbbbbbbbbbbbbbbbbbbbbbbbbbbbbbbbbbbbbbbbbbbbbbbbbbbbbbbbbbbbbbbbbbbbbbbbbbbbbbbbbbbbbbbbbbbbbbbbbbbbbbbbbbbbbbbbbbbbbbbbbbbbbbbbbbbbbbbbbbbbbbbbbbbbbbbbbbbbbbbbbbbbbbbbb]</p>\n<p>[bbbbbbbbbbbbbbbbbbbbbbbbbbbbbbbbbbbbbbbbbbbbbbbbbbbbbbbbbbbbbbbbbbbbbbbbbbbbbbbbbbbbbbbbbbbbbbbbbbbbbbbbbbbbbbbbbbbbbbbbbbbbbbbbbbbbbbbbbbbbbbbbbbbbbbbbbbbbbbbbbbbbbbbbbbbbbbbbbbbbbbbbbbbbbbbbbbbbbbbbbbbbbbbbbbbbbbbbbbbbbbbbbbbbbbbbbbbbbbbbbbbbbbbbbbbbbbbbbbbbbbbbbbbbbbbbbbbbbbbbbbbbbbbbbbbbbbbbbbbbbbbbbbbbbbbbbbbbbbbbbbbbbbbbbbbbbbbbbbbbbbbbbbbbbbbbbbbbbbbbbbbbbbbbbbbbbbbbbbbbbbbbbbbbbbbbbbbbbbbbbbbbbbbbbbbbbbbbbbbbbbbbbbbbbbbbbbbbbbbbbbbbbbbbbbbbbbbbbbbbbbbbbbbbbbbbbbbbbbbbbbbbbbbbbbbbbbbbbbbbbbbbbbbbbbbbbbbbbbbbbbbbbbbbbbbbbbbbbbbbbbbbbbbbbbbbbbbbbbbbbbbbbbbbbbbbbbbbbbbbbbbbbbbbbbbbbbbbbbbbbbbbbbbbbbbbbbbbbbbbbbbbbbbbbbbbbbbbbbbbbbbbbbbbbbbbbbbbbbbbbbbbbbbbbbbbbbbbbbbbbbbbbbbbbbbbbbbbbbbbbbbbbbbbbbbbbbbbbbbbbbbbbbbbbbbbbbbbbbbbbbbbbbbbbbbbbbbbbbbbbbbbbbbbbbbbbbbbbbbbbbbbbbbbbbbbbbbbbbbbbbbbbbbbbbbbbbbbbbbbbbbbbbbbbbbbbbbbbbbbbbbbbbbbbbbbbbbbbbbbbbbbbbbbbbbbbbbbbbbbbbbbbbbbbbbbbbbbbbbbbbbbbbbbbbbbbbbbbbbbbbbbbbbbbbbbbbbbbbbbbbbbbbbbbbbbbbbbbbbbbbbbbbbbbbbbbbbbbbbbbbbbbbbbbbbbbbbbbbbbb]: /u</p>\n")
unfolding reading
e425 = refl

pub printed17 : ArePrinted17
printed17 = record { e401 = e401; e402 = e402; e403 = e403; e404 = e404; e405 = e405; e406 = e406; e407 = e407; e408 = e408; e409 = e409; e410 = e410; e411 = e411; e412 = e412; e413 = e413; e414 = e414; e415 = e415; e416 = e416; e417 = e417; e418 = e418; e419 = e419; e420 = e420; e421 = e421; e422 = e422; e423 = e423; e424 = e424; e425 = e425 }
