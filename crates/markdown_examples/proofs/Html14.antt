-- Examples 326 to 350, computed.
use Rattle.std.proofs.Common.{codes, refl}
use Rattle.markdown_as_html.specs.Prints.{IsPrinted}
use Rattle.markdown_as_html.proofs.Computing.{reading}
use Rattle.markdown_examples.specs.Html14.{ArePrinted14}

e326 : IsPrinted (codes "[a]: /u\na| a | b |\n|-|-|\n| c | d |\n<div>*\t~~") (codes "<p>a| a | b |\n|-|-|\n| c | d |</p>\n<div>*\t~~\n")
unfolding reading
e326 = refl

e327 : IsPrinted (codes "é[a]\n\n[a]: /u\n<a>| a | b |\n|-|-|\n| c | d |\n_") (codes "<p>é<a href=\"/u\">a</a></p>\n<p><a>| a | b |\n|-|-|\n| c | d |\n_</p>\n")
unfolding reading
e327 = refl

e328 : IsPrinted (codes "<a>[a]: /u\n\n| a | b |\n|-|-|\n| c | d |\n<div><!--") (codes "<p><a>[a]: /u</p>\n<table>\n<thead>\n<tr>\n<th>a</th>\n<th>b</th>\n</tr>\n</thead>\n<tbody>\n<tr>\n<td>c</td>\n<td>d</td>\n</tr>\n</tbody>\n</table>\n<div><!--\n")
unfolding reading
e328 = refl

e329 : IsPrinted (codes "“-->\n===\n\n|-|-|\n\n\n| a | b |\n|-|-|\n| c | d |\n    ") (codes "<h1>“--&gt;</h1>\n<p>|-|-|</p>\n<table>\n<thead>\n<tr>\n<th>a</th>\n<th>b</th>\n</tr>\n</thead>\n<tbody>\n<tr>\n<td>c</td>\n<td>d</td>\n</tr>\n</tbody>\n</table>\n")
unfolding reading
e329 = refl

e330 : IsPrinted (codes "| a | b |\n|-|-|\n| c | d |\n> | a | b |\n|-|-|\n| c | d |\n>\t\n===") (codes "<table>\n<thead>\n<tr>\n<th>a</th>\n<th>b</th>\n</tr>\n</thead>\n<tbody>\n<tr>\n<td>c</td>\n<td>d</td>\n</tr>\n</tbody>\n</table>\n<blockquote>\n<p>| a | b |\n|-|-|\n| c | d |</p>\n</blockquote>\n<p>===</p>\n")
unfolding reading
e330 = refl

e331 : IsPrinted (codes "**\n|-|") (codes "<table>\n<thead>\n<tr>\n<th>**</th>\n</tr>\n</thead>\n</table>\n")
unfolding reading
e331 = refl

e332 : IsPrinted (codes "- ~b~> |-|") (codes "<ul>\n<li><del>b</del>&gt; |-|</li>\n</ul>\n")
unfolding reading
e332 = refl

e333 : IsPrinted (codes "-|-\n*\n:-:\n") (codes "<p>-|-</p>\n<table>\n<thead>\n<tr>\n<th align=\"center\">*</th>\n</tr>\n</thead>\n</table>\n")
unfolding reading
e333 = refl

e334 : IsPrinted (codes "-|-\n -|-\n> - \n") (codes "<table>\n<thead>\n<tr>\n<th>-</th>\n<th>-</th>\n</tr>\n</thead>\n</table>\n<blockquote>\n<ul>\n<li></li>\n</ul>\n</blockquote>\n")
unfolding reading
e334 = refl

e335 : IsPrinted (codes "-|-\n|:-|-:|\n\n\n") (codes "<table>\n<thead>\n<tr>\n<th align=\"left\">-</th>\n<th align=\"right\">-</th>\n</tr>\n</thead>\n</table>\n")
unfolding reading
e335 = refl

e336 : IsPrinted (codes "| a | b |\n-|-\n") (codes "<table>\n<thead>\n<tr>\n<th>a</th>\n<th>b</th>\n</tr>\n</thead>\n</table>\n")
unfolding reading
e336 = refl

e337 : IsPrinted (codes " - ~~~-|-\n~|~\\|") (codes "<ul>\n<li>\n<pre><code class=\"language--|-\"></code></pre>\n</li>\n</ul>\n<p><del>|</del>|</p>\n")
unfolding reading
e337 = refl

e338 : IsPrinted (codes "*\n\n-|-\n-|-\n\n-|-\n") (codes "<ul>\n<li></li>\n</ul>\n<table>\n<thead>\n<tr>\n<th>-</th>\n<th>-</th>\n</tr>\n</thead>\n</table>\n<p>-|-</p>\n")
unfolding reading
e338 = refl

e339 : IsPrinted (codes "| a | b |\n-|-\n> ") (codes "<table>\n<thead>\n<tr>\n<th>a</th>\n<th>b</th>\n</tr>\n</thead>\n</table>\n<blockquote>\n</blockquote>\n")
unfolding reading
e339 = refl

e340 : IsPrinted (codes ":-:x | y\n:-:  |-|") (codes "<table>\n<thead>\n<tr>\n<th align=\"center\">:-:x</th>\n<th>y</th>\n</tr>\n</thead>\n</table>\n")
unfolding reading
e340 = refl

e341 : IsPrinted (codes "ax | y\n|:-|-:|\n> ") (codes "<table>\n<thead>\n<tr>\n<th align=\"left\">ax</th>\n<th align=\"right\">y</th>\n</tr>\n</thead>\n</table>\n<blockquote>\n</blockquote>\n")
unfolding reading
e341 = refl

e342 : IsPrinted (codes "b|*\n|-|-|\n- \\|\n\na") (codes "<table>\n<thead>\n<tr>\n<th>b</th>\n<th>*</th>\n</tr>\n</thead>\n</table>\n<ul>\n<li>|</li>\n</ul>\n<p>a</p>\n")
unfolding reading
e342 = refl

e343 : IsPrinted (codes ":-:\\|\n|-|\n\n\nx | y\n") (codes "<table>\n<thead>\n<tr>\n<th>:-:|</th>\n</tr>\n</thead>\n</table>\n<p>x | y</p>\n")
unfolding reading
e343 = refl

e344 : IsPrinted (codes "|:-|-:|\n-|-\n*:-:**") (codes "<table>\n<thead>\n<tr>\n<th>:-</th>\n<th>-:</th>\n</tr>\n</thead>\n<tbody>\n<tr>\n<td><em>:-:</em>*</td>\n<td></td>\n</tr>\n</tbody>\n</table>\n")
unfolding reading
e344 = refl

e345 : IsPrinted (codes "|:-|-:|\n-|-\n|~|:-:") (codes "<table>\n<thead>\n<tr>\n<th>:-</th>\n<th>-:</th>\n</tr>\n</thead>\n<tbody>\n<tr>\n<td>~</td>\n<td>:-:</td>\n</tr>\n</tbody>\n</table>\n")
unfolding reading
e345 = refl

e346 : IsPrinted (codes "||-|-|\n~|-|~~~\na~a") (codes "<p>||-|-|\n<del>|-|~~~\na</del>a</p>\n")
unfolding reading
e346 = refl

e347 : IsPrinted (codes "||:-|-:|\n:-:|-|-|\n") (codes "<table>\n<thead>\n<tr>\n<th align=\"center\"></th>\n<th>:-</th>\n<th>-:</th>\n</tr>\n</thead>\n</table>\n")
unfolding reading
e347 = refl

e348 : IsPrinted (codes "-|-\n-|-\n-|-\n\na\n\n b\n") (codes "<table>\n<thead>\n<tr>\n<th>-</th>\n<th>-</th>\n</tr>\n</thead>\n<tbody>\n<tr>\n<td>-</td>\n<td>-</td>\n</tr>\n</tbody>\n</table>\n<p>a</p>\n<p>b</p>\n")
unfolding reading
e348 = refl

e349 : IsPrinted (codes "|-|\n|-|\na\n\n**x | y\n") (codes "<table>\n<thead>\n<tr>\n<th>-</th>\n</tr>\n</thead>\n<tbody>\n<tr>\n<td>a</td>\n</tr>\n</tbody>\n</table>\n<p>**x | y</p>\n")
unfolding reading
e349 = refl

e350 : IsPrinted (codes "|-|-|\n|-|-|\n\n\n\n\n~~~") (codes "<table>\n<thead>\n<tr>\n<th>-</th>\n<th>-</th>\n</tr>\n</thead>\n</table>\n<pre><code></code></pre>\n")
unfolding reading
e350 = refl

pub printed14 : ArePrinted14
printed14 = record { e326 = e326; e327 = e327; e328 = e328; e329 = e329; e330 = e330; e331 = e331; e332 = e332; e333 = e333; e334 = e334; e335 = e335; e336 = e336; e337 = e337; e338 = e338; e339 = e339; e340 = e340; e341 = e341; e342 = e342; e343 = e343; e344 = e344; e345 = e345; e346 = e346; e347 = e347; e348 = e348; e349 = e349; e350 = e350 }
