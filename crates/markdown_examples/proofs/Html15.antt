-- Examples 351 to 375, computed.
use Rattle.std.proofs.Common.{codes, refl}
use Rattle.markdown_as_html.specs.Prints.{IsPrinted}
use Rattle.markdown_as_html.proofs.Computing.{reading}
use Rattle.markdown_examples.specs.Html15.{ArePrinted15}

e351 : IsPrinted (codes ":-:|-|-|\n|-|-|-\nb**`") (codes "<table>\n<thead>\n<tr>\n<th>:-:</th>\n<th>-</th>\n<th>-</th>\n</tr>\n</thead>\n<tbody>\n<tr>\n<td>b**`</td>\n<td></td>\n<td></td>\n</tr>\n</tbody>\n</table>\n")
unfolding reading
e351 = refl

e352 : IsPrinted (codes "| a | b |\n|:-|-:|\n*\n") (codes "<table>\n<thead>\n<tr>\n<th align=\"left\">a</th>\n<th align=\"right\">b</th>\n</tr>\n</thead>\n</table>\n<ul>\n<li></li>\n</ul>\n")
unfolding reading
e352 = refl

e353 : IsPrinted (codes "|-|-|\n|:-|-:|\n`:-:\\|") (codes "<table>\n<thead>\n<tr>\n<th align=\"left\">-</th>\n<th align=\"right\">-</th>\n</tr>\n</thead>\n<tbody>\n<tr>\n<td align=\"left\">`:-:|</td>\n<td align=\"right\"></td>\n</tr>\n</tbody>\n</table>\n")
unfolding reading
e353 = refl

e354 : IsPrinted (codes "|:-|-:|\n-|-\n~~|\n\n-  ") (codes "<table>\n<thead>\n<tr>\n<th>:-</th>\n<th>-:</th>\n</tr>\n</thead>\n<tbody>\n<tr>\n<td>~~</td>\n<td></td>\n</tr>\n</tbody>\n</table>\n<ul>\n<li></li>\n</ul>\n")
unfolding reading
e354 = refl

e355 : IsPrinted (codes "|:-|-:|\n|:-|-:|\n`*\n~") (codes "<table>\n<thead>\n<tr>\n<th align=\"left\">:-</th>\n<th align=\"right\">-:</th>\n</tr>\n</thead>\n<tbody>\n<tr>\n<td align=\"left\">`*</td>\n<td align=\"right\"></td>\n</tr>\n<tr>\n<td align=\"left\">~</td>\n<td align=\"right\"></td>\n</tr>\n</tbody>\n</table>\n")
unfolding reading
e355 = refl

e356 : IsPrinted (codes "-|-\n|:-|-:|\n||-|-|\n- ") (codes "<table>\n<thead>\n<tr>\n<th align=\"left\">-</th>\n<th align=\"right\">-</th>\n</tr>\n</thead>\n<tbody>\n<tr>\n<td align=\"left\"></td>\n<td align=\"right\">-</td>\n</tr>\n</tbody>\n</table>\n<ul>\n<li></li>\n</ul>\n")
unfolding reading
e356 = refl

e357 : IsPrinted (codes "||:-|-:|\n|-|-|\n|-|-|\n") (codes "<p>||:-|-:|</p>\n<table>\n<thead>\n<tr>\n<th>-</th>\n<th>-</th>\n</tr>\n</thead>\n</table>\n")
unfolding reading
e357 = refl

e358 : IsPrinted (codes "~~\n\n\nb\nx | y\n|:-|-:|\n") (codes "<p>~~</p>\n<p>b</p>\n<table>\n<thead>\n<tr>\n<th align=\"left\">x</th>\n<th align=\"right\">y</th>\n</tr>\n</thead>\n</table>\n")
unfolding reading
e358 = refl

e359 : IsPrinted (codes "\nx | y\n|-|-\n~~~a\n\n-|-\n") (codes "<table>\n<thead>\n<tr>\n<th>x</th>\n<th>y</th>\n</tr>\n</thead>\n</table>\n<pre><code class=\"language-a\">\n-|-\n</code></pre>\n")
unfolding reading
e359 = refl

e360 : IsPrinted (codes "`|:-|-:|\n:-:|-|-|\n|-|b") (codes "<table>\n<thead>\n<tr>\n<th align=\"center\">`</th>\n<th>:-</th>\n<th>-:</th>\n</tr>\n</thead>\n<tbody>\n<tr>\n<td align=\"center\">-</td>\n<td>b</td>\n<td></td>\n</tr>\n</tbody>\n</table>\n")
unfolding reading
e360 = refl

e361 : IsPrinted (codes "| a | b |\n |-|-|\n\n\\|a\n") (codes "<table>\n<thead>\n<tr>\n<th>a</th>\n<th>b</th>\n</tr>\n</thead>\n</table>\n<p>|a</p>\n")
unfolding reading
e361 = refl

e362 : IsPrinted (codes "| a | b |\n> ~b~> \n\n:-:") (codes "<p>| a | b |</p>\n<blockquote>\n<p><del>b</del>&gt;</p>\n</blockquote>\n<p>:-:</p>\n")
unfolding reading
e362 = refl

e363 : IsPrinted (codes "|-||-|\n\n|-|-|\n|-|-|\n> ") (codes "<p>|-||-|</p>\n<table>\n<thead>\n<tr>\n<th>-</th>\n<th>-</th>\n</tr>\n</thead>\n</table>\n<blockquote>\n</blockquote>\n")
unfolding reading
e363 = refl

e364 : IsPrinted (codes "|:-|-:|\n|-|-|\n\n\n\n\n- > ") (codes "<table>\n<thead>\n<tr>\n<th>:-</th>\n<th>-:</th>\n</tr>\n</thead>\n</table>\n<ul>\n<li>\n<blockquote>\n</blockquote>\n</li>\n</ul>\n")
unfolding reading
e364 = refl

e365 : IsPrinted (codes ":-:x | y\n|:-|-:|\n\n\n||\\|") (codes "<table>\n<thead>\n<tr>\n<th align=\"left\">:-:x</th>\n<th align=\"right\">y</th>\n</tr>\n</thead>\n</table>\n<p>|||</p>\n")
unfolding reading
e365 = refl

e366 : IsPrinted (codes "\\|| a | b |\n\n-|-\n:-:|-|") (codes "<p>|| a | b |</p>\n<table>\n<thead>\n<tr>\n<th align=\"center\">-</th>\n<th>-</th>\n</tr>\n</thead>\n</table>\n")
unfolding reading
e366 = refl

e367 : IsPrinted (codes "| a | b |\n|-|-|\n~~~-|-\n") (codes "<table>\n<thead>\n<tr>\n<th>a</th>\n<th>b</th>\n</tr>\n</thead>\n</table>\n<pre><code class=\"language--|-\"></code></pre>\n")
unfolding reading
e367 = refl

e368 : IsPrinted (codes "\n\n|-|-|\n |:-|-:|\n\n\n\n> b ") (codes "<table>\n<thead>\n<tr>\n<th align=\"left\">-</th>\n<th align=\"right\">-</th>\n</tr>\n</thead>\n</table>\n<blockquote>\n<p>b</p>\n</blockquote>\n")
unfolding reading
e368 = refl

e369 : IsPrinted (codes "\n| a | b |\n|:-|-:|\n- \nbb") (codes "<table>\n<thead>\n<tr>\n<th align=\"left\">a</th>\n<th align=\"right\">b</th>\n</tr>\n</thead>\n</table>\n<ul>\n<li></li>\n</ul>\n<p>bb</p>\n")
unfolding reading
e369 = refl

e370 : IsPrinted (codes "**|-|-|\n:-:|:-|-:|\n b:-:") (codes "<table>\n<thead>\n<tr>\n<th align=\"center\">**</th>\n<th align=\"left\">-</th>\n<th align=\"right\">-</th>\n</tr>\n</thead>\n<tbody>\n<tr>\n<td align=\"center\">b:-:</td>\n<td align=\"left\"></td>\n<td align=\"right\"></td>\n</tr>\n</tbody>\n</table>\n")
unfolding reading
e370 = refl

e371 : IsPrinted (codes "`-|-\n|-|-|\n|-|-|\n\n\n~~~- ") (codes "<table>\n<thead>\n<tr>\n<th>`-</th>\n<th>-</th>\n</tr>\n</thead>\n<tbody>\n<tr>\n<td>-</td>\n<td>-</td>\n</tr>\n</tbody>\n</table>\n<pre><code class=\"language--\"></code></pre>\n")
unfolding reading
e371 = refl

e372 : IsPrinted (codes "| a | b |\n|:-|-:|\n> \n- `") (codes "<table>\n<thead>\n<tr>\n<th align=\"left\">a</th>\n<th align=\"right\">b</th>\n</tr>\n</thead>\n</table>\n<blockquote>\n</blockquote>\n<ul>\n<li>`</li>\n</ul>\n")
unfolding reading
e372 = refl

e373 : IsPrinted (codes "~**x | y\n|*\n|:-|-:|\n-|-\n") (codes "<p>~*<em>x | y\n|</em></p>\n<table>\n<thead>\n<tr>\n<th>:-</th>\n<th>-:</th>\n</tr>\n</thead>\n</table>\n")
unfolding reading
e373 = refl

e374 : IsPrinted (codes "|-|-|\n|-|-|\n\n\n`-|-\n*~~~**") (codes "<table>\n<thead>\n<tr>\n<th>-</th>\n<th>-</th>\n</tr>\n</thead>\n</table>\n<p>`-|-\n<em>~~~</em>*</p>\n")
unfolding reading
e374 = refl

e375 : IsPrinted (codes "*\\|\n|-|-|\n|:-|-:|\n|:-|-:|\n") (codes "<p>*|</p>\n<table>\n<thead>\n<tr>\n<th align=\"left\">-</th>\n<th align=\"right\">-</th>\n</tr>\n</thead>\n<tbody>\n<tr>\n<td align=\"left\">:-</td>\n<td align=\"right\">-:</td>\n</tr>\n</tbody>\n</table>\n")
unfolding reading
e375 = refl

pub printed15 : ArePrinted15
printed15 = record { e351 = e351; e352 = e352; e353 = e353; e354 = e354; e355 = e355; e356 = e356; e357 = e357; e358 = e358; e359 = e359; e360 = e360; e361 = e361; e362 = e362; e363 = e363; e364 = e364; e365 = e365; e366 = e366; e367 = e367; e368 = e368; e369 = e369; e370 = e370; e371 = e371; e372 = e372; e373 = e373; e374 = e374; e375 = e375 }
