-- Examples 376 to 400, computed.
use Rattle.std.proofs.Common.{codes, refl}
use Rattle.markdown_as_html.specs.Prints.{IsPrinted}
use Rattle.markdown_as_html.proofs.Computing.{reading}
use Rattle.markdown_examples.specs.Html16.{ArePrinted16}

e376 : IsPrinted (codes "~|-|\n-|-\n:-:| a | b |\n-  *") (codes "<table>\n<thead>\n<tr>\n<th>~</th>\n<th>-</th>\n</tr>\n</thead>\n<tbody>\n<tr>\n<td>:-:</td>\n<td>a</td>\n</tr>\n</tbody>\n</table>\n<ul>\n<li>\n<ul>\n<li></li>\n</ul>\n</li>\n</ul>\n")
unfolding reading
e376 = refl

e377 : IsPrinted (codes "\n\n||-|-|\n|:-|-:|\n|-|-|\n**`~") (codes "<p>||-|-|</p>\n<table>\n<thead>\n<tr>\n<th>:-</th>\n<th>-:</th>\n</tr>\n</thead>\n<tbody>\n<tr>\n<td>**`~</td>\n<td></td>\n</tr>\n</tbody>\n</table>\n")
unfolding reading
e377 = refl

e378 : IsPrinted (codes "\n-|-\n-|-\n|-|\n> |-|x | y\n~~~") (codes "<table>\n<thead>\n<tr>\n<th>-</th>\n<th>-</th>\n</tr>\n</thead>\n<tbody>\n<tr>\n<td>-</td>\n<td></td>\n</tr>\n</tbody>\n</table>\n<blockquote>\n<p>|-|x | y</p>\n</blockquote>\n<pre><code></code></pre>\n")
unfolding reading
e378 = refl

e379 : IsPrinted (codes "a| a | b |\n|-|-|\n-|-\n\n|-|- ") (codes "<p>a| a | b |</p>\n<table>\n<thead>\n<tr>\n<th>-</th>\n<th>-</th>\n</tr>\n</thead>\n</table>\n<p>|-|-</p>\n")
unfolding reading
e379 = refl

e380 : IsPrinted (codes "| a | b |\n-|-\n\n**\n\n-|-\n~~`|") (codes "<table>\n<thead>\n<tr>\n<th>a</th>\n<th>b</th>\n</tr>\n</thead>\n</table>\n<p>**</p>\n<p>-|-\n~~`|</p>\n")
unfolding reading
e380 = refl

e381 : IsPrinted (codes "| a | b |\n|-|-|\n\n- |:-|-:|\n") (codes "<table>\n<thead>\n<tr>\n<th>a</th>\n<th>b</th>\n</tr>\n</thead>\n</table>\n<ul>\n<li>|:-|-:|</li>\n</ul>\n")
unfolding reading
e381 = refl

e382 : IsPrinted (codes "| a | b |\n|:-|-:|\n~~\n~~~~**") (codes "<table>\n<thead>\n<tr>\n<th align=\"left\">a</th>\n<th align=\"right\">b</th>\n</tr>\n</thead>\n<tbody>\n<tr>\n<td align=\"left\">~~</td>\n<td align=\"right\"></td>\n</tr>\n</tbody>\n</table>\n<pre><code class=\"language-**\"></code></pre>\n")
unfolding reading
e382 = refl

e383 : IsPrinted (codes "|-|-|\n- ~~:-:|:-|-:|\n|-|~~\n") (codes "<p>|-|-|</p>\n<ul>\n<li><del>:-:|:-|-:|\n|-|</del></li>\n</ul>\n")
unfolding reading
e383 = refl

e384 : IsPrinted (codes "|:-|-:|\n|-|-|\n|-|-|\n\n> |a> ") (codes "<table>\n<thead>\n<tr>\n<th>:-</th>\n<th>-:</th>\n</tr>\n</thead>\n<tbody>\n<tr>\n<td>-</td>\n<td>-</td>\n</tr>\n</tbody>\n</table>\n<blockquote>\n<p>|a&gt;</p>\n</blockquote>\n")
unfolding reading
e384 = refl

e385 : IsPrinted (codes "> bx | y\n\n\n|-|-|\n|:-|-:|\n|\\|") (codes "<blockquote>\n<p>bx | y</p>\n</blockquote>\n<table>\n<thead>\n<tr>\n<th align=\"left\">-</th>\n<th align=\"right\">-</th>\n</tr>\n</thead>\n<tbody>\n<tr>\n<td align=\"left\">|</td>\n<td align=\"right\"></td>\n</tr>\n</tbody>\n</table>\n")
unfolding reading
e385 = refl

e386 : IsPrinted (codes "\\|\n\n| a | b |\n|-|:-:|\nx | y\n") (codes "<p>|</p>\n<table>\n<thead>\n<tr>\n<th>a</th>\n<th align=\"center\">b</th>\n</tr>\n</thead>\n<tbody>\n<tr>\n<td>x</td>\n<td align=\"center\">y</td>\n</tr>\n</tbody>\n</table>\n")
unfolding reading
e386 = refl

e387 : IsPrinted (codes "|:-|-:|\n> |\n\n\nx | y\n-|-\n*~~~") (codes "<p>|:-|-:|</p>\n<blockquote>\n<p>|</p>\n</blockquote>\n<table>\n<thead>\n<tr>\n<th>x</th>\n<th>y</th>\n</tr>\n</thead>\n<tbody>\n<tr>\n<td>*~~~</td>\n<td></td>\n</tr>\n</tbody>\n</table>\n")
unfolding reading
e387 = refl

e388 : IsPrinted (codes " :-:|-|-|\nx | y\n|:-|-:|\na**\nb") (codes "<p>:-:|-|-|</p>\n<table>\n<thead>\n<tr>\n<th align=\"left\">x</th>\n<th align=\"right\">y</th>\n</tr>\n</thead>\n<tbody>\n<tr>\n<td align=\"left\">a**</td>\n<td align=\"right\"></td>\n</tr>\n<tr>\n<td align=\"left\">b</td>\n<td align=\"right\"></td>\n</tr>\n</tbody>\n</table>\n")
unfolding reading
e388 = refl

e389 : IsPrinted (codes "*|-|-|\n*x | y\n|x | y\n|:-|-:|\n") (codes "<p>*|-|-|\n*x | y</p>\n<table>\n<thead>\n<tr>\n<th align=\"left\">x</th>\n<th align=\"right\">y</th>\n</tr>\n</thead>\n</table>\n")
unfolding reading
e389 = refl

e390 : IsPrinted (codes "b\n| a | b |\n|-|-|\n~~~|:-|-:|\n") (codes "<p>b</p>\n<table>\n<thead>\n<tr>\n<th>a</th>\n<th>b</th>\n</tr>\n</thead>\n</table>\n<pre><code class=\"language-|:-|-:|\"></code></pre>\n")
unfolding reading
e390 = refl

e391 : IsPrinted (codes "|:-|-:|\n-|-\n> \nx | y\n|:-|-:|\n") (codes "<table>\n<thead>\n<tr>\n<th>:-</th>\n<th>-:</th>\n</tr>\n</thead>\n</table>\n<blockquote>\n</blockquote>\n<table>\n<thead>\n<tr>\n<th align=\"left\">x</th>\n<th align=\"right\">y</th>\n</tr>\n</thead>\n</table>\n")
unfolding reading
e391 = refl

e392 : IsPrinted (codes "| a | b |\n|-|- |:-|-:|\n\n\n`\n|-|") (codes "<p>| a | b |\n|-|- |:-|-:|</p>\n<table>\n<thead>\n<tr>\n<th>`</th>\n</tr>\n</thead>\n</table>\n")
unfolding reading
e392 = refl

e393 : IsPrinted (codes "`x | y\n|-|-|\n x | y\nb |:-|-:|\n\n") (codes "<table>\n<thead>\n<tr>\n<th>`x</th>\n<th>y</th>\n</tr>\n</thead>\n<tbody>\n<tr>\n<td>x</td>\n<td>y</td>\n</tr>\n<tr>\n<td>b</td>\n<td>:-</td>\n</tr>\n</tbody>\n</table>\n")
unfolding reading
e393 = refl

e394 : IsPrinted (codes "x | y\n|:-|-:|\n~~~|-|-|\n\n> x | y\n") (codes "<table>\n<thead>\n<tr>\n<th align=\"left\">x</th>\n<th align=\"right\">y</th>\n</tr>\n</thead>\n</table>\n<pre><code class=\"language-|-|-|\">\n&gt; x | y\n</code></pre>\n")
unfolding reading
e394 = refl

e395 : IsPrinted (codes "|:-|-:|\n|-|-\n|-|-|\n|:-|-:|\n\n~~**|") (codes "<table>\n<thead>\n<tr>\n<th>:-</th>\n<th>-:</th>\n</tr>\n</thead>\n<tbody>\n<tr>\n<td>-</td>\n<td>-</td>\n</tr>\n<tr>\n<td>:-</td>\n<td>-:</td>\n</tr>\n</tbody>\n</table>\n<p>~~**|</p>\n")
unfolding reading
e395 = refl

e396 : IsPrinted (codes "**\nx | y\n|:-|-:|\nx | y\n|:-|-:|\n- \n") (codes "<p>**</p>\n<table>\n<thead>\n<tr>\n<th align=\"left\">x</th>\n<th align=\"right\">y</th>\n</tr>\n</thead>\n<tbody>\n<tr>\n<td align=\"left\">x</td>\n<td align=\"right\">y</td>\n</tr>\n<tr>\n<td align=\"left\">:-</td>\n<td align=\"right\">-:</td>\n</tr>\n</tbody>\n</table>\n<ul>\n<li></li>\n</ul>\n")
unfolding reading
e396 = refl

e397 : IsPrinted (codes "x | y\n|:-|-:|\n|:-|-:|\n\n\n| a | b |\n") (codes "<table>\n<thead>\n<tr>\n<th align=\"left\">x</th>\n<th align=\"right\">y</th>\n</tr>\n</thead>\n<tbody>\n<tr>\n<td align=\"left\">:-</td>\n<td align=\"right\">-:</td>\n</tr>\n</tbody>\n</table>\n<p>| a | b |</p>\n")
unfolding reading
e397 = refl

e398 : IsPrinted (codes "~~|-|-|\n| a | b |\n|-|-|\n**x | y\n\\|") (codes "<p>~~|-|-|</p>\n<table>\n<thead>\n<tr>\n<th>a</th>\n<th>b</th>\n</tr>\n</thead>\n<tbody>\n<tr>\n<td>**x</td>\n<td>y</td>\n</tr>\n<tr>\n<td>|</td>\n<td></td>\n</tr>\n</tbody>\n</table>\n")
unfolding reading
e398 = refl

e399 : IsPrinted (codes "\n\n|-|-|\n|:-|-:|\n\\|-|-\n~*|:-|-:|\n:-:") (codes "<table>\n<thead>\n<tr>\n<th align=\"left\">-</th>\n<th align=\"right\">-</th>\n</tr>\n</thead>\n<tbody>\n<tr>\n<td align=\"left\">|-</td>\n<td align=\"right\">-</td>\n</tr>\n<tr>\n<td align=\"left\">~*</td>\n<td align=\"right\">:-</td>\n</tr>\n<tr>\n<td align=\"left\">:-:</td>\n<td align=\"right\"></td>\n</tr>\n</tbody>\n</table>\n")
unfolding reading
e399 = refl

e400 : IsPrinted (codes "x | y\n-|-\n~~x | y\n-|-\n- b| a | b |\n") (codes "<table>\n<thead>\n<tr>\n<th>x</th>\n<th>y</th>\n</tr>\n</thead>\n<tbody>\n<tr>\n<td>~~x</td>\n<td>y</td>\n</tr>\n<tr>\n<td>-</td>\n<td>-</td>\n</tr>\n</tbody>\n</table>\n<ul>\n<li>b| a | b |</li>\n</ul>\n")
unfolding reading
e400 = refl

pub printed16 : ArePrinted16
printed16 = record { e376 = e376; e377 = e377; e378 = e378; e379 = e379; e380 = e380; e381 = e381; e382 = e382; e383 = e383; e384 = e384; e385 = e385; e386 = e386; e387 = e387; e388 = e388; e389 = e389; e390 = e390; e391 = e391; e392 = e392; e393 = e393; e394 = e394; e395 = e395; e396 = e396; e397 = e397; e398 = e398; e399 = e399; e400 = e400 }
