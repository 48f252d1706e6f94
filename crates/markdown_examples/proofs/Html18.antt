-- Examples 426 to 450, computed.
use Rattle.std.proofs.Common.{codes, refl}
use Rattle.markdown_as_html.specs.Prints.{IsPrinted}
use Rattle.markdown_as_html.proofs.Computing.{reading}
use Rattle.markdown_examples.specs.Html18.{ArePrinted18}

e426 : IsPrinted (codes ">>>>>>>>>>>>>>>>>>>>>>>>>>>>>>>>>>>>>>>>>>>>>>>>>>>>>>>>>>>>>>>> a") (codes "<blockquote>\n<blockquote>\n<blockquote>\n<blockquote>\n<blockquote>\n<blockquote>\n<blockquote>\n<blockquote>\n<blockquote>\n<blockquote>\n<blockquote>\n<blockquote>\n<blockquote>\n<blockquote>\n<blockquote>\n<blockquote>\n<blockquote>\n<blockquote>\n<blockquote>\n<blockquote>\n<blockquote>\n<blockquote>\n<blockquote>\n<blockquote>\n<blockquote>\n<blockquote>\n<blockquote>\n<blockquote>\n<blockquote>\n<blockquote>\n<blockquote>\n<blockquote>\n<blockquote>\n<blockquote>\n<blockquote>\n<blockquote>\n<blockquote>\n<blockquote>\n<blockquote>\n<blockquote>\n<blockquote>\n<blockquote>\n<blockquote>\n<blockquote>\n<blockquote>\n<blockquote>\n<blockquote>\n<blockquote>\n<blockquote>\n<blockquote>\n<blockquote>\n<blockquote>\n<blockquote>\n<blockquote>\n<blockquote>\n<blockquote>\n<blockquote>\n<blockquote>\n<blockquote>\n<blockquote>\n<blockquote>\n<blockquote>\n<blockquote>\n<blockquote>\n<p>a</p>\n</blockquote>\n</blockquote>\n</blockquote>\n</blockquote>\n</blockquote>\n</blockquote>\n</blockquote>\n</blockquote>\n</blockquote>\n</blockquote>\n</blockquote>\n</blockquote>\n</blockquote>\n</blockquote>\n</blockquote>\n</blockquote>\n</blockquote>\n</blockquote>\n</blockquote>\n</blockquote>\n</blockquote>\n</blockquote>\n</blockquote>\n</blockquote>\n</blockquote>\n</blockquote>\n</blockquote>\n</blockquote>\n</blockquote>\n</blockquote>\n</blockquote>\n</blockquote>\n</blockquote>\n</blockquote>\n</blockquote>\n</blockquote>\n</blockquote>\n</blockquote>\n</blockquote>\n</blockquote>\n</blockquote>\n</blockquote>\n</blockquote>\n</blockquote>\n</blockquote>\n</blockquote>\n</blockquote>\n</blockquote>\n</blockquote>\n</blockquote>\n</blockquote>\n</blockquote>\n</blockquote>\n</blockquote>\n</blockquote>\n</blockquote>\n</blockquote>\n</blockquote>\n</blockquote>\n</blockquote>\n</blockquote>\n</blockquote>\n</blockquote>\n</blockquote>\n")
unfolding reading
e426 = refl

e427 : IsPrinted (codes "a\r\nb\r# c\r\n\r\nd") (codes "<p>a\nb</p>\n<h1>c</h1>\n<p>d</p>\n")
unfolding reading
e427 = refl

e428 : IsPrinted (codes "<aaaaaaaaaaaaaaaaaaaaaaaaaaaaaaaa:b>") (codes "<p><a href=\"aaaaaaaaaaaaaaaaaaaaaaaaaaaaaaaa:b\">aaaaaaaaaaaaaaaaaaaaaaaaaaaaaaaa:b</a></p>\n")
unfolding reading
e428 = refl

e429 : IsPrinted (codes "<aaaaaaaaaaaaaaaaaaaaaaaaaaaaaaaaa:b>") (codes "<p>&lt;aaaaaaaaaaaaaaaaaaaaaaaaaaaaaaaaa:b&gt;</p>\n")
unfolding reading
e429 = refl

e430 : IsPrinted (codes "- [ ] a\n- [x] b\n  c\n- [X]\td\n- [x]  e") (codes "<ul>\n<li>[ ] a</li>\n<li>[x] b\nc</li>\n<li>[X]\td</li>\n<li>[x]  e</li>\n</ul>\n")
unfolding reading
e430 = refl

e431 : IsPrinted (codes "- [x]a\n- [x]\n- [x]\n  b\n- [x] \n  c") (codes "<ul>\n<li>[x]a</li>\n<li>[x]</li>\n<li>[x]\nb</li>\n<li>[x]\nc</li>\n</ul>\n")
unfolding reading
e431 = refl

e432 : IsPrinted (codes "1. [x] a\n\n[x] b") (codes "<ol>\n<li>[x] a</li>\n</ol>\n<p>[x] b</p>\n")
unfolding reading
e432 = refl

e433 : IsPrinted (codes "- a\n\n  [x] b\n\n- - [ ] c\n  - > [x] d") (codes "<ul>\n<li>\n<p>a</p>\n<p>[x] b</p>\n</li>\n<li>\n<ul>\n<li>[ ] c</li>\n<li>\n<blockquote>\n<p>[x] d</p>\n</blockquote>\n</li>\n</ul>\n</li>\n</ul>\n")
unfolding reading
e433 = refl

e434 : IsPrinted (codes "- [x] <!-- c -->\n- # [x] a\n- \\[x] b") (codes "<ul>\n<li>[x] <!-- c --></li>\n<li>\n<h1>[x] a</h1>\n</li>\n<li>[x] b</li>\n</ul>\n")
unfolding reading
e434 = refl

e435 : IsPrinted (codes "- [x] [b]\n\n[b]: /u\n[x]: /v") (codes "<ul>\n<li><a href=\"/v\">x</a> <a href=\"/u\">b</a></li>\n</ul>\n")
unfolding reading
e435 = refl

e436 : IsPrinted (codes "> [!NOTE]\n> a\n> [b](/u)\n\n> [!tip]  \n> c\n\n[!note]: /v") (codes "<blockquote>\n<p><a href=\"/v\">!NOTE</a>\na\n<a href=\"/u\">b</a></p>\n</blockquote>\n<blockquote>\n<p>[!tip]<br />\nc</p>\n</blockquote>\n")
unfolding reading
e436 = refl

e437 : IsPrinted (codes "> [!Important]\n\n> [!WARNING] a") (codes "<blockquote>\n<p>[!Important]</p>\n</blockquote>\n<blockquote>\n<p>[!WARNING] a</p>\n</blockquote>\n")
unfolding reading
e437 = refl

e438 : IsPrinted (codes "> a\n>\n> [!NOTE]") (codes "<blockquote>\n<p>a</p>\n<p>[!NOTE]</p>\n</blockquote>\n")
unfolding reading
e438 = refl

e439 : IsPrinted (codes "> [!CAUTION]\n>\n> a\n\n- [!NOTE]\n  b") (codes "<blockquote>\n<p>[!CAUTION]</p>\n<p>a</p>\n</blockquote>\n<ul>\n<li>[!NOTE]\nb</li>\n</ul>\n")
unfolding reading
e439 = refl

e440 : IsPrinted (codes "- > [!WARNING]\n  > a\n  >\n  > b\n\n[!NOTE]") (codes "<ul>\n<li>\n<blockquote>\n<p>[!WARNING]\na</p>\n<p>b</p>\n</blockquote>\n</li>\n</ul>\n<p>[!NOTE]</p>\n")
unfolding reading
e440 = refl

e441 : IsPrinted (codes "1. a\n1. b\n\n   4. c\n   4. d\n1. e") (codes "<ol>\n<li>\n<p>a</p>\n</li>\n<li>\n<p>b</p>\n<ol start=\"4\">\n<li>c</li>\n<li>d</li>\n</ol>\n</li>\n<li>\n<p>e</p>\n</li>\n</ol>\n")
unfolding reading
e441 = refl

e442 : IsPrinted (codes "1. a\n9) b\n9) c") (codes "<ol>\n<li>a</li>\n</ol>\n<ol start=\"9\">\n<li>b</li>\n<li>c</li>\n</ol>\n")
unfolding reading
e442 = refl

e443 : IsPrinted (codes "1. a\n\n[x]: y\n\n1. b\n<!-- c -->\n1. d") (codes "<ol>\n<li>a</li>\n</ol>\n<ol>\n<li>b</li>\n</ol>\n<!-- c -->\n<ol>\n<li>d</li>\n</ol>\n")
unfolding reading
e443 = refl

e444 : IsPrinted (codes "1. a\n>\n1. b\n- c\n1. d") (codes "<ol>\n<li>a</li>\n</ol>\n<blockquote>\n</blockquote>\n<ol>\n<li>b</li>\n</ol>\n<ul>\n<li>c</li>\n</ul>\n<ol>\n<li>d</li>\n</ol>\n")
unfolding reading
e444 = refl

e445 : IsPrinted (codes "- a\n\n  b\n\n> - c\n>\n>   d") (codes "<ul>\n<li>\n<p>a</p>\n<p>b</p>\n</li>\n</ul>\n<blockquote>\n<ul>\n<li>\n<p>c</p>\n<p>d</p>\n</li>\n</ul>\n</blockquote>\n")
unfolding reading
e445 = refl

e446 : IsPrinted (codes "> > a\n>\n> > b\n\n> > c\n> >\n> > d") (codes "<blockquote>\n<blockquote>\n<p>a</p>\n</blockquote>\n<blockquote>\n<p>b</p>\n</blockquote>\n</blockquote>\n<blockquote>\n<blockquote>\n<p>c</p>\n<p>d</p>\n</blockquote>\n</blockquote>\n")
unfolding reading
e446 = refl

e447 : IsPrinted (codes "- > a\n  >\n  > b\n\n- c\n-\n\n  d\n```\ne\n```\nf") (codes "<ul>\n<li>\n<blockquote>\n<p>a</p>\n<p>b</p>\n</blockquote>\n</li>\n<li>\n<p>c</p>\n</li>\n<li></li>\n</ul>\n<p>d</p>\n<pre><code>e\n</code></pre>\n<p>f</p>\n")
unfolding reading
e447 = refl

e448 : IsPrinted (codes "-\n\n\n- a\n-\n\nb") (codes "<ul>\n<li></li>\n<li>\n<p>a</p>\n</li>\n<li></li>\n</ul>\n<p>b</p>\n")
unfolding reading
e448 = refl

e449 : IsPrinted (codes "> | [a](/u) | b |\n> |-|:-:|\n> | c | <http://x> |\n\n> - | d |\n>   |-|") (codes "<blockquote>\n<table>\n<thead>\n<tr>\n<th><a href=\"/u\">a</a></th>\n<th align=\"center\">b</th>\n</tr>\n</thead>\n<tbody>\n<tr>\n<td>c</td>\n<td align=\"center\"><a href=\"http://x\">http://x</a></td>\n</tr>\n</tbody>\n</table>\n</blockquote>\n<blockquote>\n<ul>\n<li>\n<table>\n<thead>\n<tr>\n<th>d</th>\n</tr>\n</thead>\n</table>\n</li>\n</ul>\n</blockquote>\n")
unfolding reading
e449 = refl

e450 : IsPrinted (codes "-\n  <!-- a -->\n\n  <!-- b -->\n- c") (codes "<ul>\n<li>\n<!-- a -->\n<!-- b -->\n</li>\n<li>\n<p>c</p>\n</li>\n</ul>\n")
unfolding reading
e450 = refl

pub printed18 : ArePrinted18
printed18 = record { e426 = e426; e427 = e427; e428 = e428; e429 = e429; e430 = e430; e431 = e431; e432 = e432; e433 = e433; e434 = e434; e435 = e435; e436 = e436; e437 = e437; e438 = e438; e439 = e439; e440 = e440; e441 = e441; e442 = e442; e443 = e443; e444 = e444; e445 = e445; e446 = e446; e447 = e447; e448 = e448; e449 = e449; e450 = e450 }
