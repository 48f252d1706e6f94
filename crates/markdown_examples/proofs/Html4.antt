-- Examples 76 to 100, computed.
use Rattle.std.proofs.Common.{codes, refl}
use Rattle.markdown_as_html.specs.Prints.{IsPrinted}
use Rattle.markdown_as_html.proofs.Computing.{reading}
use Rattle.markdown_examples.specs.Html4.{ArePrinted4}

e76 : IsPrinted (codes "- -   \n===\n") (codes "<ul>\n<li>\n<ul>\n<li></li>\n</ul>\n</li>\n</ul>\n<p>===</p>\n")
unfolding reading
e76 = refl

e77 : IsPrinted (codes "<!--\t\\+ [a]") (codes "<!--\t\\+ [a]\n")
unfolding reading
e77 = refl

e78 : IsPrinted (codes "<!--    [* ") (codes "<!--    [* \n")
unfolding reading
e78 = refl

e79 : IsPrinted (codes "<!--<!--\t\\*") (codes "<!--<!--\t\\*\n")
unfolding reading
e79 = refl

e80 : IsPrinted (codes "<!--|*.[ ] ") (codes "<!--|*.[ ] \n")
unfolding reading
e80 = refl

e81 : IsPrinted (codes "<!--|-|[ ] ") (codes "<!--|-|[ ] \n")
unfolding reading
e81 = refl

e82 : IsPrinted (codes "</a>\n|-|-|\n") (codes "</a>\n|-|-|\n")
unfolding reading
e82 = refl

e83 : IsPrinted (codes "<div>*\n---\n") (codes "<div>*\n---\n")
unfolding reading
e83 = refl

e84 : IsPrinted (codes "<div>b b - ") (codes "<div>b b - \n")
unfolding reading
e84 = refl

e85 : IsPrinted (codes "> )```'``]:") (codes "<blockquote>\n<p>)```'``]:</p>\n</blockquote>\n")
unfolding reading
e85 = refl

e86 : IsPrinted (codes "><!--<b\\*> ") (codes "<blockquote>\n<!--<b\\*> \n</blockquote>\n")
unfolding reading
e86 = refl

e87 : IsPrinted (codes ">~\n \n|-|-|\n") (codes "<blockquote>\n<p>~</p>\n</blockquote>\n<p>|-|-|</p>\n")
unfolding reading
e87 = refl

e88 : IsPrinted (codes "|-|<a>!\n\n[[") (codes "<p>|-|<a>!</p>\n<p>[[</p>\n")
unfolding reading
e88 = refl

e89 : IsPrinted (codes "\n|-|-|\n## é'") (codes "<p>|-|-|</p>\n<h2>é'</h2>\n")
unfolding reading
e89 = refl

e90 : IsPrinted (codes "\n|-|-|\n<div>") (codes "<p>|-|-|</p>\n<div>\n")
unfolding reading
e90 = refl

e91 : IsPrinted (codes "*  ```rs\n___") (codes "<ul>\n<li>\n<pre><code class=\"language-rs\"></code></pre>\n</li>\n</ul>\n<hr />\n")
unfolding reading
e91 = refl

e92 : IsPrinted (codes "+ >   \t\n===\n") (codes "<ul>\n<li>\n<blockquote>\n</blockquote>\n</li>\n</ul>\n<p>===</p>\n")
unfolding reading
e92 = refl

e93 : IsPrinted (codes "1. **\"<div>\n") (codes "<ol>\n<li>**&quot;<div></li>\n</ol>\n")
unfolding reading
e93 = refl

e94 : IsPrinted (codes "2) ```rs\n## ") (codes "<ol start=\"2\">\n<li>\n<pre><code class=\"language-rs\"></code></pre>\n</li>\n</ol>\n<h2></h2>\n")
unfolding reading
e94 = refl

e95 : IsPrinted (codes "<!--http://x") (codes "<!--http://x\n")
unfolding reading
e95 = refl

e96 : IsPrinted (codes "</a>-->>_é_~") (codes "<p></a>--&gt;&gt;<em>é</em>~</p>\n")
unfolding reading
e96 = refl

e97 : IsPrinted (codes "<a>\n===\n`b )") (codes "<a>\n===\n`b )\n")
unfolding reading
e97 = refl

e98 : IsPrinted (codes ">\n---\n\n===\n\n") (codes "<blockquote>\n</blockquote>\n<hr />\n<p>===</p>\n")
unfolding reading
e98 = refl

e99 : IsPrinted (codes "> ```\n===\n``") (codes "<blockquote>\n<pre><code></code></pre>\n</blockquote>\n<p>===\n``</p>\n")
unfolding reading
e99 = refl

e100 : IsPrinted (codes ">~~~概\"\n---\n|") (codes "<blockquote>\n<pre><code class=\"language-概&quot;\"></code></pre>\n</blockquote>\n<hr />\n<p>|</p>\n")
unfolding reading
e100 = refl

pub printed4 : ArePrinted4
printed4 = record { e76 = e76; e77 = e77; e78 = e78; e79 = e79; e80 = e80; e81 = e81; e82 = e82; e83 = e83; e84 = e84; e85 = e85; e86 = e86; e87 = e87; e88 = e88; e89 = e89; e90 = e90; e91 = e91; e92 = e92; e93 = e93; e94 = e94; e95 = e95; e96 = e96; e97 = e97; e98 = e98; e99 = e99; e100 = e100 }
