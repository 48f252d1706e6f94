-- Examples 276 to 300, computed.
use Rattle.std.proofs.Common.{codes, refl}
use Rattle.markdown_as_html.specs.Prints.{IsPrinted}
use Rattle.markdown_as_html.proofs.Computing.{reading}
use Rattle.markdown_examples.specs.Html12.{ArePrinted12}

e276 : IsPrinted (codes "](/u)2) \"* \n|-|-|\n\n---\n]") (codes "<p>](/u)2) &quot;*\n|-|-|</p>\n<hr />\n<p>]</p>\n")
unfolding reading
e276 = refl

e277 : IsPrinted (codes "](/u)\\*</a>!['<http://a>") (codes "<p>](/u)*</a>!['<a href=\"http://a\">http://a</a></p>\n")
unfolding reading
e277 = refl

e278 : IsPrinted (codes "```rs\n<a>>](/u)---&#35;é") (codes "<pre><code class=\"language-rs\">&lt;a&gt;&gt;](/u)---&amp;#35;é\n</code></pre>\n")
unfolding reading
e278 = refl

e279 : IsPrinted (codes "http://x* [a]\n\n](/u)</a>") (codes "<p><a href=\"http://x\">http://x</a>* [a]</p>\n<p>](/u)</a></p>\n")
unfolding reading
e279 = refl

e280 : IsPrinted (codes "~  ``<div>\\[a]: /u\n\n===\n") (codes "<p>~  ``<div>[a]: /u</p>\n<p>===</p>\n")
unfolding reading
e280 = refl

e281 : IsPrinted (codes "~~\n\nb .**<div><http://a>") (codes "<p>~~</p>\n<p>b .**<div><a href=\"http://a\">http://a</a></p>\n")
unfolding reading
e281 = refl

e282 : IsPrinted (codes "概```rs\n<!--1. \n|-|-|\n>  ") (codes "<p>概```rs</p>\n<!--1. \n|-|-|\n>  \n")
unfolding reading
e282 = refl

e283 : IsPrinted (codes "\n===\n]<div>\n:<http://a>b ") (codes "<p>===\n]<div>\n:<a href=\"http://a\">http://a</a>b</p>\n")
unfolding reading
e283 = refl

e284 : IsPrinted (codes "+ # ``<http://a>\\\n---\n2) ") (codes "<ul>\n<li>\n<h1>``<a href=\"http://a\">http://a</a>\\</h1>\n</li>\n</ul>\n<hr />\n<ol start=\"2\">\n<li></li>\n</ol>\n")
unfolding reading
e284 = refl

e285 : IsPrinted (codes "1. <b</a>](&amp;[a]: /u\n|") (codes "<ol>\n<li>&lt;b</a>](&amp;[a]: /u\n|</li>\n</ol>\n")
unfolding reading
e285 = refl

e286 : IsPrinted (codes "2) ~\n---\n<!--  <http://a>") (codes "<ol start=\"2\">\n<li>~</li>\n</ol>\n<hr />\n<!--  <http://a>\n")
unfolding reading
e286 = refl

e287 : IsPrinted (codes "# <!--    ---[a]: /u\n# [a]") (codes "<h1>&lt;!--    ---[a]: /u</h1>\n<h1>[a]</h1>\n")
unfolding reading
e287 = refl

e288 : IsPrinted (codes "<!--    &amp;\n---\n|-|é</a>") (codes "<!--    &amp;\n---\n|-|é</a>\n")
unfolding reading
e288 = refl

e289 : IsPrinted (codes "<!--\"<http://a>é\n\n\n===\n## ") (codes "<!--\"<http://a>é\n\n\n===\n## \n")
unfolding reading
e289 = refl

e290 : IsPrinted (codes "<!--<http://a>[ ] ```rs\n<b") (codes "<!--<http://a>[ ] ```rs\n<b\n")
unfolding reading
e290 = refl

e291 : IsPrinted (codes "</a>)\n===\n\n===\n<http://a>!") (codes "<h1></a>)</h1>\n<p>===\n<a href=\"http://a\">http://a</a>!</p>\n")
unfolding reading
e291 = refl

e292 : IsPrinted (codes "</a><div>“[a]: /u\n|](\n---\n") (codes "<h2></a><div>“[a]: /u\n|](</h2>\n")
unfolding reading
e292 = refl

e293 : IsPrinted (codes "<div>```rs\n!:[a]: /u\n<a>- ") (codes "<div>```rs\n!:[a]: /u\n<a>- \n")
unfolding reading
e293 = refl

e294 : IsPrinted (codes "===[<http://a>```<a>\"\n---\n") (codes "<h2>===[<a href=\"http://a\">http://a</a>```<a>&quot;</h2>\n")
unfolding reading
e294 = refl

e295 : IsPrinted (codes "<b    >  >\n|-|-|\n<http://a>") (codes "<p><b    >  &gt;\n|-|-|\n<a href=\"http://a\">http://a</a></p>\n")
unfolding reading
e295 = refl

e296 : IsPrinted (codes "\n\n|-|-|\n**[a]: /u\n\n|-|-|\n+ “") (codes "<p>|-|-|\n**[a]: /u</p>\n<p>|-|-|</p>\n<ul>\n<li>“</li>\n</ul>\n")
unfolding reading
e296 = refl

e297 : IsPrinted (codes "\n---\n<http://a>\n---\n`|-|[ ] ") (codes "<hr />\n<h2><a href=\"http://a\">http://a</a></h2>\n<p>`|-|[ ]</p>\n")
unfolding reading
e297 = refl

e298 : IsPrinted (codes "1. <a>概<http://a><http://x![") (codes "<ol>\n<li><a>概<a href=\"http://a\">http://a</a>&lt;<a href=\"http://x!%5B\">http://x![</a></li>\n</ol>\n")
unfolding reading
e298 = refl

e299 : IsPrinted (codes "<!--===```* \n===\n\t<http://a>") (codes "<!--===```* \n===\n\t<http://a>\n")
unfolding reading
e299 = refl

e300 : IsPrinted (codes "===\n|-|-|\n+ :> <http://a>~~~") (codes "<p>===\n|-|-|</p>\n<ul>\n<li>:&gt; <a href=\"http://a\">http://a</a>~~~</li>\n</ul>\n")
unfolding reading
e300 = refl

pub printed12 : ArePrinted12
printed12 = record { e276 = e276; e277 = e277; e278 = e278; e279 = e279; e280 = e280; e281 = e281; e282 = e282; e283 = e283; e284 = e284; e285 = e285; e286 = e286; e287 = e287; e288 = e288; e289 = e289; e290 = e290; e291 = e291; e292 = e292; e293 = e293; e294 = e294; e295 = e295; e296 = e296; e297 = e297; e298 = e298; e299 = e299; e300 = e300 }
