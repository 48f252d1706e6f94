-- Examples 151 to 175, computed.
use Rattle.std.proofs.Common.{codes, refl}
use Rattle.markdown_as_html.specs.Prints.{IsPrinted}
use Rattle.markdown_as_html.proofs.Computing.{reading}
use Rattle.markdown_examples.specs.Html7.{ArePrinted7}

e151 : IsPrinted (codes "\n===\n1. ***![|# ") (codes "<p>===</p>\n<ol>\n<li>***![|#</li>\n</ol>\n")
unfolding reading
e151 = refl

e152 : IsPrinted (codes "\n|-|-|\n\n===\n\n](\n") (codes "<p>|-|-|</p>\n<p>===</p>\n<p>](</p>\n")
unfolding reading
e152 = refl

e153 : IsPrinted (codes "'\n\n===\n\\\n===\n<a>") (codes "<p>'</p>\n<h1>===\n\\</h1>\n<a>\n")
unfolding reading
e153 = refl

e154 : IsPrinted (codes "+ |-|<a>*[ ] 2) ") (codes "<ul>\n<li>|-|<a>*[ ] 2)</li>\n</ul>\n")
unfolding reading
e154 = refl

e155 : IsPrinted (codes "--><!---->```rs\n") (codes "<p>--&gt;<!---->```rs</p>\n")
unfolding reading
e155 = refl

e156 : IsPrinted (codes "2) *![\n\n- <!--<b") (codes "<ol start=\"2\">\n<li>*![</li>\n</ol>\n<ul>\n<li>\n<!--<b\n</li>\n</ul>\n")
unfolding reading
e156 = refl

e157 : IsPrinted (codes "<!--![```rs\n---(") (codes "<!--![```rs\n---(\n")
unfolding reading
e157 = refl

e158 : IsPrinted (codes "<!--*foo~!<!--**") (codes "<!--*foo~!<!--**\n")
unfolding reading
e158 = refl

e159 : IsPrinted (codes "<!--- \n===\n<div>") (codes "<!--- \n===\n<div>\n")
unfolding reading
e159 = refl

e160 : IsPrinted (codes "<a></a><b</a>(- ") (codes "<p><a></a>&lt;b</a>(-</p>\n")
unfolding reading
e160 = refl

e161 : IsPrinted (codes "<div>\n\nhttp://x<") (codes "<div>\n<p><a href=\"http://x\">http://x</a>&lt;</p>\n")
unfolding reading
e161 = refl

e162 : IsPrinted (codes "<div>](/u)(\t  |~") (codes "<div>](/u)(\t  |~\n")
unfolding reading
e162 = refl

e163 : IsPrinted (codes "> ## a\n===\n![> é") (codes "<blockquote>\n<h2>a</h2>\n</blockquote>\n<p>===\n![&gt; é</p>\n")
unfolding reading
e163 = refl

e164 : IsPrinted (codes "[ ] \n---\n><a>- |") (codes "<h2>[ ]</h2>\n<blockquote>\n<p><a>- |</p>\n</blockquote>\n")
unfolding reading
e164 = refl

e165 : IsPrinted (codes "[ ] ~~\n===\n*</a>") (codes "<h1>[ ] ~~</h1>\n<p>*</a></p>\n")
unfolding reading
e165 = refl

e166 : IsPrinted (codes "[a]: /u\n \n===\n> ") (codes "<p>===</p>\n<blockquote>\n</blockquote>\n")
unfolding reading
e166 = refl

e167 : IsPrinted (codes "[a]<div>> \n\n\n~~~") (codes "<p>[a]<div>&gt;</p>\n<pre><code></code></pre>\n")
unfolding reading
e167 = refl

e168 : IsPrinted (codes "]__<http://a>__[") (codes "<p>]<strong><a href=\"http://a\">http://a</a></strong>[</p>\n")
unfolding reading
e168 = refl

e169 : IsPrinted (codes "_<b\n~~~&#35;<b](") (codes "<p>_&lt;b</p>\n<pre><code class=\"language-#&lt;b](\"></code></pre>\n")
unfolding reading
e169 = refl

e170 : IsPrinted (codes "__&amp;]\"__<!--\t") (codes "<p><strong>&amp;]&quot;</strong>&lt;!--</p>\n")
unfolding reading
e170 = refl

e171 : IsPrinted (codes "_é    ---\n---\n![") (codes "<h2>_é    ---</h2>\n<p>![</p>\n")
unfolding reading
e171 = refl

e172 : IsPrinted (codes "\t_\n---\n~b # ](/u)") (codes "<pre><code>_\n</code></pre>\n<hr />\n<p>~b # ](/u)</p>\n")
unfolding reading
e172 = refl

e173 : IsPrinted (codes "![\n\n**é2) \n---\n> ") (codes "<p>![</p>\n<h2>**é2)</h2>\n<blockquote>\n</blockquote>\n")
unfolding reading
e173 = refl

e174 : IsPrinted (codes "'](\n\n_:\n|-|-|\n~~~") (codes "<p>'](</p>\n<p>_:\n|-|-|</p>\n<pre><code></code></pre>\n")
unfolding reading
e174 = refl

e175 : IsPrinted (codes "(---\n\n概```rs\n<!--") (codes "<p>(---</p>\n<p>概```rs</p>\n<!--\n")
unfolding reading
e175 = refl

pub printed7 : ArePrinted7
printed7 = record { e151 = e151; e152 = e152; e153 = e153; e154 = e154; e155 = e155; e156 = e156; e157 = e157; e158 = e158; e159 = e159; e160 = e160; e161 = e161; e162 = e162; e163 = e163; e164 = e164; e165 = e165; e166 = e166; e167 = e167; e168 = e168; e169 = e169; e170 = e170; e171 = e171; e172 = e172; e173 = e173; e174 = e174; e175 = e175 }
