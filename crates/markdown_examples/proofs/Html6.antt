-- Examples 126 to 150, computed.
use Rattle.std.proofs.Common.{codes, refl}
use Rattle.markdown_as_html.specs.Prints.{IsPrinted}
use Rattle.markdown_as_html.proofs.Computing.{reading}
use Rattle.markdown_examples.specs.Html6.{ArePrinted6}

e126 : IsPrinted (codes "<!--<http://a>") (codes "<!--<http://a>\n")
unfolding reading
e126 = refl

e127 : IsPrinted (codes "<!--__2) <div>") (codes "<!--__2) <div>\n")
unfolding reading
e127 = refl

e128 : IsPrinted (codes "</a>](/u)</a>'") (codes "<p></a>](/u)</a>'</p>\n")
unfolding reading
e128 = refl

e129 : IsPrinted (codes "</a>é\\\n<!-->**") (codes "<p></a>é\\</p>\n<!-->**\n")
unfolding reading
e129 = refl

e130 : IsPrinted (codes "[) .\n---\n<div>") (codes "<h2>[) .</h2>\n<div>\n")
unfolding reading
e130 = refl

e131 : IsPrinted (codes "_<a>\"  __<div>") (codes "<p>_<a>&quot;  __<div></p>\n")
unfolding reading
e131 = refl

e132 : IsPrinted (codes "__“\n<div>-->[~") (codes "<p>__“</p>\n<div>-->[~\n")
unfolding reading
e132 = refl

e133 : IsPrinted (codes "概>\n|-|-|\n\n\n2) ") (codes "<p>概&gt;\n|-|-|</p>\n<ol start=\"2\">\n<li></li>\n</ol>\n")
unfolding reading
e133 = refl

e134 : IsPrinted (codes "\t![é[a]: /u\n<a>") (codes "<pre><code>![é[a]: /u\n</code></pre>\n<a>\n")
unfolding reading
e134 = refl

e135 : IsPrinted (codes "\n---\n- \\*\\*<a>|") (codes "<hr />\n<ul>\n<li>**<a>|</li>\n</ul>\n")
unfolding reading
e135 = refl

e136 : IsPrinted (codes "\n---\nb ---<a>::") (codes "<hr />\n<p>b ---<a>::</p>\n")
unfolding reading
e136 = refl

e137 : IsPrinted (codes "!\n|-|-|\n> _:![_") (codes "<p>!\n|-|-|</p>\n<blockquote>\n<p><em>:![</em></p>\n</blockquote>\n")
unfolding reading
e137 = refl

e138 : IsPrinted (codes "* '## ===</a>!|") (codes "<ul>\n<li>'## ===</a>!|</li>\n</ul>\n")
unfolding reading
e138 = refl

e139 : IsPrinted (codes "* ](/u)\\\n    __") (codes "<ul>\n<li>](/u)<br />\n__</li>\n</ul>\n")
unfolding reading
e139 = refl

e140 : IsPrinted (codes "---\n.![](/u):\\*") (codes "<hr />\n<p>.<img src=\"/u\" alt=\"\" />:*</p>\n")
unfolding reading
e140 = refl

e141 : IsPrinted (codes "1. \n'&#35;\n---\n") (codes "<ol>\n<li></li>\n</ol>\n<h2>'#</h2>\n")
unfolding reading
e141 = refl

e142 : IsPrinted (codes "1. <</a>* `</a>") (codes "<ol>\n<li>&lt;</a>* `</a></li>\n</ol>\n")
unfolding reading
e142 = refl

e143 : IsPrinted (codes "1. <b\n---\nfoo\\*") (codes "<ol>\n<li>&lt;b</li>\n</ol>\n<hr />\n<p>foo*</p>\n")
unfolding reading
e143 = refl

e144 : IsPrinted (codes "<!--<!--- ~~é\\*") (codes "<!--<!--- ~~é\\*\n")
unfolding reading
e144 = refl

e145 : IsPrinted (codes "<!--<div>a<div>") (codes "<!--<div>a<div>\n")
unfolding reading
e145 = refl

e146 : IsPrinted (codes "</a>\n---\n:\"\\*``") (codes "</a>\n---\n:\"\\*``\n")
unfolding reading
e146 = refl

e147 : IsPrinted (codes "<a>## <a><a>~!!") (codes "<p><a>## <a><a>~!!</p>\n")
unfolding reading
e147 = refl

e148 : IsPrinted (codes "<b> foo|*``</a>") (codes "<p><b> foo|*``</a></p>\n")
unfolding reading
e148 = refl

e149 : IsPrinted (codes "<div>## _[ ] \n\n") (codes "<div>## _[ ] \n")
unfolding reading
e149 = refl

e150 : IsPrinted (codes "> **~~~\n---\n**!") (codes "<blockquote>\n<p>**~~~</p>\n</blockquote>\n<hr />\n<p>**!</p>\n")
unfolding reading
e150 = refl

pub printed6 : ArePrinted6
printed6 = record { e126 = e126; e127 = e127; e128 = e128; e129 = e129; e130 = e130; e131 = e131; e132 = e132; e133 = e133; e134 = e134; e135 = e135; e136 = e136; e137 = e137; e138 = e138; e139 = e139; e140 = e140; e141 = e141; e142 = e142; e143 = e143; e144 = e144; e145 = e145; e146 = e146; e147 = e147; e148 = e148; e149 = e149; e150 = e150 }
