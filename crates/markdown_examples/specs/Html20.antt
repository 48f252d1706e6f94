-- Examples 476 to 485: each text with its html.
use Rattle.std.specs.Prelude.{codes}
use Rattle.markdown_as_html.specs.Prints.{IsPrinted}

pub record ArePrinted20 : Type 0 where
  pub e476 : IsPrinted (codes "####### a\n#b\n# c#\n# d #") (codes "<p>####### a\n#b</p>\n<h1>c#</h1>\n<h1>d</h1>\n")
  pub e477 : IsPrinted (codes "![a [b](c) d](e)") (codes "<p><img src=\"e\" alt=\"a b d\" /></p>\n")
  pub e478 : IsPrinted (codes "a_b_ _c_d _e_") (codes "<p>a_b_ _c_d <em>e</em></p>\n")
  pub e479 : IsPrinted (codes "[a](b 'c') [d](e (f)) [g](h (i (j)))") (codes "<p><a href=\"b\" title=\"c\">a</a> <a href=\"e\" title=\"f\">d</a> [g](h (i (j)))</p>\n")
  pub e480 : IsPrinted (codes "www. a") (codes "<p>www. a</p>\n")
  pub e481 : IsPrinted (codes "[a]:\n\n[a]") (codes "<p>[a]:</p>\n<p>[a]</p>\n")
  pub e482 : IsPrinted (codes "[b]: c \"d\" e\n\n[b]") (codes "<p>[b]: c &quot;d&quot; e</p>\n<p>[b]</p>\n")
  pub e483 : IsPrinted (codes "[a]: b\"c\"\n\n[a]") (codes "<p><a href=\"b%22c%22\">a</a></p>\n")
  pub e484 : IsPrinted (codes ">a\n>\tb\n\n>\n> c") (codes "<blockquote>\n<p>a\nb</p>\n</blockquote>\n<blockquote>\n<p>c</p>\n</blockquote>\n")
  pub e485 : IsPrinted (codes "<!doctype html>\n*a*") (codes "<!doctype html>\n<p><em>a</em></p>\n")
