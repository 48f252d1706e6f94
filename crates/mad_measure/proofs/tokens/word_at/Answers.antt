use Rattle.std.proofs.Common.{◌≡◌, ℕ, ◌<◌, ◌+◌, true, sym, ap, ◌∙◌, arith, rules, drop, Option, Some, None, IfSome}
use Rattle.std.proofs.lemmas.Str.{IsUtf8-drop}
use Rattle.std.proofs.lemmas.List.{length-drop, get_or-drop}
use Rattle.mad_md.specs.Flagged.{flags_of}
use Rattle.std.specs.Char.{is_ascii_graphic}
use Rattle.mad_measure.specs.Ascii.{is_end_of_word}
use Rattle.mad_md.specs.declared.compound.Compound.{Compound}
use Rattle.mad_measure.specs.Tokens.{IsTokenAt}
use Rattle.mad_measure.specs.declared.tokens.Token.{Token}
use Rattle.mad_measure.proofs.AsciiLemmas.{graphic_front, word_is}
use Rattle.mad_measure.proofs.tokens.word_at.Goals as goal

at_limit : (max start : ℕ) (p : Compound) (r : Option Token) → IfSome r (λ t. (max : ℕ) → IsTokenAt max p start t) → IfSome r (λ t. IsTokenAt max p start t)
at_limit max start p None h = tt
at_limit max start p (Some t) h = h max

pub returns-then-width-eq0 : goal.returns-then-width-eq0
returns-then-width-eq0 c = at_limit _ _ _ _ c.space_at.ensures

pub returns : goal.returns
returns c =
    let bs = c.args.compound.src.now in
    let front = graphic_front c.args.max (flags_of c.args.compound) (drop c.args.start bs) c.graphic_at-width.result (IsUtf8-drop bs c.args.start (search rules) c.requires.border)
    (omega (arith, c.graphic_at-width.ensures.inside, length-drop c.args.start bs)) c.graphic_at-width.ensures.within
    (λ k l. ap is_ascii_graphic (get_or-drop c.args.start bs k 0) ∙ c.graphic_at-width.ensures.graphic k l) in
    let on : c.is_end_of_word.result ≡ true = search rules in
    let some : 0 < c.graphic_at-width.result = omega arith in
    let ends : is_end_of_word c.args.compound.code bs (c.args.start + c.graphic_at-width.result) ≡ true = sym c.is_end_of_word.ensures ∙ on in
    word_is _ _ _ _ _ (omega (arith, c.requires.inside)) c.requires.border some front ends c.token_between.ensures
