use Rattle.std.proofs.Common.{◌≡◌, List, [], ◌∷◌, ◌++◌, subst, append_assoc}
use Rattle.std.specs.Result.{OnOk}
use Rattle.mad_style.specs.StyledChars.{char_alone, char_style}
use Rattle.mad_parse.specs.Written.{style_tokens, styled_char_tokens}
use Rattle.mad_parse.specs.declared.tokens.StyleToken.{StyleToken}
use Rattle.mad_parse.specs.declared.tokens.StyleToken.TheVariants.{Char}
use Rattle.mad_parse.proofs.written.push_styled_char.Goals as goal

pub returns-clause-tokens : goal.returns-clause-tokens
returns-clause-tokens c =
    let old = c.args.tokens.now.items in
    let both : c.push.new.self.items ++ style_tokens c.compound_style.result.now ≡ old ++ styled_char_tokens c.args.c =
    rw (c.in_ok-push.ensures.items, c.get_char.ensures, c.compound_style.ensures) (append_assoc old (Char (char_alone c.args.c) ∷ []) (style_tokens (char_style c.args.c))) in
    subst (λ (l : List StyleToken). OnOk c.push_style.result (c.push_style.new.tokens.items ≡ l)) both c.push_style.ensures.tokens
