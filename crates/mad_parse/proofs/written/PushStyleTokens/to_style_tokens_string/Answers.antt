use Rattle.std.proofs.Common.{◌∙◌, ap, subst, sym}
use Rattle.std.proofs.lemmas.Result.{IfOk-weaker}
use Rattle.mad_parse.specs.Written.{tokens_text}
use Rattle.mad_parse.proofs.ReadingBack.{pushed}
use Rattle.mad_parse.proofs.written.PushStyleTokens.to_style_tokens_string.Goals as goal

pub returns-clause-reads_back : goal.returns-clause-reads_back
returns-clause-reads_back g c =
    let tokens = c.deref.ensures.value ∙ pushed _ _ _ c.in_ok-push_style_tokens.ensures.tokens c.new-tokens.ensures.items in
    IfOk-weaker _ _ _ (λ text is. subst (g.Self.PushStyleTokens.reads_back c.args.self.now) (sym (is ∙ ap tokens_text tokens)) c.push_style_tokens.ensures.reads_back) c.style_tokens_to_string.ensures
