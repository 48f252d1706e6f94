use Rattle.std.proofs.Common.{ap, ◌∙◌, arith}
use Rattle.code_colors.specs.Tokens.{innermost, token_at}
use Rattle.code_colors.proofs.PassLemmas.{split_first, token_on}
use Rattle.code_colors.proofs.tokens.tokens_of.Goals as goal

pub loop-rest-preserved : goal.loop-rest-preserved
loop-rest-preserved c =
    let at = c.loop-rest in
    record {
      left = token_on c.args.language at.modes.items c.turn_mode.new.modes.items at.before c.token_passed-before.result at.tokens.items c.push-in-len1-up.new.self.items _ at.rest.now _ c.tail-rest.result.now c.token_in-taken.result _
          (split_first at.rest.now (omega (arith, c.in-len1-up.len_at_least)))
          (c.token_in-taken.ensures.value ∙ ap (λ n. token_at c.args.language n at.before at.rest.now) (c.innermost.ensures ∙ ap innermost c.deref.ensures.value)) c.in_ok-push-2.ensures.items c.in_ok-turn_mode.ensures.modes c.token_passed-before.ensures c.tail-rest.ensures at.invariant.left;
      words = c.in_ok-turn_mode.ensures.words;
      rules = c.in_ok-turn_mode.ensures.rules;
    }
