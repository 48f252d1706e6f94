use Rattle.std.proofs.Common.{◌≡◌, true, sym, ◌∙◌, rules}
use Rattle.std.proofs.lemmas.Str.{IsUtf8-drop}
use Rattle.mad_measure.proofs.AsciiLemmas.{space_is}
use Rattle.mad_measure.proofs.tokens.space_at.Goals as goal

pub returns : goal.returns
returns c max =
    let on : c.is_lone_space.result ≡ true = search rules in
    space_is max _ _ _ c.requires.inside c.requires.border (IsUtf8-drop c.args.compound.src.now c.args.start (search rules) c.requires.border) (sym c.is_lone_space.ensures ∙ on) c.token_between.ensures
