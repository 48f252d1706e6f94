-- What holds of the options that there are.
use Rattle.std.proofs.Common.{◌≡◌, true, refl}
use Rattle.clap.proofs.OnLiterals.{clap_on_literals}
use Rattle.clap.specs.Words.{is_simple, is_simple_and_free}
use Rattle.termimad_options.specs.Rules.{termimad_rules}

pub rules_are_simple : is_simple termimad_rules ≡ true
unfolding termimad_rules
rules_are_simple = refl

-- and none of them has a rule on another
pub rules_are_free : is_simple_and_free termimad_rules ≡ true
unfolding clap_on_literals termimad_rules
rules_are_free = refl
