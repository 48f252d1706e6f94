use Rattle.std.proofs.Common.{◌≡◌, Ok, sym, subst, rules}
use Rattle.serde_json.specs.Data.{string}
use Rattle.mad_json.specs.Modes.{mode_said}
use Rattle.mad_json.specs.Written.{mode_text}
use Rattle.mad_json.proofs.ReadingBack.{mode_back}
use Rattle.mad_json.proofs.writing.mode_to_string.Goals as goal

pub returns-in-Hanging-clause-reads_back : goal.returns-in-Hanging-clause-reads_back
returns-in-Hanging-clause-reads_back c = subst (λ mode. mode_said (string (mode_text mode)) ≡ Ok mode) (sym c.in-Hanging.is) (mode_back c.in-Hanging.extra (search rules))
