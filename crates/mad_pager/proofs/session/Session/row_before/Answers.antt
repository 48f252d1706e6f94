use Rattle.std.proofs.Common.{ap, option_map, refl}
use Rattle.regex.specs.Strings.{regex_pattern}
use Rattle.mad_pager.specs.Sessions.{state_of}
use Rattle.mad_pager.proofs.StepLemmas.{row_before_none, row_before_some, same_previous}
use Rattle.mad_pager.proofs.session.Session.row_before.Goals as goal

pub returns-in_default : goal.returns-in_default
returns-in_default c = row_before_none (state_of c.args.self.now) _ _ c.pattern.ensures (ap (option_map (λ r. regex_pattern r.now)) c.in_default.is)

pub returns : goal.returns
returns c =
    row_before_some (state_of c.args.self.now) _ _ _ _ c.pattern.ensures (ap (option_map (λ r. regex_pattern r.now)) c.in-Some.is)
    (same_previous _ _ _ _ _ _ _ _ _ refl c.as_slice.ensures.value c.as_slice-2.ensures.value c.search_end-end.ensures c.in_ok-row.ensures)
