use Rattle.std.proofs.Common.{◌++◌, Option, List, ℕ, string_bytes, ap, append_assoc, ◌∙◌}
use Rattle.std.specs.Prelude.{codes}
use Rattle.mad_patterns.specs.declared.faults.Fault.{Fault}
use Rattle.mad_pager.specs.Screens.{reason}
use Rattle.mad_pager.proofs.session.Session.push_missing.Goals as goal

pub returns : goal.returns
returns c =
    let words = string_bytes c.args.words.now in
    c.in_ok-push_str-2.ensures.bytes
    ∙ (ap (λ (l : List ℕ). l ++ c.reason.result.now) c.in_ok-push_str.ensures.bytes
    ∙ (append_assoc words (codes "  ") c.reason.result.now ∙ (ap (λ (l : List ℕ). words ++ (codes "  " ++ l)) c.reason.ensures ∙ ap (λ (o : Option Fault). words ++ (codes "  " ++ reason o)) c.fault.ensures)))
