use Rattle.std.proofs.Common.{◌++◌, Bool, List, ℕ, string_bytes, sym, ap, ◌∙◌}
use Rattle.mad_pager.specs.Screens.{missing_words, sought_words}
use Rattle.mad_pager.specs.Sessions.{state_of}
use Rattle.mad_pager.proofs.StepLemmas.{said_missing}
use Rattle.mad_pager.proofs.session.Session.push_sought.Goals as goal

pub returns-then-self : goal.returns-then-self
returns-then-self c =
    let words = string_bytes c.args.words.now in
    let sought = c.as_str-sought.result.now in
    let back = c.args.self.now.is_backward in
    let fault = (state_of c.args.self.now).reading.fault in
    c.in_ok-push_missing.ensures
    ∙ (ap (λ (l : List ℕ). l ++ missing_words fault) (c.in_ok-push_str-2.ensures.bytes ∙ ap (λ (l : List ℕ). l ++ sought) (c.in_ok-push_str.ensures.bytes ∙ ap (λ (l : List ℕ). words ++ l) c.sign_of.ensures))
    ∙ (said_missing words sought fault back c.is_empty.result c.is_empty.ensures c.if-is_empty.false
    ∙ (ap (λ (missing : Bool). words ++ sought_words back missing fault sought) (sym c.if-self.true) ∙ ap (λ (l : List ℕ). words ++ sought_words back c.args.self.now.is_missing fault l) c.as_str-sought.ensures.value)))
