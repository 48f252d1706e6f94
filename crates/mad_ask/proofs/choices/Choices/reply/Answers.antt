use Rattle.std.proofs.Common.{◌≡◌, ◌∙◌, ℕ, List, ap, refl, subst, sym}
use Rattle.std.specs.Str.{trim_end}
use Rattle.mad_term.specs.Trace.{CutShort, after}
use Rattle.mad_ask.specs.declared.ask_error.AskError.TheVariants.{IO}
use Rattle.mad_ask.specs.Deciding.{Answered, Undecided, complaint, line_decides, not_understood, text_decides}
use Rattle.mad_ask.specs.Offers.{offered_by}
use Rattle.mad_ask.specs.Replies.{ReplyFails}
use Rattle.mad_ask.proofs.DecidingLemmas.{line_of_no_text, line_of_text, refused_exit}
use Rattle.mad_ask.proofs.choices.Choices.reply.Goals as goal

pub returns-in_default : goal.returns-in_default
returns-in_default g c = (line_of_no_text (offered_by c.args.self.now) c.args.line.now c.in_default.ensures.cases.0, refl)

pub returns-in-Some : goal.returns-in-Some
returns-in-Some g c =
    let offered = offered_by c.args.self.now in
    let same : trim_end c.args.line.now ≡ c.trim_end-text.result.now = ap trim_end (sym c.in-Ok.ensures.cases.0) ∙ sym c.trim_end-text.ensures.trim in
    (line_of_text offered c.args.line.now c.in-Ok.ensures.cases.1 ∙ ap (text_decides offered offered.default) same ∙ c.in-Some.ensures ∙ ap Answered (sym c.in_ok-from_str.ensures.ok), refl)

pub returns-in_err-put_all : goal.returns-in_err-put_all
returns-in_err-put_all g c =
    let offered = offered_by c.args.self.now in
    let line = c.args.line.now in
    let same : trim_end line ≡ c.trim_end-text.result.now = ap trim_end (sym c.in-Ok.ensures.cases.0) ∙ sym c.trim_end-text.ensures.trim in
    let undecided : line_decides offered line ≡ Undecided = line_of_text offered line c.in-Ok.ensures.cases.1 ∙ ap (text_decides offered offered.default) same ∙ c.in_default-decide.ensures in
    let said : c.as_bytes.result.now ≡ complaint line = c.as_bytes.ensures.value ∙ c.in_ok-complaint.ensures.ok ∙ ap not_understood (sym same) in
    refused_exit c.from_residual-in_err-put_all.result (IO c.in_err-put_all.field-0.0) _ (λ e. ReplyFails offered line (g.O.Out.seen c.args.writer.now) e (g.O.Out.seen c.put_all.new.out)) c.from_residual-in_err-put_all.ensures.1 (undecided, subst (λ (bs : List ℕ). CutShort (g.O.Out.seen c.args.writer.now) bs (g.O.Out.seen c.put_all.new.out)) said c.in_err-put_all.ensures)

pub returns : goal.returns
returns g c =
    let offered = offered_by c.args.self.now in
    let line = c.args.line.now in
    let same : trim_end line ≡ c.trim_end-text.result.now = ap trim_end (sym c.in-Ok.ensures.cases.0) ∙ sym c.trim_end-text.ensures.trim in
    let undecided : line_decides offered line ≡ Undecided = line_of_text offered line c.in-Ok.ensures.cases.1 ∙ ap (text_decides offered offered.default) same ∙ c.in_default-decide.ensures in
    let said : c.as_bytes.result.now ≡ complaint line = c.as_bytes.ensures.value ∙ c.in_ok-complaint.ensures.ok ∙ ap not_understood (sym same) in
    (undecided, c.in_ok-put_all.ensures ∙ ap (after (g.O.Out.seen c.args.writer.now)) said)
