use Rattle.std.proofs.Common.{subst, sym}
use Rattle.std.specs.Prelude.{MatchResult}
use Rattle.std.specs.Cow.{cow_str_bytes}
use Rattle.termimad_page_run.specs.declared.program.Grammar.{Grammar}
use Rattle.termimad_page.specs.Runs.{IsNoText, IsTextOf}
use Rattle.termimad_page.proofs.running.text_of.Goals as goal

pub returns-in-Lines : goal.returns-in-Lines
returns-in-Lines c =
    subst (λ (g : Grammar). MatchResult c.utf8_text.result (λ text. IsTextOf g c.args.bytes.now (cow_str_bytes text)) (IsNoText g c.args.bytes.now)) (sym c.in-Lines.is) c.utf8_text.ensures

pub returns-in-Markdown : goal.returns-in-Markdown
returns-in-Markdown c =
    subst (λ (g : Grammar). MatchResult c.utf8_text-in-Markdown.result (λ text. IsTextOf g c.args.bytes.now (cow_str_bytes text)) (IsNoText g c.args.bytes.now)) (sym c.in-Markdown.is) c.utf8_text-in-Markdown.ensures

pub returns-in-Plain : goal.returns-in-Plain
returns-in-Plain c =
    subst (λ (g : Grammar). MatchResult c.any_text.result (λ text. IsTextOf g c.args.bytes.now (cow_str_bytes text)) (IsNoText g c.args.bytes.now)) (sym c.in-Plain.is) c.any_text.ensures
