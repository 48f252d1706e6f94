use Rattle.std.proofs.Common.{refl, subst}
use Rattle.mad_term.specs.Trace.{Trace, ahead_all}
use Rattle.termimad_page_run.specs.Runs.{IsBrokenRun, IsPagedTo}
use Rattle.termimad_page_run.specs.declared.program.Sheet.{Sheet}
use Rattle.termimad_page.proofs.KeysLemmas.{keys_seen}
use Rattle.termimad_page.proofs.running.page_text.Goals as goal

pub returns-in-Ok : goal.returns-in-Ok
returns-in-Ok g c =
    let sheet : Sheet = record { name = c.args.place.now.name; text = c.args.text; grammar = c.args.grammar; skin = c.args.skin; columns = c.args.place.now.columns; rows = c.args.place.now.rows; files = c.args.place.now.files; start = c.args.place.now.begins.row; target = c.args.place.now.begins.target } in
    let seen = keys_seen g.I.Source.seen _ _ _ _ _ c.begin_with.ensures.first c.as_bytes.ensures.value c.begin_with.ensures.input in
    (sheet, record { grammar_is = refl; skin_is = refl; name_is = refl; columns_are = refl; rows_are = refl; files_are = refl; start_is = refl; target_is = refl; text_is = refl }, c.run.new.input.first.now, subst (λ (t : Trace). IsPagedTo sheet c.in-Ok.left t (ahead_all c.run.new.input.first.now (g.I.Source.seen c.run.new.input.input)) (g.S.Out.seen c.args.screen.now) (g.S.Out.seen c.run.new.out)) seen c.in-Ok.ensures)

pub returns-in-Err : goal.returns-in-Err
returns-in-Err g c =
    let sheet : Sheet = record { name = c.args.place.now.name; text = c.args.text; grammar = c.args.grammar; skin = c.args.skin; columns = c.args.place.now.columns; rows = c.args.place.now.rows; files = c.args.place.now.files; start = c.args.place.now.begins.row; target = c.args.place.now.begins.target } in
    let seen = keys_seen g.I.Source.seen _ _ _ _ _ c.begin_with.ensures.first c.as_bytes.ensures.value c.begin_with.ensures.input in
    (sheet, record { grammar_is = refl; skin_is = refl; name_is = refl; columns_are = refl; rows_are = refl; files_are = refl; start_is = refl; target_is = refl; text_is = refl }, c.run.new.input.first.now, (c.in-Err.e, c.refusal_of.ensures, subst (λ (t : Trace). IsBrokenRun sheet c.in-Err.e t (ahead_all c.run.new.input.first.now (g.I.Source.seen c.run.new.input.input)) (g.S.Out.seen c.args.screen.now) (g.S.Out.seen c.run.new.out)) seen c.in-Err.ensures))
