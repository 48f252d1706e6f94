use Rattle.std.proofs.Common.{refl, subst}
use Rattle.mad_term.specs.Trace.{Trace, ahead_all}
use Rattle.termimad_page_run.specs.Comings.{arrival}
use Rattle.termimad_page_run.specs.Growing.{IsBrokenGrowing, IsPagedGrowing}
use Rattle.termimad_page_run.specs.declared.growing.Frame.{Frame}
use Rattle.termimad_page.proofs.KeysLemmas.{keys_seen}
use Rattle.termimad_page.proofs.running.page_coming.Goals as goal

pub returns-in-Ok : goal.returns-in-Ok
returns-in-Ok g c =
    let frame : Frame = record { name = c.args.place.now.name; grammar = c.args.grammar; skin = c.args.skin; columns = c.args.place.now.columns; rows = c.args.place.now.rows; start = c.args.place.now.begins.row; files = c.args.place.now.files } in
    let a = arrival (g.F.Source.seen c.args.coming.text) (g.F.Source.seen c.args.coming.mark) c.args.coming.ended c.args.coming.is_whole in
    let seen = keys_seen g.I.Source.seen _ _ _ _ _ c.begin_with.ensures.first c.as_bytes.ensures.value c.begin_with.ensures.input in
    (frame, record { grammar_is = refl; skin_is = refl; name_is = refl; columns_are = refl; rows_are = refl; files_are = refl; start_is = refl }, c.run_growing.new.input.first.now, subst (λ (t : Trace). IsPagedGrowing frame c.in-Ok.left a t (ahead_all c.run_growing.new.input.first.now (g.I.Source.seen c.run_growing.new.input.input)) (g.S.Out.seen c.args.screen.now) (g.S.Out.seen c.run_growing.new.out)) seen c.in-Ok.ensures)

pub returns : goal.returns
returns g c =
    let frame : Frame = record { name = c.args.place.now.name; grammar = c.args.grammar; skin = c.args.skin; columns = c.args.place.now.columns; rows = c.args.place.now.rows; start = c.args.place.now.begins.row; files = c.args.place.now.files } in
    let a = arrival (g.F.Source.seen c.args.coming.text) (g.F.Source.seen c.args.coming.mark) c.args.coming.ended c.args.coming.is_whole in
    let seen = keys_seen g.I.Source.seen _ _ _ _ _ c.begin_with.ensures.first c.as_bytes.ensures.value c.begin_with.ensures.input in
    (frame, record { grammar_is = refl; skin_is = refl; name_is = refl; columns_are = refl; rows_are = refl; files_are = refl; start_is = refl }, c.run_growing.new.input.first.now, (c.in-Err.e, c.refusal_of.ensures, subst (λ (t : Trace). IsBrokenGrowing frame c.in-Err.e a t (ahead_all c.run_growing.new.input.first.now (g.I.Source.seen c.run_growing.new.input.input)) (g.S.Out.seen c.args.screen.now) (g.S.Out.seen c.run_growing.new.out)) seen c.in-Err.ensures))
