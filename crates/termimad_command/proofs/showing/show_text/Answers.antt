use Rattle.std.proofs.Common.{◌∙◌, sym, option_map}
use Rattle.termimad_options.specs.Calls.{reading_of}
use Rattle.termimad_command.proofs.ShowLemmas.{shown_as_it_comes, shown_whole}
use Rattle.termimad_command.proofs.showing.show_text.Goals as goal

pub returns-then-comes : goal.returns-then-comes
returns-then-comes g c =
    shown_as_it_comes (g.T.Texts.holds c.args.texts.now) c.args.look.now (option_map reading_of c.args.said) c.args.name.now _ _ c.stream_text.result
    (sym c.comes.ensures ∙ c.if-comes.true) c.stream_text.ensures

pub returns : goal.returns
returns g c =
    shown_whole (g.T.Texts.holds c.args.texts.now) c.args.look.now (option_map reading_of c.args.said) c.args.name.now _ _ c.show_whole.result
    (sym c.comes.ensures ∙ c.if-comes.false) c.show_whole.ensures
