use Rattle.std.proofs.Common.{drop, map, option_map}
use Rattle.termimad_options.specs.Calls.{reading_of}
use Rattle.termimad_command.proofs.ShowLemmas.{AreToCome}
use Rattle.termimad_command.specs.Written.{streams}
use Rattle.termimad_command.proofs.showing.show_texts.Given as goal

-- what is done of the names that are left is done of all of them
abbrev pub invariant-loop-name : goal.invariant-loop-name
invariant-loop-name g l =
    AreToCome (g.T.Texts.holds l.texts) l.fn.look (option_map reading_of l.fn.said) (map (λ name. name.now) l.fn.names) (streams (g.I.Source.seen l.fn.input) (g.O.Out.seen l.fn.out))
    (map (λ name. name.now) (drop l.name-index l.fn.names)) (streams (g.I.Source.seen l.input) (g.O.Out.seen l.out))
