use Rattle.std.proofs.Common.{◌≡◌, ◌∷◌, ◌++◌, codes, drop, map, string_bytes}
use Rattle.termimad_command.proofs.words.words_of.Given as goal

abbrev pub invariant-loop-arg : goal.invariant-loop-arg
invariant-loop-arg l = map (λ word. word.now) l.words.items ++ map string_bytes (drop l.arg-index l.fn.args) ≡ codes "termimad" ∷ map string_bytes l.fn.args
