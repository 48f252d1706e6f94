use Rattle.std.proofs.Common.{◌≡◌, length, map}
use Rattle.code_words.specs.Words.{file_names, file_of, word_among}
use Rattle.code_words.proofs.words.file_word.Given as goal

abbrev pub invariant-loop-rest : goal.invariant-loop-rest
invariant-loop-rest l = word_among (map file_of l.rest) l.name ≡ word_among file_names l.name

abbrev pub decreases-loop-rest : goal.decreases-loop-rest
decreases-loop-rest l = length l.rest
