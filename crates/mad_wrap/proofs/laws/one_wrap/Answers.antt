use Rattle.mad_wrap.proofs.LawLemmas.{one_wrap}
use Rattle.mad_wrap.proofs.UniqueLemmas.{one_first_fit}
use Rattle.mad_wrap.proofs.WordLaws.{one_word_wrap}
use Rattle.mad_wrap.proofs.laws.one_wrap.Goals as goal

pub returns-clause-wrap : goal.returns-clause-wrap
returns-clause-wrap c = one_wrap

pub returns-clause-words : goal.returns-clause-words
returns-clause-words c = one_word_wrap

pub returns-clause-first_fit : goal.returns-clause-first_fit
returns-clause-first_fit c = one_first_fit
