use Rattle.std.proofs.Common.{ℕ, List, length, ap}
use Rattle.std.specs.Iterator.{YieldsFirst}
use Rattle.std.specs.Iterator.Runs.{YieldsInOrder}
use Rattle.std.proofs.iter.runs.Sources.{from_front, as_is}
use Rattle.mad_edit.proofs.content.showing.RefInputFieldContentIntoIterator.into_iter.Goals as goal

-- characters that are seen as the list of what is left come in that order
chars_run : YieldsInOrder (YieldsFirst {A = ℕ} (λ (rest : List ℕ). rest)) (λ rest. rest)
chars_run p s = as_is p p.from (from_front (YieldsFirst {A = ℕ} (λ (rest : List ℕ). rest)) (λ x. x) (λ rest. rest) (λ s t h. ap length h.0) (λ s x t h. h) p s)

pub returns : goal.returns
returns c = record { into_iter_gives = (c.chars.ensures, chars_run) }
