use Rattle.std.proofs.Common.{rules}
use Rattle.std.proofs.lemmas.Str.{IsCharBoundary-start}
use Rattle.mad_fitting.proofs.cutting.around.Goals as goal

pub sub-requires-clause-start : goal.sub-requires-clause-start
sub-requires-clause-start c = IsCharBoundary-start c.args.compound.src.now (search rules)
