use Rattle.std.proofs.Common.{length, refl}
use Rattle.markdown_lines.specs.Said.{said}
use Rattle.markdown_lines.proofs.LineLemmas.{within_more}
use Rattle.markdown_lines.proofs.TableLemmas.{lines_kept}
use Rattle.markdown_lines.proofs.lines.Lines.push_piece.Goals as goal

pub invariant_of-self : goal.invariant_of-self
invariant_of-self c = record { within = within_more (length (said c.args.self.now.runs)) (length (said c.push.new.self)) c.args.self.now.lines.items c.push.ensures.grows c.args.self.now.within }

pub returns-clause-lines : goal.returns-clause-lines
returns-clause-lines c = lines_kept (said c.args.self.now.runs) _ (said c.push.new.self) c.args.self.now.lines.items c.args.self.now.lines.items c.args.self.now.within c.in_ok-push.ensures.value refl
