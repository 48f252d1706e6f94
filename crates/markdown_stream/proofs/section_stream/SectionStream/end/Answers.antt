use Rattle.markdown_stream.proofs.ComeLemmas.{ends_text}
use Rattle.markdown_stream.proofs.section_stream.SectionStream.end.Goals as goal

pub returns : goal.returns
returns c = ends_text c.args.self.now c.end_line.new.self c.end_leaves.new.self c.in_ok-end_line.ensures.come c.in_ok-end_leaves.ensures
