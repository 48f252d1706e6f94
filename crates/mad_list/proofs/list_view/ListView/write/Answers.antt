use Rattle.mad_term.proofs.Traces.{took_flushed}
use Rattle.mad_list.specs.Lists.{ShowsListOf}
use Rattle.mad_list.proofs.WritingLemmas.{not_flushed}
use Rattle.mad_list.proofs.list_view.ListView.write.Goals as goal

pub returns-in_err-flush-clause-writes : goal.returns-in_err-flush-clause-writes
returns-in_err-flush-clause-writes g c =
    not_flushed g.E.CellExtract.extracts c.args.self.now c.from_residual-in_err-flush.result c.in_ok-write_on.field-0 _ _ _ _ c.in_ok-write_on.ensures.writes c.in_err-flush.ensures c.from_residual-in_err-flush.ensures.1

pub returns-clause-shown : goal.returns-clause-shown
returns-clause-shown g c =
    took_flushed (g.W.Out.seen c.args.out.now) (g.W.Out.seen c.write_on.new.out) (g.W.Out.seen c.flush.new.self) (ShowsListOf g.E.CellExtract.extracts c.args.self.now) c.in_ok-write_on.ensures.shown c.in_ok-flush.ensures
