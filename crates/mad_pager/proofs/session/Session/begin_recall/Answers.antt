use Rattle.std.proofs.Common.{ap, ◌∙◌}
use Rattle.mad_field.specs.Fields.{Field, new_field}
use Rattle.mad_pager.specs.Sessions.{State, state_of}
use Rattle.mad_pager.proofs.session.Session.begin_recall.Goals as goal

pub returns-clause-done : goal.returns-clause-done
returns-clause-done c = ap (λ (f : Field). let s : State = record (state_of c.args.self.now) { field = f; back = c.args.back } in s) (c.in_ok-field.ensures ∙ ap new_field c.field_row.ensures)
