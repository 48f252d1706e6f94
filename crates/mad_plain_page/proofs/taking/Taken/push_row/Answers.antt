use Rattle.std.proofs.Common.{◌-◌, arith, refl}
use Rattle.mad_plain_page.specs.declared.taking.Taken.{Taken}
use Rattle.mad_plain_page.proofs.TakeLemmas.{row_put}
use Rattle.mad_plain_page.proofs.taking.Taken.push_row.Goals as goal

pub returns : goal.returns
returns c = λ more.
    let old = c.args.self.now in
    let new : Taken = record { rows = c.push.new.self; skip = old.skip; room = old.room - 1 } in
    row_put old new c.args.row more (omega (arith, c.if-self-gt0.false)) (omega (arith, c.if-self-eq0.false)) c.in_ok-push.ensures.items refl refl
