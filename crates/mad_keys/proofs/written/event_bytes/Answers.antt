use Rattle.std.proofs.Common.{◌≡◌, Some, None, arith}
use Rattle.std.specs.Prelude.{vec_items}
use Rattle.mad_keys.specs.PlainBytes.{plain_bytes}
use Rattle.mad_keys.proofs.PlainFoundLemmas.{plain_written}
use Rattle.mad_keys.proofs.written.event_bytes.Goals as goal

pub returns-in_ok-bytes_of-in-Some-clause-written : goal.returns-in_ok-bytes_of-in-Some-clause-written
returns-in_ok-bytes_of-in-Some-clause-written c =
    let is : Some (vec_items c.in_ok-bytes_of-in-Some.field-0) ≡ plain_bytes c.args.event.now = grind arith in
    plain_written c.args.event.now (Some (vec_items c.in_ok-bytes_of-in-Some.field-0)) is

pub returns-in-None-clause-written : goal.returns-in-None-clause-written
returns-in-None-clause-written c =
    let is : None ≡ plain_bytes c.args.event.now = grind arith in
    plain_written c.args.event.now None is
